-- `list_members` meets its contract. The loop's invariant: the rows of the members passed are written, and nothing else.
use Rattle.srt_group_looks.specs.Laws.Members.{nothing_written}
use Rattle.srt_group_looks.proofs.members.list_members.Goals as goal

pub loop-index-init : goal.loop-index-init
loop-index-init c = nothing_written c.args.rows.now c.args.list.now
