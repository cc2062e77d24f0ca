-- `clear_at` meets its contract: the row that is lent and comes back is changed, and no other (`changed_lent`).
use Rattle.std.proofs.Common.{rules}
use Rattle.srt_connection_queue.specs.Queue.{cleared}
use Rattle.srt_connection_members.specs.Laws.Members.{changed_lent}
use Rattle.srt_connection_members.proofs.clear_at.Goals as goal

pub returns : goal.returns
returns c = changed_lent c.args.index c.args.members.now _ c.requires c.with_row.ensures cleared (λ row left called. search rules)
