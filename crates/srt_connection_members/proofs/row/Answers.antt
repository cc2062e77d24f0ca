-- `row` meets its contract: the part of the table that is lent shows the member at the index (`lent_member`).
use Rattle.std.proofs.Common.{ap, ◌∙◌}
use Rattle.srt_connection_queue.specs.Rows.{member_of}
use Rattle.srt_connection_members.specs.Laws.Members.{lent_member}
use Rattle.srt_connection_members.proofs.row.Goals as goal

pub returns : goal.returns
returns c =
    let lent = rw c.unwrap.ensures at c.as_array.ensures.cases in
    ap member_of lent.same ∙ lent_member c.args.members.now c.args.index
