-- `with_row` meets its contract: the part between two others of the table is its row, and comes back in its place.
use Rattle.std.proofs.Common.{refl, ◌∙◌}
use Rattle.srt_connection_queue.specs.Rows.{row_size}
use Rattle.srt_connection_queue.specs.Laws.Row.{put_between}
use Rattle.srt_connection_members.specs.Laws.Members.{part_lent}
use Rattle.srt_connection_members.proofs.with_row.Goals as goal

pub returns : goal.returns
returns g c =
    let whole = rw c.unwrap.ensures at c.as_mut_array.ensures.cases in
    let rest = c.split_at_mut-rest.ensures in
    let row = c.split_at_mut-row.ensures in
    let i = c.args.index in
    record {
      left = c.call.new.arg2;
      called = record { shown = _; shows = part_lent i c.args.members.now _ _ rest.back (whole.same ∙ row.front); left = _; met = c.call.ensures; leaves = refl };
      back = put_between row_size c.args.members.now i _ _ _ _ rest.front rest.back row.back;
    }
