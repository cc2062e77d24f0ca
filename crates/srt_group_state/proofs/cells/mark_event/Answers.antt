-- `mark_event` meets its contract: an event that is not data is written out, so that a cell marked for it is refused by the answer that
-- differs, not by a search that ends.
use Rattle.srt_group_state.specs.Laws.Cells.{no_data_passed}
use Rattle.srt_group_state.proofs.cells.mark_event.Goals as goal

pub returns-then-not-is_data : goal.returns-then-not-is_data
returns-then-not-is_data c = no_data_passed _ _ c.args.event c.requires c.is_data.ensures c.if-not-is_data.true
