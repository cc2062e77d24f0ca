-- The cell that a queued event names, as the pass of code 6 reads it out of the lent words.
use Rattle.std.specs.Prelude.{List, [], ◌∷◌, ℕ}
use Rattle.srt_group_model.specs.Tools.{if_true◌then◌else◌}
use Rattle.srt_group_model.specs.Cells.{is_data}
use Rattle.srt_group_model.specs.declared.Event.{Event}

-- the cell of an event: only data has one
unfoldable pub event_cells : Event → List ℕ
event_cells e = if_true is_data e then e.content.cell ∷ [] else []
