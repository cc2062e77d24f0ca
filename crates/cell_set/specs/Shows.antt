-- The words show which cells a state uses; and which cells a step frees.
use Rattle.std.specs.Prelude.{List, [], ◌∷◌, ℕ}
use Rattle.srt_group_model.specs.Tools.{if_true◌then◌else◌}
use Rattle.srt_group_model.specs.State.{Receive, State}
use Rattle.srt_group_model.specs.Cells.{used_cells}
use Rattle.srt_group_model.specs.Collecting.{is_discarded}
use Rattle.srt_group_model.specs.declared.Packet.{Packet}
use Rattle.cell_set.specs.Sets.{ShowsCells}

-- bit n is how often cell n is named by queued data, held packets and history entries: once, or not at all
pub record Shows (words : List ℕ) (s : State) : Type 0 where
  pub cells : ShowsCells words (used_cells s)

-- ---- a step of the model and a step of the words

-- the cell that a collected packet frees: its own if it is discarded, else none
unfoldable pub freed_by : Packet → Receive → List ℕ
freed_by p x = if_true is_discarded p x then p.content.cell ∷ [] else []
