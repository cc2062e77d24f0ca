-- Code 6 whole: the rules outside the cells, and then the pass over the cells.
use Rattle.std.specs.Prelude.{◌≡◌, Bool, false, List, ℕ}
use Rattle.srt_group_model.specs.State.{State}
use Rattle.srt_group_model.specs.Validity.{is_invalid}
use Rattle.cell_set.specs.Shows.{Shows}

-- the answer is document 01's; where it is no, the words show which cells are in use
pub record Tested (cells : ℕ) (s : State) (r : Bool) (used : List ℕ) : Type 0 where
  pub is : r ≡ is_invalid cells s
  pub shows : r ≡ false → Shows used s
