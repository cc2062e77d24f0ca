-- The set of used cells follows what becomes of the history, whatever else names cells.
use Rattle.std.specs.Prelude.{◌≡◌, List, ◌++◌, ℕ, ◌-◌, length, drop}
use Rattle.srt_group_model.specs.declared.Entry.{Entry}
use Rattle.srt_group_model.specs.Sound.{history_cells}
use Rattle.srt_group_tables.specs.declared.history.HistoryRing.{HistoryRing}
use Rattle.srt_group_tables.specs.Ring.{Arrays, entries_of}
use Rattle.cell_set.specs.Bits.{set_size, bit_at}
use Rattle.cell_set.specs.Sets.{ShowsCells}

-- entries leave: if the words showed the cells in use before, they show them after, and a cell that was free stays free
pub record TrimFollows (before : List Entry) (used : List ℕ) (after : List Entry) (used' : List ℕ) : Type 0 where
  pub long : length used' ≡ set_size
  pub free : (n : ℕ) → bit_at used n ≡ 0 → bit_at used' n ≡ 0
  pub shows : (named : List ℕ) → ShowsCells used (named ++ history_cells before) → ShowsCells used' (named ++ history_cells after)

-- an entry may join as well, in a cell that was free
pub record SendFollows (cell : ℕ) (before : List Entry) (used : List ℕ) (after : List Entry) (used' : List ℕ) : Type 0 where
  pub long : length used' ≡ set_size
  pub shows : (named : List ℕ) → bit_at used cell ≡ 0 → ShowsCells used (named ++ history_cells before)
      → ShowsCells used' (named ++ history_cells after)

-- the oldest entries of a ring leave until so many are left, over arrays with these words and any source times
pub record FrontFreed (r : HistoryRing) (left : ℕ) (history used used' : List ℕ) : Type 0 where
  pub long : length used' ≡ set_size
  pub follows : (a : Arrays) → a.history ≡ history → TrimFollows (entries_of r a) used (drop (r.length - left) (entries_of r a)) used'
