-- The pass of code 6 marks each named cell in the words, and so leaves the words that the forms for a valid state are given.
use Rattle.std.specs.Prelude.{◌≡◌, Bool, true, false, List, ℕ, ◌+◌, ◌≤◌, length}
use Rattle.srt_group_model.specs.Sound.{occurs, room}
use Rattle.srt_protocol.specs.Cells.{max_cells}
use Rattle.cell_set.specs.Bits.{set_size, bit_at}

-- the words of a store of so many cells under way: `room` is 1 for each of its cells, and 0 beyond
pub record Marking (cells : ℕ) (words : List ℕ) : Type 0 where
  pub store : cells ≤ max_cells
  pub long : length words ≡ set_size
  pub within : (n : ℕ) → bit_at words n ≤ room cells n

-- these cells are named, over those named before: each lies in the store and is named once, and then each has its bit
pub record Marks (cells : ℕ) (named before : List ℕ) (r : Bool) (after : List ℕ) : Type 0 where
  pub marked : r ≡ true → (n : ℕ) → bit_at after n ≡ bit_at before n + occurs n named
  pub kept : r ≡ true → Marking cells after
  pub broken : r ≡ false → ((n : ℕ) → bit_at before n + occurs n named ≤ room cells n) → ⊥
