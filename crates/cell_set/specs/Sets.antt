-- A set of cells in set-size words, a bit to each, and what taking, freeing and searching do to it. `occurs` is the model's:
-- how often a cell is named.
use Rattle.std.specs.Prelude.{◌≡◌, true, false, List, ℕ, ◌-◌, ◌*◌, ◌^◌, ◌≤◌, ◌<◌, eqb, length, get_or, None, Option, Some}
use Rattle.srt_group_model.specs.Cells.{is_among, lowest_free}
use Rattle.srt_group_model.specs.Sound.{occurs}
use Rattle.cell_set.specs.Bits.{set_size, bit_at}

-- ---- definitions

-- the words show these cells: a bit is how often its cell is named, so none is named twice
pub record ShowsCells (words named : List ℕ) : Type 0 where
  pub long : length words ≡ set_size
  pub bits : (n : ℕ) → bit_at words n ≡ occurs n named

-- a cell is taken
pub record Taken (cell : ℕ) (before after : List ℕ) : Type 0 where
  pub long : length after ≡ set_size
  pub here : bit_at after cell ≡ 1
  pub others : (n : ℕ) → eqb cell n ≡ false → bit_at after n ≡ bit_at before n

-- these cells are free, whatever they were
pub record Freed (cells before after : List ℕ) : Type 0 where
  pub long : length after ≡ set_size
  pub gone : (n : ℕ) → is_among n cells ≡ true → bit_at after n ≡ 0
  pub others : (n : ℕ) → is_among n cells ≡ false → bit_at after n ≡ bit_at before n

-- the cell that is found lies in the store, and is free
abbrev pub CanTake : List ℕ → ℕ → Option ℕ → Type 0
CanTake words cells None = Unit {0}
CanTake words cells (Some c) = (c < cells) × (bit_at words c ≡ 0)

pub record LowestFree (words : List ℕ) (cells : ℕ) (r : Option ℕ) : Type 0 where
  pub free : CanTake words cells r
  pub is : (named : List ℕ) → ShowsCells words named → r ≡ lowest_free cells 0 named

-- ---- the search

-- the cells passed, word by word
abbrev pub Passed : List ℕ → ℕ → Type 0
Passed words at = (n : ℕ) → n < at * 64 → bit_at words n ≡ 1

-- the first word that is not full, or set-size
pub record FirstWord (words : List ℕ) (at : ℕ) : Type 0 where
  pub most : at ≤ set_size
  pub passed : Passed words at
  pub not_full : at < set_size → get_or words at 0 ≡ 2 ^ 64 - 1 → ⊥
