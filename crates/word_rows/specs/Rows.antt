-- Rows of words in one list, `width` words to a row: which words a row is, what it is where a row was lent and came back, and
-- what moving the rows behind a place does.
use Rattle.std.specs.Prelude.{◌≡◌, List, ℕ, ◌+◌, ◌*◌, ◌≤◌, ◌<◌, length, take, drop, get_or}

-- the words of row i
unfoldable pub row_at : (width : ℕ) → List ℕ → ℕ → List ℕ
row_at width words i = take width (drop (i * width) words)

-- ---- rows moved by one place

-- the words after `from + width`, up to `end`, stand `width` before
pub record Closed (width : ℕ) (words : List ℕ) (from end : ℕ) (after : List ℕ) : Type 0 where
  pub long : length after ≡ length words
  pub low : (k : ℕ) → k < from → get_or after k 0 ≡ get_or words k 0
  pub high : (k : ℕ) → from ≤ k → k + width < end → get_or after k 0 ≡ get_or words (k + width) 0
