-- A bit of a word and of a list of words of 64 bits.
use Rattle.std.specs.Prelude.{List, ℕ, ◌/◌, ◌%◌, ◌^◌, get_or}
use Rattle.srt_protocol.specs.Cells.{max_cells}

-- ---- definitions

-- the words of a set: 64 cells in each
abbrev pub set_size : ℕ
set_size = max_cells / 64

-- bit i of a word: 0 or 1
unfoldable pub bit : (i word : ℕ) → ℕ
bit i word = word / 2 ^ i % 2

-- bit n of words of 64 bits; beyond the last word it is 0
unfoldable pub bit_at : List ℕ → ℕ → ℕ
bit_at words n = bit (n % 64) (get_or words (n / 64) 0)
