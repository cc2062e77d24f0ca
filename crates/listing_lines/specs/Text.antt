-- The text of an output listing (document 01, "The replay listing": six columns of 11, no header): its lines one after the other.
use Rattle.std.specs.Prelude.{ℕ, ◌≤◌, ◌≡◌, List, [], ◌∷◌, ◌++◌, length, take}
use Rattle.listing.specs.Placed.{Placed}
use Rattle.listing.specs.Text.{line_text}

-- the text of lines of numbers, each with its line feed
unfoldable pub texts : List (List ℕ) → List ℕ
texts [] = []
texts (line ∷ lines) = line_text 11 line ++ texts lines

-- a row is written at the start, in at most 121 bytes
pub record LineWritten (row out after : List ℕ) (end : ℕ) : Type 0 where
  pub most : end ≤ 121
  pub text : Placed out (line_text 11 row) after end

-- rows are written from the start on
pub record LinesWritten (rows : List (List ℕ)) (after : List ℕ) (end : ℕ) : Type 0 where
  pub inside : end ≤ length after
  pub text : take end after ≡ texts rows
