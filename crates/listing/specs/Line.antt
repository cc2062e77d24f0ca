-- What a line of a listing is and reads as (document 01, "The replay listing": so many decimal numbers a line, each in
-- its columns): exactly its columns' bytes, and each column a number; else it is malformed as a whole. Which of its
-- numbers are used is for the caller. The count of columns and their width are parameters.
use Rattle.std.specs.Prelude.{ℕ, zero, suc, ◌*◌, Bool, true, false, cond, ◌&&◌, ◌≡◌, List, [], ◌∷◌, leb, eqb, length, take, drop, replicate, Option, Some, None, Result, Ok, Err}
use Rattle.listing.specs.Column.{column}
use Rattle.listing.specs.declared.MalformedLine.{MalformedLine}

-- the columns that bytes begin with: cut at each width
unfoldable pub cut : ℕ → ℕ → List ℕ → List (List ℕ)
cut zero width bytes = []
cut (suc count) width bytes = take width bytes ∷ cut count width (drop width bytes)

abbrev pub is_number : Option ℕ → Bool
is_number (Some value) = true
is_number None = false

-- the number that a column reads as, 0 where it is malformed
abbrev pub value_of : Option ℕ → ℕ
value_of (Some value) = value
value_of None = 0

-- every column reads as a number
unfoldable pub all_numbers : List (List ℕ) → Bool
all_numbers [] = true
all_numbers (bytes ∷ columns) = is_number (column bytes) && all_numbers columns

-- the numbers that columns read as
unfoldable pub values : List (List ℕ) → List ℕ
values [] = []
values (bytes ∷ columns) = value_of (column bytes) ∷ values columns

-- bytes that begin with so many columns of numbers, whatever follows
unfoldable pub begins_with_columns : ℕ → ℕ → List ℕ → Bool
begins_with_columns count width bytes = leb (count * width) (length bytes) && all_numbers (cut count width bytes)

-- a line that is exactly so many columns of numbers
unfoldable pub well_formed : ℕ → ℕ → List ℕ → Bool
well_formed count width bytes = eqb (length bytes) (count * width) && all_numbers (cut count width bytes)

-- the numbers of a line; a malformed line counts as zeros
unfoldable pub line_numbers : ℕ → ℕ → List ℕ → List ℕ
line_numbers count width bytes =
    cond (well_formed count width bytes) (values (cut count width bytes)) (replicate count 0)

abbrev pub line_answer : Bool → Result (Unit {0}) MalformedLine
line_answer well = cond well (Ok tt) (Err (record {}))

-- what reading a line has to do: say its form, and put its numbers
pub record LineRead (width : ℕ) (bytes numbers after : List ℕ) (answer : Result (Unit {0}) MalformedLine) : Type 0 where
  pub form : answer ≡ line_answer (well_formed (length numbers) width bytes)
  pub put : after ≡ line_numbers (length numbers) width bytes

-- what reading the columns that bytes begin with has to do: say where they end, and put their numbers
pub record ColumnsRead (width : ℕ) (bytes numbers after : List ℕ) (answer : Option ℕ) : Type 0 where
  pub end :
      answer ≡ cond (begins_with_columns (length numbers) width bytes) (Some (length numbers * width)) None
  pub put :
      begins_with_columns (length numbers) width bytes ≡ true → after ≡ values (cut (length numbers) width bytes)
