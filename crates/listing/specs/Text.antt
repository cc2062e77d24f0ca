-- What a number is written as (document 01, "The replay listing": right-justified in its columns): its decimal digits,
-- with spaces before them up to the width. A number that needs more digits than the width widens its column.
use Rattle.std.specs.Prelude.{ℕ, zero, suc, ◌+◌, ◌-◌, ◌/◌, ◌%◌, cond, List, [], ◌∷◌, ◌++◌, ltb, length, replicate}

-- the decimal digits of a number that has at most `most` of them
unfoldable pub digits_within : ℕ → ℕ → List ℕ
digits_within zero number = []
digits_within (suc most) number =
    cond (ltb number 10) ((number + 48) ∷ []) (digits_within most (number / 10) ++ ((number % 10 + 48) ∷ []))

-- the decimal digits of a number, which has no more of them than one above its value
unfoldable pub digits : ℕ → List ℕ
digits number = digits_within (suc number) number

-- a number right-justified in a column of a width
unfoldable pub right_justified : ℕ → ℕ → List ℕ
right_justified width number = replicate (width - length (digits number)) 32 ++ digits number

-- numbers in columns of a width, side by side
unfoldable pub columns_text : ℕ → List ℕ → List ℕ
columns_text width [] = []
columns_text width (number ∷ numbers) = right_justified width number ++ columns_text width numbers

-- a line of numbers, with its line feed
unfoldable pub line_text : ℕ → List ℕ → List ℕ
line_text width numbers = columns_text width numbers ++ (10 ∷ [])
