-- What a column of a listing is and reads as (document 01, "The replay listing": numbers, each right-justified in its
-- columns): spaces, then one or more decimal digits to the right edge. Its value is the decimal value of the digits.
-- Anything else is malformed, and so is a value of 2^64 or more. The width is the number of bytes.
use Rattle.std.specs.Prelude.{ℕ, ◌+◌, ◌-◌, ◌*◌, ◌^◌, ◌≤◌, ◌≡◌, Bool, true, cond, ◌&&◌, List, [], ◌∷◌, ltb, leb, eqb, length, drop, Option, Some, None}

-- a space is byte 32
abbrev pub is_space : ℕ → Bool
is_space byte = eqb byte 32

-- a decimal digit is a byte from 48, which is 0, to 57, which is 9
abbrev pub is_digit : ℕ → Bool
is_digit byte = leb 48 byte && leb byte 57

-- the bytes without their leading spaces
unfoldable pub after_spaces : List ℕ → List ℕ
after_spaces [] = []
after_spaces (byte ∷ bytes) = cond (is_space byte) (after_spaces bytes) (byte ∷ bytes)

-- every byte is a decimal digit
unfoldable pub all_digits : List ℕ → Bool
all_digits [] = true
all_digits (byte ∷ bytes) = is_digit byte && all_digits bytes

-- the decimal value of digits: the digit with n digits to its right counts 10^n times
unfoldable pub decimal_value : List ℕ → ℕ
decimal_value [] = 0
decimal_value (byte ∷ bytes) = (byte - 48) * 10 ^ length bytes + decimal_value bytes

-- a number, where it fits 64 bits
abbrev pub number_in_64_bits : ℕ → Option ℕ
number_in_64_bits value = cond (ltb value (2 ^ 64)) (Some value) None

-- what one or more digits read as
unfoldable pub digits_read : List ℕ → Option ℕ
digits_read [] = None
digits_read (byte ∷ bytes) =
    cond (all_digits (byte ∷ bytes)) (number_in_64_bits (decimal_value (byte ∷ bytes))) None

-- what a column reads as
unfoldable pub column : List ℕ → Option ℕ
column bytes = digits_read (after_spaces bytes)

-- bytes begin with so many spaces: what follows begins with none
pub record LeadingSpaces (bytes : List ℕ) (count : ℕ) : Type 0 where
  pub inside : count ≤ length bytes
  pub rest : drop count bytes ≡ after_spaces bytes
