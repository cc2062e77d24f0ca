-- THE ROUND TRIP: reading what was written gives the number back, and writing what was read from a column without
-- leading zeros gives the bytes back. Both for every width.
use Prim.Native.Nat.{ℕ, zero, suc, ◌+◌, ◌-◌, ◌*◌, ◌/◌, ◌%◌, ◌<◌, ◌≤◌, ◌^◌}
use native.Mathlib.Omega.{arith}
use native.Mathlib.Nat.{pow-suc, add-mul, mul_assoc}
use mathlib.Core.Bool.{true}
use mathlib.Core.Path.{◌≡◌, refl, ap, sym, ◌∙◌}
use mathlib.Core.List.{List, [], ◌∷◌, ◌++◌}
use lib.Dec.{ltb, leb, eqb}
use lib.ListN.{length, replicate, length-append}
use lib.Seq.{append_snoc}
use borrow.Author.Tests.{lt-ltb, le-leb, ne_eqb, ltb-true, ltb-false, leb-true, eqb-true, eqb-false}
use Rattle.listing.proofs.Cases.{by_cases}
use Rattle.listing.proofs.ColumnLaws.{value_of_digit_more}
use Rattle.listing.proofs.TextLaws.{digits_of_one, digits_of_more, digits_some}
use Rattle.std.proofs.lemmas.List.{append-nil}
use Rattle.std.proofs.lemmas.Bool.{and_parts}
use Rattle.listing.specs.Column.{is_digit, after_spaces, all_digits, decimal_value, digits_read, number_in_64_bits, column}
use Rattle.listing.specs.Text.{digits, right_justified}
use Rattle.std.specs.Prelude.{Some, None}

-- a digit behind digits
all_digits_snoc : (bytes : List ℕ) (digit : ℕ) → digit < 10 → all_digits bytes ≡ true → all_digits (bytes ++ ((digit + 48) ∷ [])) ≡ true
unfolding all_digits
all_digits_snoc [] digit h e =
    let low : 48 ≤ digit + 48 = omega arith in
    let high : digit + 48 ≤ 57 = omega arith in
    rw (le-leb _ _ low, le-leb _ _ high)
all_digits_snoc (byte ∷ bytes) digit h e =
    let parts = and_parts (is_digit byte) (all_digits bytes) e in
    rw (parts.0, all_digits_snoc bytes digit h parts.1)

decimal_value_snoc : (bytes : List ℕ) (digit : ℕ) → decimal_value (bytes ++ ((digit + 48) ∷ [])) ≡ decimal_value bytes * 10 + digit
unfolding decimal_value
decimal_value_snoc [] digit = omega arith
decimal_value_snoc (byte ∷ bytes) digit =
    let long : length (bytes ++ ((digit + 48) ∷ [])) ≡ suc (length bytes) = length-append bytes ((digit + 48) ∷ []) ∙ omega arith in
    let head : (byte - 48) * 10 ^ suc (length bytes) ≡ (byte - 48) * 10 ^ length bytes * 10 =
    ap (λ (n : ℕ). (byte - 48) * n) (pow-suc 10 (length bytes)) ∙ sym (mul_assoc (byte - 48) (10 ^ length bytes) 10) in
    rw (long, decimal_value_snoc bytes digit, head) (omega (arith, add-mul ((byte - 48) * 10 ^ length bytes) (decimal_value bytes) 10))

-- a number's digits, with as many steps as it has digits or more
digits_facts : (most number : ℕ) → number < most → (all_digits (digits number) ≡ true) × (decimal_value (digits number) ≡ number)
unfolding all_digits decimal_value
digits_facts zero number h = absurd (omega arith)
digits_facts (suc most) number h = by_cases (ltb number 10)
    (λ t.
    let small = ltb-true number 10 t in
    let one = digits_of_one number small in
    (rw one (all_digits_snoc [] number small all_digits_none), rw one (decimal_value_snoc [] number ∙ no_value_before number)))
    (λ f.
    let large = ltb-false number 10 f in
    let rest = digits_facts most (number / 10) (omega arith) in
    let last = digits_of_more number large in (
      rw last (all_digits_snoc (digits (number / 10)) (number % 10) (omega arith) rest.0),
      rw (last, decimal_value_snoc (digits (number / 10)) (number % 10), rest.1) (omega arith),
    ))
  where
    all_digits_none : all_digits [] ≡ true
    all_digits_none = refl

    no_value_before : (number : ℕ) → decimal_value [] * 10 + number ≡ number
    no_value_before number = omega arith

-- spaces before what begins with a digit
after_spaces_digits : (count : ℕ) (bytes : List ℕ) → all_digits bytes ≡ true → 0 < length bytes → after_spaces (replicate count 32 ++ bytes) ≡ bytes
unfolding after_spaces all_digits
after_spaces_digits zero [] e h = absurd (omega arith)
after_spaces_digits zero (byte ∷ bytes) e h =
    let parts = and_parts (is_digit byte) (all_digits bytes) e in
    let low = leb-true 48 byte (and_parts (leb 48 byte) (leb byte 57) parts.0).0 in
    let other : byte ≡ 32 → ⊥ = λ s. omega arith in
    rw (ne_eqb byte 32 other)
after_spaces_digits (suc count) bytes e h = after_spaces_digits count bytes e h

digits_read_some : (bytes : List ℕ) → all_digits bytes ≡ true → 0 < length bytes → digits_read bytes ≡ number_in_64_bits (decimal_value bytes)
unfolding digits_read
digits_read_some [] e h = absurd (omega arith)
digits_read_some (byte ∷ bytes) e h = rw e

-- reading what was written gives the number back
pub column_of_number : (width number : ℕ) → number < 2 ^ 64 → column (right_justified width number) ≡ Some number
unfolding column right_justified
column_of_number width number h =
    let facts = digits_facts (suc number) number (omega arith) in
    let some = digits_some number in
    rw (after_spaces_digits (width - length (digits number)) (digits number) facts.0 some, digits_read_some (digits number) facts.0 some, facts.1, lt-ltb _ _ h)

-- digits behind a number that is not 0 are its digits, and they
digits_behind : (number : ℕ) (bytes : List ℕ) → 0 < number → all_digits bytes ≡ true → digits (number * 10 ^ length bytes + decimal_value bytes) ≡ digits number ++ bytes
unfolding decimal_value all_digits
digits_behind number [] h e =
    let same : number * 1 + 0 ≡ number = omega arith in
    rw same (sym (append-nil (digits number)))
digits_behind number (byte ∷ bytes) h e =
    let parts = and_parts (is_digit byte) (all_digits bytes) e in
    let digit = and_parts (leb 48 byte) (leb byte 57) parts.0 in
    let low = leb-true 48 byte digit.0 in
    let high = leb-true byte 57 digit.1 in
    let more = number * 10 + (byte - 48) in
    let tenth : more / 10 ≡ number = omega arith in
    let last : more % 10 + 48 ≡ byte = omega arith in
    let longer : digits more ≡ digits number ++ (byte ∷ []) = rw (digits_of_more more (omega arith), tenth, last) in
    rw (value_of_digit_more number (byte - 48) (length bytes) (decimal_value bytes), digits_behind more bytes (omega arith) parts.1, longer)
    (append_snoc (digits number) byte bytes)

-- digits that do not begin with 0, or are one digit, are the digits of their value
digits_of_value : (byte : ℕ) (bytes : List ℕ) → all_digits (byte ∷ bytes) ≡ true → (byte ≡ 48 → bytes ≡ []) → digits (decimal_value (byte ∷ bytes)) ≡ byte ∷ bytes
unfolding all_digits decimal_value
digits_of_value byte bytes e no_zeros =
    let parts = and_parts (is_digit byte) (all_digits bytes) e in
    let digit = and_parts (leb 48 byte) (leb byte 57) parts.0 in
    let low = leb-true 48 byte digit.0 in
    let high = leb-true byte 57 digit.1 in
    let back : byte - 48 + 48 ≡ byte = omega arith in
    by_cases (eqb byte 48)
    (λ t.
    let none = no_zeros (eqb-true byte 48 t) in
    let value : (byte - 48) * 1 + 0 ≡ byte - 48 = omega arith in
    rw (none, value, digits_of_one (byte - 48) (omega arith), back))
    (λ f.
    let some : byte ≡ 48 → ⊥ = eqb-false byte 48 f in
    digits_behind (byte - 48) bytes (omega arith) parts.1
    ∙ rw (digits_of_one (byte - 48) (omega arith), back))

shorter : (bytes : List ℕ) → length (after_spaces bytes) ≤ length bytes
unfolding after_spaces
shorter [] = omega arith
shorter (byte ∷ bytes) = by_cases (eqb byte 32)
    (λ t. rw t (omega (arith, shorter bytes)))
    (λ f. rw f (omega arith))

-- bytes are their leading spaces and the rest
spaces_and_rest : (bytes : List ℕ) → replicate (length bytes - length (after_spaces bytes)) 32 ++ after_spaces bytes ≡ bytes
unfolding after_spaces
spaces_and_rest [] = refl
spaces_and_rest (byte ∷ bytes) = by_cases (eqb byte 32)
    (λ t.
    let one : suc (length bytes) - length (after_spaces bytes) ≡ suc (length bytes - length (after_spaces bytes)) = omega (arith, shorter bytes) in
    rw (t, one, spaces_and_rest bytes, eqb-true byte 32 t))
    (λ f.
    let none : suc (length bytes) - suc (length bytes) ≡ 0 = omega arith in
    rw (f, none))

-- a column has no leading zeros: it does not go on behind a first digit 0
unfoldable pub NoLeadingZeros : List ℕ → Type 0
NoLeadingZeros [] = Unit {0}
NoLeadingZeros (byte ∷ bytes) = byte ≡ 48 → bytes ≡ []

read_back : (bytes : List ℕ) (number : ℕ) → digits_read bytes ≡ Some number → NoLeadingZeros bytes → digits number ≡ bytes
unfolding digits_read NoLeadingZeros
read_back [] number e z = let zero_one : ◌≡◌ {A = ℕ} 0 1 = cc in absurd (omega arith)
read_back (byte ∷ bytes) number e z = by_cases (all_digits (byte ∷ bytes))
    (λ t. by_cases (ltb (decimal_value (byte ∷ bytes)) (2 ^ 64))
    (λ fits.
    let there : Some (decimal_value (byte ∷ bytes)) ≡ Some number = rw (t, fits) at e in
    let value : decimal_value (byte ∷ bytes) ≡ number = cc in
    ap digits (sym value) ∙ digits_of_value byte bytes t z)
    (λ large.
    let never : None ≡ Some number = rw (t, large) at e in
    let zero_one : ◌≡◌ {A = ℕ} 0 1 = cc in
    absurd (omega arith)))
    (λ f.
    let never : None ≡ Some number = rw f at e in
    let zero_one : ◌≡◌ {A = ℕ} 0 1 = cc in
    absurd (omega arith))

-- writing what was read from a column without leading zeros gives the bytes back
pub number_of_column : (bytes : List ℕ) (number : ℕ) → column bytes ≡ Some number → NoLeadingZeros (after_spaces bytes) → right_justified (length bytes) number ≡ bytes
unfolding column right_justified
number_of_column bytes number e no_zeros =
    let same : digits number ≡ after_spaces bytes = read_back (after_spaces bytes) number e no_zeros in
    rw same (spaces_and_rest bytes)
