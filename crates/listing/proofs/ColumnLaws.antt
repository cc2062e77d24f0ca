-- Laws of reading a column, from the left: spaces are passed one by one, and a digit more makes the value ten times as
-- large.
use Prim.Native.Nat.{ℕ, suc, ◌+◌, ◌-◌, ◌*◌, ◌<◌, ◌≤◌, ◌^◌}
use native.Mathlib.Omega.{arith}
use native.Mathlib.Nat.{pow-suc, pow-le-pow_right, add-mul, mul_assoc, mul_comm, mul-le-mul_left, zero-mul}
use native.Mathlib.Numerals.{add-one}
use mathlib.Core.Bool.{Bool, true, false, cond}
use mathlib.Core.Path.{◌≡◌, refl, ap, sym, ◌∙◌}
use mathlib.Core.List.{List, [], ◌∷◌}
use Rattle.std.specs.Prelude.{not, nat_eq, nat_lt}
use Rattle.std.specs.List.{position, position_or_len}
use Rattle.std.specs.Option.{unwrap_or}
use Rattle.std.proofs.lemmas.List.Sums.{prefix_len-le-length}
use Rattle.listing.proofs.Cases.{by_cases}
use lib.Dec.{eqb}
use lib.ListN.{length, drop, get_or}
use lib.Seq.{drop-cons, drop-length}
use borrow.Author.Tests.{ltb-false, lt-ltb, le-ltb, le-leb, lt-leb, eq-eqb, ne_eqb}
use Rattle.listing.specs.Column.{after_spaces, all_digits, decimal_value, digits_read, number_in_64_bits, is_digit, LeadingSpaces}
use Rattle.std.specs.Prelude.{Option, Some, None}

-- the byte at a place, in front of those after it
pub drop_at_byte : (bytes : List ℕ) (at : ℕ) → at < length bytes → drop at bytes ≡ get_or bytes at 0 ∷ drop (at + 1) bytes
drop_at_byte bytes at h = rw add-one (drop-cons bytes at 0 h)

pub drop_at_end : (bytes : List ℕ) (at : ℕ) → at ≡ length bytes → drop at bytes ≡ []
drop_at_end bytes at e = rw e (drop-length bytes)

-- the first byte that is no space stands behind the leading spaces
pub spaces_before : (bytes : List ℕ) → LeadingSpaces bytes (position_or_len (λ byte. not (nat_eq byte 32)) bytes)
unfolding after_spaces
spaces_before [] = record { inside = omega arith; rest = refl }
spaces_before (byte ∷ bytes) = by_cases (eqb byte 32)
    (λ t.
    let more = spaces_before bytes in
    let one : 1 + position_or_len (λ b. not (nat_eq b 32)) bytes ≡ suc (position_or_len (λ b. not (nat_eq b 32)) bytes) = omega arith in
    record { inside = rw t (omega (arith, more.inside)); rest = rw (t, one) more.rest })
    (λ f. record { inside = rw f (omega arith); rest = rw f })

-- the place of the first byte that passes, or the end where none does
pub place_or_end : (p : ℕ → Bool) (bytes : List ℕ) → unwrap_or (position p bytes) (length bytes) ≡ position_or_len p bytes
place_or_end p bytes = by_cases (nat_lt (position_or_len p bytes) (length bytes))
    (λ t. rw t)
    (λ f. let past = ltb-false (position_or_len p bytes) (length bytes) f in let end = prefix_len-le-length (λ byte. not (p byte)) bytes in rw f (omega arith))

-- what bytes read as behind digits of a value
unfoldable pub digits_after : ℕ → List ℕ → Option ℕ
digits_after value bytes =
    cond (all_digits bytes) (number_in_64_bits (value * 10 ^ length bytes + decimal_value bytes)) None

pub digits_after_nothing : (byte : ℕ) (bytes : List ℕ) → digits_read (byte ∷ bytes) ≡ digits_after 0 (byte ∷ bytes)
unfolding digits_read digits_after
digits_after_nothing byte bytes =
    let e : 0 * 10 ^ suc (length bytes) + decimal_value (byte ∷ bytes) ≡ decimal_value (byte ∷ bytes) = omega (arith, zero-mul (10 ^ suc (length bytes))) in
    rw e

pub digits_after_last : (value : ℕ) → value < 2 ^ 64 → digits_after value [] ≡ Some value
unfolding digits_after all_digits decimal_value
digits_after_last value h =
    let e : value * 1 + 0 ≡ value = omega arith in
    rw (e, lt-ltb _ _ h)

pub value_of_digit_more : (value digit count rest : ℕ) → value * 10 ^ suc count + (digit * 10 ^ count + rest) ≡ (value * 10 + digit) * 10 ^ count + rest
value_of_digit_more value digit count rest =
    let p : value * 10 * 10 ^ count ≡ value * 10 ^ suc count = mul_assoc value 10 (10 ^ count) ∙ ap (λ (n : ℕ). value * n) (mul_comm 10 (10 ^ count) ∙ sym (pow-suc 10 count)) in
    omega (arith, p, add-mul (value * 10) digit (10 ^ count))

pub digits_after_digit : (value byte : ℕ) (bytes : List ℕ) → 48 ≤ byte → byte ≤ 57 → digits_after value (byte ∷ bytes) ≡ digits_after (value * 10 + (byte - 48)) bytes
unfolding digits_after all_digits decimal_value
digits_after_digit value byte bytes low high =
    rw (le-leb _ _ low, le-leb _ _ high, value_of_digit_more value (byte - 48) (length bytes) (decimal_value bytes))

pub digits_after_no_digit : (value byte : ℕ) (bytes : List ℕ) → is_digit byte ≡ false → digits_after value (byte ∷ bytes) ≡ None
unfolding digits_after all_digits
digits_after_no_digit value byte bytes h = rw h

malformed_either_way : (test : Bool) → cond {A = Option ℕ} test None None ≡ None
malformed_either_way true = refl
malformed_either_way false = refl

-- a value that is too large stays so, whatever follows
pub digits_after_too_large : (value : ℕ) (bytes : List ℕ) → 2 ^ 64 ≤ value → digits_after value bytes ≡ None
unfolding digits_after
digits_after_too_large value bytes h =
    let one : 1 ≤ 10 ^ length bytes = pow-le-pow_right {n = 10} (omega arith) {i = 0} {j = length bytes} (omega arith) in
    let large : value * 1 ≤ value * 10 ^ length bytes = mul-le-mul_left value one in
    let more : 2 ^ 64 ≤ value * 10 ^ length bytes + decimal_value bytes = omega arith in
    rw (le-ltb _ _ more) (malformed_either_way (all_digits bytes))

-- the same for the byte at a place of a list
module _ (bytes : List ℕ) (at : ℕ) (inside : at < length bytes) where
  pub digits_at_start : digits_after 0 (drop at bytes) ≡ digits_read (drop at bytes)
  digits_at_start = rw (drop_at_byte bytes at inside) (sym (digits_after_nothing (get_or bytes at 0) (drop (at + 1) bytes)))

  pub digits_at_digit :
      (value : ℕ) → 48 ≤ get_or bytes at 0 → get_or bytes at 0 ≤ 57
      → digits_after value (drop at bytes) ≡ digits_after (value * 10 + (get_or bytes at 0 - 48)) (drop (at + 1) bytes)
  digits_at_digit value low high =
      rw (drop_at_byte bytes at inside) (digits_after_digit value (get_or bytes at 0) (drop (at + 1) bytes) low high)

  pub digits_at_no_digit : (value : ℕ) → is_digit (get_or bytes at 0) ≡ false → digits_after value (drop at bytes) ≡ None
  digits_at_no_digit value h =
      rw (drop_at_byte bytes at inside) (digits_after_no_digit value (get_or bytes at 0) (drop (at + 1) bytes) h)

  pub digits_at_too_large :
      (value : ℕ) → 48 ≤ get_or bytes at 0 → get_or bytes at 0 ≤ 57 → 2 ^ 64 ≤ value * 10 + (get_or bytes at 0 - 48)
      → digits_after value (drop at bytes) ≡ None
  digits_at_too_large value low high h =
      digits_at_digit value low high ∙ digits_after_too_large (value * 10 + (get_or bytes at 0 - 48)) (drop (at + 1) bytes) h

pub digits_at_end : (bytes : List ℕ) (at value : ℕ) → at ≡ length bytes → value < 2 ^ 64 → digits_after value (drop at bytes) ≡ Some value
digits_at_end bytes at value e h = rw (drop_at_end bytes at e) (digits_after_last value h)

pub no_digits_at_end : (bytes : List ℕ) (at : ℕ) → at ≡ length bytes → digits_read (drop at bytes) ≡ None
unfolding digits_read
no_digits_at_end bytes at e = rw (drop_at_end bytes at e)

-- ---- laws of the definitions that no proof cites today

pub after_a_space : (bytes : List ℕ) (at : ℕ) → at < length bytes → get_or bytes at 0 ≡ 32 → after_spaces (drop at bytes) ≡ after_spaces (drop (at + 1) bytes)
unfolding after_spaces
after_a_space bytes at h e = rw (drop_at_byte bytes at h, eq-eqb _ _ e)

pub after_no_space : (bytes : List ℕ) (at : ℕ) → at < length bytes → (get_or bytes at 0 ≡ 32 → ⊥) → after_spaces (drop at bytes) ≡ drop at bytes
unfolding after_spaces
after_no_space bytes at h e = rw (drop_at_byte bytes at h, ne_eqb _ _ e)

pub after_all_spaces : (bytes : List ℕ) (at : ℕ) → at ≡ length bytes → after_spaces (drop at bytes) ≡ drop at bytes
unfolding after_spaces
after_all_spaces bytes at e = rw (drop_at_end bytes at e)

pub digits_after_below : (value byte : ℕ) (bytes : List ℕ) → byte < 48 → digits_after value (byte ∷ bytes) ≡ None
unfolding digits_after all_digits
digits_after_below value byte bytes h = rw (lt-leb _ _ h)

pub digits_after_above : (value byte : ℕ) (bytes : List ℕ) → 48 ≤ byte → 57 < byte → digits_after value (byte ∷ bytes) ≡ None
unfolding digits_after all_digits
digits_after_above value byte bytes low h = rw (le-leb _ _ low, lt-leb _ _ h)

-- the same for the byte at a place of a list
module _ (bytes : List ℕ) (at : ℕ) (inside : at < length bytes) where
  pub digits_at_below : (value : ℕ) → get_or bytes at 0 < 48 → digits_after value (drop at bytes) ≡ None
  digits_at_below value h = rw (drop_at_byte bytes at inside) (digits_after_below value (get_or bytes at 0) (drop (at + 1) bytes) h)

  pub digits_at_above :
      (value : ℕ) → 48 ≤ get_or bytes at 0 → 57 < get_or bytes at 0 → digits_after value (drop at bytes) ≡ None
  digits_at_above value low h =
      rw (drop_at_byte bytes at inside) (digits_after_above value (get_or bytes at 0) (drop (at + 1) bytes) low h)
