-- Laws of a number's text: its digits by its last one, how many they are, and how wide its column is.
use Prim.Native.Nat.{ℕ, zero, suc, ◌+◌, ◌-◌, ◌*◌, ◌/◌, ◌%◌, ◌<◌, ◌≤◌, ◌^◌}
use native.Mathlib.Omega.{arith}
use native.Mathlib.Nat.{pow-suc, suc-mul}
use native.Mathlib.Numerals.{add-one}
use mathlib.Core.Bool.{Bool, true, false, cond}
use mathlib.Core.Path.{◌≡◌, refl, ap, sym, ◌∙◌}
use mathlib.Core.List.{List, [], ◌∷◌, ◌++◌, append_assoc}
use lib.Dec.{ltb, eqb}
use lib.ListN.{length, take, drop, get_or, replicate, length-append, length-replicate, replicate-append-replicate, take-append-drop}
use lib.Seq.{take-suc}
use borrow.Author.Tests.{lt-ltb, le-ltb, ltb-true, ltb-false, ne_eqb, eqb-true, eqb-false}
use Rattle.std.specs.Prelude.{Option, Some, None, IfNone, IfSome}
use Rattle.std.specs.Option.{MatchOption}
use Rattle.listing.proofs.Cases.{by_cases, cond_equal}
use Rattle.listing.proofs.ColumnLaws.{drop_at_byte, drop_at_end}
use Rattle.std.proofs.lemmas.List.{append-nil}
use Rattle.listing.proofs.PlacedLaws.{placed_over}
use Rattle.listing.specs.Placed.{placed}
use Rattle.listing.specs.Text.{digits_within, digits, right_justified, columns_text, line_text}

-- more room than a number needs does not change its digits
digits_within_more :
    (most more number : ℕ) → number < most → number < more → digits_within most number ≡ digits_within more number
unfolding digits_within
digits_within_more zero more number h g = absurd (omega arith)
digits_within_more (suc most) zero number h g = absurd (omega arith)
digits_within_more (suc most) (suc more) number h g =
    cond_equal (ltb number 10) (λ small. refl)
    (λ large.
    let ten = ltb-false number 10 large in
    rw (digits_within_more most more (number / 10) (omega arith) (omega arith)))

pub digits_of_one : (number : ℕ) → number < 10 → digits number ≡ (number + 48) ∷ []
unfolding digits digits_within
digits_of_one number h = rw (lt-ltb _ _ h)

pub digits_of_more : (number : ℕ) → 10 ≤ number → digits number ≡ digits (number / 10) ++ ((number % 10 + 48) ∷ [])
unfolding digits digits_within
digits_of_more number h =
    rw (le-ltb _ _ h, digits_within_more number (suc (number / 10)) (number / 10) (omega arith) (omega arith))

pub length_digits_of_more : (number : ℕ) → 10 ≤ number → length (digits number) ≡ length (digits (number / 10)) + 1
length_digits_of_more number h =
    rw (digits_of_more number h) (length-append (digits (number / 10)) ((number % 10 + 48) ∷ []))

pub digits_some : (number : ℕ) → 0 < length (digits number)
digits_some number =
    by_cases (ltb number 10) (λ small. rw (digits_of_one number (ltb-true number 10 small)) (omega arith))
    (λ large. omega (arith, length_digits_of_more number (ltb-false number 10 large)))

-- a number of at least 10^k has more than k digits
pub digits_from_power : (k number : ℕ) → 10 ^ k ≤ number → k < length (digits number)
digits_from_power zero number h = digits_some number
digits_from_power (suc k) number h =
    let more : 10 ≤ number = omega (arith, pow-suc 10 k, one_power k) in
    let here : 10 ^ k ≤ number / 10 = omega (arith, pow-suc 10 k) in
    omega (arith, length_digits_of_more number more, digits_from_power k (number / 10) here)
  where
    one_power : (k : ℕ) → 1 ≤ 10 ^ k
    one_power zero = omega arith
    one_power (suc k) = omega (arith, pow-suc 10 k, one_power k)

-- a number below 10^k has at most k digits, for k of at least 1
pub digits_below_power : (k number : ℕ) → number < 10 ^ suc k → length (digits number) ≤ suc k
digits_below_power zero number h = rw (digits_of_one number (omega arith)) (omega arith)
digits_below_power (suc k) number h =
    by_cases (ltb number 10) (λ small. rw (digits_of_one number (ltb-true number 10 small)) (omega arith))
    (λ large.
    let here : number / 10 < 10 ^ suc k = omega (arith, pow-suc 10 (suc k)) in
    omega (arith, length_digits_of_more number (ltb-false number 10 large), digits_below_power k (number / 10) here))

-- so a number's logarithm counts its digits
pub digits_by_log :
    {More : ℕ → Type 0} (number count : ℕ) (log : Option ℕ) → IfNone log (number ≡ 0) → IfSome log (λ k. 10 ^ k ≤ number)
    → IfSome log (λ k. number < 10 * 10 ^ k) → MatchOption log (count ≡ 1) More → ((k : ℕ) → More k → count ≡ k + 1)
    → count ≡ length (digits number)
digits_by_log number count None none from below one more = rw (one, none, digits_of_one 0 (omega arith)) refl
digits_by_log number count (Some log) none from below one more =
    omega (arith, more log one, digits_from_power log number from, digits_below_power log number (omega (arith, pow-suc 10 log)))

pub length_right_justified :
    (width number : ℕ) → length (right_justified width number) ≡ width - length (digits number) + length (digits number)
unfolding right_justified
length_right_justified width number =
    length-append (replicate (width - length (digits number)) 32) (digits number)
    ∙ ap (λ (n : ℕ). n + length (digits number)) (length-replicate (width - length (digits number)) 32)

-- spaces over the whole width, and the digits over their end
pub column_placed :
    (out : List ℕ) (at width number end : ℕ) → at ≤ length out → end ≡ at + length (right_justified width number)
    → placed (placed out at (replicate width 32)) (end - length (digits number)) (digits number)
    ≡ placed out at (right_justified width number)
unfolding right_justified
column_placed out at width number end h e =
    let count = length (digits number) in
    let spaces : List ℕ = replicate (width - count) 32 in
    let covered : List ℕ = replicate (width - (width - count)) 32 in
    let spaces_long : length spaces ≡ width - count = length-replicate (width - count) 32 in
    let covered_long : length covered ≡ width - (width - count) = length-replicate (width - (width - count)) 32 in
    let total : length (spaces ++ digits number) ≡ length spaces + count = length-append spaces (digits number) in
    let sum : width - count + (width - (width - count)) ≡ width = omega arith in
    let all : spaces ++ covered ≡ replicate width 32 =
    replicate-append-replicate (width - count) (width - (width - count)) 32 ∙ ap (λ (n : ℕ). replicate n 32) sum in
    let place : end - count ≡ at + length spaces = omega arith in
    rw (place, ← all) (placed_over out at spaces covered (digits number) h (omega arith))

pub length_line_text : (width : ℕ) (numbers : List ℕ) → length (line_text width numbers) ≡ length (columns_text width numbers) + 1
unfolding line_text
length_line_text width numbers = length-append (columns_text width numbers) (10 ∷ [])

columns_text_append : (width : ℕ) (s t : List ℕ) → columns_text width (s ++ t) ≡ columns_text width s ++ columns_text width t
unfolding columns_text
columns_text_append width [] t = refl
columns_text_append width (number ∷ s) t =
    rw (columns_text_append width s t) (sym (append_assoc (right_justified width number) (columns_text width s) (columns_text width t)))

columns_text_one : (width number : ℕ) → columns_text width (number ∷ []) ≡ right_justified width number
unfolding columns_text
columns_text_one width number = append-nil (right_justified width number)

-- the columns of the numbers up to an index, and the column of the number there
pub columns_text_next :
    (width : ℕ) (numbers : List ℕ) (index : ℕ) → index < length numbers
    → columns_text width (take (index + 1) numbers)
    ≡ columns_text width (take index numbers) ++ right_justified width (get_or numbers index 0)
columns_text_next width numbers index h =
    rw (add-one index, take-suc numbers index 0 h, columns_text_append width (take index numbers) (get_or numbers index 0 ∷ []))
    (ap (λ (s : List ℕ). columns_text width (take index numbers) ++ s) (columns_text_one width (get_or numbers index 0)))

-- the columns up to an index are no longer than all of them
pub columns_text_upto :
    (width : ℕ) (numbers : List ℕ) (index : ℕ) → length (columns_text width (take index numbers)) ≤ length (columns_text width numbers)
columns_text_upto width numbers index =
    let all : columns_text width numbers ≡ columns_text width (take index numbers) ++ columns_text width (drop index numbers) =
    ap (columns_text width) (sym (take-append-drop index numbers)) ∙ columns_text_append width (take index numbers) (drop index numbers) in
    omega (arith, ap length all, length-append (columns_text width (take index numbers)) (columns_text width (drop index numbers)))

-- how long the columns from an index on are
pub columns_text_from :
    (width : ℕ) (numbers : List ℕ) (index : ℕ) → index < length numbers
    → length (columns_text width (drop index numbers))
    ≡ length (right_justified width (get_or numbers index 0)) + length (columns_text width (drop (index + 1) numbers))
unfolding columns_text
columns_text_from width numbers index h =
    rw (drop_at_byte numbers index h)
    (length-append (right_justified width (get_or numbers index 0)) (columns_text width (drop (index + 1) numbers)))

pub columns_text_none : (width : ℕ) (numbers : List ℕ) (index : ℕ) → index ≡ length numbers → length (columns_text width (drop index numbers)) ≡ 0
unfolding columns_text
columns_text_none width numbers index e = rw (drop_at_end numbers index e)

columns_text_at_most :
    (width most : ℕ) (numbers : List ℕ) → width ≤ most → 20 ≤ most → ((index : ℕ) → get_or numbers index 0 < 2 ^ 64)
    → length (columns_text width numbers) ≤ length numbers * most
unfolding columns_text
columns_text_at_most width most [] w t fits = omega arith
columns_text_at_most width most (number ∷ numbers) w t fits =
    let small : number < 2 ^ 64 = fits 0 in
    let digits_few : length (digits number) ≤ 20 = digits_below_power 19 number (omega arith) in
    omega (
      arith,
      length-append (right_justified width number) (columns_text width numbers),
      length_right_justified width number,
      columns_text_at_most width most numbers w t (λ index. fits (suc index)),
      suc-mul (length numbers) most,
    )

-- a line of 64-bit numbers has a longest length: 20 digits for each, or the width where that is more
pub line_text_at_most :
    (width most : ℕ) (numbers : List ℕ) → width ≤ most → 20 ≤ most → ((index : ℕ) → get_or numbers index 0 < 2 ^ 64)
    → length (line_text width numbers) ≤ length numbers * most + 1
line_text_at_most width most numbers w t fits =
    omega (arith, length_line_text width numbers, columns_text_at_most width most numbers w t fits)

-- ---- laws of the definitions that no proof cites today

-- the digits before the last one, of what they make
unfoldable pub leading_digits : ℕ → List ℕ
leading_digits rest = cond (eqb rest 0) [] (digits rest)

pub no_leading_digits : leading_digits 0 ≡ []
unfolding leading_digits
no_leading_digits = refl

pub digits_by_last : (number : ℕ) → digits number ≡ leading_digits (number / 10) ++ ((number % 10 + 48) ∷ [])
unfolding leading_digits
digits_by_last number = by_test (eqb (number / 10) 0) refl where
  by_test :
      (test : Bool) → eqb (number / 10) 0 ≡ test
      → digits number ≡ cond test [] (digits (number / 10)) ++ ((number % 10 + 48) ∷ [])
  by_test true e =
      let none = eqb-true (number / 10) 0 e in
      let same : number + 48 ≡ number % 10 + 48 = omega arith in
      digits_of_one number (omega arith) ∙ rw same
  by_test false e =
      let some : number / 10 ≡ 0 → ⊥ = eqb-false (number / 10) 0 e in
      digits_of_more number (omega arith)

leading_digits_are_digits : (rest : ℕ) → 0 < rest → leading_digits rest ≡ digits rest
unfolding leading_digits
leading_digits_are_digits rest h = let some : rest ≡ 0 → ⊥ = λ e. omega arith in rw (ne_eqb _ _ some)

pub leading_digits_by_last :
    (rest : ℕ) → 0 < rest → leading_digits rest ≡ leading_digits (rest / 10) ++ ((rest % 10 + 48) ∷ [])
leading_digits_by_last rest h = leading_digits_are_digits rest h ∙ digits_by_last rest

pub length_digits_by_last : (number : ℕ) → length (digits number) ≡ length (leading_digits (number / 10)) + 1
length_digits_by_last number = rw (digits_by_last number) (length-append (leading_digits (number / 10)) ((number % 10 + 48) ∷ []))

pub length_leading_digits : (rest : ℕ) → 0 < rest → length (leading_digits rest) ≡ length (leading_digits (rest / 10)) + 1
length_leading_digits rest h =
    rw (leading_digits_by_last rest h) (length-append (leading_digits (rest / 10)) ((rest % 10 + 48) ∷ []))
