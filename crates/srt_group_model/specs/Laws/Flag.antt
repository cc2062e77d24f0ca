-- A flag read and written: what a test of the word says of the flag, and which word a test is written as.
use Rattle.std.specs.Prelude.{◌≡◌, refl, Bool, true, false, not, ℕ, zero, suc, ◌≤◌, eqb, None, Some}
use Rattle.std.proofs.Common.{sym, ap, arith, ne_eqb}
use Rattle.std.specs.Bool.{then_some}
use Rattle.srt_group_model.specs.Tools.{is_set, bit, flagged}

-- ---- reading: from the word to the flag, and back

pub zero_unset : (n : ℕ) → n ≡ 0 → is_set n ≡ false
zero_unset n h = ap is_set h

pub other_set : (n : ℕ) → (n ≡ 0 → ⊥) → is_set n ≡ true
other_set zero h = absurd (h refl)
other_set (suc n) h = refl

-- a test of the word against 0
pub set_is_not_zero : (n : ℕ) → is_set n ≡ not (eqb n 0)
set_is_not_zero zero = refl
set_is_not_zero (suc n) = ap not (sym (ne_eqb (suc n) 0 (omega arith)))

-- ---- writing

pub bit_set : (b : Bool) → is_set (bit b) ≡ b
unfolding bit
bit_set true = refl
bit_set false = refl

pub bit_most : (b : Bool) → bit b ≤ 1
unfolding bit
bit_most true = omega arith
bit_most false = omega arith

-- a flag in its range is the word that its own test is written as
pub set_bit : (n : ℕ) → n ≤ 1 → bit (is_set n) ≡ n
unfolding bit
set_bit zero h = refl
set_bit (suc zero) h = refl
set_bit (suc (suc n)) h = absurd (omega arith)

-- ---- a number with its flag

pub unset_none : (flag n : ℕ) → flag ≡ 0 → flagged (is_set flag) n ≡ None
unfolding flagged
unset_none flag n h = ap (λ (b : Bool). flagged b n) (zero_unset flag h)

pub set_some : (flag n : ℕ) → (flag ≡ 0 → ⊥) → flagged (is_set flag) n ≡ Some n
unfolding flagged
set_some flag n h = ap (λ (b : Bool). flagged b n) (other_set flag h)

-- the form in which the code shows it
pub shown : (flag n : ℕ) → then_some (not (eqb flag 0)) n ≡ flagged (is_set flag) n
unfolding flagged
shown zero n = refl
shown (suc m) n = ap (λ (b : Bool). then_some (not b) n) (ne_eqb (suc m) 0 (omega arith))
