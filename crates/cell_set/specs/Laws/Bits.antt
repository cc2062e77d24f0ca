-- What the operations of the code do to a bit of a word and of a list of words of 64 bits.
use Rattle.std.specs.Prelude.{◌≡◌, refl, ℕ, zero, suc, ◌+◌, ◌-◌, ◌*◌, ◌/◌, ◌%◌, ◌^◌, ◌≤◌, ◌<◌, min, max, ltb}
use Rattle.std.proofs.Common.{sym, ap, ap₂, ◌∙◌, pow-suc, one-add, arith, ltb-true, ltb-false, shr-shr, shl_exact}
use Rattle.std.proofs.Math.Nat.{min-zero, zero-min, min-eq_left, max-zero, zero-max, max-eq_right}
use Rattle.std.specs.Int.Bits.{bit_or, bit_and}
use Rattle.std.proofs.lemmas.Nat.{or_shr, and_shr, or_mod, and_mod, trailing_le}
use Rattle.std.specs.Int.Count.{count_trailing_zeros, under}
use Rattle.std.proofs.Math.Pow.{pow-lt}
use Rattle.srt_group_model.specs.Laws.Reason.{by_test}
use Rattle.cell_set.specs.Bits.{bit}

-- ---- bit by bit

pub bit_most : (i word : ℕ) → bit i word ≤ 1
unfolding bit
bit_most i word = omega arith

bit_first : (word : ℕ) → bit 0 word ≡ word % 2
unfolding bit
bit_first word = omega arith

bit_next : (i word : ℕ) → bit (suc i) word ≡ bit i (word / 2)
unfolding bit
bit_next i word = ap (λ (n : ℕ). word / 2 ^ n % 2) (sym (one-add i)) ∙ ap (λ (n : ℕ). n % 2) (sym (shr-shr word 1 i))

pub bit_none : (i : ℕ) → bit i 0 ≡ 0
bit_none zero = bit_first 0
bit_none (suc i) = bit_next i 0 ∙ bit_none i

-- ---- a power of two has one bit

half_power : (b : ℕ) → 2 ^ suc b / 2 ≡ 2 ^ b
half_power b = ap (λ (n : ℕ). n / 2) (pow-suc 2 b) ∙ halved (2 ^ b)
  where
    halved : (p : ℕ) → p * 2 / 2 ≡ p
    halved p = omega arith

power_here : (b : ℕ) → bit b (2 ^ b) ≡ 1
power_here zero = bit_first 1
power_here (suc b) = bit_next b (2 ^ suc b) ∙ ap (bit b) (half_power b) ∙ power_here b

power_other : (b i : ℕ) → (i ≡ b → ⊥) → bit i (2 ^ b) ≡ 0
power_other zero zero other = absurd (other refl)
power_other zero (suc i) other = bit_next i 1 ∙ bit_none i
power_other (suc b) zero other = bit_first (2 ^ suc b) ∙ ap (λ (n : ℕ). n % 2) (pow-suc 2 b) ∙ even (2 ^ b)
  where
    even : (p : ℕ) → p * 2 % 2 ≡ 0
    even p = omega arith
power_other (suc b) (suc i) other = bit_next i (2 ^ suc b) ∙ ap (bit i) (half_power b) ∙ power_other b i (λ e. other (ap suc e))

-- as the code makes it
power_shifted : (b : ℕ) → b < 64 → 1 * 2 ^ b % 2 ^ 64 ≡ 2 ^ b
power_shifted b small = shl_exact {a = 1} 1 b 64 (omega arith) (omega arith) ∙ times (2 ^ b)
  where
    times : (p : ℕ) → 1 * p ≡ p
    times p = omega arith

-- ---- `|`, `&` and `!` go bit by bit

or_small : (p q : ℕ) → p < 2 → q < 2 → bit_or p q ≡ max p q
or_small zero q h k = sym (zero-max q)
or_small (suc zero) zero h k = refl
or_small (suc zero) (suc zero) h k = refl
or_small (suc zero) (suc (suc q)) h k = absurd (omega arith)
or_small (suc (suc p)) q h k = absurd (omega arith)

and_small : (p q : ℕ) → p < 2 → q < 2 → bit_and p q ≡ min p q
and_small zero q h k = sym (zero-min q)
and_small (suc zero) zero h k = refl
and_small (suc zero) (suc zero) h k = refl
and_small (suc zero) (suc (suc q)) h k = absurd (omega arith)
and_small (suc (suc p)) q h k = absurd (omega arith)

or_bit : (i v w : ℕ) → bit i (bit_or v w) ≡ max (bit i v) (bit i w)
unfolding bit
or_bit i v w =
    ap (λ (n : ℕ). n % 2) (or_shr v w i) ∙ or_mod (v / 2 ^ i) (w / 2 ^ i) 1
    ∙ or_small (v / 2 ^ i % 2) (w / 2 ^ i % 2) (omega arith) (omega arith)

and_bit : (i v w : ℕ) → bit i (bit_and v w) ≡ min (bit i v) (bit i w)
unfolding bit
and_bit i v w =
    ap (λ (n : ℕ). n % 2) (and_shr v w i) ∙ and_mod (v / 2 ^ i) (w / 2 ^ i) 1
    ∙ and_small (v / 2 ^ i % 2) (w / 2 ^ i % 2) (omega arith) (omega arith)

-- `!w` of a word of k bits
not_bit : (k i w : ℕ) → i < k → w < 2 ^ k → bit i (2 ^ k - 1 - w) + bit i w ≡ 1
not_bit zero i w h below = absurd (omega arith)
not_bit (suc k) i w h below = go i (not_bit k) h (rw pow-suc at below)
  where
    first : (p : ℕ) → w < p * 2 → (p * 2 - 1 - w) % 2 + w % 2 ≡ 1
    first p small = omega arith

    rest : (p : ℕ) → w < p * 2 → (p * 2 - 1 - w) / 2 ≡ p - 1 - w / 2
    rest p small = omega arith

    go : (i : ℕ) → ((j v : ℕ) → j < k → v < 2 ^ k → bit j (2 ^ k - 1 - v) + bit j v ≡ 1) → i < suc k → w < 2 ^ k * 2
        → bit i (2 ^ suc k - 1 - w) + bit i w ≡ 1
    go zero ih h small =
        ap₂ (λ (x y : ℕ). x + y) (bit_first (2 ^ suc k - 1 - w) ∙ ap (λ (n : ℕ). (n - 1 - w) % 2) (pow-suc 2 k)) (bit_first w)
        ∙ first (2 ^ k) small
    go (suc j) ih h small =
        ap₂ (λ (x y : ℕ). x + y)
        (bit_next j (2 ^ suc k - 1 - w) ∙ ap (λ (n : ℕ). bit j ((n - 1 - w) / 2)) (pow-suc 2 k) ∙ ap (bit j) (rest (2 ^ k) small))
        (bit_next j w)
        ∙ ih j (w / 2) (omega arith) (omega arith)

-- `w | (1 << b)` sets a bit, and `w & !(1 << b)` clears it
module _ (w b : ℕ) (small : b < 64) where
  pub set_here : bit b (bit_or w (1 * 2 ^ b % 2 ^ 64)) ≡ 1
  set_here =
      ap (λ (m : ℕ). bit b (bit_or w m)) (power_shifted b small) ∙ or_bit b w (2 ^ b) ∙ ap (max (bit b w)) (power_here b)
      ∙ max-eq_right (bit_most b w)

  pub set_other : (i : ℕ) → (i ≡ b → ⊥) → bit i (bit_or w (1 * 2 ^ b % 2 ^ 64)) ≡ bit i w
  set_other i other =
      ap (λ (m : ℕ). bit i (bit_or w m)) (power_shifted b small) ∙ or_bit i w (2 ^ b) ∙ ap (max (bit i w)) (power_other b i other)
      ∙ max-zero (bit i w)

  not_power : (i : ℕ) → i < 64 → bit i (2 ^ 64 - 1 - 2 ^ b) + bit i (2 ^ b) ≡ 1
  not_power i inside = not_bit 64 i (2 ^ b) inside (pow-lt small)

  pub unset_here : bit b (bit_and w (2 ^ 64 - 1 - 1 * 2 ^ b % 2 ^ 64)) ≡ 0
  unset_here =
      ap (λ (m : ℕ). bit b (bit_and w (2 ^ 64 - 1 - m))) (power_shifted b small) ∙ and_bit b w (2 ^ 64 - 1 - 2 ^ b)
      ∙ ap (min (bit b w)) (omega (arith, not_power b small, power_here b)) ∙ min-zero (bit b w)

  pub unset_other : (i : ℕ) → i < 64 → (i ≡ b → ⊥) → bit i (bit_and w (2 ^ 64 - 1 - 1 * 2 ^ b % 2 ^ 64)) ≡ bit i w
  unset_other i inside other =
      ap (λ (m : ℕ). bit i (bit_and w (2 ^ 64 - 1 - m))) (power_shifted b small) ∙ and_bit i w (2 ^ 64 - 1 - 2 ^ b)
      ∙ ap (min (bit i w)) (omega (arith, not_power i inside, power_other b i other)) ∙ min-eq_left (bit_most i w)

-- ---- trailing ones: the trailing zeros of the complement

zeros_below : (k n i : ℕ) → i < count_trailing_zeros k n → bit i n ≡ 0
unfolding count_trailing_zeros
zeros_below zero n i h = absurd (omega arith)
zeros_below (suc k) n i h = go (n % 2) refl i (zeros_below k (n / 2)) h
  where
    go : (r : ℕ) → n % 2 ≡ r → (i : ℕ) → ((j : ℕ) → j < count_trailing_zeros k (n / 2) → bit j (n / 2) ≡ 0)
        → i < under r (count_trailing_zeros k (n / 2)) → bit i n ≡ 0
    go zero e zero ih h = bit_first n ∙ e
    go zero e (suc j) ih h = bit_next j n ∙ ih j (omega arith)
    go (suc r) e i ih h = absurd (omega arith)

one_after : (k n : ℕ) → count_trailing_zeros k n < k → bit (count_trailing_zeros k n) n ≡ 1
unfolding count_trailing_zeros
one_after zero n h = absurd (omega arith)
one_after (suc k) n h = go (n % 2) refl (one_after k (n / 2)) h
  where
    go : (r : ℕ) → n % 2 ≡ r → (count_trailing_zeros k (n / 2) < k → bit (count_trailing_zeros k (n / 2)) (n / 2) ≡ 1)
        → under r (count_trailing_zeros k (n / 2)) < suc k → bit (under r (count_trailing_zeros k (n / 2))) n ≡ 1
    go zero e ih h = bit_next (count_trailing_zeros k (n / 2)) n ∙ ih (omega arith)
    go (suc r) e ih h = bit_first n ∙ omega arith

-- only 0 has no digit set
all_zeros : (k n : ℕ) → n < 2 ^ k → count_trailing_zeros k n ≡ k → n ≡ 0
unfolding count_trailing_zeros
all_zeros zero n h e = omega arith
all_zeros (suc k) n h e = go (n % 2) refl (all_zeros k (n / 2)) (rw pow-suc at h) e
  where
    go : (r : ℕ) → n % 2 ≡ r → (n / 2 < 2 ^ k → count_trailing_zeros k (n / 2) ≡ k → n / 2 ≡ 0) → n < 2 ^ k * 2
        → under r (count_trailing_zeros k (n / 2)) ≡ suc k → n ≡ 0
    go zero odd ih h e = omega (arith, ih (omega arith) (omega arith))
    go (suc r) odd ih h e = absurd (omega arith)

-- of a full word every bit is set
pub full_bit : (i : ℕ) → i < 64 → bit i (2 ^ 64 - 1) ≡ 1
full_bit i inside = omega (arith, not_bit 64 i 0 inside (omega arith), bit_none i)

module _ (w : ℕ) (small : w < 2 ^ 64) where
  abbrev pub trailing_ones : ℕ
  trailing_ones = count_trailing_zeros 64 (2 ^ 64 - 1 - w)

  ones_most : trailing_ones ≤ 64
  ones_most = trailing_le 64 (2 ^ 64 - 1 - w)

  pub ones_end : (w ≡ 2 ^ 64 - 1 → ⊥) → trailing_ones < 64
  ones_end some_free =
      by_test (ltb trailing_ones 64) (λ e. ltb-true trailing_ones 64 e)
      (λ e.
      let full : trailing_ones ≡ 64 = omega (arith, ones_most, ltb-false trailing_ones 64 e) in
      absurd (some_free (omega (arith, all_zeros 64 (2 ^ 64 - 1 - w) (omega arith) full))))

  pub ones_before : (i : ℕ) → i < trailing_ones → bit i w ≡ 1
  ones_before i h =
      omega (
        arith,
        not_bit 64 i w (omega (arith, ones_most)) small,
        zeros_below 64 (2 ^ 64 - 1 - w) i h,
      )

  pub zero_at : trailing_ones < 64 → bit trailing_ones w ≡ 0
  zero_at h = omega (arith, not_bit 64 trailing_ones w h small, one_after 64 (2 ^ 64 - 1 - w) h)
