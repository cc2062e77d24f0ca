-- An acknowledgement from the oldest unacknowledged up to next never makes the flight longer.
use Rattle.std.specs.Prelude.{◌≡◌, ◌⊎◌, ℕ, ◌+◌, ◌≤◌, ◌<◌}
use Rattle.std.proofs.Common.{inl, inr, arith}
use Rattle.srt_protocol.specs.Circle.{distance}
use Rattle.srt_protocol.specs.Sequence.{half, sequence_distance}
use Rattle.srt_group_model.specs.Laws.Circle.{Ways, ways}

less_left : (h flight next n : ℕ) → flight < h → next < h + h → n < h + h → distance h (distance h flight next) n ≤ flight → distance h n next ≤ flight
less_left h flight next n f a b k =
    by_oldest (ways h flight next (omega arith) a)
  where
    by_rest : (oldest : ℕ) → oldest < h + h → (oldest + flight ≡ next) ⊎ (oldest + flight ≡ next + (h + h)) → distance h oldest n ≤ flight → distance h n next ≤ flight
    by_rest oldest low e g =
        elim (ways h oldest n low b) [
          | inl x ↦ elim (ways h n next b a) [
            | inl y ↦ elim e [ inl z ↦ omega (arith, x.0, x.1, y.0, y.1, z, g) | inr z ↦ omega (arith, x.0, x.1, y.0, y.1, z, g) ]
            | inr y ↦ elim e [ inl z ↦ omega (arith, x.0, x.1, y.0, y.1, z, g) | inr z ↦ omega (arith, x.0, x.1, y.0, y.1, z, g) ]
          ]
          | inr x ↦ elim (ways h n next b a) [
            | inl y ↦ elim e [ inl z ↦ omega (arith, x.0, x.1, y.0, y.1, z, g) | inr z ↦ omega (arith, x.0, x.1, y.0, y.1, z, g) ]
            | inr y ↦ elim e [ inl z ↦ omega (arith, x.0, x.1, y.0, y.1, z, g) | inr z ↦ omega (arith, x.0, x.1, y.0, y.1, z, g) ]
          ]
        ]

    by_oldest : Ways h flight next → distance h n next ≤ flight
    by_oldest w =
        elim w [
          | inl x ↦ by_rest (distance h flight next) (omega (arith, x.0, x.1)) (inl (omega (arith, x.0, x.1))) k
          | inr x ↦ by_rest (distance h flight next) (omega (arith, x.0, x.1)) (inr (omega (arith, x.0, x.1))) k
        ]

below_half : (x : ℕ) → x ≤ 65535 → x < half
unfolding half
below_half x h = omega arith

within_circle : (x : ℕ) → x ≤ 2147483647 → x < half + half
unfolding half
within_circle x h = omega arith

pub acknowledged_less : (flight next n : ℕ) → flight ≤ 65535 → next ≤ 2147483647 → n ≤ 2147483647
    → sequence_distance (sequence_distance flight next) n ≤ flight → sequence_distance n next ≤ flight
acknowledged_less flight next n f a b k =
    less_left half flight next n (below_half flight f) (within_circle next a) (within_circle n b) k
