-- A law of the circle that two proofs share, for a circle of any width.
use Rattle.std.specs.Prelude.{◌≡◌, ◌⊎◌, ℕ, ◌+◌, ◌-◌, ◌≤◌, ◌<◌}
use Rattle.std.proofs.Common.{inl, inr, arith}
use Rattle.std.proofs.Math.Decide.{dec_le}
use Rattle.srt_protocol.specs.Circle.{distance}
use Rattle.srt_protocol.specs.Laws.Circle.{distance_up, distance_round}

-- the distance of two numbers of the circle is one of two differences
abbrev pub Ways : (h a b : ℕ) → Type 0
Ways h a b = ((a ≤ b) × (distance h a b ≡ b - a)) ⊎ ((b < a) × (distance h a b ≡ b + (h + h) - a))

pub ways : (h a b : ℕ) → a < h + h → b < h + h → Ways h a b
ways h a b u v =
    elim (dec_le a b) [ yes k ↦ inl (k, distance_up h a b k v) | no k ↦ inr (omega arith, distance_round h a b (omega arith) u) ]
