-- The circular order of numbers that wrap (draft, 31-bit sequence numbers), for a circle of any width: h is half of the
-- circle, so the circle has h + h numbers. Document 01: "a before b exactly if (b - a) modulo 2^31 is 1..2^30-1"; there the
-- circle is 2^31, and Sequence.antt has h = 2^30.
use Rattle.std.specs.Prelude.{ℕ, ◌+◌, ◌-◌, ◌%◌, Bool, ◌&&◌, nat_lt}

-- ---- definitions

-- (b - a) modulo the circle: how far b lies after a, going up
unfoldable pub distance : ℕ → ℕ → ℕ → ℕ
distance h a b = (b + (h + h - a % (h + h))) % (h + h)

-- a is before b: the distance is 1 .. h - 1
unfoldable pub before : ℕ → ℕ → ℕ → Bool
before h a b = nat_lt 0 (distance h a b) && nat_lt (distance h a b) h

-- the number n places further on
unfoldable pub further : ℕ → ℕ → ℕ → ℕ
further h a n = (a + n) % (h + h)
