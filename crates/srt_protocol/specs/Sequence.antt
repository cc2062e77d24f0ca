-- The circle of 31-bit sequence numbers (draft-sharabayko-srt; document 01, "Order"). Its laws are those of Circle.antt at
-- this half.
use Rattle.std.specs.Prelude.{ℕ, ◌^◌, Bool}
use Rattle.srt_protocol.specs.Circle.{distance, before, further}

-- half of the sequence space; the space is half + half = 2^31
unfoldable pub half : ℕ
half = 2 ^ 30

abbrev pub sequence_distance : ℕ → ℕ → ℕ
sequence_distance = distance half

abbrev pub sequence_before : ℕ → ℕ → Bool
sequence_before = before half

abbrev pub sequence_further : ℕ → ℕ → ℕ
sequence_further = further half
