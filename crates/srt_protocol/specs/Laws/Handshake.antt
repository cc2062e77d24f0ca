-- What is proved of the definitions in specs/Handshake.antt, with what the proofs need.
use Rattle.std.specs.Prelude.{◌≡◌, ℕ, ◌*◌, ◌^◌, bit_and}
use Rattle.std.proofs.lemmas.Nat.Bits.{and_high}
use Rattle.srt_protocol.specs.Handshake.{bit}

-- the Rust's test, `group_id & SRTGROUP_MASK`, looks at that bit
pub mask_is_bit_30 : (id : ℕ) → bit_and id (2 ^ 30) ≡ bit 30 id * 2 ^ 30
mask_is_bit_30 id = and_high id 1 30
