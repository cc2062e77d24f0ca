-- Where the packets stand that a run covers. The index ascends and no sequence is beyond the circle, so those at or above the run's
-- first sequence stand together from its place on, and those beyond the wrap at the low end.
use Rattle.std.specs.Prelude.{◌≡◌, true, false, List, ◌++◌, ℕ, ◌≤◌, ◌<◌}
use Rattle.srt_group_model.specs.declared.Packet.{Packet}
use Rattle.srt_group_model.specs.Nearest.{sequence_of, is_covered}
use Rattle.srt_group_model.specs.Legs.{largest_sequence}
use Rattle.srt_group_tables.specs.Packets.{packet_at, packets_between}
use Rattle.srt_group_tables.specs.declared.pending.Covered.{Covered}

-- the run's first sequence and those of the first `count` packets are numbers of the circle
pub record Small (words : List ℕ) (count first : ℕ) : Type 0 where
  pub run : first ≤ largest_sequence
  pub held : (k : ℕ) → k < count → sequence_of (packet_at words k) ≤ largest_sequence

-- a walk from a place on, that ends at the first packet that is not covered
pub record CoveredUntil (first run : ℕ) (words : List ℕ) (from end place : ℕ) : Type 0 where
  pub after : from ≤ place
  pub within : place ≤ end
  pub covered : (k : ℕ) → from ≤ k → k < place → is_covered first run (packet_at words k) ≡ true
  pub ended : place < end → is_covered first run (packet_at words place) ≡ false

-- the places are among the first `count`
pub record Within (count : ℕ) (r : Covered) : Type 0 where
  pub low : r.low ≤ r.from
  pub from : r.from ≤ r.end
  pub end : r.end ≤ count

-- the packets that stand there, and those of the first `count` that stand elsewhere
abbrev pub packets_at : Covered → List ℕ → List Packet
packets_at r words = packets_between 0 r.low words ++ packets_between r.from r.end words

abbrev pub packets_elsewhere : (count : ℕ) → Covered → List ℕ → List Packet
packets_elsewhere count r words = packets_between r.low r.from words ++ packets_between r.end count words

-- these of the first `count` packets are covered, and no other
pub record Covers (first run : ℕ) (words : List ℕ) (count : ℕ) (r : Covered) : Type 0 where
  pub within : Within count r
  pub low : (k : ℕ) → k < r.low → is_covered first run (packet_at words k) ≡ true
  pub not_between : (k : ℕ) → r.low ≤ k → k < r.from → is_covered first run (packet_at words k) ≡ false
  pub high : (k : ℕ) → r.from ≤ k → k < r.end → is_covered first run (packet_at words k) ≡ true
  pub not_above : (k : ℕ) → r.end ≤ k → k < count → is_covered first run (packet_at words k) ≡ false
