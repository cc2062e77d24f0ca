-- The pending packets and their circular order: which is held, which is nearest, what a run covers, which is farthest.
-- Document 01, "Nearest held packet", "Receiving" and "Removal".
use Rattle.std.specs.Prelude.{Bool, not, List, [], ◌∷◌, ℕ, ◌+◌, leb, ltb, eqb, None, Option, Some}
use Rattle.srt_protocol.specs.Sequence.{half, sequence_distance}
use Rattle.srt_group_model.specs.Tools.{if_true◌then◌else◌, if_some◌give◌otherwise◌, or_else, any, first_such, such_that}
use Rattle.srt_group_model.specs.declared.Packet.{Packet}

abbrev pub sequence_of : Packet → ℕ
sequence_of p = p.content.sequence

abbrev pub has_sequence : ℕ → Packet → Bool
has_sequence sequence p = eqb (sequence_of p) sequence

-- a packet with that sequence is pending
abbrev pub is_held : ℕ → List Packet → Bool
is_held sequence = any (has_sequence sequence)

abbrev pub held_at : ℕ → List Packet → Option Packet
held_at sequence = first_such (has_sequence sequence)

-- into its place in ascending order of sequences
unfoldable pub insert : Packet → List Packet → List Packet
insert p [] = p ∷ []
insert p (q ∷ qs) = if_true ltb (sequence_of p) (sequence_of q) then p ∷ q ∷ qs else q ∷ insert p qs

-- the packet with the lowest sequence
unfoldable pub lowest : List Packet → Option Packet
lowest [] = None
lowest (p ∷ ps) =
    if_some lowest ps give (λ q. Some (if_true leb (sequence_of p) (sequence_of q) then p else q)) otherwise Some p

-- `oldest_pending`. Document 01's nearest held packet: the lowest held sequence that is at least half the space above the
-- lowest of all; if there is none, the lowest of all.
unfoldable pub nearest : List Packet → Option Packet
nearest held =
    if_some lowest held
    give (λ low. or_else (lowest (such_that (λ p. leb (sequence_of low + half) (sequence_of p)) held)) (Some low))
    otherwise None

-- the packet starts inside a run of `count` sequences from `first` on
abbrev pub is_covered : (first count : ℕ) → Packet → Bool
is_covered first count p = ltb (sequence_distance first (sequence_of p)) count

abbrev pub covered : (first count : ℕ) → List Packet → List Packet
covered first count = such_that (is_covered first count)

abbrev pub not_covered : (first count : ℕ) → List Packet → List Packet
not_covered first count = such_that (λ p. not (is_covered first count p))

-- of the packets that the group holds itself, the one farthest ahead of `base`
unfoldable pub farther : ℕ → Packet → Packet → Packet
farther base p q =
    if_true ltb (sequence_distance base (sequence_of q)) (sequence_distance base (sequence_of p)) then p else q

unfoldable pub farthest : ℕ → List Packet → Option Packet
farthest base [] = None
farthest base (p ∷ ps) = if_some farthest base ps give (λ q. Some (farther base p q)) otherwise Some p
