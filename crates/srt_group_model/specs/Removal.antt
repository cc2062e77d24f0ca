-- Removing a member: `remove_member_connection` and `bound_group_owned_pending`; document 01, "Removal".
use Rattle.std.specs.Prelude.{Bool, not, List, [], ◌∷◌, ℕ, zero, suc, ◌-◌, min, max, leb, eqb, length}
use Rattle.srt_group_model.specs.Tools.{if_true◌then◌else◌, if_some◌give◌otherwise◌, such_that, each, without_place}
use Rattle.srt_group_model.specs.State.{Member, State, next_receive_sequence, with_receive, with_members, with_pending, with_round, with_own}
use Rattle.srt_group_model.specs.Accounts.{release, add_account}
use Rattle.srt_group_model.specs.Legs.{with_reservation}
use Rattle.srt_group_model.specs.Members.{id_of}
use Rattle.srt_group_model.specs.Nearest.{sequence_of, has_sequence, nearest, farthest}
use Rattle.srt_group_model.specs.declared.Packet.{Packet}
use Rattle.srt_group_model.specs.declared.Leg.{Leg}

abbrev pub is_owned : Packet → Bool
is_owned p = eqb p.owned 1

-- a packet that the group holds itself
abbrev pub by_group : Packet → Packet
by_group p = record { member = p.member; owned = 1; content = p.content }

-- a held packet of the member becomes the group's own
unfoldable pub own_packet : ℕ → Packet → Packet
own_packet id p = if_true eqb p.member id then by_group p else p

-- the largest receive window, the removed leg's included
unfoldable pub largest_window : ℕ → List Member → ℕ
largest_window window [] = window
largest_window window (m ∷ ms) = max m.leg.receiver.window (largest_window window ms)

-- the one packet with that sequence is retired, and the group's sum falls by its count
unfoldable pub retire : Packet → State → State
retire p s =
    with_own (release p.content.count s.own)
    (with_receive (with_pending (such_that (λ q. not (has_sequence (sequence_of p) q)) s.receive.pending) s.receive) s)

-- While the sum of the group's own exceeds the limit, the one farthest ahead of `base` is retired: at most as many as are held.
unfoldable pub bound_group_owned_pending : (left limit base : ℕ) → State → State
bound_group_owned_pending zero limit base s = s
bound_group_owned_pending (suc left) limit base s =
    if_some farthest base (such_that is_owned s.receive.pending)
    give (λ p. let later = bound_group_owned_pending left limit base (retire p s) in if_true leb s.own.reserved limit then s else later)
    otherwise s

-- where distances are taken from: the base, if unset the nearest held packet
unfoldable pub retirement_base : State → ℕ
retirement_base s =
    if_some next_receive_sequence s.receive
    give (λ base. base)
    otherwise (if_some nearest s.receive.pending give sequence_of otherwise 0)

-- The member at a place is taken out, and its held packets become the group's. The round's place is only lowered to the last.
unfoldable pub take_out : ℕ → Member → State → State
take_out i m s =
    let rest = without_place i s.members in
    with_own (add_account m.membership.account s.own)
    (with_receive (with_pending (each (own_packet (id_of m)) s.receive.pending) s.receive)
    (with_round (min s.visit.round (length rest - 1)) (with_members rest s)))

unfoldable pub remove_member_at : ℕ → Member → State → State
remove_member_at i m s =
    let t = take_out i m s in
    bound_group_owned_pending (length t.receive.pending) (largest_window m.leg.receiver.window t.members)
    (retirement_base t) t

-- the leg that is given back: its queue is dropped and its reservation cleared
abbrev pub leg_given_back : Member → Leg
leg_given_back m = with_reservation 0 m.leg
