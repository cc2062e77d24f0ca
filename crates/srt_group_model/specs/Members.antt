-- The members of a group: which are active, who is promoted, admission to the peer group, alignment of send sequences, and
-- the refresh of the members' states. From `promote_backup_member`, `admit_peer_group`, `align_member_sequence`,
-- `requalify_unstable_members`, `refresh_pending_states`, `refresh_states`; document 01, "Members and sending".
use Rattle.std.specs.Prelude.{Bool, not, ◌&&◌, ◌||◌, List, [], ◌∷◌, ℕ, zero, suc, ltb, eqb, length, None, Option, Some}
use Rattle.srt_group_model.specs.Tools.{if_true◌then◌else◌, if_some◌give◌otherwise◌, or_else, any, first_such, place_of, at_place, change, each, flagged, first_given}
use Rattle.srt_group_model.specs.State.{Member, is_backup, with_leg, on_membership, with_admitted, with_collision, turned, pending_state, active_state, standby_state, unstable_state, broken_state}
use Rattle.srt_group_model.specs.Legs.{is_connected, is_disconnected, can_send, has_sender, next_sequence_number, peer_initial_sequence, synchronize_send_sequence}
use Rattle.srt_group_model.specs.declared.Leg.{Leg}

-- ---- finding

abbrev pub id_of : Member → ℕ
id_of m = m.membership.id

abbrev pub has_id : ℕ → Member → Bool
has_id id m = eqb (id_of m) id

-- the place of the member with that id
abbrev pub find : ℕ → List Member → Option ℕ
find id = place_of (has_id id)

abbrev pub in_state : ℕ → Member → Bool
in_state n m = eqb m.membership.state n

-- Active and connected: what `active_indices` lists
unfoldable pub is_active : Member → Bool
is_active m = in_state active_state m && is_connected m.leg

unfoldable pub is_standby : Member → Bool
is_standby m = in_state standby_state m && is_connected m.leg

abbrev pub has_active_member : List Member → Bool
has_active_member = any is_active

abbrev pub first_active : List Member → Option ℕ
first_active = place_of is_active

-- a member and its place
pub record Placed : Type 0 where
  pub place : ℕ
  pub member : Member

-- the first that passes the test
unfoldable pub found : (Member → Bool) → List Member → Option Placed
found test [] = None
found test (m ∷ ms) =
    if_true test m
    then Some record { place = 0; member = m }
    else (if_some found test ms give (λ f. Some record { place = suc f.place; member = f.member }) otherwise None)

-- ---- promotion: the highest weight, then the lowest id, among connected Standby legs

unfoldable pub outranks : Member → Member → Bool
outranks a b =
    ltb b.membership.weight a.membership.weight
    || (eqb a.membership.weight b.membership.weight && ltb (id_of a) (id_of b))

-- the first of all in rank, of the candidates
unfoldable pub first_in_rank : (Member → Bool) → List Member → Option Placed
first_in_rank candidate [] = None
first_in_rank candidate (m ∷ ms) =
    if_some first_in_rank candidate ms
    give
    (λ r.
    Some
    (if_true candidate m && not (outranks r.member m)
    then record { place = 0; member = m } else record { place = suc r.place; member = r.member }))
    otherwise (if_true candidate m then Some record { place = 0; member = m } else None)

unfoldable pub promotion : List Member → Option ℕ
promotion ms = if_some first_in_rank is_standby ms give (λ r. Some r.place) otherwise None

unfoldable pub promote_backup_member : List Member → List Member
promote_backup_member ms = if_some promotion ms give (λ i. change i (turned active_state) ms) otherwise ms

-- in Backup, if no member is active
unfoldable pub promote_if_none : ℕ → List Member → List Member
promote_if_none mode ms = if_true is_backup mode && not (has_active_member ms) then promote_backup_member ms else ms

-- ---- admission: a member whose handshake completed since the last look

unfoldable pub arrives : Member → Bool
arrives m =
    eqb m.membership.admitted 0 && (not (in_state broken_state m) && is_connected m.leg)

-- what a member that arrives brings: the peer's first sequence, and the peer group that it answers from, 0 being none
unfoldable pub sequence_brought : Member → Option ℕ
sequence_brought m = if_true arrives m then peer_initial_sequence m.leg else None

unfoldable pub group_brought : Member → Option ℕ
group_brought m = flagged (arrives m && not (eqb m.leg.link.peer 0)) m.leg.link.peer

-- The first sequence that is brought fixes the base, if none is set: before its member is compared, so that one that collides
-- does too.
unfoldable pub base_after : Option ℕ → List Member → Option ℕ
base_after base ms = or_else base (first_given sequence_brought ms)

-- the first peer group that is brought binds the group, if it is bound to none, 0
unfoldable pub peer_after : ℕ → List Member → ℕ
peer_after peer ms =
    if_true eqb peer 0 then (if_some first_given group_brought ms give (λ brought. brought) otherwise 0) else peer

-- `admit_peer_group`, once the group is bound to `peer`: an answer from no group, or from that one, is admitted
unfoldable pub admit_peer_group : ℕ → Member → Member
admit_peer_group peer m =
    if_true arrives m
    then
    (if_true eqb m.leg.link.peer 0 || eqb m.leg.link.peer peer
    then on_membership with_admitted m
    else on_membership (with_collision peer m.leg.link.peer) m)
    else m

-- ---- alignment of a member's send sequence with the group's

-- the group's send number, else the next number of the first other connected leg, in order of addition
unfoldable pub alignment_source : Option ℕ → ℕ → List Member → Option ℕ
alignment_source number id ms =
    or_else number
    (if_some first_such (λ m. not (has_id id m) && (is_connected m.leg && has_sender m.leg)) ms
    give (λ m. next_sequence_number m.leg) otherwise None)

unfoldable pub align_leg : ℕ → Leg → Option Leg
align_leg sequence l =
    if_true has_sender l && eqb l.sender.next sequence then Some l else synchronize_send_sequence sequence l

-- none: alignment failed, and nothing was changed
unfoldable pub align_member_sequence : Option ℕ → ℕ → List Member → Option (List Member)
align_member_sequence number i ms =
    if_some at_place i ms
    give
    (λ m.
    if_some alignment_source number (id_of m) ms
    give
    (λ sequence. if_some align_leg sequence m.leg give (λ l. Some (change i (with_leg l) ms)) otherwise None)
    otherwise Some ms)
    otherwise None

-- ---- the refresh

-- a step at each place, from the first to the last
unfoldable pub steps_from : (ℕ → List Member → List Member) → (left place : ℕ) → List Member → List Member
steps_from step zero i ms = ms
steps_from step (suc k) i ms = steps_from step k (suc i) (step i ms)

abbrev pub at_each_place : (ℕ → List Member → List Member) → List Member → List Member
at_each_place step ms = steps_from step (length ms) 0 ms

-- the member at a place, if it passes the test and can be aligned, turns to a state
unfoldable pub turn_aligned : (Member → Bool) → (List Member → ℕ) → Option ℕ → ℕ → List Member → List Member
turn_aligned test state number i ms =
    if_some at_place i ms
    give
    (λ m.
    if_true test m
    then
    (if_some align_member_sequence number i ms give (λ aligned. change i (turned (state aligned)) aligned) otherwise ms)
    else ms)
    otherwise ms

-- a Pending member that has connected turns Active, in Backup Standby
unfoldable pub settle : ℕ → Option ℕ → ℕ → List Member → List Member
settle mode =
    turn_aligned (λ m. in_state pending_state m && is_connected m.leg)
    (λ ms. if_true is_backup mode then standby_state else active_state)

-- an Unstable member that can send again turns Active, in Backup Standby if another is active
unfoldable pub requalify : ℕ → Option ℕ → ℕ → List Member → List Member
requalify mode =
    turn_aligned (λ m. in_state unstable_state m && (is_connected m.leg && can_send m.leg))
    (λ ms. if_true is_backup mode && has_active_member ms then standby_state else active_state)

-- what is left of `refresh_pending_states` after admission
unfoldable pub settle_members : ℕ → Option ℕ → List Member → List Member
settle_members mode number ms = promote_if_none mode (at_each_place (settle mode number) ms)

unfoldable pub break_disconnected : Member → Member
break_disconnected m = if_true is_disconnected m.leg then turned broken_state m else m

-- what is left of `refresh_states` after that
unfoldable pub requalify_members : ℕ → Option ℕ → List Member → List Member
requalify_members mode number ms = promote_if_none mode (at_each_place (requalify mode number) (each break_disconnected ms))
