-- Admission to the peer group, member after member.
use Rattle.std.specs.Prelude.{◌≡◌, ◌||◌, List, [], ◌∷◌, ℕ, eqb, None}
use Rattle.srt_group_model.specs.Tools.{if_true◌then◌else◌, or_else, each}
use Rattle.srt_group_model.specs.State.{with_admitted, with_collision}
use Rattle.srt_group_model.specs.Legs.{peer_initial_sequence}
use Rattle.srt_group_model.specs.Members.{base_after, peer_after, admit_peer_group}
use Rattle.srt_group_model.specs.declared.Leg.{Leg}
use Rattle.srt_group_model.specs.declared.Membership.{Membership}
use Rattle.srt_connection_members.specs.Members.{member_at, members_of, Changed}
use Rattle.srt_group_members.specs.Scan.{Became}
use Rattle.srt_group_members.specs.declared.admission.Admission.{Admission}

-- ---- definitions

-- an arriving member that answers from the group `actual`, where the group is bound to `peer`
unfoldable pub membership_after : (peer actual : ℕ) → Membership → Membership
membership_after peer actual x =
    if_true eqb actual 0 || eqb actual peer then with_admitted x else with_collision peer actual x

-- what an arriving leg adds
pub record Answered (before : Admission) (leg : Leg) (after : Admission) : Type 0 where
  pub peer : after.peer ≡ (if_true eqb before.peer 0 then leg.link.peer else before.peer)
  pub base : after.base ≡ or_else before.base (peer_initial_sequence leg)

-- one member is looked at, t before and u after
pub record AdmittedAt (i : ℕ) (t : List ℕ) (before after : Admission) (u : List ℕ) : Type 0 where
  pub peer : after.peer ≡ peer_after before.peer (member_at t i ∷ [])
  pub base : after.base ≡ base_after before.base (member_at t i ∷ [])
  pub changed : Changed i (admit_peer_group after.peer) t u

-- the first n members are; the group was bound to the peer group `bound`, or to none, 0
pub record Admitted (n bound : ℕ) (t : List ℕ) (answer : Admission) (u : List ℕ) : Type 0 where
  pub peer : answer.peer ≡ peer_after bound (members_of n t)
  pub base : answer.base ≡ base_after None (members_of n t)
  pub became : Became n (each (admit_peer_group (peer_after bound (members_of n t))) (members_of n t)) t u
