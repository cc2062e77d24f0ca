-- A member is added: over the record's numbers and the lent table of members, whatever is held or waits and whatever rest of the
-- state it does not read.
use Rattle.std.specs.Prelude.{◌≡◌, List, [], ◌∷◌, ◌++◌, ℕ, ◌+◌, length, None}
use Rattle.srt_protocol.specs.Errors.{outcome_number}
use Rattle.srt_group_model.specs.State.{Member, State, with_members, with_peer}
use Rattle.srt_group_model.specs.Accounts.{no_packets}
use Rattle.srt_group_model.specs.Members.{base_after, peer_after, admit_peer_group}
use Rattle.srt_group_model.specs.Run.{start, set_base}
use Rattle.srt_group_model.specs.Guards.{no_answer}
use Rattle.srt_group_model.specs.Calls.{new_member, add_body}
use Rattle.srt_group_model.specs.declared.Core.{Core}
use Rattle.srt_group_model.specs.declared.Leg.{Leg}
use Rattle.srt_group_model.specs.declared.Membership.{Membership}
use Rattle.srt_group_model.specs.declared.Sending.{Sending}
use Rattle.srt_connection_members.specs.Members.{member_at}
use Rattle.srt_group_shown.specs.Shown.{Rest, shown}
use Rattle.srt_group_shown.specs.Steps.{Left}
use Rattle.srt_group_collecting.specs.Leaves.{sends}
use Rattle.srt_group.specs.declared.Answered.{Answered}

-- a membership as it is made: nothing is held, it is not admitted and has no collision
abbrev pub membership_at_addition : (id weight state : ℕ) → Membership
membership_at_addition id weight state =
    record {
      id = id;
      weight = weight;
      state = state;
      admitted = 0;
      account = no_packets;
      collision = record { expected = 0; actual = 0 };
    }

-- the state once a member has joined, before its send sequence is aligned: the base is set if it brings the first, the group
-- bound if it brings the first peer group, and it stands behind the others, admitted if it can be
unfoldable pub joined_by : Member → State → State
joined_by m s =
    let peer = peer_after s.peer (m ∷ []) in
    with_peer peer (with_members (s.members ++ (admit_peer_group peer m ∷ [])) (set_base (base_after None (m ∷ [])) (start s)).state)

pub record Joins (id weight : ℕ) (l : Leg) (core : Core) (ms : List ℕ) (after : Core) (ms' : List ℕ) : Type 0 where
  pub long : length ms' ≡ length ms
  pub one_more : after.counts.members ≡ core.counts.members + 1
  pub here : (others : Rest) (ps ws : List ℕ)
      → let m = new_member id weight l (shown core others ms ps ws) in
      member_at ms' core.counts.members ≡ admit_peer_group (peer_after core.peer (m ∷ [])) m
  pub state : (others : Rest) (ps ws : List ℕ)
      → joined_by (new_member id weight l (shown core others ms ps ws)) (shown core others ms ps ws) ≡ shown after others ms' ps ws

-- the member is added as defined
pub record Adds (id weight : ℕ) (l : Leg) (core : Core) (sending : Sending) (ms : List ℕ) (answer : Answered Core (Unit {0})) (ms' : List ℕ) : Type 0 where
  pub long : length ms' ≡ length ms
  pub step : (others : Rest) → sends sending others → (ps ws : List ℕ)
      → Left (add_body id weight l (shown core others ms ps ws)) (outcome_number answer.answer) no_answer
      (shown answer.«record» others ms' ps ws)
