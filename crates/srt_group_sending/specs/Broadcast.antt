-- A send in Broadcast over the lent tables: what each attempt and the whole send do to the members and to the list.
use Rattle.std.specs.Prelude.{◌≡◌, Bool, not, ◌&&◌, List, [], ◌∷◌, ℕ, ◌≤◌, eqb, length}
use Rattle.srt_protocol.specs.Errors.{outcome_number}
use Rattle.srt_group_model.specs.Tools.{if_true◌then◌else◌, is_set, such_that, each}
use Rattle.srt_group_model.specs.State.{Member, State, with_send, with_members, with_sending}
use Rattle.srt_group_model.specs.Members.{is_active}
use Rattle.srt_group_model.specs.Sending.{Sent, own_send, takes_send, attempt_send, send_broadcast}
use Rattle.srt_group_model.specs.declared.Sending.{Sending}
use Rattle.srt_connection_members.specs.Members.{member_at, members_of, Changed}
use Rattle.srt_group_sending.specs.declared.flown.Flown.{Flown}
use Rattle.srt_group_sending.specs.SentList.{sent_rows, SendTables, Wrote}

-- ---- definitions

-- the group's send number, else the next number of a leg
unfoldable pub number_for_send : Sending → Member → ℕ
number_for_send x m = if_true is_set x.numbered then x.next else m.leg.sender.next

-- active, and not at the sequence
unfoldable pub is_mismatched : ℕ → Member → Bool
is_mismatched sequence m = is_active m && not (eqb m.leg.sender.next sequence)

-- what the members that take a send have sent
unfoldable pub sends_of : (time size sequence : ℕ) → List Member → List Sent
sends_of time size sequence ms = each (own_send time sequence) (such_that (takes_send time size sequence) ms)

-- what a send leaves of a state: other numbers of the group and other members
abbrev pub left_by_send : Sending → List Member → State → State
left_by_send x ms s = with_send (with_sending x s.send) (with_members ms s)

-- ---- what a call does to the members and to the list

-- in the laws t is the table of members before and u after, a the list before and b after

pub record AttemptedAt (i time size sequence sent : ℕ) (before : SendTables) (answer : ℕ) (after : SendTables) : Type 0 where
  pub changed : Changed i (attempt_send time size sequence) before.members after.members
  pub wrote : Wrote sent (sends_of time size sequence (member_at before.members i ∷ [])) before.list answer after.list

pub record Attempted (n time size sequence : ℕ) (before : SendTables) (answer : ℕ) (after : SendTables) : Type 0 where
  pub long : length after.members ≡ length before.members
  pub members : members_of n after.members ≡ each (attempt_send time size sequence) (members_of n before.members)
  pub wrote : Wrote 0 (sends_of time size sequence (members_of n before.members)) before.list answer after.list
  pub few : answer ≤ n

-- The send of the model, for every state that has these members and these numbers. The list's first rows are the sends, and no
-- other word of it is written.
pub record SentBroadcast (n time size : ℕ) (x : Sending) (before : SendTables) (answer : Flown Sending) (after : SendTables) : Type 0 where
  pub long : length after.members ≡ length before.members
  pub wrote : Wrote 0 (sent_rows answer.sent after.list) before.list answer.sent after.list
  pub few : answer.sent ≤ n
  pub is : (s : State) → s.members ≡ members_of n before.members → s.send.numbers ≡ x
      → send_broadcast time size s
      ≡ record {
        state = left_by_send answer.state (members_of n after.members) s;
        sends = sent_rows answer.sent after.list;
        code = outcome_number answer.outcome;
      }
