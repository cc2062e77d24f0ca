-- The take-over: the replay on a leg, the alignment of a carrier, and which of them a take-over is.
use Rattle.srt_protocol.specs.Errors.{Outcome}
use Rattle.std.specs.Prelude.{◌≡◌, List, [], ℕ, ◌+◌, ◌≤◌, length}
use Rattle.srt_protocol.specs.Errors.{outcome_number}
use Rattle.srt_group_model.specs.State.{Send, State, with_send, with_members}
use Rattle.srt_group_model.specs.Sending.{Sent, Flow}
use Rattle.srt_group_model.specs.Backup.{max_history, align_carrier}
use Rattle.srt_group_model.specs.declared.Entry.{Entry}
use Rattle.srt_group_model.specs.declared.Sending.{Sending}
use Rattle.srt_connection_members.specs.Members.{members_of}
use Rattle.srt_group_tables.specs.Ring.{Arrays, send_of}
use Rattle.srt_group_tables.specs.declared.history.HistoryRing.{HistoryRing}
use Rattle.srt_group_sending.specs.SentList.{SendTables, Wrote}
use Rattle.srt_group_sending.specs.declared.flown.Flown.{Flown}
use Rattle.srt_group_backup.specs.declared.trimming.SendHistory.{SendHistory}

-- ---- definitions

-- what a replay asks of what sending moves
abbrev pub HistoryIs : List Entry → Send → Type 0
HistoryIs es y = y.history ≡ es

abbrev pub SendIs : Send → Send → Type 0
SendIs x y = y ≡ x

-- A flow of the model was made, and the rows written to the list are its sends. It leaves what sending moves. In the laws t is
-- the table of members before and u after.
pub record FlightReplayed (f : State → Flow) (known : Send → Type 0) (sent : ℕ) (before : SendTables) (answer : Flown (Unit {0})) (after : SendTables) : Type 0 where
  pub long : length after.members ≡ length before.members
  pub few : answer.sent ≤ sent + max_history
  pub sends : List Sent
  pub written : Wrote sent sends before.list answer.sent after.list
  pub flow : (n : ℕ) (s : State) → s.members ≡ members_of n before.members → known s.send
      → f s ≡ record { state = with_members (members_of n after.members) s; sends = sends; code = outcome_number answer.outcome }

pub record CarrierAligned (i n : ℕ) (x : Sending) (t : List ℕ) (answer : Outcome) (u : List ℕ) : Type 0 where
  pub long : length u ≡ length t
  pub flow : (s : State) → s.members ≡ members_of n t → s.send.numbers ≡ x
      → align_carrier i s ≡ record { state = with_members (members_of n u) s; sends = []; code = outcome_number answer }

pub record TookOver (f : State → Flow) (n : ℕ) (x : Sending) (r : HistoryRing) (a : Arrays) (sent : ℕ) (before : SendTables) (answer : Flown SendHistory) (after : SendTables) : Type 0 where
  pub long : length after.members ≡ length before.members
  pub fits : answer.state.ring.length ≤ max_history
  pub few : answer.sent ≤ sent + max_history
  pub sends : List Sent
  pub written : Wrote sent sends before.list answer.sent after.list
  pub flow : (s : State) → s.members ≡ members_of n before.members → s.send ≡ send_of x r a
      → f s
      ≡ record {
        state = with_send (send_of answer.state.sending answer.state.ring a) (with_members (members_of n after.members) s);
        sends = sends;
        code = outcome_number answer.outcome;
      }
