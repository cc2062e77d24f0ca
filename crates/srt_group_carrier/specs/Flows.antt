-- A flow of the model over the lent tables: what a part of a Backup send leaves.
use Rattle.std.specs.Prelude.{◌≡◌, List, ℕ, ◌≤◌, length}
use Rattle.srt_protocol.specs.Errors.{outcome_number}
use Rattle.srt_group_model.specs.State.{State, with_send, with_members}
use Rattle.srt_group_model.specs.Sending.{max_sent, Sent, Flow, ends_with, ◌and_then◌}
use Rattle.srt_group_model.specs.Backup.{max_history, take_over_backup_flight, send_own}
use Rattle.srt_group_model.specs.declared.Sending.{Sending}
use Rattle.srt_connection_members.specs.Members.{members_of}
use Rattle.srt_group_tables.specs.declared.history.HistoryRing.{HistoryRing}
use Rattle.srt_group_tables.specs.Ring.{Long, entries_of, send_of}
use Rattle.srt_group_sending.specs.SentList.{Wrote}
use Rattle.srt_group_sending.specs.declared.flown.Flown.{Flown}
use Rattle.srt_group_backup.specs.declared.trimming.SendHistory.{SendHistory}
use Rattle.srt_group_carrier.specs.Freeing.{SendFollows}
use Rattle.srt_group_carrier.specs.Lendable.{BackupTables, arrays_in}

-- a promoted member takes over and is tried; nobody is tried after it
abbrev pub on_promoted : (time size cell sequence place : ℕ) → State → Flow
on_promoted time size cell sequence i s = take_over_backup_flight time i s and_then send_own time size cell sequence i (λ m. ends_with 29)

-- over which states a flow is promised: every one, or those of a group in this mode
abbrev pub every : State → Type 0
every s = Unit {0}

abbrev pub InMode : ℕ → State → Type 0
InMode mode s = s.making.mode ≡ mode

-- A flow of the model was made, the rows written to the list are its sends, and the set of used cells follows it.
pub record BackupFlows (among : State → Type 0) (f : State → Flow) (cell n : ℕ) (x : Sending) (r : HistoryRing) (sent : ℕ) (before : BackupTables) (answer : Flown SendHistory) (after : BackupTables) : Type 0 where
  pub members_long : length after.members ≡ length before.members
  pub arrays_long : Long (arrays_in after)
  pub fits : answer.state.ring.length ≤ max_history
  pub few : answer.sent ≤ max_sent
  pub sends : List Sent
  pub written : Wrote sent sends before.list answer.sent after.list
  pub follows : SendFollows cell (entries_of r (arrays_in before)) before.used (entries_of answer.state.ring (arrays_in after)) after.used
  pub flow : (s : State) → among s → s.members ≡ members_of n before.members → s.send ≡ send_of x r (arrays_in before)
      → f s
      ≡ record {
        state = with_send (send_of answer.state.sending answer.state.ring (arrays_in after)) (with_members (members_of n after.members) s);
        sends = sends;
        code = outcome_number answer.outcome;
      }
