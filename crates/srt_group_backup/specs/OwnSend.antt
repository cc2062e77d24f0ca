-- What is recorded of the call's own payload, sent on one member: with the send (srt_group_sending's `SentOn`) it makes the model's `send_own`.
use Rattle.std.specs.Prelude.{◌≡◌, ℕ, ◌≤◌}
use Rattle.srt_protocol.specs.Sequence.{sequence_further}
use Rattle.srt_group_model.specs.State.{Member, with_number}
use Rattle.srt_group_model.specs.Members.{id_of}
use Rattle.srt_group_model.specs.Backup.{max_history, record_backup_send}
use Rattle.srt_group_model.specs.declared.Entry.{Entry}
use Rattle.srt_group_model.specs.declared.Leg.{Leg}
use Rattle.srt_group_model.specs.declared.Sending.{Sending}
use Rattle.srt_group_tables.specs.Ring.{Arrays, with_entry, next_place, send_of}
use Rattle.srt_group_tables.specs.declared.history.HistoryRing.{HistoryRing}
use Rattle.srt_group_backup.specs.declared.trimming.SendHistory.{SendHistory}

-- ---- definitions

-- what is recorded of an entry that was sent on a member with this leg and this id
pub record SendRecorded (l : Leg) (carrier : ℕ) (e : Entry) (x : Sending) (r : HistoryRing) (before : Arrays) (answer : SendHistory) (after : Arrays) : Type 0 where
  pub fits : answer.ring.length ≤ max_history
  pub stored : after ≡ with_entry (next_place r) e before
  pub is : (m : Member) → m.leg ≡ l → id_of m ≡ carrier
      → send_of answer.sending answer.ring after
      ≡ record_backup_send m e (send_of (with_number (sequence_further e.sequence 1) x) r before)
