-- What is kept of a payload that was sent.
use Rattle.std.specs.Prelude.{◌≡◌, List, ℕ, ◌+◌, Ok}
use Rattle.srt_group_model.specs.State.{Member, entry_of}
use Rattle.srt_group_model.specs.Members.{id_of}
use Rattle.srt_group_model.specs.declared.Sending.{Sending}
use Rattle.srt_group_tables.specs.declared.history.HistoryRing.{HistoryRing}
use Rattle.srt_group_tables.specs.Ring.{Arrays, entries_of}
use Rattle.srt_group_backup.specs.OwnSend.{SendRecorded}
use Rattle.srt_group_sending.specs.declared.flown.Flown.{Flown}
use Rattle.srt_group_backup.specs.declared.trimming.SendHistory.{SendHistory}
use Rattle.srt_group_carrier.specs.Freeing.{SendFollows}

-- the payload that member m has sent is in the history, under the cell
pub record Kept (time size cell sequence : ℕ) (m : Member) (x : Sending) (r : HistoryRing) (sent : ℕ) (a : Arrays) (used : List ℕ) (answer : Flown SendHistory) (b : Arrays) (used' : List ℕ) : Type 0 where
  pub outcome : answer.outcome ≡ Ok tt
  pub rows : answer.sent ≡ sent + 1
  pub recorded : SendRecorded m.leg (id_of m) (entry_of sequence cell size time) x r a answer.state b
  pub follows : SendFollows cell (entries_of r a) used (entries_of answer.state.ring b) used'
