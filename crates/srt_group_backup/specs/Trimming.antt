-- The numbers of sending and the ring of the history as the model's `Send`, and what a trim does to them.
use Rattle.std.specs.Prelude.{◌≡◌, Bool, false, List, ℕ, ◌+◌, ◌%◌, ◌≤◌, eqb, get_or}
use Rattle.srt_protocol.specs.Sequence.{sequence_before}
use Rattle.srt_group_model.specs.Tools.{if_true◌then◌else◌}
use Rattle.srt_group_model.specs.State.{Member, Send, State, with_send}
use Rattle.srt_group_model.specs.Backup.{max_history, trim_by_carrier}
use Rattle.srt_group_model.specs.declared.Sending.{Sending}
use Rattle.srt_group_tables.specs.Ring.{Arrays, word_sequence, send_of}
use Rattle.srt_group_tables.specs.declared.history.HistoryRing.{HistoryRing}
use Rattle.srt_group_backup.specs.declared.trimming.SendHistory.{SendHistory}

-- ---- definitions

-- the front of the ring is after a sequence
unfoldable pub front_after : ℕ → List ℕ → HistoryRing → Bool
front_after sequence history r =
    if_true eqb r.length 0
    then false
    else sequence_before sequence (word_sequence (get_or history ((r.start + 0) % max_history) 0))

-- f is done to what sending moves, over arrays with these words and any source times; the ring is no longer than it was
pub record SendTrimmed (f : Send → Send) (history : List ℕ) (x : Sending) (r : HistoryRing) (answer : SendHistory) : Type 0 where
  pub fits : answer.ring.length ≤ r.length
  pub is : (a : Arrays) → a.history ≡ history → send_of answer.sending answer.ring a ≡ f (send_of x r a)

-- the group's history is trimmed by what its carrier says, and nothing else changes
pub record TrimmedByCarrier (ms : List Member) (history : List ℕ) (x : Sending) (r : HistoryRing) (answer : SendHistory) : Type 0 where
  pub fits : answer.ring.length ≤ r.length
  pub is : (s : State) (a : Arrays) → s.members ≡ ms → a.history ≡ history → s.send ≡ send_of x r a
      → trim_by_carrier s ≡ with_send (send_of answer.sending answer.ring a) s
