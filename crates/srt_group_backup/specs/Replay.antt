-- A replay of the history on a leg: one entry, and a loop over all of them.
use Rattle.std.specs.Prelude.{◌≡◌, List, [], ◌∷◌, ℕ, ◌+◌, ◌*◌, ◌≤◌, Option}
use Rattle.srt_protocol.specs.Cells.{overwritten}
use Rattle.srt_protocol.specs.Errors.{outcome_number}
use Rattle.srt_group_model.specs.Tools.{if_true◌then◌else◌, if_some◌give◌otherwise◌}
use Rattle.srt_group_model.specs.Legs.{send_shared_with_sequence}
use Rattle.srt_group_model.specs.Sending.{sent_row_size, Sent}
use Rattle.srt_group_model.specs.Lent.{list_rows}
use Rattle.srt_group_model.specs.Backup.{max_history, replay_entries}
use Rattle.srt_group_model.specs.declared.Entry.{Entry}
use Rattle.srt_group_model.specs.declared.Leg.{Leg}
use Rattle.srt_group_sending.specs.SentList.{Wrote}
use Rattle.srt_group_sending.specs.declared.flown.Flown.{Flown}

-- ---- definitions

-- the row of an entry that is sent again: its own cell and source time, at the time of the replay
abbrev pub replayed_sent : (time id : ℕ) → Entry → Sent
replayed_sent time id e =
    record { leg = id; sequence = e.sequence; cell = e.cell; source = e.source.0; time = time }

-- the leg that a send of the entry leaves
abbrev pub entry_send : ℕ → Entry → Leg → Option Leg
entry_send time e l = send_shared_with_sequence time e.length e.sequence l

pub record EntryReplayed (time id : ℕ) (e : Entry) (l : Leg) (sent : ℕ) (before : List ℕ) (answer : Option Leg) (after : List ℕ) : Type 0 where
  pub outcome : answer ≡ entry_send time e l
  pub list : after
      ≡ (if_some entry_send time e l
      give (λ k. overwritten (sent * sent_row_size) (list_rows (replayed_sent time id e ∷ [])) before)
      otherwise before)

pub record EntriesReplayed (time id : ℕ) (es : List Entry) (l : Leg) (sent : ℕ) (before : List ℕ) (answer : Flown Leg) (after : List ℕ) : Type 0 where
  pub outcome : outcome_number answer.outcome ≡ (if_true (replay_entries time id es l).whole then 0 else 28)
  pub leg : answer.state ≡ (replay_entries time id es l).leg
  pub written : Wrote sent (replay_entries time id es l).sends before answer.sent after
  pub few : answer.sent ≤ sent + max_history
