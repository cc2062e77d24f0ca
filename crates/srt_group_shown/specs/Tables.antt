-- The parts of the group's record and the lent tables, each as one, and the state that they show: document 01's lent state.
use Rattle.std.specs.Prelude.{◌≡◌, List, ℕ, ◌≤◌, length}
use Rattle.srt_group_model.specs.declared.Core.{Core}
use Rattle.srt_group_model.specs.declared.Identity.{Identity}
use Rattle.srt_group_model.specs.declared.Sending.{Sending}
use Rattle.srt_group_model.specs.State.{State}
use Rattle.srt_group_model.specs.Backup.{max_history}
use Rattle.srt_connection_members.specs.Members.{members_size}
use Rattle.srt_group_tables.specs.Packets.{pending_size}
use Rattle.srt_group_tables.specs.Waitings.{waiting_size}
use Rattle.srt_group_tables.specs.declared.history.HistoryRing.{HistoryRing}
use Rattle.srt_group_tables.specs.Ring.{arrays, entries_of}
use Rattle.srt_group_shown.specs.Shown.{Rest, rest, shown}

-- the record's parts, by who moves them: fixed at creation; what a poll carries through; what sending moves; the history's places
pub record Parts : Type 0 where
  pub identity : Identity
  pub core : Core
  pub sending : Sending
  pub ring : HistoryRing

abbrev pub parts : Identity → Core → Sending → HistoryRing → Parts
parts identity core sending ring = record { identity = identity; core = core; sending = sending; ring = ring }

-- the lent tables: members with their legs and queues, held packets, waiting events, and the history's words and source times
pub record Tables : Type 0 where
  pub members : List ℕ
  pub pending : List ℕ
  pub waiting : List ℕ
  pub history : List ℕ
  pub sources : List ℕ

abbrev pub tables : (members pending waiting history sources : List ℕ) → Tables
tables members pending waiting history sources =
    record { members = members; pending = pending; waiting = waiting; history = history; sources = sources }

-- the three that receiving moves
pub record ReceiveTables : Type 0 where
  pub members : List ℕ
  pub pending : List ℕ
  pub waiting : List ℕ

abbrev pub receive_tables : (members pending waiting : List ℕ) → ReceiveTables
receive_tables members pending waiting = record { members = members; pending = pending; waiting = waiting }

abbrev pub shown_by : Core → Rest → ReceiveTables → State
shown_by core others t = shown core others t.members t.pending t.waiting

abbrev pub rest_of : Parts → Tables → Rest
rest_of p t = rest p.identity p.sending (entries_of p.ring (arrays t.history t.sources))

abbrev pub state_of : Parts → Tables → State
state_of p t = shown p.core (rest_of p t) t.members t.pending t.waiting

-- each table is long enough
pub record Long (t : Tables) : Type 0 where
  pub members : members_size ≤ length t.members
  pub pending : pending_size ≤ length t.pending
  pub waiting : waiting_size ≤ length t.waiting
  pub history : length t.history ≡ max_history
  pub sources : length t.sources ≡ max_history
