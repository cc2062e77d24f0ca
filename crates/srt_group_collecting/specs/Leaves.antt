-- What a step of a poll does to the record's numbers and the lent tables: the state that they show afterwards is the definition's,
-- over every rest of the state, since receiving reads none of it.
use Rattle.std.specs.Prelude.{◌≡◌, List, ℕ, ◌≤◌, length}
use Rattle.srt_group_model.specs.declared.Core.{Core}
use Rattle.srt_group_model.specs.declared.Sending.{Sending}
use Rattle.srt_group_model.specs.State.{State}
use Rattle.srt_group_model.specs.Run.{Mark, Run}
use Rattle.srt_group_model.specs.Sound.{Sound}
use Rattle.srt_group_model.specs.Validity.{max_waiting, max_members}
use Rattle.srt_connection_members.specs.Members.{members_size}
use Rattle.srt_group_tables.specs.Packets.{pending_size}
use Rattle.srt_group_tables.specs.Waitings.{waiting_size}
use Rattle.srt_group_shown.specs.Shown.{Rest, blank}
use Rattle.srt_group_shown.specs.Tables.{ReceiveTables, shown_by}

-- over which rests of the state a step is promised: every one, or those with the numbers of sending that it reads
abbrev pub every : Rest → Type 0
every others = Unit {0}

abbrev pub sends : Sending → Rest → Type 0
sends sending others = others.send.numbers ≡ sending

-- ---- what a step may rely on

-- the tables are long enough, the counts within their limits, and the state sound, over a blank rest, as receiving reads none
pub record Usable (core : Core) (t : ReceiveTables) : Type 0 where
  pub members_long : members_size ≤ length t.members
  pub pending_long : pending_size ≤ length t.pending
  pub waiting_long : waiting_size ≤ length t.waiting
  pub members_few : core.counts.members ≤ max_members
  pub waiting_few : core.counts.waiting ≤ max_waiting
  pub sound : Sound (shown_by core blank t)

-- ---- what a step leaves

pub record Leaves (f : State → State) (core : Core) (t : ReceiveTables) (after : Core) (t' : ReceiveTables) : Type 0 where
  pub members_long : length t'.members ≡ length t.members
  pub pending_long : length t'.pending ≡ length t.pending
  pub waiting_long : length t'.waiting ≡ length t.waiting
  pub members_same : after.counts.members ≡ core.counts.members
  pub state : (others : Rest) → f (shown_by core others t) ≡ shown_by after others t'

-- a call under way, at this record and these tables
abbrev pub under_way : Core → Rest → ReceiveTables → List Mark → ℕ → Run
under_way core others t log budget = record { state = shown_by core others t; log = log; budget = budget }

-- a call under way stands at this record and these tables, with so much of its budget left
pub record At (r : Run) (core : Core) (others : Rest) (t : ReceiveTables) (left : ℕ) : Type 0 where
  pub state : r.state ≡ shown_by core others t
  pub budget : r.budget ≡ left
