-- What a visit of the legs leaves: one event, of the first member in turn, is held, discarded or reported.
use Rattle.std.specs.Prelude.{◌≡◌, true, List, [], ℕ, ◌+◌, ◌*◌, ◌≤◌, ◌<◌, eqb, length}
use Rattle.srt_group_model.specs.declared.Core.{Core}
use Rattle.srt_group_model.specs.declared.Event.{Event}
use Rattle.srt_group_model.specs.Tools.{if_true◌then◌else◌}
use Rattle.srt_group_model.specs.State.{Receive, State}
use Rattle.srt_group_model.specs.Cells.{is_data}
use Rattle.srt_group_model.specs.Run.{Mark, Run}
use Rattle.srt_group_model.specs.Collecting.{retain_group_packet, report_event, Visited as VisitedRun, packet_from, waiting_from}
use Rattle.srt_group_model.specs.Validity.{max_waiting}
use Rattle.srt_connection_queue.specs.Rows.{row_size}
use Rattle.srt_connection_members.specs.Members.{member_at, HasRow}
use Rattle.srt_group_tables.specs.Waitings.{waiting_size}
use Rattle.srt_group_shown.specs.Shown.{Rest}
use Rattle.srt_group_shown.specs.Tables.{ReceiveTables, shown_by}
use Rattle.cell_set.specs.Shows.{freed_by}
use Rattle.srt_group_collecting.specs.declared.collecting.Visited.{Visited}
use Rattle.srt_group_collecting.specs.Leaves.{Usable, Leaves, under_way}
use Rattle.srt_group_collecting.specs.Collect.{Holdable}

-- ---- definitions

-- what an event of the member at a place makes of a state
unfoldable pub collect_event : (place id : ℕ) → Event → State → State
collect_event i id e s =
    if_true eqb e.kind 0 then retain_group_packet i (packet_from id e) s else report_event i (waiting_from id e) s

-- the cell that it frees: that of a packet that is discarded
unfoldable pub freed_by_event : (id : ℕ) → Event → Receive → List ℕ
freed_by_event id e x = if_true eqb e.kind 0 then freed_by (packet_from id e) x else []

-- ---- what a call may rely on, and what it leaves

pub record Collectable (i id : ℕ) (e : Event) (core : Core) (t : ReceiveTables) : Type 0 where
  pub there : HasRow i t.members
  pub members_long : core.counts.members * row_size ≤ length t.members
  pub waiting_long : waiting_size ≤ length t.waiting
  pub waiting_few : core.counts.waiting < max_waiting
  pub holdable : is_data e ≡ true → Holdable core.counts.pending t.pending (packet_from id e) (member_at t.members i)

pub record Collected (i id : ℕ) (e : Event) (core : Core) (t : ReceiveTables) (after : Core) (t' : ReceiveTables) : Type 0 where
  pub waiting_more : after.counts.waiting ≤ core.counts.waiting + 1
  pub leaves : Leaves (collect_event i id e) core t after t'

-- a step that visits legs: over every rest of the state and every log the answer, the state and the budget are the definition's, and at most
-- so many events wait
pub record Visits (most : ℕ) (f : Run → VisitedRun) (core : Core) (budget : ℕ) (t : ReceiveTables) (r : Visited) (t' : ReceiveTables) : Type 0 where
  pub members_long : length t'.members ≡ length t.members
  pub pending_long : length t'.pending ≡ length t.pending
  pub waiting_long : length t'.waiting ≡ length t.waiting
  pub members_same : r.core.counts.members ≡ core.counts.members
  pub waiting_most : r.core.counts.waiting ≤ most
  pub more : (others : Rest) (log : List Mark) → (f (under_way core others t log budget)).took ≡ r.more
  pub state : (others : Rest) (log : List Mark) → (f (under_way core others t log budget)).run.state ≡ shown_by r.core others t'
  pub left : (others : Rest) (log : List Mark) → (f (under_way core others t log budget)).run.budget ≡ r.budget

-- and the next step may rely on what it leaves
pub record Collects (most : ℕ) (f : Run → VisitedRun) (core : Core) (budget : ℕ) (t : ReceiveTables) (r : Visited) (t' : ReceiveTables) : Type 0 where
  pub visits : Visits most f core budget t r t'
  pub usable : Usable r.core t'
