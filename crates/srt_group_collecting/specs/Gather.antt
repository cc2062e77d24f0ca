-- The two loops of visits: until there is something to give, and until a sequence is held or every queue is empty. A loop's
-- invariant says that what is left of the definition, from here, gives what the whole gives from the start; the log only grows,
-- and is kept beside the code's state.
use Rattle.std.specs.Prelude.{◌≡◌, Bool, List, ℕ, suc, length}
use Rattle.srt_group_model.specs.declared.Core.{Core}
use Rattle.srt_group_model.specs.Tools.{if_true◌then◌else◌}
use Rattle.srt_group_model.specs.State.{State}
use Rattle.srt_group_model.specs.Run.{Mark, Run}
use Rattle.srt_group_model.specs.Collecting.{collect_until_held, collect_until_empty}
use Rattle.srt_group_model.specs.Delivery.{max_visits}
use Rattle.srt_group_shown.specs.Shown.{Rest}
use Rattle.srt_group_shown.specs.Tables.{ReceiveTables, shown_by}
use Rattle.srt_group_collecting.specs.declared.collecting.Visited.{Visited}
use Rattle.srt_group_collecting.specs.declared.collecting.Emptied.{Emptied}
use Rattle.srt_group_collecting.specs.declared.collecting.Gathered.{Gathered}
use Rattle.srt_group_collecting.specs.Leaves.{Usable, under_way, At}

-- ---- tests of a state that is shown

-- a test of the state, answered from the record alone
pub record Shows (test : State → Bool) (core : Core) (r : Bool) : Type 0 where
  pub is : (others : Rest) (t : ReceiveTables) → r ≡ test (shown_by core others t)

-- ---- a visit until something is held

-- a call under way, as the code's answer and the tables have it
abbrev pub run_of : Visited → Rest → ReceiveTables → List Mark → Run
run_of v others t log = under_way v.core others t log v.budget

-- what one visit leaves, and whether the visits go on
pub record HeldVisit (visits : ℕ) (before : Visited) (t : ReceiveTables) (r : Visited) (t' : ReceiveTables) : Type 0 where
  pub members_long : length t'.members ≡ length t.members
  pub pending_long : length t'.pending ≡ length t.pending
  pub waiting_long : length t'.waiting ≡ length t.waiting
  pub members_same : r.core.counts.members ≡ before.core.counts.members
  pub usable : Usable r.core t'
  pub marks : Rest → List Mark → List Mark
  pub is : (others : Rest) (log : List Mark)
      → collect_until_held (suc visits) (run_of before others t log)
      ≡ (if_true r.more then collect_until_held visits (run_of r others t' (marks others log))
      else run_of r others t' (marks others log))

-- ---- the loop until something is held

pub record Gathers (core : Core) (budget : ℕ) (t : ReceiveTables) (r : Gathered) (t' : ReceiveTables) : Type 0 where
  pub members_long : length t'.members ≡ length t.members
  pub pending_long : length t'.pending ≡ length t.pending
  pub waiting_long : length t'.waiting ≡ length t.waiting
  pub members_same : r.core.counts.members ≡ core.counts.members
  pub usable : Usable r.core t'
  pub run : (others : Rest) (log : List Mark)
      → At (collect_until_held max_visits (under_way core others t log budget)) r.core others t' r.budget

-- ---- the loop until a sequence is held or every queue is empty

-- what the visits leave: over every rest of the state and every log the answer, the state and the budget are the definition's, and the next step
-- may rely on what is left
pub record Empties (sequence : ℕ) (core : Core) (budget : ℕ) (t : ReceiveTables) (r : Emptied) (t' : ReceiveTables) : Type 0 where
  pub members_long : length t'.members ≡ length t.members
  pub pending_long : length t'.pending ≡ length t.pending
  pub waiting_long : length t'.waiting ≡ length t.waiting
  pub members_same : r.core.counts.members ≡ core.counts.members
  pub usable : Usable r.core t'
  pub emptied : (others : Rest) (log : List Mark)
      → (collect_until_empty max_visits sequence (under_way core others t log budget)).emptied ≡ r.emptied
  pub run : (others : Rest) (log : List Mark)
      → At (collect_until_empty max_visits sequence (under_way core others t log budget)).run r.core others t' r.budget
