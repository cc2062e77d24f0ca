-- The skip over a gap that is given up, and the delivery at the base: what they give and leave, over every rest of the state and log. Nothing
-- reads the budget after the queues are collected, so that it is not said what is left of it.
use Rattle.std.specs.Prelude.{◌≡◌, List, ℕ, length}
use Rattle.srt_group_model.specs.declared.Core.{Core}
use Rattle.srt_group_model.specs.Run.{Mark, Run}
use Rattle.srt_group_model.specs.Delivery as model
use Rattle.srt_group_shown.specs.Shown.{Rest, shown}
use Rattle.srt_group_shown.specs.Tables.{ReceiveTables}
use Rattle.srt_group_delivery.specs.declared.delivery.Poll.{Poll}
use Rattle.srt_group_collecting.specs.Leaves.{Usable, under_way}
use Rattle.srt_group_delivery.specs.Poll.{polled_of}

-- a poll of the definition gave this answer, and stands at this record and these tables
pub record GivesState (p : model.Poll) (answer : Poll) (others : Rest) (t : ReceiveTables) : Type 0 where
  pub gave : p.gave ≡ polled_of answer.gave
  pub state : p.run.state ≡ shown answer.core others t.members t.pending t.waiting

-- a step that gives something and may collect before it, with so much of the budget left
pub record PollsFrom (among : Rest → Type 0) (f : Run → model.Poll) (core : Core) (budget : ℕ) (t : ReceiveTables) (answer : Poll) (t' : ReceiveTables) : Type 0 where
  pub members_long : length t'.members ≡ length t.members
  pub pending_long : length t'.pending ≡ length t.pending
  pub waiting_long : length t'.waiting ≡ length t.waiting
  pub members_same : answer.core.counts.members ≡ core.counts.members
  pub usable : Usable answer.core t'
  pub run : (others : Rest) → among others → (log : List Mark) → GivesState (f (under_way core others t log budget)) answer others t'
