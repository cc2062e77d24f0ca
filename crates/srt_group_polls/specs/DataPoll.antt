-- A data poll makes event polls until one gives no event. The loop's invariant says that what is left of the definition, from here,
-- gives what the whole gives from the start. Over every log and budget, and every rest of the state that the event polls are promised over.
use Rattle.std.specs.Prelude.{◌≡◌, List, ℕ, length, None, Option, Some}
use Rattle.srt_group_model.specs.declared.Core.{Core}
use Rattle.srt_group_model.specs.Tools.{is_set}
use Rattle.srt_group_model.specs.Run.{Mark, Run}
use Rattle.srt_group_model.specs.Polls.{pass_events}
use Rattle.srt_group_model.specs.Polls as model_polls
use Rattle.srt_group_shown.specs.Shown.{Rest, shown}
use Rattle.srt_group_shown.specs.Tables.{ReceiveTables}
use Rattle.srt_group_delivery.specs.declared.delivery.Poll.{Poll}
use Rattle.srt_group_polls.specs.declared.polls.DataPoll.{DataPoll}
use Rattle.srt_group_collecting.specs.Leaves.{Usable, under_way}
use Rattle.srt_group_delivery.specs.Poll.{polled_of}

-- ---- what a data poll gives

-- a data poll of the definition gave this answer, and stands at this record and these tables
pub record GivesData (p : model_polls.DataPoll) (answer : DataPoll) (others : Rest) (t : ReceiveTables) : Type 0 where
  pub gave : p.gave ≡ answer.gave
  pub continuation : p.continuation ≡ is_set answer.continuation
  pub state : p.run.state ≡ shown answer.core others t.members t.pending t.waiting

pub record PollsData (among : Rest → Type 0) (f : Run → model_polls.DataPoll) (core : Core) (t : ReceiveTables) (answer : DataPoll) (t' : ReceiveTables) : Type 0 where
  pub members_long : length t'.members ≡ length t.members
  pub pending_long : length t'.pending ≡ length t.pending
  pub waiting_long : length t'.waiting ≡ length t.waiting
  pub members_same : answer.core.counts.members ≡ core.counts.members
  pub usable : Usable answer.core t'
  pub run : (others : Rest) → among others → (log : List Mark) (budget : ℕ)
      → GivesData (f (under_way core others t log budget)) answer others t'

-- ---- an event is passed over

-- what a data poll gives with its event polls spent, the last of which gave an event
abbrev pub spent_at : Core → DataPoll
spent_at core = record { gave = None; continuation = 1; core = core }

-- the data poll ends with this event poll, which gave no event
pub record Ends (poll : Poll) (answer : DataPoll) : Type 0 where
  pub core_same : answer.core ≡ poll.core
  pub ended : (run : Run) (rest : model_polls.DataPoll)
      → run.state.visit.continuation ≡ poll.core.visit.continuation
      → pass_events (polled_of poll.gave) run rest ≡ record { gave = answer.gave; continuation = is_set answer.continuation; run = run }

-- an event poll gave an event, and the next is made, or it gave none, and the data poll ends with it
abbrev pub Passes : Poll → Option DataPoll → Type 0
Passes poll None = (run : Run) (rest : model_polls.DataPoll) → pass_events (polled_of poll.gave) run rest ≡ rest
Passes poll (Some answer) = Ends poll answer
