-- A leg's queue of events, as a ring in its row, and document 01's "Polling".
use Rattle.srt_protocol.specs.Errors.{Outcome}
use Rattle.std.specs.Prelude.{◌≡◌, List, [], ◌∷◌, ℕ, ◌-◌, leb, eqb, length, drop, Ok}
use Rattle.srt_protocol.specs.Errors.{refuse_if, if_accepted}
use Rattle.srt_protocol.specs.declared.error.Error.TheVariants.{QueueFull}
use Rattle.srt_group_model.specs.Tools.{if_true◌then◌else◌}
use Rattle.srt_group_model.specs.Calls.{enqueue}
use Rattle.srt_group_model.specs.State.{Member, with_queue}
use Rattle.srt_group_model.specs.Validity.{max_queued}
use Rattle.srt_group_model.specs.declared.Event.{Event}
use Rattle.srt_connection_queue.specs.declared.queue.LegPoll.{LegPoll}
use Rattle.srt_connection_queue.specs.declared.queue.LegPoll.TheVariants.{Nothing, Continuation, Event as PolledEvent}
use Rattle.srt_connection_queue.specs.Rows.{Kept}

-- ---- definitions

-- the front event goes
abbrev pub popped : Member → Member
popped m = with_queue (drop 1 m.queue) m

-- the queue is dropped
abbrev pub cleared : Member → Member
cleared m = with_queue [] m

-- 31: the queue has max-queued events
abbrev pub push_outcome : Member → Outcome
push_outcome m = refuse_if (leb max_queued (length m.queue)) QueueFull (Ok tt)

pub record Pushed (m : Member) (e : Event) (answer : Outcome) (row : List ℕ) : Type 0 where
  pub outcome : answer ≡ push_outcome m
  pub kept : Kept row (if_accepted answer (enqueue e m) m)

-- data lowers the budget by one
abbrev pub budget_after : Event → ℕ → ℕ
budget_after e budget = if_true eqb e.kind 0 then budget - 1 else budget

-- Document 01, "Polling": empty queue, nothing; budget 0 and a queue not empty, nothing, continuation yes; else the front event,
-- continuation no, and data lowers the budget by one
unfoldable pub leg_poll : ℕ → List Event → LegPoll
leg_poll budget [] = Nothing
leg_poll budget (e ∷ q) =
    if_true eqb budget 0 then Continuation else PolledEvent e (budget_after e budget)

-- the front event goes where one is given
unfoldable pub queue_after : ℕ → List Event → List Event
queue_after budget q = if_true eqb budget 0 then q else drop 1 q

pub record Polled (m : Member) (budget : ℕ) (answer : LegPoll) (row : List ℕ) : Type 0 where
  pub gave : answer ≡ leg_poll budget m.queue
  pub kept : Kept row (with_queue (queue_after budget m.queue) m)
