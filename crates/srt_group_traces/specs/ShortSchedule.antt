-- Premises on the calls alone. Where a schedule has less than 2^30 packets in all, `short_schedule_is_fair` in laws derives those of
-- the second claim (`Fair` of Statement) from what is queued, which a host knows, instead of what is collected.
use Rattle.std.specs.Prelude.{◌≡◌, List, [], ◌∷◌, ◌++◌, ℕ, ◌<◌, Some}
use Rattle.srt_protocol.specs.Sequence.{half}
use Rattle.srt_group_model.specs.Tools.{All}
use Rattle.srt_group_model.specs.State.{State, next_receive_sequence, Making}
use Rattle.srt_group_model.specs.Lent.{call_queue_data}
use Rattle.srt_group_model.specs.declared.Data.{Data}
use Rattle.srt_group_traces.specs.Statement.{Asked, do_call, Delivery, with_payload, state_after, counts_of, pass_to, OneStore}
use Rattle.srt_group_model.specs.Calls.{new}

-- a call that queues no data
abbrev pub QueuesNone : Asked → Type 0
QueuesNone asked = (id : ℕ) (d : Data) (payload : List ℕ) → asked.call ≡ call_queue_data id d payload → ⊥

-- a packet of the schedule
abbrev pub Scheduled : List Delivery → Delivery → Type 0
Scheduled schedule x = (place : ℕ) × (rest : List Delivery) × (pass_to schedule place ≡ Some (x ∷ rest))

-- an accepted call that queues data is given a packet of the schedule
abbrev pub QueuesScheduled : List Delivery → Asked → State → Type 0
QueuesScheduled schedule asked s =
    (id : ℕ) (d : Data) (payload : List ℕ) → asked.call ≡ call_queue_data id d payload → (do_call asked s).code ≡ 0
    → Scheduled schedule (with_payload d payload)

-- each call of a list
abbrev pub AllScheduled : List Delivery → List Asked → State → Type 0
AllScheduled schedule [] s = Unit {0}
AllScheduled schedule (call ∷ more) s = QueuesScheduled schedule call s × AllScheduled schedule more (do_call call s).state

-- A schedule of less than 2^30 packets in all, a list of calls of which those before queue no data and leave the base at the
-- schedule's start, all data queued from the schedule, and one store. Nearness and the skipped count need no premise then.
pub record FairCalls (schedule : List Delivery) (first : ℕ) (g : Making) (before after : List Asked) : Type 0 where
  pub short : counts_of schedule < half
  pub none_queued : All QueuesNone before
  pub set : next_receive_sequence (state_after before (new g)).receive ≡ Some first
  pub scheduled : AllScheduled schedule (before ++ after) (new g)
  pub store : List ℕ
  pub one_store : OneStore store (before ++ after) (new g)
