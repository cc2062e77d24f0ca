-- Demand 3 in one file, for a planner: calls and what they deliver, the marks that they leave, the schedule, the clerk, the premises,
-- a right skip, two gateways; and, at the end, the record of claims, each under the customer's or document 01's sentence. All
-- of it is definitions; the proof of the record is `history_theorem` in laws.
use Rattle.std.specs.Prelude.{◌≡◌, Bool, true, false, ◌&&◌, List, [], ◌∷◌, ◌++◌, ℕ, zero, suc, ◌+◌, ◌-◌, ◌%◌, ◌≤◌, ◌<◌, min, leb, eqb, ◌⊎◌, length, take, drop, None, Option, Some}
use Rattle.srt_protocol.specs.Sequence.{half, sequence_distance, sequence_further}
use Rattle.srt_group_model.specs.Tools.{if_true◌then◌else◌, if_some◌give◌otherwise◌, is_set, or_else, All}
use Rattle.srt_group_model.specs.State.{Member, State, next_receive_sequence, with_continuation, Making}
use Rattle.srt_group_model.specs.Legs.{largest_64}
use Rattle.srt_group_model.specs.Nearest.{sequence_of, is_held, nearest}
use Rattle.srt_group_model.specs.Run.{Mark, put, base_set, collected, gap_skipped, delivered, Run, start, refresh_pending_states, refresh_states}
use Rattle.srt_group_model.specs.Collecting.{collect_until_held, collect_until_empty}
use Rattle.srt_group_model.specs.Delivery.{max_visits, gap_given_up}
use Rattle.srt_group_model.specs.Polls.{delivery_budget, poll_event}
use Rattle.srt_group_model.specs.Lent.{Call, delivered_by, Lent, Result, call_queue_data, takes, perform}
use Rattle.srt_group_model.specs.declared.Data.{Data}
use Rattle.srt_group_model.specs.declared.Packet.{Packet}
use Rattle.srt_protocol.specs.Cells.{head_size, cells_of}
use Rattle.srt_group_model.specs.Calls.{new, data_event, taken_cell}
use Rattle.srt_group_model.specs.Queued.{queued_at, collected_from}

-- ---- a call

-- a call of the model, with the store, the output and the list of sends that it is lent; and what it does
pub record Asked : Type 0 where
  pub call : Call
  pub lent : Lent

unfoldable pub do_call : Asked → State → Result
do_call asked s = perform asked.call asked.lent s

-- by the model's table: the calls that are lent a store; the polls, no other call delivers; and the time of a poll
unfoldable pub takes_store : Call → Bool
takes_store call = (takes call).store

unfoldable pub is_poll : Call → Bool
is_poll call = (takes call).output

unfoldable pub time_of : Call → ℕ
time_of call = (takes call).time

-- what a poll gives, and what a schedule lists: the sequence, the count and the payload
pub record Delivery : Type 0 where
  pub sequence : ℕ
  pub count : ℕ
  pub payload : List ℕ

abbrev pub with_payload : Data → List ℕ → Delivery
with_payload d payload = record { sequence = d.sequence; count = d.count; payload = payload }

-- the payload as it stands in the output, from byte 12 on
abbrev pub delivery_of : Packet → List ℕ → Delivery
delivery_of p output = with_payload p.content (take p.content.length (drop head_size output))

-- nothing, or one packet
unfoldable pub given_by : Result → List Delivery
given_by r = if_some delivered_by r.answer give (λ p. delivery_of p r.lent.output ∷ []) otherwise []

-- ---- lists of calls, each from the state that the last one left

-- the state that they leave, all their marks, newest first, and all that they delivered, in order
unfoldable pub state_after : List Asked → State → State
state_after [] s = s
state_after (call ∷ more) s = state_after more (do_call call s).state

unfoldable pub log_after : List Asked → State → List Mark
log_after [] s = []
log_after (call ∷ more) s = log_after more (do_call call s).state ++ (do_call call s).log

unfoldable pub deliveries : List Asked → State → List Delivery
deliveries [] s = []
deliveries (call ∷ more) s = given_by (do_call call s) ++ deliveries more (do_call call s).state

-- the delivered packet counts, and the skipped count
unfoldable pub counts_of : List Delivery → ℕ
counts_of [] = 0
counts_of (x ∷ xs) = x.count + counts_of xs

abbrev pub skipped_in : State → ℕ
skipped_in s = s.receive.numbers.skipped

-- from a new group: the state that they reach, their marks, what they deliver, and the place of the base, counted unreduced
module _ (g : Making) (calls : List Asked) where
  abbrev pub reached : State
  reached = state_after calls (new g)

  abbrev pub marks : List Mark
  marks = log_after calls (new g)

  abbrev pub delivered_list : List Delivery
  delivered_list = deliveries calls (new g)

  abbrev pub place_of_base : ℕ
  place_of_base = counts_of delivered_list + skipped_in reached

-- ---- marks, newest first

-- what each kind of mark does to the value of the older ones
module _ {A : Type 0} (none_yet : A) (puts : ℕ → List ℕ → A → A) (sets : ℕ → A → A) (collects : A → A) (skips delivers : ℕ → A → A) where
  abbrev pub fold_marks : List Mark → A
  fold_marks [] = none_yet
  fold_marks (put cell payload ∷ log) = puts cell payload (fold_marks log)
  fold_marks (base_set base ∷ log) = sets base (fold_marks log)
  fold_marks (collected p ∷ log) = collects (fold_marks log)
  fold_marks (gap_skipped tested time distance ∷ log) = skips distance (fold_marks log)
  fold_marks (delivered p ∷ log) = delivers p.content.count (fold_marks log)

-- the payload last put into a cell
unfoldable pub last_put : List Mark → ℕ → List ℕ
last_put log cell =
    fold_marks [] (λ c payload last. if_true eqb c cell then payload else last) (λ base x. x) (λ x. x) (λ distance x. x) (λ count x. x) log

-- the first value of the base, if it was set: the one at the moment of setting
unfoldable pub first_base : List Mark → Option ℕ
first_base = fold_marks None (λ cell payload x. x) (λ base first. or_else first (Some base)) (λ x. x) (λ distance x. x) (λ count x. x)

-- how many packets were collected; the distances of the skips; the counts of the packets delivered
unfoldable pub packets_collected : List Mark → ℕ
packets_collected = fold_marks 0 (λ cell payload n. n) (λ base n. n) suc (λ distance n. n) (λ count n. n)

unfoldable pub total_skipped : List Mark → ℕ
total_skipped = fold_marks 0 (λ cell payload n. n) (λ base n. n) (λ n. n) (λ distance n. n + distance) (λ count n. n)

unfoldable pub total_delivered : List Mark → ℕ
total_delivered = fold_marks 0 (λ cell payload n. n) (λ base n. n) (λ n. n) (λ distance n. n) (λ count n. n + count)

-- the base's place, also within a call: how far it has gone from its first value
abbrev pub place_after : List Mark → ℕ
place_after log = total_delivered log + total_skipped log

-- the marks have this one, and these are older
abbrev pub Marked : List Mark → Mark → List Mark → Type 0
Marked log mark older = (newer : List Mark) × (log ≡ newer ++ (mark ∷ older))

-- ---- a schedule

-- Document 01: a schedule's packet is sequence, count (at least 1, also where it is never collected) and payload, its place the
-- counts before it added up. Runs one after the other, the first of them at `place` from the sequence `first` on; the
-- sequences wrap, the places do not.
abbrev pub RunsFrom : (first place : ℕ) → List Delivery → Type 0
RunsFrom first place [] = Unit {0}
RunsFrom first place (x ∷ xs) = (x.sequence ≡ sequence_further first place) × (1 ≤ x.count) × RunsFrom first (place + x.count) xs

-- a schedule that starts at a sequence
abbrev pub Consecutive : ℕ → List Delivery → Type 0
Consecutive first schedule = RunsFrom first 0 schedule

-- The packets from the place n on: past those whose counts add up to n, if there are such.
unfoldable pub pass_to : List Delivery → ℕ → Option (List Delivery)
pass_to [] n = if_true eqb n 0 then Some [] else None
pass_to (x ∷ xs) n =
    let later = pass_to xs (n - x.count) in
    if_true eqb n 0 then Some (x ∷ xs) else (if_true leb x.count n then later else None)

-- ---- the clerk

-- Document 01: the clerk of a schedule starts at place 0 and is fed with the calls alone.

-- What he is told after a call: the skipped count, and whether a packet was delivered.
pub record Told : Type 0 where
  pub skipped : ℕ
  pub delivered : Bool

unfoldable pub told_by : List Asked → State → List Told
told_by [] s = []
told_by (call ∷ more) s =
    record {
      skipped = skipped_in (do_call call s).state;
      delivered = if_some delivered_by (do_call call s).answer give (λ p. true) otherwise false;
    }
    ∷ told_by more (do_call call s).state

-- how he went: what he gave, and the packets then before him
pub record Went : Type 0 where
  pub gave : List Delivery
  pub left : List Delivery

-- He gives the next packet and goes past it. With none before him, or no packets whose counts add up to the rise, he has no answer.
unfoldable pub give_next : Option (List Delivery) → (List Delivery → Option Went) → Option Went
give_next None go_on = None
give_next (Some []) go_on = None
give_next (Some (x ∷ xs)) go_on =
    if_some go_on xs give (λ (w : Went). Some record { gave = x ∷ w.gave; left = w.left }) otherwise None

-- The packets before him, the skipped count that he knows, and what he is told, in order. At a delivery he passes the packets
-- whose counts add up to the count's rise, gives the next and goes past it. Other calls leave him there.
unfoldable pub clerk : List Delivery → ℕ → List Told → Option Went
clerk ahead known [] = Some record { gave = []; left = ahead }
clerk ahead known (told ∷ more) =
    if_true told.delivered
    then give_next (pass_to ahead (told.skipped - known)) (λ xs. clerk xs told.skipped more)
    else clerk ahead told.skipped more

-- ---- the premises

-- Of the schedule, counted along it, less than half a circle from the base's place on either side.
pub record Near (schedule : List Delivery) (base : ℕ) (x : Delivery) : Type 0 where
  pub place : ℕ
  pub rest : List Delivery
  pub here : pass_to schedule place ≡ Some (x ∷ rest)
  pub not_far_ahead : place < base + half
  pub not_far_behind : base < place + half

-- THE PREMISE on the base: before a packet was collected the base was set, to `first`.
abbrev pub SetBefore : ℕ → List Mark → Type 0
SetBefore first log = (p : Packet) (older : List Mark) → Marked log (collected p) older → first_base older ≡ Some first

-- THE PREMISE on the packets: each was near when it was collected, taken as it was queued.
abbrev pub AllNear : List Delivery → List Mark → Type 0
AllNear schedule log =
    (p : Packet) (older : List Mark) → Marked log (collected p) older
    → Near schedule (place_after older) (with_payload p.content (last_put older p.content.cell))

-- an accepted call that is lent a store is lent this one
abbrev pub LendsThis : List ℕ → Asked → State → Type 0
LendsThis store call s = takes_store call.call ≡ true → (do_call call s).code ≡ 0 → call.lent.store ≡ store

-- and leaves it so
unfoldable pub store_left : List ℕ → Asked → State → List ℕ
store_left store asked s =
    if_true takes_store asked.call && eqb (do_call asked s).code 0 then (do_call asked s).lent.store else store

-- THE PREMISE on the store: each accepted call that is lent a store is lent the one that stands, as the calls before it left it.
abbrev pub OneStore : List ℕ → List Asked → State → Type 0
OneStore store [] s = Unit {0}
OneStore store (call ∷ more) s = LendsThis store call s × OneStore (store_left store call s) more (do_call call s).state

-- All premises of the claims on a schedule; `below`: the skipped count is below its ceiling.
pub record Fair (schedule : List Delivery) (first : ℕ) (g : Making) (calls : List Asked) : Type 0 where
  pub set_before : SetBefore first (marks g calls)
  pub near : AllNear schedule (marks g calls)
  pub below : skipped_in (reached g calls) < largest_64
  pub store : List ℕ
  pub one_store : OneStore store calls (new g)

-- ---- a right skip

-- the time of a call and the state that it began with
pub record When : Type 0 where
  pub time : ℕ
  pub from : State

abbrev pub when_of : Call → State → When
when_of call s = record { time = time_of call; from = s }

-- an event poll under way when it makes its give-up test: after its collecting and its two refreshes
unfoldable pub run_at_test : Run → Run
run_at_test r =
    refresh_states
    (collect_until_held max_visits
    (refresh_pending_states record { state = with_continuation false r.state; log = r.log; budget = delivery_budget }))

-- a call under way after so many event polls
unfoldable pub after_polls : (time polls : ℕ) → Run → Run
after_polls time zero r = r
after_polls time (suc polls) r = (poll_event time (after_polls time polls r)).run

-- One of the event polls of this call made its test of the state `tested`, and then collected the queues, which left `gathered`.
pub record AtTest (when : When) (base : ℕ) (tested gathered : State) : Type 0 where
  pub polls : ℕ
  pub is : tested ≡ (run_at_test (after_polls when.time polls (start when.from))).state
  pub gathers :
      gathered ≡ (collect_until_empty max_visits base (run_at_test (after_polls when.time polls (start when.from)))).run.state

-- A skip of a call over so far a distance; `gave` is the packet that the call gave, s the state that it leaves. Document 01's give-up
-- test, for the packet nearest then, was true at the poll's time, of the state that one of the call's event polls had after
-- its collecting and refreshes; `gathered` is what that event poll had after it had collected the queues.
pub record RightSkip (when : When) (gave : Option Packet) (s : State) (tested : State) (time distance : ℕ) : Type 0 where
  pub in_time : time ≡ when.time
  pub gathered : State
  pub base : ℕ
  pub at_test : AtTest when base tested gathered
  pub based : next_receive_sequence tested.receive ≡ Some base
  pub missing : is_held base tested.receive.pending ≡ false
  pub complete : is_set tested.visit.continuation ≡ false
  pub given_up : gap_given_up time tested ≡ true
  pub still_missing : is_held base gathered.receive.pending ≡ false
  pub given : Packet
  pub nearest_now : nearest gathered.receive.pending ≡ Some given
  pub far : distance ≡ sequence_distance base (sequence_of given)
  pub gives : gave ≡ Some given
  pub past : next_receive_sequence s.receive ≡ Some (sequence_further (sequence_of given) given.content.count)
  pub empty : All (λ (m : Member). m.queue ≡ []) s.members
  pub none_waiting : s.waiting ≡ []

-- A call from s that raised the skipped count, by what it gave and what it left: it was a poll, made a right skip at its own time,
-- and the count rose by the distance that the base went, up to its ceiling.
pub record Raised (s : State) (call : Call) (gave : Option Packet) (after : State) : Type 0 where
  pub poll : is_poll call ≡ true
  pub tested : State
  pub distance : ℕ
  pub right : RightSkip (when_of call s) gave after tested (time_of call) distance
  pub rise : skipped_in after ≡ min (skipped_in s + distance) largest_64

-- ---- two gateways

-- one list is a beginning of the other
abbrev pub Prefix : List Delivery → List Delivery → Type 0
Prefix xs ys = (rest : List Delivery) × (xs ++ rest ≡ ys)

-- the calls up to the next skip: up to the first that raises the skipped count, without it
unfoldable pub until_skip : List Asked → State → List Asked
until_skip [] s = []
until_skip (call ∷ more) s =
    let later = until_skip more (do_call call s).state in
    if_true eqb (skipped_in (do_call call s).state) (skipped_in s) then call ∷ later else []

-- a group with its calls up to some time, and those after it
pub record Gateway (schedule : List Delivery) (first : ℕ) : Type 0 where
  pub making : Making
  pub before : List Asked
  pub after : List Asked
  pub fair : Fair schedule first making (before ++ after)

module _ (schedule : List Delivery) (first : ℕ) where
  -- the place at which it stands then, and what it delivers from then on, up to its next skip
  abbrev pub stands_at : Gateway schedule first → ℕ
  stands_at w = place_of_base w.making w.before

  abbrev pub delivers : Gateway schedule first → List Delivery
  delivers w =
      deliveries (until_skip w.after (reached w.making w.before)) (reached w.making w.before)

-- ---- as it was queued

-- An accepted call of the list was given this packet to queue: on its leg, its data, in the cell that the call took, and its payload.
pub record AsQueued (g : Making) (calls : List Asked) (payload : List ℕ) (p : Packet) : Type 0 where
  pub before : List Asked
  pub after : List Asked
  pub id : ℕ
  pub given : Data
  pub lent : Lent
  pub is : calls ≡ before ++ (record { call = call_queue_data id given payload; lent = lent } ∷ after)
  pub accepted : (do_call record { call = call_queue_data id given payload; lent = lent } (reached g before)).code ≡ 0
  pub leg : p.member ≡ id
  pub as_given :
      p.content ≡ (data_event (taken_cell (cells_of (length lent.store)) (reached g before)) (length payload) given).content

-- ---- the claims

pub record HistoryTheorem : Type 0 where
  -- "After it, modulo 2^31, the receive base less its first value equals the delivered packet counts plus the skipped count, if
  -- ... that count is below its ceiling." The first value is the one at the moment of setting; a base that is set has one. That
  -- it was set before a packet was collected is not needed here.
  pub base : (g : Making) (calls : List Asked) (base : ℕ) → next_receive_sequence (reached g calls).receive ≡ Some base
      → (first : ℕ) × (first_base (marks g calls) ≡ Some first)
      × (skipped_in (reached g calls) < largest_64 → sequence_distance first base ≡ place_of_base g calls % (half + half))
  -- While none is set, there is no first value, and nothing was delivered or skipped.
  pub unset : (g : Making) (calls : List Asked) → next_receive_sequence (reached g calls).receive ≡ None
      → (first_base (marks g calls) ≡ None) × (place_of_base g calls ≡ 0)
  -- "If also the packets collected come from one schedule of consecutive runs starting there, each, counted along it, less than
  -- 2^30 from the base on either side when collected, and each accepted call that is lent a store is lent the same one, which
  -- nobody else writes, the delivered list equals that of 01's clerk, byte for byte." The clerk is fed with the calls alone. He
  -- has an answer only if there are packets whose counts add up to each rise of the skipped count: that there are is claimed.
  -- "The base's place is his": what is left before him is the schedule from there on.
  pub schedule : (schedule : List Delivery) (first : ℕ) → Consecutive first schedule → (g : Making) (calls : List Asked)
      → Fair schedule first g calls
      → (left : List Delivery) × (pass_to schedule (place_of_base g calls) ≡ Some left)
      × (clerk schedule 0 (told_by calls (new g)) ≡ Some record { gave = delivered_list g calls; left = left })
  -- "Every skip passes 01's give-up test and ends with empty leg queues." By what a host sees: a call that raises the skipped
  -- count was a poll. The test was made at the poll's time, of the state that the poll then had: its base was set and not
  -- held, it asked for no continuation, and the test was true for the packet nearest in it. After collecting the base was
  -- still not held, and the call delivers the packet then nearest. It leaves every leg's queue empty and no event waiting.
  pub rises : (g : Making) (calls : List Asked) (call : Asked)
      → (skipped_in (do_call call (reached g calls)).state ≡ skipped_in (reached g calls) → ⊥)
      → Raised (reached g calls) call.call (delivered_by (do_call call (reached g calls)).answer)
      (do_call call (reached g calls)).state
  -- The same of every skip that the marks have, also of those that the count does not show because it stands at its ceiling.
  pub skips : (g : Making) (calls : List Asked) (call : Asked) (tested : State) (time distance : ℕ) (older : List Mark)
      → Marked (do_call call (reached g calls)).log (gap_skipped tested time distance) older
      → RightSkip (when_of call.call (reached g calls))
      (delivered_by (do_call call (reached g calls)).answer) (do_call call (reached g calls)).state tested time distance
  -- "Two gateways with any such lists over one schedule, once both stand at one place of it, deliver the same packets, one list a
  -- prefix of the other, each up to its next skip." Places are counted unreduced, delivered plus skipped. The two may differ in
  -- id, mode, store, legs and calls.
  pub gateways : (schedule : List Delivery) (first : ℕ) → Consecutive first schedule → (a b : Gateway schedule first)
      → stands_at schedule first a ≡ stands_at schedule first b
      → Prefix (delivers schedule first a) (delivers schedule first b) ⊎ Prefix (delivers schedule first b) (delivers schedule first a)
  -- "Collected: got by polling a leg": what was queued at a leg is what a poll marks as collected from it, in order, and then what
  -- is still queued there.
  pub by_polling : (g : Making) (calls : List Asked) (call : Asked) (id : ℕ) → is_poll call.call ≡ true
      → queued_at id (reached g calls).members
      ≡ collected_from id (do_call call (reached g calls)).log ++ queued_at id (do_call call (reached g calls)).state.members
  -- "The packet taken as it was queued": by an accepted call of the list, on the leg, with the data and the payload that it was given.
  pub as_queued : (g : Making) (calls : List Asked) (p : Packet) (older : List Mark)
      → Marked (marks g calls) (collected p) older
      → AsQueued g calls (last_put older p.content.cell) p
  -- "32 less the data events popped": the budget left after an event poll and the packets that it collected add up to 32.
  pub budget : (time : ℕ) (r : Run)
      → (poll_event time r).run.budget + packets_collected (poll_event time r).run.log ≡ delivery_budget + packets_collected r.log
