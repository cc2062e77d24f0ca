-- As it was queued. Every packet that a list of calls collects or delivers was queued by an earlier call of the list that was accepted,
-- on the leg that the packet came from: its sequence, count, message number, timestamp and source time are those that this call was
-- given, its length is that of the payload given, its cell the one that the call took; and the payload that the premise
-- `AllNear` reads for it, last put into that cell, is the payload given. No premise on the store is needed for that: a payload
-- is put only into a cell that no queued and no held packet has. With one store, all that is delivered was so given, byte for byte.
use Rattle.std.specs.Prelude.{◌≡◌, true, ℕ, length, None, Option, Some}
use Rattle.std.proofs.Math.Path.{refl, subst}
use Rattle.std.proofs.Common.{sym, ap, ◌∙◌}
use mathlib.Core.List.{List, [], ◌∷◌, ◌++◌, append_assoc, append-nil}
use Rattle.srt_protocol.specs.Cells.{cells_of}
use Rattle.srt_group_model.specs.Tools.{All}
use Rattle.srt_group_model.specs.State.{State, Making}
use Rattle.srt_group_model.specs.Run.{Mark, put, base_set, collected, gap_skipped, delivered}
use Rattle.srt_group_model.specs.Calls.{new, data_event, taken_cell}
use Rattle.srt_group_model.specs.Lent.{Call, call_queue_data, Lent, delivered_by, with_bytes, step_of, perform}
use Rattle.srt_group_model.specs.declared.Data.{Data}
use Rattle.srt_group_model.specs.declared.Packet.{Packet}
use Rattle.srt_group_model.specs.Laws.Reason.{not_both, all_append}
use Rattle.srt_group_model.specs.Laws.CallLaw.{Calling, called}
use Rattle.srt_group_traces.specs.Statement.{last_put, OneStore, When, when_of, Asked, do_call, is_poll, state_after, log_after, Delivery, deliveries}
use Rattle.srt_group_traces.specs.Laws.Calls.{takes_cell_lent}
use Rattle.srt_group_traces.specs.Laws.Marks.{last_put_elsewhere, last_put_there}
use Rattle.srt_group_traces.specs.Laws.Law.{LiveAt}
use Rattle.srt_group_traces.specs.Laws.CallMarks.{Only}
use Rattle.srt_group_traces.specs.Laws.Shape.{Shape, call_shape}
use Rattle.srt_group_traces.specs.Laws.Alive.{live_map, PutsIn, Known, LiveLaw, call_lives}
use Rattle.srt_group_traces.specs.Laws.ClerkClaim.{given_as_queued, delivered_as_queued}
use Rattle.srt_group_traces.specs.Laws.Bytes.{delivered_is_as_queued, new_alive}
use Rattle.srt_group_traces.specs.Laws.Gateways.{state_after_both, log_after_both}

-- ---- a packet that a call of a list queued

-- the call that queues this data with this payload
abbrev pub queueing : (id : ℕ) (given : Data) (payload : List ℕ) → Lent → Asked
queueing id given payload lent = record { call = call_queue_data id given payload; lent = lent }

-- what it queues: the data given, in the cell that it takes
abbrev pub queued_as : (given : Data) (payload : List ℕ) → Lent → State → Data
queued_as given payload lent s = (data_event (taken_cell (cells_of (length lent.store)) s) (length payload) given).content

-- an accepted call of a list that queues data, with those before it and after it
pub record AcceptedQueueing (g : Making) (calls : List Asked) : Type 0 where
  pub before : List Asked
  pub after : List Asked
  pub id : ℕ
  pub given : Data
  pub payload : List ℕ
  pub lent : Lent
  pub is : calls ≡ before ++ (queueing id given payload lent ∷ after)
  pub accepted : (do_call (queueing id given payload lent) (state_after before (new g))).code ≡ 0

-- The list has an accepted call that queued this packet on this leg, and `payloads` has that call's payload for the packet's cell.
pub record QueuedBy (g : Making) (calls : List Asked) (payloads : ℕ → List ℕ) (leg : ℕ) (d : Data) : Type 0 where
  pub by : AcceptedQueueing g calls
  pub on : leg ≡ by.id
  pub as_given : d ≡ queued_as by.given by.payload by.lent (state_after by.before (new g))
  pub bytes : payloads d.cell ≡ by.payload

-- of a longer list
abbrev queueing_of_more : (g : Making) (calls more : List Asked) → AcceptedQueueing g calls → AcceptedQueueing g (calls ++ more)
queueing_of_more g calls more h =
    record {
      before = h.before;
      after = h.after ++ more;
      id = h.id;
      given = h.given;
      payload = h.payload;
      lent = h.lent;
      is =
          ap (λ (cs : List Asked). cs ++ more) h.is
          ∙ append_assoc h.before (queueing h.id h.given h.payload h.lent ∷ h.after) more;
      accepted = h.accepted;
    }

queued_by_more : (g : Making) (calls more : List Asked) (payloads : ℕ → List ℕ) (leg : ℕ) (d : Data) → QueuedBy g calls payloads leg d → QueuedBy g (calls ++ more) payloads leg d
queued_by_more g calls more payloads leg d h = record { by = queueing_of_more g calls more h.by; on = h.on; as_given = h.as_given; bytes = h.bytes }

-- where the cell's payload is the same
queued_still : (g : Making) (calls : List Asked) (payloads later : ℕ → List ℕ) (leg : ℕ) (d : Data) → later d.cell ≡ payloads d.cell → QueuedBy g calls payloads leg d → QueuedBy g calls later leg d
queued_still g calls payloads later leg d e h = record { by = h.by; on = h.on; as_given = h.as_given; bytes = e ∙ h.bytes }

-- Of the marks of a list, newest first: each packet collected or delivered was queued by a call of the list, with the payload that was
-- last put into its cell by then.
abbrev pub AllIn : Making → List Asked → List Mark → Type 0
AllIn g calls [] = Unit {0}
AllIn g calls (put cell payload ∷ m) = AllIn g calls m
AllIn g calls (base_set base ∷ m) = AllIn g calls m
AllIn g calls (collected p ∷ m) = QueuedBy g calls (last_put m) p.member p.content × AllIn g calls m
AllIn g calls (gap_skipped tested time distance ∷ m) = AllIn g calls m
AllIn g calls (delivered p ∷ m) = QueuedBy g calls (last_put m) p.member p.content × AllIn g calls m

all_in_more : (g : Making) (calls more : List Asked) (m : List Mark) → AllIn g calls m → AllIn g (calls ++ more) m
all_in_more g calls more [] h = tt
all_in_more g calls more (put cell payload ∷ m) h = all_in_more g calls more m h
all_in_more g calls more (base_set base ∷ m) h = all_in_more g calls more m h
all_in_more g calls more (collected p ∷ m) h =
    (queued_by_more g calls more (last_put m) p.member p.content h.0, all_in_more g calls more m h.1)
all_in_more g calls more (gap_skipped tested time distance ∷ m) h = all_in_more g calls more m h
all_in_more g calls more (delivered p ∷ m) h =
    (queued_by_more g calls more (last_put m) p.member p.content h.0, all_in_more g calls more m h.1)

-- ---- one call, after the calls `before` it; `calls` are those that may have queued what is alive

module _ (g : Making) (before calls : List Asked) (asked : Asked) where
  abbrev reached : State
  reached = state_after before (new g)

  abbrev log : List Mark
  log = log_after before (new g)

  abbrev this : Calling
  this = called asked.call asked.lent reached

  abbrev Was : List Mark → ℕ → Data → Type 0
  Was m = QueuedBy g calls (last_put (m ++ log))

  was_marks : (m : List Mark) (mark : Mark) → Known this Was (λ m. AllIn g calls (m ++ log)) m mark → AllIn g calls (m ++ log) → AllIn g calls (mark ∷ (m ++ log))
  was_marks m (put cell payload) known h = h
  was_marks m (base_set base) known h = h
  was_marks m (collected p) known h = (known, h)
  was_marks m (gap_skipped tested time distance) known h = h
  was_marks m (delivered p) known h = (known, h)

  was_still : (m : List Mark) (mark : Mark) → Only ⊥ (Unit {0}) mark → (leg : ℕ) (d : Data) → Was m leg d → Was (mark ∷ m) leg d
  unfolding last_put
  was_still m (put cell payload) other leg d = absurd other
  was_still m (base_set base) other leg d = queued_still g calls _ _ leg d refl
  was_still m (collected p) other leg d = queued_still g calls _ _ leg d refl
  was_still m (gap_skipped tested time distance) other leg d = queued_still g calls _ _ leg d refl
  was_still m (delivered p) other leg d = queued_still g calls _ _ leg d refl

  queued_law : ((m : List Mark) (cell leg : ℕ) (d : Data) (payload : List ℕ) → asked.call ≡ call_queue_data leg d payload → PutsIn this cell payload
      → Was (put cell payload ∷ m) leg (data_event cell (length payload) d).content)
      → LiveLaw this Was (λ m. AllIn g calls (m ++ log))
  queued_law itself =
      record {
        marks = was_marks;
        stays = was_still;
        puts =
            λ m cell payload puts x leg d elsewhere.
            queued_still g calls _ _ leg d (last_put_elsewhere cell d.cell payload (m ++ log) (λ e. elsewhere (sym e)));
        queues = λ m cell leg d payload is puts x. itself m cell leg d payload is puts;
      }

-- the packet that a call queues
itself : (g : Making) (before : List Asked) (asked : Asked) (m : List Mark) (cell leg : ℕ) (d : Data) (payload : List ℕ) → asked.call ≡ call_queue_data leg d payload
    → PutsIn (this g before (before ++ (asked ∷ [])) asked) cell payload → Was g before (before ++ (asked ∷ [])) asked (put cell payload ∷ m) leg (data_event cell (length payload) d).content
unfolding do_call perform with_bytes
itself g before asked m cell leg d payload is puts =
    record {
      by =
          record {
            before = before;
            after = [];
            id = leg;
            given = d;
            payload = payload;
            lent = asked.lent;
            is = ap (λ (c : Call). before ++ (record { call = c; lent = asked.lent } ∷ [])) is;
            accepted =
                ap (λ (c : Call). (step_of (length asked.lent.store) (length asked.lent.output) (length asked.lent.list) c (state_after before (new g))).code) (sym is)
                ∙ puts.accepted;
          };
      on = refl;
      as_given = ap (λ (n : ℕ). (data_event n (length payload) d).content) puts.is;
      bytes = last_put_there cell payload (m ++ log_after before (new g));
    }

-- ---- every list of calls

-- what is alive was queued by a call of the list, and so was all that it collected and delivered
abbrev AsQueued : Making → List Asked → Type 0
AsQueued g calls = LiveAt (QueuedBy g calls (last_put (log_after calls (new g)))) (state_after calls (new g)) × AllIn g calls (log_after calls (new g))

call_as_queued : (g : Making) (before : List Asked) (asked : Asked) → AsQueued g before → AsQueued g (before ++ (asked ∷ []))
unfolding do_call state_after log_after
call_as_queued g before asked h =
    let now = before ++ (asked ∷ []) in
    let s = state_after before (new g) in
    let log = log_after before (new g) in
    let after =
    call_lives asked.call asked.lent s (Was g before now asked) (λ m. AllIn g now (m ++ log)) (queued_law g before now asked (itself g before asked))
    (live_map (QueuedBy g before (last_put log)) (QueuedBy g now (last_put log)) (queued_by_more g before (asked ∷ []) (last_put log)) s h.0)
    (all_in_more g before (asked ∷ []) log h.1)
    in
    subst (λ (t : State). LiveAt (QueuedBy g now (last_put (log_after now (new g)))) t × AllIn g now (log_after now (new g))) (sym (state_after_both before (asked ∷ []) (new g)))
    (subst (λ (m : List Mark). LiveAt (QueuedBy g now (last_put m)) (do_call asked s).state × AllIn g now m) (sym (log_after_both before (asked ∷ []) (new g))) after)

from_there : (g : Making) (before calls : List Asked) → AsQueued g before → AsQueued g (before ++ calls)
from_there g before [] h = subst (AsQueued g) (sym (append-nil before)) h
from_there g before (call ∷ more) h =
    subst (AsQueued g) (append_assoc before (call ∷ []) more) (from_there g (before ++ (call ∷ [])) more (call_as_queued g before call h))

all_as_queued : (g : Making) (calls : List Asked) → AsQueued g calls
unfolding state_after log_after new
all_as_queued g calls = from_there g [] calls ((tt, tt), tt)

all_marks_in : (g : Making) (calls : List Asked) → AllIn g calls (log_after calls (new g))
all_marks_in g calls = (all_as_queued g calls).1

-- All that a poll collects and delivers was queued by a call before it.
pub polled_was_queued : (g : Making) (before : List Asked) (poll : Asked) → is_poll poll.call ≡ true
    → AllIn g before ((do_call poll (state_after before (new g))).log ++ log_after before (new g))
unfolding do_call
polled_was_queued g before poll is =
    let h = all_as_queued g before in
    (call_lives poll.call poll.lent (state_after before (new g)) (Was g before before poll) (λ m. AllIn g before (m ++ log_after before (new g)))
    (queued_law g before before poll (λ m cell leg d payload queues puts. not_both is (takes_cell_lent puts.takes).1)) h.0 h.1).1

-- of the older marks
all_in_older : (g : Making) (calls : List Asked) (newer older : List Mark) → AllIn g calls (newer ++ older) → AllIn g calls older
all_in_older g calls [] older h = h
all_in_older g calls (put cell payload ∷ newer) older h = all_in_older g calls newer older h
all_in_older g calls (base_set base ∷ newer) older h = all_in_older g calls newer older h
all_in_older g calls (collected q ∷ newer) older h = all_in_older g calls newer older h.1
all_in_older g calls (gap_skipped tested time distance ∷ newer) older h = all_in_older g calls newer older h
all_in_older g calls (delivered q ∷ newer) older h = all_in_older g calls newer older h.1

-- Wherever the marks of a list have a collected packet: a call of the list queued it on the leg that it came from, as it was given, and
-- what the premise reads as its payload, of the marks before it, is the payload that this call was given.
pub collected_was_queued : (g : Making) (calls : List Asked) (newer older : List Mark) (p : Packet)
    → log_after calls (new g) ≡ newer ++ (collected p ∷ older)
    → QueuedBy g calls (last_put older) p.member p.content
collected_was_queued g calls newer older p e =
    (all_in_older g calls newer (collected p ∷ older) (subst (AllIn g calls) e (all_marks_in g calls))).0

-- The same of every packet delivered: none is made up.
pub delivered_was_queued : (g : Making) (calls : List Asked) (newer older : List Mark) (p : Packet)
    → log_after calls (new g) ≡ newer ++ (delivered p ∷ older)
    → QueuedBy g calls (last_put older) p.member p.content
delivered_was_queued g calls newer older p e =
    (all_in_older g calls newer (delivered p ∷ older) (subst (AllIn g calls) e (all_marks_in g calls))).0

-- ---- what is given, byte for byte, with no schedule

-- What is given is what an accepted call of the list was given to queue: sequence, count and payload.
pub record GivenToQueue (g : Making) (calls : List Asked) (x : Delivery) : Type 0 where
  pub by : AcceptedQueueing g calls
  pub same : x ≡ record { sequence = by.given.sequence; count = by.given.count; payload = by.payload }

given_to_queue : (g : Making) (calls : List Asked) (payloads : ℕ → List ℕ) (leg : ℕ) (d : Data) → QueuedBy g calls payloads leg d
    → GivenToQueue g calls record { sequence = d.sequence; count = d.count; payload = payloads d.cell }
given_to_queue g calls payloads leg d h =
    record { by = h.by; same = λ i. record { sequence = (h.as_given i).sequence; count = (h.as_given i).count; payload = h.bytes i } }

module _ (g : Making) (calls : List Asked) where
  -- one call, by the packet that it gave
  call_gives : (when : When) (s : State) (log m : List Mark) (o : Option Packet) → Shape when o s m → AllIn g calls (m ++ log) → All (GivenToQueue g calls) (given_as_queued (m ++ log) o)
  unfolding given_as_queued last_put
  call_gives when s _ m None shape h = tt
  call_gives when s log m (Some p) shape h =
      subst (λ (z : List Mark). All (GivenToQueue g calls) (given_as_queued (z ++ log) (Some p))) (sym shape.is)
      (given_to_queue g calls (last_put (shape.before ++ log)) p.member p.content (subst (λ (z : List Mark). AllIn g calls (z ++ log)) shape.is h).0, tt)

  calls_give : (log : List Mark) (s : State) (more : List Asked) → AllIn g calls (log_after more s ++ log) → All (GivenToQueue g calls) (delivered_as_queued log more s)
  unfolding delivered_as_queued log_after
  calls_give _ s [] h = tt
  calls_give log s (call ∷ more) h =
      let s' = (do_call call s).state in
      let m = (do_call call s).log in
      let all = subst (AllIn g calls) (append_assoc (log_after more s') m log) h in
      all_append (GivenToQueue g calls) (given_as_queued (m ++ log) (delivered_by (do_call call s).answer)) _
      (call_gives (when_of call.call s) s' log m (delivered_by (do_call call s).answer) (call_shape call s) (all_in_older g calls (log_after more s') (m ++ log) all))
      (calls_give (m ++ log) s' more all)

-- Where there is one store, all that a list of calls delivers was given to an accepted call of the list to queue, byte for byte.
pub nothing_made_up : (g : Making) (calls : List Asked) (store : List ℕ) → OneStore store calls (new g)
    → All (GivenToQueue g calls) (deliveries calls (new g))
nothing_made_up g calls store one =
    subst (All (GivenToQueue g calls)) (sym (delivered_is_as_queued calls (new g) store [] (new_alive g store) one))
    (calls_give g calls [] (new g) calls (subst (AllIn g calls) (sym (append-nil (log_after calls (new g)))) (all_marks_in g calls)))
