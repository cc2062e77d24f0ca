-- Where a schedule has less than 2^30 packets in all, each packet of it is near the base, wherever the base stands along it: the
-- premises of the second claim follow from the calls alone. Every packet collected was queued by an accepted call of the list
-- (AsQueued), so it is of the schedule; the base's place is at most the schedule's sum (Follows).
use Rattle.std.specs.Prelude.{◌≡◌, ◌⊎◌, ℕ, ◌+◌, ◌-◌, ◌≤◌, ◌<◌, leb, eqb, None, Option, Some}
use Rattle.std.proofs.Math.Path.{refl, ap, subst}
use Rattle.std.proofs.Common.{sym, ◌∙◌, inl, inr, arith}
use mathlib.Core.List.{List, [], ◌∷◌, ◌++◌, append_assoc, append-nil}
use Rattle.srt_protocol.specs.Sequence.{half, sequence_further}
use Rattle.srt_group_model.specs.Tools.{All}
use Rattle.srt_group_model.specs.State.{State, next_receive_sequence, Making}
use Rattle.srt_group_model.specs.Run.{Mark, put, base_set, collected, gap_skipped, delivered}
use Rattle.srt_group_model.specs.Lent.{delivered_by}
use Rattle.srt_group_model.specs.declared.Data.{Data}
use Rattle.srt_group_model.specs.declared.Packet.{Packet}
use Rattle.srt_group_model.specs.Laws.Reason.{if_elim, none_some, some_inj}
use Rattle.srt_group_traces.specs.Statement.{first_base, total_skipped, total_delivered, place_after, last_put, Consecutive, pass_to, Near, Fair, When, when_of, Asked, do_call, Delivery, state_after, log_after, counts_of, with_payload, Marked}
use Rattle.srt_group_traces.specs.Laws.Cases.{le_of, eq_of}
use Rattle.srt_group_traces.specs.Laws.CallWalk.{Fits}
use Rattle.srt_group_traces.specs.Laws.Shape.{Quiet, Skip, Shape, call_shape}
use Rattle.srt_group_traces.specs.Laws.Base.{Stands, further_none, sums_after, based_has_first, quiet_delivers_nothing, quiet_skips_nothing}
use Rattle.srt_group_traces.specs.Laws.Follows.{FromSchedule, Following, calls_following, new_following}
use Rattle.srt_group_traces.specs.Laws.Gateways.{log_after_both}
use Rattle.srt_group_traces.specs.Laws.AsQueued.{AcceptedQueueing, queueing, QueuedBy, collected_was_queued, delivered_was_queued}
use Rattle.srt_group_traces.specs.Laws.Corollaries.{first_base_stays}
use Rattle.srt_group_traces.specs.Laws.Marks.{total_delivered_append, total_skipped_append, EachCollected, each_collected_at, all_marked, each_collected_of}
use Rattle.srt_group_traces.specs.ShortSchedule.{QueuesNone, QueuesScheduled, AllScheduled, FairCalls}
use Rattle.srt_group_model.specs.Calls.{new}

-- ---- places of a schedule

-- no place is beyond the schedule's sum
pub place_within : (l : List Delivery) (n : ℕ) (rest : List Delivery) → pass_to l n ≡ Some rest → n + counts_of rest ≤ counts_of l
unfolding pass_to counts_of
place_within [] n rest =
    if_elim (λ (o : Option (List Delivery)). o ≡ Some rest → n + counts_of rest ≤ 0) (eqb n 0) _ _
    (λ e f. omega (arith, eq_of n 0 e, ap counts_of (some_inj f))) (λ e f. none_some f)
place_within (x ∷ xs) n rest =
    if_elim (λ (o : Option (List Delivery)). o ≡ Some rest → n + counts_of rest ≤ x.count + counts_of xs) (eqb n 0) _ _
    (λ e f. omega (arith, eq_of n 0 e, ap counts_of (some_inj f)))
    (λ e.
    if_elim (λ (o : Option (List Delivery)). o ≡ Some rest → n + counts_of rest ≤ x.count + counts_of xs) (leb x.count n) _ _
    (λ k f. omega (arith, le_of x.count n k, place_within xs (n - x.count) rest f)) (λ k f. none_some f))

-- ---- each packet collected, by the accepted call that queued it

each_collected_map : (P Q : List Mark → Packet → Type 0) (log : List Mark) → ((log : List Mark) (p : Packet) → P log p → Q log p)
    → EachCollected P log → EachCollected Q log
each_collected_map P Q [] f h = tt
each_collected_map P Q (put cell payload ∷ log) f h = each_collected_map P Q log f h
each_collected_map P Q (base_set base ∷ log) f h = each_collected_map P Q log f h
each_collected_map P Q (collected p ∷ log) f h = (f log p h.0, each_collected_map P Q log f h.1)
each_collected_map P Q (gap_skipped tested time distance ∷ log) f h = each_collected_map P Q log f h
each_collected_map P Q (delivered p ∷ log) f h = each_collected_map P Q log f h

abbrev Queued : Making → List Asked → List Mark → Packet → Type 0
Queued g calls log p = QueuedBy g calls (last_put log) p.member p.content

each_collected_queued : (g : Making) (calls : List Asked) → EachCollected (Queued g calls) (log_after calls (new g))
each_collected_queued g calls =
    each_collected_of (Queued g calls) (log_after calls (new g)) (λ p older at. collected_was_queued g calls at.0 older p at.1)

-- ---- calls that queue no data: nothing is collected or delivered, and the base stands where it was set

queues_none_at : (before : List Asked) (call : Asked) (after : List Asked) → All QueuesNone (before ++ (call ∷ after)) → QueuesNone call
queues_none_at [] call after h = h.0
queues_none_at (c ∷ before) call after h = queues_none_at before call after h.1

not_queued : (g : Making) (calls : List Asked) → All QueuesNone calls → AcceptedQueueing g calls → ⊥
not_queued g calls h by =
    queues_none_at by.before (queueing by.id by.given by.payload by.lent) by.after (subst (All QueuesNone) by.is h)
    by.id by.given by.payload refl

abbrev NotDelivered : Mark → Type 0
NotDelivered (put cell payload) = Unit {0}
NotDelivered (base_set base) = Unit {0}
NotDelivered (collected p) = Unit {0}
NotDelivered (gap_skipped tested time distance) = Unit {0}
NotDelivered (delivered p) = ⊥

none_delivered : (g : Making) (calls : List Asked) → All QueuesNone calls → All NotDelivered (log_after calls (new g))
none_delivered g calls h = all_marked NotDelivered (log_after calls (new g)) not_this
  where
    not_this : (mark : Mark) (older : List Mark) → Marked (log_after calls (new g)) mark older → NotDelivered mark
    not_this (put cell payload) older at = tt
    not_this (base_set base) older at = tt
    not_this (collected p) older at = tt
    not_this (gap_skipped tested time distance) older at = tt
    not_this (delivered p) older at = not_queued g calls h (delivered_was_queued g calls at.0 older p at.1).by

all_older : (P : Mark → Type 0) (m log : List Mark) → All P (m ++ log) → All P log
all_older P [] log h = h
all_older P (x ∷ m) log h = all_older P m log h.1

all_newer : (P : Mark → Type 0) (m log : List Mark) → All P (m ++ log) → All P m
all_newer P [] log h = tt
all_newer P (x ∷ m) log h = (h.0, all_newer P m log h.1)

quiet_call : (when : When) (o : Option Packet) (s : State) (m : List Mark) → Shape when o s m → All NotDelivered m → Quiet m
quiet_call when None s m shape h = shape
quiet_call when (Some p) s m shape h = absurd (subst (All NotDelivered) shape.is h).0

unmoved : (calls : List Asked) (s : State) → All NotDelivered (log_after calls s) → place_after (log_after calls s) ≡ 0
unfolding log_after total_delivered total_skipped
unmoved [] s h = refl
unmoved (call ∷ more) s h =
    let m : List Mark = log_after more (do_call call s).state in
    let quiet : Quiet (do_call call s).log =
    quiet_call (when_of call.call s) (delivered_by (do_call call s).answer) (do_call call s).state (do_call call s).log (call_shape call s)
    (all_older NotDelivered m (do_call call s).log h)
    in
    omega (
      arith,
      unmoved more (do_call call s).state (all_newer NotDelivered m (do_call call s).log h),
      total_delivered_append m (do_call call s).log,
      total_skipped_append m (do_call call s).log,
      quiet_delivers_nothing (do_call call s).log [] quiet,
      quiet_skips_nothing (do_call call s).log [] quiet,
      ap total_delivered (append-nil (do_call call s).log),
      ap total_skipped (append-nil (do_call call s).log),
    )

first_fits : (o b : Option ℕ) (n first : ℕ) → o ≡ Some first → Stands o b n → Fits first
first_fits None b n first e h = none_some e
first_fits (Some f) b n first e h = subst Fits (some_inj e) h.0

-- the base after such calls is its first value
first_is_base : (g : Making) (calls : List Asked) (base : ℕ) → All QueuesNone calls
    → next_receive_sequence (state_after calls (new g)).receive ≡ Some base → first_base (log_after calls (new g)) ≡ Some base
first_is_base g calls base h e =
    let w : (first : ℕ) × (first_base (log_after calls (new g)) ≡ Some first)
    × (base ≡ sequence_further first (place_after (log_after calls (new g)))) =
    based_has_first g calls base e
    in
    w.1
    ∙ ap {B = Option ℕ} Some
    (sym
    (w.2 ∙ ap (sequence_further w.0) (unmoved calls (new g) (none_delivered g calls h))
    ∙ further_none w.0
    (first_fits (first_base (log_after calls (new g))) _ _ w.0 w.1 (sums_after g calls).stands)))

-- ---- the base stays set

abbrev BasedEach : ℕ → List Mark → Type 0
BasedEach first = EachCollected (λ log p. first_base log ≡ Some first)

set_before_more : (first : ℕ) (m log : List Mark) → first_base log ≡ Some first → BasedEach first log → BasedEach first (m ++ log)
set_before_more first [] log e h = h
set_before_more first (put cell payload ∷ m) log e h = set_before_more first m log e h
set_before_more first (base_set base ∷ m) log e h = set_before_more first m log e h
set_before_more first (collected p ∷ m) log e h = (first_base_stays m log first e, set_before_more first m log e h)
set_before_more first (gap_skipped tested time distance ∷ m) log e h = set_before_more first m log e h
set_before_more first (delivered p ∷ m) log e h = set_before_more first m log e h

-- ---- near

scheduled_at : (schedule : List Delivery) (before : List Asked) (call : Asked) (after : List Asked) (s : State)
    → AllScheduled schedule (before ++ (call ∷ after)) s
    → QueuesScheduled schedule call (state_after before s)
unfolding state_after
scheduled_at schedule [] call after s h = h.0
scheduled_at schedule (c ∷ before) call after s h = scheduled_at schedule before call after (do_call c s).state h.1

scheduled_begins : (schedule : List Delivery) (calls more : List Asked) (s : State) → AllScheduled schedule (calls ++ more) s → AllScheduled schedule calls s
scheduled_begins schedule [] more s h = tt
scheduled_begins schedule (call ∷ calls) more s h = (h.0, scheduled_begins schedule calls more (do_call call s).state h.1)

module _ (schedule : List Delivery) (first : ℕ) (runs : Consecutive first schedule) (short : counts_of schedule < half) where
  abbrev NearEach : List Mark → Type 0
  NearEach = EachCollected (λ log p. Near schedule (place_after log) (with_payload p.content (last_put log p.content.cell)))

  near : (g : Making) (calls : List Asked) → AllScheduled schedule calls (new g) → (payloads : ℕ → List ℕ) (base leg : ℕ) (d : Data)
      → base ≤ counts_of schedule → QueuedBy g calls payloads leg d → Near schedule base (with_payload d (payloads d.cell))
  unfolding counts_of
  near g calls h payloads base leg d within q =
      let by : AcceptedQueueing g calls = q.by in
      let x : Delivery = with_payload by.given by.payload in
      let w : (place : ℕ) × (rest : List Delivery) × (pass_to schedule place ≡ Some (x ∷ rest)) =
      scheduled_at schedule by.before (queueing by.id by.given by.payload by.lent) by.after (new g)
      (subst (λ (cs : List Asked). AllScheduled schedule cs (new g)) by.is h) by.id by.given by.payload refl by.accepted
      in
      let in_sum : w.0 + counts_of (x ∷ w.1) ≤ counts_of schedule = place_within schedule w.0 (x ∷ w.1) w.2 in
      let same : with_payload d (payloads d.cell) ≡ x =
      λ i. record { sequence = (q.as_given i).sequence; count = (q.as_given i).count; payload = q.bytes i }
      in
      record {
        place = w.0;
        rest = w.1;
        here = w.2 ∙ ap (λ (y : Delivery). Some (y ∷ w.1)) (sym same);
        not_far_ahead = omega (arith, short, in_sum);
        not_far_behind = omega (arith, short, within);
      }

  -- the marks of a call, where the base does not move before the packet is given
  near_quiet : (g : Making) (calls : List Asked) → AllScheduled schedule calls (new g) → (m log : List Mark) → Quiet m
      → place_after log ≤ counts_of schedule
      → EachCollected (Queued g calls) (m ++ log) → NearEach log → NearEach (m ++ log)
  near_quiet g calls h [] log quiet within q k = k
  near_quiet g calls h (put cell payload ∷ m) log quiet within q k = near_quiet g calls h m log quiet.1 within q k
  near_quiet g calls h (base_set base ∷ m) log quiet within q k = near_quiet g calls h m log quiet.1 within q k
  near_quiet g calls h (collected p ∷ m) log quiet within q k = (
    near g calls h (last_put (m ++ log)) (place_after (m ++ log)) p.member p.content
        (omega (arith, within, quiet_delivers_nothing m log quiet.1, quiet_skips_nothing m log quiet.1)) q.0,
    near_quiet g calls h m log quiet.1 within q.1 k,
  )
  near_quiet g calls h (gap_skipped tested time distance ∷ m) log quiet within q k = absurd quiet.0
  near_quiet g calls h (delivered p ∷ m) log quiet within q k = absurd quiet.0

  near_call : (g : Making) (calls : List Asked) → AllScheduled schedule calls (new g) → (when : When) (o : Option Packet) (s : State) (m log : List Mark)
      → Shape when o s m → place_after log ≤ counts_of schedule → EachCollected (Queued g calls) (m ++ log) → NearEach log
      → NearEach (m ++ log)
  near_call g calls h when None s m log shape within q k = near_quiet g calls h m log shape within q k
  near_call g calls h when (Some p) s m log shape within q k =
      subst (λ (z : List Mark). NearEach (z ++ log)) (sym shape.is)
      (go shape.how (subst (λ (z : List Mark). EachCollected (Queued g calls) (z ++ log)) shape.is q))
    where
      go : Quiet shape.before ⊎ Skip when p s shape.before → EachCollected (Queued g calls) (shape.before ++ log)
          → NearEach (shape.before ++ log)
      go (inl quiet) q = near_quiet g calls h shape.before log quiet within q k
      go (inr skip) q =
          subst (λ (z : List Mark). NearEach (z ++ log)) (sym skip.is)
          (near_quiet g calls h skip.before log skip.quiet within
          (subst (λ (z : List Mark). EachCollected (Queued g calls) (z ++ log)) skip.is q) k)

  module _ (g : Making) where
    follows : (calls : List Asked) → Following schedule first runs (state_after calls (new g)) (log_after calls (new g))
    follows calls =
        subst (Following schedule first runs (state_after calls (new g))) (append-nil (log_after calls (new g)))
        (calls_following schedule first runs calls (new g) [] (new_following schedule first runs g))

    -- the base's place is at most the schedule's sum
    pub base_within : (calls : List Asked) → FromSchedule schedule first (log_after calls (new g))
        → place_after (log_after calls (new g)) ≤ counts_of schedule
    base_within calls from =
        let here : (rest : List Delivery) × (pass_to schedule (place_after (log_after calls (new g))) ≡ Some rest) =
        ((follows calls).kept.1 from).here
        in
        omega (arith, place_within schedule (place_after (log_after calls (new g))) here.0 here.1)

    -- after the calls before, where the base stands at its first value, call by call
    from_schedule : (before after : List Asked) → first_base (log_after before (new g)) ≡ Some first
        → FromSchedule schedule first (log_after before (new g)) → AllScheduled schedule (before ++ after) (new g)
        → FromSchedule schedule first (log_after (before ++ after) (new g))
    unfolding log_after
    from_schedule before [] set from h =
        subst (λ (cs : List Asked). FromSchedule schedule first (log_after cs (new g))) (sym (append-nil before)) from
    from_schedule before (call ∷ more) set from h =
        subst (λ (cs : List Asked). FromSchedule schedule first (log_after cs (new g))) (append_assoc before (call ∷ []) more)
        (from_schedule (before ++ (call ∷ [])) more (ap first_base marks ∙ first_base_stays m log first set)
        (subst (FromSchedule schedule first) (sym marks)
        (set_before_more first m log set from.0, near_call g on on_scheduled (when_of call.call reached) (delivered_by (do_call call reached).answer) (do_call call reached).state m log (call_shape call reached) (base_within before from) (subst (EachCollected (Queued g on)) marks (each_collected_queued g on)) from.1))
        (subst (λ (cs : List Asked). AllScheduled schedule cs (new g)) (sym (append_assoc before (call ∷ []) more)) h))
      where
        reached : State
        reached = state_after before (new g)

        on : List Asked
        on = before ++ (call ∷ [])

        m : List Mark
        m = (do_call call (state_after before (new g))).log

        log : List Mark
        log = log_after before (new g)

        marks : log_after (before ++ (call ∷ [])) (new g) ≡ (do_call call (state_after before (new g))).log ++ log_after before (new g)
        marks = log_after_both before (call ∷ []) (new g)

        on_scheduled : AllScheduled schedule (before ++ (call ∷ [])) (new g)
        on_scheduled =
            scheduled_begins schedule (before ++ (call ∷ [])) more (new g)
            (subst (λ (cs : List Asked). AllScheduled schedule cs (new g)) (sym (append_assoc before (call ∷ []) more)) h)

-- The premises of the second claim follow from the calls.
pub short_schedule_is_fair : (schedule : List Delivery) (first : ℕ) → Consecutive first schedule → (g : Making) (before after : List Asked)
    → FairCalls schedule first g before after → Fair schedule first g (before ++ after)
unfolding half
short_schedule_is_fair schedule first runs g before after h =
    record {
      store = h.store;
      set_before = each_collected_at _ (log_after (before ++ after) (new g)) from.0;
      near = each_collected_at _ (log_after (before ++ after) (new g)) from.1;
      below =
          omega (arith, h.short, (sums_after g (before ++ after)).skipped, base_within schedule first runs h.short g (before ++ after) from);
      one_store = h.one_store;
    }
  where
    none_collected : (P : List Mark → Packet → Type 0) → EachCollected P (log_after before (new g))
    none_collected P =
        each_collected_map (Queued g before) P (log_after before (new g)) (λ log p q. absurd (not_queued g before h.none_queued q.by))
        (each_collected_queued g before)

    from : FromSchedule schedule first (log_after (before ++ after) (new g))
    from =
        from_schedule schedule first runs h.short g before after (first_is_base g before first h.none_queued h.set)
        (none_collected _, none_collected _) h.scheduled
