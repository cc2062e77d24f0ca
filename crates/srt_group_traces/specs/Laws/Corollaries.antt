-- What follows for a customer: every packet delivered stands at a place of its own in the schedule, after the end of the run
-- delivered before it, so none is delivered twice and all are in the schedule's order; where nothing is skipped, the delivered
-- list is a prefix of the schedule; and a call that delivers nothing leaves the base where it is.
use Rattle.std.specs.Prelude.{◌≡◌, refl, true, ℕ, ◌+◌, ◌-◌, ◌≤◌, min, None, Option, Some}
use Rattle.std.proofs.Common.{sym, ap, ◌∙◌, ⊎_elim}
use Rattle.std.proofs.Math.Path.{subst}
use mathlib.Core.List.{List, [], ◌∷◌, ◌++◌}
use native.Mathlib.Omega.{arith}
use Rattle.srt_protocol.specs.Sequence.{sequence_further}
use Rattle.srt_group_model.specs.Legs.{largest_64}
use Rattle.srt_group_model.specs.Tools.{if_some◌give◌otherwise◌, or_else}
use Rattle.srt_group_model.specs.State.{State, Receive, next_receive_sequence, Making}
use Rattle.srt_group_model.specs.Run.{Mark, put, base_set, collected, gap_skipped, delivered}
use Rattle.srt_group_model.specs.Laws.Reason.{if_elim, none_some, some_inj}
use Rattle.srt_group_model.specs.Lent.{delivered_by}
use Rattle.srt_group_model.specs.declared.Packet.{Packet}
use Rattle.srt_group_traces.specs.Statement.{first_base, total_skipped, place_after, Consecutive, pass_to, Told, told_by, give_next, clerk, Fair, when_of, Prefix, Raised, Asked, do_call, is_poll, time_of, Delivery, state_after, log_after, deliveries, skipped_in, Went, place_of_base}
use Rattle.srt_group_traces.specs.Laws.Cases.{by_option}
use Rattle.srt_group_traces.specs.Laws.CallWalk.{Fits, Holds, call_holds}
use Rattle.srt_group_traces.specs.Laws.Shape.{Quiet, Skip, Given, Shape, call_shape}
use Rattle.srt_group_traces.specs.Laws.Skips.{right_skip}
use Rattle.srt_group_traces.specs.Laws.Base.{Stands, SequenceFits, Sums, sums_law, sums_hold, sums_after, delivered_counts, quiet_delivers_nothing, quiet_skips_nothing, sums_first}
use Rattle.srt_group_traces.specs.Laws.Schedule.{pass_to_zero, pass_to_next, pass_to_further, sequence_at_place}
use Rattle.srt_group_traces.specs.Laws.Gateways.{NoSkip, clerk_front}
use Rattle.srt_group_traces.specs.Laws.ScheduleClaim.{schedule_claim}
use Rattle.srt_group_traces.specs.Laws.Bytes.{only_polls_deliver}
use Rattle.srt_group_model.specs.Calls.{new}

-- ---- each at a place of its own, in the schedule's order

-- Each of these stands in the schedule, the first at `place` or after, each other at the end of the one before it or after.
abbrev pub InOrder : List Delivery → ℕ → List Delivery → Type 0
InOrder schedule place [] = Unit {0}
InOrder schedule place (x ∷ xs) =
    (at : ℕ) × (place ≤ at) × ((rest : List Delivery) × (pass_to schedule at ≡ Some (x ∷ rest))) × InOrder schedule
    (at + x.count) xs

module _ (schedule : List Delivery) (first : ℕ) (runs : Consecutive first schedule) where
  give_next_in_order : (place rise : ℕ) (passed : Option (List Delivery)) (go_on : List Delivery → Option Went) (w : Went)
      → ((ahead : List Delivery) → passed ≡ Some ahead → pass_to schedule (place + rise) ≡ Some ahead)
      → ((at : ℕ) (xs : List Delivery) (v : Went) → pass_to schedule at ≡ Some xs → go_on xs ≡ Some v → InOrder schedule at v.gave)
      → give_next passed go_on ≡ Some w → InOrder schedule place w.gave
  unfolding give_next if_some◌give◌otherwise◌
  give_next_in_order place rise None go_on w here order e = none_some e
  give_next_in_order place rise (Some []) go_on w here order e = none_some e
  give_next_in_order place rise (Some (x ∷ xs)) go_on w here order e =
      by_option (go_on xs) (λ n. none_some (sym (ap cons_to n) ∙ e))
      (λ v n.
      subst (λ (z : Went). InOrder schedule place z.gave) (some_inj (sym (ap cons_to n) ∙ e))
      (place + rise, omega arith, (xs, here (x ∷ xs) refl), order (place + rise + x.count) xs v past n))
    where
      cons_to : Option Went → Option Went
      cons_to o = if_some o give (λ (v : Went). Some record { gave = x ∷ v.gave; left = v.left }) otherwise None

      past : pass_to schedule (place + rise + x.count) ≡ Some xs
      past =
          pass_to_further schedule (place + rise) x.count (x ∷ xs) (here (x ∷ xs) refl)
          ∙ pass_to_next x xs (sequence_at_place first 0 schedule (place + rise) x xs runs (here (x ∷ xs) refl)).1

  clerk_in_order : (place : ℕ) (ahead : List Delivery) (known : ℕ) (told : List Told) (w : Went)
      → pass_to schedule place ≡ Some ahead
      → clerk ahead known told ≡ Some w → InOrder schedule place w.gave
  unfolding clerk
  clerk_in_order place ahead known [] w here e = subst (λ (z : Went). InOrder schedule place z.gave) (some_inj e) tt
  clerk_in_order place ahead known (told ∷ more) w here e =
      if_elim (λ (o : Option Went). o ≡ Some w → InOrder schedule place w.gave) told.delivered _ _
      (λ d f.
      give_next_in_order place (told.skipped - known) (pass_to ahead (told.skipped - known))
      (λ xs. clerk xs told.skipped more) w
      (λ passed g. pass_to_further schedule place (told.skipped - known) ahead here ∙ g)
      (λ at xs v there g. clerk_in_order at xs told.skipped more v there g) f)
      (λ d f. clerk_in_order place ahead told.skipped more w here f) e

  -- No packet is delivered twice within a schedule, and what is delivered is in the schedule's order.
  pub delivered_in_order : (g : Making) (calls : List Asked) → Fair schedule first g calls
      → InOrder schedule 0 (deliveries calls (new g))
  delivered_in_order g calls fair =
      clerk_in_order 0 schedule 0 (told_by calls (new g)) _ (pass_to_zero schedule)
      (schedule_claim schedule first runs g calls fair).2

  -- If nothing is skipped, the delivered list is a prefix of the schedule.
  pub unskipped_is_prefix : (g : Making) (calls : List Asked) → Fair schedule first g calls → NoSkip 0 (told_by calls (new g))
      → Prefix (deliveries calls (new g)) schedule
  unskipped_is_prefix g calls fair still =
      clerk_front schedule 0 (told_by calls (new g)) _ still (schedule_claim schedule first runs g calls fair).2

-- ---- the base moves only by delivery and skip

-- once set, the first value stays
pub first_base_stays : (m log : List Mark) (first : ℕ) → first_base log ≡ Some first → first_base (m ++ log) ≡ Some first
unfolding first_base or_else
first_base_stays [] log first e = e
first_base_stays (put cell payload ∷ m) log first e = first_base_stays m log first e
first_base_stays (base_set base ∷ m) log first e = ap (λ (o : Option ℕ). or_else o (Some base)) (first_base_stays m log first e)
first_base_stays (collected p ∷ m) log first e = first_base_stays m log first e
first_base_stays (gap_skipped tested time distance ∷ m) log first e = first_base_stays m log first e
first_base_stays (delivered p ∷ m) log first e = first_base_stays m log first e

-- Where the base is not set, it has no first value, and nothing was delivered or skipped.
pub unbased_is_still : (g : Making) (calls : List Asked) → next_receive_sequence (state_after calls (new g)).receive ≡ None
    → (first_base (log_after calls (new g)) ≡ None) × (place_of_base g calls ≡ 0)
unbased_is_still g calls e = go (first_base (log_after calls (new g))) refl (sums_after g calls).stands
  where
    go : (o : Option ℕ) → first_base (log_after calls (new g)) ≡ o
        → Stands o (next_receive_sequence (state_after calls (new g)).receive) (place_after (log_after calls (new g)))
        → (first_base (log_after calls (new g)) ≡ None) × (place_of_base g calls ≡ 0)
    go None f h = (f, omega (arith, h.1, delivered_counts calls (new g), (sums_after g calls).skipped))
    go (Some first) f h = none_some (sym e ∙ h.1)

-- A call that delivers nothing leaves the base, once it is set: x and y are the receiving sides before and after it, m its marks.
pub quiet_leaves_base : (x y : Receive) (m log : List Mark) (base : ℕ) → Sums x log → Sums y (m ++ log) → Quiet m
    → next_receive_sequence x ≡ Some base
    → next_receive_sequence y ≡ Some base
quiet_leaves_base x y m log base h k quiet e =
    let w : (first : ℕ) × (first_base log ≡ Some first) × (base ≡ sequence_further first (place_after log)) =
    sums_first x log base e h
    in
    let v : Stands (Some w.0) (next_receive_sequence y) (place_after (m ++ log)) =
    subst (λ (o : Option ℕ). Stands o (next_receive_sequence y) (place_after (m ++ log))) (first_base_stays m log w.0 w.1)
    k.stands
    in
    v.1 ∙ ap (λ (n : ℕ). Some (sequence_further w.0 n)) same_place ∙ ap {B = Option ℕ} Some (sym w.2)
  where
    same_place : place_after (m ++ log) ≡ place_after log
    same_place = omega (arith, quiet_delivers_nothing m log quiet, quiet_skips_nothing m log quiet)

-- ---- the skipped count rises only by a right skip

-- x and y are the receiving sides before and after a call, m its marks: quiet marks leave the skipped count
quiet_leaves_count : (x y : Receive) (m log : List Mark) → Sums x log → Sums y (m ++ log)
    → total_skipped (m ++ log) ≡ total_skipped log
    → y.numbers.skipped ≡ x.numbers.skipped
quiet_leaves_count x y m log h k e = k.skipped ∙ ap (λ (n : ℕ). min n largest_64) e ∙ sym h.skipped

skips_under_delivery : (p : Packet) (m log : List Mark) → total_skipped (delivered p ∷ (m ++ log)) ≡ total_skipped (m ++ log)
unfolding total_skipped
skips_under_delivery p m log = refl

skips_under_skip : (tested : State) (time distance : ℕ) (m z log : List Mark) → z ≡ gap_skipped tested time distance ∷ m
    → total_skipped (z ++ log) ≡ total_skipped (m ++ log) + distance
unfolding total_skipped
skips_under_skip tested time distance m z log e = ap (λ (l : List Mark). total_skipped (l ++ log)) e

-- Wherever a list of calls has come to: if a call then raises the skipped count, it made a skip, and the skip was right; the
-- count rises by the distance, up to its ceiling.
pub rise_is_right_skip : (g : Making) (calls : List Asked) (call : Asked)
    → (skipped_in (do_call call (state_after calls (new g))).state ≡ skipped_in (state_after calls (new g)) → ⊥)
    → Raised (state_after calls (new g)) call.call (delivered_by (do_call call (state_after calls (new g))).answer)
    (do_call call (state_after calls (new g))).state
rise_is_right_skip g calls call risen =
    go (delivered_by (do_call call s).answer) (λ p e. only_polls_deliver call s p e) (call_shape call s)
  where
    s : State
    s = state_after calls (new g)

    log : List Mark
    log = log_after calls (new g)

    before : Holds SequenceFits Fits Sums sums_law (λ n fits. fits) (λ d fits. fits) s log
    before = sums_hold g calls

    after : Holds SequenceFits Fits Sums sums_law (λ n fits. fits) (λ d fits. fits) (do_call call s).state ((do_call call s).log ++ log)
    after = call_holds SequenceFits Fits Sums sums_law (λ n fits. fits) (λ d fits. fits) call s log (sums_hold g calls)

    same_count : total_skipped ((do_call call s).log ++ log) ≡ total_skipped log → ⊥
    same_count e =
        risen
        (quiet_leaves_count s.receive (do_call call s).state.receive (do_call call s).log log before.kept after.kept e)

    go : (o : Option Packet) → ((p : Packet) → o ≡ Some p → is_poll call.call ≡ true)
        → Shape (when_of call.call s) o (do_call call s).state (do_call call s).log
        → Raised s call.call o (do_call call s).state
    go None polls quiet = absurd (same_count (quiet_skips_nothing (do_call call s).log log quiet))
    go (Some p) polls given =
        ⊎_elim (λ (quiet : Quiet given.before). absurd (same_count (delivered_skips_nothing given quiet)))
        (λ (skip : Skip (when_of call.call s) p (do_call call s).state given.before).
        record {
          poll = polls p refl;
          tested = skip.tested;
          distance = skip.distance;
          right = right_skip skip given.past;
          rise = risen_by given skip;
        })
        given.how
      where
        delivered_skips_nothing : (given : Given (when_of call.call s) p (do_call call s).state (do_call call s).log)
            → Quiet given.before
            → total_skipped ((do_call call s).log ++ log) ≡ total_skipped log
        delivered_skips_nothing given quiet =
            ap (λ (z : List Mark). total_skipped (z ++ log)) given.is ∙ skips_under_delivery p given.before log
            ∙ quiet_skips_nothing given.before log quiet

        risen_by : (given : Given (when_of call.call s) p (do_call call s).state (do_call call s).log)
            → (skip : Skip (when_of call.call s) p (do_call call s).state given.before)
            → skipped_in (do_call call s).state ≡ min (skipped_in s + skip.distance) largest_64
        risen_by given skip = omega (arith, before.kept.skipped, after.kept.skipped, total)
          where
            total : total_skipped ((do_call call s).log ++ log) ≡ total_skipped log + skip.distance
            total =
                ap (λ (z : List Mark). total_skipped (z ++ log)) given.is ∙ skips_under_delivery p given.before log
                ∙ skips_under_skip skip.tested (time_of call.call) skip.distance skip.before given.before log skip.is
                ∙ ap (λ (n : ℕ). n + skip.distance) (quiet_skips_nothing skip.before log skip.quiet)
