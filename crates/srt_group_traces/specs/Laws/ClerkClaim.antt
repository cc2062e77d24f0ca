-- The delivered list, each payload as it was queued, is the clerk's: after each call he stands at the base's place, the packets
-- before him are the schedule's from there on, and where a call delivers, what he gives is what was delivered. That there are
-- packets whose counts add up to each rise of the skipped count is part of it: else he would have no answer.
use Rattle.std.specs.Prelude.{◌≡◌, true, false, ℕ, ◌+◌, ◌-◌, ◌≤◌, ◌<◌, None, Option, Some}
use Rattle.std.proofs.Math.Path.{sym, ap}
use Rattle.std.proofs.Common.{◌∙◌, subst, arith}
use mathlib.Core.List.{List, [], ◌∷◌, ◌++◌, append_assoc, append-nil}
use Rattle.srt_group_model.specs.Legs.{largest_64}
use Rattle.srt_group_model.specs.Tools.{if_true◌then◌else◌, if_some◌give◌otherwise◌}
use Rattle.srt_group_model.specs.State.{State, Making}
use Rattle.srt_group_model.specs.Run.{Mark, delivered}
use Rattle.srt_group_model.specs.Calls.{new}
use Rattle.srt_group_model.specs.declared.Packet.{Packet}
use Rattle.srt_group_model.specs.Lent.{delivered_by}
use Rattle.srt_group_model.specs.Laws.Reason.{some_inj}
use Rattle.srt_group_traces.specs.Statement.{total_skipped, total_delivered, place_after, last_put, Consecutive, pass_to, Told, told_by, give_next, clerk, SetBefore, AllNear, When, when_of, Asked, do_call, Delivery, state_after, log_after, skipped_in, with_payload, Went, place_of_base}
use Rattle.srt_group_traces.specs.Laws.Marks.{total_skipped_append, each_collected_before}
use Rattle.srt_group_traces.specs.Laws.Shape.{Quiet, Given, Shape, call_shape}
use Rattle.srt_group_traces.specs.Laws.Base.{place_is, sums_after, quiet_delivers_nothing, quiet_skips_nothing, before_delivery}
use Rattle.srt_group_traces.specs.Laws.Schedule.{pass_to_zero, pass_to_next, pass_to_further, sequence_at_place}
use Rattle.srt_group_traces.specs.Laws.Follows.{AtPlaces, FromSchedule, Follows, Following, call_following, new_following, AtPlace, from_schedule_of, calls_following}

-- ---- what was delivered, as it was queued

-- with the payload last put into the packet's cell
unfoldable pub given_as_queued : List Mark → Option Packet → List Delivery
given_as_queued log None = []
given_as_queued log (Some p) =
    record { sequence = p.content.sequence; count = p.content.count; payload = last_put log p.content.cell } ∷ []

-- `log` are the marks before these calls
unfoldable pub delivered_as_queued : List Mark → List Asked → State → List Delivery
delivered_as_queued log [] s = []
delivered_as_queued log (call ∷ more) s =
    given_as_queued ((do_call call s).log ++ log) (delivered_by (do_call call s).answer)
    ++ delivered_as_queued ((do_call call s).log ++ log) more (do_call call s).state

-- ---- small laws

-- the premises of a list are those of its beginning
pub from_schedule_before : (schedule : List Delivery) (first : ℕ) (m log : List Mark) → FromSchedule schedule first (m ++ log)
    → FromSchedule schedule first log
from_schedule_before schedule first m log h = (each_collected_before _ m log h.0, each_collected_before _ m log h.1)

pub skipped_rises : (m log : List Mark) → total_skipped log ≤ total_skipped (m ++ log)
skipped_rises m log = omega (arith, total_skipped_append m log)

give_next_some : (o : Option (List Delivery)) (x : Delivery) (xs ys left : List Delivery) (go_on : List Delivery → Option Went)
    → o ≡ Some (x ∷ xs) → go_on xs ≡ Some record { gave = ys; left = left }
    → give_next o go_on ≡ Some record { gave = x ∷ ys; left = left }
unfolding give_next if_some◌give◌otherwise◌
give_next_some o x xs ys left go_on e f =
    ap (λ (z : Option (List Delivery)). give_next z go_on) e
    ∙ ap (λ (z : Option Went). if_some z give (λ (w : Went). Some record { gave = x ∷ w.gave; left = w.left }) otherwise None) f

-- ---- one call

module _ (schedule : List Delivery) (first : ℕ) (runs : Consecutive first schedule) where
  -- The clerk has `ahead` before him; m are the marks of the call, log those before it; told and ys are of the calls after it.
  module _ (when : When) (s : State) (log : List Mark) (ahead : List Delivery)
      (here : pass_to schedule (place_after log) ≡ Some ahead)
      (after : State) (m : List Mark)
      (follows : Follows schedule first runs s.receive log)
      (follows_after : Follows schedule first runs after.receive (m ++ log))
      (from : FromSchedule schedule first (m ++ log)) (below : total_skipped (m ++ log) < largest_64) (told : List Told)
      (ys left : List Delivery) where
    known : s.receive.numbers.skipped ≡ total_skipped log
    known = omega (arith, follows.0.skipped, skipped_rises m log)

    skipped_now : after.receive.numbers.skipped ≡ total_skipped (m ++ log)
    skipped_now = omega (arith, follows_after.0.skipped)

    -- what he does from then on, wherever he then stands
    abbrev GoesOn : Type 0
    GoesOn =
        (rest : List Delivery) → pass_to schedule (place_after (m ++ log)) ≡ Some rest
        → clerk rest after.receive.numbers.skipped told ≡ Some record { gave = ys; left = left }

    -- a call that delivers nothing leaves him there
    stays : Quiet m → GoesOn → clerk ahead after.receive.numbers.skipped told ≡ Some record { gave = ys; left = left }
    stays quiet go_on = go_on ahead (ap (pass_to schedule) same_place ∙ here)
      where
        same_place : place_after (m ++ log) ≡ place_after log
        same_place = omega (arith, quiet_delivers_nothing m log quiet, quiet_skips_nothing m log quiet)

    -- a call that delivers: he passes the rise, gives the next and goes past it
    gives : (p : Packet) → Given when p after m → GoesOn
        → give_next (pass_to ahead (after.receive.numbers.skipped - s.receive.numbers.skipped)) (λ xs. clerk xs after.receive.numbers.skipped told)
        ≡ Some record { gave = with_payload p.content (last_put (m ++ log) p.content.cell) ∷ ys; left = left }
    unfolding total_delivered total_skipped last_put
    gives p given go_on =
        give_next_some (pass_to ahead (after.receive.numbers.skipped - s.receive.numbers.skipped)) at.scheduled
        at.rest ys left
        (λ xs. clerk xs after.receive.numbers.skipped told)
        (ap (pass_to ahead) rise ∙ sym (pass_to_further schedule (place_after log) distance ahead here) ∙ ap
        (pass_to schedule) at_base ∙ at.here)
        (go_on at.rest
        (ap (pass_to schedule) past
        ∙ pass_to_further schedule (place_after (given.before ++ log)) at.scheduled.count (at.scheduled ∷ at.rest) at.here
        ∙ pass_to_next at.scheduled at.rest
        (sequence_at_place first 0 schedule (place_after (given.before ++ log)) at.scheduled at.rest runs at.here).1))
        ∙ ap (λ (x : Delivery). Some record { gave = x ∷ ys; left = left }) (sym same)
      where
        at : AtPlace schedule (last_put (given.before ++ log)) (place_after (given.before ++ log)) p.content
        at = (subst (λ (z : List Mark). AtPlaces schedule (z ++ log)) given.is (follows_after.1 from).at_places).0

        distance : ℕ
        distance = (before_delivery when p after given.before log given.how).0

        nothing_delivered : total_delivered (given.before ++ log) ≡ total_delivered log
        nothing_delivered = (before_delivery when p after given.before log given.how).1

        skipped_before : total_skipped (given.before ++ log) ≡ total_skipped log + distance
        skipped_before = (before_delivery when p after given.before log given.how).2

        whole_skipped : total_skipped (m ++ log) ≡ total_skipped (given.before ++ log)
        whole_skipped = ap (λ (z : List Mark). total_skipped (z ++ log)) given.is

        whole_delivered : total_delivered (m ++ log) ≡ total_delivered (given.before ++ log) + p.content.count
        whole_delivered = ap (λ (z : List Mark). total_delivered (z ++ log)) given.is

        rise : after.receive.numbers.skipped - s.receive.numbers.skipped ≡ distance
        rise = omega (arith, skipped_now, known, whole_skipped, skipped_before)

        at_base : place_after log + distance ≡ place_after (given.before ++ log)
        at_base = omega (arith, nothing_delivered, skipped_before)

        past : place_after (m ++ log) ≡ place_after (given.before ++ log) + at.scheduled.count
        past = omega (arith, whole_skipped, whole_delivered, at.count)

        same : with_payload p.content (last_put (m ++ log) p.content.cell) ≡ at.scheduled
        same =
            λ i.
            record {
              sequence = at.sequence i;
              count = at.count i;
              payload = (ap (λ (z : List Mark). last_put (z ++ log) p.content.cell) given.is ∙ at.payload) i;
            }

    -- a call, by what it gave
    clerk_of_call : (o : Option Packet) → Shape when o after m → GoesOn
        → clerk ahead s.receive.numbers.skipped
        (record { skipped = after.receive.numbers.skipped; delivered = if_some o give (λ p. true) otherwise false } ∷ told)
        ≡ Some record { gave = given_as_queued (m ++ log) o ++ ys; left = left }
    unfolding clerk given_as_queued if_true◌then◌else◌ if_some◌give◌otherwise◌
    clerk_of_call None h go_on = stays h go_on
    clerk_of_call (Some p) h go_on = gives p h go_on

  -- ---- every list of calls, from any place where he stands

  pub clerk_of_calls : (calls : List Asked) (s : State) (log : List Mark) (ahead : List Delivery)
      → pass_to schedule (place_after log) ≡ Some ahead
      → Following schedule first runs s log → FromSchedule schedule first (log_after calls s ++ log)
      → total_skipped (log_after calls s ++ log) < largest_64
      → (left : List Delivery) → pass_to schedule (place_after (log_after calls s ++ log)) ≡ Some left
      → clerk ahead s.receive.numbers.skipped (told_by calls s) ≡ Some record { gave = delivered_as_queued log calls s; left = left }
  unfolding log_after told_by delivered_as_queued clerk
  clerk_of_calls [] s log ahead here k from below left there =
      ap (λ (l : List Delivery). Some record { gave = []; left = l }) (some_inj (sym here ∙ there))
  clerk_of_calls (call ∷ more) s log ahead here k from below left there =
      clerk_of_call (when_of call.call s) s log ahead here (do_call call s).state (do_call call s).log k.kept
      k_after.kept
      (from_schedule_before schedule first (log_after more (do_call call s).state) ((do_call call s).log ++ log) from_after)
      (omega (arith, below_after, skipped_rises (log_after more (do_call call s).state) ((do_call call s).log ++ log)))
      (told_by more (do_call call s).state) (delivered_as_queued ((do_call call s).log ++ log) more (do_call call s).state) left
      (delivered_by (do_call call s).answer) (call_shape call s)
      (λ rest e. clerk_of_calls more (do_call call s).state ((do_call call s).log ++ log) rest e k_after from_after below_after left there_after)
    where
      k_after : Following schedule first runs (do_call call s).state ((do_call call s).log ++ log)
      k_after = call_following schedule first runs call s log k

      from_after : FromSchedule schedule first (log_after more (do_call call s).state ++ ((do_call call s).log ++ log))
      from_after = rw append_assoc at from

      below_after : total_skipped (log_after more (do_call call s).state ++ ((do_call call s).log ++ log)) < largest_64
      below_after = rw append_assoc at below

      there_after : pass_to schedule (place_after (log_after more (do_call call s).state ++ ((do_call call s).log ++ log))) ≡ Some left
      there_after = rw append_assoc at there

  pub clerk_as_queued : (g : Making) (calls : List Asked) → SetBefore first (log_after calls (new g)) → AllNear schedule (log_after calls (new g))
      → skipped_in (state_after calls (new g)) < largest_64
      → (left : List Delivery) × (pass_to schedule (place_of_base g calls) ≡ Some left)
      × (clerk schedule 0 (told_by calls (new g)) ≡ Some record { gave = delivered_as_queued [] calls (new g); left = left })
  unfolding total_delivered total_skipped new
  clerk_as_queued g calls set_before near below =
      let from : FromSchedule schedule first (log_after calls (new g) ++ []) =
      rw append-nil (from_schedule_of schedule first (log_after calls (new g)) set_before near)
      in
      let end : (left : List Delivery) × (pass_to schedule (place_after (log_after calls (new g) ++ [])) ≡ Some left) =
      ((calls_following schedule first runs calls (new g) [] (new_following schedule first runs g)).kept.1 from).here
      in (
        end.0,
        ap (pass_to schedule) (place_is g calls below ∙ ap place_after (sym (append-nil (log_after calls (new g))))) ∙ end.1,
        clerk_of_calls calls (new g) [] schedule (pass_to_zero schedule) (new_following schedule first runs g) from
            (rw append-nil (omega (arith, below, (sums_after g calls).skipped))) end.0 end.1,
      )
