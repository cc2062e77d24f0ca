-- What is proved of the definitions in specs/Port.antt, with what the proofs need.
use Rattle.std.specs.Prelude.{◌≡◌, Bool, true, false, ◌⊎◌, eqb, None, Option, Some}
use Rattle.std.proofs.Math.Path.{refl, sym, ap, subst, fun_ext}
use Rattle.std.proofs.Common.{◌∙◌, add_comm, mod-eq_of_lt, arith}
use mathlib.Core.List.{List, [], ◌∷◌, ◌++◌, append_assoc, append-nil}
use Prim.Native.Nat.{ℕ, ◌+◌, ◌-◌, ◌%◌, ◌<◌}
use Rattle.srt_protocol.specs.Circle.{further}
use Rattle.srt_protocol.specs.Laws.Circle.{distance_up, distance_further}
use Rattle.srt_protocol.specs.Sequence.{half, sequence_distance, sequence_further}
use Rattle.srt_group_model.specs.Legs.{largest_64}
use Rattle.srt_group_model.specs.Tools.{if_true◌then◌else◌, if_some◌give◌otherwise◌, flagged, All}
use Rattle.srt_group_model.specs.State.{State, next_receive_sequence, Making}
use Rattle.srt_group_model.specs.Calls.{new, new_code}
use Rattle.srt_group_model.specs.Lent.{Result, delivered_by, Lent, Call, perform}
use Rattle.srt_group_model.specs.Laws.Reason.{when_true, when_false, by_test, none_some, some_inj}
use Rattle.srt_group_traces.specs.Statement.{first_base, total_skipped, place_after, Consecutive, pass_to, Told, told_by, give_next, clerk, OneStore, Fair, Prefix, until_skip, Gateway, stands_at, delivers, Asked, do_call, Delivery, given_by, state_after, log_after, deliveries, skipped_in, counts_of, Went, place_of_base}
use Rattle.srt_group_traces.specs.Laws.Cases.{by_option, eq_of, eqb_yes}
use Rattle.srt_group_traces.specs.Laws.CallWalk.{Fits}
use Rattle.srt_group_traces.specs.Laws.Gateways.{state_after_both, log_after_both, deliveries_both}
use Rattle.srt_group_traces.specs.Laws.Base.{half_above_zero, further_twice, further_none, further_fits, Stands, sums_after, delivered_counts, counts_append, based_has_first}
use Rattle.srt_group_traces.specs.Laws.ClerkClaim.{skipped_rises}
use Rattle.srt_group_traces.specs.Laws.Corollaries.{first_base_stays, unbased_is_still}
use Rattle.srt_group_traces.specs.Laws.AsQueued.{GivenToQueue, nothing_made_up}
use Rattle.srt_group_traces.specs.Laws.HistoryTheorem.{history_theorem}
use Rattle.srt_group_traces.specs.Port.{Shown, shows, shows_short, Taken, did, refused_short, shown_of, all_shown, calls_of, TakenFrom, Performed, shown_delivery, shown_deliveries, told_of, shown_told, last_shown, less_moved, first_shown, SkipsShown, shown_until_skip, Port, port_state, port_place, port_delivers, place_shown, Promise, step_made, shows_new, Does}
use Rattle.srt_group_traces.specs.ShortSchedule.{FairCalls}
use Rattle.srt_group_traces.specs.Laws.ShortSchedule.{short_schedule_is_fair}

-- ---- the model itself is such a port, for every list of calls

unfoldable pub taking : List Asked → State → List Taken
taking [] s = []
taking (call ∷ more) s = did call (shows (do_call call s)) ∷ taking more (do_call call s).state

pub taking_performs : (calls : List Asked) (s : State) → Performed s (taking calls s)
unfolding taking
taking_performs [] s = tt
taking_performs (call ∷ more) s = (refl, taking_performs more (do_call call s).state)

pub calls_of_taking : (calls : List Asked) (s : State) → calls_of (taking calls s) ≡ calls
unfolding taking calls_of
calls_of_taking [] s = refl
calls_of_taking (call ∷ more) s = ap {B = List Asked} (λ (cs : List Asked). call ∷ cs) (calls_of_taking more (do_call call s).state)

-- ---- a list grows by each call that keeps its promise

-- from the equations of a contract, as `Performs` of srt_group_shown has them, with the rows filled
pub performs_does : (call : Call) (bytes : Lent) (s : State) (x : Shown) → x.code ≡ (perform call bytes s).code
    → x.answer ≡ (perform call bytes s).answer → x.state ≡ (perform call bytes s).state → x.lent ≡ (perform call bytes s).lent
    → x.rows ≡ (perform call bytes s).rows
    → Does record { call = call; lent = bytes } s x
unfolding do_call
performs_does call bytes s x code answer state lent rows =
    record { code = code; answer = answer; state = state; lent = lent; rows = rows }

pub promise_is_step : (short : Bool) (asked : Asked) (s : State) (x : Shown) → Promise short asked s x → TakenFrom s (step_made short asked x)
promise_is_step true asked s x h = h
promise_is_step false asked s x h =
    λ i. record { state = h.state i; lent = h.lent i; code = h.code i; answer = h.answer i; rows = h.rows i }

pub one_more_step : (s : State) (steps : List Taken) (t : Taken) → Performed s steps → TakenFrom (last_shown s (all_shown steps)) t
    → Performed s (steps ++ (t ∷ []))
unfolding last_shown all_shown
one_more_step s [] t h e = (e, tt)
one_more_step s (x ∷ steps) t h e = (h.0, one_more_step (shown_of x).state steps t h.1 e)

pub promised_step : (s : State) (steps : List Taken) → Performed s steps → (short : Bool) (asked : Asked) (x : Shown)
    → Promise short asked (last_shown s (all_shown steps)) x
    → Performed s (steps ++ (step_made short asked x ∷ []))
promised_step s steps h short asked x promise =
    one_more_step s steps (step_made short asked x) h (promise_is_step short asked (last_shown s (all_shown steps)) x promise)

pub new_begins : (g : Making) (lent : Lent) (s : State)
    → ((shows_new g lent s).code ≡ 0 → (shows_new g lent s).state ≡ new g)
    × (((shows_new g lent s).code ≡ 0 → ⊥) → (shows_new g lent s).state ≡ s)
new_begins g lent s = (
  (λ e. when_true (eqb code 0) (new g) s (ap (λ (n : ℕ). eqb n 0) e ∙ eqb_yes 0)),
  λ refused. when_false (eqb code 0) (new g) s (by_test (eqb code 0) (λ e. absurd (refused (eq_of code 0 e))) (λ e. e)),
)
  where
    code : ℕ
    code = new_code g

-- ---- a step, seen as what it shows

-- What holds of a step that did what the model does and of one refused for a short table holds of every step.
pub by_step : (P : Taken → Type 0) (s : State) → ((call : Asked) → P (did call (shows (do_call call s))))
    → ((call : Asked) → P (refused_short call (shows_short call s)))
    → (t : Taken) → TakenFrom s t → P t
by_step P s f g (did call x) e = subst (λ (y : Shown). P (did call y)) (sym e) (f call)
by_step P s f g (refused_short call x) e = subst (λ (y : Shown). P (refused_short call y)) (sym e) (g call)

delivery_is_given : (r : Result) → shown_delivery (shows r) ≡ given_by r
unfolding shown_delivery given_by
delivery_is_given r = refl

short_delivers_nothing : (call : Asked) (s : State) → shown_delivery (shows_short call s) ≡ []
unfolding shown_delivery delivered_by if_some◌give◌otherwise◌
short_delivers_nothing call s = refl

pub shown_deliveries_are : (s : State) (steps : List Taken) → Performed s steps
    → shown_deliveries (all_shown steps) ≡ deliveries (calls_of steps) s
unfolding shown_deliveries deliveries all_shown calls_of
shown_deliveries_are s [] h = refl
shown_deliveries_are s (t ∷ steps) h =
    by_step
    (λ (t : Taken). Performed (shown_of t).state steps
    → shown_deliveries (shown_of t ∷ all_shown steps) ≡ deliveries (calls_of (t ∷ steps)) s)
    s
    (λ call k.
    ap (λ (l : List Delivery). l ++ shown_deliveries (all_shown steps)) (delivery_is_given (do_call call s))
    ∙ ap (λ (l : List Delivery). given_by (do_call call s) ++ l) (shown_deliveries_are (do_call call s).state steps k))
    (λ call k.
    ap (λ (l : List Delivery). l ++ shown_deliveries (all_shown steps)) (short_delivers_nothing call s)
    ∙ shown_deliveries_are s steps k)
    t h.0 h.1

pub last_shown_is : (s : State) (steps : List Taken) → Performed s steps
    → last_shown s (all_shown steps) ≡ state_after (calls_of steps) s
unfolding last_shown state_after all_shown calls_of
last_shown_is s [] h = refl
last_shown_is s (t ∷ steps) h =
    by_step
    (λ (t : Taken). Performed (shown_of t).state steps
    → last_shown (shown_of t).state (all_shown steps) ≡ state_after (calls_of (t ∷ steps)) s)
    s (λ call k. last_shown_is (do_call call s).state steps k) (λ call k. last_shown_is s steps k) t h.0 h.1

-- the place that it shows is the base's
pub place_shown_is : (g : Making) (steps : List Taken) → Performed (new g) steps → place_shown g steps ≡ place_of_base g (calls_of steps)
place_shown_is g steps h =
    ap (λ (l : List Delivery). counts_of l + skipped_in (last_shown (new g) (all_shown steps))) (shown_deliveries_are (new g) steps h)
    ∙ ap (λ (s : State). counts_of (deliveries (calls_of steps) (new g)) + skipped_in s) (last_shown_is (new g) steps h)

-- a refusal leaves the clerk where he is
clerk_passes_short : (call : Asked) (s : State) (told : List Told) (ahead : List Delivery)
    → clerk ahead (skipped_in s) (told_of (shows_short call s) ∷ told) ≡ clerk ahead (skipped_in s) told
unfolding clerk delivered_by if_some◌give◌otherwise◌ if_true◌then◌else◌
clerk_passes_short call s told ahead = refl

clerk_goes_on : (known : ℕ) (x : Told) (told more : List Told)
    → ((xs : List Delivery) → clerk xs x.skipped told ≡ clerk xs x.skipped more)
    → (ahead : List Delivery) → clerk ahead known (x ∷ told) ≡ clerk ahead known (x ∷ more)
unfolding clerk
clerk_goes_on known x told more h ahead =
    ap
    (λ (go_on : List Delivery → Option Went).
    if_true x.delivered then give_next (pass_to ahead (x.skipped - known)) go_on else go_on ahead)
    (fun_ext h)

-- The clerk who is told of every step gives what the one gives who is told of the model's calls alone.
pub shown_clerk_is : (s : State) (steps : List Taken) → Performed s steps → (ahead : List Delivery)
    → clerk ahead (skipped_in s) (shown_told (all_shown steps)) ≡ clerk ahead (skipped_in s) (told_by (calls_of steps) s)
unfolding shown_told told_by all_shown calls_of
shown_clerk_is s [] h = λ ahead. refl
shown_clerk_is s (t ∷ steps) h =
    by_step
    (λ (t : Taken). Performed (shown_of t).state steps → (ahead : List Delivery)
    → clerk ahead (skipped_in s) (told_of (shown_of t) ∷ shown_told (all_shown steps))
    ≡ clerk ahead (skipped_in s) (told_by (calls_of (t ∷ steps)) s))
    s
    (λ call k.
    clerk_goes_on (skipped_in s) (told_of (shows (do_call call s))) (shown_told (all_shown steps))
    (told_by (calls_of steps) (do_call call s).state) (shown_clerk_is (do_call call s).state steps k))
    (λ call k ahead. clerk_passes_short call s (shown_told (all_shown steps)) ahead ∙ shown_clerk_is s steps k ahead) t h.0
    h.1

-- ---- the clerk's list

-- The delivered list that a port shows is the clerk's, who is told what the port shows; and he stands at the base's place.
pub port_has_clerks_list : (schedule : List Delivery) (first : ℕ) → Consecutive first schedule → (g : Making) (steps : List Taken)
    → Performed (new g) steps → Fair schedule first g (calls_of steps)
    → (left : List Delivery) × (pass_to schedule (place_shown g steps) ≡ Some left)
    × (clerk schedule 0 (shown_told (all_shown steps)) ≡ Some record { gave = shown_deliveries (all_shown steps); left = left })
unfolding new
port_has_clerks_list schedule first runs g steps h fair =
    let w : (left : List Delivery) × (pass_to schedule (place_of_base g (calls_of steps)) ≡ Some left)
    × (clerk schedule 0 (told_by (calls_of steps) (new g)) ≡ Some record { gave = deliveries (calls_of steps) (new g); left = left }) =
    history_theorem.schedule schedule first runs g (calls_of steps) fair
    in (
      w.0,
      ap (pass_to schedule) (place_shown_is g steps h) ∙ w.1,
      shown_clerk_is (new g) steps h schedule ∙ w.2
          ∙ ap (λ (l : List Delivery). Some record { gave = l; left = w.0 }) (sym (shown_deliveries_are (new g) steps h)),
    )

-- ---- the base

-- from a number so far on, as far back
back_again : (first n : ℕ) → Fits first → sequence_distance n (sequence_further first n) ≡ first
unfolding further
back_again first n fits =
    ap (λ (z : ℕ). sequence_distance n (z % (half + half))) (add_comm first n) ∙ distance_further half n first half_above_zero
    ∙ mod-eq_of_lt fits

first_here : (x : Shown) (xs : List Shown) (base : ℕ) → Fits base → next_receive_sequence x.state.receive ≡ Some base
    → shown_delivery x ≡ [] → skipped_in x.state ≡ 0 → first_shown (x ∷ xs) ≡ Some base
unfolding first_shown if_some◌give◌otherwise◌ counts_of
first_here x xs base fits e silent unskipped =
    ap
    (λ (o : Option ℕ).
    if_some o
    give (λ base. Some (less_moved x base))
    otherwise first_shown xs)
    e
    ∙ ap (λ (n : ℕ). Some (sequence_distance n base)) none_yet ∙ ap {B = Option ℕ} Some from_zero
  where
    from_zero : sequence_distance 0 base ≡ base
    from_zero = omega (arith, distance_up half 0 base (omega arith) fits)

    none_yet : counts_of (shown_delivery x) + skipped_in x.state ≡ 0
    none_yet = omega (arith, ap counts_of silent, unskipped)

first_later : (x : Shown) (xs : List Shown) → next_receive_sequence x.state.receive ≡ None
    → first_shown (x ∷ xs) ≡ first_shown xs
unfolding first_shown if_some◌give◌otherwise◌
first_later x xs e =
    ap
    (λ (o : Option ℕ).
    if_some o
    give (λ base. Some (less_moved x base))
    otherwise first_shown xs)
    e

-- ---- a beginning of a list of steps, and what comes after it

pub performed_begins : (s : State) (steps more : List Taken) → Performed s (steps ++ more) → Performed s steps
performed_begins s [] more h = tt
performed_begins s (t ∷ steps) more h = (h.0, performed_begins (shown_of t).state steps more h.1)

pub performed_goes_on : (s : State) (steps more : List Taken) → Performed s (steps ++ more)
    → Performed (last_shown s (all_shown steps)) more
unfolding last_shown all_shown
performed_goes_on s [] more h = h
performed_goes_on s (t ∷ steps) more h = performed_goes_on (shown_of t).state steps more h.1

pub last_of : (s : State) (steps : List Taken) (t : Taken) → last_shown s (all_shown (steps ++ (t ∷ []))) ≡ (shown_of t).state
unfolding last_shown all_shown
last_of s [] t = refl
last_of s (x ∷ steps) t = last_of (shown_of x).state steps t

pub calls_of_both : (steps more : List Taken) → calls_of (steps ++ more) ≡ calls_of steps ++ calls_of more
unfolding calls_of
calls_of_both [] more = refl
calls_of_both (did call x ∷ steps) more = ap {B = List Asked} (λ (cs : List Asked). call ∷ cs) (calls_of_both steps more)
calls_of_both (refused_short call x ∷ steps) more = calls_of_both steps more

module _ (g : Making) where
  -- what a list of calls has come to, and what comes after it
  pub performed_on : (before : List Asked) (call : Asked)
      → (do_call call (state_after before (new g))).state ≡ state_after (before ++ (call ∷ [])) (new g)
  unfolding state_after
  performed_on before call = sym (state_after_both before (call ∷ []) (new g))

  -- the first value of the base of a list is that of a longer one, once it is set
  first_of_more : (before more : List Asked) (first : ℕ) → first_base (log_after before (new g)) ≡ Some first
      → first_base (log_after (before ++ more) (new g)) ≡ Some first
  first_of_more before more first e =
      ap first_base (log_after_both before more (new g))
      ∙ first_base_stays (log_after more (state_after before (new g))) (log_after before (new g)) first e

  -- the skipped count never falls
  skipped_of_more : (before more : List Asked) → skipped_in (state_after (before ++ more) (new g)) < largest_64
      → total_skipped (log_after before (new g)) < largest_64
  skipped_of_more before more below =
      omega (
        arith,
        below,
        (sums_after g (before ++ more)).skipped,
        ap total_skipped (log_after_both before more (new g)),
        skipped_rises (log_after more (state_after before (new g))) (log_after before (new g)),
      )

  -- the first step that shows a base
  first_of_step : (before : List Asked) (call : Asked) (base : ℕ)
      → next_receive_sequence (state_after before (new g)).receive ≡ None
      → next_receive_sequence (do_call call (state_after before (new g))).state.receive ≡ Some base
      → total_skipped (log_after (before ++ (call ∷ [])) (new g)) < largest_64
      → first_base (log_after (before ++ (call ∷ [])) (new g))
      ≡ Some
      (sequence_distance
      (counts_of (shown_delivery (shows (do_call call (state_after before (new g)))))
      + skipped_in (do_call call (state_after before (new g))).state) base)
  unfolding deliveries state_after counts_of
  first_of_step before call base unset set below =
      let w : (first : ℕ) × (first_base (log_after (before ++ (call ∷ [])) (new g)) ≡ Some first)
      × (base ≡ sequence_further first (place_after (log_after (before ++ (call ∷ [])) (new g)))) =
      based_has_first g (before ++ (call ∷ [])) base
      (ap (λ (x : State). next_receive_sequence x.receive) (state_after_both before (call ∷ []) (new g)) ∙ set)
      in
      w.1
      ∙ ap {B = Option ℕ} Some
      (sym
      (ap (sequence_distance _) w.2
      ∙ ap (λ (n : ℕ). sequence_distance n (sequence_further w.0 (place_after (log_after (before ++ (call ∷ [])) (new g))))) place
      ∙ back_again w.0 (place_after (log_after (before ++ (call ∷ [])) (new g))) (first_fits (first_base (log_after (before ++ (call ∷ [])) (new g))) _ _ w.0 w.1
      (sums_after g (before ++ (call ∷ []))).stands)))
    where
      first_fits : (o b : Option ℕ) (n first : ℕ) → o ≡ Some first → Stands o b n → Fits first
      first_fits None b n first e h = none_some e
      first_fits (Some f) b n first e h = subst Fits (some_inj e) h.0

      place : counts_of (shown_delivery (shows (do_call call (state_after before (new g)))))
          + skipped_in (do_call call (state_after before (new g))).state
          ≡ place_after (log_after (before ++ (call ∷ [])) (new g))
      place =
          omega (
            arith,
            below,
            delivered_counts (before ++ (call ∷ [])) (new g),
            (sums_after g (before ++ (call ∷ []))).skipped,
            ap (λ (x : State). skipped_in x) (state_after_both before (call ∷ []) (new g)),
            ap counts_of (deliveries_both before (call ∷ []) (new g)),
            counts_append (deliveries before (new g)) (deliveries (call ∷ []) (state_after before (new g))),
            counts_append (given_by (do_call call (state_after before (new g)))) [],
            ap counts_of (delivery_is_given (do_call call (state_after before (new g)))),
            (unbased_is_still g before unset).1,
          )

  first_shown_from : (before : List Asked) → next_receive_sequence (state_after before (new g)).receive ≡ None
      → (steps : List Taken) → Performed (state_after before (new g)) steps
      → skipped_in (state_after (before ++ calls_of steps) (new g)) < largest_64
      → first_shown (all_shown steps) ≡ first_base (log_after (before ++ calls_of steps) (new g))
  unfolding first_shown all_shown calls_of if_some◌give◌otherwise◌
  first_shown_from before unset [] h =
      λ below. sym (ap (λ (cs : List Asked). first_base (log_after cs (new g))) (append-nil before) ∙ (unbased_is_still g before unset).0)
  first_shown_from before unset (t ∷ steps) h =
      by_step
      (λ (t : Taken). Performed (shown_of t).state steps
      → skipped_in (state_after (before ++ calls_of (t ∷ steps)) (new g)) < largest_64
      → first_shown (shown_of t ∷ all_shown steps) ≡ first_base (log_after (before ++ calls_of (t ∷ steps)) (new g)))
      (state_after before (new g))
      (λ call k below.
      by_option (next_receive_sequence (do_call call (state_after before (new g))).state.receive)
      (λ e.
      ap (first_or (shows (do_call call (state_after before (new g))))) e
      ∙ first_shown_from (before ++ (call ∷ []))
      (ap (λ (x : State). next_receive_sequence x.receive) (sym (performed_on before call)) ∙ e) steps
      (subst (λ (x : State). Performed x steps) (performed_on before call) k)
      (subst (λ (cs : List Asked). skipped_in (state_after cs (new g)) < largest_64) (sym (regroup call)) below)
      ∙ ap (λ (cs : List Asked). first_base (log_after cs (new g))) (regroup call))
      (λ base e.
      ap (first_or (shows (do_call call (state_after before (new g))))) e
      ∙ sym
      (ap (λ (cs : List Asked). first_base (log_after cs (new g))) (sym (regroup call))
      ∙ first_of_more (before ++ (call ∷ [])) (calls_of steps) _
      (first_of_step before call base unset e
      (skipped_of_more (before ++ (call ∷ [])) (calls_of steps)
      (subst (λ (cs : List Asked). skipped_in (state_after cs (new g)) < largest_64) (sym (regroup call)) below))))))
      (λ call k below.
      ap (first_or (shows_short call (state_after before (new g)))) unset ∙ first_shown_from before unset steps k below)
      t h.0 h.1
    where
      first_or : Shown → Option ℕ → Option ℕ
      first_or x o =
          if_some o
          give (λ base. Some (less_moved x base))
          otherwise first_shown (all_shown steps)

      regroup : (call : Asked) → (before ++ (call ∷ [])) ++ calls_of steps ≡ before ++ (call ∷ calls_of steps)
      regroup call = append_assoc before (call ∷ []) (calls_of steps)

  -- The first value by what is shown is the one at the moment of setting.
  pub first_shown_is : (steps : List Taken) → Performed (new g) steps
      → skipped_in (last_shown (new g) (all_shown steps)) < largest_64
      → first_shown (all_shown steps) ≡ first_base (log_after (calls_of steps) (new g))
  unfolding state_after new flagged
  first_shown_is steps h below =
      first_shown_from [] refl steps h
      (subst (λ (s : State). skipped_in s < largest_64) (last_shown_is (new g) steps h) below)

  -- A base that a port shows has a first value by what it shows; the base less that is what it shows as delivered and skipped,
  -- modulo 2^31.
  pub port_base : (steps : List Taken) → Performed (new g) steps
      → skipped_in (last_shown (new g) (all_shown steps)) < largest_64
      → (base : ℕ) → next_receive_sequence (last_shown (new g) (all_shown steps)).receive ≡ Some base
      → (first : ℕ)
      × (first_shown (all_shown steps) ≡ Some first)
      × (sequence_distance first base ≡ place_shown g steps % (half + half))
  port_base steps h below base e =
      let w : (first : ℕ) × (first_base (log_after (calls_of steps) (new g)) ≡ Some first)
      × (skipped_in (state_after (calls_of steps) (new g)) < largest_64
      → sequence_distance first base ≡ place_of_base g (calls_of steps) % (half + half)) =
      history_theorem.base g (calls_of steps) base
      (ap (λ (s : State). next_receive_sequence s.receive) (sym (last_shown_is (new g) steps h)) ∙ e)
      in (
        w.0,
        first_shown_is steps h below ∙ w.1,
        w.2 (subst (λ (s : State). skipped_in s < largest_64) (last_shown_is (new g) steps h) below)
            ∙ ap (λ (n : ℕ). n % (half + half)) (sym (place_shown_is g steps h)),
      )

  -- While it shows no base, it shows nothing delivered and nothing skipped.
  pub port_unbased : (steps : List Taken) → Performed (new g) steps
      → next_receive_sequence (last_shown (new g) (all_shown steps)).receive ≡ None
      → place_shown g steps ≡ 0
  port_unbased steps h e =
      place_shown_is g steps h
      ∙ (history_theorem.unset g (calls_of steps) (ap (λ (s : State). next_receive_sequence s.receive) (sym (last_shown_is (new g) steps h)) ∙ e)).1

  base_shown_fits : (steps : List Taken) → Performed (new g) steps → (base : ℕ)
      → next_receive_sequence (last_shown (new g) (all_shown steps)).receive ≡ Some base → Fits base
  base_shown_fits steps h base e =
      let w : (first : ℕ) × (first_base (log_after (calls_of steps) (new g)) ≡ Some first)
      × (base ≡ sequence_further first (place_after (log_after (calls_of steps) (new g)))) =
      based_has_first g (calls_of steps) base
      (ap (λ (s : State). next_receive_sequence s.receive) (sym (last_shown_is (new g) steps h)) ∙ e)
      in
      subst Fits (sym w.2) (further_fits w.0 (place_after (log_after (calls_of steps) (new g))))

  -- one call, wherever a list of calls has come to
  call_moves_base : (before : List Asked) (call : Asked) (base : ℕ)
      → next_receive_sequence (state_after before (new g)).receive ≡ Some base
      → skipped_in (do_call call (state_after before (new g))).state < largest_64
      → next_receive_sequence (do_call call (state_after before (new g))).state.receive
      ≡ Some
      (sequence_further base
      (counts_of (shown_delivery (shows (do_call call (state_after before (new g)))))
      + (skipped_in (do_call call (state_after before (new g))).state - skipped_in (state_after before (new g)))))
  unfolding deliveries state_after counts_of
  call_moves_base before call base e below =
      let w : (first : ℕ) × (first_base (log_after before (new g)) ≡ Some first)
      × (base ≡ sequence_further first (place_after (log_after before (new g)))) =
      based_has_first g before base e
      in
      ap (λ (s : State). next_receive_sequence s.receive) (performed_on before call)
      ∙ stands_at_first (before ++ (call ∷ [])) w.0 (first_of_more before (call ∷ []) w.0 w.1)
      ∙ ap {B = Option ℕ} Some
      (ap (sequence_further w.0) moved ∙ sym (further_twice w.0 (place_after (log_after before (new g))) by)
      ∙ ap (λ (n : ℕ). sequence_further n by) (sym w.2))
    where
      by : ℕ
      by =
          counts_of (shown_delivery (shows (do_call call (state_after before (new g)))))
          + (skipped_in (do_call call (state_after before (new g))).state - skipped_in (state_after before (new g)))

      stands_at_first : (calls : List Asked) (first : ℕ) → first_base (log_after calls (new g)) ≡ Some first
          → next_receive_sequence (state_after calls (new g)).receive
          ≡ Some (sequence_further first (place_after (log_after calls (new g))))
      stands_at_first calls first f =
          (subst (λ (o : Option ℕ). Stands o (next_receive_sequence (state_after calls (new g)).receive)
          (place_after (log_after calls (new g)))) f
          (sums_after g calls).stands).1

      moved : place_after (log_after (before ++ (call ∷ [])) (new g))
          ≡ place_after (log_after before (new g))
          + (counts_of (shown_delivery (shows (do_call call (state_after before (new g)))))
          + (skipped_in (do_call call (state_after before (new g))).state - skipped_in (state_after before (new g))))
      moved =
          omega (
            arith,
            below,
            delivered_counts before (new g),
            delivered_counts (before ++ (call ∷ [])) (new g),
            (sums_after g before).skipped,
            (sums_after g (before ++ (call ∷ []))).skipped,
            ap (λ (x : State). skipped_in x) (performed_on before call),
            ap total_skipped (log_after_both before (call ∷ []) (new g)),
            skipped_rises (log_after (call ∷ []) (state_after before (new g))) (log_after before (new g)),
            ap counts_of (deliveries_both before (call ∷ []) (new g)),
            counts_append (deliveries before (new g)) (deliveries (call ∷ []) (state_after before (new g))),
            counts_append (given_by (do_call call (state_after before (new g)))) [],
            ap counts_of (delivery_is_given (do_call call (state_after before (new g)))),
          )

  -- Once a port shows a base, the next step moves it as far as the step shows as delivered and as the skipped count rises, and no
  -- other way.
  pub port_moves_base : (steps : List Taken) (t : Taken) → Performed (new g) (steps ++ (t ∷ [])) → (base : ℕ)
      → next_receive_sequence (last_shown (new g) (all_shown steps)).receive ≡ Some base
      → skipped_in (shown_of t).state < largest_64
      → next_receive_sequence (shown_of t).state.receive
      ≡ Some
      (sequence_further base
      (counts_of (shown_delivery (shown_of t))
      + (skipped_in (shown_of t).state - skipped_in (last_shown (new g) (all_shown steps)))))
  unfolding counts_of
  port_moves_base steps t h base =
      subst Moves (sym (last_shown_is (new g) steps (performed_begins (new g) steps (t ∷ []) h)))
      (λ e.
      by_step
      (λ (t : Taken). skipped_in (shown_of t).state < largest_64
      → next_receive_sequence (shown_of t).state.receive
      ≡ Some
      (sequence_further base
      (counts_of (shown_delivery (shown_of t))
      + (skipped_in (shown_of t).state - skipped_in (state_after (calls_of steps) (new g))))))
      (state_after (calls_of steps) (new g)) (λ call below. call_moves_base (calls_of steps) call base e below)
      (λ call below.
      e
      ∙ ap {B = Option ℕ} Some
      (sym
      (ap (sequence_further base) (none_moved call)
      ∙ further_none base
      (base_shown_fits steps (performed_begins (new g) steps (t ∷ []) h) base
      (ap (λ (s : State). next_receive_sequence s.receive)
      (last_shown_is (new g) steps (performed_begins (new g) steps (t ∷ []) h)) ∙ e)))))
      t
      (subst (λ (s : State). TakenFrom s t) (last_shown_is (new g) steps (performed_begins (new g) steps (t ∷ []) h))
      (performed_goes_on (new g) steps (t ∷ []) h).0))
    where
      Moves : State → Type 0
      Moves s =
          next_receive_sequence s.receive ≡ Some base → skipped_in (shown_of t).state < largest_64
          → next_receive_sequence (shown_of t).state.receive
          ≡ Some
          (sequence_further base
          (counts_of (shown_delivery (shown_of t)) + (skipped_in (shown_of t).state - skipped_in s)))

      none_moved : (call : Asked)
          → counts_of (shown_delivery (shows_short call (state_after (calls_of steps) (new g))))
          + (skipped_in (state_after (calls_of steps) (new g)) - skipped_in (state_after (calls_of steps) (new g)))
          ≡ 0
      none_moved call = omega (arith, ap counts_of (short_delivers_nothing call (state_after (calls_of steps) (new g))))

  -- Where the first step that shows a base delivers nothing and shows nothing skipped, that base is the first value. `steps`
  -- come before it, and show none.
  pub first_is_first_base : (steps : List Taken) (t : Taken) (more : List Taken) → Performed (new g) (steps ++ (t ∷ more))
      → All (λ (x : Shown). next_receive_sequence x.state.receive ≡ None) (all_shown steps)
      → (base : ℕ) → next_receive_sequence (shown_of t).state.receive ≡ Some base
      → shown_delivery (shown_of t) ≡ [] → skipped_in (shown_of t).state ≡ 0
      → first_shown (all_shown (steps ++ (t ∷ more))) ≡ Some base
  unfolding all_shown
  first_is_first_base steps t more h unset base e silent unskipped = go steps unset
    where
      fits : Fits base
      fits =
          base_shown_fits (steps ++ (t ∷ []))
          (performed_begins (new g) (steps ++ (t ∷ [])) more
          (subst (Performed (new g)) (sym (append_assoc steps (t ∷ []) more)) h)) base
          (ap (λ (s : State). next_receive_sequence s.receive) (last_of (new g) steps t) ∙ e)

      go : (l : List Taken) → All (λ (x : Shown). next_receive_sequence x.state.receive ≡ None) (all_shown l)
          → first_shown (all_shown (l ++ (t ∷ more))) ≡ Some base
      go [] h = first_here (shown_of t) (all_shown more) base fits e silent unskipped
      go (y ∷ l) h = first_later (shown_of y) (all_shown (l ++ (t ∷ more))) h.0 ∙ go l h.1

-- ---- as it was queued

-- Where there is one store, all that a port shows as delivered was given to an accepted call to queue, byte for byte.
pub port_makes_up_nothing : (g : Making) (steps : List Taken) → Performed (new g) steps → (store : List ℕ)
    → OneStore store (calls_of steps) (new g)
    → All (GivenToQueue g (calls_of steps)) (shown_deliveries (all_shown steps))
port_makes_up_nothing g steps h store one =
    subst (All (GivenToQueue g (calls_of steps))) (sym (shown_deliveries_are (new g) steps h))
    (nothing_made_up g (calls_of steps) store one)

-- ---- skips

skips_shown_from : (g : Making) (before : List Asked) (steps : List Taken) → Performed (state_after before (new g)) steps
    → SkipsShown (state_after before (new g)) steps
skips_shown_from g before [] h = tt
skips_shown_from g before (t ∷ steps) h =
    by_step
    (λ (t : Taken). Performed (shown_of t).state steps → SkipsShown (state_after before (new g)) (t ∷ steps))
    (state_after before (new g))
    (λ call k. (
      history_theorem.rises g before call,
      subst (λ (x : State). SkipsShown x steps) (sym (performed_on g before call))
          (skips_shown_from g (before ++ (call ∷ [])) steps
          (subst (λ (x : State). Performed x steps) (performed_on g before call) k)),
    ))
    (λ call k. (refl, skips_shown_from g before steps k)) t h.0 h.1

-- Every step of a port that raises the skipped count made a right skip.
pub port_skips : (g : Making) (steps : List Taken) → Performed (new g) steps → SkipsShown (new g) steps
unfolding state_after
port_skips g steps h = skips_shown_from g [] steps h

-- ---- two ports

until_skip_shows : (s : State) (steps : List Taken) → Performed s steps
    → shown_deliveries (shown_until_skip (skipped_in s) (all_shown steps)) ≡ deliveries (until_skip (calls_of steps) s) s
unfolding shown_until_skip until_skip shown_deliveries deliveries all_shown calls_of
until_skip_shows s [] h = refl
until_skip_shows s (t ∷ steps) h =
    by_step
    (λ (t : Taken). Performed (shown_of t).state steps
    → shown_deliveries (shown_until_skip (skipped_in s) (shown_of t ∷ all_shown steps))
    ≡ deliveries (until_skip (calls_of (t ∷ steps)) s) s)
    s
    (λ call k.
    by_test (eqb (skipped_in (do_call call s).state) (skipped_in s))
    (λ e.
    ap shown_deliveries (when_true (eqb (skipped_in (do_call call s).state) (skipped_in s)) _ _ e)
    ∙ ap (λ (l : List Delivery). l ++ shown_deliveries (shown_until_skip (skipped_in s) (all_shown steps)))
    (delivery_is_given (do_call call s))
    ∙ ap (λ (n : ℕ). given_by (do_call call s) ++ shown_deliveries (shown_until_skip n (all_shown steps)))
    (sym (eq_of (skipped_in (do_call call s).state) (skipped_in s) e))
    ∙ ap (λ (l : List Delivery). given_by (do_call call s) ++ l) (until_skip_shows (do_call call s).state steps k)
    ∙ sym (ap (λ (cs : List Asked). deliveries cs s) (when_true (eqb (skipped_in (do_call call s).state) (skipped_in s)) _ _ e)))
    (λ e.
    ap shown_deliveries (when_false (eqb (skipped_in (do_call call s).state) (skipped_in s)) _ _ e)
    ∙ sym (ap (λ (cs : List Asked). deliveries cs s) (when_false (eqb (skipped_in (do_call call s).state) (skipped_in s)) _ _ e))))
    (λ call k.
    ap shown_deliveries (when_true (eqb (skipped_in s) (skipped_in s)) _ _ (eqb_yes (skipped_in s)))
    ∙ ap (λ (l : List Delivery). l ++ shown_deliveries (shown_until_skip (skipped_in s) (all_shown steps)))
    (short_delivers_nothing call s)
    ∙ until_skip_shows s steps k)
    t h.0 h.1

module _ (schedule : List Delivery) (first : ℕ) where
  abbrev as_gateway : Port schedule first → Gateway schedule first
  as_gateway w =
      record {
        making = w.making;
        before = calls_of w.before;
        after = calls_of w.after;
        fair = subst (Fair schedule first w.making) (calls_of_both w.before w.after) w.fair;
      }

  begun : (w : Port schedule first) → Performed (new w.making) w.before
  begun w = performed_begins (new w.making) w.before w.after w.performed

  place_is : (w : Port schedule first) → port_place schedule first w ≡ stands_at schedule first (as_gateway w)
  place_is w = place_shown_is w.making w.before (begun w)

  delivers_is : (w : Port schedule first) → port_delivers schedule first w ≡ delivers schedule first (as_gateway w)
  delivers_is w =
      until_skip_shows (port_state schedule first w) w.after
      (performed_goes_on (new w.making) w.before w.after w.performed)
      ∙ ap (λ (s : State). deliveries (until_skip (calls_of w.after) s) s)
      (last_shown_is (new w.making) w.before (begun w))

  -- Two ports that stand at one place show the same packets, one list a prefix of the other, each up to its next skip.
  pub ports_agree : Consecutive first schedule → (a b : Port schedule first) → port_place schedule first a ≡ port_place schedule first b
      → Prefix (port_delivers schedule first a) (port_delivers schedule first b) ⊎ Prefix (port_delivers schedule first b) (port_delivers schedule first a)
  ports_agree runs a b e =
      rw (delivers_is a, delivers_is b)
      (history_theorem.gateways schedule first runs (as_gateway a) (as_gateway b) (sym (place_is a) ∙ e ∙ place_is b))

-- For a short schedule the premises follow from the calls.
pub short_port_is_fair : (schedule : List Delivery) (first : ℕ) → Consecutive first schedule → (g : Making) (before after : List Taken)
    → FairCalls schedule first g (calls_of before) (calls_of after) → Fair schedule first g (calls_of (before ++ after))
short_port_is_fair schedule first runs g before after h =
    subst (Fair schedule first g) (sym (calls_of_both before after))
    (short_schedule_is_fair schedule first runs g (calls_of before) (calls_of after) h)
