-- Two gateways over one schedule. Once both stand at one place of it, counted unreduced, they deliver the same packets, one list a
-- prefix of the other, each up to its next skip: with no skip the clerk gives what stands before him, from the front.
use Rattle.std.specs.Prelude.{◌≡◌, refl, ◌⊎◌, List, [], ◌∷◌, ◌++◌, ℕ, ◌-◌, ◌<◌, None, Option, Some}
use Rattle.std.proofs.Common.{sym, ap, ◌∙◌, subst, inl, inr, ⊎_elim, append_assoc, append-nil, arith}
use Rattle.srt_group_model.specs.Legs.{largest_64}
use Rattle.srt_group_model.specs.Tools.{if_some◌give◌otherwise◌}
use Rattle.srt_group_model.specs.State.{State}
use Rattle.srt_group_model.specs.Run.{Mark}
use Rattle.srt_group_model.specs.Laws.Reason.{if_elim, none_some, some_inj}
use Rattle.srt_group_traces.specs.Statement.{total_skipped, place_after, last_put, Consecutive, pass_to, Told, told_by, give_next, clerk, OneStore, Prefix, until_skip, Gateway, stands_at, delivers, Asked, do_call, Delivery, given_by, state_after, log_after, deliveries, skipped_in, Went}
use Rattle.srt_group_traces.specs.Laws.Cases.{by_option, eq_of}
use Rattle.srt_group_traces.specs.Laws.Base.{delivered_counts, sums_after}
use Rattle.srt_group_traces.specs.Laws.Schedule.{pass_to_zero}
use Rattle.srt_group_traces.specs.Laws.Follows.{FromSchedule, Following, calls_following, new_following, from_schedule_of}
use Rattle.srt_group_traces.specs.Laws.ClerkClaim.{delivered_as_queued, from_schedule_before, skipped_rises, clerk_of_calls}
use Rattle.srt_group_traces.specs.Laws.Bytes.{Live, InCell, delivered_is_as_queued, one_store_after, one_store_begins, new_alive}
use Rattle.srt_group_model.specs.Calls.{new}

-- ---- a prefix

-- two beginnings of one list
pub two_prefixes : (xs ys whole : List Delivery) → Prefix xs whole → Prefix ys whole → Prefix xs ys ⊎ Prefix ys xs
two_prefixes [] ys whole p q = inl (ys, refl)
two_prefixes (x ∷ xs) [] whole p q = inr (x ∷ xs, refl)
two_prefixes (x ∷ xs) (y ∷ ys) whole p q =
    ⊎_elim (λ (a : Prefix xs ys). inl (a.0, shorter a)) (λ (b : Prefix ys xs). inr (b.0, longer b))
    (two_prefixes xs ys (xs ++ p.0) (p.0, refl) (q.0, tails))
  where
    heads : x ≡ y
    heads = let e : x ∷ (xs ++ p.0) ≡ y ∷ (ys ++ q.0) = p.1 ∙ sym q.1 in cc

    tails : ys ++ q.0 ≡ xs ++ p.0
    tails = let e : x ∷ (xs ++ p.0) ≡ y ∷ (ys ++ q.0) = p.1 ∙ sym q.1 in cc

    shorter : (a : Prefix xs ys) → x ∷ (xs ++ a.0) ≡ y ∷ ys
    shorter a = cc (heads, a.1)

    longer : (b : Prefix ys xs) → y ∷ (ys ++ b.0) ≡ x ∷ xs
    longer b = cc (heads, b.1)

-- ---- the clerk, where nothing is skipped

-- the skipped count stays as it is
abbrev pub NoSkip : ℕ → List Told → Type 0
NoSkip known [] = Unit {0}
NoSkip known (told ∷ more) = (told.skipped ≡ known) × NoSkip known more

give_next_front : (ahead : List Delivery) (go_on : List Delivery → Option Went) (w : Went)
    → ((xs : List Delivery) (v : Went) → go_on xs ≡ Some v → Prefix v.gave xs) → give_next (Some ahead) go_on ≡ Some w → Prefix w.gave ahead
unfolding give_next if_some◌give◌otherwise◌
give_next_front [] go_on w front e = none_some e
give_next_front (x ∷ xs) go_on w front e =
    by_option (go_on xs) (λ n. none_some (sym (ap cons_to n) ∙ e))
    (λ v n.
    let f : Prefix v.gave xs = front xs v n in (
      f.0,
      ap (λ (z : Went). z.gave ++ f.0) (sym (some_inj (sym (ap cons_to n) ∙ e)))
          ∙ ap {B = List Delivery} (λ (l : List Delivery). x ∷ l) f.1,
    ))
  where
    cons_to : Option Went → Option Went
    cons_to o = if_some o give (λ (v : Went). Some record { gave = x ∷ v.gave; left = v.left }) otherwise None

-- he gives what stands before him, from the front
pub clerk_front : (ahead : List Delivery) (known : ℕ) (told : List Told) (w : Went) → NoSkip known told
    → clerk ahead known told ≡ Some w → Prefix w.gave ahead
unfolding clerk
clerk_front ahead known [] w h e = (ahead, ap (λ (z : Went). z.gave ++ ahead) (sym (some_inj e)))
clerk_front ahead known (told ∷ more) w h e =
    if_elim (λ (o : Option Went). o ≡ Some w → Prefix w.gave ahead) told.delivered _ _
    (λ d f.
    give_next_front ahead (λ xs. clerk xs told.skipped more) w (λ xs v n. clerk_front xs told.skipped more v still n)
    (ap (λ (o : Option (List Delivery)). give_next o (λ xs. clerk xs told.skipped more))
    (sym (ap (pass_to ahead) no_rise ∙ pass_to_zero ahead)) ∙ f))
    (λ d f. clerk_front ahead told.skipped more w still f) e
  where
    still : NoSkip told.skipped more
    still = subst (λ (z : ℕ). NoSkip z more) (sym h.0) h.1

    no_rise : told.skipped - known ≡ 0
    no_rise = omega (arith, h.0)

-- ---- lists of calls, one after the other

pub state_after_both : (calls more : List Asked) (s : State)
    → state_after (calls ++ more) s ≡ state_after more (state_after calls s)
unfolding state_after
state_after_both [] more s = refl
state_after_both (call ∷ calls) more s = state_after_both calls more (do_call call s).state

pub log_after_both : (calls more : List Asked) (s : State)
    → log_after (calls ++ more) s ≡ log_after more (state_after calls s) ++ log_after calls s
unfolding state_after log_after
log_after_both [] more s = sym (append-nil (log_after more s))
log_after_both (call ∷ calls) more s =
    ap (λ (m : List Mark). m ++ (do_call call s).log) (log_after_both calls more (do_call call s).state)
    ∙ append_assoc (log_after more (state_after calls (do_call call s).state)) (log_after calls (do_call call s).state)
    (do_call call s).log

pub deliveries_both : (calls more : List Asked) (s : State)
    → deliveries (calls ++ more) s ≡ deliveries calls s ++ deliveries more (state_after calls s)
unfolding state_after deliveries
deliveries_both [] more s = refl
deliveries_both (call ∷ calls) more s =
    ap (λ (l : List Delivery). given_by (do_call call s) ++ l) (deliveries_both calls more (do_call call s).state)
    ∙ sym (append_assoc (given_by (do_call call s)) (deliveries calls (do_call call s).state)
    (deliveries more (state_after calls (do_call call s).state)))

pub until_skip_no_skip : (calls : List Asked) (s : State) → NoSkip (skipped_in s) (told_by (until_skip calls s) s)
unfolding until_skip told_by
until_skip_no_skip [] s = tt
until_skip_no_skip (call ∷ more) s =
    if_elim (λ (cs : List Asked). NoSkip (skipped_in s) (told_by cs s)) _ _ _
    (λ e. (
      eq_of (skipped_in (do_call call s).state) (skipped_in s) e,
      subst (λ (n : ℕ). NoSkip n (told_by (until_skip more (do_call call s).state) (do_call call s).state))
          (eq_of (skipped_in (do_call call s).state) (skipped_in s) e) (until_skip_no_skip more (do_call call s).state),
    ))
    (λ e. tt)

-- they are a beginning of the calls
pub until_skip_begins : (calls : List Asked) (s : State) → (rest : List Asked) × (until_skip calls s ++ rest ≡ calls)
unfolding until_skip
until_skip_begins [] s = ([], refl)
until_skip_begins (call ∷ more) s =
    if_elim (λ (cs : List Asked). (rest : List Asked) × (cs ++ rest ≡ call ∷ more)) _ _ _
    (λ e.
    let b : (rest : List Asked) × (until_skip more (do_call call s).state ++ rest ≡ more) =
    until_skip_begins more (do_call call s).state in
    (b.0, ap {B = List Asked} (λ (cs : List Asked). call ∷ cs) b.1))
    (λ e. (call ∷ more, refl))

-- ---- a gateway

module _ (schedule : List Delivery) (first : ℕ) where
  module _ (runs : Consecutive first schedule) where
    -- it stands at the front of the schedule from its place on
    gateway_front : (w : Gateway schedule first)
        → (ahead : List Delivery) × (pass_to schedule (stands_at schedule first w) ≡ Some ahead) × Prefix (delivers schedule first w) ahead
    gateway_front w = (
      (k.kept.1 from_before).here.0,
      ap (pass_to schedule) same_place ∙ (k.kept.1 from_before).here.1,
      subst (λ (xs : List Delivery). Prefix xs (k.kept.1 from_before).here.0) (sym as_queued)
          (clerk_front (k.kept.1 from_before).here.0 (skipped_in reached) (told_by on reached)
          record { gave = delivered_as_queued log on reached; left = end.0 }
          (until_skip_no_skip w.after reached)
          (clerk_of_calls schedule first runs on reached log (k.kept.1 from_before).here.0
          (k.kept.1 from_before).here.1 k from_on below_on end.0 end.1)),
    )
      where
        reached : State
        reached = state_after w.before (new w.making)

        log : List Mark
        log = log_after w.before (new w.making)

        on : List Asked
        on = until_skip w.after (state_after w.before (new w.making))

        rest : (rest : List Asked) × (until_skip w.after (state_after w.before (new w.making)) ++ rest ≡ w.after)
        rest = until_skip_begins w.after (state_after w.before (new w.making))

        -- all marks: of the calls after those up to the skip, of those up to the skip, and of those before
        whole : log_after (w.before ++ w.after) (new w.making) ≡ log_after rest.0 (state_after on reached) ++ (log_after on reached ++ log)
        whole =
            log_after_both w.before w.after (new w.making)
            ∙ ap (λ (m : List Mark). m ++ log)
            (ap (λ (cs : List Asked). log_after cs reached) (sym rest.1) ∙ log_after_both on rest.0 reached)
            ∙ append_assoc (log_after rest.0 (state_after on reached)) (log_after on reached) log

        from_on : FromSchedule schedule first (log_after on reached ++ log)
        from_on =
            from_schedule_before schedule first (log_after rest.0 (state_after on reached)) (log_after on reached ++ log)
            (subst (FromSchedule schedule first) whole (from_schedule_of schedule first (log_after (w.before ++ w.after) (new w.making)) w.fair.set_before w.fair.near))

        from_before : FromSchedule schedule first log
        from_before = from_schedule_before schedule first (log_after on reached) log from_on

        below_on : total_skipped (log_after on reached ++ log) < largest_64
        below_on =
            omega (
              arith,
              w.fair.below,
              (sums_after w.making (w.before ++ w.after)).skipped,
              ap total_skipped whole,
              skipped_rises (log_after rest.0 (state_after on reached)) (log_after on reached ++ log),
            )

        k : Following schedule first runs reached log
        k =
            subst (Following schedule first runs reached) (append-nil log)
            (calls_following schedule first runs w.before (new w.making) [] (new_following schedule first runs w.making))

        end : (left : List Delivery) × (pass_to schedule (place_after (log_after on reached ++ log)) ≡ Some left)
        end = ((calls_following schedule first runs on reached log k).kept.1 from_on).here

        same_place : stands_at schedule first w ≡ place_after log
        same_place =
            omega (
              arith,
              delivered_counts w.before (new w.making),
              k.kept.0.skipped,
              below_on,
              skipped_rises (log_after on reached) log,
            )

        one : (left : List ℕ) × Live (InCell left (last_put (log ++ []))) reached × OneStore left w.after reached
        one =
            one_store_after w.before w.after (new w.making) w.fair.store [] (new_alive w.making w.fair.store)
            w.fair.one_store

        one_on : OneStore one.0 on reached
        one_on =
            one_store_begins on rest.0 reached one.0
            (subst (λ (cs : List Asked). OneStore one.0 cs reached) (sym rest.1) one.2)

        as_queued : deliveries on reached ≡ delivered_as_queued log on reached
        as_queued =
            delivered_is_as_queued on reached one.0 log
            (subst (λ (l : List Mark). Live (InCell one.0 (last_put l)) reached) (append-nil log) one.1) one_on

    -- Two gateways that stand at one place deliver the same packets, one list a prefix of the other, each up to its next skip.
    pub gateways_claim : (a b : Gateway schedule first) → stands_at schedule first a ≡ stands_at schedule first b
        → Prefix (delivers schedule first a) (delivers schedule first b) ⊎ Prefix (delivers schedule first b) (delivers schedule first a)
    gateways_claim a b e =
        two_prefixes (delivers schedule first a) (delivers schedule first b) (gateway_front a).0 (gateway_front a).2
        (subst (Prefix (delivers schedule first b)) (some_inj (sym (gateway_front b).1 ∙ ap (pass_to schedule) (sym e) ∙ (gateway_front a).1))
        (gateway_front b).2)
