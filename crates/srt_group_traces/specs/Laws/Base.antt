-- Base arithmetic: the base is its first value and as far on as was delivered and skipped, modulo 2^31; the skipped total is
-- the sum of the distances, up to its ceiling. It needs no premise on when the base was set.
use Rattle.std.specs.Prelude.{◌≡◌, refl, ◌⊎◌, List, [], ◌∷◌, ◌++◌, ℕ, ◌+◌, ◌%◌, ◌<◌, min, None, Option, Some}
use Rattle.std.proofs.Common.{sym, ap, ◌∙◌, subst, inl, inr, append-nil, add-zero, add_assoc, mod-eq_of_lt, mod-lt, arith}
use Rattle.std.proofs.Math.Nat.{mod-add-mod}
use Rattle.srt_protocol.specs.Circle.{further}
use Rattle.srt_protocol.specs.Laws.Circle.{further_distance, distance_further}
use Rattle.srt_protocol.specs.Sequence.{half, sequence_distance, sequence_further}
use Rattle.srt_group_model.specs.Legs.{largest_64}
use Rattle.srt_group_model.specs.Tools.{if_some◌give◌otherwise◌, flagged, or_else, All}
use Rattle.srt_group_model.specs.State.{State, Receive, next_receive_sequence, Making}
use Rattle.srt_group_model.specs.Nearest.{sequence_of, nearest}
use Rattle.srt_group_model.specs.Run.{Mark, put, base_set, collected, gap_skipped, delivered}
use Rattle.srt_group_model.specs.Delivery.{pass_run, skip_to}
use Rattle.srt_group_model.specs.Calls.{new}
use Rattle.srt_group_model.specs.declared.Data.{Data}
use Rattle.srt_group_model.specs.declared.Packet.{Packet}
use Rattle.srt_group_model.specs.Laws.Reason.{none_some, some_inj}
use Rattle.srt_group_model.specs.Lent.{Result, delivered_by}
use Rattle.srt_group_traces.specs.Statement.{first_base, total_skipped, total_delivered, place_after, When, when_of, Asked, do_call, Delivery, delivery_of, given_by, state_after, log_after, deliveries, counts_of, skipped_in, place_of_base}
use Rattle.srt_group_traces.specs.Laws.Cases.{each_at}
use Rattle.srt_group_traces.specs.Laws.Marks.{total_delivered_append}
use Rattle.srt_group_traces.specs.Laws.Law.{OfContent, PutLaw}
use Rattle.srt_group_traces.specs.Laws.CallWalk.{Fits, Holds, calls_hold}
use Rattle.srt_group_traces.specs.Laws.Held.{insert_all, nearest_all, not_covered_all}
use Rattle.srt_group_traces.specs.Laws.Sides.{sides}
use Rattle.srt_group_traces.specs.Laws.Shape.{Quiet, Skip, Shape, call_shape}

pub half_above_zero : 0 < half
unfolding half
half_above_zero = omega arith

-- ---- the circle

pub further_twice : (a m n : ℕ) → sequence_further (sequence_further a m) n ≡ sequence_further a (m + n)
unfolding further
further_twice a m n = mod-add-mod (a + m) (half + half) n ∙ ap (λ (x : ℕ). x % (half + half)) (add_assoc a m n)

pub further_none : (a : ℕ) → Fits a → sequence_further a 0 ≡ a
unfolding further
further_none a fits = ap (λ (x : ℕ). x % (half + half)) (add-zero a) ∙ mod-eq_of_lt fits

pub further_fits : (a n : ℕ) → Fits (sequence_further a n)
unfolding further
further_fits a n = mod-lt (a + n) {m = half + half} (omega (arith, half_above_zero))

pub further_to : (a b : ℕ) → Fits b → sequence_further a (sequence_distance a b) ≡ b
further_to a b fits = further_distance half a b half_above_zero ∙ mod-eq_of_lt fits

-- ---- where the base stands: unset, with nothing moved, or as far on from its first value as the place says

abbrev pub Stands : (first base : Option ℕ) (place : ℕ) → Type 0
Stands None base place = (base ≡ None) × (place ≡ 0)
Stands (Some first) base place = Fits first × (base ≡ Some (sequence_further first place))

stands_set : (first base : Option ℕ) (place b : ℕ) → base ≡ None → Fits b → Stands first base place
    → Stands (or_else first (Some b)) (Some b) place
unfolding or_else
stands_set None base place b e fits h =
    (fits, ap {B = Option ℕ} Some (sym (ap (sequence_further b) h.1 ∙ further_none b fits)))
stands_set (Some first) base place b e fits h = none_some (sym e ∙ h.1)

stands_moved : (first base : Option ℕ) (place b n c : ℕ) → base ≡ Some b → c ≡ sequence_further b n → Stands first base place
    → Stands first (Some c) (place + n)
stands_moved None base place b n c e is h = none_some (sym h.0 ∙ e)
stands_moved (Some first) base place b n c e is h = (
  h.0,
  ap {B = Option ℕ} Some (is ∙ ap (λ (x : ℕ). sequence_further x n) (some_inj (sym e ∙ h.1)) ∙ further_twice first place n),
)

-- ---- the invariant

abbrev pub SequenceFits : Data → Type 0
SequenceFits d = Fits d.sequence

pub record Sums (x : Receive) (log : List Mark) : Type 0 where
  pub stands : Stands (first_base log) (next_receive_sequence x) (place_after log)
  pub skipped : x.numbers.skipped ≡ min (total_skipped log) largest_64
  pub held : All (OfContent SequenceFits) x.pending

nearest_fits : (x : Receive) (log : List Mark) (p : Packet) → nearest x.pending ≡ Some p → Sums x log → Fits (sequence_of p)
nearest_fits x log p near h =
    each_at (OfContent SequenceFits) (nearest x.pending) p near (nearest_all (OfContent SequenceFits) x.pending h.held)

pub sums_law : PutLaw SequenceFits Fits Sums
unfolding first_base total_skipped total_delivered skip_to pass_run flagged
sums_law =
    record {
      calling =
          record {
            polling =
                record {
                  collecting =
                      record {
                        on_discarded = λ x log p ok e h. record { stands = h.stands; skipped = h.skipped; held = h.held };
                        on_retained =
                            λ x log p ok e h.
                            record {
                              stands = h.stands;
                              skipped = h.skipped;
                              held = insert_all (OfContent SequenceFits) p x.pending ok h.held;
                            };
                      };
                  on_base_set =
                      λ x log base e fits h.
                      record {
                        stands = stands_set (first_base log) (next_receive_sequence x) (place_after log) base e fits h.stands;
                        skipped = h.skipped;
                        held = h.held;
                      };
                  on_nearest_sets =
                      λ x log p e near h.
                      record {
                        stands =
                            stands_set (first_base log) (next_receive_sequence x) (place_after log) (sequence_of p) e
                            (nearest_fits x log p near h)
                            h.stands;
                        skipped = h.skipped;
                        held = h.held;
                      };
                  on_skipped =
                      λ x log base p tested time e near h.
                      record {
                        stands =
                            subst (Stands (first_base log) (Some (sequence_of p)))
                            (add_assoc (total_delivered log) (total_skipped log) (sequence_distance base (sequence_of p)))
                            (stands_moved (first_base log) (next_receive_sequence x) (place_after log) base
                            (sequence_distance base (sequence_of p)) (sequence_of p) e
                            (sym (further_to base (sequence_of p) (nearest_fits x log p near h))) h.stands);
                        skipped = omega (arith, h.skipped);
                        held = h.held;
                      };
                  on_delivered =
                      λ x log base p e there h.
                      record {
                        stands =
                            subst (Stands (first_base log) (Some (sequence_further base p.content.count))) (omega arith)
                            (stands_moved (first_base log) (next_receive_sequence x) (place_after log) base p.content.count
                            (sequence_further base p.content.count) e refl
                            h.stands);
                        skipped = h.skipped;
                        held = not_covered_all (OfContent SequenceFits) base p.content.count x.pending h.held;
                      };
                };
            on_removed =
                λ x log ps among h.
                record {
                  stands = h.stands;
                  skipped = h.skipped;
                  held = among (OfContent SequenceFits) (λ p fits. fits)
                      h.held;
                };
          };
      on_put = λ x log cell payload elsewhere h. record { stands = h.stands; skipped = h.skipped; held = h.held };
    }

-- ---- of every list of calls from a new group

pub sums_hold : (g : Making) (calls : List Asked)
    → Holds SequenceFits Fits Sums sums_law (λ n fits. fits) (λ d fits. fits) (state_after calls (new g)) (log_after calls (new g))
unfolding new first_base total_skipped total_delivered flagged sides
sums_hold g calls =
    subst (Holds SequenceFits Fits Sums sums_law (λ n fits. fits) (λ d fits. fits) (state_after calls (new g)))
    (append-nil (log_after calls (new g)))
    (calls_hold SequenceFits Fits Sums sums_law (λ n fits. fits) (λ d fits. fits) calls (new g) []
    record { sides_ok = tt; kept = record { stands = (refl, refl); skipped = omega arith; held = tt } })

pub sums_after : (g : Making) (calls : List Asked) → Sums (state_after calls (new g)).receive (log_after calls (new g))
sums_after g calls = (sums_hold g calls).kept

-- ---- what a call gave is what its marks say

pub quiet_delivers_nothing : (m log : List Mark) → Quiet m → total_delivered (m ++ log) ≡ total_delivered log
unfolding total_delivered
quiet_delivers_nothing [] log h = refl
quiet_delivers_nothing (put cell payload ∷ m) log h = quiet_delivers_nothing m log h.1
quiet_delivers_nothing (base_set base ∷ m) log h = quiet_delivers_nothing m log h.1
quiet_delivers_nothing (collected p ∷ m) log h = quiet_delivers_nothing m log h.1
quiet_delivers_nothing (gap_skipped tested time distance ∷ m) log h = absurd h.0
quiet_delivers_nothing (delivered p ∷ m) log h = absurd h.0

pub quiet_skips_nothing : (m log : List Mark) → Quiet m → total_skipped (m ++ log) ≡ total_skipped log
unfolding total_skipped
quiet_skips_nothing [] log h = refl
quiet_skips_nothing (put cell payload ∷ m) log h = quiet_skips_nothing m log h.1
quiet_skips_nothing (base_set base ∷ m) log h = quiet_skips_nothing m log h.1
quiet_skips_nothing (collected p ∷ m) log h = quiet_skips_nothing m log h.1
quiet_skips_nothing (gap_skipped tested time distance ∷ m) log h = absurd h.0
quiet_skips_nothing (delivered p ∷ m) log h = absurd h.0

-- before the packet that a call gave: so many skipped, and nothing delivered
pub before_delivery : (when : When) (p : Packet) (s : State) (m log : List Mark) → Quiet m ⊎ Skip when p s m
    → (rise : ℕ) × (total_delivered (m ++ log) ≡ total_delivered log) × (total_skipped (m ++ log) ≡ total_skipped log + rise)
unfolding total_delivered total_skipped
before_delivery when p s m log (inl quiet) = (0, quiet_delivers_nothing m log quiet, quiet_skips_nothing m log quiet ∙ omega arith)
before_delivery when p s m log (inr skip) = (
  skip.distance,
  ap (λ (x : List Mark). total_delivered (x ++ log)) skip.is ∙ quiet_delivers_nothing skip.before log skip.quiet,
  ap (λ (x : List Mark). total_skipped (x ++ log)) skip.is
      ∙ ap (λ (n : ℕ). n + skip.distance) (quiet_skips_nothing skip.before log skip.quiet),
)

pub counts_append : (xs ys : List Delivery) → counts_of (xs ++ ys) ≡ counts_of xs + counts_of ys
unfolding counts_of
counts_append [] ys = omega arith
counts_append (x ∷ xs) ys = omega (arith, counts_append xs ys)

given_count : (when : When) (r : Result) → Shape when (delivered_by r.answer) r.state r.log
    → total_delivered r.log ≡ counts_of (given_by r)
unfolding given_by counts_of if_some◌give◌otherwise◌ total_delivered
given_count when r = go (delivered_by r.answer)
  where
    go : (o : Option Packet) → Shape when o r.state r.log
        → total_delivered r.log ≡ counts_of (if_some o give (λ p. delivery_of p r.lent.output ∷ []) otherwise [])
    go None h = sym (ap total_delivered (append-nil r.log)) ∙ quiet_delivers_nothing r.log [] h
    go (Some p) h =
        ap total_delivered h.is
        ∙ ap (λ (n : ℕ). n + p.content.count)
        (sym (ap total_delivered (append-nil h.before)) ∙ (before_delivery when p r.state h.before [] h.how).1)
        ∙ omega arith

pub delivered_counts : (calls : List Asked) (s : State) → total_delivered (log_after calls s) ≡ counts_of (deliveries calls s)
unfolding log_after deliveries counts_of total_delivered
delivered_counts [] s = refl
delivered_counts (call ∷ more) s =
    total_delivered_append (log_after more (do_call call s).state) (do_call call s).log
    ∙ omega (
      arith,
      delivered_counts more (do_call call s).state,
      given_count (when_of call.call s) (do_call call s) (call_shape call s),
      counts_append (given_by (do_call call s)) (deliveries more (do_call call s).state),
    )

-- the base's place by what was delivered and skipped is that by the marks
pub place_is : (g : Making) (calls : List Asked) → skipped_in (state_after calls (new g)) < largest_64
    → place_of_base g calls ≡ place_after (log_after calls (new g))
place_is g calls below = omega (arith, delivered_counts calls (new g), (sums_after g calls).skipped)

-- ---- the first claim

stands_where : (o b : Option ℕ) (place base : ℕ) → b ≡ Some base → Stands o b place
    → (first : ℕ) × (o ≡ Some first) × (base ≡ sequence_further first place)
stands_where None b place base e h = none_some (sym h.0 ∙ e)
stands_where (Some first) b place base e h = (first, refl, some_inj (sym e ∙ h.1))

pub sums_first : (x : Receive) (log : List Mark) (base : ℕ) → next_receive_sequence x ≡ Some base → Sums x log
    → (first : ℕ) × (first_base log ≡ Some first) × (base ≡ sequence_further first (place_after log))
sums_first x log base e h = stands_where (first_base log) (next_receive_sequence x) (place_after log) base e h.stands

-- Where the base is set, it has a first value, from which it went as far as was delivered and skipped.
pub based_has_first : (g : Making) (calls : List Asked) (base : ℕ)
    → next_receive_sequence (state_after calls (new g)).receive ≡ Some base
    → (first : ℕ) × (first_base (log_after calls (new g)) ≡ Some first)
    × (base ≡ sequence_further first (place_after (log_after calls (new g))))
based_has_first g calls base e =
    sums_first (state_after calls (new g)).receive (log_after calls (new g)) base e (sums_after g calls)

pub base_claim : (g : Making) (calls : List Asked) (base : ℕ)
    → next_receive_sequence (state_after calls (new g)).receive ≡ Some base
    → (first : ℕ) × (first_base (log_after calls (new g)) ≡ Some first)
    × (skipped_in (state_after calls (new g)) < largest_64 → sequence_distance first base ≡ place_of_base g calls % (half + half))
base_claim g calls base e =
    let w : (first : ℕ) × (first_base (log_after calls (new g)) ≡ Some first)
    × (base ≡ sequence_further first (place_after (log_after calls (new g)))) =
    based_has_first g calls base e
    in (
      w.0,
      w.1,
      λ below.
          ap (sequence_distance w.0) w.2
          ∙ distance_further half w.0 (place_after (log_after calls (new g))) half_above_zero
          ∙ ap (λ (n : ℕ). n % (half + half)) (sym (place_is g calls below)),
    )
