-- Why the nearest held packet is the right one: where all held packets lie within half a circle ahead of the base, it is the one
-- least far ahead. Document 01, "Nearest held packet".
use Rattle.std.specs.Prelude.{◌≡◌, refl, Bool, true, List, [], ◌∷◌, ℕ, ◌+◌, ◌≤◌, ◌<◌, leb, None, Option, Some}
use Rattle.std.proofs.Common.{sym, subst, inl, inr, arith, leb-true, leb-false, le-leb}
use Rattle.srt_protocol.specs.Circle.{distance}
use Rattle.srt_protocol.specs.Sequence.{half, sequence_distance}
use Rattle.srt_group_model.specs.Laws.Circle.{ways}
use Rattle.srt_group_model.specs.Tools.{or_else, such_that, All}
use Rattle.srt_group_model.specs.Laws.Reason.{if_elim, if_some_elim, by_test, not_both, none_some, some_inj, all_map}
use Rattle.srt_group_model.specs.Nearest.{sequence_of, lowest, nearest}
use Rattle.srt_group_model.specs.declared.Packet.{Packet}

-- ---- the lowest

-- it is one of them
lowest_is : (P : Packet → Type 0) (ps : List Packet) (p : Packet) → lowest ps ≡ Some p → All P ps → P p
unfolding lowest
lowest_is P [] p = λ e h. none_some e
lowest_is P (q ∷ qs) p =
    if_some_elim (λ (o : Option Packet). o ≡ Some p → All P (q ∷ qs) → P p) _ _ _
    (λ r g e h.
    if_elim (λ (x : Packet). x ≡ p → P p) _ _ _ (λ t k. subst P k h.0) (λ t k. subst P k (lowest_is P qs r g h.1)) (some_inj e))
    (λ g e h. subst P (some_inj e) h.0)

none_lowest : (P : Packet → Type 0) (ps : List Packet) → lowest ps ≡ None → All P ps
unfolding lowest
none_lowest P [] = λ e. tt
none_lowest P (q ∷ qs) =
    if_some_elim (λ (o : Option Packet). o ≡ None → All P (q ∷ qs)) _ _ _ (λ r g e. none_some (sym e)) (λ g e. none_some (sym e))

abbrev AtLeast : ℕ → List Packet → Type 0
AtLeast n = All (λ (q : Packet). n ≤ sequence_of q)

-- and no other is lower
lowest_least : (ps : List Packet) (p : Packet) → lowest ps ≡ Some p → AtLeast (sequence_of p) ps
unfolding lowest
lowest_least [] p = λ e. none_some e
lowest_least (q ∷ qs) p =
    if_some_elim (λ (o : Option Packet). o ≡ Some p → AtLeast (sequence_of p) (q ∷ qs)) _ _ _
    (λ r g e.
    if_elim (λ (x : Packet). x ≡ p → AtLeast (sequence_of p) (q ∷ qs)) _ _ _
    (λ t k.
    subst (λ (x : Packet). AtLeast (sequence_of x) (q ∷ qs)) k
    (omega arith, all_map _ _ (λ x h. omega (arith, leb-true (sequence_of q) (sequence_of r) t, h)) qs (lowest_least qs r g)))
    (λ t k.
    subst (λ (x : Packet). AtLeast (sequence_of x) (q ∷ qs)) k
    (omega (arith, leb-false (sequence_of q) (sequence_of r) t), lowest_least qs r g))
    (some_inj e))
    (λ g e. subst (λ (x : Packet). AtLeast (sequence_of x) (q ∷ qs)) (some_inj e) (omega arith, none_lowest _ qs g))

-- what holds of all that pass a test
of_chosen : (P : Packet → Type 0) (test : Packet → Bool) (ps : List Packet) → All P (such_that test ps) → All (λ (q : Packet). test q ≡ true → P q) ps
unfolding such_that
of_chosen P test [] = λ h. tt
of_chosen P test (q ∷ qs) =
    if_elim (λ (l : List Packet). All P l → All (λ (x : Packet). test x ≡ true → P x) (q ∷ qs)) _ _ _
    (λ e h. (λ g. h.0, of_chosen P test qs h.1)) (λ e h. (λ g. not_both g e, of_chosen P test qs h))

chosen_all : (P : Packet → Type 0) (test : Packet → Bool) (ps : List Packet) → All P ps → All (λ (q : Packet). P q × (test q ≡ true)) (such_that test ps)
unfolding such_that
chosen_all P test [] h = tt
chosen_all P test (q ∷ qs) h =
    if_elim (All (λ (x : Packet). P x × (test x ≡ true))) _ _ _ (λ e. ((h.0, e), chosen_all P test qs h.1)) (λ e. chosen_all P test qs h.1)

-- ---- distances

-- with one at least half a circle above the lowest: the lowest of those is no farther than any other
wrapped : (h base low x q : ℕ) → base < h + h → low < h + h → x < h + h → q < h + h
    → distance h base low < h → distance h base x < h → distance h base q < h → low ≤ q → low + h ≤ x → (low + h ≤ q → x ≤ q) → distance h base x ≤ distance h base q
wrapped h base low x q a b c d near_low near_x near_q least far best =
    elim (ways h base low a b) [
      | inl l ↦ elim (ways h base x a c) [ inl y ↦ absurd (omega (arith, l.0, l.1, y.0, y.1)) | inr y ↦ absurd (omega (arith, l.0, l.1, y.0, y.1)) ]
      | inr l ↦ elim (ways h base x a c) [
        | inl y ↦ elim (ways h base q a d) [
          | inl z ↦ (let less = best (omega (arith, l.0, l.1, z.0)) in omega (arith, y.1, z.1, less))
          | inr z ↦ omega (arith, y.0, y.1, z.0, z.1)
        ]
        | inr y ↦ absurd (omega (arith, l.0, l.1, y.0, y.1))
      ]
    ]

-- with none so far above it: the lowest is no farther than any other
unwrapped : (h base low q : ℕ) → base < h + h → low < h + h → q < h + h → distance h base low < h → distance h base q < h → low ≤ q → q < low + h → distance h base low ≤ distance h base q
unwrapped h base low q a b d near_low near_q least short =
    elim (ways h base low a b) [
      | inl l ↦ elim (ways h base q a d) [ inl z ↦ omega (arith, l.1, z.1) | inr z ↦ omega (arith, l.0, l.1, z.0, z.1) ]
      | inr l ↦ elim (ways h base q a d) [ inl z ↦ absurd (omega (arith, l.0, l.1, z.0)) | inr z ↦ omega (arith, l.1, z.1) ]
    ]

-- ---- the law

-- less than half a circle ahead of the base
abbrev pub Ahead : ℕ → Packet → Type 0
Ahead base p = (sequence_of p < half + half) × (sequence_distance base (sequence_of p) < half)

abbrev LeastFar : ℕ → List Packet → Option Packet → Type 0
LeastFar base ps o = (p : Packet) → o ≡ Some p → All (λ (q : Packet). sequence_distance base (sequence_of p) ≤ sequence_distance base (sequence_of q)) ps

all_two : (P Q R S : Packet → Type 0) → ((q : Packet) → P q → Q q → R q → S q) → (ps : List Packet) → All P ps → All Q ps → All R ps → All S ps
all_two P Q R S f [] a b c = tt
all_two P Q R S f (q ∷ qs) a b c = (f q a.0 b.0 c.0, all_two P Q R S f qs a.1 b.1 c.1)

chosen_least : (base : ℕ) (ps : List Packet) (low : Packet) → base < half + half → All (Ahead base) ps → lowest ps ≡ Some low
    → (o : Option Packet) → lowest (such_that (λ p. leb (sequence_of low + half) (sequence_of p)) ps) ≡ o → LeastFar base ps (or_else o (Some low))
unfolding or_else
chosen_least base ps low a h g None e p k =
    let mine = lowest_is (Ahead base) ps low g h in
    let none_far = of_chosen (λ (q : Packet). ⊥) (λ q. leb (sequence_of low + half) (sequence_of q)) ps (none_lowest (λ (q : Packet). ⊥) _ e) in
    subst (λ (x : Packet). All (λ (q : Packet). sequence_distance base (sequence_of x) ≤ sequence_distance base (sequence_of q)) ps) (some_inj k)
    (all_two _ _ _ _
    (λ q ahead least far.
    unwrapped half base (sequence_of low) (sequence_of q) a mine.0 ahead.0 mine.1 ahead.1 least
    (by_test (leb (sequence_of low + half) (sequence_of q)) (λ t. absurd (far t)) (λ t. leb-false (sequence_of low + half) (sequence_of q) t)))
    ps h (lowest_least ps low g) none_far)
chosen_least base ps low a h g (Some x) e p k =
    let mine = lowest_is (Ahead base) ps low g h in
    let far : Packet → Bool = λ q. leb (sequence_of low + half) (sequence_of q) in
    let chosen = lowest_is (λ (q : Packet). Ahead base q × (far q ≡ true)) (such_that far ps) x e (chosen_all (Ahead base) far ps h) in
    let best = of_chosen (λ (q : Packet). sequence_of x ≤ sequence_of q) far ps (lowest_least (such_that far ps) x e) in
    subst (λ (y : Packet). All (λ (q : Packet). sequence_distance base (sequence_of y) ≤ sequence_distance base (sequence_of q)) ps) (some_inj k)
    (all_two _ _ _ _
    (λ q ahead least better.
    wrapped half base (sequence_of low) (sequence_of x) (sequence_of q) a mine.0 chosen.0.0 ahead.0 mine.1 chosen.0.1 ahead.1 least
    (leb-true (sequence_of low + half) (sequence_of x) chosen.1) (λ t. better (le-leb (sequence_of low + half) (sequence_of q) t)))
    ps h (lowest_least ps low g) best)

-- The nearest is the one least far ahead of the base.
pub nearest_least_far : (base : ℕ) (ps : List Packet) (p : Packet) → base < half + half → All (Ahead base) ps → nearest ps ≡ Some p
    → All (λ (q : Packet). sequence_distance base (sequence_of p) ≤ sequence_distance base (sequence_of q)) ps
unfolding nearest
nearest_least_far base ps p a h e =
    if_some_elim (LeastFar base ps) _ _ _ (λ low g. chosen_least base ps low a h g _ refl) (λ g x k. none_some k) p e
