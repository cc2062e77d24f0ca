-- What packets weigh together, for any weight: how a sum moves where a packet is put in, taken out or becomes the group's. And members of
-- unique ids of which one is changed or taken out.
use Rattle.std.specs.Prelude.{◌≡◌, Bool, true, false, not, ℕ, zero, suc, ◌+◌, ◌≤◌, ◌<◌, eqb, drop, Option, Some}
use Rattle.std.proofs.Math.Path.{refl, ap}
use Rattle.std.proofs.Common.{sym, subst, ◌∙◌}
use mathlib.Core.List.{List, [], ◌∷◌, ◌++◌}
use native.Mathlib.Omega.{arith}
use borrow.Author.Tests.{eqb-true, eqb-false, eq-eqb, ne_eqb}
use Rattle.srt_group_model.specs.Tools.{if_true◌then◌else◌, any, such_that, at_place, change, each, without_place, counted, total, All}
use Rattle.srt_group_model.specs.Laws.Reason.{if_elim, if_some_elim, by_test, not_both, none_some, some_inj, or_left, or_right, or_cases, or_yes_left, or_yes_right, all_map, all_two}
use Rattle.srt_group_model.specs.State.{Member}
use Rattle.srt_group_model.specs.Members.{id_of}
use Rattle.srt_group_model.specs.Nearest.{sequence_of, has_sequence, insert, farther, farthest}
use Rattle.srt_group_model.specs.Collecting.{front}
use Rattle.srt_group_model.specs.Removal.{is_owned, own_packet}
use Rattle.srt_group_model.specs.Cells.{is_data, is_among}
use Rattle.srt_group_model.specs.Validity.{one_twice, ascends, is_held_for, held_weight, own_weight, queued_weight}
use Rattle.srt_group_model.specs.Sound.{ids, Placed}
use Rattle.srt_group_model.specs.Laws.Ascending.{Above, ascends_rest, ascends_above}
use Rattle.srt_group_model.specs.Laws.HonestLog.{among_ids}
use Rattle.srt_group_model.specs.declared.Data.{Data}
use Rattle.srt_group_model.specs.declared.Event.{Event}
use Rattle.srt_group_model.specs.declared.Packet.{Packet}

-- ---- a sum over a list

module _ {A : Type 0} where
  pub counted_yes : (test : A → Bool) (f : A → ℕ) (x : A) → test x ≡ true → counted test f x ≡ f x
  unfolding if_true◌then◌else◌
  counted_yes test f x e = rw e

  pub counted_no : (test : A → Bool) (f : A → ℕ) (x : A) → test x ≡ false → counted test f x ≡ 0
  unfolding if_true◌then◌else◌
  counted_no test f x e = rw e

  pub counted_most : (n : ℕ) (test : A → Bool) (f : A → ℕ) (x : A) → (test x ≡ true → f x ≤ n) → counted test f x ≤ n
  counted_most n test f x h = if_elim (λ (k : ℕ). k ≤ n) (test x) (f x) 0 h (λ e. omega arith)

  pub total_append : (f : A → ℕ) (l m : List A) → total f (l ++ m) ≡ total f l + total f m
  unfolding total
  total_append f [] m = omega arith
  total_append f (x ∷ l) m = omega (arith, total_append f l m)

  -- a list parts into what passes a test and what does not
  pub total_parted : (f : A → ℕ) (test : A → Bool) (l : List A) → total f l ≡ total f (such_that test l) + total f (such_that (λ x. not (test x)) l)
  unfolding total such_that if_true◌then◌else◌
  total_parted f test [] = omega arith
  total_parted f test (x ∷ l) =
      by_test (test x) (λ e. rw e (omega (arith, total_parted f test l))) (λ e. rw e (omega (arith, total_parted f test l)))

  -- those that pass a test
  pub all_passing : (P : A → Type 0) (test : A → Bool) (l : List A) → All P l → All (λ (x : A). P x × (test x ≡ true)) (such_that test l)
  unfolding such_that
  all_passing P test [] h = tt
  all_passing P test (x ∷ l) h = if_elim (All _) _ _ _ (λ e. ((h.0, e), all_passing P test l h.1)) (λ e. all_passing P test l h.1)

  pub all_such_that : (P : A → Type 0) (test : A → Bool) (l : List A) → All P l → All P (such_that test l)
  all_such_that P test l h = all_map (λ (x : A). P x × (test x ≡ true)) P (λ x k. k.0) (such_that test l) (all_passing P test l h)

-- ---- held packets

pub total_inserted : (f : Packet → ℕ) (p : Packet) (ps : List Packet) → total f (insert p ps) ≡ f p + total f ps
unfolding insert total
total_inserted f p [] = refl
total_inserted f p (q ∷ qs) =
    if_elim (λ (l : List Packet). total f l ≡ f p + (f q + total f qs)) _ _ _ (λ e. refl) (λ e. omega (arith, total_inserted f p qs))

pub inserted_all : (P : Packet → Type 0) (p : Packet) (ps : List Packet) → P p → All P ps → All P (insert p ps)
unfolding insert
inserted_all P p [] h k = (h, tt)
inserted_all P p (q ∷ qs) h k = if_elim (All P) _ _ _ (λ e. (h, k)) (λ e. (k.0, inserted_all P p qs h k.1))

-- a packet is the only one with its sequence: it and the others weigh what all do
abbrev pub Alone : List Packet → Packet → Type 0
Alone ps p = (f : Packet → ℕ) → total f ps ≡ f p + total f (such_that (λ q. not (has_sequence (sequence_of p) q)) ps)

all_above : (n : ℕ) (ps : List Packet) → Above n ps → such_that (λ q. not (has_sequence n q)) ps ≡ ps
unfolding such_that if_true◌then◌else◌
all_above n [] h = refl
all_above n (p ∷ ps) h = rw (ne_eqb (sequence_of p) n (λ e. omega (arith, h.0))) (ap (λ (l : List Packet). p ∷ l) (all_above n ps h.1))

pub each_alone : (ps : List Packet) → ascends ps ≡ true → All (Alone ps) ps
unfolding total such_that if_true◌then◌else◌
each_alone [] a = tt
each_alone (p ∷ ps) a =
    let above = ascends_above p ps a in (
      λ f. rw (eq-eqb (sequence_of p) (sequence_of p) refl) (omega (arith, ap (total f) (all_above (sequence_of p) ps above))),
      all_two (λ (q : Packet). sequence_of p < sequence_of q) (Alone ps) (Alone (p ∷ ps))
          (λ q low k f. rw (ne_eqb (sequence_of p) (sequence_of q) (λ e. omega (arith, low))) (omega (arith, k f))) ps above (each_alone ps (ascends_rest p ps a)),
    )

pub farthest_of : (P : Packet → Type 0) (base : ℕ) (ps : List Packet) (p : Packet) → All P ps → farthest base ps ≡ Some p → P p
unfolding farthest farther
farthest_of P base [] p h = λ e. none_some e
farthest_of P base (q ∷ qs) p h =
    if_some_elim (λ (o : Option Packet). o ≡ Some p → P p) _ _ _
    (λ r g e.
    if_elim (λ (x : Packet). x ≡ p → P p) _ _ _ (λ t k. subst P k h.0)
    (λ t k. farthest_of P base qs p h.1 (g ∙ ap {B = Option Packet} (λ z. Some z) k)) (some_inj e))
    (λ g e. subst P (some_inj e) h.0)

-- ---- who holds them

module _ (weight : Data → ℕ) where
  -- what a packet weighs for a member, and for the group
  abbrev pub for_member : ℕ → Packet → ℕ
  for_member id = counted (is_held_for id) (λ p. weight p.content)

  abbrev pub for_group : Packet → ℕ
  for_group = counted is_owned (λ p. weight p.content)

  pub held_other : (id : ℕ) (p : Packet) → (id ≡ p.member → ⊥) → for_member id p ≡ 0
  unfolding if_true◌then◌else◌
  held_other id p h = rw (ne_eqb p.member id (λ e. h (sym e)))

  pub held_owned : (id : ℕ) (p : Packet) → is_owned p ≡ true → for_member id p ≡ 0
  unfolding if_true◌then◌else◌
  held_owned id p o = by_test (eqb p.member id) (λ e. rw (e, o)) (λ e. rw e)

  -- a packet weighs for the group or for a member, not for both
  pub counted_once : (id : ℕ) (p : Packet) → for_group p + for_member id p ≤ weight p.content
  counted_once id p =
      let most = counted_most (weight p.content) (is_held_for id) (λ q. weight q.content) p (λ e. omega arith) in
      by_test (is_owned p) (λ o. omega (arith, counted_yes is_owned (λ q. weight q.content) p o, held_owned id p o))
      (λ o. omega (arith, counted_no is_owned (λ q. weight q.content) p o, most))

  pub held_mine : (id : ℕ) (p : Packet) → id ≡ p.member → is_owned p ≡ false → for_member id p ≡ weight p.content
  unfolding if_true◌then◌else◌
  held_mine id p e o = rw (eq-eqb p.member id (sym e), o)

  pub none_held : (id : ℕ) (l : List ℕ) (ps : List Packet) → is_among id l ≡ false → All (Placed l) ps → held_weight weight id ps ≡ 0
  unfolding total
  none_held id l [] h k = refl
  none_held id l (p ∷ ps) h k =
      let here : for_member id p ≡ 0 =
      or_cases (is_owned p) _ k.0 (λ o. held_owned id p o) (λ o. held_other id p (λ e. not_both o (ap (λ (n : ℕ). is_among n l) (sym e) ∙ h)))
      in
      omega (arith, here, none_held id l ps h k.1)

  -- a member's packets become the group's
  owned_other : (id k : ℕ) (p : Packet) → (id ≡ k → ⊥) → for_member id (own_packet k p) ≡ for_member id p
  unfolding own_packet if_true◌then◌else◌
  owned_other id k p h =
      by_test (eqb p.member k) (λ e. rw (e, ne_eqb p.member id (λ g. h (sym g ∙ eqb-true p.member k e)))) (λ e. rw e)

  owned_after : (k : ℕ) (p : Packet) → for_group (own_packet k p) ≡ for_group p + for_member k p
  unfolding own_packet if_true◌then◌else◌
  owned_after k p =
      by_test (eqb p.member k) (λ e. by_test (is_owned p) (λ o. rw (e, o) (omega arith)) (λ o. rw (e, o) (omega arith))) (λ e. rw e (omega arith))

  pub others_hold : (id k : ℕ) (ps : List Packet) → (id ≡ k → ⊥) → held_weight weight id (each (own_packet k) ps) ≡ held_weight weight id ps
  unfolding each total
  others_hold id k [] h = refl
  others_hold id k (p ∷ ps) h = omega (arith, owned_other id k p h, others_hold id k ps h)

  pub group_holds : (k : ℕ) (ps : List Packet) → own_weight weight (each (own_packet k) ps) ≡ own_weight weight ps + held_weight weight k ps
  unfolding each total
  group_holds k [] = omega arith
  group_holds k (p ∷ ps) = omega (arith, owned_after k p, group_holds k ps)

  -- what an event weighs in a queue, and the front one
  abbrev pub in_queue : Event → ℕ
  in_queue = counted is_data (λ e. weight e.content)

  pub front_weighs : (q : List Event) (e : Event) → front q ≡ Some e → queued_weight weight q ≡ in_queue e + queued_weight weight (drop 1 q)
  unfolding total at_place
  front_weighs [] e f = none_some f
  front_weighs (x ∷ q) e f = ap (λ (y : Event). in_queue y + queued_weight weight q) (some_inj f)

-- ---- members of unique ids

other_ids : (n : ℕ) (ms : List Member) → is_among n (ids ms) ≡ false → All (λ (x : Member). id_of x ≡ n → ⊥) ms
unfolding any each
other_ids n [] h = tt
other_ids n (m ∷ ms) h = (eqb-false (id_of m) n (or_left (eqb (id_of m) n) _ h), other_ids n ms (or_right (eqb (id_of m) n) _ h))

pub without_all : (P : Member → Type 0) (i : ℕ) (m : Member) (ms : List Member) → one_twice (ids ms) ≡ false → at_place i ms ≡ Some m → All P ms
    → All (λ (x : Member). P x × (id_of x ≡ id_of m → ⊥)) (without_place i ms)
unfolding one_twice each at_place without_place
without_all P i m [] u at h = tt
without_all P zero m (x ∷ ms) u at h =
    all_two P (λ (y : Member). id_of y ≡ id_of m → ⊥) (λ (y : Member). P y × (id_of y ≡ id_of m → ⊥)) (λ y a b. (a, b)) ms h.1
    (other_ids (id_of m) ms (ap (λ (y : Member). is_among (id_of y) (ids ms)) (sym (some_inj at)) ∙ or_left (is_among (id_of x) (ids ms)) _ u))
without_all P (suc i) m (x ∷ ms) u at h = (
  (h.0, λ e. not_both (ap (λ (n : ℕ). is_among n (ids ms)) e ∙ among_ids i m ms at) (or_left (is_among (id_of x) (ids ms)) _ u)),
  without_all P i m ms (or_right (is_among (id_of x) (ids ms)) _ u) at h.1,
)

pub change_all : (Q : Member → Type 0) (f : Member → Member) (i : ℕ) (m : Member) (ms : List Member) → at_place i ms ≡ Some m → All Q (without_place i ms) → Q (f m) → All Q (change i f ms)
unfolding at_place change without_place
change_all Q f i m [] at h k = tt
change_all Q f zero m (x ∷ ms) at h k = (subst (λ (y : Member). Q (f y)) (sym (some_inj at)) k, h)
change_all Q f (suc i) m (x ∷ ms) at h k = (h.0, change_all Q f i m ms at h.1 k)

pub ids_at : (i : ℕ) (m : Member) (f : Member → Member) (ms : List Member) → at_place i ms ≡ Some m → id_of (f m) ≡ id_of m → ids (change i f ms) ≡ ids ms
unfolding at_place change each
ids_at i m f [] at e = none_some at
ids_at zero m f (x ∷ ms) at e = ap (λ (n : ℕ). n ∷ ids ms) (subst (λ (y : Member). id_of (f y) ≡ id_of y) (sym (some_inj at)) e)
ids_at (suc i) m f (x ∷ ms) at e = ap (λ (l : List ℕ). id_of x ∷ l) (ids_at i m f ms at e)

without_still : (n i : ℕ) (m : Member) (ms : List Member) → at_place i ms ≡ Some m → eqb (id_of m) n ≡ false → is_among n (ids ms) ≡ true → is_among n (ids (without_place i ms)) ≡ true
unfolding any each at_place without_place
without_still n i m [] at o h = none_some at
without_still n zero m (x ∷ ms) at o h =
    or_cases (eqb (id_of x) n) _ h (λ e. not_both (ap (λ (y : Member). eqb (id_of y) n) (sym (some_inj at)) ∙ e) o) (λ e. e)
without_still n (suc i) m (x ∷ ms) at o h =
    or_cases (eqb (id_of x) n) _ h (λ e. or_yes_left (eqb (id_of x) n) _ e)
    (λ e. or_yes_right (eqb (id_of x) n) _ (without_still n i m ms at o e))

placed_after : (i : ℕ) (m : Member) (ms : List Member) (p : Packet) → at_place i ms ≡ Some m → Placed (ids ms) p → Placed (ids (without_place i ms)) (own_packet (id_of m) p)
unfolding own_packet
placed_after i m ms p at h =
    if_elim (Placed (ids (without_place i ms))) (eqb p.member (id_of m)) _ _ (λ e. refl)
    (λ e.
    or_cases (is_owned p) _ h (λ o. or_yes_left (is_owned p) _ o)
    (λ o.
    or_yes_right (is_owned p) _
    (without_still p.member i m ms at (ne_eqb (id_of m) p.member (λ g. eqb-false p.member (id_of m) e (sym g))) o)))

pub all_placed_after : (i : ℕ) (m : Member) (ms : List Member) (ps : List Packet) → at_place i ms ≡ Some m → All (Placed (ids ms)) ps → All (Placed (ids (without_place i ms))) (each (own_packet (id_of m)) ps)
unfolding each
all_placed_after i m ms [] at h = tt
all_placed_after i m ms (p ∷ ps) at h = (placed_after i m ms p at h.0, all_placed_after i m ms ps at h.1)
