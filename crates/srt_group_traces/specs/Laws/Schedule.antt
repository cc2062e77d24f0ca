-- Laws of places along a schedule: a place is reached by the clerk's own step, so place and clerk share one function (`pass_to` of
-- Statement). Going on from a place, and the sequence of the packet at one.
use Rattle.std.specs.Prelude.{◌≡◌, refl, true, false, List, [], ◌∷◌, ℕ, zero, suc, ◌+◌, ◌-◌, ◌≤◌, leb, eqb, Option, Some}
use Rattle.std.proofs.Common.{ap, ◌∙◌, subst, arith}
use Rattle.srt_protocol.specs.Sequence.{sequence_further}
use Rattle.srt_group_model.specs.Laws.Reason.{when_true, when_false, if_elim, by_test, not_both, none_some, some_inj}
use Rattle.srt_group_traces.specs.Statement.{RunsFrom, pass_to, Delivery}
use Rattle.srt_group_traces.specs.Laws.Cases.{le_of, eq_of, leb_yes, eqb_yes}

-- ---- laws of places

not_zero : (n : ℕ) → 1 ≤ n → eqb n 0 ≡ false
not_zero n h = by_test (eqb n 0) (λ e. absurd (omega (arith, eq_of n 0 e))) (λ e. e)

above_zero : (n : ℕ) → eqb n 0 ≡ false → 1 ≤ n
above_zero zero e = not_both (eqb_yes 0) e
above_zero (suc n) e = omega arith

pub pass_to_zero : (l : List Delivery) → pass_to l 0 ≡ Some l
unfolding pass_to
pass_to_zero [] = when_true (eqb 0 0) _ _ refl
pass_to_zero (x ∷ xs) = when_true (eqb 0 0) _ _ refl

pass_to_past : (x : Delivery) (xs : List Delivery) (n : ℕ) → 1 ≤ n → x.count ≤ n → pass_to (x ∷ xs) n ≡ pass_to xs (n - x.count)
unfolding pass_to
pass_to_past x xs n h k = when_false (eqb n 0) _ _ (not_zero n h) ∙ when_true (leb x.count n) _ _ (leb_yes x.count n k)

pub pass_to_next : (x : Delivery) (xs : List Delivery) → 1 ≤ x.count → pass_to (x ∷ xs) x.count ≡ Some xs
pass_to_next x xs h = pass_to_past x xs x.count h (omega arith) ∙ ap (pass_to xs) nothing_left ∙ pass_to_zero xs
  where
    nothing_left : x.count - x.count ≡ 0
    nothing_left = omega arith

-- from a place on, by n more
pub pass_to_further : (l : List Delivery) (m n : ℕ) (rest : List Delivery) → pass_to l m ≡ Some rest
    → pass_to l (m + n) ≡ pass_to rest n
unfolding pass_to
pass_to_further [] m n rest =
    if_elim (λ (o : Option (List Delivery)). o ≡ Some rest → pass_to [] (m + n) ≡ pass_to rest n) (eqb m 0) _ _
    (λ e f. ap (pass_to []) (none_more e) ∙ ap (λ (r : List Delivery). pass_to r n) (some_inj f)) (λ e f. none_some f)
  where
    none_more : eqb m 0 ≡ true → m + n ≡ n
    none_more e = omega (arith, eq_of m 0 e)
pass_to_further (x ∷ xs) m n rest =
    if_elim (λ (o : Option (List Delivery)). o ≡ Some rest → pass_to (x ∷ xs) (m + n) ≡ pass_to rest n) (eqb m 0) _ _
    (λ e f. ap (pass_to (x ∷ xs)) (none_more e) ∙ ap (λ (r : List Delivery). pass_to r n) (some_inj f))
    (λ e.
    if_elim (λ (o : Option (List Delivery)). o ≡ Some rest → pass_to (x ∷ xs) (m + n) ≡ pass_to rest n) (leb x.count m) _ _
    (λ k f.
    pass_to_past x xs (m + n) (omega (arith, above_zero m e)) (omega (arith, le_of x.count m k))
    ∙ ap (pass_to xs) (left k) ∙ pass_to_further xs (m - x.count) n rest f)
    (λ k f. none_some f))
  where
    none_more : eqb m 0 ≡ true → m + n ≡ n
    none_more e = omega (arith, eq_of m 0 e)

    left : leb x.count m ≡ true → m + n - x.count ≡ m - x.count + n
    left k = omega (arith, le_of x.count m k)

-- a packet's sequence is by its place, and it counts at least one
abbrev pub SequenceAt : (first at : ℕ) → Delivery → Type 0
SequenceAt first at x = (x.sequence ≡ sequence_further first at) × (1 ≤ x.count)

pub sequence_at_place : (first place : ℕ) (l : List Delivery) (n : ℕ) (x : Delivery) (xs : List Delivery) → RunsFrom first place l
    → pass_to l n ≡ Some (x ∷ xs)
    → SequenceAt first (place + n) x
unfolding pass_to
sequence_at_place first place [] n x xs runs =
    if_elim (λ (o : Option (List Delivery)). o ≡ Some (x ∷ xs) → SequenceAt first (place + n) x) (eqb n 0) _ _
    (λ e f. let never : ◌≡◌ {A = ℕ} 0 1 = cc in absurd (omega arith)) (λ e f. none_some f)
sequence_at_place first place (y ∷ ys) n x xs runs =
    if_elim (λ (o : Option (List Delivery)). o ≡ Some (x ∷ xs) → SequenceAt first (place + n) x) (eqb n 0) _ _
    (λ e f.
    let same : y ≡ x = cc in
    subst (SequenceAt first (place + n)) same
    (runs.0 ∙ ap (sequence_further first) (here e), runs.1))
    (λ e.
    if_elim (λ (o : Option (List Delivery)). o ≡ Some (x ∷ xs) → SequenceAt first (place + n) x) (leb y.count n) _ _
    (λ k f.
    let h : SequenceAt first (place + y.count + (n - y.count)) x =
    sequence_at_place first (place + y.count) ys (n - y.count) x xs runs.2 f
    in
    (h.0 ∙ ap (sequence_further first) (past k), h.1))
    (λ k f. none_some f))
  where
    here : eqb n 0 ≡ true → place ≡ place + n
    here e = omega (arith, eq_of n 0 e)

    past : leb y.count n ≡ true → place + y.count + (n - y.count) ≡ place + n
    past k = omega (arith, le_of y.count n k)
