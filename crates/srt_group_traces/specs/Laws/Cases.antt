-- What proofs need besides the model's Reason: a fact of what an option holds, what tests say of numbers, and facts of each
-- element of a list through the model's list functions.
use Rattle.std.specs.Prelude.{◌≡◌, refl, Bool, false, not, ◌&&◌, ◌||◌, T, leb, ltb, eqb, drop, None, Option, Some}
use Rattle.std.proofs.Common.{sym, subst, leb→le, nltb→le, eqb→eq, le→leb}
use Rattle.std.proofs.Math.Bool.{true}
use mathlib.Core.List.{List, [], ◌∷◌}
use Prim.Native.Nat.{ℕ, zero, suc, ◌≤◌, ◌<◌}
use Rattle.std.proofs.Math.Dec.{nleb→lt, eqb_refl}
use Rattle.srt_group_model.specs.Tools.{All, or_else, such_that, first_such, at_place, change, without_place}
use Rattle.srt_group_model.specs.Laws.Reason.{if_elim, not_both, some_inj, EachTo}

-- ---- a choice and an option

pub by_option : {A B : Type 0} (o : Option A) → (o ≡ None → B) → ((a : A) → o ≡ Some a → B) → B
by_option None f g = f refl
by_option (Some a) f g = g a refl

-- a fact of what an option holds
abbrev pub Each : {A : Type 0} → (A → Type 0) → Option A → Type 0
Each P None = Unit {0}
Each P (Some a) = P a

pub each_at : {A : Type 0} (P : A → Type 0) (o : Option A) (a : A) → o ≡ Some a → Each P o → P a
each_at P o a e h = subst (Each P) e h

pub each_or_else : {A : Type 0} (P : A → Type 0) (a b : Option A) → Each P a → Each P b → Each P (or_else a b)
unfolding or_else
each_or_else P None b h k = k
each_or_else P (Some a) b h k = h

-- ---- tests and what they say

pub le_of : (m n : ℕ) → leb m n ≡ true → m ≤ n
le_of m n e = leb→le m n (subst T (sym e) tt)

pub gt_of : (m n : ℕ) → leb m n ≡ false → n < m
gt_of m n e = nleb→lt m n (subst (λ (t : Bool). T (not t)) (sym e) tt)

pub ge_of : (m n : ℕ) → ltb m n ≡ false → n ≤ m
ge_of m n e = nltb→le m n (subst (λ (t : Bool). T (not t)) (sym e) tt)

pub eq_of : (m n : ℕ) → eqb m n ≡ true → m ≡ n
eq_of m n e = eqb→eq m n (subst T (sym e) tt)

pub true_of : (t : Bool) → T t → t ≡ true
true_of true h = refl
true_of false h = absurd h

pub leb_yes : (m n : ℕ) → m ≤ n → leb m n ≡ true
leb_yes m n h = true_of (leb m n) (le→leb m n h)

pub eqb_yes : (n : ℕ) → eqb n n ≡ true
eqb_yes n = true_of (eqb n n) (eqb_refl n)

pub not_eq_of : (m n : ℕ) → eqb m n ≡ false → m ≡ n → ⊥
not_eq_of m n e f = not_both (eqb_yes n) (subst (λ (x : ℕ). eqb x n ≡ false) f e)

pub not_false : (t : Bool) → not t ≡ true → t ≡ false
not_false true e = not_both {t = true} refl (sym e)
not_false false e = refl

pub or_both : (a b : Bool) → a ≡ false → b ≡ false → (a || b) ≡ false
or_both true b e f = e
or_both false b e f = f

-- both are not, and the first is: the second is not
pub and_true_left : (a b : Bool) → a ≡ true → (a && b) ≡ false → b ≡ false
and_true_left true b e f = f
and_true_left false b e f = not_both {t = true} refl (sym e)

pub and_with_true : (a : Bool) → (a && true) ≡ false → a ≡ false
and_with_true true e = e
and_with_true false e = refl

-- ---- each element of a list

module _ {A : Type 0} where
  pub all_both : (P Q : A → Type 0) (l : List A) → All P l → All Q l → All (λ (a : A). P a × Q a) l
  all_both P Q [] h k = tt
  all_both P Q (x ∷ xs) h k = ((h.0, k.0), all_both P Q xs h.1 k.1)

  pub all_drop : (P : A → Type 0) (n : ℕ) (l : List A) → All P l → All P (drop n l)
  all_drop P zero l h = h
  all_drop P (suc n) [] h = tt
  all_drop P (suc n) (x ∷ xs) h = all_drop P n xs h.1

  pub all_such_that : (P : A → Type 0) (test : A → Bool) (l : List A) → All P l → All P (such_that test l)
  unfolding such_that
  all_such_that P test [] h = tt
  all_such_that P test (x ∷ xs) h =
      if_elim (All P) (test x) _ _ (λ e. (h.0, all_such_that P test xs h.1)) (λ e. all_such_that P test xs h.1)

  -- those that pass the test pass it
  pub all_pass : (test : A → Bool) (l : List A) → All (λ (a : A). test a ≡ true) (such_that test l)
  unfolding such_that
  all_pass test [] = tt
  all_pass test (x ∷ xs) =
      if_elim (All (λ (a : A). test a ≡ true)) (test x) _ _ (λ e. (e, all_pass test xs)) (λ e. all_pass test xs)

  -- what holds of all that pass the test holds of every element, if it passes
  pub all_if_passes : (P : A → Type 0) (test : A → Bool) (l : List A) → All P (such_that test l)
      → All (λ (a : A). test a ≡ true → P a) l
  unfolding such_that
  all_if_passes P test [] h = tt
  all_if_passes P test (x ∷ xs) h =
      if_elim (λ (r : List A). All P r → All (λ (a : A). test a ≡ true → P a) (x ∷ xs)) (test x) _ _
      (λ e k. ((λ t. k.0), all_if_passes P test xs k.1)) (λ e k. ((λ t. not_both t e), all_if_passes P test xs k)) h

  pub each_first_such : (P : A → Type 0) (test : A → Bool) (l : List A) → All P l → Each P (first_such test l)
  unfolding first_such
  each_first_such P test [] h = tt
  each_first_such P test (x ∷ xs) h = if_elim (Each P) (test x) _ _ (λ e. h.0) (λ e. each_first_such P test xs h.1)

  pub first_such_passes : (test : A → Bool) (l : List A) → Each (λ (a : A). test a ≡ true) (first_such test l)
  unfolding first_such
  first_such_passes test [] = tt
  first_such_passes test (x ∷ xs) = if_elim (Each (λ (a : A). test a ≡ true)) (test x) _ _ (λ e. e) (λ e. first_such_passes test xs)

  pub each_at_place : (P : A → Type 0) (i : ℕ) (l : List A) → All P l → Each P (at_place i l)
  unfolding at_place
  each_at_place P i [] h = tt
  each_at_place P zero (x ∷ xs) h = h.0
  each_at_place P (suc i) (x ∷ xs) h = each_at_place P i xs h.1

  pub all_change : (P : A → Type 0) (i : ℕ) (f : A → A) (l : List A) → ((a : A) → P a → P (f a)) → All P l → All P (change i f l)
  unfolding change
  all_change P i f [] k h = tt
  all_change P zero f (x ∷ xs) k h = (k x h.0, h.1)
  all_change P (suc i) f (x ∷ xs) k h = (h.0, all_change P i f xs k h.1)

  -- at the place where a stands
  pub all_change_at : (P : A → Type 0) (i : ℕ) (f : A → A) (l : List A) (a : A) → at_place i l ≡ Some a → (P a → P (f a)) → All P l → All P (change i f l)
  unfolding change at_place
  all_change_at P i f [] a at k h = tt
  all_change_at P zero f (x ∷ xs) a at k h = (subst (λ (y : A). P (f y)) (sym (some_inj at)) (k (subst P (some_inj at) h.0)), h.1)
  all_change_at P (suc i) f (x ∷ xs) a at k h = (h.0, all_change_at P i f xs a at k h.1)

  -- of a list that answers to another, one by one
  pub each_to_all : (R : A → A → Type 0) (P : A → Type 0) → ((a b : A) → R a b → P a → P b) → (l m : List A) → EachTo R l m → All P l → All P m
  each_to_all R P k [] [] r h = tt
  each_to_all R P k [] (y ∷ m) r h = absurd r
  each_to_all R P k (x ∷ l) [] r h = absurd r
  each_to_all R P k (x ∷ l) (y ∷ m) r h = (k x y r.0 h.0, each_to_all R P k l m r.1 h.1)

  pub all_without_place : (P : A → Type 0) (i : ℕ) (l : List A) → All P l → All P (without_place i l)
  unfolding without_place
  all_without_place P i [] h = tt
  all_without_place P zero (x ∷ xs) h = h.1
  all_without_place P (suc i) (x ∷ xs) h = (h.0, all_without_place P i xs h.1)
