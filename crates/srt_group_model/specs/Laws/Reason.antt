-- Ways to go through a choice, an option and a list in a proof.
use Rattle.std.specs.Prelude.{◌≡◌, Bool, true, false, ◌&&◌, ◌||◌, T, None, Option, Some}
use Rattle.std.proofs.Math.Path.{refl, sym, ap, ap₂, subst}
use Rattle.std.proofs.Common.{◌∙◌}
use mathlib.Core.List.{List, [], ◌∷◌, ◌++◌}
use Prim.Native.Nat.{ℕ, zero, suc}
use Rattle.srt_group_model.specs.Tools.{if_true◌then◌else◌, if_some◌give◌otherwise◌, any, first_such, at_place, change, each, All, place_of}

-- ---- a choice

-- what holds of each side, under its outcome of the test, holds of the choice
pub if_elim : {A : Type 0} (P : A → Type 0) (t : Bool) (a b : A) → (t ≡ true → P a) → (t ≡ false → P b) → P (if_true t then a else b)
unfolding if_true◌then◌else◌
if_elim P true a b f g = f refl
if_elim P false a b f g = g refl

pub when_true : {A : Type 0} (t : Bool) (a b : A) → t ≡ true → (if_true t then a else b) ≡ a
unfolding if_true◌then◌else◌
when_true t a b e = rw e

pub when_false : {A : Type 0} (t : Bool) (a b : A) → t ≡ false → (if_true t then a else b) ≡ b
unfolding if_true◌then◌else◌
when_false t a b e = rw e

pub by_test : {B : Type 0} (t : Bool) → (t ≡ true → B) → (t ≡ false → B) → B
by_test true f g = f refl
by_test false f g = g refl

pub not_both : {B : Type 0} {t : Bool} → t ≡ true → t ≡ false → B
not_both {B} {t} p q = absurd (subst T (sym p ∙ q) tt)

pub and_left : (a b : Bool) → a && b ≡ true → a ≡ true
and_left true b e = refl
and_left false b e = e

pub and_right : (a b : Bool) → a && b ≡ true → b ≡ true
and_right true b e = e
and_right false b e = not_both {t = false} e refl

pub or_left : (a b : Bool) → a || b ≡ false → a ≡ false
or_left true b e = e
or_left false b e = refl

pub or_right : (a b : Bool) → a || b ≡ false → b ≡ false
or_right true b e = not_both {t = true} refl e
or_right false b e = e

-- what a test that fails says of its parts: for `search`
pub ruleset neither = (or_left, or_right)

pub no_either : (a b : Bool) → a ≡ false → b ≡ false → a || b ≡ false
no_either a b e f = ap₂ (λ (x y : Bool). x || y) e f

pub or_assoc : (a b c : Bool) → ((a || b) || c) ≡ (a || (b || c))
or_assoc true b c = refl
or_assoc false b c = refl

pub or_comm : (a b : Bool) → (a || b) ≡ (b || a)
or_comm true true = refl
or_comm true false = refl
or_comm false true = refl
or_comm false false = refl

pub or_swap : (a b c : Bool) → (a || (b || c)) ≡ (b || (a || c))
or_swap a b c = sym (or_assoc a b c) ∙ ap (λ (x : Bool). x || c) (or_comm a b) ∙ or_assoc b a c

-- the parts of a test in one order: for `simp`
pub ruleset any_order = (or_assoc, or_comm, or_swap)

pub or_no : (a : Bool) → (a || false) ≡ a
or_no true = refl
or_no false = refl

pub or_cases : {C : Type 0} (a b : Bool) → a || b ≡ true → (a ≡ true → C) → (b ≡ true → C) → C
or_cases true b e f g = f refl
or_cases false b e f g = g e

pub or_yes_left : (a b : Bool) → a ≡ true → a || b ≡ true
or_yes_left true b e = refl
or_yes_left false b e = not_both e refl

pub or_yes_right : (a b : Bool) → b ≡ true → a || b ≡ true
or_yes_right true b e = refl
or_yes_right false b e = e

pub and_yes : (a b : Bool) → a ≡ true → b ≡ true → a && b ≡ true
and_yes true b e f = f
and_yes false b e f = e

-- ---- an option

pub if_some_elim : {A B : Type 0} (P : B → Type 0) (o : Option A) (f : A → B) (b : B)
    → ((a : A) → o ≡ Some a → P (f a)) → (o ≡ None → P b) → P (if_some o give f otherwise b)
unfolding if_some◌give◌otherwise◌
if_some_elim P None f b g h = h refl
if_some_elim P (Some a) f b g h = g a refl

pub if_given : {A B : Type 0} {o : Option A} {a : A} (f : A → B) (b : B) → o ≡ Some a → (if_some o give f otherwise b) ≡ f a
unfolding if_some◌give◌otherwise◌
if_given f b e = rw e

pub some_inj : {A : Type 0} {a b : A} → ◌≡◌ {A = Option A} (Some a) (Some b) → a ≡ b
some_inj {A} {a} {b} e = cc

pub none_some : {A : Type 0} {a : A} {B : Type 0} → ◌≡◌ {A = Option A} None (Some a) → B
unfolding if_some◌give◌otherwise◌
none_some {A} {a} {B} e =
    absurd (subst (λ (o : Option A). if_some o give (λ (x : A). ⊥) otherwise Unit {0}) e tt)

-- ---- each element of a list

module _ {A : Type 0} where
  pub all_map : (P Q : A → Type 0) → ((a : A) → P a → Q a) → (l : List A) → All P l → All Q l
  all_map P Q f [] h = tt
  all_map P Q f (x ∷ xs) h = (f x h.0, all_map P Q f xs h.1)

  pub all_two : (P Q R : A → Type 0) → ((a : A) → P a → Q a → R a) → (l : List A) → All P l → All Q l → All R l
  all_two P Q R f [] h k = tt
  all_two P Q R f (x ∷ xs) h k = (f x h.0 k.0, all_two P Q R f xs h.1 k.1)

  -- that none passes a test is that each fails it
  pub none_of : (test : A → Bool) (l : List A) → any test l ≡ false → All (λ (x : A). test x ≡ false) l
  unfolding any
  none_of test [] h = tt
  none_of test (x ∷ xs) h = (or_left (test x) _ h, none_of test xs (or_right (test x) _ h))

  pub of_none : (test : A → Bool) (l : List A) → All (λ (x : A). test x ≡ false) l → any test l ≡ false
  unfolding any
  of_none test [] h = refl
  of_none test (x ∷ xs) h = no_either _ _ h.0 (of_none test xs h.1)

  pub any_agree : (a b : A → Bool) → ((x : A) → a x ≡ b x) → (l : List A) → any a l ≡ any b l
  unfolding any
  any_agree a b h [] = refl
  any_agree a b h (x ∷ xs) = ap₂ (λ (p q : Bool). p || q) (h x) (any_agree a b h xs)

  pub any_append : (test : A → Bool) (l m : List A) → any test (l ++ m) ≡ (any test l || any test m)
  unfolding any
  any_append test [] m = refl
  any_append test (x ∷ xs) m = ap (λ (b : Bool). test x || b) (any_append test xs m) ∙ sym (or_assoc (test x) _ _)

  pub all_each : (P : A → Type 0) (f : A → A) → ((a : A) → P a → P (f a)) → (l : List A) → All P l → All P (each f l)
  unfolding each
  all_each P f g [] h = tt
  all_each P f g (x ∷ xs) h = (g x h.0, all_each P f g xs h.1)

  pub all_at : (P : A → Type 0) (i : ℕ) (a : A) (l : List A) → at_place i l ≡ Some a → All P l → P a
  unfolding at_place
  all_at P i a [] at h = none_some at
  all_at P zero a (x ∷ xs) at h = subst P (some_inj at) h.0
  all_at P (suc i) a (x ∷ xs) at h = all_at P i a xs at h.1

  -- where a search finds no place, none passes
  pub place_none : (test : A → Bool) (l : List A) → place_of test l ≡ None → any test l ≡ false
  unfolding place_of any
  place_none test [] = λ g. refl
  place_none test (x ∷ xs) =
      if_elim (λ (o : Option ℕ). o ≡ None → any test (x ∷ xs) ≡ false) _ _ _ (λ e g. none_some (sym g))
      (λ e.
      if_some_elim (λ (o : Option ℕ). o ≡ None → any test (x ∷ xs) ≡ false) _ _ _ (λ k f g. none_some (sym g))
      (λ f g. no_either _ _ e (place_none test xs f)))

  -- the first that passes a test is one of them, and passes it
  pub first_such_of : (P : A → Type 0) (test : A → Bool) (l : List A) (a : A) → first_such test l ≡ Some a → All P l → P a × (test a ≡ true)
  unfolding first_such
  first_such_of P test [] a e h = none_some e
  first_such_of P test (x ∷ xs) a e h =
      if_elim (λ (o : Option A). o ≡ Some a → P a × (test a ≡ true)) (test x) _ _
      (λ t g. subst (λ (b : A). P b × (test b ≡ true)) (some_inj g) (h.0, t)) (λ t g. first_such_of P test xs a g h.1) e

  pub all_append : (P : A → Type 0) (l m : List A) → All P l → All P m → All P (l ++ m)
  all_append P [] m h k = k
  all_append P (x ∷ xs) m h k = (h.0, all_append P xs m h.1 k)

  -- the elements of two lists of one length are related, each to each
  abbrev pub EachTo : (A → A → Type 0) → List A → List A → Type 0
  EachTo R [] [] = Unit {0}
  EachTo R [] (y ∷ ys) = ⊥
  EachTo R (x ∷ xs) [] = ⊥
  EachTo R (x ∷ xs) (y ∷ ys) = R x y × EachTo R xs ys

  module _ (R : A → A → Type 0) where
    pub each_to_same : ((a : A) → R a a) → (l : List A) → EachTo R l l
    each_to_same r [] = tt
    each_to_same r (x ∷ xs) = (r x, each_to_same r xs)

    pub each_to_then : ((a b c : A) → R a b → R b c → R a c) → (l m n : List A) → EachTo R l m → EachTo R m n → EachTo R l n
    each_to_then t [] [] [] h k = tt
    each_to_then t [] [] (z ∷ zs) h k = k
    each_to_then t [] (y ∷ ys) n h k = absurd h
    each_to_then t (x ∷ xs) [] n h k = absurd h
    each_to_then t (x ∷ xs) (y ∷ ys) [] h k = k
    each_to_then t (x ∷ xs) (y ∷ ys) (z ∷ zs) h k = (t x y z h.0 k.0, each_to_then t xs ys zs h.1 k.1)

    pub each_to_each : (f : A → A) → ((a : A) → R a (f a)) → (l : List A) → EachTo R l (each f l)
    unfolding each
    each_to_each f r [] = tt
    each_to_each f r (x ∷ xs) = (r x, each_to_each f r xs)

    -- a change at one place
    pub each_to_change : ((a : A) → R a a) → (i : ℕ) (f : A → A) (l : List A) → ((a : A) → at_place i l ≡ Some a → R a (f a)) → EachTo R l (change i f l)
    unfolding change at_place
    each_to_change r zero f [] h = tt
    each_to_change r (suc i) f [] h = tt
    each_to_change r zero f (x ∷ xs) h = (h x refl, each_to_same r xs)
    each_to_change r (suc i) f (x ∷ xs) h = (r x, each_to_change r i f xs h)

  -- what stands at the place of a change
  pub at_change : (i : ℕ) (f : A → A) (l : List A) (a : A) → at_place i l ≡ Some a → at_place i (change i f l) ≡ Some (f a)
  unfolding change at_place
  at_change zero f [] a e = none_some e
  at_change (suc i) f [] a e = none_some e
  at_change zero f (x ∷ xs) a e = ap {B = Option A} (λ z. Some (f z)) (some_inj e)
  at_change (suc i) f (x ∷ xs) a e = at_change i f xs a e

  -- both lists changed alike, and what holds of each of the first
  pub each_to_both : (R : A → A → Type 0) (f : A → A) → ((a b : A) → R a b → R (f a) (f b)) → (l m : List A) → EachTo R l m → EachTo R (each f l) (each f m)
  unfolding each
  each_to_both R f r [] [] h = tt
  each_to_both R f r [] (y ∷ ys) h = h
  each_to_both R f r (x ∷ xs) [] h = h
  each_to_both R f r (x ∷ xs) (y ∷ ys) h = (r x y h.0, each_to_both R f r xs ys h.1)

  pub each_to_all : (R : A → A → Type 0) (P : A → Type 0) → ((a b : A) → R a b → P a → P b) → (l m : List A) → EachTo R l m → All P l → All P m
  each_to_all R P f [] [] h k = tt
  each_to_all R P f [] (y ∷ ys) h k = absurd h
  each_to_all R P f (x ∷ xs) [] h k = absurd h
  each_to_all R P f (x ∷ xs) (y ∷ ys) h k = (f x y h.0 k.0, each_to_all R P f xs ys h.1 k.1)

  pub each_to_map : (R S : A → A → Type 0) → ((a b : A) → R a b → S a b) → (l m : List A) → EachTo R l m → EachTo S l m
  each_to_map R S f [] [] h = tt
  each_to_map R S f [] (y ∷ ys) h = h
  each_to_map R S f (x ∷ xs) [] h = h
  each_to_map R S f (x ∷ xs) (y ∷ ys) h = (f x y h.0, each_to_map R S f xs ys h.1)

  -- what stands at one place of both
  pub each_to_at : (R : A → A → Type 0) (l m : List A) → EachTo R l m → (i : ℕ) (a b : A) → at_place i l ≡ Some a → at_place i m ≡ Some b → R a b
  unfolding at_place
  each_to_at R [] m h i a b e g = none_some e
  each_to_at R (x ∷ xs) [] h i a b e g = absurd h
  each_to_at R (x ∷ xs) (y ∷ ys) h zero a b e g = subst (λ (z : A). R z b) (some_inj e) (subst (R x) (some_inj g) h.0)
  each_to_at R (x ∷ xs) (y ∷ ys) h (suc i) a b e g = each_to_at R xs ys h.1 i a b e g

  pub each_to_none : (R : A → A → Type 0) (l m : List A) → EachTo R l m → (i : ℕ) → at_place i m ≡ None → at_place i l ≡ None
  unfolding at_place
  each_to_none R [] m h i e = refl
  each_to_none R (x ∷ xs) [] h i e = absurd h
  each_to_none R (x ∷ xs) (y ∷ ys) h zero e = none_some (sym e)
  each_to_none R (x ∷ xs) (y ∷ ys) h (suc i) e = each_to_none R xs ys h.1 i e

  pub each_to_before : (R : A → A → Type 0) {B : Type 0} (l m : List A) → EachTo R l m → (i : ℕ) (b : A) → at_place i m ≡ Some b → ((a : A) → at_place i l ≡ Some a → R a b → B) → B
  unfolding at_place
  each_to_before R [] [] h i b e k = none_some e
  each_to_before R [] (y ∷ ys) h i b e k = absurd h
  each_to_before R (x ∷ xs) [] h i b e k = absurd h
  each_to_before R (x ∷ xs) (y ∷ ys) h zero b e k = k x refl (subst (R x) (some_inj e) h.0)
  each_to_before R (x ∷ xs) (y ∷ ys) h (suc i) b e k = each_to_before R xs ys h.1 i b e k
