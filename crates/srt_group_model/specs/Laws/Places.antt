-- The places of a list, in the library's words: for code that reads and writes rows by their index.
use Rattle.std.specs.Prelude.{◌≡◌, Bool, length, get_or, set, take, drop, None, Option, Some}
use Rattle.std.proofs.Math.Path.{refl, ap}
use Rattle.std.proofs.Math.Bool.{true, false}
use mathlib.Core.List.{List, [], ◌∷◌, ◌++◌}
use Prim.Native.Nat.{ℕ, zero, suc, ◌<◌}
use Rattle.std.proofs.Common.{not-suc-le-zero, le_of_suc-le-suc}
use Rattle.srt_group_model.specs.Tools.{if_true◌then◌else◌, if_some◌give◌otherwise◌, first_such, place_of, at_place, change, without_place}

module _ {A : Type 0} where
  pub at_place_is_getD : (l : List A) (i : ℕ) (d : A) → i < length l → at_place i l ≡ Some (get_or l i d)
  unfolding at_place
  at_place_is_getD [] i d h = absurd (not-suc-le-zero h)
  at_place_is_getD (x ∷ xs) zero d h = refl
  at_place_is_getD (x ∷ xs) (suc i) d h = at_place_is_getD xs i d (le_of_suc-le-suc h)

  pub change_is_set : (l : List A) (i : ℕ) (f : A → A) (d : A) → change i f l ≡ set l i (f (get_or l i d))
  unfolding change
  change_is_set [] zero f d = refl
  change_is_set [] (suc i) f d = refl
  change_is_set (x ∷ xs) zero f d = refl
  change_is_set (x ∷ xs) (suc i) f d = ap {B = List A} (λ r. x ∷ r) (change_is_set xs i f d)

  pub change_nothing : (i : ℕ) (l : List A) → change i (λ x. x) l ≡ l
  unfolding change
  change_nothing i [] = refl
  change_nothing zero (x ∷ xs) = refl
  change_nothing (suc i) (x ∷ xs) = ap {B = List A} (λ r. x ∷ r) (change_nothing i xs)

  pub without_place_is_cut : (l : List A) (i : ℕ) → i < length l → without_place i l ≡ take i l ++ drop (suc i) l
  unfolding without_place
  without_place_is_cut [] i h = absurd (not-suc-le-zero h)
  without_place_is_cut (x ∷ xs) zero h = refl
  without_place_is_cut (x ∷ xs) (suc i) h = ap {B = List A} (λ r. x ∷ r) (without_place_is_cut xs i (le_of_suc-le-suc h))

  -- the first that passes a test stands at the place that is found
  abbrev pub found : List A → Option ℕ → Option A
  found l o = if_some o give (λ i. at_place i l) otherwise None

  found_past : (t : Bool) (x : A) (xs : List A) (r : Option A) (o : Option ℕ) → r ≡ found xs o
      → (if_true t then Some x else r) ≡ found (x ∷ xs) (if_true t then Some 0 else (if_some o give (λ i. Some (suc i)) otherwise None))
  unfolding at_place if_true◌then◌else◌ if_some◌give◌otherwise◌
  found_past true x xs r o h = refl
  found_past false x xs r None h = h
  found_past false x xs r (Some i) h = h

  pub first_such_is_found : (test : A → Bool) (l : List A) → first_such test l ≡ found l (place_of test l)
  unfolding first_such place_of if_some◌give◌otherwise◌
  first_such_is_found test [] = refl
  first_such_is_found test (x ∷ xs) = found_past (test x) x xs _ (place_of test xs) (first_such_is_found test xs)
