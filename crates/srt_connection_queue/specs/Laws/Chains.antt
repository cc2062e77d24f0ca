-- What a chain over things finds, said of the model's searches in the list that they are read as.
use Rattle.std.specs.Prelude.{◌≡◌, Bool, true, false, not, cond, ltb, List, [], ◌∷◌, ℕ, suc, ◌+◌, ◌&&◌, ◌||◌, length, map, position, None, Option, Some}
use Rattle.std.specs.List.{list_any, list_all, position_or_len}
use Rattle.std.proofs.Common.{refl, ap, one-add, arith}
use Rattle.std.proofs.lemmas.Bool.{lt-ltb}
use Rattle.std.proofs.lemmas.Bool.Decides.{nat_tests}
use Rattle.srt_group_model.specs.Tools.{any, all, if_true◌then◌else◌, if_some◌give◌otherwise◌, place_of}

less_next : (k n : ℕ) → ltb (suc k) (suc n) ≡ ltb k n
less_next k n = grind (arith, nat_tests)

module _ {X A : Type 0} (read : X → A) (test : A → Bool) where
  abbrev pub passes : X → Bool
  passes x = test (read x)

  pub any_read : (xs : List X) → list_any passes xs ≡ any test (map read xs)
  unfolding any
  any_read [] = refl
  any_read (x ∷ xs) = ap (λ (b : Bool). test (read x) || b) (any_read xs)

  pub all_read : (xs : List X) → list_all passes xs ≡ all test (map read xs)
  unfolding all
  all_read [] = refl
  all_read (x ∷ xs) = ap (λ (b : Bool). test (read x) && b) (all_read xs)

  pub place_read : (xs : List X) → position passes xs ≡ place_of test (map read xs)
  unfolding place_of if_true◌then◌else◌ if_some◌give◌otherwise◌
  place_read [] = refl
  place_read (x ∷ xs) = one_more (test (read x)) (position_or_len passes xs) (length xs) (place_of test (map read xs)) (place_read xs)
    where
      counted : (b : Bool) (k : ℕ) (o : Option ℕ) → cond b (Some k) None ≡ o
          → cond b (Some (suc k)) None ≡ (if_some o give (λ i. Some (suc i)) otherwise None)
      counted true k o e = rw (← e)
      counted false k o e = rw (← e)

      one_more : (b : Bool) (k n : ℕ) (o : Option ℕ) → cond (ltb k n) (Some k) None ≡ o
          → cond (ltb (cond (not b) (1 + k) 0) (suc n)) (Some (cond (not b) (1 + k) 0)) None
          ≡ (if_true b then Some 0 else (if_some o give (λ i. Some (suc i)) otherwise None))
      one_more true k n o e = rw (lt-ltb 0 (suc n) (omega arith))
      one_more false k n o e = rw (one-add, less_next k n) (counted (ltb k n) k o e)
