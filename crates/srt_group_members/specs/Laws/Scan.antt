-- What is proved of the definitions in specs/Scan.antt, with what the proofs need.
use Rattle.std.specs.Prelude.{◌≡◌, Bool, ◌||◌, cond, length, None, Option, Some, is_some, MatchOption}
use Rattle.std.specs.List.{find, FoldsTo}
use Rattle.std.specs.Fn.{Called, CalledAt}
use Rattle.std.specs.Iterator.{YieldsThen}
use Rattle.std.specs.Option.{option_map}
use Rattle.std.proofs.lemmas.Iterator.{YieldsList}
use Rattle.std.proofs.lemmas.Iterator.Search.{any_from_yields_List, all_from_yields_List, position_from_yields_List, find_from_yields_List}
use denote.Param.Members.{Mut}
use denote.Ref.{Bor}
use Rattle.std.proofs.Math.Path.{refl, ap, sym}
use Rattle.std.proofs.Common.{◌∙◌, add-one, arith}
use Rattle.std.proofs.Math.Bool.{true, false}
use mathlib.Core.List.{List, [], ◌∷◌}
use Prim.Native.Nat.{ℕ, zero, suc, ◌+◌, ◌≤◌, ◌<◌}
use Rattle.std.proofs.Math.ListN.{drop}
use Rattle.word_rows.specs.Tab.{tab}
use Rattle.srt_group_model.specs.Tools.{if_true◌then◌else◌, if_some◌give◌otherwise◌, any, all, first_such, place_of, change}
use Rattle.srt_group_model.specs.State.{Member}
use Rattle.srt_connection_queue.specs.Laws.Chains.{any_read, all_read, place_read}
use Rattle.srt_connection_queue.specs.Laws.Tab.{place_below}
use Rattle.srt_connection_queue.specs.Rows.{member_of}
use Rattle.srt_connection_members.specs.Members.{member_at, members_in, members_of, Changed}
use Rattle.srt_connection_members.specs.Laws.Members.{members_length, found_some}
use Rattle.srt_group_members.specs.Scan.{Became}

-- an equation of options, the other way round
pub sequence_some : (o : Option ℕ) (n : ℕ) → Some n ≡ o → o ≡ Some n
sequence_some None n e = cc e
sequence_some (Some m) n e = cc e

pub sequence_none : (o : Option ℕ) → None ≡ o → o ≡ None
sequence_none None e = refl
sequence_none (Some m) e = cc e

-- ---- what a call makes of the first n members of a table, t before and u after

-- one row was changed
pub became_changed : {f : Member → Member} (n i : ℕ) (t u : List ℕ) → Changed i f t u → Became n (change i f (members_of n t)) t u
became_changed n i t u c = record { long = c.long; is = c.members n }

-- none was
pub became_same : (n : ℕ) (t : List ℕ) (ms : List Member) → members_of n t ≡ ms → Became n ms t t
became_same n t ms e = record { long = refl; is = e }

-- one call after the other
pub became_then : (n : ℕ) (f : List Member → List Member) (t u v : List ℕ) {ms : List Member} → Became n ms t u
    → Became n (f (members_of n u)) u v → Became n (f ms) t v
became_then n f t u v a b = record { long = b.long ∙ a.long; is = b.is ∙ ap f a.is }

-- ---- what a chain over rows makes of the members that they show

module _ (test : Member → Bool) where
  row_found : (rows : List (List ℕ)) → option_map member_of (find (λ row. test (member_of row)) rows) ≡ first_such test (members_in rows)
  unfolding first_such if_true◌then◌else◌
  row_found [] = refl
  row_found (row ∷ rows) = go (test (member_of row)) (row_found rows)
    where
      go : (b : Bool) → option_map member_of (find (λ row. test (member_of row)) rows) ≡ first_such test (members_in rows)
          → option_map member_of (cond b (Some row) (find (λ row. test (member_of row)) rows))
          ≡ (if_true b then Some (member_of row) else first_such test (members_in rows))
      go true later = refl
      go false later = later

module _ {S A F : Type 0} {steps : S → Option A → S → Type 0} {v : A → List ℕ} {s : S} {rows : List (List ℕ)} (test : Member → Bool) (u : S) (f : F) where
  module _ {g : Mut F (A × Unit {0}) Bool} where
    pub any_in : (r : Bool)
        → (xs : List A) × (o : Option A) × (j : F) × YieldsThen steps s xs o u × FoldsTo (λ p x q. Called g p (x, tt) false q) f xs j
        × MatchOption o (r ≡ false) (λ x. (r ≡ true) × ((h : F) × Called g j (x, tt) true h))
        → YieldsList steps v s rows
        → ((x : A) (b : Bool) (q : F) → Called g f (x, tt) b q → (q ≡ f) × (b ≡ test (member_of (v x)))) → r ≡ any test (members_in rows)
    any_in r ran yields calls = any_from_yields_List (λ row. test (member_of row)) u f r ran yields calls ∙ any_read member_of test rows

    pub all_in : (r : Bool)
        → (xs : List A) × (o : Option A) × (j : F) × YieldsThen steps s xs o u × FoldsTo (λ p x q. Called g p (x, tt) true q) f xs j
        × MatchOption o (r ≡ true) (λ x. (r ≡ false) × ((h : F) × Called g j (x, tt) false h))
        → YieldsList steps v s rows
        → ((x : A) (b : Bool) (q : F) → Called g f (x, tt) b q → (q ≡ f) × (b ≡ test (member_of (v x)))) → r ≡ all test (members_in rows)
    all_in r ran yields calls = all_from_yields_List (λ row. test (member_of row)) u f r ran yields calls ∙ all_read member_of test rows

    pub place_in : (r : Option ℕ)
        → (xs : List A) × (o : Option A) × (j : F) × YieldsThen steps s xs o u × FoldsTo (λ p x q. Called g p (x, tt) false q) f xs j
        × MatchOption o (r ≡ None) (λ x. (r ≡ Some (length xs)) × ((h : F) × Called g j (x, tt) true h))
        → YieldsList steps v s rows
        → ((x : A) (b : Bool) (q : F) → Called g f (x, tt) b q → (q ≡ f) × (b ≡ test (member_of (v x)))) → r ≡ place_of test (members_in rows)
    place_in r ran yields calls =
        position_from_yields_List (λ row. test (member_of row)) u f r ran yields calls ∙ place_read member_of test rows

  module _ {g : Mut F (Bor A × Unit {0}) Bool} where
    pub found_in : (r : Option A)
        → (xs : List A) × (j : F) × YieldsThen steps s xs r u × FoldsTo (λ p x q. CalledAt g p x false q) f xs j
        × MatchOption r (Unit {0}) (λ x. (h : F) × CalledAt g j x true h)
        → YieldsList steps v s rows
        → ((x : A) (b : Bool) (q : F) → CalledAt g f x b q → (q ≡ f) × (b ≡ test (member_of (v x))))
        → option_map (λ x. member_of (v x)) r ≡ first_such test (members_in rows)
    found_in r ran yields calls =
        twice r ∙ ap (option_map member_of) (find_from_yields_List (λ row. test (member_of row)) u f r ran yields calls) ∙ row_found test rows
      where
        twice : (o : Option A) → option_map (λ x. member_of (v x)) o ≡ option_map member_of (option_map v o)
        twice None = refl
        twice (Some x) = refl

-- ---- what is left

module _ {A : Type 0} where
  pub tab_next : (k n : ℕ) (f : ℕ → A) → k < n → drop k (tab n f) ≡ f k ∷ drop (suc k) (tab n f)
  unfolding tab
  tab_next k zero f h = absurd (omega arith)
  tab_next zero (suc n) f h = refl
  tab_next (suc k) (suc n) f h = tab_next k n (λ i. f (suc i)) (omega arith)

  pub tab_ended : (k n : ℕ) (f : ℕ → A) → n ≤ k → drop k (tab n f) ≡ []
  unfolding tab
  tab_ended zero zero f h = refl
  tab_ended (suc k) zero f h = refl
  tab_ended zero (suc n) f h = absurd (omega arith)
  tab_ended (suc k) (suc n) f h = tab_ended k n (λ i. f (suc i)) (omega arith)

  pub any_found : (test : A → Bool) (l : List A) → any test l ≡ is_some (place_of test l)
  unfolding any place_of if_true◌then◌else◌ if_some◌give◌otherwise◌
  any_found test [] = refl
  any_found test (x ∷ xs) = go (test x) (place_of test xs) (any_found test xs)
    where
      go : (b : Bool) (o : Option ℕ) → any test xs ≡ is_some o
          → (b || any test xs) ≡ is_some (if_true b then Some 0 else (if_some o give (λ i. Some (suc i)) otherwise None))
      go true o e = refl
      go false None e = e
      go false (Some j) e = e

module _ (n k : ℕ) (t : List ℕ) where
  -- the member at the place, and those behind it
  pub left_next : k < n → drop k (members_of n t) ≡ member_at t k ∷ drop (k + 1) (members_of n t)
  unfolding members_of
  left_next h = tab_next k n (member_at t) h ∙ ap (λ (j : ℕ). member_at t k ∷ drop j (tab n (member_at t))) (sym (add-one k))

  pub left_none : n ≤ k → drop k (members_of n t) ≡ []
  unfolding members_of
  left_none h = tab_ended k n (member_at t) h

-- what was found is there
pub found_row : (test : Member → Bool) (n : ℕ) (t : List ℕ) (i : ℕ) → Some i ≡ place_of test (members_of n t) → i < n
found_row test n t i e =
    omega (arith, place_below test (members_of n t) i (found_some (place_of test (members_of n t)) i e), members_length n t)
