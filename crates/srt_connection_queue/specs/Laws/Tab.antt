-- A list given by a function of the place (`tab` of rows), changed as the model changes its lists: at a place, without a place,
-- at each place, and searched.
use Rattle.std.proofs.Math.Path.{◌≡◌, refl, ap, subst}
use Rattle.std.proofs.Common.{sym, ◌∙◌}
use Rattle.std.specs.Prelude.{Bool, drop, None, Option, Some}
use Rattle.std.proofs.Math.Bool.{true, false}
use mathlib.Core.List.{List, [], ◌∷◌}
use Prim.Native.Nat.{ℕ, zero, suc, ◌+◌, ◌-◌, ◌≤◌, ◌<◌}
use native.Mathlib.Omega.{arith}
use Rattle.std.proofs.Math.ListN.{length}
use Rattle.word_rows.specs.Tab.{tab}
use Rattle.word_rows.specs.Laws.Tab.{tab_same}
use Rattle.srt_group_model.specs.Tools.{All, if_true◌then◌else◌, if_some◌give◌otherwise◌, place_of, at_place, change, without_place, each}

module _ {A : Type 0} where
  pub tab_place : (n : ℕ) (f : ℕ → A) (i : ℕ) → i < n → at_place i (tab n f) ≡ Some (f i)
  unfolding tab at_place
  tab_place zero f i h = absurd (omega arith)
  tab_place (suc n) f zero h = refl
  tab_place (suc n) f (suc i) h = tab_place n (λ i. f (suc i)) i (omega arith)

  pub tab_past : (n : ℕ) (f : ℕ → A) (i : ℕ) → n ≤ i → at_place i (tab n f) ≡ None
  unfolding tab at_place
  tab_past zero f i h = refl
  tab_past (suc n) f zero h = absurd (omega arith)
  tab_past (suc n) f (suc i) h = tab_past n (λ i. f (suc i)) i (omega arith)

  -- what holds of all holds of each
  pub all_tab : (P : A → Type 0) (n : ℕ) (f : ℕ → A) → All P (tab n f) → (k : ℕ) → k < n → P (f k)
  unfolding tab
  all_tab P zero f h k below = absurd (omega arith)
  all_tab P (suc n) f h zero below = h.0
  all_tab P (suc n) f h (suc k) below = all_tab P n (λ i. f (suc i)) h.1 k (omega arith)

  tab_as : (m n : ℕ) (f g : ℕ → A) → m ≡ n → ((i : ℕ) → g i ≡ f i) → tab m f ≡ tab n g
  tab_as m n f g e h = ap (λ (k : ℕ). tab k f) e ∙ sym (tab_same n f g (λ i k. h i))

  -- the place i is changed by c, and no other
  pub tab_change : (n : ℕ) (f g : ℕ → A) (i : ℕ) (c : A → A) → g i ≡ c (f i) → ((j : ℕ) → (j ≡ i → ⊥) → g j ≡ f j)
      → tab n g ≡ change i c (tab n f)
  unfolding tab change
  tab_change zero f g i c here others = refl
  tab_change (suc n) f g zero c here others =
      cc (here, tab_same n (λ i. f (suc i)) (λ i. g (suc i)) (λ i k. others (suc i) (λ q. omega arith)))
  tab_change (suc n) f g (suc i) c here others =
      cc (
        others 0 (λ q. omega arith),
        tab_change n (λ i. f (suc i)) (λ i. g (suc i)) i c here (λ j q. others (suc j) (λ r. q (omega arith))),
      )

  -- the place i is taken out, and the later ones move down
  pub tab_without : (n i : ℕ) (f g : ℕ → A) → i ≤ n → ((j : ℕ) → j < i → g j ≡ f j) → ((j : ℕ) → i ≤ j → j < n → g j ≡ f (suc j))
      → tab n g ≡ without_place i (tab (suc n) f)
  unfolding tab without_place
  tab_without n zero f g h low high = tab_same n (λ i. f (suc i)) g (λ j k. high j (omega arith) k)
  tab_without zero (suc i) f g h low high = absurd (omega arith)
  tab_without (suc n) (suc i) f g h low high =
      cc (
        low 0 (omega arith),
        tab_without n i (λ i. f (suc i)) (λ i. g (suc i)) (omega arith) (λ j k. low (suc j) (omega arith))
            (λ j k m. high (suc j) (omega arith) (omega arith)),
      )

  -- every place is changed by c
  pub tab_each : (n : ℕ) (f g : ℕ → A) (c : A → A) → ((j : ℕ) → j < n → g j ≡ c (f j)) → tab n g ≡ each c (tab n f)
  unfolding tab each
  tab_each zero f g c h = refl
  tab_each (suc n) f g c h = cc (h 0 (omega arith), tab_each n (λ i. f (suc i)) (λ i. g (suc i)) c (λ j k. h (suc j) (omega arith)))

  -- a search: the first place that passes, or none
  pub tab_found : (test : A → Bool) (n : ℕ) (f : ℕ → A) (i : ℕ) → i < n → test (f i) ≡ true → ((j : ℕ) → j < i → test (f j) ≡ false)
      → place_of test (tab n f) ≡ Some i
  unfolding tab place_of if_true◌then◌else◌ if_some◌give◌otherwise◌
  tab_found test zero f i h passes before = absurd (omega arith)
  tab_found test (suc n) f zero h passes before = rw passes
  tab_found test (suc n) f (suc i) h passes before =
      rw (
        before 0 (omega arith),
        tab_found test n (λ i. f (suc i)) i (omega arith) passes (λ j k. before (suc j) (omega arith)),
      )

  pub tab_not_found : (test : A → Bool) (n : ℕ) (f : ℕ → A) → ((j : ℕ) → j < n → test (f j) ≡ false) → place_of test (tab n f) ≡ None
  unfolding tab place_of if_true◌then◌else◌ if_some◌give◌otherwise◌
  tab_not_found test zero f none_passes = refl
  tab_not_found test (suc n) f none_passes =
      rw (none_passes 0 (omega arith), tab_not_found test n (λ i. f (suc i)) (λ j k. none_passes (suc j) (omega arith)))

  -- the places from k on
  pub tab_from : (k n : ℕ) (f : ℕ → A) → drop k (tab n f) ≡ tab (n - k) (λ i. f (k + i))
  unfolding tab
  tab_from zero n f = tab_as n (n - 0) f (λ i. f (0 + i)) (omega arith) (λ i. ap f (omega arith))
  tab_from (suc k) zero f = tab_as 0 (0 - suc k) (λ i. f (suc k + i)) (λ i. f (suc k + i)) (omega arith) (λ i. refl)
  tab_from (suc k) (suc n) f =
      tab_from k n (λ i. f (suc i))
      ∙ tab_as (n - k) (suc n - suc k) (λ i. f (suc (k + i))) (λ i. f (suc k + i)) (omega arith) (λ i. ap f (omega arith))

  -- what a search finds is there, and passes
  pub place_below : (test : A → Bool) (l : List A) (i : ℕ) → place_of test l ≡ Some i → i < length l
  unfolding place_of if_true◌then◌else◌ if_some◌give◌otherwise◌
  place_below test [] i e = let different : ◌≡◌ {A = ℕ} 0 1 = cc in absurd (omega arith)
  place_below test (x ∷ xs) i e = go (test x) (place_of test xs) (λ j q. place_below test xs j q) i e
    where
      go : (b : Bool) (o : Option ℕ) → ((j : ℕ) → o ≡ Some j → j < length xs) → (i : ℕ)
          → (if_true b then Some 0 else (if_some o give (λ k. Some (suc k)) otherwise None)) ≡ Some i → i < suc (length xs)
      go true o h i e = let first : 0 ≡ i = cc in omega arith
      go false None h i e = let different : ◌≡◌ {A = ℕ} 0 1 = cc in absurd (omega arith)
      go false (Some j) h i e = let later : suc j ≡ i = cc in omega (arith, h j refl)

  pub tab_passes : (test : A → Bool) (n : ℕ) (f : ℕ → A) (i : ℕ) → place_of test (tab n f) ≡ Some i → test (f i) ≡ true
  unfolding tab place_of if_true◌then◌else◌ if_some◌give◌otherwise◌
  tab_passes test zero f i e = let different : ◌≡◌ {A = ℕ} 0 1 = cc in absurd (omega arith)
  tab_passes test (suc n) f i e =
      go (test (f 0)) refl (place_of test (tab n (λ k. f (suc k)))) (λ j q. tab_passes test n (λ k. f (suc k)) j q) i e
    where
      go : (b : Bool) → test (f 0) ≡ b → (o : Option ℕ) → ((j : ℕ) → o ≡ Some j → test (f (suc j)) ≡ true) → (i : ℕ)
          → (if_true b then Some 0 else (if_some o give (λ k. Some (suc k)) otherwise None)) ≡ Some i → test (f i) ≡ true
      go true p o h i e = let first : 0 ≡ i = cc in subst (λ (k : ℕ). test (f k) ≡ true) first p
      go false p None h i e = let different : ◌≡◌ {A = ℕ} 0 1 = cc in absurd (omega arith)
      go false p (Some j) h i e = let later : suc j ≡ i = cc in subst (λ (k : ℕ). test (f k) ≡ true) later (h j refl)
