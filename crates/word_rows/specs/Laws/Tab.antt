-- How a change at one place of a list given by a function shows in the list.
use Rattle.std.specs.Prelude.{◌≡◌, List, [], ◌∷◌, ◌++◌, length, take, drop, map}
use Rattle.std.proofs.Math.Path.{refl, ap}
use Prim.Native.Nat.{ℕ, zero, suc, ◌≤◌, ◌<◌}
use Rattle.std.proofs.Common.{arith}
use Rattle.word_rows.specs.Tab.{tab, removed}

-- an element more at a place, and the element at a place less
unfoldable pub inserted : {A : Type 0} → ℕ → A → List A → List A
inserted at x l = take at l ++ x ∷ drop at l

module _ {A : Type 0} where
  pub tab_length : (n : ℕ) (f : ℕ → A) → length (tab n f) ≡ n
  unfolding tab
  tab_length zero f = refl
  tab_length (suc n) f = ap suc (tab_length n (λ i. f (suc i)))

  pub tab_same : (n : ℕ) (f g : ℕ → A) → ((i : ℕ) → i < n → g i ≡ f i) → tab n g ≡ tab n f
  unfolding tab
  tab_same zero f g same = refl
  tab_same (suc n) f g same =
      cc (same 0 (omega arith), tab_same n (λ i. f (suc i)) (λ i. g (suc i)) (λ i below. same (suc i) (omega arith)))

  pub map_tab : {B : Type 0} (n : ℕ) (f : ℕ → A) (g : A → B) → map g (tab n f) ≡ tab n (λ i. g (f i))
  unfolding tab
  map_tab zero f g = refl
  map_tab {B = B} (suc n) f g = ap (λ (l : List B). g (f 0) ∷ l) (map_tab n (λ i. f (suc i)) g)

  -- the first element and the others
  pub tab_front : (n : ℕ) (f : ℕ → A) → 0 < n → tab n f ≡ f 0 ∷ drop 1 (tab n f)
  unfolding tab
  tab_front zero f some = absurd (omega arith)
  tab_front (suc n) f some = refl

  pub tab_none : (n : ℕ) (f : ℕ → A) → n ≡ 0 → tab n f ≡ []
  unfolding tab
  tab_none zero f none = refl
  tab_none (suc n) f none = absurd (omega arith)

  -- one element less at the front
  pub tab_pop : (n : ℕ) (f g : ℕ → A) → ((i : ℕ) → i < n → g i ≡ f (suc i)) → tab n g ≡ drop 1 (tab (suc n) f)
  unfolding tab
  tab_pop n f g same = tab_same n (λ i. f (suc i)) g same

  -- one element more at the end
  pub tab_push : (n : ℕ) (f g : ℕ → A) (x : A) → ((i : ℕ) → i < n → g i ≡ f i) → g n ≡ x → tab (suc n) g ≡ tab n f ++ (x ∷ [])
  unfolding tab
  tab_push zero f g x same last = cc last
  tab_push (suc n) f g x same last =
      cc (same 0 (omega arith), tab_push n (λ i. f (suc i)) (λ i. g (suc i)) x (λ i below. same (suc i) (omega arith)) last)

  -- ---- one element more or less in the middle

  pub tab_insert : (n at : ℕ) (x : A) (f g : ℕ → A) → at ≤ n → ((i : ℕ) → i < at → g i ≡ f i) → g at ≡ x
      → ((i : ℕ) → at ≤ i → i < n → g (suc i) ≡ f i) → tab (suc n) g ≡ inserted at x (tab n f)
  unfolding tab inserted
  tab_insert n zero x f g within low here high =
      cc (here, tab_same n f (λ i. g (suc i)) (λ i below. high i (omega arith) below))
  tab_insert zero (suc at) x f g within low here high = absurd (omega arith)
  tab_insert (suc n) (suc at) x f g within low here high =
      cc (
        low 0 (omega arith),
        tab_insert n at x (λ i. f (suc i)) (λ i. g (suc i)) (omega arith) (λ i below. low (suc i) (omega arith)) here
            (λ i above below. high (suc i) (omega arith) (omega arith)),
      )

  pub tab_remove : (n at : ℕ) (f g : ℕ → A) → at ≤ n → ((i : ℕ) → i < at → g i ≡ f i)
      → ((i : ℕ) → at ≤ i → i < n → g i ≡ f (suc i)) → tab n g ≡ removed at (tab (suc n) f)
  unfolding tab removed
  tab_remove n zero f g within low high = tab_same n (λ i. f (suc i)) g (λ i below. high i (omega arith) below)
  tab_remove zero (suc at) f g within low high = absurd (omega arith)
  tab_remove (suc n) (suc at) f g within low high =
      cc (
        low 0 (omega arith),
        tab_remove n at (λ i. f (suc i)) (λ i. g (suc i)) (omega arith) (λ i below. low (suc i) (omega arith))
            (λ i above below. high (suc i) (omega arith) (omega arith)),
      )
