-- A list given by a function of the place.
use Rattle.std.specs.Prelude.{List, [], ◌∷◌, ◌++◌, ℕ, zero, suc, take, drop}

-- the n elements f 0, f 1, ...
unfoldable pub tab : {A : Type 0} → ℕ → (ℕ → A) → List A
tab zero f = []
tab (suc n) f = f 0 ∷ tab n (λ i. f (suc i))

unfoldable pub removed : {A : Type 0} → ℕ → List A → List A
removed at l = take at l ++ drop (suc at) l
