-- A choice by a test, a flag of the record, a case on an option, and searches in a list.
use Rattle.std.specs.Prelude.{Bool, true, false, ◌&&◌, ◌||◌, List, [], ◌∷◌, ℕ, zero, suc, ◌+◌, None, Option, Some}

-- ---- a choice

infixr 10 if_true◌then◌else◌
infixr 10 if_some◌give◌otherwise◌
unfoldable pub if_true◌then◌else◌ {ℓ} : {A : Type ℓ} → Bool → A → A → A
if_true◌then◌else◌ true a b = a
if_true◌then◌else◌ false a b = b

-- ---- a flag: a word that is 0 or 1. A flag above 1 breaks a rule; until that is tested it counts as set

abbrev pub is_set : ℕ → Bool
is_set zero = false
is_set (suc n) = true

unfoldable pub bit : Bool → ℕ
bit false = 0
bit true = 1

-- ---- an option

unfoldable pub if_some◌give◌otherwise◌ {ℓ} : {A : Type 0} {B : Type ℓ} → Option A → (A → B) → B → B
if_some◌give◌otherwise◌ None f b = b
if_some◌give◌otherwise◌ (Some a) f b = f a

-- the first option if it holds something, else the second
unfoldable pub or_else : {A : Type 0} → Option A → Option A → Option A
or_else None b = b
or_else (Some a) b = Some a

-- a number, if it is there
unfoldable pub flagged : Bool → ℕ → Option ℕ
flagged false n = None
flagged true n = Some n

-- ---- lists

module _ {A : Type 0} where
  unfoldable pub is_empty : List A → Bool
  is_empty [] = true
  is_empty (x ∷ xs) = false

  unfoldable pub any : (A → Bool) → List A → Bool
  any test [] = false
  any test (x ∷ xs) = test x || any test xs

  unfoldable pub all : (A → Bool) → List A → Bool
  all test [] = true
  all test (x ∷ xs) = test x && all test xs

  -- those that pass the test, in order
  unfoldable pub such_that : (A → Bool) → List A → List A
  such_that test [] = []
  such_that test (x ∷ xs) = if_true test x then x ∷ such_that test xs else such_that test xs

  -- the first that passes the test, and its place
  unfoldable pub first_such : (A → Bool) → List A → Option A
  first_such test [] = None
  first_such test (x ∷ xs) = if_true test x then Some x else first_such test xs

  -- the first answer that there is
  unfoldable pub first_given : {B : Type 0} → (A → Option B) → List A → Option B
  first_given f [] = None
  first_given f (x ∷ xs) = or_else (f x) (first_given f xs)

  unfoldable pub place_of : (A → Bool) → List A → Option ℕ
  place_of test [] = None
  place_of test (x ∷ xs) = if_true test x then Some 0 else (if_some place_of test xs give (λ i. Some (suc i)) otherwise None)

  unfoldable pub at_place : ℕ → List A → Option A
  at_place i [] = None
  at_place zero (x ∷ xs) = Some x
  at_place (suc i) (x ∷ xs) = at_place i xs

  -- the element at a place is changed; past the end nothing is
  unfoldable pub change : ℕ → (A → A) → List A → List A
  change i f [] = []
  change zero f (x ∷ xs) = f x ∷ xs
  change (suc i) f (x ∷ xs) = x ∷ change i f xs

  -- the element at a place is taken out
  unfoldable pub without_place : ℕ → List A → List A
  without_place i [] = []
  without_place zero (x ∷ xs) = xs
  without_place (suc i) (x ∷ xs) = x ∷ without_place i xs

  unfoldable pub each : {B : Type 0} → (A → B) → List A → List B
  each f [] = []
  each f (x ∷ xs) = f x ∷ each f xs

  -- what an element weighs in a sum over those that pass a test
  abbrev pub counted : (A → Bool) → (A → ℕ) → A → ℕ
  counted test weight x = if_true test x then weight x else 0

  unfoldable pub total : (A → ℕ) → List A → ℕ
  total f [] = 0
  total f (x ∷ xs) = f x + total f xs

-- ---- a fact of each element of a list

module _ {A : Type 0} where
  abbrev pub All : (A → Type 0) → List A → Type 0
  All P [] = Unit {0}
  All P (x ∷ xs) = P x × All P xs
