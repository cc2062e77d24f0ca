-- Going by cases on a test.
use mathlib.Core.Bool.{Bool, true, false, cond}
use mathlib.Core.Path.{◌≡◌, refl}

pub by_cases : {P : Type 0} (test : Bool) → (test ≡ true → P) → (test ≡ false → P) → P
by_cases true yes_case no_case = yes_case refl
by_cases false yes_case no_case = no_case refl

-- two choices by one test are equal where each pair of arms is
pub cond_equal :
    {A : Type 0} {a b c d : A} (test : Bool) → (test ≡ true → a ≡ c) → (test ≡ false → b ≡ d) → cond test a b ≡ cond test c d
cond_equal true yes_case no_case = yes_case refl
cond_equal false yes_case no_case = no_case refl
