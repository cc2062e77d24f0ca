-- `first_word` meets its contract: the words before the place that `position` gives are full, and so are their cells.
use Rattle.std.proofs.Common.{◌≡◌, ◌≢◌, ◌-◌, ◌^◌, ◌<◌, ℕ, List, length, rules, arith}
use Rattle.std.proofs.lemmas.Iterator.{IsFirst-from_position, YieldsList-from_slice}
use Rattle.std.specs.Option.{MatchOption}
use Rattle.std.specs.List.{AllWithin, HoldsAt}
use Rattle.std.specs.declared.option.Option.{Option}
use Rattle.std.specs.declared.option.Option.TheVariants.{Some, None}
use Rattle.cell_set.specs.Bits.{set_size}
use Rattle.cell_set.specs.Sets.{Passed, FirstWord}
use Rattle.cell_set.specs.Laws.Sets.{words_passed}
use Rattle.cell_set.proofs.first_word.Goals as goal

abbrev is_full : ℕ → Type 0
is_full w = w ≡ 2 ^ 64 - 1

first_of : (words : List ℕ) → length words ≡ set_size → (o : Option ℕ)
    → MatchOption o (AllWithin is_full words 0 (length words)) (λ i. (i < length words) × HoldsAt (λ w. w ≢ 2 ^ 64 - 1) words i × AllWithin is_full words 0 i)
    → MatchOption o (Passed words set_size) (λ at. (at < set_size) × FirstWord words at)
first_of words long None all = words_passed words set_size (λ k below. all k 0 (omega arith) (omega arith))
first_of words long (Some i) at =
    (omega (arith, at.0), record { most = omega (arith, at.0); passed = words_passed words i (λ k below. at.2 k 0 (omega arith) below); not_full = λ inside. at.1 0 })

pub returns : goal.returns
returns c =
    first_of c.args.used.now c.told-used _
    (IsFirst-from_position _ _ c.position.result (λ w. w ≢ 2 ^ 64 - 1) (λ w. w ≡ 2 ^ 64 - 1) c.position.ensures.ran
    (YieldsList-from_slice c.args.used.now cc) (λ x q h. search rules) (λ x q h. search rules))
