-- `lowest_free` meets its contract: the laws of the first word that is not full.
use native.Mathlib.Omega.{arith}
use Rattle.cell_set.specs.Laws.Sets.{none_free, found_if_inside}
use Rattle.cell_set.proofs.lowest_free.Goals as goal

pub returns-in_err-at : goal.returns-in_err-at
returns-in_err-at c = rw c.from_residual.ensures (none_free _ _ (λ n h. (rw c.in_err-at.was at c.first_word.ensures) n (omega arith)))

pub returns : goal.returns
returns c =
    let first = rw c.in_ok-at.was at c.first_word.ensures in
    rw (c.then_some.ensures, c.trailing_ones.ensures) (found_if_inside _ _ c.args.cells first.1 first.0 (c.fits-used _))
