-- `clear` meets its contract: each word is 0.
use Rattle.std.proofs.Common.{refl, ◌∙◌, arith}
use Rattle.cell_set.specs.Laws.Sets.{all_cleared}
use Rattle.cell_set.proofs.clear.Goals as goal

pub returns : goal.returns
returns c = all_cleared _ (c.fill.ensures.len ∙ c.told-used) (λ k below. c.fill.ensures.clones k 0 (omega arith) refl)
