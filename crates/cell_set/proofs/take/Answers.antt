-- `take` meets its contract: the law `cell_taken`.
use Rattle.cell_set.specs.Laws.Sets.{cell_taken}
use Rattle.cell_set.proofs.take.Goals as goal

pub returns : goal.returns
returns c = cell_taken _ _ c.told-used c.requires
