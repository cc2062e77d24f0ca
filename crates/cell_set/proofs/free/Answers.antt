-- `free` meets its contract: the laws `cell_freed` and `nothing_freed`.
use Rattle.cell_set.specs.Laws.Sets.{cell_freed, nothing_freed}
use Rattle.cell_set.proofs.free.Goals as goal

pub returns-then-cell-lt-MAX_CELLS : goal.returns-then-cell-lt-MAX_CELLS
returns-then-cell-lt-MAX_CELLS c = cell_freed _ _ c.told-used c.if-cell-lt-MAX_CELLS.true

pub returns-else-cell-lt-MAX_CELLS : goal.returns-else-cell-lt-MAX_CELLS
returns-else-cell-lt-MAX_CELLS c = nothing_freed _ _ c.told-used c.if-cell-lt-MAX_CELLS.false
