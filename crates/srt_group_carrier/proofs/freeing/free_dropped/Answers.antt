-- `free_dropped` meets its contract. The loop's invariant: so many of the oldest entries have left, and their cells are free.
use native.Mathlib.Omega.{arith}
use Rattle.srt_group_carrier.specs.Laws.Freeing.{freeing_goes_on, all_freed}
use Rattle.srt_group_carrier.proofs.freeing.free_dropped.Goals as goal

pub loop-index-preserved : goal.loop-index-preserved
loop-index-preserved c =
    freeing_goes_on _ _ _ c.loop-index.index _ _ (omega arith) c.loop-index.invariant c.cell_at-cell.ensures c.free.ensures

pub returns : goal.returns
returns c = all_freed _ _ _ c.loop-index.index c.args.left _ (omega arith) (omega arith) c.loop-index.invariant
