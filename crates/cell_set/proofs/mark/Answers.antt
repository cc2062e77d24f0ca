-- `mark` refuses a cell beyond the store and one that is marked: written out so that a wrong test is refused by what it leaves open,
-- not by a search that ends.
use Rattle.std.proofs.Common.{arith}
use Rattle.cell_set.specs.Laws.Marks.{beyond_refused, again_refused}
use Rattle.cell_set.proofs.mark.Goals.{then-cells-cell-via-then-cells-cell, then-cells-cell-via-else-cells-cell+then-is_used}
use Rattle.cell_set.proofs.mark.Goals as goal

pub is_used-requires : goal.is_used-requires
is_used-requires c = omega (arith, c.if-cells-cell.false, c.requires.store)

pub returns-then-cells-cell : goal.returns-then-cells-cell
returns-then-cells-cell c =
    elim c.then-cells-cell.branch [
      | then-cells-cell-via-then-cells-cell w ↦ beyond_refused c.args.cells c.args.cell c.args.used.now w.if-cells-cell.true
      | then-cells-cell-via-else-cells-cell+then-is_used w ↦ again_refused c.args.cells c.args.cell c.args.used.now w.is_used.ensures w.if-is_used.true
    ]
