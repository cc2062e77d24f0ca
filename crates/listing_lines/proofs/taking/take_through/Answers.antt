-- `listing_lines::taking::take_through` meets its contract: a line that ended is read, another is held.
use Rattle.std.proofs.Common.{arith}
use Rattle.listing_lines.specs.Laws.Taken.{none_ended, line_ended}
use Rattle.listing_lines.proofs.taking.take_through.Goals as goal

pub returns-in_err-rest : goal.returns-in_err-rest
returns-in_err-rest c = rw c.from_residual.ensures (none_ended c.args.block.now c.args.line.now _ _ (rw c.in_err-rest.was at c.take.ensures))

pub returns : goal.returns
returns c =
    let a = c.args in
    line_ended a.block.now a.line.now _ _ a.row.now _ _ _ (rw c.in_ok-rest.was at c.take.ensures) c.read.ensures c.requires (omega arith) c.clear.ensures.same_buffer c.clear.ensures.empty
