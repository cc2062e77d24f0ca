-- `listing_lines::taking::take_lines` meets its contract: each turn takes one line at most from what is left.
use Rattle.listing_lines.specs.Laws.Taken.{TakenSoFar}
use Rattle.listing_lines.proofs.taking.take_lines.Given as goal

abbrev pub invariant-loop-index : goal.invariant-loop-index
invariant-loop-index l = TakenSoFar l.block l.rest l.initial.line l.line l.rows l.index
