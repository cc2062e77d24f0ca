-- `listing_lines::taking::take_lines` meets its contract: each turn takes one line at most from what is left.
use Rattle.std.proofs.Common.{arith, ◌≡◌, length}
use Rattle.listing_lines.specs.Laws.Taken.{all_taken, one_more, no_more}
use Rattle.listing_lines.proofs.taking.take_lines.Goals as goal

pub returns-in_default : goal.returns-in_default
returns-in_default c = no_more c.loop-index.invariant c.take_next.new.row (rw c.in_default.is at c.take_next.ensures)

pub loop-index-preserved : goal.loop-index-preserved
loop-index-preserved c = one_more c.loop-index.invariant c.take_next.new.row c.in-Some.behind (omega arith) (rw c.in-Some.is at c.take_next.ensures)

pub returns : goal.returns
returns c =
    let l = c.loop-index in
    let all : l.index ≡ length l.rows = omega arith in
    rw (← all) (all_taken l.rest.now l.invariant (omega (arith, l.invariant.few)))
