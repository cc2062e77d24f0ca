-- `answer_lines`: the answers so far stand in the output.
use Rattle.std.proofs.Common.{◌≤◌, length}
use Rattle.leaf_cases.proofs.answer_lines.Given as goal

abbrev pub invariant-loop-line : goal.invariant-loop-line
invariant-loop-line l = l.end ≤ length l.out
