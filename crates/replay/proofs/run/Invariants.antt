-- `run`: from block to block the lines that ended are answered.
use Rattle.std.proofs.Common.{◌≤◌, length}
use Rattle.replay_io.specs.Laws.Turns.{ReplayedSoFar}
use Rattle.replay.proofs.run.Given as goal

abbrev pub invariant-loop : goal.invariant-loop
invariant-loop g l =
    ReplayedSoFar l.state.line l.state.replay (g.R.Read.remaining l.fn.input) (g.R.Read.remaining l.input) (g.W.Write.contents l.fn.to) (g.W.Write.contents l.to)
    × (88 ≤ length l.state.line.bytes.now)
