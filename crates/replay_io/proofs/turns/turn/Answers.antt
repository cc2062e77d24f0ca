-- `turn` meets its contract: where no byte was read nothing is answered.
use Rattle.replay_io.specs.Laws.Turns.{none_replayed}
use Rattle.replay_io.proofs.turns.turn.Goals as goal

pub returns-then-count-eq0-clause-replayed : goal.returns-then-count-eq0-clause-replayed
returns-then-count-eq0-clause-replayed g c = none_replayed c.args.state.now.line _ _
