-- `goes_back` meets its contract: an unknown field has no turn.
use mathlib.Core.Path.{sym}
use Rattle.srt_connection.specs.Laws.Readings.{unknown_has_no_turn}
use Rattle.srt_connection.proofs.readings.goes_back.Goals as goal

pub returns-in_default-2 : goal.returns-in_default-2
returns-in_default-2 c = sym (unknown_has_no_turn c.args.field c.args.number c.args.leg (rw c.in_default.is at c.of.ensures))
