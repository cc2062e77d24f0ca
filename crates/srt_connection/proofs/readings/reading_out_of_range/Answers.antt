-- `reading_out_of_range` meets its contract: an unknown field has no range (`ranged_unknown`).
use mathlib.Core.Path.{sym}
use Rattle.srt_connection.specs.Laws.Readings.{ranged_unknown}
use Rattle.srt_connection.proofs.readings.reading_out_of_range.Goals as goal

pub returns-in_default : goal.returns-in_default
returns-in_default c = sym (ranged_unknown c.args.field c.args.number c.in_default.ensures)
