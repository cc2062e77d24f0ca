-- `Field::of` meets its contract: an unknown number is no row of `readings`.
use native.Mathlib.Omega.{arith}
use Rattle.srt_connection.specs.Laws.Readings.{unknown_field}
use Rattle.srt_connection.proofs.readings.Field.of.Goals as goal

pub returns-in_default : goal.returns-in_default
returns-in_default c =
    unknown_field c.args.number (omega arith) (omega arith) (omega arith) (omega arith) (omega arith) (omega arith) (omega arith) (omega arith) (omega arith)
    (omega arith) (omega arith) (omega arith)
