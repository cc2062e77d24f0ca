-- `put_given` meets its contract where the look was refused.
use Rattle.srt_group_c_looks.specs.Laws.Look.{says_refused}
use Rattle.srt_group_c_looks.proofs.answers.put_given.Goals as goal

pub returns-in-Err : goal.returns-in-Err
returns-in-Err g c = says_refused _ _ c.in-Err.is c.from.ensures c.put-in-Err.ensures
