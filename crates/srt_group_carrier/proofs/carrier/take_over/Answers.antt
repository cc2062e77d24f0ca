-- `take_over` meets its contract: the take-over leaves the end of the history.
use Rattle.srt_group_carrier.specs.Laws.Prepared.{taken_follows}
use Rattle.srt_group_carrier.proofs.carrier.take_over.Goals as goal

pub returns-clause-trim_follows : goal.returns-clause-trim_follows
returns-clause-trim_follows c = search taken_follows
