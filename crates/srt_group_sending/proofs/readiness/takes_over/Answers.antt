-- `takes_over` meets its contract: the carrier, if there is one, is compared.
use Rattle.std.proofs.Common.{rules}
use Rattle.srt_group_sending.specs.Laws.BackupReadiness.{carried_by_other}
use Rattle.srt_group_sending.proofs.readiness.takes_over.Goals as goal

pub returns : goal.returns
returns c = carried_by_other _ _ c.carrier.ensures (search rules)
