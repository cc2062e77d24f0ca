-- `stands_at` meets its contract: the sequence, if there is one, is compared.
use Rattle.std.proofs.Common.{rules}
use Rattle.srt_group_sending.specs.Laws.BackupReadiness.{stands_if_some}
use Rattle.srt_group_sending.proofs.readiness.stands_at.Goals as goal

pub returns : goal.returns
returns c = stands_if_some _ _ _ (search rules)
