-- `trim_and_test` meets its contract.
use Rattle.srt_group_send.specs.Laws.Readiness.{trimmed_ready}
use Rattle.srt_group_send.proofs.readiness.trim_and_test.Goals as goal

pub returns : goal.returns
returns c =
    trimmed_ready _ _ _ _ _ _ (rw c.rows-rows.ensures.shows at c.trim_by_carrier-trimmed.ensures) c.free_dropped.ensures (rw c.rows-rows.ensures.shows at c.backup_send_ready-ready.ensures)
