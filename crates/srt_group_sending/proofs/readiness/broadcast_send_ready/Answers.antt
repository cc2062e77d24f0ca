-- `broadcast_send_ready` meets its contract.
use Rattle.std.proofs.Common.{rules}
use Rattle.std.proofs.lemmas.Iterator.{YieldsList-from_slice}
use Rattle.srt_group_members.specs.Laws.Scan.{any_in}
use Rattle.srt_group_sending.specs.Readiness.{sends_now, pacing_in}
use Rattle.srt_group_sending.proofs.readiness.broadcast_send_ready.Goals as goal

pub returns : goal.returns
returns c =
    any_in (sends_now (pacing_in c.args.pacing)) _ _ _ c.any.ensures.ran (YieldsList-from_slice c.args.rows.now cc) (λ x b q h. search rules)
