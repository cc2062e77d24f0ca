-- `can_send_with_pacing` for a valid state meets its contract.
use Rattle.srt_group_send.specs.Laws.Readiness.{testable_of, tests_performed}
use Rattle.srt_group_send.proofs.valid.can_send_with_pacing.Goals as goal

pub can_send_with_pacing-requires : goal.can_send_with_pacing-requires
can_send_with_pacing-requires c =
    testable_of c.args.store.now c.requires

pub returns : goal.returns
returns c =
    tests_performed c.args.store.now c.requires c.can_send_with_pacing.ensures
