-- `can_send` for a valid state meets its contract.
use Rattle.srt_group_send.specs.Laws.Readiness.{testable_of, tests_performed}
use Rattle.srt_group_send.proofs.valid.can_send.Goals as goal

pub can_send-requires : goal.can_send-requires
can_send-requires c =
    testable_of c.args.store.now c.requires

pub returns : goal.returns
returns c =
    tests_performed c.args.store.now c.requires c.can_send.ensures
