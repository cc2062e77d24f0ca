-- `test` meets its contract: 5 and 6, and then what follows them.
use Rattle.srt_group_sending.specs.Readiness.{pacing_in}
use Rattle.srt_group_send.specs.Readiness.{call_paced}
use Rattle.srt_group_send_calls.specs.Laws.Readiness.{test_refused, can_test, tested}
use Rattle.srt_group_send_calls.proofs.calls.test.Goals as goal

pub returns-in-Err : goal.returns-in-Err
returns-in-Err c =
    let a = c.args in
    rw (c.refused.ensures.0, c.refused.ensures.1)
    (test_refused a.group a.members.now a.pending.now a.waiting.now a.history.now a.sources.now
    c.begin.ensures (pacing_in a.pacing) _ c.in-Err.is)

pub test-tested-requires : goal.test-tested-requires
test-tested-requires c =
    let a = c.args in
    record {
      testable = can_test a.group a.members.now a.pending.now a.waiting.now a.history.now a.sources.now c.begin.ensures c.in_default.is;
      in_word = c.requires;
    }

pub returns : goal.returns
returns c =
    let a = c.args in
    tested a.group a.members.now a.pending.now a.waiting.now a.history.now a.sources.now
    c.begin.ensures c.in_default.is (call_paced (pacing_in a.pacing)) c.test-tested.ensures
