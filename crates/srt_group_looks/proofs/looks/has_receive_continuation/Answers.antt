-- `has_receive_continuation` meets its contract: 5, 6, or the flag.
use Rattle.srt_group_looks.specs.Laws.Looks.{gives_refusal, continuation_shown}
use Rattle.srt_group_looks.proofs.looks.has_receive_continuation.Goals as goal

pub returns-in_err-begin : goal.returns-in_err-begin
returns-in_err-begin c = gives_refusal _ _ _ _ c.begin.ensures _ c.in_err-begin.was _ c.from_residual.ensures.1

pub returns : goal.returns
returns c = continuation_shown _ _ c.begin.ensures c.in_ok-begin.was
