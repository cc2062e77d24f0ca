-- `peer_group_id` meets its contract: 5, 6, nothing where the group is not bound, or the number.
use Rattle.srt_group_looks.specs.Laws.Looks.{gives_refusal, peer_shown}
use Rattle.srt_group_looks.proofs.looks.peer_group_id.Goals as goal

pub returns-in_err-begin : goal.returns-in_err-begin
returns-in_err-begin c = gives_refusal _ _ _ _ c.begin.ensures _ c.in_err-begin.was _ c.from_residual.ensures.1

pub returns : goal.returns
returns c = peer_shown _ _ c.begin.ensures c.in_ok-begin.was _ c.then_some.ensures
