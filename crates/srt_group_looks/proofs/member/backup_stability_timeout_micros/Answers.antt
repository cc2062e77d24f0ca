-- `backup_stability_timeout_micros` meets its contract: the refusal of every look at the member, the timeout, or nothing.
use Rattle.srt_group_looks.specs.Laws.Member.{timeout_refused, timeout_shown}
use Rattle.srt_group_looks.proofs.member.backup_stability_timeout_micros.Goals as goal

pub returns-in_err-carrier : goal.returns-in_err-carrier
returns-in_err-carrier c = timeout_refused _ _ _ _ c.in_err-carrier.ensures _ c.from_residual.ensures.1

pub returns : goal.returns
returns c =
    timeout_shown c.args.id _ _ _ c.in_ok-carrier.ensures _ c.leg-leg.ensures c.has_sender.ensures c.stability_timeout.ensures _ c.then_some.ensures
