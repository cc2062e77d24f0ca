-- `member` meets its contract: the refusal of every look at the member, or the member.
use Rattle.srt_group_looks.specs.Laws.Member.{member_refused, member_is_shown}
use Rattle.srt_group_looks.proofs.member.member.Goals as goal

pub returns-in_err-row : goal.returns-in_err-row
returns-in_err-row c = member_refused _ _ _ _ c.in_err-row.ensures _ c.from_residual.ensures.1

pub returns : goal.returns
returns c = member_is_shown c.args.id _ _ _ c.in_ok-row.ensures _ c.shown.ensures
