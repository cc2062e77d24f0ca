-- `set_base` meets its contract: the base was set, none is given, or it is set now.
use Rattle.srt_group_delivery.specs.Laws.Poll.{base_was_set, base_not_given, base_given}
use Rattle.srt_group_delivery.proofs.delivery.set_base.Goals as goal

pub returns-then-is_some : goal.returns-then-is_some
returns-then-is_some c = base_was_set _ c.base.ensures c.is_some.ensures _ c.if-is_some.true

pub returns-in_default : goal.returns-in_default
returns-in_default c = base_not_given _ c.base.ensures c.is_some.ensures c.if-is_some.false c.in_default.is

pub returns : goal.returns
returns c = base_given _ c.base.ensures c.is_some.ensures _ c.if-is_some.false c.in-Some.is c.set_base.ensures
