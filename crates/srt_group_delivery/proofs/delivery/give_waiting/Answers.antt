-- `give_waiting` meets its contract: none waits, or the first is given.
use Rattle.srt_group_delivery.specs.Laws.Poll.{none_waits, first_waits}
use Rattle.srt_group_delivery.proofs.delivery.give_waiting.Goals as goal

pub returns-then-waits-eq0 : goal.returns-then-waits-eq0
returns-then-waits-eq0 c = λ ms ps. none_waits _ ms ps _ c.if-waits-eq0.true

pub returns : goal.returns
returns c = λ ms ps. search first_waits
