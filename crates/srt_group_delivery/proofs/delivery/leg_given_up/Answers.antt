-- `leg_given_up` meets its contract: the leg's deadline, if it has one, is compared.
use Rattle.std.proofs.Common.{rules}
use Rattle.srt_group_delivery.specs.Laws.Delivery.{given_up_after}
use Rattle.srt_group_delivery.proofs.delivery.leg_given_up.Goals as goal

pub returns : goal.returns
returns c = given_up_after _ _ _ c.gives_up_at.ensures (search rules)
