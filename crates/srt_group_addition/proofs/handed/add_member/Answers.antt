-- `add_member` meets its contract: what follows 5 and 6, in a state that is ready.
use Rattle.srt_group_shown.specs.Laws.Steps.{unbroken_of, nothing_delivered, performs_keeping}
use Rattle.srt_group_addition.proofs.handed.add_member.Goals as goal

pub returns : goal.returns
returns c =
    let ready = c.requires.ready in
    performs_keeping ready nothing_delivered (c.add_leg.ensures.over _ _ _ _ _ _ (unbroken_of ready))
