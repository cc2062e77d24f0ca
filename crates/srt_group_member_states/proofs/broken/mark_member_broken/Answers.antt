-- `mark_member_broken` meets its contract: what follows 5 and 6, in a state that is ready.
use Rattle.srt_group_shown.specs.Laws.Steps.{rows_there, unbroken_of, nothing_delivered, performs_keeping}
use Rattle.srt_group_member_states.proofs.broken.mark_member_broken.Goals as goal

pub turn_broken-requires : goal.turn_broken-requires
turn_broken-requires c = rows_there c.requires

pub returns : goal.returns
returns c = performs_keeping c.requires nothing_delivered (c.turn_broken.ensures.over _ _ _ _ _ _ _ (unbroken_of c.requires))
