-- `refresh_member_states` meets its contract: what follows 5 and 6, in a state that is ready.
use Rattle.srt_group_shown.specs.Laws.Steps.{rows_there, unbroken_of, nothing_delivered, performs_keeping}
use Rattle.srt_group_member_states.specs.Laws.States.{refreshed}
use Rattle.srt_group_member_states.proofs.forms.refresh_member_states.Goals as goal

pub refresh_states-requires : goal.refresh_states-requires
refresh_states-requires c = rows_there c.requires

pub returns : goal.returns
returns c = performs_keeping c.requires nothing_delivered (refreshed _ _ (unbroken_of c.requires) _ _ c.refresh_states.ensures)
