-- `is_active` meets its contract: connected, in the state Active.
use Rattle.srt_group_model.specs.Members.{is_active}
use Rattle.srt_group_members.proofs.states.is_active.Goals as goal

pub returns : goal.returns
unfolding is_active
returns c = c.is_connected_in.ensures
