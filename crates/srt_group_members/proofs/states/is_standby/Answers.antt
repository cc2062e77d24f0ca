-- `is_standby` meets its contract: connected, in the state Standby.
use Rattle.srt_group_model.specs.Members.{is_standby}
use Rattle.srt_group_members.proofs.states.is_standby.Goals as goal

pub returns : goal.returns
unfolding is_standby
returns c = c.is_connected_in.ensures
