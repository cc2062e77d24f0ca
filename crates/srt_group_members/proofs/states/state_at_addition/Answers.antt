-- `state_at_addition` meets its contract: its last answer is written out so that another state is refused by the number that differs,
-- not by a search that ends.
use Rattle.srt_group_members.specs.Laws.Refresh.{added_pending}
use Rattle.srt_group_members.proofs.states.state_at_addition.Goals as goal

pub returns : goal.returns
returns c = added_pending _ _ _ c.is_connected.ensures c.is_backup.ensures c.if-is_connected.false c.if-is_backup.false
