-- `ready_members` meets its contract: written out so that a promotion in another mode is refused by the mode that differs, not by a search that ends.
use Rattle.srt_group_model.specs.Members.{promote_if_none}
use Rattle.srt_group_members.specs.Laws.Scan.{became_then}
use Rattle.srt_group_carrier.proofs.carrier.ready_members.Goals as goal

pub returns : goal.returns
returns c = became_then c.args.count (promote_if_none c.args.mode) _ _ _ c.demote_stale_backup_carrier.ensures c.promote_if_none.ensures
