-- `promote_after_failure` meets its contract: written out so that another leg marked, or fewer asked, is refused by the place or the count
-- that differs, not by a search that ends.
use Rattle.srt_group_model.specs.Members.{promote_backup_member}
use Rattle.srt_group_members.specs.Laws.Scan.{became_changed, became_then}
use Rattle.srt_group_carrier.proofs.carrier.promote_after_failure.Goals as goal

pub returns : goal.returns
returns c =
    became_then c.args.count promote_backup_member _ _ _ (became_changed c.args.count c.args.index _ _ c.mark_send_failure_at.ensures)
    c.promote_backup_member.ensures
