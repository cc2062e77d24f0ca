-- `requalified_state` meets its contract: that a member of all is active is written out, so that a test of others is refused by the
-- equation that fails, not by a search that ends.
use Rattle.std.proofs.Common.{sym, ap₂, ◌∙◌, ◌&&◌}
use Rattle.srt_group_model.specs.Laws.Reason.{when_true}
use Rattle.srt_group_members.specs.Refresh.{requalified_state}
use Rattle.srt_group_members.proofs.states.requalified_state.Goals as goal

pub returns-then-has_active_member : goal.returns-then-has_active_member
unfolding requalified_state
returns-then-has_active_member c =
    sym
    (when_true _ _ _
    (ap₂ ◌&&◌ (sym c.is_backup.ensures ∙ c.if-is_backup.true) (sym c.has_active_member.ensures ∙ c.if-has_active_member.true)))
