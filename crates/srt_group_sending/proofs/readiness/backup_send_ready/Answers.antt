-- `backup_send_ready` meets its contract: one law for each answer.
use mathlib.Core.Path.{sym, ◌∙◌}
use native.Mathlib.Omega.{arith}
use Rattle.srt_group_model.specs.Members.{is_active}
use Rattle.srt_group_sending.specs.Laws.Rows.{row_found, row_promoted}
use Rattle.srt_group_sending.specs.Laws.BackupReadiness.{no_active_not_ready, first_decides, nobody_to_promote, promoted_decides}
use Rattle.srt_group_sending.proofs.readiness.backup_send_ready.Goals as goal

pub returns-in_default : goal.returns-in_default
returns-in_default c = no_active_not_ready _ _ _ _ _ (sym c.in_default.is ∙ c.first_active-found.ensures)

pub bounds-rows-index : goal.bounds-rows-index
bounds-rows-index c = row_found is_active _ _ (sym c.in-Some.is ∙ c.first_active-found.ensures)

pub offset_bounds-rows-index : goal.offset_bounds-rows-index
offset_bounds-rows-index c = omega (arith, row_found is_active _ _ (sym c.in-Some.is ∙ c.first_active-found.ensures))

pub returns-then-can_send : goal.returns-then-can_send
returns-then-can_send c =
    first_decides _ _ _ _ _ _ (sym c.in-Some.is ∙ c.first_active-found.ensures) c.leg.ensures c.can_send.ensures c.if-can_send.true
    c.backup_member_ready.ensures

pub returns-in_default-standby : goal.returns-in_default-standby
returns-in_default-standby c =
    nobody_to_promote _ _ _ _ _ _ (sym c.in-Some.is ∙ c.first_active-found.ensures) c.leg.ensures c.can_send.ensures c.if-can_send.false
    (sym c.in_default-standby.is ∙ c.promotion-standby.ensures)

pub bounds-rows-promoted : goal.bounds-rows-promoted
bounds-rows-promoted c = row_promoted _ _ (sym c.in-Some-standby.is ∙ c.promotion-standby.ensures)

pub offset_bounds-rows-promoted : goal.offset_bounds-rows-promoted
offset_bounds-rows-promoted c = omega (arith, row_promoted _ _ (sym c.in-Some-standby.is ∙ c.promotion-standby.ensures))

pub returns : goal.returns
returns c =
    promoted_decides _ _ _ _ _ _ (sym c.in-Some.is ∙ c.first_active-found.ensures) c.leg.ensures c.can_send.ensures _ c.if-can_send.false
    (sym c.in-Some-standby.is ∙ c.promotion-standby.ensures) c.backup_member_ready-2.ensures
