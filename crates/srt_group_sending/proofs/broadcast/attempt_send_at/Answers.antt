-- `attempt_send_at` meets its contract: one law for each way out.
use mathlib.Core.Path.{ap, ◌∙◌}
use Rattle.srt_group_model.specs.Members.{is_active}
use Rattle.srt_group_sending.specs.Laws.Broadcast.{not_attempted, attempt_marked, attempt_noted}
use Rattle.srt_group_sending.proofs.broadcast.attempt_send_at.Goals as goal

pub returns-then-not-is_active : goal.returns-then-not-is_active
returns-then-not-is_active c = not_attempted _ _ _ _ _ _ _ (c.is_active.ensures ∙ ap is_active c.row.ensures) c.if-not-is_active.true

pub returns-then-not-send_on : goal.returns-then-not-send_on
returns-then-not-send_on c =
    attempt_marked _ _ _ _ _ _ _ (c.is_active.ensures ∙ ap is_active c.row.ensures) c.if-not-is_active.false
    c.send_on.ensures c.if-not-send_on.true c.mark_send_failure_at.ensures

pub returns : goal.returns
returns c =
    attempt_noted _ _ _ _ _ _ _ (c.is_active.ensures ∙ ap is_active c.row.ensures) c.if-not-is_active.false
    c.send_on.ensures c.if-not-send_on.false
