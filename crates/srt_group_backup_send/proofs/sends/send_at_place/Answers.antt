-- `send_at_place` meets its contract: 25, or the payload is sent and kept, or another member is tried.
use mathlib.Core.Path.{ap, ◌∙◌}
use native.Mathlib.Omega.{arith}
use Rattle.srt_group_sending.specs.Broadcast.{number_for_send}
use Rattle.srt_group_carrier.specs.Laws.Flows.{sent_as, own_sent, own_failed, promoted_whoever}
use Rattle.srt_group_backup_send.specs.Laws.BackupSend.{place_mismatched, place_flows}
use Rattle.srt_group_backup_send.proofs.sends.send_at_place.Goals as goal

pub returns-then-sender-sequence : goal.returns-then-sender-sequence
returns-then-sender-sequence c =
    place_mismatched _ _ _ _ _ _ _ _ _ c.requires.sendable.below (c.sequence_for_send-sequence.ensures ∙ ap (number_for_send c.args.send.sending) c.row.ensures) c.sender_at-sender.ensures c.if-sender-sequence.true c.requires.sendable.lent (omega (arith, c.requires.sent_bound.0))

pub returns-then-send_on : goal.returns-then-send_on
returns-then-send_on c =
    place_flows _ _ _ _ _ _ _ _ _ c.requires.sendable.below (c.sequence_for_send-sequence.ensures ∙ ap (number_for_send c.args.send.sending) c.row.ensures) c.sender_at-sender.ensures c.if-sender-sequence.false
    (own_sent _ _ _ _ _ _ _ _ _ _ _ _ c.requires.sendable.below (sent_as c.if-send_on.true c.send_on.ensures) _ c.requires.sendable.lent.arrays_long (omega (arith, c.requires.sent_bound.0)) c.keep_sent.ensures)

pub returns : goal.returns
returns c =
    place_flows _ _ _ _ _ _ _ _ _ c.requires.sendable.below (c.sequence_for_send-sequence.ensures ∙ ap (number_for_send c.args.send.sending) c.row.ensures) c.sender_at-sender.ensures c.if-sender-sequence.false
    (own_failed _ _ _ _ _ _ _ _ _ _ _ _ c.requires.sendable.below (sent_as c.if-send_on.false c.send_on.ensures) _ c.requires.sendable.lent.list_long (omega (arith, c.requires.sent_bound.0))
    (promoted_whoever _ _ _ _ _ _ _ _ c.send_after_promotion.ensures))
