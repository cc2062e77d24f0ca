-- `send_broadcast` meets its contract: one law for each answer.
use mathlib.Core.Path.{ap, sym, ◌∙◌}
use mathlib.Core.List.{List}
use Rattle.srt_group_model.specs.State.{Member}
use Rattle.srt_group_model.specs.Tools.{such_that}
use Rattle.srt_group_model.specs.Sending.{sequence_mismatch}
use Rattle.srt_group_sending.specs.Broadcast.{number_for_send}
use native.Mathlib.Omega.{arith}
use Rattle.srt_group_model.specs.Members.{is_active, first_active}
use Rattle.srt_group_members.specs.Laws.Scan.{found_row}
use Rattle.srt_group_sending.specs.Laws.Broadcast.{none_active_left, mismatch_left, all_failed, sent_by_some}
use Rattle.srt_group_sending.proofs.broadcast.send_broadcast.Goals as goal

pub returns-in_default : goal.returns-in_default
returns-in_default c =
    none_active_left _ _ _ _ _ _ (cc)

pub row-requires : goal.row-requires
row-requires c =
    omega (
      arith,
      found_row is_active _ _ _ (sym c.in-Some.is ∙
          (c.first_active-found.ensures ∙ ap first_active c.rows.ensures.shows)),
    )

pub returns-then-sequence_mismatch : goal.returns-then-sequence_mismatch
returns-then-sequence_mismatch c =
    mismatch_left _ _ _ _ _ _ _ (sym c.in-Some.is ∙
    (c.first_active-found.ensures ∙ ap first_active c.rows.ensures.shows))
    (c.sequence_for_send-sequence.ensures ∙ ap (number_for_send c.args.sending) c.row.ensures) (c.sequence_mismatch.ensures ∙ ap (λ (ms : List Member). sequence_mismatch c.sequence_for_send-sequence.result (such_that is_active ms)) c.rows-2.ensures.shows) c.if-sequence_mismatch.true

pub returns-then-sent-eq0 : goal.returns-then-sent-eq0
returns-then-sent-eq0 c =
    all_failed _ _ _ _ _ _ _ (sym
    c.in-Some.is
    ∙
    (c.first_active-found.ensures ∙ ap first_active c.rows.ensures.shows))
    (c.sequence_for_send-sequence.ensures ∙ ap (number_for_send c.args.sending) c.row.ensures)
    (c.sequence_mismatch.ensures ∙ ap (λ (ms : List Member). sequence_mismatch c.sequence_for_send-sequence.result (such_that is_active ms)) c.rows-2.ensures.shows)
    c.if-sequence_mismatch.false
    c.attempt_sends-sent.ensures (omega (
      arith,
      c.attempt_sends-sent.ensures.few,
    )) c.if-sent-eq0.true

pub returns : goal.returns
returns c =
    sent_by_some _ _ _ _ _ _ _ (sym
    c.in-Some.is
    ∙
    (c.first_active-found.ensures ∙ ap first_active c.rows.ensures.shows))
    (c.sequence_for_send-sequence.ensures ∙ ap (number_for_send c.args.sending) c.row.ensures)
    (c.sequence_mismatch.ensures ∙ ap (λ (ms : List Member). sequence_mismatch c.sequence_for_send-sequence.result (such_that is_active ms)) c.rows-2.ensures.shows)
    c.if-sequence_mismatch.false
    c.attempt_sends-sent.ensures (omega (
      arith,
      c.attempt_sends-sent.ensures.few,
    )) c.if-sent-eq0.false
    c.with_number_after-numbered.ensures
