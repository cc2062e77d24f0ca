-- `send_on_promoted` meets its contract: what the take-over gives if it is refused, 29, or the payload is kept.
use mathlib.Core.Path.{sym, ◌∙◌}
use native.Mathlib.Omega.{arith}
use Rattle.srt_protocol.specs.declared.error.Error.TheVariants.{PromotionSendFailed}
use Rattle.srt_group_carrier.specs.Laws.Flows.{accepted, flows_stopped, flows_then, sent_as, own_sent, own_refused, lendable_taken}
use Rattle.srt_group_carrier.proofs.promotion.send_on_promoted.Goals as goal

pub returns-then-is_err : goal.returns-then-is_err
returns-then-is_err c =
    flows_stopped _ _ _ _ _ _ _ _ _ _ (omega (arith, c.requires.sent_bound.0)) c.requires.sendable.lent.arrays_long c.take_over-taken.ensures.took_over c.take_over-taken.ensures.trim_follows _ (sym c.is_err.ensures.value ∙ c.if-is_err.true)

pub returns-then-not-send_on : goal.returns-then-not-send_on
returns-then-not-send_on c =
    let took = c.take_over-taken.ensures.took_over in
    let few = c.requires.sent_bound.0 in
    let lent = lendable_taken (omega (arith, few)) c.requires.sendable.lent took c.take_over-taken.ensures.trim_follows in
    flows_then _ _ _ _ _ _ _ _ _ _ (omega (arith, few)) c.requires.sendable.lent.arrays_long took c.take_over-taken.ensures.trim_follows _ (accepted _ (sym c.is_err.ensures.value ∙ c.if-is_err.false)) c.requires.sendable.lent.list_long
    (own_refused _ _ _ _ _ _ _ _ _ _ _ _ c.requires.sendable.below (sent_as c.if-not-send_on.true c.send_on.ensures) PromotionSendFailed lent (omega (arith, few, took.few)))

pub returns : goal.returns
returns c =
    let took = c.take_over-taken.ensures.took_over in
    let few = c.requires.sent_bound.0 in
    flows_then _ _ _ _ _ _ _ _ _ _ (omega (arith, few)) c.requires.sendable.lent.arrays_long took c.take_over-taken.ensures.trim_follows _ (accepted _ (sym c.is_err.ensures.value ∙ c.if-is_err.false)) c.requires.sendable.lent.list_long
    (own_sent _ _ _ _ _ _ _ _ _ _ _ _ c.requires.sendable.below (sent_as c.if-not-send_on.false c.send_on.ensures) _ c.requires.sendable.lent.arrays_long (omega (arith, few, took.few)) c.keep_sent.ensures)
