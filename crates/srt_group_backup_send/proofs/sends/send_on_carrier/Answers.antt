-- `send_on_carrier` meets its contract: what the take-over gives if it is refused, or the send.
use mathlib.Core.Path.{sym, ◌∙◌}
use native.Mathlib.Omega.{arith}
use Rattle.srt_group_carrier.specs.Laws.Prepared.{taken_fit}
use Rattle.srt_group_carrier.specs.Laws.Flows.{accepted, flows_stopped, flows_then}
use Rattle.srt_group_backup_send.specs.Laws.BackupSend.{number_fits}
use Rattle.srt_group_backup_send.proofs.sends.send_on_carrier.Goals as goal

pub returns-then-is_err : goal.returns-then-is_err
returns-then-is_err c =
    flows_stopped _ _ _ _ _ _ _ _ _ _ (omega arith) c.requires.sendable.lent.arrays_long c.take_over-taken.ensures.took_over c.take_over-taken.ensures.trim_follows _ (sym c.is_err.ensures.value ∙ c.if-is_err.true)

pub send_at_place-requires-clause-sent_bound : goal.send_at_place-requires-clause-sent_bound
send_at_place-requires-clause-sent_bound c =
    let took = c.take_over-taken.ensures.took_over in
    let fit = taken_fit _ _ took (omega (arith, c.well_formed)) c.requires.numbers_fit in (omega (arith, took.few), record { sequence_fits = number_fits _ _ _ _ c.requires.sendable.below fit; cell_fits = c.requires.cell_lt_cells_in_word.0; length_fits = c.requires.cell_lt_cells_in_word.1 })

pub returns : goal.returns
returns c =
    flows_then _ _ _ _ _ _ _ _ _ _ (omega arith) c.requires.sendable.lent.arrays_long c.take_over-taken.ensures.took_over c.take_over-taken.ensures.trim_follows _ (accepted _ (sym c.is_err.ensures.value ∙ c.if-is_err.false)) c.requires.sendable.lent.list_long
    c.send_at_place.ensures
