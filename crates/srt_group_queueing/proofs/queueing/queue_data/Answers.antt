-- `queue_data` meets its contract: 2, 3, 4, 30, and then 31 or the packet is queued.
use mathlib.Core.Path.{ap, refl, sym, subst, ◌∙◌}
use Prim.Native.Nat.{ℕ}
use Rattle.cell_set.specs.Sets.{LowestFree}
use Rattle.srt_group_model.specs.Members.{find}
use Rattle.std.proofs.lemmas.Result.{err_from_is_err_and}
use Rattle.srt_group_shown.specs.Laws.Steps.{rows_there}
use Rattle.srt_group_queueing.specs.Laws.OneMember.{was_there}
use Rattle.srt_group_queueing.specs.Laws.Queueing.{data_refused, unknown_refused, long_refused, full_refused, enqueueable, performed}
use Rattle.srt_group_queueing.proofs.queueing.queue_data.Goals as goal

pub returns-then-data_unfit : goal.returns-then-data_unfit
returns-then-data_unfit c =
    data_refused _ _ _ _ _ _ _ c.requires (sym c.data_unfit.ensures ∙ c.if-data_unfit.true)

pub rows-requires : goal.rows-requires
rows-requires c = rows_there c.requires

pub returns-in_default : goal.returns-in_default
returns-in_default c =
    unknown_refused _ _ _ _ _ _ _ c.requires (sym c.data_unfit.ensures ∙ c.if-data_unfit.false) _ (sym c.in_default.is ∙ c.find.ensures ∙ ap (find c.args.id) c.rows.ensures.shows) refl refl

pub returns-then-payload-gt-CELL : goal.returns-then-payload-gt-CELL
returns-then-payload-gt-CELL c =
    long_refused _ _ _ _ _ _ _ c.requires (sym c.data_unfit.ensures ∙ c.if-data_unfit.false) _ (sym c.in-Some.is ∙ c.find.ensures ∙ ap (find c.args.id) c.rows.ensures.shows) c.if-payload-gt-CELL.true

pub returns-in_err-cell : goal.returns-in_err-cell
returns-in_err-cell c =
    let p = err_from_is_err_and c.from_residual.result c.from_residual.ensures.1 in
    rw (p.1, p.2) (
    full_refused _ _ _ _ _ _ _ c.requires (sym c.data_unfit.ensures ∙ c.if-data_unfit.false) _ (sym c.in-Some.is ∙ c.find.ensures ∙ ap (find c.args.id) c.rows.ensures.shows) c.if-payload-gt-CELL.false
    _ (subst (λ (n : ℕ). LowestFree c.args.used.now n c.lowest_free.result) c.cells_of.ensures c.lowest_free.ensures) c.ok_or.ensures.value c.in_err-cell.was)

pub enqueue-requires : goal.enqueue-requires
enqueue-requires c =
    enqueueable _ _ c.args.payload.now _ _ c.args.store.now _ c.requires (sym c.data_unfit.ensures ∙ c.if-data_unfit.false) _ (sym c.in-Some.is ∙ c.find.ensures ∙ ap (find c.args.id) c.rows.ensures.shows) c.if-payload-gt-CELL.false
    _ (subst (λ (n : ℕ). LowestFree c.args.used.now n c.lowest_free.result) c.cells_of.ensures c.lowest_free.ensures) (sym (was_there _ _ c.ok_or.ensures.value c.in_ok-cell.was))

pub returns : goal.returns
returns c =
    performed _ _ _ _ _ _ _ c.requires (sym c.data_unfit.ensures ∙ c.if-data_unfit.false) _ (sym c.in-Some.is ∙ c.find.ensures ∙ ap (find c.args.id) c.rows.ensures.shows) c.if-payload-gt-CELL.false
    _ (subst (λ (n : ℕ). LowestFree c.args.used.now n c.lowest_free.result) c.cells_of.ensures c.lowest_free.ensures) (sym (was_there _ _ c.ok_or.ensures.value c.in_ok-cell.was)) _ _ _ _ c.enqueue.ensures
