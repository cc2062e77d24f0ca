-- `put_reading` meets its contract: 2, 3, 32, or the reading is put into the leg.
use mathlib.Core.Path.{ap, refl, sym, ◌∙◌}
use Rattle.srt_group_model.specs.Members.{find}
use Rattle.srt_group_shown.specs.Tables.{parts, tables}
use Rattle.srt_group_shown.specs.Laws.Found.{row_there}
use Rattle.srt_group_queueing.specs.Laws.OneMember.{unfit_refused, unknown_refused}
use Rattle.srt_group_queueing.specs.Laws.Readings.{reading_call, reading_refused, reading_put}
use Rattle.srt_group_queueing.proofs.readings.put_reading.Goals as goal

pub returns-then-reading_unfit : goal.returns-then-reading_unfit
returns-then-reading_unfit c =
    let a = c.args in
    record {
      over =
          λ identity sending ring pending waiting history sources unbroken.
          unfit_refused (reading_call a.id a.field a.number) (parts identity a.core sending ring) (tables a.members.now pending waiting history sources) unbroken
          (sym c.reading_unfit.ensures ∙ c.if-reading_unfit.true);
    }

pub returns-in_default : goal.returns-in_default
returns-in_default c =
    let a = c.args in
    record {
      over =
          λ identity sending ring pending waiting history sources unbroken.
          unknown_refused (reading_call a.id a.field a.number) (parts identity a.core sending ring) (tables a.members.now pending waiting history sources) unbroken
          (sym c.reading_unfit.ensures ∙ c.if-reading_unfit.false) _ (sym c.in_default.is ∙ c.find.ensures ∙ ap (find c.args.id) c.rows.ensures.shows) refl refl;
    }

pub leg_at-leg-requires : goal.leg_at-leg-requires
leg_at-leg-requires c =
    row_there c.args.core.counts.members c.args.id _ c.args.members.now c.requires (sym c.in-Some.is ∙ c.find.ensures ∙ ap (find c.args.id) c.rows.ensures.shows)

pub returns-then-goes_back : goal.returns-then-goes_back
returns-then-goes_back c =
    let a = c.args in
    record {
      over =
          λ identity sending ring pending waiting history sources unbroken.
          reading_refused a.id a.field a.number (parts identity a.core sending ring) (tables a.members.now pending waiting history sources) unbroken
          (sym c.reading_unfit.ensures ∙ c.if-reading_unfit.false) _ (sym c.in-Some.is ∙ c.find.ensures ∙ ap (find c.args.id) c.rows.ensures.shows)
          _ c.leg_at-leg.ensures _ c.goes_back.ensures c.if-goes_back.true;
    }

pub put_leg_at-requires : goal.put_leg_at-requires
put_leg_at-requires c =
    row_there c.args.core.counts.members c.args.id _ c.args.members.now c.requires (sym c.in-Some.is ∙ c.find.ensures ∙ ap (find c.args.id) c.rows.ensures.shows)

pub returns : goal.returns
returns c =
    let a = c.args in
    record {
      over =
          λ identity sending ring pending waiting history sources unbroken.
          reading_put a.id a.field a.number (parts identity a.core sending ring) (tables a.members.now pending waiting history sources) unbroken
          (sym c.reading_unfit.ensures ∙ c.if-reading_unfit.false) _ (sym c.in-Some.is ∙ c.find.ensures ∙ ap (find c.args.id) c.rows.ensures.shows)
          _ c.leg_at-leg.ensures _ c.goes_back.ensures c.if-goes_back.false _ _ c.read_field.ensures c.put_leg_at.ensures;
    }
