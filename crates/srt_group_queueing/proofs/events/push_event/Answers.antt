-- `push_event` meets its contract: 2, 3, and then 31 or the event is queued.
use mathlib.Core.Path.{ap, refl, sym, ◌∙◌}
use Rattle.srt_group_model.specs.Members.{find}
use Rattle.srt_group_shown.specs.Tables.{parts, tables}
use Rattle.srt_group_shown.specs.Laws.Found.{row_there}
use Rattle.srt_group_queueing.specs.Laws.OneMember.{unfit_refused, unknown_refused}
use Rattle.srt_group_queueing.specs.Laws.Events.{event_call, event_pushed}
use Rattle.srt_group_queueing.proofs.events.push_event.Goals as goal

pub returns-then-event_unfit : goal.returns-then-event_unfit
returns-then-event_unfit c =
    let a = c.args in
    record {
      over =
          λ identity sending ring pending waiting history sources unbroken.
          unfit_refused (event_call a.id a.kind a.reason) (parts identity a.core sending ring) (tables a.members.now pending waiting history sources) unbroken
          (sym c.event_unfit.ensures ∙ c.if-event_unfit.true);
    }

pub returns-in_default : goal.returns-in_default
returns-in_default c =
    let a = c.args in
    record {
      over =
          λ identity sending ring pending waiting history sources unbroken.
          unknown_refused (event_call a.id a.kind a.reason) (parts identity a.core sending ring) (tables a.members.now pending waiting history sources) unbroken
          (sym c.event_unfit.ensures ∙ c.if-event_unfit.false) _ (sym c.in_default.is ∙ c.find.ensures ∙ ap (find c.args.id) c.rows.ensures.shows) refl refl;
    }

pub push_at-requires : goal.push_at-requires
push_at-requires c =
    row_there c.args.core.counts.members c.args.id _ c.args.members.now c.requires (sym c.in-Some.is ∙ c.find.ensures ∙ ap (find c.args.id) c.rows.ensures.shows)

pub returns : goal.returns
returns c =
    let a = c.args in
    record {
      over =
          λ identity sending ring pending waiting history sources unbroken.
          event_pushed a.id a.kind a.reason (parts identity a.core sending ring) (tables a.members.now pending waiting history sources) unbroken
          (sym c.event_unfit.ensures ∙ c.if-event_unfit.false) _ (sym c.in-Some.is ∙ c.find.ensures ∙ ap (find c.args.id) c.rows.ensures.shows)
          _ _ _ c.lifecycle_event.ensures c.push_at.ensures;
    }
