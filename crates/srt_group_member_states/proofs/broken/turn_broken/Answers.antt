-- `turn_broken` meets its contract: 2, 3, or the member turns Broken.
use mathlib.Core.Path.{ap, refl, sym, ◌∙◌}
use borrow.Author.Tests.{lt-ltb, le-ltb}
use Rattle.srt_group_model.specs.Members.{find}
use Rattle.srt_group_shown.specs.Tables.{parts, tables}
use Rattle.srt_group_shown.specs.Laws.Found.{row_there}
use Rattle.srt_group_queueing.specs.Laws.OneMember.{unfit_refused, unknown_refused, member_changed}
use Rattle.srt_group_member_states.specs.Laws.Broken.{broken_call}
use Rattle.srt_group_member_states.proofs.broken.turn_broken.Goals as goal

pub returns-then-id-gt-LARGEST_32 : goal.returns-then-id-gt-LARGEST_32
returns-then-id-gt-LARGEST_32 c =
    let a = c.args in
    record {
      over =
          λ identity sending ring pending waiting history sources unbroken.
          unfit_refused (broken_call a.id) (parts identity a.core sending ring) (tables a.members.now pending waiting history sources) unbroken (lt-ltb _ _ c.if-id-gt-LARGEST_32.true);
    }

pub returns-in_default : goal.returns-in_default
returns-in_default c =
    let a = c.args in
    record {
      over =
          λ identity sending ring pending waiting history sources unbroken.
          unknown_refused (broken_call a.id) (parts identity a.core sending ring) (tables a.members.now pending waiting history sources) unbroken (le-ltb _ _ c.if-id-gt-LARGEST_32.false)
          _ (sym c.in_default.is ∙ c.find.ensures ∙ ap (find c.args.id) c.rows.ensures.shows) refl refl;
    }

pub turn_at-requires : goal.turn_at-requires
turn_at-requires c =
    let a = c.args in
    row_there a.core.counts.members a.id _ a.members.now c.requires (sym c.in-Some.is ∙ c.find.ensures ∙ ap (find c.args.id) c.rows.ensures.shows)

pub returns : goal.returns
returns c =
    let a = c.args in
    record {
      over =
          λ identity sending ring pending waiting history sources unbroken.
          member_changed (broken_call a.id) (parts identity a.core sending ring) (tables a.members.now pending waiting history sources) unbroken (le-ltb _ _ c.if-id-gt-LARGEST_32.false) _
          (sym c.in-Some.is ∙ c.find.ensures ∙ ap (find c.args.id) c.rows.ensures.shows) _ refl c.turn_at.ensures;
    }
