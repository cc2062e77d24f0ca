-- `member_row` meets its contract: 5, 6, 2, 3, or the row.
use Rattle.std.proofs.lemmas.Result.{err_from_is_err_and}
use Rattle.std.proofs.lemmas.Iterator.{YieldsList-from_slice}
use Rattle.std.proofs.Common.{rules, ap, ◌∙◌}
use Rattle.std.proofs.Math.Path.{sym}
use Rattle.std.specs.Option.{ok_or}
use Rattle.srt_protocol.specs.declared.error.Error.TheVariants.{UnknownMember}
use borrow.Author.Tests.{le-ltb}
use Rattle.srt_group_model.specs.Tools.{first_such}
use Rattle.srt_group_model.specs.Members.{has_id}
use Rattle.srt_group_members.specs.Laws.Scan.{found_in}
use Rattle.srt_group_shown.specs.Laws.Steps.{rows_unbroken}
use Rattle.srt_group_refusals.specs.Laws.Begins.{begun_unbroken}
use Rattle.srt_group_looks.specs.Laws.Member.{begin_refuses, row_or_refused}
use Rattle.srt_group_looks.proofs.member.member_row.Goals as goal

pub returns-in_err-begin : goal.returns-in_err-begin
returns-in_err-begin c =
    let p = err_from_is_err_and c.from_residual.result c.from_residual.ensures.1 in
    rw (p.1, p.2) (begin_refuses _ _ _ c.begin.ensures _ c.in_err-begin.was)

pub rows-rows-requires : goal.rows-rows-requires
rows-rows-requires c = rows_unbroken (begun_unbroken _ _ c.begin.ensures c.in_ok-begin.was)

pub returns-in_default : goal.returns-in_default
returns-in_default c =
    let found =
    found_in (has_id c.args.id) _ _ _ c.find.ensures.ran (YieldsList-from_slice c.rows-rows.result.now cc) (λ x b q h. search rules)
    ∙ ap (first_such (has_id c.args.id)) c.rows-rows.ensures.shows in
    row_or_refused _ _ _ c.begin.ensures c.in_ok-begin.was (le-ltb _ _ c.if-id-gt-LARGEST_32.false) _ found (ap (λ o. ok_or o UnknownMember) (sym c.in_default.is))

pub returns : goal.returns
returns c =
    let found =
    found_in (has_id c.args.id) _ _ _ c.find.ensures.ran (YieldsList-from_slice c.rows-rows.result.now cc) (λ x b q h. search rules)
    ∙ ap (first_such (has_id c.args.id)) c.rows-rows.ensures.shows in
    row_or_refused _ _ _ c.begin.ensures c.in_ok-begin.was (le-ltb _ _ c.if-id-gt-LARGEST_32.false) _ found (ap (λ o. ok_or o UnknownMember) (sym c.in-Some.is))
