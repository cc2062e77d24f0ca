-- `members` meets its contract: 5 for the list, 5, 6, or the rows.
use Rattle.std.proofs.lemmas.Result.{err_from_is_err_and}
use Rattle.std.proofs.Common.{arith}
use borrow.Author.Tests.{le-ltb}
use Rattle.srt_group_shown.specs.Laws.Steps.{rows_unbroken}
use Rattle.srt_group_refusals.specs.Laws.Begins.{begun_unbroken}
use Rattle.srt_group_looks.specs.Laws.Members.{listing_refused, members_listed, room_there}
use Rattle.srt_group_looks.proofs.members.members.Goals as goal

pub returns-in_err-begin : goal.returns-in_err-begin
returns-in_err-begin c =
    let a = c.args in
    let p = err_from_is_err_and c.from_residual.result c.from_residual.ensures.1 in
    rw (p.1, p.2) (listing_refused _ _ a.list.now (le-ltb _ _ c.if-list-lt-LIST_LENGTH.false) c.begin.ensures _ c.in_err-begin.was)

pub rows-requires : goal.rows-requires
rows-requires c = rows_unbroken (begun_unbroken _ _ c.begin.ensures c.in_ok-begin.was)

pub list_members-requires : goal.list_members-requires
list_members-requires c =
    let room = room_there _ _ (begun_unbroken _ _ c.begin.ensures c.in_ok-begin.was) c.args.list.now c.if-list-lt-LIST_LENGTH.false in
    omega (arith, room, c.rows.ensures.long)

pub returns : goal.returns
returns c =
    members_listed _ _ c.args.list.now (le-ltb _ _ c.if-list-lt-LIST_LENGTH.false) c.begin.ensures c.in_ok-begin.was _
    (rw c.rows.ensures.shows at c.list_members.ensures)
