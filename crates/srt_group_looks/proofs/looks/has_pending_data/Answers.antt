-- `has_pending_data` meets its contract: 5, 6, or the test.
use Rattle.srt_group_shown.specs.Tables.{receive_tables, rest_of}
use Rattle.srt_group.specs.Made.{parts_of}
use Rattle.srt_group_refusals.specs.LentGroup.{tables_of}
use Rattle.srt_group_looks.specs.Laws.Looks.{gives_refusal, pending_data_shown}
use Rattle.srt_group_looks.proofs.looks.has_pending_data.Goals as goal

pub returns-in_err-begin : goal.returns-in_err-begin
returns-in_err-begin c = gives_refusal _ _ _ _ c.begin.ensures _ c.in_err-begin.was _ c.from_residual.ensures.1

pub returns : goal.returns
returns c =
    let l = c.args.lent.now in
    pending_data_shown _ _ c.begin.ensures c.in_ok-begin.was _
    (c.has_pending_data.ensures.is (rest_of (parts_of l.group) (tables_of l)) (receive_tables l.members.now l.pending.now l.waiting.now))
