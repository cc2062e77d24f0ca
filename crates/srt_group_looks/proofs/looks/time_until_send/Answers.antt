-- `time_until_send` meets its contract: 5, 6, or the least wait.
use Rattle.std.proofs.Common.{◌∙◌, ap}
use Rattle.srt_group_model.specs.Backup.{group_time_until_send}
use native.Mathlib.Omega.{arith}
use Rattle.srt_group_shown.specs.Laws.Steps.{rows_unbroken}
use Rattle.srt_group_refusals.specs.Laws.Begins.{begun_unbroken}
use Rattle.srt_group_looks.specs.Laws.Looks.{gives_refusal, time_shown}
use Rattle.srt_group_looks.proofs.looks.time_until_send.Goals as goal

pub returns-in_err-begin : goal.returns-in_err-begin
returns-in_err-begin c = gives_refusal _ _ _ _ c.begin.ensures _ c.in_err-begin.was _ c.from_residual.ensures.1

pub rows-rows-requires : goal.rows-rows-requires
rows-rows-requires c = rows_unbroken (begun_unbroken _ _ c.begin.ensures c.in_ok-begin.was)

pub returns : goal.returns
returns c =
    let a = c.args in
    time_shown _ _ c.begin.ensures c.in_ok-begin.was a.time.0 (omega (arith, c.well_formed.1)) _
    (c.group_time_until_send.ensures ∙ ap (group_time_until_send a.time.0) c.rows-rows.ensures.shows)
