-- `add_row` meets its contract: what refuses the leg.
use Rattle.srt_connection_queue.specs.Rows.{member_of}
use Rattle.srt_group_addition.specs.Laws.Handed.{leg_refused}
use Rattle.srt_group_addition.proofs.handed.add_row.Goals as goal

pub returns-in-Err : goal.returns-in-Err
returns-in-Err c =
    let a = c.args in
    leg_refused a.id a.weight (member_of a.row.now) a.core a.sending a.members.now c.leg-leg.ensures c.refusal.ensures _ c.in-Err.is c.refused.ensures.0 c.refused.ensures.1
