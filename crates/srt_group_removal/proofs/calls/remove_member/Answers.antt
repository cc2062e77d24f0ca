-- `remove_member` meets its contract: the leg is given back in a row of its own, and dropped.
use native.Mathlib.Omega.{arith}
use Rattle.srt_group_shown.specs.Tables.{tables}
use Rattle.srt_group.specs.Made.{parts_of}
use Rattle.srt_group_removal.specs.Laws.Calls.{leg_dropped}
use Rattle.srt_group_removal.proofs.calls.remove_member.Goals as goal

pub returns : goal.returns
returns c =
    let a = c.args in
    leg_dropped a.id (parts_of a.group)
    (tables a.members.now a.pending.now a.waiting.now a.history.now a.sources.now) _ _ _ _ c.remove_member_connection.result.answer (omega arith)
    c.remove_member_connection.ensures.promised_row
