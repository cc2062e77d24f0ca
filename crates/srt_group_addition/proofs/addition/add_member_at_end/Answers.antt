-- `add_member_at_end` meets its contract: the member has joined; if it was admitted it is aligned, or 22 is given and it stays.
use Rattle.srt_group_addition.specs.Laws.Addition.{adds_unaligned, adds_aligned, adds_22}
use Rattle.srt_group_addition.proofs.addition.add_member_at_end.Goals as goal
use Rattle.srt_group_addition.proofs.addition.add_member_at_end.Goals.{else-admitted_at-eq1-via-then-admitted_at-eq1+else-not-align_member_sequence, else-admitted_at-eq1-via-else-admitted_at-eq1}

pub returns-then-not-align_member_sequence : goal.returns-then-not-align_member_sequence
returns-then-not-align_member_sequence c =
    let a = c.args in
    adds_22 a.member.id a.member.weight a.member.leg a.core a.sending a.members.now _ _
    c.handed_over-leg.ensures c.join-after.ensures c.admitted_at.ensures c.if-admitted_at-eq1.true _
    (rw c.next_send_sequence.ensures at c.align_member_sequence.ensures) c.if-not-align_member_sequence.true c.refused.ensures.0 c.refused.ensures.1

pub returns : goal.returns
returns c =
    let a = c.args in
    elim c.else-admitted_at-eq1.branch [
      | else-admitted_at-eq1-via-then-admitted_at-eq1+else-not-align_member_sequence w ↦
          rw w.members-is
          (adds_aligned a.member.id a.member.weight a.member.leg a.core a.sending a.members.now _ _
          c.handed_over-leg.ensures c.join-after.ensures c.admitted_at.ensures w.if-admitted_at-eq1.true _
          (rw w.next_send_sequence.ensures at w.align_member_sequence.ensures) w.if-not-align_member_sequence.false)
      | else-admitted_at-eq1-via-else-admitted_at-eq1 w ↦
          rw w.members-is
          (adds_unaligned a.member.id a.member.weight a.member.leg a.core a.sending a.members.now _ _
          c.handed_over-leg.ensures c.join-after.ensures c.admitted_at.ensures w.if-admitted_at-eq1.false)
    ]
