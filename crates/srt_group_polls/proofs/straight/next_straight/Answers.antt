-- `next_straight` meets its contract: where every test was passed, the packet can be given straight.
use Rattle.std.proofs.Common.{◌∙◌, ap}
use native.Mathlib.Omega.{arith}
use Rattle.srt_group_model.specs.Tools.{at_place}
use Rattle.srt_group_model.specs.State.{Member}
use Rattle.srt_group_model.specs.Members.{id_of}
use Rattle.srt_group_model.specs.Collecting.{in_turn}
use Rattle.srt_group_polls.specs.Laws.StraightPolls.{all_passed}
use Rattle.srt_group_polls.proofs.straight.next_straight.Goals as goal

pub returns : goal.returns
returns c =
    let here = c.row-row.ensures in
    all_passed c.args.core _ _ _ c.in_ok-index.was (c.in_turn.ensures ∙ ap (in_turn c.args.core.visit.round) c.rows.ensures.shows) _ _ c.requires.known
    c.if-not-quiet.false (omega (arith, c.if-core-gt0.false)) c.in_ok-base.was c.base.ensures
    c.in_ok-event.was (c.front.ensures ∙ ap (λ (m : Member). at_place 0 m.queue) here) c.if-not-is_alone_at.false c.is_alone_at.ensures
    c.if-is_held.false c.is_held.ensures (c.member_id.ensures ∙ ap id_of here)
