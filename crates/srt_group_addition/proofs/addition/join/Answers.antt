-- `join` meets its contract: the member is appended, looked at as one that arrives, and then the base and the peer group are set.
use mathlib.Core.Path.{ap, refl, ◌∙◌}
use Rattle.srt_group_model.specs.Calls.{state_at_addition}
use Rattle.srt_group_addition.specs.Laws.Addition.{joins}
use Rattle.srt_group_addition.proofs.addition.join.Goals as goal

pub returns : goal.returns
returns c =
    let a = c.args in
    joins a.member.id a.member.weight a.member.leg a.core a.members.now
    (c.state_at_addition-state.ensures ∙ ap (state_at_addition a.core.mode a.member.leg) c.rows.ensures.shows) c.membership_at_addition.ensures _ c.append_member.ensures
    _ _ _ c.admit_peer_group-admission.ensures refl refl _ c.set_base-after.ensures
