-- `admit_peer_group` meets its contract.
use Rattle.std.proofs.Common.{◌∙◌, ap}
use Rattle.srt_group_model.specs.State.{Member}
use Rattle.srt_group_model.specs.Members.{arrives}
use Rattle.srt_group_members.specs.Laws.Admission.{admitted_not_arriving, admitted_arriving}
use Rattle.srt_group_members.proofs.admission.admit_peer_group.Goals as goal

pub returns-then-not-arrives : goal.returns-then-not-arrives
returns-then-not-arrives c = admitted_not_arriving _ _ _ (c.arrives.ensures ∙ ap arrives c.row-row.ensures) c.if-not-arrives.true

pub returns : goal.returns
returns c =
    admitted_arriving _ _ _
    (c.arrives.ensures ∙ ap arrives c.row-row.ensures) _
    c.if-not-arrives.false
    (c.leg-leg.ensures ∙ ap (λ (m : Member). m.leg) c.row-row.ensures)
    c.answered-after.ensures
    (c.membership.ensures ∙ ap (λ (m : Member). m.membership) c.row-row.ensures)
    c.membership_after-membership.ensures c.put_membership_at.ensures
