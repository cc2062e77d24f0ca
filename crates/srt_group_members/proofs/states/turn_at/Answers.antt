-- `turn_at` meets its contract: the membership that is put has the state (`membership_changed`).
use mathlib.Core.Path.{ap}
use Rattle.srt_connection_members.specs.Laws.Members.{membership_changed}
use Rattle.srt_group_model.specs.State.{with_state}
use Rattle.srt_group_members.proofs.states.turn_at.Goals as goal

pub returns : goal.returns
returns c =
    membership_changed (with_state c.args.state)
    c.put_membership_at.ensures (ap
    (with_state c.args.state)
    c.membership_at-membership.ensures)
