-- `arrives` meets its contract: written out so that another test is refused by the equation that fails, not by a search that ends.
use Rattle.std.proofs.Common.{refl}
use Rattle.srt_group_model.specs.Members.{arrives}
use Rattle.srt_group_members.proofs.admission.arrives.Goals as goal

pub returns : goal.returns
unfolding arrives
returns c = rw (c.admitted.ensures, c.member_state.ensures, c.leg_connected.ensures) refl
