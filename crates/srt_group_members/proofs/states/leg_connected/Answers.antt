-- `leg_connected` meets its contract: the word that is read is the link's state.
use Rattle.std.specs.Prelude.{ℕ, eqb}
use mathlib.Core.Path.{ap}
use Rattle.srt_group_members.proofs.states.leg_connected.Goals as goal

pub returns : goal.returns
returns c = ap (λ (n : ℕ). eqb n 1) c.link_state.ensures
