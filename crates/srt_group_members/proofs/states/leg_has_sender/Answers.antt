-- `leg_has_sender` meets its contract: the sender that is read is the leg's.
use Rattle.std.specs.Prelude.{eqb}
use mathlib.Core.Path.{ap}
use Rattle.srt_group_model.specs.declared.Sender.{Sender}
use Rattle.srt_group_members.proofs.states.leg_has_sender.Goals as goal

pub returns : goal.returns
returns c = ap (λ (s : Sender). eqb s.started 1) c.sender.ensures
