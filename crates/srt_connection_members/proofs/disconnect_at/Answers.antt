-- `disconnect_at` meets its contract: the leg that is put is disconnected (`leg_changed`).
use mathlib.Core.Path.{ap, ◌∙◌}
use Rattle.srt_group_model.specs.Legs.{disconnect_leg}
use Rattle.srt_connection_members.specs.Laws.Members.{leg_changed}
use Rattle.srt_connection_members.proofs.disconnect_at.Goals as goal

pub returns : goal.returns
returns c = leg_changed disconnect_leg c.put_leg_at.ensures (c.disconnect-leg.ensures ∙ ap disconnect_leg c.leg_at.ensures)
