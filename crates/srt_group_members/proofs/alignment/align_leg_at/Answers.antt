-- `align_leg_at` meets its contract.
use Rattle.std.proofs.Common.{sym, ◌∙◌}
use Rattle.srt_group_members.specs.Laws.Alignment.{leg_not_aligned, leg_aligned}
use Rattle.srt_group_members.proofs.alignment.align_leg_at.Goals as goal

pub returns-in_default : goal.returns-in_default
returns-in_default c = leg_not_aligned _ _ _ c.leg_at.ensures (sym c.in_default.is ∙ c.align_leg-result.ensures)

pub returns : goal.returns
returns c = leg_aligned _ _ _ c.leg_at.ensures _ (sym c.in-Some.is ∙ c.align_leg-result.ensures) c.put_leg_at.ensures
