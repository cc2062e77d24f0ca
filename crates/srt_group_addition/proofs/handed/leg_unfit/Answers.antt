-- `leg_unfit` meets its contract: written out so that another test is refused by the equation that fails, not by a search that ends.
use Rattle.std.proofs.Common.{ap, ap₂, ◌∙◌, ◌||◌, ltb, Bool}
use Rattle.srt_group_model.specs.Validity.{leg_out_of_range}
use Rattle.srt_group_model.specs.Laws.Reason.{or_assoc}
use Rattle.srt_group_addition.proofs.handed.leg_unfit.Goals as goal

pub returns : goal.returns
returns c =
    let id = ltb 4294967295 c.args.member.id in
    let weight = ltb 65535 c.args.member.weight in
    or_assoc (id || weight) _ _ ∙ or_assoc id weight _
    ∙ ap (λ (b : Bool). id || (weight || b)) (ap₂ ◌||◌ (c.leg_out_of_range.ensures ∙ ap leg_out_of_range c.handed_over.ensures) c.leg_sequence_too_large.ensures)
