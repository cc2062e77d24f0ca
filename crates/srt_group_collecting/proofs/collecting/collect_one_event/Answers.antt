-- `collect_one_event` meets its contract.
use Rattle.std.proofs.Common.{◌∙◌, ap}
use Rattle.srt_group_model.specs.Collecting.{in_turn}
use Rattle.srt_group_collecting.specs.Laws.Visit.{collects_none, collects_one}
use Rattle.srt_group_collecting.proofs.collecting.collect_one_event.Goals as goal

pub returns-in_default-clause-collects : goal.returns-in_default-clause-collects
returns-in_default-clause-collects c =
    let found = c.in_turn-found.ensures ∙ ap (in_turn c.args.core.visit.round) c.rows.ensures.shows in search collects_none

pub returns-clause-collects : goal.returns-clause-collects
returns-clause-collects c =
    let found = c.in_turn-found.ensures ∙ ap (in_turn c.args.core.visit.round) c.rows.ensures.shows in
    collects_one _ _ _ _ _ (search) (search) _ _ _ _ _ c.in-Some.is found c.take_front.ensures.visits
