-- `waiting_breaks_rule` meets its contract: the rows below the count are asked, and no others.
use Rattle.std.proofs.Common.{◌∙◌, rules, refl, arith}
use Rattle.std.proofs.lemmas.Iterator.{YieldsList-from_range}
use Rattle.std.proofs.lemmas.Iterator.Search.{any_from_yields_List}
use Rattle.srt_group_model.specs.Validity.{waiting_out_of_range}
use Rattle.srt_group_tables.specs.Waitings.{waiting_at}
use Rattle.srt_connection_queue.specs.Laws.Chains.{passes}
use Rattle.srt_group_rules.specs.Laws.Walks.{any_ranged}
use Rattle.srt_group_rules.proofs.rows.waiting_breaks_rule.Goals as goal

pub returns : goal.returns
returns c =
    let read = waiting_at c.args.waiting.now in
    any_from_yields_List (passes read waiting_out_of_range) _ _ c.any.result c.any.ensures.ran (YieldsList-from_range 0 c.args.count c.args.count refl (omega arith)) (λ x b q h. search rules)
    ∙ any_ranged waiting_out_of_range c.args.count read
