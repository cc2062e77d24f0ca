-- `is_repeated` meets its contract: a free place, or the members before that were asked.
use Rattle.std.proofs.Common.{sym, ap, ◌∙◌, ℕ, get_or, rules}
use Rattle.std.proofs.lemmas.Iterator.{YieldsList-from_slice}
use Rattle.std.proofs.lemmas.Iterator.Search.{any_from_yields_List}
use Rattle.srt_group_model.specs.Members.{has_id}
use Rattle.srt_connection_queue.specs.Rows.{member_of}
use Rattle.srt_connection_queue.specs.Laws.Chains.{passes, any_read}
use Rattle.srt_group_rules.specs.Laws.Ids.{free_place}
use Rattle.srt_group_rules.proofs.ids.is_repeated.Goals as goal

pub returns : goal.returns
returns c =
    let rows = c.args.before.now in
    let test = has_id c.args.id in
    any_from_yields_List (passes member_of test) _ _ c.any.result c.any.ensures.ran (YieldsList-from_slice rows cc) (λ x b q h. search rules)
    ∙ any_read member_of test rows

pub returns-then-table-place_of-eq-NOBODY : goal.returns-then-table-place_of-eq-NOBODY
returns-then-table-place_of-eq-NOBODY c =
    free_place c.args.before.now c.args.table.now c.args.id c.requires
    (ap (λ (n : ℕ). get_or c.args.table.now n 0) (sym c.place_of.ensures.0) ∙ c.if-table-place_of-eq-NOBODY.true)
