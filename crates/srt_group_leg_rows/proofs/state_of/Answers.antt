-- `state_of` meets its contract: the first row that has the id is found, and its state is given.
use Rattle.std.proofs.Common.{rules, ◌∙◌, ap, eqb}
use Rattle.std.proofs.lemmas.Iterator.{YieldsList-from_slice}
use Rattle.std.proofs.lemmas.Iterator.Search.{find_from_yields_List}
use borrow.Author.Tests.{tests}
use Rattle.srt_group_leg_rows.specs.declared.LegRow.{LegRow}
use Rattle.srt_group_leg_rows.specs.Laws.Legs.{state_or, state_mapped, found_state}
use Rattle.srt_group_leg_rows.proofs.state_of.Goals as goal

pub returns : goal.returns
returns c =
    state_mapped c.find.result _ (search rules)
    ∙ ap state_or
    (find_from_yields_List (λ (row : LegRow). eqb row.id c.args.id) _ _ c.find.result c.find.ensures.ran (YieldsList-from_slice c.args.legs.now cc)
    (λ x b q h. search (rules, tests)))
    ∙ found_state _ _
