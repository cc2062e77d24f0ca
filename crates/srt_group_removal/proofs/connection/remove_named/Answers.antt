-- `remove_named` meets its contract where no member has the id: 3.
use mathlib.Core.Path.{ap, sym, ◌∙◌}
use Rattle.srt_group_model.specs.Members.{find}
use Rattle.srt_group_removal.specs.Laws.Connection.{unknown_removal}
use Rattle.srt_group_removal.proofs.connection.remove_named.Goals as goal

pub returns-in_default-clause-steps_removal : goal.returns-in_default-clause-steps_removal
returns-in_default-clause-steps_removal c =
    let a = c.args in
    unknown_removal a.id a.core a.members.now a.pending.now c.if-id-gt-LARGEST_32.false _
    (sym c.in_default.is ∙ c.find.ensures ∙ ap (find a.id) c.rows.ensures.shows) c.refused-in_default.ensures.0 c.refused-in_default.ensures.1
