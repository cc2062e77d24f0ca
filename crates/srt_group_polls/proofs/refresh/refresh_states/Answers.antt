-- `refresh_states` meets its contract: a quiet group is left as it is.
use mathlib.Core.Path.{ap, sym, ◌∙◌}
use Rattle.srt_group_members.specs.Quiet.{is_quiet}
use Rattle.srt_group_polls.specs.Laws.Refresh.{refresh_left_out}
use Rattle.srt_group_polls.proofs.refresh.refresh_states.Goals as goal

pub returns-then-is_quiet : goal.returns-then-is_quiet
returns-then-is_quiet c =
    let quiet = c.is_quiet.ensures ∙ ap (is_quiet c.args.core.mode) c.rows.ensures.shows in
    refresh_left_out _ _ _ (λ told. sym quiet ∙ told) c.if-is_quiet.true
