-- `align_member_sequence` meets its contract: one law for each answer.
use Rattle.std.proofs.Common.{sym, ◌∙◌, ap}
use Rattle.srt_group_model.specs.State.{Member}
use Rattle.srt_group_model.specs.Members.{alignment_source}
use Rattle.srt_group_members.specs.Laws.Alignment.{align_past, align_no_source, align_with}
use Rattle.srt_group_members.proofs.alignment.align_member_sequence.Goals as goal

pub returns-then-count-index : goal.returns-then-count-index
returns-then-count-index c = align_past _ _ _ _ c.if-count-index.true

pub returns-in_default : goal.returns-in_default
returns-in_default c =
    align_no_source _ _ _ _ c.if-count-index.false
    (c.member_id-id.ensures ∙ ap (λ (m : Member). m.membership.id) c.row.ensures)
    (sym c.in_default.is ∙ c.alignment_source-source.ensures ∙ ap (alignment_source _ _) c.rows.ensures.shows)

pub returns : goal.returns
returns c =
    align_with _ _ _ _ c.if-count-index.false
    (c.member_id-id.ensures ∙ ap (λ (m : Member). m.membership.id) c.row.ensures) _
    (sym c.in-Some.is ∙ c.alignment_source-source.ensures ∙ ap (alignment_source _ _) c.rows.ensures.shows)
    c.align_leg_at.ensures
