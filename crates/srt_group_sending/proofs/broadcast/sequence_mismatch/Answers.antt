-- `sequence_mismatch` meets its contract.
use Rattle.std.proofs.Common.{◌∙◌, sym, rules}
use Rattle.std.proofs.lemmas.Iterator.{YieldsList-from_slice}
use Rattle.srt_group_members.specs.Laws.Scan.{any_in}
use Rattle.srt_group_sending.specs.Broadcast.{is_mismatched}
use Rattle.srt_group_sending.specs.Laws.Broadcast.{mismatch_of_any}
use Rattle.srt_group_sending.proofs.broadcast.sequence_mismatch.Goals as goal

pub returns : goal.returns
returns c =
    any_in (is_mismatched c.args.sequence) _ _ _ c.any.ensures.ran (YieldsList-from_slice c.args.rows.now cc) (λ x b q h. search rules)
    ∙ sym (mismatch_of_any c.args.sequence _)
