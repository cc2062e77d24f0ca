-- `steady_throughout` meets its contract: the fold goes through the rows.
use Rattle.std.specs.Prelude.{◌&&◌}
use Rattle.std.proofs.Common.{rules, true, ◌∙◌}
use Rattle.std.proofs.lemmas.Iterator.{YieldsList-from_slice}
use Rattle.std.proofs.lemmas.Iterator.Consumers.{fold_from_yields_List}
use Rattle.srt_connection_queue.specs.Rows.{member_of}
use Rattle.srt_group_members.specs.Quiet.{is_steady}
use Rattle.srt_group_members.specs.Laws.Quiet.{steady_folded}
use Rattle.srt_group_members.proofs.quiet.steady_throughout.Goals as goal

pub returns : goal.returns
returns c =
    fold_from_yields_List _ (λ so_far row. so_far && is_steady (member_of row)) _ _ c.fold.ensures.ran (YieldsList-from_slice c.args.rows.now cc)
    (λ a x b q h. search rules)
    ∙ steady_folded true c.args.rows.now
