-- `above_limit` meets its contract: the limit of the first active leg, if there is one, is compared.
use Rattle.std.proofs.Common.{rules}
use Rattle.std.proofs.lemmas.Iterator.{YieldsList-from_slice}
use Rattle.srt_group_model.specs.Members.{is_active}
use Rattle.srt_group_members.specs.Laws.Scan.{found_in}
use Rattle.srt_group_sending.specs.Laws.Broadcast.{limit_by_first}
use Rattle.srt_group_sending.proofs.broadcast.above_limit.Goals as goal

pub returns : goal.returns
returns c =
    limit_by_first _ _ _ _
    (found_in is_active _ _ _ c.find.ensures.ran (YieldsList-from_slice c.args.rows.now cc) (λ x b q h. search rules))
    (search rules)
