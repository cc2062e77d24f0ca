-- `has_active_member` meets its contract.
use Rattle.std.proofs.Common.{rules}
use Rattle.std.proofs.lemmas.Iterator.{YieldsList-from_slice}
use Rattle.srt_group_model.specs.Members.{is_active}
use Rattle.srt_group_members.specs.Laws.Scan.{any_in}
use Rattle.srt_group_members.proofs.states.has_active_member.Goals as goal

pub returns : goal.returns
returns c = any_in is_active _ _ _ c.any.ensures.ran (YieldsList-from_slice c.args.rows.now cc) (λ x b q h. search rules)
