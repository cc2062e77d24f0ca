-- `first_active` meets its contract.
use Rattle.std.proofs.Common.{rules}
use Rattle.std.proofs.lemmas.Iterator.{YieldsList-from_slice}
use Rattle.srt_group_model.specs.Members.{is_active}
use Rattle.srt_group_members.specs.Laws.Scan.{place_in}
use Rattle.srt_group_members.proofs.states.first_active.Goals as goal

pub returns : goal.returns
returns c = place_in is_active _ _ _ c.position.ensures.ran (YieldsList-from_slice c.args.rows.now cc) (λ x b q h. search rules)
