-- `first_other_sender` meets its contract.
use Rattle.std.proofs.Common.{rules}
use Rattle.std.proofs.lemmas.Iterator.{YieldsList-from_slice}
use Rattle.srt_group_members.specs.Alignment.{is_other_sender}
use Rattle.srt_group_members.specs.Laws.Scan.{found_in}
use Rattle.srt_group_members.proofs.alignment.first_other_sender.Goals as goal

pub returns : goal.returns
returns c = found_in (is_other_sender c.args.id) _ _ _ c.find.ensures.ran (YieldsList-from_slice c.args.rows.now cc) (λ x b q h. search rules)
