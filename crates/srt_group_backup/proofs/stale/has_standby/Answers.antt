-- `has_standby` meets its contract.
use Rattle.std.proofs.Common.{rules}
use Rattle.std.proofs.lemmas.Iterator.{YieldsList-from_slice}
use Rattle.srt_group_model.specs.Members.{is_standby}
use Rattle.srt_group_members.specs.Laws.Scan.{any_in}
use Rattle.srt_group_backup.proofs.stale.has_standby.Goals as goal

pub returns : goal.returns
returns c = any_in is_standby _ _ _ c.any.ensures.ran (YieldsList-from_slice c.args.rows.now cc) (λ x b q h. search rules)
