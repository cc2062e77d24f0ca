-- `next_of_other_sender` meets its contract: the sender that is found numbers what comes next.
use Rattle.std.proofs.Common.{refl}
use Rattle.srt_group_members.specs.Laws.Alignment.{source_other}
use Rattle.srt_group_members.proofs.alignment.next_of_other_sender.Goals as goal

pub returns : goal.returns
returns c = source_other _ _ _ refl c.in_ok-row.ensures c.sender.ensures
