-- `srt_group_valid_can_send_with_pacing` meets its contract: that of the form over the parts that the words show.
use Rattle.std.proofs.Common.{refl}
use Rattle.std.specs.Prelude.{Some}
use Rattle.srt_group_words.specs.Laws.Words.{performs_ready}
use Rattle.srt_group_c_readiness.specs.Laws.Answers.{tested_whole}
use Rattle.srt_group_c_readiness.proofs.readiness.srt_group_valid_can_send_with_pacing.Goals as goal

pub returns : goal.returns
returns c = performs_ready _ c.read_group.ensures _ _ _ c.requires.ready_words.long _ _ _ 1 _ _ _ refl c.can_send_with_pacing-tested.ensures (tested_whole (Some _) c.read_group.ensures c.can_send_with_pacing-tested.ensures c.put_readiness.ensures)
