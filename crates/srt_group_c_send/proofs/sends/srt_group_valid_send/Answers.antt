-- `srt_group_valid_send` meets its contract: that of the form over the parts that the words show.
use Rattle.srt_group_words.specs.Laws.Words.{performs_sent}
use Rattle.srt_group_words.specs.Words.{sent_words}
use Rattle.srt_group_c_send.specs.Laws.Sends.{sent_whole}
use Rattle.srt_group_c_send.proofs.sends.srt_group_valid_send.Goals as goal

pub returns : goal.returns
returns c = performs_sent _ c.read_group-group.ensures _ _ _ c.requires.ready_words.long _ _ _ sent_words _ _ _ _ c.send-sent.ensures.rows c.send-sent.ensures.performs (sent_whole c.read_group-group.ensures c.send-sent.ensures.performs c.put_send.ensures)
