-- `srt_group_lent_send` meets its contract: that of the flat form, written out so that a wrong record or table is refused by what differs, not by a search that ends.
use Rattle.srt_group_lent.proofs.sends.srt_group_lent_send.Goals as goal

pub returns-clause-promised : goal.returns-clause-promised
returns-clause-promised c = c.send-sent.ensures.promised
