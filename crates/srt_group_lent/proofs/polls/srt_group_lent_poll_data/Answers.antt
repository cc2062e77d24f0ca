-- `srt_group_lent_poll_data` meets its contract: that of the flat form, written out so that a wrong record or table is refused by what differs, not by a search that ends.
use Rattle.srt_group_lent.proofs.polls.srt_group_lent_poll_data.Goals as goal

pub returns-clause-promised : goal.returns-clause-promised
returns-clause-promised c = c.poll_data-polled.ensures.promised
