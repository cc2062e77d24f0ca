-- `srt_group_lent_add_member` meets its contract: that of the flat form, written out so that a wrong record or table is refused by what differs, not by a search that ends.
use Rattle.srt_group_lent.proofs.additions.srt_group_lent_add_member.Goals as goal

pub returns : goal.returns
returns c = c.add_member-added.ensures
