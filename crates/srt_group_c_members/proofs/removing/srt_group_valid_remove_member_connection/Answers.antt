-- `srt_group_valid_remove_member_connection` meets its contract: that of the form over the parts that the words show.
use mathlib.Core.Path.{refl}
use Rattle.srt_group_words.specs.Laws.Words.{silent_gives}
use Rattle.srt_group_c_members.specs.Laws.LegBack.{performs_leg_back}
use Rattle.srt_group_c_members.proofs.removing.srt_group_valid_remove_member_connection.Goals as goal

pub returns : goal.returns
returns c = performs_leg_back c.remove_member_connection-removed.result.answer _ _ c.put_back_core.ensures.same c.remove_member_connection-removed.ensures.row_after (silent_gives _ c.read_group.ensures _ _ _ c.requires.ready_words.long _ _ _ _ _ refl c.remove_member_connection-removed.ensures.performs c.put_back_core.ensures)
