-- `srt_group_raw_remove_member_connection` meets its contract: 5 for the record, or the promise of the call by value.
use Rattle.srt_group_refusals.specs.Promised.{nothing_lent}
use Rattle.srt_group_words.specs.Laws.Words.{row_gives}
use Rattle.srt_group_c_members.specs.Laws.LegBack.{promised_leg_back}
use Rattle.srt_group_c_members.proofs.removing.srt_group_raw_remove_member_connection.Goals as goal

pub returns : goal.returns
returns c = promised_leg_back c.remove_member_connection-removed.result.answer _ _ c.put_back.ensures.same c.remove_member_connection-removed.ensures.row_after (row_gives _ _ _ nothing_lent c.if-record-lt-RECORD.false c.read_group.ensures _ _ _ _ _ c.remove_member_connection-removed.ensures.promised_row c.put_back.ensures)
