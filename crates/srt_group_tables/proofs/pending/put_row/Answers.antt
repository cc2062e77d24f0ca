-- `put_row` meets its contract: written out so that the row of another cell is refused by the start that differs, not by a search that ends.
use Rattle.srt_group_tables.specs.Laws.PacketIndex.{row_written, seven_words}
use Rattle.srt_group_tables.proofs.pending.put_row.Goals as goal

pub returns : goal.returns
returns c = rw (c.row_start-start.ensures, c.write_row.ensures) (row_written _ _ _ (seven_words c.args.packet))
