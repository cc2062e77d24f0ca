-- `write_row` meets its contract: every word of the row is stored.
use native.Mathlib.Omega.{arith}
use Rattle.srt_group_tables.specs.Packets.{row_words}
use Rattle.srt_group_tables.specs.Laws.PacketIndex.{all_stored}
use Rattle.srt_group_tables.proofs.pending.write_row.Goals as goal

pub returns : goal.returns
unfolding row_words
returns c = all_stored c.args.row.now (row_words c.args.packet) (omega arith)
