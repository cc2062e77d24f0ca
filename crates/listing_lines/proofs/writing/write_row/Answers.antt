-- `listing_lines::writing::write_row` meets its contract: a line of 6 numbers has room in 121 bytes.
use Rattle.std.proofs.Common.{arith}
use Rattle.listing_lines.specs.Laws.Text.{row_written}
use Rattle.listing_lines.proofs.writing.write_row.Goals as goal

pub returns : goal.returns
returns c =
    let a = c.args in
    rw c.unwrap_or.ensures (row_written a.row.now a.out.now _ _ (omega arith) c.fits-row (omega arith) c.write_line.ensures)
