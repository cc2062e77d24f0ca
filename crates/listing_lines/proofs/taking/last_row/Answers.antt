-- `listing_lines::taking::last_row` meets its contract: any byte is a line, and it is read.
use Rattle.std.proofs.Common.{refl}
use Rattle.listing_lines.specs.Laws.Taken.{last_line_taken}
use Rattle.listing_lines.proofs.taking.last_row.Goals as goal

pub returns : goal.returns
returns c = last_line_taken _ _ _ _ _ c.if-size-eq0.false c.requires refl c.read_held_line.ensures
