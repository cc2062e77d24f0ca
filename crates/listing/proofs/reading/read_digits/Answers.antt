-- `listing::reading::read_digits` meets its contract: the bytes that are left, behind the value so far, read as the whole.
use Rattle.std.proofs.Common.{rules, ◌≡◌, ◌<◌, sym, length, arith}
use Rattle.listing.proofs.ColumnLaws.{digits_at_start, no_digits_at_end}
use Rattle.listing.proofs.reading.read_digits.Goals as goal

pub returns-then-is_empty : goal.returns-then-is_empty
returns-then-is_empty c = let none : 0 ≡ length c.args.bytes.now = search rules in sym (no_digits_at_end c.args.bytes.now 0 none)

pub loop-byte-init : goal.loop-byte-init
loop-byte-init c = let some : 0 < length c.args.bytes.now = search rules in (omega arith, digits_at_start c.args.bytes.now 0 some)
