-- `listing::reading::read_digits` meets its contract: the bytes that are left, behind the value so far, read as the whole.
use Rattle.std.proofs.Common.{◌≡◌, ◌<◌, ◌^◌, drop}
use Rattle.listing.specs.Column.{digits_read}
use Rattle.listing.proofs.ColumnLaws.{digits_after}
use Rattle.listing.proofs.reading.read_digits.Given as goal

abbrev pub invariant-loop-byte : goal.invariant-loop-byte
invariant-loop-byte l = (l.value < 2 ^ 64) × (digits_after l.value (drop l.byte-index l.bytes) ≡ digits_read l.bytes)
