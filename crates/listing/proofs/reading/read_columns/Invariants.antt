-- `listing::reading::read_columns` meets its contract: the columns that are left decide whether all are numbers, and their
-- values behind those that are stored are the values of all.
use Rattle.std.proofs.Common.{◌≡◌, ◌+◌, ◌-◌, ◌*◌, ◌++◌, length, take}
use Rattle.listing.specs.Line.{cut, values, begins_with_columns}
use Rattle.listing.proofs.reading.read_columns.Given as goal

abbrev pub invariant-loop-number : goal.invariant-loop-number
invariant-loop-number l =
    (length l.rest + l.number-index * l.width ≡ length l.bytes)
    × (begins_with_columns (length l.initial.numbers - l.number-index) l.width l.rest
    ≡ begins_with_columns (length l.initial.numbers) l.width l.bytes)
    × (take l.number-index l.numbers ++ values (cut (length l.initial.numbers - l.number-index) l.width l.rest)
    ≡ values (cut (length l.initial.numbers) l.width l.bytes))
