-- `listing::writing::put_digits` meets its contract: the digits that are left, placed before those that are stored, give
-- the whole.
use Rattle.std.proofs.Common.{◌≡◌, ◌-◌, ◌≤◌, length}
use Rattle.listing.specs.Text.{digits}
use Rattle.listing.specs.Placed.{placed}
use Rattle.listing.proofs.writing.put_digits.Given as goal

abbrev pub invariant-loop-at : goal.invariant-loop-at
invariant-loop-at l =
    (length (digits l.rest) ≤ l.at)
    × (l.at ≤ length l.out)
    × (placed l.out (l.at - length (digits l.rest)) (digits l.rest)
    ≡ placed l.initial.out (l.end - length (digits l.number)) (digits l.number))
