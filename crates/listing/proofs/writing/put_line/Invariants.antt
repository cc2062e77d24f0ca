-- `listing::writing::put_line` meets its contract: the columns of the numbers so far stand from the place on.
use Prim.Native.Nat.{◌≤◌}
use mathlib.Core.Path.{◌≡◌}
use lib.ListN.{length, take}
use Rattle.listing.specs.Text.{columns_text}
use Rattle.listing.specs.Placed.{begun}
use Rattle.listing.proofs.writing.put_line.Given as goal

abbrev pub invariant-loop-number : goal.invariant-loop-number
invariant-loop-number l =
    (l.number-index ≤ length l.numbers)
    × (length l.out ≡ length l.initial.out)
    × (l.end ≡ length (columns_text l.width (take l.number-index l.numbers)))
    × (l.out ≡ begun l.initial.out (columns_text l.width (take l.number-index l.numbers)))
