-- `listing::writing::has_room_for_line` meets its contract: what is used of the room, with the columns that are left, is as
-- long as all columns.
use Prim.Native.Nat.{◌+◌, ◌-◌, ◌≤◌}
use mathlib.Core.Path.{◌≡◌}
use lib.ListN.{length, drop}
use Rattle.listing.specs.Text.{columns_text}
use Rattle.listing.proofs.writing.has_room_for_line.Given as goal

abbrev pub invariant-loop-number : goal.invariant-loop-number
invariant-loop-number l =
    (l.number-index ≤ length l.numbers)
    × (l.left ≤ l.room)
    × (length (columns_text l.width l.numbers) ≡ l.room - l.left + length (columns_text l.width (drop l.number-index l.numbers)))
