-- `listing_lines::writing::write_lines` meets its contract: each turn writes one row behind the text of those before it.
use Rattle.std.proofs.Common.{◌*◌, ◌≤◌, ◌≡◌, length, take}
use Rattle.listing.specs.Placed.{begun}
use Rattle.listing_lines.specs.Text.{texts}
use Rattle.listing_lines.proofs.writing.write_lines.Given as goal

abbrev pub invariant-loop-row : goal.invariant-loop-row
invariant-loop-row l =
    (l.end ≤ 121 * l.row-index)
    × (l.end ≡ length (texts (take l.row-index l.rows)))
    × (l.out ≡ begun l.initial.out (texts (take l.row-index l.rows)))
