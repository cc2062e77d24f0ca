-- `listing::writing::put_digits` meets its contract: the digits that are left, placed before those that are stored, give
-- the whole.
use Rattle.std.proofs.Common.{◌+◌, ◌/◌, ◌%◌, ◌∙◌, length-set, arith}
use Rattle.listing.specs.Text.{digits}
use Rattle.listing.proofs.PlacedLaws.{placed_last_byte_first}
use Rattle.listing.proofs.TextLaws.{digits_of_more, length_digits_of_more}
use Rattle.listing.proofs.writing.put_digits.Goals as goal

pub loop-at-preserved : goal.loop-at-preserved
loop-at-preserved c =
    let l = c.loop-at in
    let more = length_digits_of_more l.rest (omega arith) in (
      omega arith,
      simp length-set (omega arith),
      placed_last_byte_first l.out l.at (digits (l.rest / 10)) (l.rest % 10 + 48) (omega arith) (omega arith)
          ∙ (rw (digits_of_more l.rest (omega arith)) at l.invariant.2),
    )
