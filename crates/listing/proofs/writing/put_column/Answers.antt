-- `listing::writing::put_column` meets its contract: spaces over the width with the digits over their end are the column.
use Rattle.std.proofs.Common.{ℕ, ◌≤◌, ◌++◌, ◌≡◌, arith, sym, ◌∙◌, List, length, take, drop, replicate, length-take-le}
use Rattle.std.proofs.lemmas.List.{length-replicate}
use Rattle.listing.specs.Text.{right_justified}
use Rattle.listing.specs.Placed.{placed}
use Rattle.listing.proofs.PlacedLaws.{placed_begins}
use Rattle.listing.proofs.TextLaws.{length_right_justified, column_placed}
use Rattle.listing.proofs.writing.put_column.Goals as goal

-- a part that is filled with spaces
filled :
    (out part : List ℕ) (width : ℕ) → width ≤ length out → part ≡ replicate (length (take width out)) 32
    → part ++ drop width out ≡ placed out 0 (replicate width 32)
filled out part width h e =
    rw (e, length-take-le width out h, placed_begins out (replicate width 32), length-replicate {A = ℕ} width 32)

pub slice_bounds-fill-end-2 : goal.slice_bounds-fill-end-2
slice_bounds-fill-end-2 c =
    let wide = length_right_justified c.args.width c.args.number in
    sym (length-take-le c.args.width c.args.out.now (omega arith))

pub returns : goal.returns
returns c =
    let a = c.args in
    let wide = length_right_justified a.width a.number in
    let spaces = filled a.out.now _ a.width (omega arith) (c.fill.ensures.after (λ y e. e)) in
    record {
      bytes = (rw spaces at c.put_digits.ensures)
          ∙ (column_placed a.out.now 0 a.width a.number _ (omega arith) (omega arith) ∙ placed_begins a.out.now (right_justified a.width a.number));
      end_of = c.column_length-end.ensures;
    }
