-- `listing::reading::read_line` meets its contract: a line is well-formed where its columns are numbers and end where it
-- ends.
use Rattle.std.proofs.Common.{false, ◌≡◌, sym, ◌∙◌, length, replicate, rules}
use Rattle.listing.specs.Line.{well_formed}
use Rattle.listing.proofs.LineLaws.{columns_end, columns_refused, well_formed_length, not_well_formed, malformed_line, line_of_columns}
use Rattle.listing.proofs.reading.read_line.Goals as goal
use Rattle.listing.proofs.reading.read_line.Goals.{in_default-via-in-Some+else-end-line, in_default-via-in_default}

pub returns-in-Some : goal.returns-in-Some
returns-in-Some c =
    let a = c.args in
    let found = columns_end a.width a.line.now a.numbers.now _ _ _ c.read_columns.ensures c.in-Some.is in
    line_of_columns a.width a.line.now a.numbers.now _ (sym c.if-end-line.true ∙ found.1) found.0 (c.read_columns.ensures.put found.0)

pub returns-in_default : goal.returns-in_default
returns-in_default c =
    let a = c.args in
    let numbers = a.numbers.now in
    let zeros : c.fill.new.self ≡ replicate (length numbers) 0 = search rules in
    let malformed : well_formed (length numbers) a.width a.line.now ≡ false = elim c.in_default.branch [
      | in_default-via-in-Some+else-end-line w ↦
          let found = columns_end a.width a.line.now numbers _ _ _ c.read_columns.ensures w.in-Some.is in
          well_formed_length (length numbers) a.width a.line.now (λ e. w.if-end-line.false (found.1 ∙ sym e))
      | in_default-via-in_default w ↦
          not_well_formed (length numbers) a.width a.line.now (columns_refused a.width a.line.now numbers _ _ c.read_columns.ensures w.in_default.is)
    ] in
    rw zeros (malformed_line a.width a.line.now numbers malformed)
