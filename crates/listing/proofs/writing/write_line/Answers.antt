-- `listing::writing::write_line` meets its contract: a line that has room is put at the place, and its end is counted from the start of all.
use Rattle.std.proofs.Common.{arith, sym, ◌∙◌}
use Rattle.std.proofs.lemmas.Bool.{leb-true}
use Rattle.listing.specs.Text.{line_text}
use Rattle.listing.proofs.PlacedLaws.{text_placed}
use Rattle.listing.proofs.writing.write_line.Goals as goal

pub returns : goal.returns
returns c =
    let a = c.args in
    let fits = leb-true _ _ (sym c.has_room_for_line.ensures ∙ c.if-not-has_room_for_line.false) in
    text_placed a.out.now a.at (line_text a.width a.numbers.now) _ _ (omega arith) c.put_line.ensures
