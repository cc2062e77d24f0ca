-- `listing_lines::writing::write_lines` meets its contract: each turn writes one row behind the text of those before it.
use Rattle.std.proofs.Common.{arith, refl, ap, sym, ◌∙◌, length, take, length-append, get_or, []}
use Rattle.listing.specs.Placed.{begun}
use Rattle.listing.specs.Text.{line_text}
use Rattle.listing.proofs.PlacedLaws.{begun_further}
use Rattle.listing_lines.specs.Text.{texts}
use Rattle.listing_lines.specs.Laws.Text.{texts_next}
use Rattle.listing_lines.proofs.writing.write_lines.Goals as goal

pub loop-row-init : goal.loop-row-init
unfolding texts
loop-row-init c = (omega arith, refl, refl)

pub loop-row-preserved : goal.loop-row-preserved
loop-row-preserved c =
    let a = c.args in
    let l = c.loop-row in
    let put = c.write_row-end.ensures in
    let before = texts (take l.row-index a.rows.now) in
    let next = texts_next a.rows.now l.row-index (omega arith) in
    let further = begun_further a.out.now l.out l.end before (omega arith) l.invariant.2 l.invariant.1 _ _ put.text.bytes in
    (omega (arith, put.most), omega (arith, ap length next, length-append before (line_text 11 (get_or a.rows.now l.row-index [])), put.text.end_of), further ∙ ap (begun a.out.now) (sym next))
