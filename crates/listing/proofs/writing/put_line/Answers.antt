-- `listing::writing::put_line` meets its contract: the columns of the numbers so far stand at the start.
use Rattle.std.proofs.Common.{arith, rules, ◌+◌, ◌<◌, refl, ap, sym, ◌∙◌, length, take, get_or, length-append, length-take, length-drop, take_all}
use Rattle.listing.specs.Text.{right_justified, columns_text, line_text}
use Rattle.listing.specs.Placed.{begun}
use Rattle.listing.proofs.PlacedLaws.{begun_further, begun_byte_more}
use Rattle.listing.proofs.TextLaws.{length_line_text, columns_text_next, columns_text_upto}
use Rattle.listing.proofs.writing.put_line.Goals as goal

pub loop-number-init : goal.loop-number-init
unfolding columns_text
loop-number-init c = (omega arith, refl, refl, refl)

pub put_column-end-requires : goal.put_column-end-requires
put_column-end-requires c =
    let a = c.args in
    let l = c.loop-number in
    let numbers = a.numbers.now in
    let text = right_justified a.width (get_or numbers l.number-index 0) in
    let next = ap length (columns_text_next a.width numbers l.number-index (omega arith)) in
    let all = length-append (columns_text a.width (take l.number-index numbers)) text in
    let upto = columns_text_upto a.width numbers (l.number-index + 1) in
    let long = length_line_text a.width numbers in
    simp (length-take, length-drop) (omega arith)

pub loop-number-preserved : goal.loop-number-preserved
loop-number-preserved c =
    let a = c.args in
    let l = c.loop-number in
    let numbers = a.numbers.now in
    let put = c.put_column-end in
    let text = right_justified a.width (get_or numbers l.number-index 0) in
    let before = columns_text a.width (take l.number-index numbers) in
    let next = columns_text_next a.width numbers l.number-index (omega arith) in
    let upto = columns_text_upto a.width numbers l.number-index in
    let long = length_line_text a.width numbers in
    let further = begun_further a.out.now l.out l.end before (omega arith) l.invariant.3 l.invariant.2 text _ put.ensures.bytes in
    (omega arith, search rules, omega (arith, ap length next, length-append before text), further ∙ ap (begun a.out.now) (sym next))

pub returns : goal.returns
unfolding line_text
returns c =
    let a = c.args in
    let l = c.loop-number in
    let numbers = a.numbers.now in
    let all = take_all l.number-index numbers (omega arith) in
    let upto = columns_text_upto a.width numbers l.number-index in
    let long = length_line_text a.width numbers in
    let room : l.end < length l.out = omega arith in
    record {
      bytes = begun_byte_more a.out.now l.out l.end _ (omega arith) (rw all at l.invariant.3) (rw all at l.invariant.2) 10 room;
      end_of = omega (arith, rw all at l.invariant.2);
    }
