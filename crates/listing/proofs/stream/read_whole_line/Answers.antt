-- `listing::stream::read_whole_line` meets its contract: the columns that stand at the block's start end at a line feed exactly
-- where a well-formed line stands there.
use Rattle.std.proofs.Common.{◌≡◌, ◌-◌, ◌∷◌, [], length, take, drop, length-drop, take_all, arith}
use Rattle.std.proofs.lemmas.Bool.Decides.{Decides-eqb}
use Rattle.std.proofs.lemmas.Slice.Eq.{strip_prefix_is}
use Rattle.listing.proofs.LineLaws.{columns_end, columns_refused}
use Rattle.listing.proofs.StreamLaws.{lent_from}
use Rattle.listing.proofs.WholeLaws.{whole_or_not, whole_refused, columns_inside}
use Rattle.listing.proofs.stream.read_whole_line.Goals as goal

pub slice_bounds-strip_prefix-start : goal.slice_bounds-strip_prefix-start
slice_bounds-strip_prefix-start c =
    let a = c.args in
    let found = columns_end a.width c.in_ok-stream.stream.now a.numbers.now _ _ _ c.read_columns.ensures c.in_ok-end.was in
    columns_inside (length a.numbers.now) a.width c.in_ok-end.end c.in_ok-stream.stream.now found.0 found.1

pub slice_bounds-strip_prefix-count : goal.slice_bounds-strip_prefix-count
slice_bounds-strip_prefix-count c =
    let a = c.args in
    let found = columns_end a.width c.in_ok-stream.stream.now a.numbers.now _ _ _ c.read_columns.ensures c.in_ok-end.was in
    columns_inside (length a.numbers.now) a.width c.in_ok-end.end c.in_ok-stream.stream.now found.0 found.1

pub returns : goal.returns
returns c =
    let a = c.args in
    let block = c.in_ok-stream.stream.now in
    let end = c.in_ok-end.end in
    let from = lent_from a.block.now a.from c.in_ok-stream.stream (c.in_ok-stream.ensures.lookup.0.2) in
    let found = columns_end a.width block a.numbers.now _ _ _ c.read_columns.ensures c.in_ok-end.was in
    let all : take (length block - end) (drop end block) ≡ drop end block = take_all _ (drop end block) (omega (arith, length-drop end block)) in
    rw (← from) (whole_or_not block a.width a.numbers.now _ c.read_columns.auto.numbers end _ found.0 found.1 (c.read_columns.ensures.put found.0)
    (rw all at (strip_prefix_is Decides-eqb (take (length block - end) (drop end block)) (10 ∷ []) c.strip_prefix.result c.strip_prefix.ensures.cases)))

pub returns-in_err-end : goal.returns-in_err-end
returns-in_err-end c =
    let a = c.args in
    let stream = c.in_ok-stream.stream.now in
    let from = lent_from a.block.now a.from c.in_ok-stream.stream (c.in_ok-stream.ensures.lookup.0.2) in
    let refused = columns_refused a.width stream a.numbers.now _ _ c.read_columns.ensures c.in_err-end.was in
    rw (c.from_residual-in_err-end.ensures, ← from) (whole_refused stream a.width a.numbers.now _ c.read_columns.auto.numbers refused)
