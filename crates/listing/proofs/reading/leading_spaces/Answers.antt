-- `listing::reading::leading_spaces` meets its contract: the first byte that is no space ends the spaces.
use Rattle.std.proofs.Common.{rules, ◌≡◌, not, nat_eq}
use Rattle.std.proofs.lemmas.Iterator.{YieldsList-from_slice}
use Rattle.std.proofs.lemmas.Iterator.Search.{position_from_yields_List}
use Rattle.std.specs.List.{position}
use borrow.Author.Tests.{tests}
use Rattle.listing.proofs.ColumnLaws.{place_or_end, spaces_before}
use Rattle.listing.proofs.reading.leading_spaces.Goals as goal

pub returns : goal.returns
returns c =
    let bytes = c.args.bytes.now in
    let first : c.position.result ≡ position (λ byte. not (nat_eq byte 32)) bytes =
    position_from_yields_List (λ byte. not (nat_eq byte 32)) _ _ _ c.position.ensures.ran (YieldsList-from_slice bytes cc) (λ x b q k. search (rules, tests)) in
    rw (c.unwrap_or.ensures, first, place_or_end (λ byte. not (nat_eq byte 32)) bytes) (spaces_before bytes)
