-- `listing::stream::OpenLine::take` meets its contract: the bytes before the line feed are the first line, and what is behind it
-- is the rest.
use Rattle.std.proofs.Common.{rules, ◌≡◌, ◌+◌, nat_eq, sym, ◌∙◌, drop, length-drop, take_all, arith}
use Rattle.std.proofs.lemmas.Iterator.{YieldsList-from_slice}
use Rattle.std.proofs.lemmas.Iterator.Search.{position_from_yields_List}
use Rattle.std.specs.List.{position}
use borrow.Author.Tests.{tests}
use Rattle.listing.proofs.StreamLaws.{beyond_end, lent_from, none_taken_behind, feed_at, no_feed_at, first_line_all}
use Rattle.listing.proofs.stream.OpenLine.take.Goals as goal

pub returns-in-Some : goal.returns-in-Some
returns-in-Some c =
    let block = c.in_ok-stream.stream.now in
    let from = lent_from c.args.block.now c.args.from c.in_ok-stream.stream (c.in_ok-stream.ensures.lookup.0.2) in
    let feed = c.in-Some.feed in
    let first : c.position.result ≡ position (λ byte. nat_eq byte 10) block =
    position_from_yields_List (λ byte. nat_eq byte 10) _ _ _ c.position.ensures.ran (YieldsList-from_slice block cc) (λ x b q k. search (rules, tests)) in
    let place = feed_at block feed (sym first ∙ c.in-Some.is) in
    let here = place.1 in
    rw (← from) record {
      same = c.append.ensures.same;
      holds = λ line h. rw (← place.0.before) (c.append.ensures.holds line h);
      behind = (
        place.0.feed here,
        take_all _ (drop (feed + 1) block) (omega (arith, length-drop (feed + 1) block)) ∙ place.0.rest here,
      );
    }

pub returns-in-None : goal.returns-in-None
returns-in-None c =
    let block = c.in_ok-stream.stream.now in
    let from = lent_from c.args.block.now c.args.from c.in_ok-stream.stream (c.in_ok-stream.ensures.lookup.0.2) in
    let first : c.position.result ≡ position (λ byte. nat_eq byte 10) block =
    position_from_yields_List (λ byte. nat_eq byte 10) _ _ _ c.position.ensures.ran (YieldsList-from_slice block cc) (λ x b q k. search (rules, tests)) in
    let none = no_feed_at block (sym first ∙ c.in-None.is) in
    rw (← from) record {
      same = c.append-in-None.ensures.same;
      holds = λ line h. rw (first_line_all block none).0 (c.append-in-None.ensures.holds line h);
      behind = none;
    }

pub returns-in_err-stream : goal.returns-in_err-stream
returns-in_err-stream c =
    rw c.from_residual.ensures (none_taken_behind c.args.block.now c.args.from c.args.self.now (beyond_end (c.in_err-stream.ensures.lookup.0)))
