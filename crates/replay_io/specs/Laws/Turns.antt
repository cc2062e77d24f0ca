-- What is proved of the definitions in specs/Turns.antt: block by block the text of a listing's answers grows, whatever the cut into blocks.
use Rattle.std.specs.Prelude.{◌≡◌, refl, ℕ, Option, None, Some, Result, Ok, Err, OnOk, List, [], ◌∷◌, ◌++◌, take}
use Rattle.std.specs.Io.KnownBytes.{Consumes, Appends, IsAtEnd}
use Rattle.std.proofs.Common.{ap, sym, ◌∙◌, append_assoc, append-nil}
use mathlib.Core.List.{map-append}
use Rattle.listing.specs.Line.{line_numbers}
use Rattle.listing.specs.Stream.{lines, joined, ended, open_line, last_line}
use Rattle.listing.specs.Held.{HeldBy}
use Rattle.listing.specs.Laws.Stream.{lines_of_blocks}
use Rattle.listing.proofs.StreamLaws.{ended_append, open_line_append, lines_of_blocks_are_lines, held_nothing}
use Rattle.listing_lines.specs.Answers.{state_after, answers_from}
use Rattle.listing_lines.specs.Text.{texts}
use Rattle.listing_lines.specs.Laws.Text.{texts_append}
use Rattle.listing_lines.specs.Laws.Answers.{state_append, answers_append}
use Rattle.srt_group_model.specs.Listing.{replay}
use Rattle.replay_rows.specs.Rows.{after_line, print_of, group_after, prints_from}
use Rattle.replay_rows.specs.Laws.Rows.{prints_are_replay}
use Rattle.replay_blocks.specs.Blocks.{replayed, numbers}
use Rattle.listing.specs.declared.stream.OpenLine.{OpenLine}
use Rattle.srt_group_model.specs.State.{State}
use Rattle.replay_io.specs.Turns.{BlockRead, BlockReplayed, LastReplayed, ListingReplayed}

-- ---- known bytes, one text after another

appends_nothing : (u : Option (List ℕ)) → Appends u u []
appends_nothing None = tt
appends_nothing (Some xs) = sym (append-nil xs)

appends_then : (u v w : Option (List ℕ)) (a b : List ℕ) → Appends u v a → Appends v w b → Appends u w (a ++ b)
appends_then None v w a b x y = tt
appends_then (Some xs) None w a b x y = absurd x
appends_then (Some xs) (Some ys) None a b x y = y
appends_then (Some xs) (Some ys) (Some zs) a b x y = y ∙ ap (λ (t : List ℕ). t ++ b) x ∙ append_assoc xs a b

consumes_nothing : (u : Option (List ℕ)) → Consumes u u []
consumes_nothing None = tt
consumes_nothing (Some xs) = refl

consumes_then : (u v w : Option (List ℕ)) (a b : List ℕ) → Consumes u v a → Consumes v w b → Consumes u w (a ++ b)
consumes_then None v w a b x y = tt
consumes_then (Some xs) None w a b x y = absurd x
consumes_then (Some xs) (Some ys) None a b x y = y
consumes_then (Some xs) (Some ys) (Some zs) a b x y = x ∙ ap (λ (t : List ℕ). a ++ t) y ∙ sym (append_assoc a b zs)

-- ---- a turn

-- where no byte was read nothing is answered
pub none_replayed : (held : OpenLine) (s : Option State) (written : Option (List ℕ)) → BlockReplayed [] held held s s written written
unfolding ended open_line texts answers_from state_after
none_replayed held s written = record { text = λ line h. appends_nothing written; group = λ line h. refl; open_held = λ line h. h }

-- ---- all turns

-- the beginning of a listing is read, and the lines that end in it are answered
pub record ReplayedSoFar (held : OpenLine) (s : Option State) (left₀ left written₀ written : Option (List ℕ)) : Type 0 where
  pub beginning : List ℕ
  pub read : Consumes left₀ left beginning
  pub text : Appends written₀ written (texts (prints_from None (numbers (ended [] beginning))))
  pub group : s ≡ group_after None (numbers (ended [] beginning))
  pub open_held : HeldBy (open_line [] beginning) held

pub none_so_far : (held : OpenLine) {s : Option State} (left written : Option (List ℕ)) → s ≡ None → held.size ≡ 0 → ReplayedSoFar held s left left written written
unfolding ended open_line texts answers_from state_after
none_so_far held left written none empty =
    record {
      beginning = [];
      read = consumes_nothing left;
      text = appends_nothing written;
      group = none;
      open_held = held_nothing held.bytes.now empty;
    }

module _ {held : OpenLine} {s : Option State} {left₀ left written₀ written : Option (List ℕ)} where
  -- a block more
  pub further : {held' : OpenLine} {s' : Option State} {block : List ℕ} {left' written' : Option (List ℕ)} {count : ℕ}
      → ReplayedSoFar held s left₀ left written₀ written → BlockRead left left' count block → BlockReplayed (take count block) held held' s s' written written'
      → ReplayedSoFar held' s' left₀ left' written₀ written'
  further {block = block} {left' = left'} {written' = written'} {count = count} so read done =
      let a = so.beginning in
      let b = take count block in
      let line = open_line [] a in
      let first = numbers (ended [] a) in
      let next = numbers (ended line b) in
      let all : numbers (ended [] (a ++ b)) ≡ first ++ next =
      ap numbers (ended_append [] a b) ∙ map-append (line_numbers 8 11) (ended [] a) (ended line b) in
      let printed : prints_from None (first ++ next) ≡ prints_from None first ++ prints_from (group_after None first) next =
      answers_append after_line print_of None first next in
      record {
        beginning = a ++ b;
        read = consumes_then left₀ left left' a b so.read read.read;
        text = rw (all, printed, texts_append (prints_from None first) (prints_from (group_after None first) next), ← so.group)
            (appends_then written₀ written written' _ _ so.text (done.text line so.open_held));
        group = done.group line so.open_held
            ∙ (ap (λ (g : _). group_after g next) so.group ∙ (sym (state_append after_line None first next) ∙ ap (group_after None) (sym all)));
        open_held = rw (open_line_append [] a b) (done.open_held line so.open_held);
      }

  -- the listing's end
  pub whole : {written' : Option (List ℕ)} → ReplayedSoFar held s left₀ left written₀ written → IsAtEnd left
      → LastReplayed held.bytes.now held.size s written written' → ListingReplayed left₀ left written₀ written'
  unfolding replayed replay lines_of_blocks joined
  whole {written' = written'} so end done =
      let a = so.beginning in
      let line = open_line [] a in
      let first = numbers (ended [] a) in
      let last = numbers (last_line line) in
      let cut : lines a ≡ ended [] a ++ last_line line =
      ap lines (sym (append-nil a)) ∙ sym (lines_of_blocks_are_lines (a ∷ [])) in
      let all : numbers (lines a) ≡ first ++ last =
      ap numbers cut ∙ map-append (line_numbers 8 11) (ended [] a) (last_line line) in
      let printed : prints_from None (first ++ last) ≡ prints_from None first ++ prints_from (group_after None first) last =
      answers_append after_line print_of None first last in
      record {
        listing = a;
        read = so.read;
        at_end = end;
        text = rw (← prints_are_replay None (numbers (lines a)), all, printed, texts_append (prints_from None first) (prints_from (group_after None first) last), ← so.group)
            (appends_then written₀ written written' _ _ so.text (done.text line so.open_held));
      }

  -- the same where it is known only of some listings that they ended, and only the outcome says whether the last line was written
  pub whole_if : {T E A : Type 0} (outcome : Result T E) (written' : Option (List ℕ)) → ReplayedSoFar held s left₀ left written₀ written
      → (A → IsAtEnd left) → OnOk outcome (LastReplayed held.bytes.now held.size s written written') → OnOk outcome (A → ListingReplayed left₀ left written₀ written')
  whole_if (Ok x) written' so end done = λ a. whole so (end a) done
  whole_if (Err e) written' so end done = tt

  -- the same of a listing that ended
  pub whole_ended : {T E : Type 0} (outcome : Result T E) (written' : Option (List ℕ)) → ReplayedSoFar held s left₀ left written₀ written
      → IsAtEnd left → OnOk outcome (LastReplayed held.bytes.now held.size s written written') → OnOk outcome (ListingReplayed left₀ left written₀ written')
  whole_ended (Ok x) written' so end done = whole so end done
  whole_ended (Err e) written' so end done = tt
