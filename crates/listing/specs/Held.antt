-- How a buffer holds the bytes of a line that is not yet whole: up to its length, and of a longer line only that it is
-- longer. What the functions on lines from blocks have to do is said over the line that the buffer holds.
use Rattle.std.specs.Prelude.{ℕ, ◌<◌, ◌≤◌, Bool, true, false, cond, ◌&&◌, ◌≡◌, List, ◌++◌, leb, length, take, replicate, Option, Result}
use Rattle.std.specs.Option.{MatchOption}
use denote.Ref.{Bor}
use Rattle.listing.specs.Line.{well_formed, line_numbers, line_answer}
use Rattle.listing.specs.Stream.{has_feed, first_line, after_feed}
use Rattle.listing.specs.declared.MalformedLine.{MalformedLine}
use Rattle.listing.specs.declared.stream.OpenLine.{OpenLine}

-- a buffer holds a line: a size within it counts the line's bytes, which it has at its start; a larger one says that the
-- line is longer than the buffer
pub record Held (line buffer : List ℕ) (size : ℕ) : Type 0 where
  pub within : size ≤ length buffer → take size buffer ≡ line
  pub beyond : length buffer < size → length buffer < length line

-- the buffer of an open line does, by its size
abbrev pub HeldBy : List ℕ → OpenLine → Type 0
HeldBy line held = Held line held.bytes.now held.size

-- what holds a line is the same buffer, as long as it was
pub record SameBuffer (held after : OpenLine) : Type 0 where
  pub reference : after.bytes.ghost_name ≡ held.bytes.ghost_name
  pub room : length after.bytes.now ≡ length held.bytes.now

-- bytes are added to a line that is held
pub record Appended (held : OpenLine) (bytes : List ℕ) (after : OpenLine) : Type 0 where
  pub same : SameBuffer held after
  pub holds : (line : List ℕ) → HeldBy line held → HeldBy (line ++ bytes) after

-- a line is taken from a block, up to its line feed or the block's end, behind what is held of it
pub record TakenFrom (block : List ℕ) (held after : OpenLine) (rest : Option (Bor (List ℕ))) : Type 0 where
  pub same : SameBuffer held after
  pub holds : (line : List ℕ) → HeldBy line held → HeldBy (line ++ first_line block) after
  pub behind : MatchOption rest (has_feed block ≡ false) (λ rest. (has_feed block ≡ true) × (rest.now ≡ after_feed block))

-- what a line reads as that is malformed where it is longer than a buffer
abbrev pub well_formed_within : ℕ → ℕ → ℕ → List ℕ → Bool
well_formed_within most count width line = leb (length line) most && well_formed count width line

-- the line that a buffer holds is read
pub record HeldRead (width : ℕ) (buffer : List ℕ) (size : ℕ) (numbers after : List ℕ) (answer : Result (Unit {0}) MalformedLine) : Type 0 where
  pub form :
      (line : List ℕ) → Held line buffer size
      → answer ≡ line_answer (well_formed_within (length buffer) (length numbers) width line)
  pub put :
      (line : List ℕ) → Held line buffer size
      → after ≡ cond (leb (length line) (length buffer)) (line_numbers (length numbers) width line) (replicate (length numbers) 0)

-- a well-formed line with its line feed is read where it stands at a block's start; where none stands there, what the numbers
-- then hold is free
abbrev pub whole_here : ℕ → ℕ → List ℕ → Bool
whole_here count width block = has_feed block && well_formed count width (first_line block)

pub record WholeRead (block : List ℕ) (width : ℕ) (numbers after : List ℕ) (answer : Option (Bor (List ℕ))) : Type 0 where
  pub found :
      MatchOption answer (whole_here (length numbers) width block ≡ false)
      (λ rest. (whole_here (length numbers) width block ≡ true) × (rest.now ≡ after_feed block))
  pub put :
      whole_here (length numbers) width block ≡ true → after ≡ line_numbers (length numbers) width (first_line block)
  pub same : length after ≡ length numbers
