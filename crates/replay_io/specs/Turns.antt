-- WHAT A TURN OF THE REPLAY DOES, over any reader and writer: `left` are the bytes that a reader has yet to give, `written` those that a writer
-- holds, each where it is known.
use Rattle.std.specs.Prelude.{◌≡◌, ℕ, Option, List, ◌<◌, ◌≤◌, length, take}
use Rattle.std.specs.Io.KnownBytes.{Consumes, Appends, IsAtEnd}
use Rattle.listing.specs.Stream.{ended, open_line, last_line}
use Rattle.listing.specs.Held.{Held, HeldBy}
use Rattle.listing_lines.specs.Text.{texts}
use Rattle.replay_rows.specs.Rows.{group_after, prints_from}
use Rattle.replay_blocks.specs.Blocks.{replayed, numbers}
use Rattle.listing.specs.declared.stream.OpenLine.{OpenLine}
use Rattle.srt_group_model.specs.State.{State}

-- a block is what a read gives: so many bytes, none only at the listing's end or where a block has no room
pub record BlockRead (left left' : Option (List ℕ)) (count : ℕ) (block : List ℕ) : Type 0 where
  pub inside : count ≤ length block
  pub read : Consumes left left' (take count block)
  pub at_end : count ≡ 0 → 0 < length block → IsAtEnd left'

-- it is answered and written: the text of the answers to the lines that it ends, whatever line began before it; the group after them, and the
-- line that it leaves open
pub record BlockReplayed (block : List ℕ) (held held' : OpenLine) (s s' : Option State) (written written' : Option (List ℕ)) : Type 0 where
  pub text : (line : List ℕ) → HeldBy line held → Appends written written' (texts (prints_from s (numbers (ended line block))))
  pub group : (line : List ℕ) → HeldBy line held → s' ≡ group_after s (numbers (ended line block))
  pub open_held : (line : List ℕ) → HeldBy line held → HeldBy (open_line line block) held'

-- so is the line that the listing's end ends
pub record LastReplayed (buffer : List ℕ) (size : ℕ) (s : Option State) (written written' : Option (List ℕ)) : Type 0 where
  pub text : (line : List ℕ) → Held line buffer size → Appends written written' (texts (prints_from s (numbers (last_line line))))

-- THE PROMISE of a replay: a listing is read to its end, and what is written is its replay
pub record ListingReplayed (left left' written written' : Option (List ℕ)) : Type 0 where
  pub listing : List ℕ
  pub read : Consumes left left' listing
  pub at_end : IsAtEnd left'
  pub text : Appends written written' (replayed listing)
