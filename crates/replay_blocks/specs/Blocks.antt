-- WHAT THE REPLAY WRITES for a listing, and what the code promises of a block of it: the text of the answers to the lines that the block ends, the
-- group after them, and the line that it leaves open. A block may be cut anywhere (laws, `blocks_replayed`).
use Rattle.std.specs.Prelude.{◌≡◌, List, map, ℕ, ◌≤◌, length, ◌*◌, take, Option}
use Rattle.listing.specs.Line.{line_numbers}
use Rattle.listing.specs.Stream.{lines, ended, open_line, last_line}
use Rattle.listing.specs.Held.{Held, HeldBy, SameBuffer}
use Rattle.listing.specs.declared.stream.OpenLine.{OpenLine}
use Rattle.listing_lines.specs.Text.{texts}
use Rattle.srt_group_model.specs.State.{State}
use Rattle.srt_group_model.specs.Listing.{Line, replay}
use Rattle.replay_rows.specs.Rows.{group_after, prints_from}

-- The bytes of a listing, cut into lines; the eight numbers of each, zeros where it is malformed, since verb 0 prints what a malformed line
-- prints; what document 01's listing prints for them; as text, six columns of 11 a line.
unfoldable pub replayed : List ℕ → List ℕ
replayed stream = texts (replay (map (line_numbers 8 11) (lines stream)))

-- ---- a block

-- There is room for the lines of so many bytes: their rows, the answers to them, and the text of those, 121 bytes a line. Each line ends with a
-- byte of its own, so there are no more lines than bytes.
pub record Roomy (bytes : ℕ) (rows answers : List (List ℕ)) (text : List ℕ) : Type 0 where
  pub read : bytes ≤ length rows
  pub told : bytes ≤ length answers
  pub written : 121 * bytes ≤ length text

-- the lines are answered: their text at the start, and the group after them
pub record RowsAnswered (told : List Line) (s s' : Option State) (out : List ℕ) (end : ℕ) : Type 0 where
  pub inside : end ≤ length out
  pub text : take end out ≡ texts (prints_from s told)
  pub group : s' ≡ group_after s told

-- the numbers of some lines
abbrev pub numbers : List (List ℕ) → List Line
numbers ls = map (line_numbers 8 11) ls

-- the lines that a block ends are answered, whatever line began before it
pub record BlockAnswered (block : List ℕ) (held held' : OpenLine) (s s' : Option State) (out : List ℕ) (end : ℕ) : Type 0 where
  pub same : SameBuffer held held'
  pub inside : end ≤ length out
  pub text : (line : List ℕ) → HeldBy line held → take end out ≡ texts (prints_from s (numbers (ended line block)))
  pub group : (line : List ℕ) → HeldBy line held → s' ≡ group_after s (numbers (ended line block))
  pub open_held : (line : List ℕ) → HeldBy line held → HeldBy (open_line line block) held'

-- the line that the end of the listing ends is answered
pub record LastAnswered (buffer : List ℕ) (size : ℕ) (s : Option State) (out : List ℕ) (end : ℕ) : Type 0 where
  pub inside : end ≤ length out
  pub text : (line : List ℕ) → Held line buffer size → take end out ≡ texts (prints_from s (numbers (last_line line)))
