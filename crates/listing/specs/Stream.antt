-- The lines of a stream of bytes (document 01, "The replay listing": a program reads standard input, so many numbers a
-- line): a line feed, byte 10, ends a line and is no part of it. A last line without line feed counts, and an empty stream has no
-- line. Then the same for a stream that comes in blocks: the lines that a block ends, after the bytes of a line that
-- began before it, and the bytes of the line that it leaves open.
use Rattle.std.specs.Prelude.{ℕ, Bool, true, false, cond, List, [], ◌∷◌, ◌++◌, eqb}

abbrev pub is_feed : ℕ → Bool
is_feed byte = eqb byte 10

-- a byte in front of the first of some lines, which is a line of its own where there is none
unfoldable pub in_front : ℕ → List (List ℕ) → List (List ℕ)
in_front byte [] = (byte ∷ []) ∷ []
in_front byte (line ∷ lines) = (byte ∷ line) ∷ lines

-- the lines of a stream
unfoldable pub lines : List ℕ → List (List ℕ)
lines [] = []
lines (byte ∷ stream) = cond (is_feed byte) ([] ∷ lines stream) (in_front byte (lines stream))

-- a stream that came in blocks, put together
unfoldable pub joined : List (List ℕ) → List ℕ
joined [] = []
joined (block ∷ blocks) = block ++ joined blocks

-- whether a stream has a line feed
unfoldable pub has_feed : List ℕ → Bool
has_feed [] = false
has_feed (byte ∷ stream) = cond (is_feed byte) true (has_feed stream)

-- the bytes before the first line feed, or all where there is none
unfoldable pub first_line : List ℕ → List ℕ
first_line [] = []
first_line (byte ∷ stream) = cond (is_feed byte) [] (byte ∷ first_line stream)

-- the bytes after the first line feed
unfoldable pub after_feed : List ℕ → List ℕ
after_feed [] = []
after_feed (byte ∷ stream) = cond (is_feed byte) stream (after_feed stream)

-- the lines that end in a block, the first of them after the bytes of it that came before
unfoldable pub ended : List ℕ → List ℕ → List (List ℕ)
ended before [] = []
ended before (byte ∷ block) = cond (is_feed byte) (before ∷ ended [] block) (ended (before ++ (byte ∷ [])) block)

-- the bytes of the line that a block leaves open
unfoldable pub open_line : List ℕ → List ℕ → List ℕ
open_line before [] = before
open_line before (byte ∷ block) = cond (is_feed byte) (open_line [] block) (open_line (before ++ (byte ∷ [])) block)

-- the line that the end of the stream ends: none where no byte of it came
unfoldable pub last_line : List ℕ → List (List ℕ)
last_line [] = []
last_line (byte ∷ line) = (byte ∷ line) ∷ []
