-- What is answered to the lines of a stream, one after the other, where a state is kept from line to line: `told` is the answer to the
-- numbers of a line in a state, `after` the state behind it. Then the same for a stream that comes in blocks, as a program does it.
use Rattle.std.specs.Prelude.{ℕ, List, [], ◌∷◌, ◌++◌, map}
use Rattle.listing.specs.Line.{line_numbers}
use Rattle.listing.specs.Stream.{ended, open_line, last_line}
use Rattle.listing_lines.specs.Text.{texts}

-- the state behind some lines
unfoldable pub state_after : {S : Type 0} → (S → List ℕ → S) → S → List (List ℕ) → S
state_after after state [] = state
state_after after state (numbers ∷ lines) = state_after after (after state numbers) lines

module _ {S : Type 0} (after : S → List ℕ → S) (told : S → List ℕ → List ℕ) where
  -- the answers to some lines, an answer each
  unfoldable pub answers_from : S → List (List ℕ) → List (List ℕ)
  answers_from state [] = []
  answers_from state (numbers ∷ lines) = told state numbers ∷ answers_from (after state numbers) lines

  -- what is written for blocks, after the bytes of a line that came before: the text of the answers to the lines that a block ends; the
  -- state and the open line go on to the next block, and the end of the stream ends the last line
  unfoldable pub written_for_blocks : S → List ℕ → List (List ℕ) → List ℕ
  written_for_blocks state before [] = texts (answers_from state (map (line_numbers 8 11) (last_line before)))
  written_for_blocks state before (block ∷ blocks) =
      texts (answers_from state (map (line_numbers 8 11) (ended before block)))
      ++ written_for_blocks (state_after after state (map (line_numbers 8 11) (ended before block))) (open_line before block) blocks
