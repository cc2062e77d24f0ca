-- What is proved of the definitions in specs/Stream.antt, with what the proofs need.
use Rattle.std.specs.Prelude.{ℕ, List, [], ◌∷◌, ◌++◌}
use Rattle.listing.specs.Stream.{ended, open_line, last_line}

-- the lines of a stream that comes in blocks, after the bytes of a line that came before
unfoldable pub lines_of_blocks : List ℕ → List (List ℕ) → List (List ℕ)
lines_of_blocks before [] = last_line before
lines_of_blocks before (block ∷ blocks) = ended before block ++ lines_of_blocks (open_line before block) blocks
