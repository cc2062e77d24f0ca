-- Which rows a block of a listing fills: a row of 8 numbers for each line that the block ends, zeros where it is malformed. Said over
-- the bytes of the line that began before the block, which a buffer holds (Held.Held of `listing`).
use Rattle.std.specs.Prelude.{ℕ, ◌≤◌, ◌≡◌, true, false, List, [], ◌∷◌, ◌++◌, map, length, take, Option}
use Rattle.std.specs.Option.{MatchOption}
use denote.Ref.{Bor}
use Rattle.listing.specs.Line.{line_numbers}
use Rattle.listing.specs.Stream.{has_feed, first_line, after_feed, ended, open_line, last_line}
use Rattle.listing.specs.Held.{Held, HeldBy, SameBuffer}
use Rattle.listing.specs.declared.stream.OpenLine.{OpenLine}

-- the lines that a block ends are taken: how many they are, a row each, and the line that the block leaves open is held
pub record LinesTakenFrom (block : List ℕ) (held after : OpenLine) (rows : List (List ℕ)) (count : ℕ) : Type 0 where
  pub same : SameBuffer held after
  pub few : count ≤ length block
  pub filled : (line : List ℕ) → HeldBy line held → take count rows ≡ map (line_numbers 8 11) (ended line block)
  pub open_held : (line : List ℕ) → HeldBy line held → HeldBy (open_line line block) after

-- the line that the block's first line feed ends is taken, and the rest is left; or there is none, and the whole block is held
pub record LineTakenFrom (block : List ℕ) (held after : OpenLine) (row : List ℕ) (rest : Option (Bor (List ℕ))) : Type 0 where
  pub same : SameBuffer held after
  pub taken :
      MatchOption rest ((has_feed block ≡ false) × ((line : List ℕ) → HeldBy line held → HeldBy (line ++ block) after))
      (λ rest. (has_feed block ≡ true) × (rest.now ≡ after_feed block) × HeldBy [] after
      × ((line : List ℕ) → HeldBy line held → row ≡ line_numbers 8 11 (line ++ first_line block)))

-- the line that the end of the stream ends is read, where there is one
abbrev pub LastLineTaken : List ℕ → ℕ → Option (List ℕ) → Type 0
LastLineTaken buffer size row =
    (line : List ℕ) → Held line buffer size
    → MatchOption row (last_line line ≡ []) (λ row. map (line_numbers 8 11) (last_line line) ≡ row ∷ [])
