-- What writing a text into a buffer does: the text stands from its start on, and every other byte stays. Without room for
-- the whole text nothing changes.
use Rattle.std.specs.Prelude.{ℕ, ◌+◌, cond, ◌≡◌, List, ◌++◌, leb, length, take, drop, Option, Some, None}

-- a buffer with a text in it at a place
unfoldable pub placed : List ℕ → ℕ → List ℕ → List ℕ
placed buffer at text = take at buffer ++ (text ++ drop (at + length text) buffer)

-- a buffer with a text at its start
abbrev pub begun : List ℕ → List ℕ → List ℕ
begun buffer text = text ++ drop (length text) buffer

-- a text is put at the start of a buffer that has room for it
pub record Placed (buffer text after : List ℕ) (end : ℕ) : Type 0 where
  pub bytes : after ≡ begun buffer text
  pub end_of : end ≡ length text

-- a text is put at a place, or refused where there is no room for it
pub record PlacedOrRefused (buffer : List ℕ) (at : ℕ) (text after : List ℕ) (answer : Option ℕ) : Type 0 where
  pub bytes : after ≡ cond (leb (at + length text) (length buffer)) (placed buffer at text) buffer
  pub end_of : answer ≡ cond (leb (at + length text) (length buffer)) (Some (at + length text)) None
