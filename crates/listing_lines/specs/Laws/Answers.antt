-- What is written for the blocks of a stream is the text of the answers to the lines of the whole, whatever the cut into blocks.
use Rattle.std.specs.Prelude.{ℕ, ◌≡◌}
use Rattle.std.proofs.Math.Path.{refl, ap}
use Rattle.std.proofs.Common.{sym, ◌∙◌}
use mathlib.Core.List.{List, [], ◌∷◌, ◌++◌, map, map-append}
use Rattle.listing.specs.Line.{line_numbers}
use Rattle.listing.specs.Stream.{lines, joined, ended, open_line}
use Rattle.listing.specs.Laws.Stream.{lines_of_blocks}
use Rattle.listing.proofs.StreamLaws.{lines_of_blocks_are_lines}
use Rattle.listing_lines.specs.Text.{texts}
use Rattle.listing_lines.specs.Answers.{state_after, answers_from, written_for_blocks}
use Rattle.listing_lines.specs.Laws.Text.{texts_append}

-- the state after some lines, and after those behind them
pub state_append : {S : Type 0} (after : S → List ℕ → S) (state : S) (a b : List (List ℕ)) → state_after after state (a ++ b) ≡ state_after after (state_after after state a) b
unfolding state_after
state_append after state [] b = refl
state_append after state (numbers ∷ a) b = state_append after (after state numbers) a b

module _ {S : Type 0} (after : S → List ℕ → S) (told : S → List ℕ → List ℕ) where
  -- the answers to some lines, and those to the lines behind them
  pub answers_append :
      (state : S) (a b : List (List ℕ))
      → answers_from after told state (a ++ b) ≡ answers_from after told state a ++ answers_from after told (state_after after state a) b
  unfolding answers_from state_after
  answers_append state [] b = refl
  answers_append state (numbers ∷ a) b =
      ap (λ (rest : List (List ℕ)). told state numbers ∷ rest) (answers_append (after state numbers) a b)

  written_after :
      (state : S) (before : List ℕ) (blocks : List (List ℕ))
      → written_for_blocks after told state before blocks
      ≡ texts (answers_from after told state (map (line_numbers 8 11) (lines_of_blocks before blocks)))
  unfolding written_for_blocks lines_of_blocks
  written_after state before [] = refl
  written_after state before (block ∷ blocks) =
      let here = map (line_numbers 8 11) (ended before block) in
      let then = map (line_numbers 8 11) (lines_of_blocks (open_line before block) blocks) in
      rw (
        written_after (state_after after state here) (open_line before block) blocks,
        map-append (line_numbers 8 11) (ended before block) (lines_of_blocks (open_line before block) blocks),
        answers_append state here then,
      )
      (sym (texts_append (answers_from after told state here) (answers_from after told (state_after after state here) then)))

  pub written_is_answers :
      (state : S) (blocks : List (List ℕ))
      → written_for_blocks after told state [] blocks
      ≡ texts (answers_from after told state (map (line_numbers 8 11) (lines (joined blocks))))
  written_is_answers state blocks =
      written_after state [] blocks
      ∙ ap (λ (all : List (List ℕ)). texts (answers_from after told state (map (line_numbers 8 11) all))) (lines_of_blocks_are_lines blocks)
