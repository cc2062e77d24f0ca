-- What is proved of the definitions in specs/Rows.antt, with what the proofs need.
use Rattle.std.specs.Prelude.{◌≡◌, refl, ℕ, ◌+◌, ◌<◌, ◌≤◌, length, take, get_or, Option}
use Rattle.std.proofs.Math.ListN.{set}
use Rattle.std.proofs.Math.Path.{ap, ap₂, sym}
use Rattle.std.proofs.Common.{◌∙◌, arith}
use Rattle.std.proofs.lemmas.List.{take_more, take_more_set}
use mathlib.Core.List.{List, [], ◌∷◌, ◌++◌}
use Rattle.listing_lines.specs.Answers.{state_after, answers_from}
use Rattle.listing_lines.specs.Laws.Answers.{state_append, answers_append}
use Rattle.srt_group_model.specs.State.{State}
use Rattle.srt_group_model.specs.Listing.{Line, Told, replay_from}
use Rattle.srt_group_listing.specs.declared.Printed.{Printed}
use Rattle.srt_group_listing.specs.Telling.{numbers_of}
use Rattle.srt_group_replay.specs.Told.{TellsLine}
use Rattle.replay_rows.specs.Rows.{after_line, print_of, group_after, prints_from, RowsTold}

-- what the lines print one after the other is the model's replay
pub prints_are_replay : (s : Option State) (lines : List Line) → prints_from s lines ≡ replay_from s lines
unfolding answers_from replay_from
prints_are_replay s [] = refl
prints_are_replay s (line ∷ lines) = ap (λ (ls : List (List ℕ)). print_of s line ∷ ls) (prints_are_replay (after_line s line) lines)

-- no row yet
pub none_told : (s : Option State) → RowsTold [] s s []
unfolding answers_from state_after
none_told s = record { prints = refl; group = refl }

-- one row more
pub one_more_told : (rows answers : List (List ℕ)) (index : ℕ) {s s' : Option State} → index < length rows → length rows ≤ length answers
    → RowsTold (take index rows) s s' (take index answers)
    → (r : Printed) {s'' : Option State} → TellsLine (get_or rows index []) s' r s''
    → RowsTold (take (index + 1) rows) s s'' (take (index + 1) (set answers index (numbers_of r)))
unfolding answers_from state_after
one_more_told rows answers index {s} {s'} inside room done r {s''} tells =
    record {
      prints =
          take_more_set answers index (numbers_of r) there
          ∙ ap₂ (λ (a : List (List ℕ)) (x : List ℕ). a ++ (x ∷ [])) done.prints
          (sym (ap (λ (x : Told). x.line) tells) ∙ ap (λ (x : Option State). print_of x line) done.group)
          ∙ sym (answers_append after_line print_of s (take index rows) (line ∷ []))
          ∙ ap (prints_from s) (sym longer);
      group = sym (ap (λ (x : Told). x.group) tells) ∙ ap (λ (x : Option State). after_line x line) done.group
          ∙ sym (state_append after_line s (take index rows) (line ∷ [])) ∙ ap (group_after s) (sym longer);
    }
  where
    line : Line
    line = get_or rows index []

    there : index < length answers
    there = omega arith

    longer : take (index + 1) rows ≡ take index rows ++ (line ∷ [])
    longer = take_more rows index [] inside
