-- The lines of a listing over the group, one after the other: what each line of the model's listing leaves and prints, and what the code promises of
-- all rows of eight numbers.
use Rattle.std.specs.Prelude.{◌≡◌, List, ℕ, Option}
use Rattle.listing_lines.specs.Answers.{state_after, answers_from}
use Rattle.srt_group_model.specs.State.{State}
use Rattle.srt_group_model.specs.Listing.{Line, column, tell}

-- ---- a line of the model's listing

-- the group after it, and what it prints
abbrev pub after_line : Option State → Line → Option State
after_line s line = (tell (column 0 line) line s).group

abbrev pub print_of : Option State → Line → List ℕ
print_of s line = (tell (column 0 line) line s).line

-- the group after some lines, and what they print
abbrev pub group_after : Option State → List Line → Option State
group_after s lines = state_after after_line s lines

abbrev pub prints_from : Option State → List Line → List (List ℕ)
prints_from s lines = answers_from after_line print_of s lines

-- ---- rows of numbers

-- all lines are told: what they print, and the group after them
pub record RowsTold (lines : List Line) (s s' : Option State) (printed : List (List ℕ)) : Type 0 where
  pub prints : printed ≡ prints_from s lines
  pub group : s' ≡ group_after s lines
