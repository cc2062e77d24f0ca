-- THE PROMISE of a line of a replay listing.
use Rattle.std.specs.Prelude.{◌≡◌, List, ℕ, Option}
use Rattle.srt_group_model.specs.State.{State}
use Rattle.srt_group_model.specs.Listing.{Line, column, tell}
use Rattle.srt_group_shown.specs.Tables.{Tables}
use Rattle.srt_group.specs.declared.Group.{Group}
use Rattle.srt_group_listing.specs.declared.Printed.{Printed}
use Rattle.srt_group_listing.specs.Telling.{numbers_of}
use Rattle.srt_group_replay.specs.declared.Replayed.{Replayed}
use Rattle.srt_group_replay.specs.Lines.{state_over, StandingOver}

-- the group after it, if one stands, and what it prints are those of the model's listing
abbrev pub TellsLine : (line : Line) (s : Option State) → Printed → (s' : Option State) → Type 0
TellsLine line s out s' = tell (column 0 line) line s ≡ record { group = s'; line = numbers_of out }

-- so they are over tables of any length that suffices, and the group stands after it
pub record TellsOver (line : Line) (g : Option Group) (t : Tables) (r : Replayed) (t' : Tables) (used' : List ℕ) : Type 0 where
  pub told : TellsLine line (state_over g t) r.line (state_over r.group t')
  pub stands : StandingOver r.group t' used'

-- verb 1, over any tables
pub record TellsNew (line : Line) (g : Option Group) (used : List ℕ) (r : Replayed) (used' : List ℕ) : Type 0 where
  pub over : (t : Tables) → StandingOver g t used → TellsOver line g t r t used'
