-- A verb of a replay listing over a group that was made, with a store of 40 cells: it tells what the model's listing tells.
use Rattle.std.specs.Prelude.{◌≡◌, List, ℕ, Some}
use Rattle.srt_group_model.specs.Listing.{Line, column, store_length, tell}
use Rattle.srt_group_shown.specs.Tables.{Tables, state_of}
use Rattle.srt_group_shown.specs.Ready.{Ready}
use Rattle.srt_group.specs.Made.{parts_of}
use Rattle.srt_group.specs.declared.Group.{Group}
use Rattle.srt_group_listing.specs.declared.Told.{Told}
use Rattle.srt_group_listing.specs.Telling.{numbers_of}

-- the group after it and what it prints are the model's
pub record TellsVerb (line : Line) (g : Group) (t : Tables) (r : Told) (t' : Tables) (used' : List ℕ) : Type 0 where
  pub told :
      tell (column 0 line) line (Some (state_of (parts_of g) t))
      ≡ record { group = Some (state_of (parts_of r.group) t'); line = numbers_of r.line }
  pub ready : Ready (parts_of r.group) t' store_length used'
