-- What stands between two lines of a replay listing.
use Rattle.std.specs.Prelude.{List, ℕ, None, Option, Some, IfSome}
use Rattle.srt_group_model.specs.State.{State}
use Rattle.srt_group_model.specs.Listing.{store_length}
use Rattle.srt_group_shown.specs.Tables.{Tables, tables, state_of, Long}
use Rattle.srt_group_shown.specs.Ready.{Ready}
use Rattle.srt_group.specs.Made.{parts_of}
use Rattle.srt_group.specs.declared.Group.{Group}
use Rattle.srt_group_replay.specs.declared.Memory.{Memory}

-- the tables of a replay's memory
abbrev pub tables_of : Memory → Tables
tables_of m = tables m.members m.pending m.waiting m.history m.sources

-- the group's state over some tables, none before one was made
abbrev pub state_over : Option Group → Tables → Option State
state_over None t = None
state_over (Some g) t = Some (state_of (parts_of g) t)

-- the tables are long enough, and a group that stands is ready for its next call over them and a store of 40 cells
pub record StandingOver (g : Option Group) (t : Tables) (used : List ℕ) : Type 0 where
  pub long : Long t
  pub ready : IfSome g (λ h. Ready (parts_of h) t store_length used)

-- both, over a replay's memory
abbrev pub standing : Option Group → Memory → Option State
standing g m = state_over g (tables_of m)

abbrev pub Standing : Option Group → Memory → Type 0
Standing g m = StandingOver g (tables_of m) m.used
