-- The state that a record shows over lent tables, and the group that was just made.
use Rattle.srt_protocol.specs.declared.error.Error.{Error}
use Rattle.std.specs.Prelude.{◌≡◌, ℕ, Err, Ok, Result}
use Rattle.srt_protocol.specs.Errors.{error_number}
use Rattle.srt_group_model.specs.State.{State, Making}
use Rattle.srt_group_model.specs.Guards.{no_answer}
use Rattle.srt_group_model.specs.Lent.{Lent}
use Rattle.srt_group_traces.specs.Port.{shows_new}
use Rattle.srt_group_shown.specs.Tables.{Parts, parts, Tables, state_of}
use Rattle.srt_group.specs.declared.Group.{Group}

abbrev pub parts_of : Group → Parts
parts_of g = parts g.identity g.core g.sending g.ring

-- a group of which no row is in use: it shows the same over any tables
pub record Fresh (g : Group) (s : State) : Type 0 where
  pub shows : (t : Tables) → state_of (parts_of g) t ≡ s

-- ---- what `new` answers

abbrev pub new_number : Result Group Error → ℕ
new_number (Ok g) = 0
new_number (Err e) = error_number e

-- what stands after it: the group that was made, or, where it is refused, what stood before
abbrev pub standing : Result Group Error → Tables → State → State
standing (Ok g) t s = state_of (parts_of g) t
standing (Err e) t s = s

-- THE PROMISE of `new` (srt_group_traces, `shows_new`), over any tables
pub record PromisedNew (making : Making) (r : Result Group Error) : Type 0 where
  pub holds : (t : Tables) (bytes : Lent) (s : State)
      → record { state = standing r t s; lent = bytes; code = new_number r; answer = no_answer; rows = 0 } ≡ shows_new making bytes s
