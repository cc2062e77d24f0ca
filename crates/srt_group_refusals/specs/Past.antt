-- The past of a group in code: the steps that its public calls have made since `new`, as srt_group_traces has them (Port), and the
-- record and the tables that stand after them. While nobody else writes these, each call makes it one step longer (laws/Port),
-- so what PortTheorem and OwnCalls claim of `performed` holds of the calls as they were made.
use Rattle.std.specs.Prelude.{◌≡◌, List}
use Rattle.srt_group_model.specs.State.{Making}
use Rattle.srt_group_model.specs.Calls.{new, new_code}
use Rattle.srt_group_traces.specs.Port.{Taken, Performed, all_shown, last_shown}
use Rattle.srt_group_shown.specs.Tables.{Parts, Tables, state_of}

pub record Past (making : Making) (steps : List Taken) (p : Parts) (t : Tables) : Type 0 where
  pub accepted : new_code making ≡ 0
  pub performed : Performed (new making) steps
  -- what the last step shows is what stands
  pub stands : last_shown (new making) (all_shown steps) ≡ state_of p t
