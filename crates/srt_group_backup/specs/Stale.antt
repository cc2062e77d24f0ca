-- A carrier that fell silent: what its round trip may be, and which members a demotion leaves.
use Rattle.std.specs.Prelude.{◌≤◌}
use Rattle.srt_group_model.specs.Legs.{largest_32}
use Rattle.srt_group_model.specs.declared.Leg.{Leg}

-- the round trip is as a reading leaves it, so that the timeout is a 64-bit number
pub record TripFit (l : Leg) : Type 0 where
  pub srtt : l.trip.srtt ≤ largest_32
  pub rttvar : l.trip.rttvar ≤ largest_32
