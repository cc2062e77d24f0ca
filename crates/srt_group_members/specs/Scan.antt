-- Loops over the rows of the lent table: what is left of the members from a place on, the first that passes a test, and what a
-- call makes of the members.
use Rattle.std.specs.Prelude.{◌≡◌, Bool, List, ℕ, length, Option, is_some}
use Rattle.srt_group_model.specs.Tools.{if_some◌give◌otherwise◌}
use Rattle.srt_group_model.specs.State.{Member}
use Rattle.srt_group_model.specs.Legs.{is_disconnected}
use Rattle.srt_connection_members.specs.Members.{members_of}

-- ---- definitions

abbrev pub leg_disconnected : Member → Bool
leg_disconnected m = is_disconnected m.leg

-- ---- what a call makes of the first n members of a table, t before and u after

pub record Became (n : ℕ) (ms : List Member) (t u : List ℕ) : Type 0 where
  pub long : length u ≡ length t
  pub is : members_of n u ≡ ms

-- a call that can fail; one that fails changes no member
pub record Tried (n : ℕ) (result : Option (List Member)) (t : List ℕ) (answer : Bool) (u : List ℕ) : Type 0 where
  pub long : length u ≡ length t
  pub succeeded : answer ≡ is_some result
  pub is : members_of n u ≡ (if_some result give (λ ms. ms) otherwise members_of n t)
