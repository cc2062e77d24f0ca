-- Alignment of a member's send sequence with the group's.
use Rattle.std.specs.Prelude.{◌≡◌, Bool, not, ◌&&◌, List, ℕ, is_some}
use Rattle.srt_group_model.specs.Tools.{if_some◌give◌otherwise◌}
use Rattle.srt_group_model.specs.State.{Member, with_leg}
use Rattle.srt_group_model.specs.Legs.{is_connected, has_sender}
use Rattle.srt_group_model.specs.Members.{has_id, align_leg}
use Rattle.srt_connection_members.specs.Members.{member_at, Changed}

-- ---- definitions

-- another member than the one with the id, whose next number is taken where the group has none
unfoldable pub is_other_sender : ℕ → Member → Bool
is_other_sender id m = not (has_id id m) && (is_connected m.leg && has_sender m.leg)

-- the leg at i is aligned with a sequence, or that fails and nothing is changed
pub record AlignedAt (i sequence : ℕ) (t : List ℕ) (answer : Bool) (u : List ℕ) : Type 0 where
  pub aligned : answer ≡ is_some (align_leg sequence (member_at t i).leg)
  pub changed : Changed i (λ m. if_some align_leg sequence m.leg give (λ l. with_leg l m) otherwise m) t u
