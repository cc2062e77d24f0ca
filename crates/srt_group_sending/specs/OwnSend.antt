-- The call's own payload on one member.
use Rattle.std.specs.Prelude.{◌≡◌, Bool, [], ◌∷◌, ℕ, ◌+◌, is_some}
use Rattle.srt_group_model.specs.Tools.{if_true◌then◌else◌, if_some◌give◌otherwise◌}
use Rattle.srt_group_model.specs.State.{Member, with_leg}
use Rattle.srt_group_model.specs.Legs.{send_shared_with_sequence}
use Rattle.srt_group_model.specs.Sending.{own_send}
use Rattle.srt_connection_members.specs.Members.{member_at, Changed}
use Rattle.srt_group_sending.specs.SentList.{SendTables, Wrote}

-- ---- definitions

-- a member after a send that may fail
abbrev pub after_own_send : (time size sequence : ℕ) → Member → Member
after_own_send time size sequence m =
    if_some send_shared_with_sequence time size sequence m.leg give (λ l. with_leg l m) otherwise m

-- whether the send succeeded, and then its row in the list
pub record SentOn (time size sequence i sent : ℕ) (before : SendTables) (answer : Bool) (after : SendTables) : Type 0 where
  pub succeeded : answer ≡ is_some (send_shared_with_sequence time size sequence (member_at before.members i).leg)
  pub changed : Changed i (after_own_send time size sequence) before.members after.members
  pub written : Wrote sent (if_true answer then own_send time sequence (member_at before.members i) ∷ [] else []) before.list
      (if_true answer then sent + 1 else sent) after.list
