-- When a refresh of the members' states changes nothing: a test that is enough, over three words of each member.
use Rattle.std.specs.Prelude.{Bool, not, ◌&&◌, ◌||◌, List, ℕ, eqb}
use Rattle.srt_group_model.specs.Tools.{all}
use Rattle.srt_group_model.specs.State.{Member, is_backup, active_state, standby_state, broken_state}
use Rattle.srt_group_model.specs.Legs.{handshaking, is_connected}
use Rattle.srt_group_model.specs.Members.{in_state, has_active_member}

-- ---- definitions

-- Broken; or still handshaking; or connected, admitted, and Active or Standby
unfoldable pub is_steady : Member → Bool
is_steady m =
    in_state broken_state m
    || (eqb m.leg.link.state handshaking
    || (is_connected m.leg
    && (not (eqb m.membership.admitted 0) && (in_state active_state m || in_state standby_state m))))

-- every member is steady, and in Backup one is active
unfoldable pub is_quiet : ℕ → List Member → Bool
is_quiet mode ms = all is_steady ms && (not (is_backup mode) || has_active_member ms)
