-- What is proved of the definitions in specs/Answers.antt, with what the proofs need.
use Rattle.std.specs.Prelude.{◌≡◌, refl, Bool, true, false, ◌&&◌, ℕ, ◌<◌, ltb, None, Option, Some}
use Rattle.std.proofs.Math.Decide.{dec_lt}
use Rattle.std.proofs.Common.{arith, ltb-true}
use Rattle.srt_group_model.specs.Legs.{is_connected, remaining_window_packets, can_send}
use Rattle.srt_group_model.specs.declared.Leg.{Leg}

pub result_ok : (o : Option Leg) (l : Leg) → Some l ≡ o → o ≡ Some l
result_ok None l e = cc e
result_ok (Some k) l e = cc e

pub result_err : (o : Option Leg) → None ≡ o → o ≡ None
result_err None e = refl
result_err (Some k) e = cc e

-- a leg that can send has room in its window
pub window_left : (l : Leg) → can_send l ≡ true → l.sender.flight < l.sender.window
unfolding can_send
window_left l can = go (is_connected l) (dec_lt l.sender.flight l.sender.window) can
  where
    go : (b : Bool) → Dec (l.sender.flight < l.sender.window) → (b && ltb 0 (remaining_window_packets l)) ≡ true
        → l.sender.flight < l.sender.window
    go b (yes room) is = room
    go true (no none_left) is = omega (arith, ltb-true 0 (remaining_window_packets l) is)
    go false (no none_left) is = let different : ◌≡◌ {A = ℕ} 0 1 = cc in omega arith
