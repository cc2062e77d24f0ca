-- What is proved of the definitions in specs/Refresh.antt, with what the proofs need.
use Rattle.std.proofs.Math.Path.{◌≡◌, refl, ap}
use Rattle.std.proofs.Common.{sym, ◌∙◌, add-one}
use Rattle.std.specs.Prelude.{Bool, ◌&&◌, length, None, Option, Some, is_some}
use Rattle.std.proofs.Math.Bool.{true, false, not}
use mathlib.Core.List.{List}
use Prim.Native.Nat.{ℕ, suc, ◌+◌, ◌-◌, ◌≤◌, ◌<◌}
use native.Mathlib.Omega.{arith}
use Rattle.srt_group_model.specs.Tools.{if_true◌then◌else◌, if_some◌give◌otherwise◌, change, each}
use Rattle.srt_group_model.specs.State.{Member, is_backup, turned, pending_state, active_state, standby_state, unstable_state, broken_state}
use Rattle.srt_group_model.specs.Legs.{is_connected, is_disconnected, can_send}
use Rattle.srt_group_model.specs.Calls.{state_at_addition}
use Rattle.srt_group_model.specs.Members.{in_state, has_active_member, align_member_sequence, turn_aligned, steps_from, at_each_place, settle, requalify, break_disconnected, promote_if_none, settle_members, requalify_members}
use Rattle.srt_group_model.specs.declared.Leg.{Leg}
use Rattle.srt_connection_members.specs.Members.{member_at, members_of, Changed, ChangedAll}
use Rattle.srt_connection_members.specs.Laws.Members.{members_length, members_place, changed_by, unchanged}
use Rattle.srt_group_members.specs.Scan.{Became, Tried}
use Rattle.srt_group_members.specs.Laws.Scan.{became_same, became_then}
use Rattle.srt_group_members.specs.Refresh.{requalifies, requalified_state}

-- ---- the tests

module _ (m : Member) {connected : Bool} (is : connected ≡ (in_state unstable_state m && is_connected m.leg)) where
  pub stays_unstable : connected ≡ false → false ≡ requalifies m
  unfolding requalifies
  stays_unstable e = go (in_state unstable_state m) (is_connected m.leg) (sym e ∙ is)
    where
      go : (a b : Bool) → false ≡ (a && b) → false ≡ (a && (b && can_send m.leg))
      go true true e = cc e
      go true false e = refl
      go false b e = refl

  pub requalifies_if_sending : {answer : Bool} {leg : Leg} → connected ≡ true → leg ≡ m.leg → answer ≡ can_send leg
      → answer ≡ requalifies m
  unfolding requalifies
  requalifies_if_sending {answer} e is_leg can =
      go (in_state unstable_state m) (is_connected m.leg) (sym e ∙ is) (can ∙ ap can_send is_leg)
    where
      go : (a b : Bool) → true ≡ (a && b) → answer ≡ can_send m.leg → answer ≡ (a && (b && can_send m.leg))
      go true true e can = can
      go true false e can = cc e
      go false b e can = cc e

-- ---- the state of a member at its addition

module _ (mode : ℕ) (l : Leg) (ms : List Member) {answer : Bool} (is : answer ≡ is_connected l) where
  pub added_connected : {state : ℕ} → answer ≡ true → state ≡ requalified_state mode ms → state ≡ state_at_addition mode l ms
  unfolding requalified_state state_at_addition if_true◌then◌else◌
  added_connected e to = to ∙ rw (← is, e) (go (is_backup mode) (has_active_member ms))
    where
      go : (b a : Bool)
          → (if_true b && a then standby_state else active_state)
          ≡ (if_true b then (if_true not a then active_state else standby_state) else active_state)
      go true true = refl
      go true false = refl
      go false a = refl

  module _ {backup : Bool} (in_mode : backup ≡ is_backup mode) (no : answer ≡ false) where
    pub added_standby : backup ≡ true → standby_state ≡ state_at_addition mode l ms
    unfolding state_at_addition if_true◌then◌else◌
    added_standby e = sym (rw (← is, no, ← in_mode, e))

    pub added_pending : backup ≡ false → pending_state ≡ state_at_addition mode l ms
    unfolding state_at_addition if_true◌then◌else◌
    added_pending e = sym (rw (← is, no, ← in_mode, e))

-- ---- the member at a place turns, if it can be aligned

module _ (test : Member → Bool) (state : List Member → ℕ) (number : Option ℕ) (n i : ℕ) (t : List ℕ) (there : i < n)
    {answer : Bool} (is : answer ≡ test (member_at t i)) where
  pub turn_left_out : answer ≡ false → Became n (turn_aligned test state number i (members_of n t)) t t
  unfolding turn_aligned if_true◌then◌else◌ if_some◌give◌otherwise◌
  turn_left_out fails = rw (members_place n t i there, ← is, fails) (became_same n t (members_of n t) refl)

  pub turn_refused : {u : List ℕ} {aligned : Bool} → answer ≡ true
      → Tried n (align_member_sequence number i (members_of n t)) t aligned u → aligned ≡ false → Became n (turn_aligned test state number i (members_of n t)) t u
  unfolding turn_aligned if_true◌then◌else◌ if_some◌give◌otherwise◌
  turn_refused {u} passes tried fails =
      rw (members_place n t i there, ← is, passes)
      (go (align_member_sequence number i (members_of n t)) (sym fails ∙ tried.succeeded) tried.is)
    where
      go : (o : Option (List Member)) → false ≡ is_some o
          → members_of n u ≡ (if_some o give (λ ms. ms) otherwise members_of n t)
          → Became n (if_some o give (λ ms. change i (turned (state ms)) ms) otherwise members_of n t) t u
      go None e same = record { long = tried.long; is = same }
      go (Some ms) e same = let different : ◌≡◌ {A = ℕ} 0 1 = cc in absurd (omega arith)

  pub turn_made : {u v : List ℕ} {aligned : Bool} {turns : ℕ} → answer ≡ true
      → Tried n (align_member_sequence number i (members_of n t)) t aligned u → aligned ≡ true → turns ≡ state (members_of n u)
      → Changed i (turned turns) u v → Became n (turn_aligned test state number i (members_of n t)) t v
  unfolding turn_aligned if_true◌then◌else◌ if_some◌give◌otherwise◌
  turn_made {u} {v} {aligned} {turns} passes tried goes to c =
      rw (members_place n t i there, ← is, passes)
      (go (align_member_sequence number i (members_of n t)) (sym goes ∙ tried.succeeded) tried.is)
    where
      go : (o : Option (List Member)) → true ≡ is_some o
          → members_of n u ≡ (if_some o give (λ ms. ms) otherwise members_of n t)
          → Became n (if_some o give (λ ms. change i (turned (state ms)) ms) otherwise members_of n t) t v
      go None e same = let different : ◌≡◌ {A = ℕ} 0 1 = cc in absurd (omega arith)
      go (Some ms) e same =
          record {
            long = c.long ∙ tried.long;
            is =
                c.members n ∙ ap (λ (s : ℕ). change i (turned s) (members_of n u)) to
                ∙ ap (λ (l : List Member). change i (turned (state l)) l) same;
          }

-- ---- a step at each place

-- the places below i are done; the steps that are left give the rest
pub record Stepping (step : ℕ → List Member → List Member) (n : ℕ) (t : List ℕ) (i : ℕ) (u : List ℕ) : Type 0 where
  pub long : length u ≡ length t
  pub within : i ≤ n
  pub is : steps_from step (n - i) i (members_of n u) ≡ at_each_place step (members_of n t)

module _ (step : ℕ → List Member → List Member) (n : ℕ) (t : List ℕ) where
  pub stepping_start : Stepping step n t 0 t
  stepping_start =
      record {
        long = refl;
        within = omega arith;
        is = ap (λ (k : ℕ). steps_from step k 0 (members_of n t)) (omega (arith, members_length n t));
      }

  pub stepping_on : {v : List ℕ} (i : ℕ) (u : List ℕ) → i < n → Stepping step n t i u → Became n (step i (members_of n u)) u v
      → Stepping step n t (i + 1) v
  unfolding steps_from
  stepping_on {v} i u h so_far b =
      record {
        long = b.long ∙ so_far.long;
        within = omega arith;
        is =
            ap (λ (ms : List Member). steps_from step (n - (i + 1)) (i + 1) ms) b.is
            ∙ ap (λ (j : ℕ). steps_from step (n - (i + 1)) j (step i (members_of n u))) (add-one i)
            ∙ ap (λ (k : ℕ). steps_from step k i (members_of n u)) (sym one_left)
            ∙ so_far.is;
      }
    where
      one_left : n - i ≡ suc (n - (i + 1))
      one_left = omega arith

  pub stepping_done : (i : ℕ) (u : List ℕ) → n ≤ i → Stepping step n t i u → Became n (at_each_place step (members_of n t)) t u
  unfolding steps_from
  stepping_done i u h done =
      record {
        long = done.long;
        is = ap (λ (k : ℕ). steps_from step k i (members_of n u)) none_left ∙ done.is;
      }
    where
      none_left : 0 ≡ n - i
      none_left = omega arith

-- ---- a member whose leg is disconnected turns Broken

module _ (i : ℕ) (t : List ℕ) where
  turned_already : (m : Member) → m.membership.state ≡ broken_state → m ≡ turned broken_state m
  turned_already m e = ap (λ (n : ℕ). turned n m) e

  pub broken_already : {state : ℕ} → state ≡ (member_at t i).membership.state → state ≡ broken_state → Changed i break_disconnected t t
  unfolding break_disconnected if_true◌then◌else◌
  broken_already is broken =
      changed_by i t t break_disconnected (unchanged i t) (go (is_disconnected (member_at t i).leg))
    where
      same : member_at t i ≡ turned broken_state (member_at t i)
      same = turned_already (member_at t i) (sym is ∙ broken)

      go : (b : Bool) → member_at t i ≡ (if_true b then turned broken_state (member_at t i) else member_at t i)
      go true = same
      go false = refl

  module _ {answer : Bool} (is : answer ≡ is_disconnected (member_at t i).leg) where
    pub not_broken : answer ≡ false → Changed i break_disconnected t t
    unfolding break_disconnected if_true◌then◌else◌
    not_broken e = changed_by i t t break_disconnected (unchanged i t) (sym (rw (← is, e)))

    pub broken_now : {u : List ℕ} → answer ≡ true → Changed i (turned broken_state) t u → Changed i break_disconnected t u
    unfolding break_disconnected if_true◌then◌else◌
    broken_now {u} e c = changed_by i t u break_disconnected c (sym (rw (← is, e)))

pub became_each : {f : Member → Member} (n : ℕ) (t u : List ℕ) → ChangedAll n f t u → Became n (each f (members_of n t)) t u
became_each n t u c = record { long = c.long; is = c.members }

-- ---- the two calls

module _ (n : ℕ) (mode : ℕ) (number : Option ℕ) (t u v : List ℕ) where
  pub settled : Became n (at_each_place (settle mode number) (members_of n t)) t u
      → Became n (promote_if_none mode (members_of n u)) u v → Became n (settle_members mode number (members_of n t)) t v
  unfolding settle_members
  settled a b = became_then n (promote_if_none mode) t u v a b

  pub requalified : (w : List ℕ) → Became n (each break_disconnected (members_of n t)) t u
      → Became n (at_each_place (requalify mode number) (members_of n u)) u v → Became n (promote_if_none mode (members_of n v)) v w
      → Became n (requalify_members mode number (members_of n t)) t w
  unfolding requalify_members
  requalified w a b c =
      became_then n (promote_if_none mode) t v w (became_then n (at_each_place (requalify mode number)) t u v a b) c
