-- What is proved of the definitions in specs/Readiness.antt, with what the proofs need.
use Rattle.std.specs.Prelude.{◌≡◌, Bool, true, false, ◌||◌, List, [], ◌∷◌, None, Option, Some}
use Rattle.std.proofs.Math.Path.{refl, ap, sym}
use Rattle.std.proofs.Common.{◌∙◌, eq-eqb, ne_eqb}
use Prim.Native.Nat.{ℕ, min}
use native.Mathlib.Omega.{arith}
use Rattle.std.proofs.Math.Dec.{eqb}
use Rattle.std.specs.List.{fold, reduce, filter_map, cons_option}
use Rattle.std.specs.Option.{option_map, unwrap_or}
use Rattle.srt_group_model.specs.Tools.{if_true◌then◌else◌, if_some◌give◌otherwise◌}
use Rattle.srt_group_model.specs.State.{Member, active_state, standby_state}
use Rattle.srt_group_model.specs.Legs.{time_until_send}
use Rattle.srt_group_model.specs.Members.{in_state}
use Rattle.srt_group_model.specs.Backup.{least_time, group_time_until_send}
use Rattle.srt_group_model.specs.declared.Leg.{Leg}
use Rattle.srt_connection_queue.specs.Rows.{member_of}
use Rattle.srt_connection_members.specs.Members.{members_in}
use Rattle.srt_group_sending.specs.Readiness.{may_carry, wait_of}

-- ---- the least wait

pub active_carries : (state : ℕ) → state ≡ active_state → true ≡ may_carry state
unfolding may_carry
active_carries state e = sym (rw (eq-eqb state active_state e))

pub standby_carries : (state : ℕ) → (state ≡ active_state → ⊥) → eqb state standby_state ≡ may_carry state
unfolding may_carry
standby_carries state h = sym (rw (ne_eqb state active_state h))

module _ (time : ℕ) (m : Member) {state : ℕ} {carries : Bool} (is : state ≡ m.membership.state) (is_carries : carries ≡ may_carry state) where
  carrying : (in_state active_state m || in_state standby_state m) ≡ carries
  unfolding may_carry
  carrying = sym (is_carries ∙ ap (λ (k : ℕ). eqb k active_state || eqb k standby_state) is)

  pub no_wait : carries ≡ false → None ≡ wait_of time m
  unfolding wait_of if_true◌then◌else◌
  no_wait e = sym (rw (carrying, e) refl)

  pub waits : {leg : Leg} {wait : ℕ} → carries ≡ true → leg ≡ m.leg → wait ≡ time_until_send time leg → Some wait ≡ wait_of time m
  unfolding wait_of if_true◌then◌else◌
  waits e is_leg is_wait =
      sym (rw (carrying, e) (ap (λ (n : ℕ). Some n) (sym (is_wait ∙ ap (λ (l : Leg). time_until_send time l) is_leg))))

-- the least from the first on, and that of all
fold_min : (a : ℕ) (ns : List ℕ) → fold min a ns ≡ (if_some reduce min ns give (λ n. min a n) otherwise a)
unfolding if_some◌give◌otherwise◌
fold_min a [] = refl
fold_min a (n ∷ ns) = fold_min (min a n) ns ∙ go (reduce min ns) ∙ ap (min a) (sym (fold_min n ns))
  where
    go : (o : Option ℕ) → (if_some o give (λ k. min (min a n) k) otherwise min a n) ≡ min a (if_some o give (λ k. min n k) otherwise n)
    go None = refl
    go (Some k) = omega arith

-- the waits of the members that rows show
abbrev pub waits_in : ℕ → List (List ℕ) → List ℕ
waits_in time rows = filter_map (λ row. wait_of time (member_of row)) rows

pub least_of_waits : (time : ℕ) (rows : List (List ℕ)) → reduce min (waits_in time rows) ≡ least_time time (members_in rows)
unfolding least_time wait_of if_true◌then◌else◌ if_some◌give◌otherwise◌
least_of_waits time [] = refl
least_of_waits time (row ∷ rows) =
    go (in_state active_state (member_of row) || in_state standby_state (member_of row)) (least_of_waits time rows)
  where
    wait : ℕ
    wait = time_until_send time (member_of row).leg

    inside : (o : Option ℕ) → Some (if_some o give (λ n. min wait n) otherwise wait) ≡ (if_some o give (λ n. Some (min wait n)) otherwise Some wait)
    inside None = refl
    inside (Some n) = refl

    go : (b : Bool) → reduce min (waits_in time rows) ≡ least_time time (members_in rows)
        → reduce min (cons_option (if_true b then Some wait else None) (waits_in time rows))
        ≡ (if_true b
        then (if_some least_time time (members_in rows) give (λ n. Some (min wait n)) otherwise Some wait)
        else least_time time (members_in rows))
    go true behind =
        ap (λ (n : ℕ). Some n) (fold_min wait (waits_in time rows))
        ∙ inside (reduce min (waits_in time rows))
        ∙ ap (λ (o : Option ℕ). if_some o give (λ n. Some (min wait n)) otherwise Some wait) behind
    go false behind = behind

pub least_wait : (time : ℕ) (rows : List (List ℕ)) (least : Option ℕ) → option_map (λ n. n) least ≡ reduce min (waits_in time rows)
    → unwrap_or least 100000 ≡ group_time_until_send time (members_in rows)
unfolding group_time_until_send if_some◌give◌otherwise◌
least_wait time rows least is =
    by least ∙ ap (λ (o : Option ℕ). if_some o give (λ n. n) otherwise 100000) (is ∙ least_of_waits time rows)
  where
    by : (o : Option ℕ) → unwrap_or o 100000 ≡ (if_some option_map (λ n. n) o give (λ n. n) otherwise 100000)
    by None = refl
    by (Some n) = refl
