-- What is proved of the definitions in specs/Admission.antt, with what the proofs need.
use Rattle.std.specs.Prelude.{◌≡◌, Bool, ◌&&◌, ◌||◌, List, [], ◌∷◌, drop, None, Option, Some}
use Rattle.std.specs.Option.{option_or}
use Rattle.std.proofs.Math.Path.{refl, ap, sym}
use Rattle.std.proofs.Common.{◌∙◌, arith}
use Rattle.std.proofs.Math.Bool.{true, false}
use Prim.Native.Nat.{ℕ, ◌+◌, ◌≤◌, ◌<◌}
use borrow.Author.Tests.{eq-eqb, ne_eqb}
use Rattle.std.proofs.Math.Dec.{eqb}
use Rattle.srt_group_model.specs.Tools.{if_true◌then◌else◌, or_else}
use Rattle.srt_group_model.specs.State.{Member, on_membership, with_admitted, with_collision, broken_state}
use Rattle.srt_group_model.specs.Legs.{is_connected, peer_initial_sequence}
use Rattle.srt_group_model.specs.Members.{arrives, base_after, peer_after, admit_peer_group}
use Rattle.srt_group_model.specs.Laws.Arrivals.{base_after_none, base_after_one, base_after_next, peer_after_none, peer_after_one, peer_after_next, peer_stays}
use Rattle.srt_group_model.specs.declared.Leg.{Leg}
use Rattle.srt_group_model.specs.declared.Membership.{Membership}
use Rattle.srt_connection_queue.specs.Rows.{with_membership}
use Rattle.srt_connection_members.specs.Members.{member_at, members_of, Changed, ChangedAll}
use Rattle.srt_connection_members.specs.Laws.Members.{changed_by, unchanged, Changing, changing_start, changing_on, changing_done}
use Rattle.srt_group_members.specs.Laws.Scan.{left_next, left_none}
use Rattle.srt_group_members.specs.declared.admission.Admission.{Admission}
use Rattle.srt_group_members.specs.Admission.{membership_after, Answered, AdmittedAt, Admitted}

-- ---- the tests

module _ (m : Member) {x : Membership} (membership : x ≡ m.membership) where
  pub admitted_does_not_arrive : (x.admitted ≡ 0 → ⊥) → false ≡ arrives m
  unfolding arrives
  admitted_does_not_arrive h = sym (rw (← membership, ne_eqb x.admitted 0 h))

  pub broken_does_not_arrive : x.state ≡ broken_state → false ≡ arrives m
  unfolding arrives
  broken_does_not_arrive h = sym (rw (← membership, eq-eqb x.state broken_state h) (go (eqb x.admitted 0)))
    where
      go : (b : Bool) → (b && false) ≡ false
      go true = refl
      go false = refl

  -- cited by no proof: it stands for who reads `arrives`
  pub arrives_if_connected : {answer : Bool} → x.admitted ≡ 0 → (x.state ≡ broken_state → ⊥) → answer ≡ is_connected m.leg
      → answer ≡ arrives m
  unfolding arrives
  arrives_if_connected new other is =
      is ∙ sym (rw (← membership, eq-eqb x.admitted 0 new, ne_eqb x.state broken_state other))

-- ---- one member

-- std's `or` is the model's
or_is : (o p : Option ℕ) → option_or o p ≡ or_else o p
unfolding or_else
or_is None p = refl
or_is (Some n) p = refl

module _ (before : Admission) (leg : Leg) where
  pub answered_as : {peer : ℕ} {first base : Option ℕ} → peer ≡ (if_true eqb before.peer 0 then leg.link.peer else before.peer)
      → first ≡ peer_initial_sequence leg → base ≡ option_or before.base first
      → Answered before leg record { peer = peer; base = base }
  answered_as peer first base =
      record { peer = peer; base = base ∙ or_is before.base _ ∙ ap (or_else before.base) first }

module _ (i : ℕ) (t : List ℕ) (before : Admission) {arriving : Bool} (is : arriving ≡ arrives (member_at t i)) where
  pub admitted_not_arriving : arriving ≡ false → AdmittedAt i t before before t
  unfolding admit_peer_group if_true◌then◌else◌
  admitted_not_arriving stays =
      record {
        peer = sym (peer_after_one before.peer (member_at t i) ∙ rw (← is, stays));
        base = sym (base_after_one before.base (member_at t i) ∙ rw (← is, stays));
        changed = changed_by i t t (admit_peer_group before.peer) (unchanged i t) (sym (rw (← is, stays)));
      }

  pub admitted_arriving : {l : Leg} {x y : Membership} {u : List ℕ} (after : Admission) → arriving ≡ true → l ≡ (member_at t i).leg
      → Answered before l after → y ≡ (member_at t i).membership → x ≡ membership_after after.peer l.link.peer y
      → Changed i (with_membership x) t u → AdmittedAt i t before after u
  unfolding admit_peer_group membership_after if_true◌then◌else◌
  admitted_arriving {l} {x} {y} {u} after comes leg answered membership answer c =
      record {
        peer = answered.peer ∙ sym (peer_after_one before.peer (member_at t i) ∙ rw (← is, comes, ← leg));
        base = answered.base ∙ sym (base_after_one before.base (member_at t i) ∙ rw (← is, comes, ← leg));
        changed =
            changed_by i t u (admit_peer_group after.peer) c
            (rw (whole, ← is, comes) (go (eqb actual 0 || eqb actual after.peer)));
      }
    where
      actual : ℕ
      actual = (member_at t i).leg.link.peer

      whole : x ≡ membership_after after.peer actual (member_at t i).membership
      whole =
          answer ∙ ap (λ (l : Leg). membership_after after.peer l.link.peer y) leg
          ∙ ap (membership_after after.peer actual) membership

      go : (b : Bool)
          → with_membership
          (if_true b
          then with_admitted (member_at t i).membership
          else with_collision after.peer actual (member_at t i).membership)
          (member_at t i)
          ≡ (if_true b
          then with_membership (with_admitted (member_at t i).membership) (member_at t i)
          else with_membership (with_collision after.peer actual (member_at t i).membership) (member_at t i))
      go true = refl
      go false = refl

-- ---- member after member

-- what later members bind the group to makes no difference to a member that came before them
pub admitted_either_way : (peer : ℕ) (m : Member) (ms : List Member)
    → admit_peer_group (peer_after peer (m ∷ [])) m ≡ admit_peer_group (peer_after peer (m ∷ ms)) m
unfolding admit_peer_group if_true◌then◌else◌
admitted_either_way peer m ms =
    ap (λ (p : ℕ). admit_peer_group p m) (peer_after_one peer m)
    ∙ go (arrives m) (eqb peer 0) refl
    ∙ sym
    (ap (λ (p : ℕ). admit_peer_group p m) (peer_after_next peer m ms ∙ ap (λ (p : ℕ). peer_after p ms) (peer_after_one peer m)))
  where
    q : ℕ
    q = m.leg.link.peer

    go : (a b : Bool) → eqb peer 0 ≡ b
        → (if_true a
        then
        (if_true eqb q 0 || eqb q (if_true a && b then q else peer)
        then on_membership with_admitted m
        else on_membership (with_collision (if_true a && b then q else peer) q) m)
        else m)
        ≡ (if_true a
        then
        (if_true eqb q 0 || eqb q (peer_after (if_true a && b then q else peer) ms)
        then on_membership with_admitted m
        else on_membership (with_collision (peer_after (if_true a && b then q else peer) ms) q) m)
        else m)
    go false b is = refl
    go true true is = go_new (eqb q 0) refl
      where
        go_new : (b : Bool) → eqb q 0 ≡ b
            → (if_true b || eqb q q then on_membership with_admitted m else on_membership (with_collision q q) m)
            ≡ (if_true b || eqb q (peer_after q ms)
            then on_membership with_admitted m
            else on_membership (with_collision (peer_after q ms) q) m)
        go_new true is_q = refl
        go_new false is_q = rw (peer_stays q ms is_q)
    go true false is = rw (peer_stays peer ms is)

-- the rows below i are done; what is left gives the rest
pub record Admitting (n bound : ℕ) (t : List ℕ) (i : ℕ) (so_far : Admission) (u : List ℕ) : Type 0 where
  pub within : i ≤ n
  pub peer : peer_after so_far.peer (drop i (members_of n t)) ≡ peer_after bound (members_of n t)
  pub base : base_after so_far.base (drop i (members_of n t)) ≡ base_after None (members_of n t)
  pub changing : Changing i (admit_peer_group (peer_after bound (members_of n t))) t u

module _ (n peer : ℕ) (t : List ℕ) where
  pub admitting_start : (so_far : Admission) → so_far.peer ≡ peer → so_far.base ≡ None → Admitting n peer t 0 so_far t
  admitting_start so_far is none_yet =
      record {
        within = omega arith;
        peer = ap (λ (p : ℕ). peer_after p (members_of n t)) is;
        base = rw none_yet;
        changing = changing_start (admit_peer_group (peer_after peer (members_of n t))) t;
      }

  pub admitting_on : (i : ℕ) (before after : Admission) (u v : List ℕ) → i < n → Admitting n peer t i before u
      → AdmittedAt i u before after v → Admitting n peer t (i + 1) after v
  admitting_on i before after u v h so_far step =
      record {
        within = omega arith;
        peer =
            ap (λ (p : ℕ). peer_after p rest) (step.peer ∙ ap (λ (m : Member). peer_after before.peer (m ∷ [])) same)
            ∙ sym (peer_after_next before.peer (member_at t i) rest) ∙ all_peer;
        base =
            ap (λ (b : Option ℕ). base_after b rest)
            (step.base ∙ ap (λ (m : Member). base_after before.base (m ∷ [])) same)
            ∙ sym (base_after_next before.base (member_at t i) rest) ∙ all_base;
        changing =
            changing_on i (admit_peer_group (peer_after peer (members_of n t))) t u v so_far.changing
            (changed_by i u v (admit_peer_group (peer_after peer (members_of n t))) step.changed
            (ap (λ (p : ℕ). admit_peer_group p (member_at u i)) step.peer
            ∙ admitted_either_way before.peer (member_at u i) rest
            ∙ ap (λ (p : ℕ). admit_peer_group p (member_at u i))
            (ap (λ (m : Member). peer_after before.peer (m ∷ rest)) same ∙ all_peer)));
      }
    where
      rest : List Member
      rest = drop (i + 1) (members_of n t)

      same : member_at u i ≡ member_at t i
      same = so_far.changing.left i (omega arith)

      all_peer : peer_after before.peer (member_at t i ∷ rest) ≡ peer_after peer (members_of n t)
      all_peer = rw (left_next n i t h) at so_far.peer

      all_base : base_after before.base (member_at t i ∷ rest) ≡ base_after None (members_of n t)
      all_base = rw (left_next n i t h) at so_far.base

  pub admitting_done : (i : ℕ) (answer : Admission) (u : List ℕ) → n ≤ i → Admitting n peer t i answer u → Admitted n peer t answer u
  admitting_done i answer u h done =
      record {
        peer = sym (peer_after_none answer.peer) ∙ none_left_peer;
        base = sym (base_after_none answer.base) ∙ none_left_base;
        became = record { long = done.changing.long; is = every.members };
      }
    where
      none_left_peer : peer_after answer.peer [] ≡ peer_after peer (members_of n t)
      none_left_peer = rw (left_none n i t h) at done.peer

      none_left_base : base_after answer.base [] ≡ base_after None (members_of n t)
      none_left_base = rw (left_none n i t h) at done.base

      every : ChangedAll n (admit_peer_group (peer_after peer (members_of n t))) t u
      every = changing_done i n (admit_peer_group (peer_after peer (members_of n t))) t u h done.within done.changing
