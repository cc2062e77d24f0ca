-- What is proved of the definitions in specs/Rank.antt, with what the proofs need.
use Rattle.std.proofs.Math.Path.{◌≡◌, refl, ap, sym}
use Rattle.std.specs.Prelude.{Bool, ◌&&◌, List, [], ◌∷◌, ltb, drop, None, Option, Some, IfSome}
use Rattle.std.proofs.Math.Bool.{true, false, not}
use Prim.Native.Nat.{ℕ, zero, suc, ◌+◌, ◌-◌, ◌≤◌, ◌<◌}
use native.Mathlib.Omega.{arith}
use borrow.Author.Tests.{lt-ltb, le-ltb, eq-eqb, ne_eqb}
use Rattle.std.proofs.Common.{◌∙◌}
use Rattle.std.proofs.Math.ListN.{length}
use Rattle.srt_group_model.specs.Tools.{if_true◌then◌else◌, if_some◌give◌otherwise◌}
use Rattle.srt_group_model.specs.State.{Member, is_backup, turned, active_state}
use Rattle.srt_group_model.specs.Members.{Placed, is_standby, outranks, first_in_rank, promotion, promote_backup_member, promote_if_none, has_active_member}
use Rattle.srt_group_model.specs.declared.Membership.{Membership}
use Rattle.srt_connection_members.specs.Members.{members_in, members_of, Changed}
use Rattle.srt_connection_members.specs.Laws.Members.{members_length, found_some, found_none}
use Rattle.srt_group_members.specs.Scan.{Became}
use Rattle.srt_group_members.specs.Laws.Scan.{became_changed, became_same}
use Rattle.srt_group_members.specs.Rank.{shown, first_with}

-- the member at the place, and those behind it
left_next : (k : ℕ) (rows : List (List ℕ)) → k < length rows → drop k (members_in rows) ≡ shown rows k ∷ drop (k + 1) (members_in rows)
left_next k [] h = absurd (omega arith)
left_next zero (row ∷ rows) h = refl
left_next (suc k) (row ∷ rows) h =
    let next : suc (k + 1) ≡ suc k + 1 = omega arith in
    left_next k rows (omega arith) ∙ ap (λ (j : ℕ). shown rows k ∷ drop j (members_in (row ∷ rows))) next

left_none : (k : ℕ) (rows : List (List ℕ)) → length rows ≤ k → drop k (members_in rows) ≡ []
left_none zero [] h = refl
left_none (suc k) [] h = refl
left_none zero (row ∷ rows) h = absurd (omega arith)
left_none (suc k) (row ∷ rows) h = left_none k rows (omega arith)

-- what was found, with its place counted from k on
unfoldable pub ranked_from : List (List ℕ) → ℕ → Option ℕ → Option Placed
ranked_from rows k None = None
ranked_from rows k (Some i) = Some record { place = i - k; member = shown rows i }

abbrev pub between : ℕ → ℕ → Option ℕ → Type 0
between k n None = Unit {0}
between k n (Some i) = (k ≤ i) × (i < n)

-- `best` is the first in rank of the rows from `left` on
pub record Ranking (rows : List (List ℕ)) (left : ℕ) (best : Option ℕ) : Type 0 where
  pub within : left ≤ length rows
  pub there : between left (length rows) best
  pub is : ranked_from rows left best ≡ first_in_rank is_standby (drop left (members_in rows))

module _ (rows : List (List ℕ)) where
  pub ranking_start : Ranking rows (length rows) None
  unfolding ranked_from first_in_rank
  ranking_start = record { within = omega arith; there = tt; is = rw (left_none (length rows) rows (omega arith)) refl }

  with_one_more : (i : ℕ) (best : Option ℕ) → i < length rows → between (i + 1) (length rows) best
      → ranked_from rows (i + 1) best ≡ first_in_rank is_standby (drop (i + 1) (members_in rows))
      → between i (length rows) (first_with rows i best)
      × (ranked_from rows i (first_with rows i best) ≡ first_in_rank is_standby (drop i (members_in rows)))
  unfolding first_with ranked_from first_in_rank if_true◌then◌else◌ if_some◌give◌otherwise◌
  with_one_more i None h there is = rw (left_next i rows h, ← is) (go (is_standby (shown rows i)))
    where
      go : (b : Bool)
          → between i (length rows) (if_true b then Some i else None)
          × (ranked_from rows i (if_true b then Some i else None) ≡ (if_true b then Some record { place = 0; member = shown rows i } else None))
      go true = ((omega arith, h), ap (λ (p : ℕ). Some record { place = p; member = shown rows i }) (omega arith))
      go false = (tt, refl)
  with_one_more i (Some b) h there is =
      rw (left_next i rows h, ← is) (go (is_standby (shown rows i) && not (outranks (shown rows b) (shown rows i))))
    where
      go : (c : Bool)
          → between i (length rows) (if_true c then Some i else Some b)
          × (ranked_from rows i (if_true c then Some i else Some b)
          ≡ Some
          (if_true c
          then record { place = 0; member = shown rows i }
          else record { place = suc (b - (i + 1)); member = shown rows b }))
      go true = ((omega arith, h), ap (λ (p : ℕ). Some record { place = p; member = shown rows i }) (omega arith))
      go false = (
        (omega (arith, there), omega (arith, there)),
        ap (λ (p : ℕ). Some record { place = p; member = shown rows b }) (omega (arith, there)),
      )

  pub ranking_on : (left i : ℕ) (best r : Option ℕ) → Ranking rows left best → 0 < left → i ≡ left - 1 → r ≡ first_with rows i best
      → Ranking rows i r
  ranking_on left i best r ranking some_left e is =
      let next : left ≡ i + 1 = omega arith in
      let step =
      with_one_more i best (omega (arith, ranking.within)) (rw next at ranking.there) (rw next at ranking.is)
      in
      rw is record { within = omega (arith, ranking.within); there = step.0; is = step.1 }

  pub ranking_done : (left : ℕ) (best : Option ℕ) → Ranking rows left best → left ≤ 0 → best ≡ promotion (members_in rows)
  unfolding promotion ranked_from if_some◌give◌otherwise◌
  ranking_done left best ranking e =
      let none_left : left ≡ 0 = omega arith in
      go best (rw none_left at ranking.is)
    where
      go : (best : Option ℕ) → ranked_from rows 0 best ≡ first_in_rank is_standby (members_in rows)
          → best ≡ promotion (members_in rows)
      go None is = rw (← is)
      go (Some i) is = rw (← is) (ap Some (omega arith))

  -- what was found is one of the rows
  pub ranking_row : (left : ℕ) (best : Option ℕ) → Ranking rows left best → IfSome best (λ first. first < length rows)
  ranking_row left None ranking = tt
  ranking_row left (Some i) ranking = omega (arith, ranking.there)

-- ---- one comparison; cited by no proof, these laws stand for who reads `outranks`

module _ (a b : Member) {x y : Membership} (first : x ≡ a.membership) (second : y ≡ b.membership) where
  pub outranks_by_weight : y.weight < x.weight → true ≡ outranks a b
  unfolding outranks
  outranks_by_weight more = sym (rw (← first, ← second, lt-ltb y.weight x.weight more))

  pub outranked_by_weight : x.weight ≤ y.weight → (x.weight ≡ y.weight → ⊥) → false ≡ outranks a b
  unfolding outranks
  outranked_by_weight less other =
      sym (rw (← first, ← second, le-ltb y.weight x.weight less, ne_eqb x.weight y.weight other))

  pub outranks_by_id : x.weight ≡ y.weight → ltb x.id y.id ≡ outranks a b
  unfolding outranks
  outranks_by_id same =
      sym (rw (← first, ← second, le-ltb y.weight x.weight (omega arith), eq-eqb x.weight y.weight same))

-- ---- one row

module _ (rows : List (List ℕ)) (i : ℕ) where
  pub first_unless_standby : {answer : Bool} (best : Option ℕ) → answer ≡ is_standby (shown rows i) → answer ≡ false
      → best ≡ first_with rows i best
  unfolding first_with if_true◌then◌else◌
  first_unless_standby None is no_standby = sym (rw (← is, no_standby))
  first_unless_standby (Some b) is no_standby = sym (rw (← is, no_standby))

  pub first_alone : {answer : Bool} (best : Option ℕ) → best ≡ None → answer ≡ is_standby (shown rows i) → answer ≡ true
      → Some i ≡ first_with rows i best
  unfolding first_with if_true◌then◌else◌
  first_alone best none_before is standby = sym (rw (none_before, ← is, standby))

  module _ (b : ℕ) (best : Option ℕ) (found : best ≡ Some b) where
    pub first_still : {outranked : Bool} → outranked ≡ outranks (shown rows b) (shown rows i) → outranked ≡ true
        → Some b ≡ first_with rows i best
    unfolding first_with if_true◌then◌else◌
    first_still is higher = sym (rw (found, ← is, higher) (go (is_standby (shown rows i))))
      where
        go : (c : Bool) → (if_true c && false then Some i else Some b) ≡ Some b
        go true = refl
        go false = refl

    pub first_now : {answer outranked : Bool} → answer ≡ is_standby (shown rows i) → answer ≡ true
        → outranked ≡ outranks (shown rows b) (shown rows i) → outranked ≡ false → Some i ≡ first_with rows i best
    unfolding first_with if_true◌then◌else◌
    first_now is standby is_outranked not_higher = sym (rw (found, ← is, standby, ← is_outranked, not_higher))

-- ---- the member that is promoted

rank_below : (candidate : Member → Bool) (ms : List Member) (r : Placed) → first_in_rank candidate ms ≡ Some r → r.place < length ms
unfolding first_in_rank if_true◌then◌else◌ if_some◌give◌otherwise◌
rank_below candidate [] r e = let different : ◌≡◌ {A = ℕ} 0 1 = cc in absurd (omega arith)
rank_below candidate (m ∷ ms) r e =
    go (first_in_rank candidate ms) (λ q is. rank_below candidate ms q is) (candidate m) r e
  where
    go : (o : Option Placed) → ((q : Placed) → o ≡ Some q → q.place < length ms) → (b : Bool) (r : Placed)
        → (if_some o
        give
        (λ q.
        Some
        (if_true b && not (outranks q.member m)
        then record { place = 0; member = m } else record { place = suc q.place; member = q.member }))
        otherwise (if_true b then Some record { place = 0; member = m } else None))
        ≡ Some r
        → r.place < suc (length ms)
    go None h true r e = let first : 0 ≡ r.place = cc in omega arith
    go None h false r e = let different : ◌≡◌ {A = ℕ} 0 1 = cc in absurd (omega arith)
    go (Some q) h b r e = chosen (b && not (outranks q.member m)) (h q refl) e
      where
        chosen : (c : Bool) → q.place < length ms
            → Some (if_true c then record { place = 0; member = m } else record { place = suc q.place; member = q.member }) ≡ Some r
            → r.place < suc (length ms)
        chosen true below e = let first : 0 ≡ r.place = cc in omega arith
        chosen false below e = let later : suc q.place ≡ r.place = cc in omega arith

pub promotion_inside : (ms : List Member) (i : ℕ) → Some i ≡ promotion ms → i < length ms
unfolding promotion if_some◌give◌otherwise◌
promotion_inside ms i e = go (first_in_rank is_standby ms) (λ r is. rank_below is_standby ms r is) e
  where
    go : (o : Option Placed) → ((r : Placed) → o ≡ Some r → r.place < length ms)
        → Some i ≡ if_some o give (λ r. Some r.place) otherwise None → i < length ms
    go None h e = let different : ◌≡◌ {A = ℕ} 0 1 = cc in absurd (omega arith)
    go (Some r) h e = let place : i ≡ r.place = cc in omega (arith, h r refl)

module _ (n : ℕ) (t : List ℕ) where
  pub promotion_below : (i : ℕ) → Some i ≡ promotion (members_of n t) → i < n
  promotion_below i e = omega (arith, promotion_inside (members_of n t) i e, members_length n t)

  pub promoted : {u : List ℕ} (i : ℕ) → Some i ≡ promotion (members_of n t) → Changed i (turned active_state) t u
      → Became n (promote_backup_member (members_of n t)) t u
  unfolding promote_backup_member if_some◌give◌otherwise◌
  promoted {u} i e c = rw (found_some (promotion (members_of n t)) i e) (became_changed n i t u c)

  pub promoted_none : None ≡ promotion (members_of n t) → Became n (promote_backup_member (members_of n t)) t t
  unfolding promote_backup_member if_some◌give◌otherwise◌
  promoted_none e = rw (found_none (promotion (members_of n t)) e) (became_same n t (members_of n t) refl)

-- in Backup, if no member is active
module _ (n : ℕ) (t : List ℕ) (mode : ℕ) {backup : Bool} (is_mode : backup ≡ is_backup mode) where
  pub promoted_not_in_backup : backup ≡ false → Became n (promote_if_none mode (members_of n t)) t t
  unfolding promote_if_none if_true◌then◌else◌
  promoted_not_in_backup other = rw (← is_mode, other) (became_same n t (members_of n t) refl)

  pub promoted_not_needed : {active : Bool} → active ≡ has_active_member (members_of n t) → active ≡ true
      → Became n (promote_if_none mode (members_of n t)) t t
  unfolding promote_if_none if_true◌then◌else◌
  promoted_not_needed is active = rw (← is_mode, ← is, active) (go backup)
    where
      go : (b : Bool) → Became n (if_true b && false then promote_backup_member (members_of n t) else members_of n t) t t
      go true = became_same n t (members_of n t) refl
      go false = became_same n t (members_of n t) refl

  pub promoted_if_none : {u : List ℕ} {active : Bool} → backup ≡ true → active ≡ has_active_member (members_of n t) → active ≡ false
      → Became n (promote_backup_member (members_of n t)) t u → Became n (promote_if_none mode (members_of n t)) t u
  unfolding promote_if_none if_true◌then◌else◌
  promoted_if_none in_backup is none_active b = rw (← is_mode, in_backup, ← is, none_active) b
