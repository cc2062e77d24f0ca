-- What is proved of the definitions in specs/Stale.antt, with what the proofs need.
use Rattle.std.specs.Prelude.{◌≡◌, Bool, ◌&&◌, List, ℕ, ◌≤◌, ◌<◌, max, ltb, None, Some}
use Rattle.std.specs.Ordering.{is_lt, nat_cmp, ord_max}
use Rattle.std.specs.declared.cmp.Ordering.{Ordering}
use Rattle.std.proofs.Math.Path.{refl, ap, sym}
use Rattle.std.proofs.Common.{◌∙◌, arith}
use Rattle.std.proofs.lemmas.Bool.Decides.{nat_tests}
use Rattle.std.specs.Prelude.{cond}
use Rattle.std.proofs.lemmas.Map.Keys.{ge_from_not_lt}
use Rattle.std.proofs.Math.Bool.{true, false}
use borrow.Author.Tests.{lt-ltb, le-ltb}
use Rattle.srt_protocol.specs.Time.{elapsed}
use Rattle.srt_protocol.specs.declared.time.Timestamp.{Timestamp}
use Rattle.srt_group_model.specs.Tools.{if_true◌then◌else◌, if_some◌give◌otherwise◌, any}
use Rattle.srt_group_model.specs.State.{Member, turned, unstable_state}
use Rattle.srt_group_model.specs.Legs.{has_sender}
use Rattle.srt_group_model.specs.Members.{is_standby, first_active}
use Rattle.srt_group_model.specs.Backup.{stability_timeout, is_stale, demote_stale_backup_carrier}
use Rattle.srt_group_model.specs.Sound.{MemberFit, AllFit}
use Rattle.srt_group_model.specs.Laws.Reason.{all_at}
use Rattle.srt_group_model.specs.declared.Leg.{Leg}
use Rattle.srt_connection_members.specs.Members.{member_at, members_of, Changed}
use Rattle.srt_connection_members.specs.Laws.Members.{members_place, found_some, found_none, changed_by, unchanged}
use Rattle.srt_group_members.specs.Scan.{Became}
use Rattle.srt_group_members.specs.Laws.Scan.{became_same}
use Rattle.srt_group_backup.specs.Stale.{TripFit}

pub trip_fits : {l : Leg} (n i : ℕ) (t : List ℕ) → i < n → AllFit (members_of n t) → l ≡ (member_at t i).leg → TripFit l
trip_fits {l} n i t below fit is =
    let fits = all_at MemberFit i (member_at t i) (members_of n t) (members_place n t i below) fit in
    rw is record { srtt = fits.leg.srtt; rttvar = fits.leg.rttvar }

-- ---- is it stale?

-- of two moments the later one, compared by their numbers
pub later_moment : (cmp : Timestamp → Timestamp → Ordering) {later : Timestamp} (a b : Timestamp) → later ≡ ord_max cmp a b
    → ((x y : Timestamp) → cmp x y ≡ nat_cmp x.0 y.0) → later.0 ≡ max a.0 b.0
later_moment cmp {later} a b is by_number =
    ap (λ (t : Timestamp). t.0) is
    ∙ ap (λ (o : Ordering). (cond (is_lt o) a b).0) (by_number b a)
    ∙ by (is_lt (nat_cmp b.0 a.0)) refl
  where
    by : (t : Bool) → is_lt (nat_cmp b.0 a.0) ≡ t → (cond t a b).0 ≡ max a.0 b.0
    by true e = let before : b.0 < a.0 = grind (arith, nat_tests) in omega arith
    by false e = let not_before : a.0 ≤ b.0 = ge_from_not_lt b.0 a.0 e in omega arith

module _ (time : ℕ) (l : Leg) where
  pub no_sender_not_stale : {answer : Bool} → answer ≡ has_sender l → answer ≡ false → false ≡ is_stale time l
  unfolding is_stale
  no_sender_not_stale is none_there = sym (rw (← is, none_there))

  pub no_flight_not_stale : l.sender.flight ≡ 0 → false ≡ is_stale time l
  unfolding is_stale
  no_flight_not_stale none_there = sym (go (has_sender l) _ _ (le-ltb 0 l.sender.flight (omega arith)))
    where
      go : (a b c : Bool) → b ≡ false → (a && (b && c)) ≡ false
      go true true c e = cc e
      go true false c e = refl
      go false b c e = refl

  pub stale_by_silence : {answer : Bool} {timeout since silence : ℕ} → answer ≡ has_sender l → answer ≡ true
      → (l.sender.flight ≡ 0 → ⊥) → timeout ≡ stability_timeout l → since ≡ max l.trip.heard.0 l.sender.oldest.0
      → silence ≡ elapsed since time → ltb timeout silence ≡ is_stale time l
  unfolding is_stale
  stale_by_silence {answer} {timeout} {since} {silence} is there outstanding t s e =
      sym
      (rw (
        ← is,
        there,
        lt-ltb 0 l.sender.flight (omega arith),
        ← t,
        ← s,
        ← e,
      ))

-- ---- the demotion

module _ (time n : ℕ) (t : List ℕ) where
  abbrev demoted : List Member
  demoted = demote_stale_backup_carrier time (members_of n t)

  pub none_active_none_demoted : None ≡ first_active (members_of n t) → Became n demoted t t
  unfolding demote_stale_backup_carrier if_some◌give◌otherwise◌
  none_active_none_demoted e =
      became_same n t demoted (sym (rw (found_none (first_active (members_of n t)) e)))

  module _ (i : ℕ) (found : Some i ≡ first_active (members_of n t)) where
    -- the carrier is changed by a function that does the same to it as the demotion
    carrier_became : {f : Member → Member} (u : List ℕ) → Changed i f t u
        → f (member_at t i)
        ≡ (if_true any is_standby (members_of n t) && is_stale time (member_at t i).leg
        then turned unstable_state (member_at t i)
        else member_at t i)
        → Became n demoted t u
    unfolding demote_stale_backup_carrier if_some◌give◌otherwise◌
    carrier_became u c same =
        record {
          long = c.long;
          is =
              (changed_by i t u
              (λ m. if_true any is_standby (members_of n t) && is_stale time m.leg then turned unstable_state m else m)
              c same).members n
              ∙ sym (rw (found_some (first_active (members_of n t)) i found));
        }

    pub no_standby_none_demoted : {answer : Bool} → answer ≡ any is_standby (members_of n t) → answer ≡ false → Became n demoted t t
    unfolding if_true◌then◌else◌
    no_standby_none_demoted is no_standby = carrier_became t (unchanged i t) (sym (rw (← is, no_standby)))

    pub not_stale_none_demoted : {answer : Bool} {l : Leg} → l ≡ (member_at t i).leg → answer ≡ is_stale time l → answer ≡ false
        → Became n demoted t t
    unfolding if_true◌then◌else◌
    not_stale_none_demoted {answer} {l} leg is not_stale =
        carrier_became t (unchanged i t) (sym (rw is_false (go (any is_standby (members_of n t)))))
      where
        is_false : is_stale time (member_at t i).leg ≡ false
        is_false = ap (is_stale time) (sym leg) ∙ sym is ∙ not_stale

        go : (a : Bool) → (if_true a && false then turned unstable_state (member_at t i) else member_at t i) ≡ member_at t i
        go true = refl
        go false = refl

    pub stale_demoted : {standby answer : Bool} {l : Leg} {u : List ℕ} → standby ≡ any is_standby (members_of n t) → standby ≡ true
        → l ≡ (member_at t i).leg → answer ≡ is_stale time l → answer ≡ true → Changed i (turned unstable_state) t u → Became n demoted t u
    unfolding if_true◌then◌else◌
    stale_demoted {standby} {answer} {l} {u} is_there there leg is stale c =
        carrier_became u c (sym (rw (← is_there, there, is_true)))
      where
        is_true : is_stale time (member_at t i).leg ≡ true
        is_true = ap (is_stale time) (sym leg) ∙ sym is ∙ stale
