-- What is proved of the definitions in specs/Delivery.antt, with what the proofs need.
use Rattle.std.specs.Prelude.{◌≡◌, refl, Bool, true, false, ℕ, suc, ◌+◌, ◌≤◌, ◌<◌, ◌*◌, leb, length, None, Option, Some, MatchOption}
use Rattle.std.specs.Option.{option_map, option_copied, option_or}
use Rattle.std.specs.List.{slice_get}
use denote.Ref.{Bor}
use Rattle.std.proofs.Math.Path.{ap, ap₂, sym}
use Rattle.std.proofs.Common.{subst, ◌∙◌, arith, is_le, nat_cmp}
use Rattle.std.proofs.lemmas.Bool.Decides.{nat_tests}
use mathlib.Core.List.{List, [], ◌∷◌, ◌++◌}
use Rattle.word_rows.specs.Tab.{tab}
use Rattle.srt_protocol.specs.Sequence.{sequence_further}
use Rattle.srt_protocol.specs.declared.time.Timestamp.{Timestamp}
use Rattle.srt_group_model.specs.declared.Core.{Core}
use Rattle.srt_group_model.specs.declared.Account.{Account}
use Rattle.srt_group_model.specs.declared.Leg.{Leg}
use Rattle.srt_group_model.specs.declared.Packet.{Packet}
use Rattle.srt_group_model.specs.declared.Receiving.{Receiving}
use Rattle.srt_group_model.specs.Tools.{if_true◌then◌else◌, if_some◌give◌otherwise◌, or_else, all, first_such, place_of, at_place}
use Rattle.srt_group_model.specs.State.{Member, State, with_members, with_receive, with_base, with_pending, on_leg, on_membership, with_account, based_at}
use Rattle.srt_group_model.specs.Accounts.{release}
use Rattle.srt_group_model.specs.Core.{with_receiving, with_own_account, with_held}
use Rattle.srt_group_model.specs.Legs.{is_disconnected, gives_up_at, release_data_reservation, advance_receive_sequence}
use Rattle.srt_group_model.specs.Members.{has_id, find}
use Rattle.srt_group_model.specs.Removal.{is_owned}
use Rattle.srt_group_model.specs.Nearest.{nearest, covered, not_covered}
use Rattle.srt_group_model.specs.Delivery.{leg_gives_up, gap_given_up, release_pending_reservation, release_all, advance_legs, pass_run, deliver_packet}
use Rattle.srt_connection_members.specs.Members.{member_at, members_in, members_of, Changed, ChangedAll, HasRow}
use Rattle.srt_connection_members.specs.Laws.Members.{members_place, found_some, found_none, found_below, changed_twice, account_changed}
use Rattle.srt_connection_queue.specs.Rows.{row_size, member_of}
use Rattle.srt_connection.specs.Answers.{deadline_of}
use Rattle.srt_group_tables.specs.Packets.{packet_at, packets, packets_between, Holds, FoundPacket}
use Rattle.srt_group_tables.specs.Covered.{Covers, packets_at, packets_elsewhere}
use Rattle.srt_group_tables.specs.declared.pending.Covered.{Covered}
use Rattle.srt_group_tables.specs.Laws.PacketLaws.{at_in_use}
use Rattle.srt_group_tables.specs.Laws.Covered.{between_none, between_push, covered_are, not_covered_are}
use Rattle.srt_group_shown.specs.Shown.{Rest, shown, blank}
use Rattle.srt_group_shown.specs.Tables.{receive_tables}
use Rattle.srt_group_collecting.specs.Leaves.{Usable}
use Rattle.srt_group_shown.specs.Laws.Shown.{held_few}
use Rattle.srt_group_delivery.specs.Delivery.{Deliverable, leg_given_up, release_member, Released, Delivered}
use Rattle.srt_group_model.specs.Validity.{max_pending}

-- ---- what delivery may rely on

pub deliverable : (core : Core) (ms ps ws : List ℕ) → Usable core (receive_tables ms ps ws) → Deliverable core ms ps
deliverable core ms ps ws h =
    record {
      members_long = h.members_long;
      pending_long = h.pending_long;
      members_few = h.members_few;
      held_few = held_few core blank ms ps ws h.sound;
      ascending = h.sound.ascending;
      fitting = h.sound.fit.pending;
    }

-- ---- the give-up test

deadline_some : (o : Option ℕ) (moment : Timestamp) → Some moment ≡ deadline_of o → o ≡ Some moment.0
deadline_some None moment e = cc e
deadline_some (Some n) moment e =
    let same : moment ≡ record { 0 = n } = cc e in
    ap (λ (m : Timestamp). Some m.0) (sym same)

deadline_none : (o : Option ℕ) → None ≡ deadline_of o → o ≡ None
deadline_none None e = refl
deadline_none (Some n) e = cc e

le_is_leb : (a b : ℕ) → is_le (nat_cmp a b) ≡ leb a b
le_is_leb a b = grind (arith, nat_tests)

module _ (time source : ℕ) (l : Leg) where
  -- the answer by the deadline, if there is one
  pub given_up_after : {r : Option Timestamp} {answer : Bool} → r ≡ deadline_of (gives_up_at source l)
      → MatchOption r (answer ≡ false) (λ moment. answer ≡ is_le (nat_cmp moment.0 time)) → answer ≡ leg_given_up time source l
  unfolding if_some◌give◌otherwise◌
  given_up_after {r} {answer} is given = go r is given
    where
      go : (o : Option Timestamp) → o ≡ deadline_of (gives_up_at source l) → MatchOption o (answer ≡ false) (λ moment. answer ≡ is_le (nat_cmp moment.0 time))
          → answer ≡ leg_given_up time source l
      go None none_is g = rw (deadline_none (gives_up_at source l) none_is) g
      go (Some moment) some_is g = rw (deadline_some (gives_up_at source l) moment some_is) (g ∙ le_is_leb moment.0 time)

  pub given_up_from : {r : Option Timestamp} (moment : Timestamp) → r ≡ Some moment → r ≡ deadline_of (gives_up_at source l) → leb moment.0 time ≡ leg_given_up time source l
  unfolding if_some◌give◌otherwise◌
  given_up_from moment at_moment is = rw (deadline_some (gives_up_at source l) moment (sym at_moment ∙ is))

  pub never_given_up : {r : Option Timestamp} → r ≡ None → r ≡ deadline_of (gives_up_at source l) → false ≡ leg_given_up time source l
  unfolding if_some◌give◌otherwise◌
  never_given_up never is = rw (deadline_none (gives_up_at source l) (sym never ∙ is))

-- the first that passes a test, by its place
pub first_place : {A : Type 0} (test : A → Bool) (l : List A)
    → first_such test l ≡ (if_some place_of test l give (λ i. at_place i l) otherwise None)
unfolding first_such place_of at_place if_true◌then◌else◌ if_some◌give◌otherwise◌
first_place test [] = refl
first_place {A} test (x ∷ xs) = go (test x) (place_of test xs) (first_place test xs)
  where
    go : (b : Bool) (o : Option ℕ) → first_such test xs ≡ (if_some o give (λ i. at_place i xs) otherwise None)
        → (if_true b then Some x else first_such test xs)
        ≡ (if_some (if_true b then Some 0 else (if_some o give (λ i. Some (suc i)) otherwise None)) give (λ i. at_place i (x ∷ xs)) otherwise None)
    go true o e = refl
    go false None e = e
    go false (Some i) e = e

pub found_has_row : {r : Option ℕ} (n id i : ℕ) (t : List ℕ) → r ≡ Some i → r ≡ find id (members_of n t)
    → n * row_size ≤ length t → HasRow i t
found_has_row n id i t there found long = omega (arith, found_below n id i t (sym there ∙ found))

-- of the members in a table: the one with the packet's member's id is asked, or else the first, or none
module _ (time n : ℕ) (t : List ℕ) (p : Packet) where
  first_none : None ≡ find p.member (members_of n t) → first_such (has_id p.member) (members_of n t) ≡ None
  unfolding if_some◌give◌otherwise◌
  first_none e = rw (first_place (has_id p.member) (members_of n t), found_none (find p.member (members_of n t)) e)

  first_some : (i : ℕ) → Some i ≡ find p.member (members_of n t) → first_such (has_id p.member) (members_of n t) ≡ Some (member_at t i)
  unfolding if_some◌give◌otherwise◌
  first_some i e =
      rw (first_place (has_id p.member) (members_of n t), found_some (find p.member (members_of n t)) i e)
      (members_place n t i (found_below n p.member i t e))

  pub own_leg_asked : {b : Bool} {l : Leg} {r : Option ℕ} (i : ℕ) → r ≡ Some i → r ≡ find p.member (members_of n t) → l ≡ (member_at t i).leg
      → b ≡ leg_given_up time p.content.source.0 l → b ≡ leg_gives_up time p (members_of n t)
  unfolding leg_gives_up or_else if_some◌give◌otherwise◌
  own_leg_asked i there found is asked = rw (first_some i (sym there ∙ found), ← is) asked

  pub first_leg_asked : {b : Bool} {l : Leg} {r : Option ℕ} → r ≡ None → r ≡ find p.member (members_of n t) → (n ≡ 0 → ⊥) → l ≡ (member_at t 0).leg
      → b ≡ leg_given_up time p.content.source.0 l → b ≡ leg_gives_up time p (members_of n t)
  unfolding leg_gives_up or_else if_some◌give◌otherwise◌
  first_leg_asked nowhere found some_member is asked = rw (first_none (sym nowhere ∙ found), members_place n t 0 (omega (arith, some_member)), ← is) asked

  pub no_leg_asked : n ≡ 0 → false ≡ leg_gives_up time p (members_of n t)
  unfolding leg_gives_up or_else if_some◌give◌otherwise◌ members_of tab first_such at_place
  no_leg_asked e = rw e

-- the first row shows the first member
first_row : (rows : List (List ℕ)) (o : Option (Bor (List ℕ))) → option_copied o ≡ slice_get rows 0
    → option_map (λ row. member_of row.now) o ≡ at_place 0 (members_in rows)
unfolding at_place
first_row [] None is = refl
first_row [] (Some row) is = cc is
first_row (first ∷ rows) None is = cc is
first_row (first ∷ rows) (Some row) is = ap (option_map member_of) is

either_row : (found first : Option (Bor (List ℕ))) → option_map (λ row. member_of row.now) (option_or found first)
    ≡ or_else (option_map (λ row. member_of row.now) found) (option_map (λ row. member_of row.now) first)
unfolding or_else
either_row None first = refl
either_row (Some row) first = refl

module _ (time : ℕ) (p : Packet) (rows : List (List ℕ)) where
  abbrev members : List Member
  members = members_in rows

  given_up_by : Option Member → Bool
  given_up_by asked = if_some asked give (λ m. leg_given_up time p.content.source.0 m.leg) otherwise false

  by_row : (asked : Option (Bor (List ℕ))) {b : Bool}
      → MatchOption asked (b ≡ false) (λ row. b ≡ leg_given_up time p.content.source.0 (member_of row.now).leg)
      → b ≡ given_up_by (option_map (λ row. member_of row.now) asked)
  unfolding if_some◌give◌otherwise◌ given_up_by
  by_row None is = is
  by_row (Some row) is = is

  -- the row with the packet's member's id, or else the first, is asked
  pub leg_asked : (found first : Option (Bor (List ℕ))) {asked : Option (Bor (List ℕ))} {b : Bool}
      → option_map (λ row. member_of row.now) found ≡ first_such (has_id p.member) members
      → option_copied first ≡ slice_get rows 0 → asked ≡ option_or found first
      → MatchOption asked (b ≡ false) (λ row. b ≡ leg_given_up time p.content.source.0 (member_of row.now).leg) → b ≡ leg_gives_up time p members
  unfolding leg_gives_up given_up_by
  leg_asked found first {asked} is at either answers =
      by_row asked answers
      ∙ ap given_up_by (ap (option_map (λ row. member_of row.now)) either ∙ either_row found first ∙ ap₂ or_else is (first_row rows first at))

pub nearest_in_table : {r : Option ℕ} {o : Option Packet} (n i : ℕ) (ps : List ℕ) → FoundPacket ps n r o → r ≡ Some i → n ≤ max_pending → i < max_pending
nearest_in_table {r} n i ps near there few = omega (arith, at_in_use n r i near.within there)

-- a packet is asked for only if one is held; then all legs are asked, and then the nearest packet's
module _ (time : ℕ) (core : Core) (ms ps : List ℕ) (r : Option ℕ)
    (near : FoundPacket ps core.counts.pending r (nearest (packets core.counts.pending ps))) (others : Rest) (ws : List ℕ) where
  pub nothing_held : r ≡ None → false ≡ gap_given_up time (shown core others ms ps ws)
  unfolding gap_given_up if_some◌give◌otherwise◌
  nothing_held e = rw (sym near.is, e)

  module _ (i : ℕ) (e : r ≡ Some i) where
    pub all_gone : {b : Bool} → b ≡ all (λ m. is_disconnected m.leg) (members_of core.counts.members ms) → b ≡ true
        → true ≡ gap_given_up time (shown core others ms ps ws)
    unfolding gap_given_up if_some◌give◌otherwise◌
    all_gone is gone = rw (sym near.is, e, sym is, gone)

    pub left_to_the_leg : {a b : Bool} {p : Packet} → a ≡ all (λ m. is_disconnected m.leg) (members_of core.counts.members ms) → a ≡ false
        → p ≡ packet_at ps i → b ≡ leg_gives_up time p (members_of core.counts.members ms) → b ≡ gap_given_up time (shown core others ms ps ws)
    unfolding gap_given_up if_some◌give◌otherwise◌
    left_to_the_leg is not_all here asked = rw (sym near.is, e, sym is, not_all, sym here) asked

-- ---- a reservation is released

pub released_none : (core : Core) (ms : List ℕ) → Released [] core ms core ms
unfolding release_all
released_none core ms = record { rest = refl; long = refl; state = λ others ps ws. refl }

module _ (core : Core) (ms : List ℕ) (p : Packet) where
  pub released_own : {own : Account} {b : Bool} → b ≡ is_owned p → b ≡ true → own ≡ release p.content.count core.own
      → Released (p ∷ []) core ms (with_own_account own core) ms
  unfolding release_all release_pending_reservation if_true◌then◌else◌
  released_own tested mine is = record { rest = refl; long = refl; state = λ others ps ws. rw (sym tested ∙ mine, is) }

  pub released_nowhere : {r : Option ℕ} {b : Bool} → b ≡ is_owned p → b ≡ false → r ≡ None → r ≡ find p.member (members_of core.counts.members ms)
      → Released (p ∷ []) core ms core ms
  unfolding release_all release_pending_reservation if_true◌then◌else◌ if_some◌give◌otherwise◌
  released_nowhere tested own nowhere found =
      record {
        rest = refl;
        long = refl;
        state = λ others ps ws. rw (sym tested ∙ own, found_none (find p.member (members_of core.counts.members ms)) (sym nowhere ∙ found));
      }

  pub released_member : {r : Option ℕ} {b : Bool} (i : ℕ) (ms' : List ℕ) → b ≡ is_owned p → b ≡ false → r ≡ Some i
      → r ≡ find p.member (members_of core.counts.members ms) → Changed i (release_member p.content.count) ms ms'
      → Released (p ∷ []) core ms core ms'
  unfolding release_all release_pending_reservation if_true◌then◌else◌ if_some◌give◌otherwise◌
  released_member i ms' tested own there found changed =
      record {
        rest = refl;
        long = changed.long;
        state =
            λ others ps ws.
            rw (sym tested ∙ own, found_some (find p.member (members_of core.counts.members ms)) i (sym there ∙ found))
            (ap (λ (x : List Member). with_members x (shown core others ms ps ws)) (sym (changed.members core.counts.members)));
      }

-- the member at a row: its account was put, then its leg released
pub member_released : {read account : Account} (i count : ℕ) (t u v : List ℕ) → read ≡ (member_at t i).membership.account
    → account ≡ release count read → Changed i (on_membership (with_account account)) t u
    → Changed i (on_leg (release_data_reservation count)) u v → Changed i (release_member count) t v
member_released i count t u v is less put released =
    changed_twice i t u v (account_changed (release count) put (less ∙ ap (release count) is)) released

-- ---- packets are released one after the other

release_append : (l m : List Packet) (s : State) → release_all (l ++ m) s ≡ release_all m (release_all l s)
unfolding release_all
release_append [] m s = refl
release_append (p ∷ l) m s = release_append l m (release_pending_reservation p s)

pub released_then : {l m : List Packet} {core here after : Core} {ms ms₁ ms₂ : List ℕ} → Released l core ms here ms₁ → Released m here ms₁ after ms₂
    → Released (l ++ m) core ms after ms₂
released_then {l} {m} {core} {here} {after} {ms} first second =
    record {
      rest = second.rest ∙ ap (with_own_account after.own) first.rest;
      long = second.long ∙ first.long;
      state =
          λ others ps ws.
          release_append l m (shown core others ms ps ws) ∙ ap (release_all m) (first.state others ps ws) ∙ second.state others ps ws;
    }

pub that_released : {p q : Packet} {core after : Core} {ms ms' : List ℕ} → q ≡ p → Released (q ∷ []) core ms after ms' → Released (p ∷ []) core ms after ms'
that_released {core = core} {after = after} {ms = ms} {ms' = ms'} same released =
    subst (λ (x : Packet). Released (x ∷ []) core ms after ms') same released

-- those from `from` up to `at` are released, and then the one there
pub released_start : (words : List ℕ) (from : ℕ) (core : Core) (ms : List ℕ) → Released (packets_between from from words) core ms core ms
released_start words from core ms =
    subst (λ (l : List Packet). Released l core ms core ms) (sym (between_none (packet_at words) from from (omega arith))) (released_none core ms)

pub released_on : (words : List ℕ) (from at : ℕ) {core here next : Core} {ms ms₁ ms₂ : List ℕ} → from ≤ at
    → Released (packets_between from at words) core ms here ms₁ → Released (packet_at words at ∷ []) here ms₁ next ms₂
    → Released (packets_between from (at + 1) words) core ms next ms₂
released_on words from at {core} {here} {next} {ms} {ms₁} {ms₂} ordered so_far one =
    subst (λ (l : List Packet). Released l core ms next ms₂) (sym (between_push (packet_at words) from at ordered)) (released_then so_far one)

-- the members' table is as long as before, and has a row for each member
pub rows_still : (core after : Core) (ms ms' : List ℕ) → core.counts.members * row_size ≤ length ms → after ≡ with_own_account after.own core
    → length ms' ≡ length ms → after.counts.members * row_size ≤ length ms'
rows_still core after ms ms' enough rest long = omega (arith, ap (λ (x : Core). x.counts.members) rest)

pub rows_kept : (core after : Core) (ms ps ms' : List ℕ) → Deliverable core ms ps → after ≡ with_own_account after.own core
    → length ms' ≡ length ms → after.counts.members * row_size ≤ length ms'
rows_kept core after ms ps ms' h rest long = omega (arith, h.members_long, h.members_few, ap (λ (x : Core). x.counts.members) rest)

-- ---- a packet is delivered

-- so many are held, and the base is set
abbrev pub passed : (held base : ℕ) → Core → Core
passed held base c = with_receiving (based_at base c.receiving.skipped) (with_held held c)

module _ (base : ℕ) (p : Packet) (core : Core) (ms ps : List ℕ) where
  abbrev run : ℕ
  run = p.content.count

  -- the parts of a delivery, over the record after the release: `next` is the base's new number
  pub record Parts (next : ℕ) (between : Core) (ms₁ ms₂ : List ℕ) (left : ℕ) (ps' : List ℕ) : Type 0 where
    pub released : Released (covered base run (packets core.counts.pending ps)) core ms between ms₁
    pub advanced : ChangedAll between.counts.members (on_leg (advance_receive_sequence next)) ms₁ ms₂
    pub removed : Holds (length ps) ps' left (not_covered base run (packets core.counts.pending ps))

  delivered_by : (own : Account) (ms₁ ms₂ : List ℕ) (left : ℕ) (ps' : List ℕ)
      → Parts (sequence_further base run) (with_own_account own core) ms₁ ms₂ left ps'
      → Delivered base p core ms ps (passed left (sequence_further base run) (with_own_account own core)) ms₂ ps'
  unfolding deliver_packet advance_legs pass_run
  delivered_by own ms₁ ms₂ left ps' parts =
      record {
        waiting_same = refl;
        leaves =
            λ ws.
            record {
              members_long = parts.advanced.long ∙ parts.released.long;
              pending_long = parts.removed.length_kept;
              waiting_long = refl;
              members_same = refl;
              state =
                  λ others.
                  ap
                  (λ (s : State).
                  with_receive (pass_run base p (shown core others ms ps ws).receive) (advance_legs (sequence_further base run) s))
                  (parts.released.state others ps ws)
                  ∙ ap₂
                  (λ (l : List Packet) (x : List Member).
                  with_receive (with_base (sequence_further base run) (with_pending l (shown core others ms ps ws).receive))
                  (with_members x (shown (with_own_account own core) others ms₁ ps ws)))
                  (sym parts.removed.is) (sym parts.advanced.members);
            };
      }

  pub delivered_all : (next : ℕ) (between : Core) (ms₁ ms₂ : List ℕ) (left : ℕ) (after : Core) (ps' : List ℕ) (places : Covered) {put : Receiving}
      → Covers base run ps core.counts.pending places → Released (packets_at places ps) core ms between ms₁
      → next ≡ sequence_further base run → ChangedAll between.counts.members (on_leg (advance_receive_sequence next)) ms₁ ms₂
      → Holds (length ps) ps' left (packets_elsewhere core.counts.pending places ps)
      → put ≡ based_at next between.receiving.skipped → after ≡ with_receiving put (passed left next between)
      → Delivered base p core ms ps after ms₂ ps'
  delivered_all next between ms₁ ms₂ left after ps' places covers released is advanced removed put ends =
      rw (ends ∙ ap (λ (r : Receiving). with_receiving r (passed left next between)) put)
      (subst (λ (n : ℕ). Parts n between ms₁ ms₂ left ps' → Delivered base p core ms ps (passed left n between) ms₂ ps') (sym is)
      (subst
      (λ (c : Core). Parts (sequence_further base run) c ms₁ ms₂ left ps' → Delivered base p core ms ps (passed left (sequence_further base run) c) ms₂ ps')
      (sym released.rest) (delivered_by between.own ms₁ ms₂ left ps'))
      record {
        released = rw (covered_are covers) released;
        advanced = advanced;
        removed = rw (not_covered_are covers) removed;
      })
