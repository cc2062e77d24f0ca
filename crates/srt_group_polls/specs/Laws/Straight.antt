-- What is proved of the definitions in specs/Straight.antt, over states: to hold a packet and to deliver it at once leaves what is left where it is given straight
-- (`goes_straight`).
use Rattle.std.specs.Prelude.{◌≡◌, Bool, true, ◌&&◌, ◌||◌, ℕ, zero, suc, ◌+◌, ◌-◌, ◌%◌, ◌≤◌, ◌<◌, length, Some}
use Rattle.std.proofs.Math.Path.{refl, ap, ap₂, subst}
use Rattle.std.proofs.Common.{sym, ◌∙◌, arith}
use Rattle.std.proofs.Math.Bool.{false, not}
use mathlib.Core.List.{List, [], ◌∷◌}
use Rattle.std.proofs.Math.Decide.{dec_lt}
use borrow.Author.Tests.{eq-eqb, eqb-false, le-ltb, lt-ltb}
use Rattle.std.proofs.Math.Dec.{eqb}
use Rattle.srt_protocol.specs.Circle.{distance}
use Rattle.srt_protocol.specs.Sequence.{half, sequence_distance, sequence_further}
use Rattle.srt_protocol.specs.Laws.Circle.{distance_up, distance_round, distance_self, before_irreflexive}
use Rattle.srt_group_model.specs.declared.Account.{Account}
use Rattle.srt_group_model.specs.declared.Event.{Event}
use Rattle.srt_group_model.specs.declared.Packet.{Packet}
use Rattle.srt_group_model.specs.Tools.{if_true◌then◌else◌, is_set, bit, is_empty, any, such_that, first_such, at_place, change, each, All}
use Rattle.srt_group_model.specs.Laws.Reason.{if_elim, when_true, when_false, if_given, no_either, or_left, or_right, or_yes_left, or_yes_right, all_map, all_two, at_change, none_of}
use Rattle.srt_group_model.specs.State.{Member, State, with_receive, with_base, with_pending, with_members, with_continuation, with_round, on_leg, on_account}
use Rattle.srt_group_model.specs.Accounts.{reserve, release}
use Rattle.srt_group_model.specs.Legs.{release_data_reservation, largest_sequence}
use Rattle.srt_group_model.specs.Members.{id_of, find, is_active}
use Rattle.srt_group_model.specs.Cells.{used_cells}
use Rattle.srt_group_model.specs.Validity.{one_twice}
use Rattle.srt_group_model.specs.Sound.{ids, pending_cells, PacketFit}
use Rattle.srt_group_model.specs.Nearest.{sequence_of, has_sequence, is_held, held_at, insert, is_covered, covered, not_covered}
use Rattle.srt_group_model.specs.Laws.Queues.{pop}
use Rattle.srt_group_model.specs.Laws.Unique.{changed_ids, find_at}
use Rattle.srt_group_model.specs.Laws.CellsMoved.{Moves, Keeps, retained_keeps, delivery_frees}
use Rattle.srt_group_model.specs.Laws.Steps.{popped}
use Rattle.srt_group_model.specs.Run.{Run, collected, delivered, marking, on_state}
use Rattle.srt_group_model.specs.Collecting.{packet_from, front, is_late, is_discarded, retain_group_packet, collect_member_event, Visited, take_front, collect_one_event, or_continue, has_pending_data, collect_until_held}
use Rattle.srt_group_model.specs.Delivery.{packet, release_pending_reservation, release_all, pass_run, Poll, advance_legs, deliver_packet, deliver, base_stays, max_visits, skip_given_up_gap}
use Rattle.srt_group_model.specs.Polls.{delivery_budget, deliver_next, poll_event}
use Rattle.srt_group_model.specs.Laws.EveryCall.{change_twice}
use Rattle.srt_group_model.specs.Laws.Accounts.{reserve_release}
use Rattle.srt_group_members.specs.Quiet.{is_steady, is_quiet}
use Rattle.srt_group_members.specs.Laws.Quiet.{refresh_pending_stays, refresh_stays}
use Rattle.srt_group_polls.specs.EventPoll.{give_next}
use Rattle.srt_group_polls.specs.Laws.EventPoll.{packet_given, event_polled}
use Rattle.srt_group_polls.specs.Laws.Quiet.{quiet_same}
use Rattle.srt_group_polls.specs.Straight.{given_from, given_straight, Straight}

-- ---- a packet put among the held ones

module _ (p : Packet) where
  itself : has_sequence (sequence_of p) p ≡ true
  itself = eq-eqb (sequence_of p) (sequence_of p) refl

  inserted_some : (ps : List Packet) → is_empty (insert p ps) ≡ false
  unfolding insert is_empty
  inserted_some [] = refl
  inserted_some (q ∷ qs) = if_elim (λ (l : List Packet). is_empty l ≡ false) _ _ _ (λ e. refl) (λ e. refl)

  inserted_held : (ps : List Packet) → is_held (sequence_of p) (insert p ps) ≡ true
  unfolding insert any
  inserted_held [] = or_yes_left (has_sequence (sequence_of p) p) _ itself
  inserted_held (q ∷ qs) =
      if_elim (λ (l : List Packet). is_held (sequence_of p) l ≡ true) _ _ _ (λ e. or_yes_left (has_sequence (sequence_of p) p) _ itself)
      (λ e. or_yes_right (has_sequence (sequence_of p) q) _ (inserted_held qs))

  inserted_found : (ps : List Packet) → is_held (sequence_of p) ps ≡ false → held_at (sequence_of p) (insert p ps) ≡ Some p
  unfolding insert any first_such
  inserted_found [] h = when_true _ _ _ itself
  inserted_found (q ∷ qs) h =
      if_elim (λ (l : List Packet). held_at (sequence_of p) l ≡ Some p) _ _ _ (λ e. when_true _ _ _ itself)
      (λ e. when_false _ _ _ (or_left (has_sequence (sequence_of p) q) _ h) ∙ inserted_found qs (or_right (has_sequence (sequence_of p) q) _ h))

  -- of those that pass a test: where it alone passes, and where it alone fails
  module _ (test : Packet → Bool) where
    none_left : (l : List Packet) → All (λ (q : Packet). test q ≡ false) l → such_that test l ≡ []
    unfolding such_that
    none_left [] h = refl
    none_left (x ∷ xs) h = when_false _ _ _ h.0 ∙ none_left xs h.1

    all_left : (l : List Packet) → All (λ (q : Packet). test q ≡ true) l → such_that test l ≡ l
    unfolding such_that
    all_left [] h = refl
    all_left (x ∷ xs) h = when_true _ _ _ h.0 ∙ ap (λ (r : List Packet). x ∷ r) (all_left xs h.1)

    inserted_alone : (ps : List Packet) → test p ≡ true → All (λ (q : Packet). test q ≡ false) ps → such_that test (insert p ps) ≡ p ∷ []
    unfolding insert such_that
    inserted_alone [] passes h = when_true _ _ _ passes
    inserted_alone (q ∷ qs) passes h =
        if_elim (λ (l : List Packet). such_that test l ≡ p ∷ []) _ _ _
        (λ e. when_true _ _ _ passes ∙ ap (λ (l : List Packet). p ∷ l) (none_left (q ∷ qs) h))
        (λ e. when_false _ _ _ h.0 ∙ inserted_alone qs passes h.1)

    inserted_apart : (ps : List Packet) → test p ≡ false → All (λ (q : Packet). test q ≡ true) ps → such_that test (insert p ps) ≡ ps
    unfolding insert such_that
    inserted_apart [] fails h = when_false _ _ _ fails
    inserted_apart (q ∷ qs) fails h =
        if_elim (λ (l : List Packet). such_that test l ≡ q ∷ qs) _ _ _ (λ e. when_false _ _ _ fails ∙ all_left (q ∷ qs) h)
        (λ e. when_true _ _ _ h.0 ∙ ap (λ (l : List Packet). q ∷ l) (inserted_apart qs fails h.1))

-- ---- a run of one covers itself alone

apart : (h a b : ℕ) → a < h + h → b < h + h → (b ≡ a → ⊥) → 1 ≤ distance h a b
apart h a b u v differ = go (dec_lt a b) (dec_lt b a)
  where
    go : Dec (a < b) → Dec (b < a) → 1 ≤ distance h a b
    go (yes l) m = omega (arith, distance_up h a b (omega arith) v)
    go (no l) (yes m) = omega (arith, distance_round h a b m u)
    go (no l) (no m) = absurd (differ (omega arith))

on_circle : (n : ℕ) → n ≤ largest_sequence → n < half + half
unfolding half
on_circle n h = omega arith

module _ (p : Packet) (ps : List Packet) (alone : p.content.count ≡ 1) (small : sequence_of p ≤ largest_sequence)
    (free : is_held (sequence_of p) ps ≡ false) (fit : All PacketFit ps) where
  abbrev covers : Packet → Bool
  covers = is_covered (sequence_of p) p.content.count

  covers_itself : covers p ≡ true
  unfolding half
  covers_itself =
      lt-ltb (sequence_distance (sequence_of p) (sequence_of p)) p.content.count
      (omega (arith, alone, distance_self half (sequence_of p) (omega arith)))

  covers_no_other : (q : Packet) → has_sequence (sequence_of p) q ≡ false → PacketFit q → covers q ≡ false
  covers_no_other q differ fits =
      le-ltb (sequence_distance (sequence_of p) (sequence_of q)) p.content.count
      (omega (arith, alone, apart half (sequence_of p) (sequence_of q) (on_circle _ small) (on_circle _ fits.sequence) (eqb-false _ _ differ)))

  others : All (λ (q : Packet). covers q ≡ false) ps
  others = all_two (λ (q : Packet). has_sequence (sequence_of p) q ≡ false) PacketFit _ covers_no_other ps (none_of _ ps free) fit

  covered_alone : covered (sequence_of p) p.content.count (insert p ps) ≡ p ∷ []
  covered_alone = inserted_alone p covers ps covers_itself others

  not_covered_others : not_covered (sequence_of p) p.content.count (insert p ps) ≡ ps
  not_covered_others =
      inserted_apart p (λ q. not (covers q)) ps (ap not covers_itself)
      (all_map _ _ (λ q e. ap not e) ps others)

-- ---- a member whose packet is reserved and released

change_as : {A : Type 0} (i : ℕ) (f g : A → A) (l : List A) → ((x : A) → f x ≡ g x) → change i f l ≡ change i g l
unfolding change
change_as i f g [] same = refl
change_as {A} zero f g (x ∷ xs) same = ap {B = List A} (λ y. y ∷ xs) (same x)
change_as {A} (suc i) f g (x ∷ xs) same = ap {B = List A} (λ r. x ∷ r) (change_as i f g xs same)

-- ---- the poll, step by step

abbrev pub packet_of : Member → Event → Packet
packet_of m e = packet_from (id_of m) e

module _ (time : ℕ) (r : Run) (i : ℕ) (m : Member) (e : Event) (at_base : Straight i (packet_of m e) r.state)
    (there : at_place i r.state.members ≡ Some m) (first : front m.queue ≡ Some e) (is_data : e.kind ≡ 0)
    (unique : one_twice (ids r.state.members) ≡ false) (fit : All PacketFit r.state.receive.pending)
    (small : sequence_of (packet_of m e) ≤ largest_sequence) where
  abbrev p : Packet
  p = packet_of m e

  abbrev ms : List Member
  ms = r.state.members

  abbrev ps : List Packet
  ps = r.state.receive.pending

  -- the call begins; the event is off its queue; the packet is held
  abbrev begun : State
  begun = with_round (suc i % length ms) (with_continuation false r.state)

  abbrev begins : Run
  begins = record { state = with_continuation false r.state; log = r.log; budget = delivery_budget }

  abbrev holding : State
  holding =
      with_receive (with_pending (insert p ps) r.state.receive)
      (with_members (change i (on_account (reserve p.content.count)) (change i pop ms)) begun)

  abbrev holds : Run
  holds = record { state = holding; log = collected p ∷ r.log; budget = delivery_budget - 1 }

  not_discarded : is_discarded p r.state.receive ≡ false
  unfolding is_discarded is_late half
  not_discarded =
      no_either _ _ (if_given _ _ at_base.based ∙ before_irreflexive half (sequence_of p) (omega arith)) at_base.free

  is_retained : retain_group_packet i p (popped i begun) ≡ holding
  unfolding retain_group_packet
  is_retained = when_false _ _ _ not_discarded

  is_collected : collect_member_event i (id_of m) e record { state = popped i begun; log = r.log; budget = delivery_budget } ≡ holds
  unfolding collect_member_event
  is_collected =
      when_true _ _ _ (eq-eqb e.kind 0 is_data)
      ∙ ap (λ (s : State). record { state = s; log = collected p ∷ r.log; budget = delivery_budget - 1 }) is_retained

  is_taken : take_front i m begins ≡ record { took = true; run = holds }
  unfolding take_front
  is_taken =
      if_given _ _ first ∙ when_false _ _ _ refl ∙ ap (λ (x : Run). record { took = true; run = x }) is_collected

  is_visited : collect_one_event begins ≡ record { took = true; run = holds }
  unfolding collect_one_event
  is_visited = if_given _ _ at_base.turn ∙ if_given _ _ there ∙ is_taken

  and_no : (b : Bool) → (b && false) ≡ false
  and_no true = refl
  and_no false = refl

  -- what one visit of the loop makes of a visited call
  abbrev gathered_from : ℕ → Visited → Run
  gathered_from visits c =
      let more = or_continue (eqb visits 0 && is_empty c.run.state.receive.pending) c.run in
      if_true not (is_empty r.state.waiting) then begins
      else (if_true not c.took then c.run else (if_true has_pending_data more.state then more else collect_until_held visits more))

  is_gathered : (visits : ℕ) → collect_until_held (suc visits) begins ≡ holds
  unfolding collect_until_held has_pending_data bit
  is_gathered visits =
      ap (gathered_from visits) is_visited ∙ when_false _ _ _ (ap not at_base.none_waits) ∙ when_false _ _ _ refl ∙ when_true _ _ _ has_packet
      ∙ ap (λ (b : Bool). record { state = with_continuation b holding; log = holds.log; budget = holds.budget }) not_continued
    where
      not_continued : (is_set (bit false) || (eqb visits 0 && is_empty (insert p ps))) ≡ false
      not_continued = ap (λ (b : Bool). eqb visits 0 && b) (inserted_some p ps) ∙ and_no (eqb visits 0)

      has_packet : has_pending_data (or_continue (eqb visits 0 && is_empty (insert p ps)) holds).state ≡ true
      has_packet = or_yes_left (not (is_empty (insert p ps))) _ (ap not (inserted_some p ps))

  still_quiet : is_quiet r.state.making.mode holding.members ≡ true
  unfolding is_steady is_active
  still_quiet =
      quiet_same r.state.making.mode i (on_account (reserve p.content.count)) (change i pop ms) (λ x. refl) (λ x. refl)
      ∙ quiet_same r.state.making.mode i pop ms (λ x. refl) (λ x. refl) ∙ at_base.quiet

  is_delivered : deliver_next time holds ≡ record { gave = packet p; run = marking (delivered p) (on_state (deliver_packet (sequence_of p) p) holds) }
  unfolding deliver_next skip_given_up_gap base_stays deliver
  is_delivered =
      if_given _ _ at_base.based ∙ when_true _ _ _ (or_yes_left _ _ (inserted_held p ps)) ∙ if_given _ _ (inserted_found p ps at_base.free)

  is_polled : poll_event time r ≡ record { gave = packet p; run = marking (delivered p) (on_state (deliver_packet (sequence_of p) p) holds) }
  is_polled =
      event_polled time r ∙ ap (λ (x : Run). give_next time (collect_until_held max_visits x)) (refresh_pending_stays begins at_base.quiet)
      ∙ ap (give_next time) (is_gathered 63) ∙ packet_given time holds (ap not at_base.none_waits)
      ∙ ap (deliver_next time) (refresh_stays holds still_quiet) ∙ is_delivered

  -- ---- what is left

  abbrev released : Member → Member
  released x = on_leg (release_data_reservation p.content.count) (on_account (release p.content.count) x)

  -- by its id the member is found at its place
  found_there : find (id_of m) holding.members ≡ Some i
  found_there =
      let reserved = on_account (reserve p.content.count) in
      find_at i (reserved (pop m)) holding.members
      (ap one_twice (changed_ids i reserved (change i pop ms) (λ x. refl) ∙ changed_ids i pop ms (λ x. refl)) ∙ unique)
      (at_change i reserved (change i pop ms) (pop m) (at_change i pop ms m there))

  is_released : release_pending_reservation p holding ≡ with_members (change i released holding.members) holding
  unfolding release_pending_reservation
  is_released = when_false _ _ _ refl ∙ if_given _ _ found_there

  members_left : change i released holding.members ≡ change i (given_from p.content.count) ms
  members_left =
      change_twice i released (on_account (reserve p.content.count)) (change i pop ms) ∙ change_twice i _ pop ms
      ∙ change_as i _ (given_from p.content.count) ms
      (λ x. ap (λ (a : Account). on_leg (release_data_reservation p.content.count) (on_account (λ y. a) (pop x))) (reserve_release p.content.count x.membership.account))

  is_left : deliver_packet (sequence_of p) p holding ≡ given_straight i p r.state
  unfolding deliver_packet release_all pass_run advance_legs given_straight
  is_left =
      let next = sequence_further (sequence_of p) p.content.count in
      ap (λ (l : List Packet). with_receive (pass_run (sequence_of p) p holding.receive) (advance_legs next (release_all l holding)))
      (covered_alone p ps at_base.alone small at_base.free fit)
      ∙ ap (λ (s : State). with_receive (pass_run (sequence_of p) p holding.receive) (advance_legs next s)) is_released
      ∙ ap₂
      (λ (l : List Packet) (xs : List Member).
      with_receive (with_base next (with_pending l r.state.receive)) (advance_legs next (with_members xs begun)))
      (not_covered_others p ps at_base.alone small at_base.free fit) members_left

  -- its cell is free, and no other
  frees : Moves [] (p.content.cell ∷ []) r.state (given_straight i p r.state)
  unfolding used_cells each
  frees =
      let held = subst (Keeps begun) is_retained (retained_keeps begun i m e there first (eq-eqb e.kind 0 is_data) not_discarded) in
      let gone =
      subst (λ (l : List Packet). Moves [] (pending_cells l) holding (given_straight i p r.state))
      (covered_alone p ps at_base.alone small at_base.free fit)
      (subst (Moves [] (pending_cells (covered (sequence_of p) p.content.count holding.receive.pending)) holding) is_left (delivery_frees (sequence_of p) p holding)) in
      record { cells = λ n. omega (arith, held.cells n, gone.cells n) }

-- what a poll gives and leaves where a packet can be given straight
pub record PolledSo (time i : ℕ) (p : Packet) (r : Run) : Type 0 where
  pub gave : (poll_event time r).gave ≡ packet p
  pub state : (poll_event time r).run.state ≡ given_straight i p r.state
  pub cells : Moves [] (p.content.cell ∷ []) r.state (given_straight i p r.state)

module _ (time : ℕ) (r : Run) (i : ℕ) (p : Packet) (at_base : Straight i p r.state) (unique : one_twice (ids r.state.members) ≡ false)
    (fit : All PacketFit r.state.receive.pending) (small : sequence_of p ≤ largest_sequence) where
  -- insert, then deliver, cancels
  pub goes_straight : PolledSo time i p r
  goes_straight = subst (λ (q : Packet). PolledSo time i q r) (sym at_base.packet) so
    where
      m : Member
      m = at_base.member

      e : Event
      e = at_base.event

      same : Straight i (packet_of m e) r.state
      same = subst (λ (q : Packet). Straight i q r.state) at_base.packet at_base

      within : sequence_of (packet_of m e) ≤ largest_sequence
      within = subst (λ (q : Packet). sequence_of q ≤ largest_sequence) at_base.packet small

      so : PolledSo time i (packet_of m e) r
      so =
          let polled = is_polled time r i m e same at_base.there at_base.first at_base.is_data unique fit within in
          record {
            gave = ap (λ (q : Poll). q.gave) polled;
            state =
                ap (λ (q : Poll). q.run.state) polled
                ∙ is_left time r i m e same at_base.there at_base.first at_base.is_data unique fit within;
            cells = frees time r i m e same at_base.there at_base.first at_base.is_data unique fit within;
          }
