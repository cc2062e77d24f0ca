-- The rule "a reserved sum unequal to its packets' counts", as one walk over the packets finds it: the counts of each packet
-- are added to the sum of its place, that of its member or the group's own.
use Rattle.std.specs.Prelude.{◌≡◌, Bool, ◌&&◌, List, [], ◌∷◌, ◌++◌, ◌⊎◌, ℕ, zero, suc, ◌+◌, ◌*◌, ◌^◌, ◌≤◌, ◌<◌, length, set, replicate, None, Option, Some}
use Rattle.std.proofs.Math.Path.{refl, ap, ap₂, sym}
use Rattle.std.proofs.Common.{subst, ◌∙◌, ⊎_elim, add-one, arith, eq-eqb, ne_eqb, eqb-true, length-set, get_or-set_same, get_or-set_other}
use Rattle.std.proofs.Math.Bool.{true, false, not, ◌||◌}
use Rattle.std.proofs.Math.Logic.{inl, inr}
use Rattle.std.proofs.Math.Decide.{dec_lt}
use Rattle.std.proofs.lemmas.Bool.{eqb-false}
use Rattle.std.proofs.Math.Dec.{eqb}
use Rattle.std.proofs.lemmas.List.{get_or-replicate}
use Rattle.srt_group_model.specs.Tools.{if_true◌then◌else◌, any, each, total, counted}
use Rattle.srt_group_model.specs.Laws.Reason.{by_test, or_right, place_none}
use Rattle.srt_group_model.specs.Laws.Sound.{count_fits}
use Rattle.srt_group_model.specs.State.{Member, State}
use Rattle.srt_group_model.specs.Legs.{largest_16}
use Rattle.srt_group_model.specs.Members.{id_of, has_id, find}
use Rattle.srt_group_model.specs.Removal.{is_owned}
use Rattle.srt_group_model.specs.Cells.{is_data}
use Rattle.srt_group_model.specs.Validity.{max_pending, max_members, any_above, max_queued, is_too_large, event_sequence_too_large, one_twice, queued_count, member_sum_wrong, is_unreserved, reserved_sum_wrong, data_out_of_range, event_words, event_out_of_range, packet_words, packet_out_of_range, is_held_for}
use Rattle.srt_group_model.specs.declared.Event.{Event}
use Rattle.srt_group_model.specs.declared.Packet.{Packet}
use Rattle.srt_connection_queue.specs.declared.rows.Ring.{Ring}
use Rattle.srt_connection_queue.specs.Rows.{receiver_part, part, ring_of, member_of}
use Rattle.srt_connection_members.specs.Members.{member_in}
use Rattle.srt_connection_members.specs.Laws.Members.{found_none}
use Rattle.srt_group_tables.specs.Packets.{packet_at, packets}
use Rattle.word_rows.specs.Tab.{tab}
use Rattle.word_rows.specs.Laws.Tab.{tab_length, tab_push}
use Rattle.srt_group_rules.specs.Rules.{event_breaks_rule, packet_breaks_rule}
use Rattle.srt_group_rules.specs.Laws.Walks.{all_of_tab, any_there, any_nowhere, any_same, queued, the_queue}
use Rattle.srt_group_rules.specs.Ids.{id_at, members_upto}
use Rattle.srt_group_rules.specs.Laws.Ids.{Apart, ids_of, once_apart, found_upto, found_id}
use Rattle.srt_group_rules.specs.Sums.{sum_of, event_count, own_place, account_place, differs, accounts_wrong, account_at, Adding, member_differs, index_of, accounts_differ}
use Rattle.srt_group_model.specs.Laws.Accounts.{account_yes, account_no, Small, Few, few_account, few_room}
use Rattle.srt_group_model.specs.Accounts.{no_packets, reserve, account_of, unlike, Fits}
use Rattle.srt_group_model.specs.declared.Account.{Account}
use Rattle.srt_group_model.specs.Laws.Weights.{counted_most, total_append}

-- ---- definitions

pub accounts_wrong_is : (s : State) → accounts_wrong s.members s.receive.pending s.own ≡ reserved_sum_wrong s
unfolding accounts_wrong reserved_sum_wrong
accounts_wrong_is s = refl

-- ---- a sum, one element more

module _ {A : Type 0} (test : A → Bool) (count : A → ℕ) where
  pub sum_none : (f : ℕ → A) → sum_of test count 0 f ≡ 0
  unfolding sum_of tab total
  sum_none f = refl

  pub sum_more : (n : ℕ) (f : ℕ → A) → sum_of test count (n + 1) f ≡ sum_of test count n f + counted test count (f n)
  unfolding sum_of total
  sum_more n f =
      let pushed = ap (λ (k : ℕ). tab k f) (add-one n) ∙ tab_push n f f (f n) (λ i below. refl) refl in
      omega (arith, ap (total (counted test count)) pushed, total_append (counted test count) (tab n f) (f n ∷ []))

  pub sum_small : (n : ℕ) (f : ℕ → A) → ((i : ℕ) → i < n → test (f i) ≡ true → count (f i) ≤ largest_16) → sum_of test count n f ≤ largest_16 * n
  sum_small zero f small = omega (arith, sum_none f)
  sum_small (suc n) f small =
      omega (
        arith,
        ap (λ (k : ℕ). sum_of test count k f) (sym (add-one n)),
        sum_more n f,
        sum_small n f (λ i below it. small i (omega arith) it),
        counted_most largest_16 test count (f n) (small n (omega arith)),
      )

-- ---- counts that a packet or an event can have, from the rows' tests

pub packet_small : (p : Packet) → packet_breaks_rule p ≡ false → Small p
unfolding packet_breaks_rule packet_out_of_range
packet_small p h =
    count_fits p.content
    (or_right (any_above (packet_words p)) _ (or_right (is_too_large p.content.sequence) _ h))

pub event_small : (e : Event) → event_breaks_rule e ≡ false → is_data e ≡ true → event_count e ≤ largest_16
unfolding event_breaks_rule event_out_of_range
event_small e h it =
    count_fits e.content
    (subst (λ (b : Bool). b && data_out_of_range e.content ≡ false) it
    (or_right (any_above (event_words e)) _ (or_right (event_sequence_too_large e) _ h)))

-- ---- the queued counts, front to back

pub record Queued (row : List ℕ) (ring : Ring) (at sum : ℕ) : Type 0 where
  pub within : at ≤ ring.length
  pub is : sum ≡ sum_of is_data event_count at (queued row ring)

module _ (row : List ℕ) (ring : Ring) where
  pub queued_start : Queued row ring 0 0
  queued_start = record { within = omega arith; is = sym (sum_none is_data event_count (queued row ring)) }

  module _ (at sum : ℕ) (here : Queued row ring at sum) where
    queued_small : ((i : ℕ) → i < at → event_breaks_rule (queued row ring i) ≡ false) → sum ≤ largest_16 * at
    queued_small good =
        omega (
          arith,
          here.is,
          sum_small is_data event_count at (queued row ring) (λ i below it. event_small (queued row ring i) (good i below) it),
        )

    -- the event at the place is one more, and breaks no rule
    module _ (event : Event) (n : ℕ) (event_is : event ≡ queued row ring at) (n_is : n ≡ counted is_data event_count event)
        (inside : at < ring.length) where
      pub queued_fits : ((i : ℕ) → i < at → event_breaks_rule (queued row ring i) ≡ false) → event_breaks_rule event ≡ false → ring.length ≤ max_queued
          → sum + n < 2 ^ 64
      queued_fits good fine short =
          omega (
            arith,
            queued_small good,
            n_is,
            counted_most largest_16 is_data event_count event (event_small event fine),
          )

      pub queued_one : Queued row ring (at + 1) (sum + n)
      queued_one =
          record {
            within = omega arith;
            is =
                ap₂ ◌+◌ here.is (n_is ∙ ap (counted is_data event_count) event_is)
                ∙ sym (sum_more is_data event_count at (queued row ring));
          }

    pub queued_all : ring ≡ ring_of (part row receiver_part) → ring.length ≤ at → sum ≡ queued_count (member_of row).queue
    unfolding sum_of
    queued_all read all =
        let whole : at ≡ ring.length = omega (arith, here.within) in
        here.is
        ∙ ap (total (counted is_data event_count))
        (ap (λ (n : ℕ). tab n (queued row ring)) whole ∙ sym (the_queue row ring read))

-- ---- the packets, added up front to back: the accounts of the members, and the group's own behind them

pub place_own : (ms : List Member) (p : Packet) → is_owned p ≡ true → account_place ms p ≡ Some own_place
unfolding account_place if_true◌then◌else◌
place_own ms p mine = rw mine

pub place_held : (ms : List Member) (p : Packet) → is_owned p ≡ false → account_place ms p ≡ find p.member ms
unfolding account_place if_true◌then◌else◌
place_held ms p other = rw other

same_place : (i j : ℕ) → ◌≡◌ {A = (Option ℕ)} (Some i) (Some j) → i ≡ j
same_place i j e = cc

never_nothing : {C : Type 0} (i : ℕ) → ◌≡◌ {A = (Option ℕ)} None (Some i) → C
never_nothing i e = let different : ◌≡◌ {A = ℕ} 0 1 = cc in absurd (omega arith)

-- a packet with a place: the account there is the one that it is added to, and no other is
record Placed (t : List (List ℕ)) (count : ℕ) (p : Packet) (place : ℕ) : Type 0 where
  inside : (place ≡ own_place) ⊎ (place < count)
  reserved : is_unreserved (members_upto count t) p ≡ false
  own_yes : own_place ≡ place → is_owned p ≡ true
  own_no : (own_place ≡ place → ⊥) → is_owned p ≡ false
  held_yes : (i : ℕ) → i < count → i ≡ place → is_held_for (id_at t i) p ≡ true
  held_no : (i : ℕ) → i < count → (i ≡ place → ⊥) → is_held_for (id_at t i) p ≡ false

and_no : (b : Bool) → b && false ≡ false
and_no true = refl
and_no false = refl

module _ (t : List (List ℕ)) (count : ℕ) (few : count ≤ max_members) (once : one_twice (each id_of (members_upto count t)) ≡ false) where
  module _ (p : Packet) where
    placed_own : is_owned p ≡ true → Placed t count p own_place
    unfolding is_unreserved
    placed_own mine =
        record {
          inside = inl refl;
          reserved = ap (λ (b : Bool). not b && not (any (has_id p.member) (members_upto count t))) mine;
          own_yes = λ e. mine;
          own_no = λ other. absurd (other refl);
          held_yes = λ i below e. absurd (omega (arith, e));
          held_no = λ i below other. ap (λ (b : Bool). eqb p.member (id_at t i) && not b) mine ∙ and_no (eqb p.member (id_at t i));
        }

    placed_held : is_owned p ≡ false → (place : ℕ) → place < count → id_at t place ≡ p.member → Placed t count p place
    unfolding is_unreserved
    placed_held other place below mine =
        record {
          inside = inr below;
          reserved =
              ap₂ (λ (b found : Bool). not b && not found) other
              (any_there (has_id p.member) count (member_in t) place below (eq-eqb (id_at t place) p.member mine));
          own_yes = λ e. absurd (omega (arith, e));
          own_no = λ e. other;
          held_yes =
              λ i inside e.
              ap₂ (λ (a b : Bool). a && not b)
              (eq-eqb p.member (id_at t i) (sym (ap (id_at t) e ∙ mine))) other;
          held_no =
              λ i inside differ.
              ap (λ (a : Bool). a && not (is_owned p)) (ne_eqb p.member (id_at t i) (λ e. apart i inside differ (sym e ∙ sym mine)));
        }
      where
        ids_apart : Apart (id_at t) count
        ids_apart = once_apart count (id_at t) (ap one_twice (sym (ids_of count t)) ∙ once)

        apart : (i : ℕ) → i < count → (i ≡ place → ⊥) → id_at t i ≡ id_at t place → ⊥
        apart i inside differ same = by_order (dec_lt i place) (dec_lt place i)
          where
            by_order : Dec (i < place) → Dec (place < i) → ⊥
            by_order (yes lower) h = ids_apart.apart i place lower below same
            by_order (no l) (yes higher) = ids_apart.apart place i higher inside (sym same)
            by_order (no l) (no h) = differ (omega arith)

  placed : (p : Packet) (place : ℕ) → Some place ≡ account_place (members_upto count t) p → Placed t count p place
  placed p place found =
      by_test (is_owned p)
      (λ mine.
      subst (Placed t count p) (sym (same_place place own_place (found ∙ place_own (members_upto count t) p mine)))
      (placed_own p mine))
      (λ other.
      let is = found ∙ place_held (members_upto count t) p other in
      placed_held p other place (found_upto count p.member place t is) (found_id count p.member place t is))

  pub placed_somewhere : (p : Packet) (place : ℕ) → Some place ≡ account_place (members_upto count t) p → is_unreserved (members_upto count t) p ≡ false
  placed_somewhere p place found = (placed p place found).reserved

pub adding_start : (t : List (List ℕ)) (count : ℕ) (pending : List ℕ) → count ≤ max_members → Adding t count pending 0 (replicate 65 no_packets)
unfolding tab total
adding_start t count pending few =
    record {
      long = refl;
      reserved = λ k below. absurd (omega arith);
      own = refl;
      held = λ i below. get_or-replicate 65 i no_packets no_packets (omega (arith, few, below));
    }

-- an account grows by the packet, if it is the one at the packet's place
one_more : (test : Packet → Bool) (pending : List ℕ) (at : ℕ) (accounts : List Account) (place j : ℕ) → place < length accounts
    → account_at accounts j ≡ account_of test (packets at pending)
    → (j ≡ place → test (packet_at pending at) ≡ true) → ((j ≡ place → ⊥) → test (packet_at pending at) ≡ false)
    → account_at (set accounts place (reserve (packet_at pending at).content.count (account_at accounts place))) j ≡ account_of test (packets (at + 1) pending)
one_more test pending at accounts place j long so_far yes_there no_else =
    by_test (eqb j place)
    (λ e.
    let same = eqb-true j place e in
    ap (account_at after) same ∙ get_or-set_same accounts place _ no_packets long
    ∙ ap (reserve p.content.count) (sym (ap (account_at accounts) same) ∙ so_far)
    ∙ sym (account_yes test (packets at pending) p (yes_there same)) ∙ sym pushed)
    (λ e.
    let other = eqb-false j place e in
    get_or-set_other accounts place j _ no_packets other ∙ so_far ∙ sym (account_no test (packets at pending) p (no_else other)) ∙ sym pushed)
  where
    p : Packet
    p = packet_at pending at

    after : List Account
    after = set accounts place (reserve (packet_at pending at).content.count (account_at accounts place))

    pushed : account_of test (packets (at + 1) pending) ≡ account_of test (packets at pending ++ (packet_at pending at ∷ []))
    pushed =
        ap (account_of test)
        (ap (λ (k : ℕ). packets k pending) (add-one at) ∙ tab_push at (packet_at pending) (packet_at pending) (packet_at pending at) (λ i below. refl) refl)

module _ (t : List (List ℕ)) (count : ℕ) (pending : List ℕ) (at : ℕ) (accounts : List Account) (few : count ≤ max_members)
    (once : one_twice (each id_of (members_upto count t)) ≡ false)
    (good : (k : ℕ) → k < at → packet_breaks_rule (packet_at pending k) ≡ false) (here : Adding t count pending at accounts) where
  -- the accounts are of at most so many packets
  small_at : (place : ℕ) → (place ≡ own_place) ⊎ (place < count) → Few at (account_at accounts place)
  small_at place =
      ⊎_elim
      (λ e. subst (Few at) (sym (ap (account_at accounts) e ∙ here.own)) (few_of is_owned))
      (λ below. subst (Few at) (sym (here.held place below)) (few_of (is_held_for (id_at t place))))
    where
      few_of : (test : Packet → Bool) → Few at (account_of test (packets at pending))
      few_of test =
          subst (λ (k : ℕ). Few k (account_of test (packets at pending))) (tab_length at (packet_at pending))
          (few_account test (packets at pending) (all_of_tab Small at (packet_at pending) (λ k below. packet_small _ (good k below))))

  module _ (found : Option ℕ) (p : Packet) (place : ℕ) (is : found ≡ Some place) (found_is : found ≡ account_place (members_upto count t) p)
      (read : p ≡ packet_at pending at) where
    there : Placed t count p place
    there = placed t count few once p place (sym is ∙ found_is)

    pub place_inside : place < 65
    place_inside = ⊎_elim (λ own. omega (arith, own)) (λ held. omega (arith, few, held)) there.inside

    -- its words stay far below 2^64
    pub account_fits : packet_breaks_rule p ≡ false → at < max_pending → Fits (reserve p.content.count (account_at accounts place))
    account_fits fine inside = few_room (omega arith) (packet_small p fine) (small_at place there.inside)

    pub added_one : (after : Account) → after ≡ reserve p.content.count (account_at accounts place) → Adding t count pending (at + 1) (set accounts place after)
    added_one after after_is =
        subst (λ (x : Account). Adding t count pending (at + 1) (set accounts place x))
        (sym (after_is ∙ ap (λ (x : Packet). reserve x.content.count (account_at accounts place)) read))
        record {
          long = length-set accounts place _ ∙ here.long;
          reserved = λ k below. passed k below (dec_lt k at);
          own =
              one_more is_owned pending at accounts place own_place long here.own (λ e. ap is_owned (sym read) ∙ there.own_yes e)
              (λ e. ap is_owned (sym read) ∙ there.own_no e);
          held =
              λ i below.
              one_more (is_held_for (id_at t i)) pending at accounts place i long (here.held i below)
              (λ e. ap (is_held_for (id_at t i)) (sym read) ∙ there.held_yes i below e)
              (λ e. ap (is_held_for (id_at t i)) (sym read) ∙ there.held_no i below e);
        }
      where
        long : place < length accounts
        long = omega (arith, place_inside, here.long)

        passed : (k : ℕ) → k < at + 1 → Dec (k < at) → is_unreserved (members_upto count t) (packet_at pending k) ≡ false
        passed k below (yes lower) = here.reserved k lower
        passed k below (no other) =
            let last : k ≡ at = omega arith in
            ap (λ (j : ℕ). is_unreserved (members_upto count t) (packet_at pending j)) last
            ∙ ap (is_unreserved (members_upto count t)) (sym read) ∙ there.reserved

-- ---- the whole rule, from the walk and the comparison

-- a packet with no place is in no account, and one with a place is in one
module _ (ms : List Member) (p : Packet) where
  pub placed_nowhere : account_place ms p ≡ None → is_unreserved ms p ≡ true
  unfolding is_unreserved
  placed_nowhere nothing =
      by_test (is_owned p) (λ mine. never_nothing own_place (sym nothing ∙ place_own ms p mine))
      (λ other.
      ap₂ (λ (b there : Bool). not b && not there) other
      (place_none (has_id p.member) ms (found_none (find p.member ms) (sym nothing ∙ place_held ms p other))))

module _ (t : List (List ℕ)) (count : ℕ) (pending : List ℕ) (n : ℕ) (own : Account) (accounts : List Account) (whole : Adding t count pending n accounts) where
  pub wrong_is : accounts_wrong (members_upto count t) (packets n pending) own ≡ (unlike own (account_at accounts own_place) || accounts_differ t accounts count)
  unfolding accounts_wrong accounts_differ member_sum_wrong differs
  wrong_is =
      ap₂ ◌||◌
      (any_same (member_sum_wrong (packets n pending)) (member_differs t accounts) count (member_in t) index_of (λ i below. member_is i below))
      (ap₂ ◌||◌
      (any_nowhere (is_unreserved (members_upto count t)) n (packet_at pending) (λ k below. whole.reserved k below))
      (ap (unlike own) (sym whole.own)))
      ∙ or_swap (any (member_differs t accounts) (tab count index_of)) (unlike own (account_at accounts own_place))
    where
      or_swap : (a b : Bool) → (a || (false || b)) ≡ (b || a)
      or_swap true true = refl
      or_swap true false = refl
      or_swap false true = refl
      or_swap false false = refl

      member_is : (i : ℕ) → i < count → member_sum_wrong (packets n pending) (member_in t i) ≡ member_differs t accounts i
      member_is i below = ap (λ (held : Account). differs held (member_in t i)) (sym (whole.held i below))
