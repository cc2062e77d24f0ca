-- What is proved of the definitions in specs/Broadcast.antt, with what the proofs need.
use Rattle.std.specs.Prelude.{◌≡◌, Bool, ◌&&◌, ◌||◌, eqb, Err, None, Ok, Option, Some, is_some}
use Rattle.std.proofs.Math.Path.{refl, ap, sym}
use Rattle.std.proofs.Common.{subst, ◌∙◌, add-one}
use Rattle.std.proofs.Math.Bool.{true, false, not}
use mathlib.Core.List.{List, [], ◌∷◌, ◌++◌}
use Prim.Native.Nat.{ℕ, suc, ◌+◌, ◌*◌, ◌≤◌, ◌<◌}
use native.Mathlib.Omega.{arith}
use Rattle.std.proofs.Math.Dec.{ltb}
use Rattle.std.proofs.Math.ListN.{length}
use Rattle.word_rows.specs.Tab.{tab}
use Rattle.word_rows.specs.Laws.Tab.{tab_push}
use Rattle.srt_protocol.specs.Sequence.{sequence_further}
use Rattle.srt_protocol.specs.declared.error.Error.TheVariants.{NoActiveMember, SequenceMismatch, AllBroadcastFailed}
use Rattle.srt_group_tables.specs.Laws.PacketLaws.{each_append}
use Rattle.std.specs.Option.{MatchOption, option_map, unwrap_or}
use Rattle.srt_group_model.specs.Tools.{if_true◌then◌else◌, if_some◌give◌otherwise◌, is_set, flagged, is_empty, any, first_such, such_that, place_of, at_place, each}
use Rattle.srt_group_model.specs.State.{Member, Send, State, with_leg, turned, unstable_state, broken_state, with_number}
use Rattle.srt_group_model.specs.Laws.Flag.{zero_unset, other_set}
use Rattle.srt_group_model.specs.Legs.{is_connected, can_send, send_shared_with_sequence}
use Rattle.srt_group_model.specs.Members.{is_active, first_active}
use Rattle.srt_group_model.specs.Sending.{sent_row_size, list_size, Sent, own_send, Flow, mark_send_failure, sequence_for_send, sequence_mismatch, above_limit, takes_send, attempt_send, send_broadcast}
use Rattle.srt_group_model.specs.Validity.{max_members}
use Rattle.srt_group_model.specs.declared.Leg.{Leg}
use Rattle.srt_group_model.specs.declared.Sender.{Sender}
use Rattle.srt_group_model.specs.declared.Sending.{Sending}
use Rattle.srt_connection_members.specs.Members.{member_at, members_in, members_of, Changed}
use Rattle.srt_connection_members.specs.Laws.Members.{members_place, found_some, found_none, changed_by, changed_twice, unchanged, Changing, changing_start, changing_on, changing_done}
use Rattle.srt_group_members.specs.Laws.Scan.{found_row, any_found}
use Rattle.srt_group_members.specs.Rank.{shown}
use Rattle.srt_group_sending.specs.SentList.{sent_rows, send_tables, Wrote}
use Rattle.srt_group_sending.specs.OwnSend.{SentOn}
use Rattle.srt_group_sending.specs.Laws.OwnSend.{not_some, with_some}
use Rattle.srt_group_sending.specs.Laws.Rows.{row_there, row_found}
use Rattle.srt_group_sending.specs.Laws.SentList.{wrote_nothing, wrote_length, wrote_then, wrote_rows}
use Rattle.srt_group_sending.specs.Broadcast.{number_for_send, is_mismatched, sends_of, left_by_send, AttemptedAt, Attempted, SentBroadcast}

-- ---- a leg that failed

module _ (i : ℕ) (t u : List ℕ) {leg : Leg} {full : Bool} (is_leg : leg ≡ (member_at t i).leg)
    (is : full ≡ (is_connected leg && not (can_send leg))) where
  full_window : (is_connected (member_at t i).leg && not (can_send (member_at t i).leg)) ≡ full
  full_window = sym (is ∙ ap (λ (l : Leg). is_connected l && not (can_send l)) is_leg)

  marked : {state : ℕ} → (if_true full then unstable_state else broken_state) ≡ state → Changed i (turned state) t u
      → Changed i mark_send_failure t u
  unfolding mark_send_failure
  marked {state} e c =
      changed_by i t u mark_send_failure c
      (sym
      (ap (λ (b : Bool). turned (if_true b then unstable_state else broken_state) (member_at t i)) full_window
      ∙ ap (λ (n : ℕ). turned n (member_at t i)) e))

  pub marked_unstable : full ≡ true → Changed i (turned unstable_state) t u → Changed i mark_send_failure t u
  unfolding if_true◌then◌else◌
  marked_unstable e = marked (ap (λ (b : Bool). if_true b then unstable_state else broken_state) e)

  pub marked_broken : full ≡ false → Changed i (turned broken_state) t u → Changed i mark_send_failure t u
  unfolding if_true◌then◌else◌
  marked_broken e = marked (ap (λ (b : Bool). if_true b then unstable_state else broken_state) e)

-- ---- the first of those that pass a test

module _ {A : Type 0} (test : A → Bool) where
  pub such_that_none : (l : List A) → place_of test l ≡ None → such_that test l ≡ []
  unfolding such_that place_of if_true◌then◌else◌ if_some◌give◌otherwise◌
  such_that_none [] e = refl
  such_that_none (x ∷ xs) e = go (test x) (place_of test xs) (such_that_none xs) e
    where
      go : (b : Bool) (o : Option ℕ) → (o ≡ None → such_that test xs ≡ [])
          → (if_true b then Some 0 else (if_some o give (λ k. Some (suc k)) otherwise None)) ≡ None
          → (if_true b then x ∷ such_that test xs else such_that test xs) ≡ []
      go true o h e = cc e
      go false None h e = h refl
      go false (Some j) h e = cc e

  pub such_that_first : (l : List A) (i : ℕ) → place_of test l ≡ Some i → at_place 0 (such_that test l) ≡ at_place i l
  unfolding such_that place_of at_place if_true◌then◌else◌ if_some◌give◌otherwise◌
  such_that_first [] i e = refl
  such_that_first (x ∷ xs) i e = go (test x) (place_of test xs) (such_that_first xs) i e
    where
      go : (b : Bool) (o : Option ℕ) → ((j : ℕ) → o ≡ Some j → at_place 0 (such_that test xs) ≡ at_place j xs) → (i : ℕ)
          → (if_true b then Some 0 else (if_some o give (λ k. Some (suc k)) otherwise None)) ≡ Some i
          → at_place 0 (if_true b then x ∷ such_that test xs else such_that test xs) ≡ at_place i (x ∷ xs)
      go true o h i e = let first : 0 ≡ i = cc in rw (← first)
      go false None h i e = cc e
      go false (Some j) h i e = let later : suc j ≡ i = cc in rw (← later) (h j refl)

  pub such_that_append : (l k : List A) → such_that test (l ++ k) ≡ such_that test l ++ such_that test k
  unfolding such_that if_true◌then◌else◌
  such_that_append [] k = refl
  such_that_append (x ∷ xs) k = go (test x) (such_that_append xs k)
    where
      go : (b : Bool) → such_that test (xs ++ k) ≡ such_that test xs ++ such_that test k
          → (if_true b then x ∷ such_that test (xs ++ k) else such_that test (xs ++ k))
          ≡ (if_true b then x ∷ such_that test xs else such_that test xs) ++ such_that test k
      go true e = ap (λ (r : List A). x ∷ r) e
      go false e = e

  such_that_few : (l : List A) → length (such_that test l) ≤ length l
  unfolding such_that if_true◌then◌else◌
  such_that_few [] = omega arith
  such_that_few (x ∷ xs) = go (test x) (such_that_few xs)
    where
      go : (b : Bool) → length (such_that test xs) ≤ length xs
          → length (if_true b then x ∷ such_that test xs else such_that test xs) ≤ suc (length xs)
      go true h = omega arith
      go false h = omega arith

each_length : {A B : Type 0} (f : A → B) (l : List A) → length (each f l) ≡ length l
unfolding each
each_length f [] = refl
each_length f (x ∷ xs) = ap suc (each_length f xs)

empty_placed : {A : Type 0} (l : List A) (a : A) → at_place 0 l ≡ Some a → is_empty l ≡ false
unfolding at_place is_empty
empty_placed [] a e = cc e
empty_placed (x ∷ xs) a e = refl

module _ (n : ℕ) (t : List ℕ) where
  none_active : None ≡ first_active (members_of n t) → such_that is_active (members_of n t) ≡ []
  none_active e = such_that_none is_active (members_of n t) (found_none (place_of is_active (members_of n t)) e)

  first_is : (i : ℕ) → Some i ≡ first_active (members_of n t)
      → at_place 0 (such_that is_active (members_of n t)) ≡ Some (member_at t i)
  first_is i e =
      such_that_first is_active (members_of n t) i (found_some (place_of is_active (members_of n t)) i e)
      ∙ members_place n t i (found_row is_active n t i e)

-- ---- before anything is sent

module _ (rows : List (List ℕ)) (size : ℕ) where
  pub limit_of_none : None ≡ first_active (members_in rows) → false ≡ above_limit size (members_in rows)
  unfolding above_limit at_place if_some◌give◌otherwise◌
  limit_of_none e =
      let none_there = such_that_none is_active (members_in rows) (found_none (place_of is_active (members_in rows)) e) in
      sym (rw none_there)

  pub limit_of_first : (i : ℕ) {leg : Leg} → Some i ≡ first_active (members_in rows) → leg ≡ (shown rows i).leg
      → ltb leg.link.limit size ≡ above_limit size (members_in rows)
  unfolding above_limit if_some◌give◌otherwise◌
  limit_of_first i e is_leg =
      let first = such_that_first is_active (members_in rows) i (found_some (place_of is_active (members_in rows)) i e) in
      let there = row_there i rows (row_found is_active rows i e) in
      ap (λ (l : Leg). ltb l.link.limit size) is_leg ∙ sym (rw (first, there))

  first_passing : (test : Member → Bool) (ms : List Member) → first_such test ms ≡ at_place 0 (such_that test ms)
  unfolding first_such such_that at_place if_true◌then◌else◌
  first_passing test [] = refl
  first_passing test (m ∷ ms) = go (test m) (first_passing test ms)
    where
      go : (b : Bool) → first_such test ms ≡ at_place 0 (such_that test ms)
          → (if_true b then Some m else first_such test ms) ≡ at_place 0 (if_true b then m ∷ such_that test ms else such_that test ms)
      go true behind = refl
      go false behind = behind

  pub limit_by_first : {A : Type 0} (seen : A → Member) (found : Option A) {answer : Bool}
      → option_map seen found ≡ first_such is_active (members_in rows)
      → MatchOption found (answer ≡ false) (λ x. answer ≡ ltb (seen x).leg.link.limit size) → answer ≡ above_limit size (members_in rows)
  unfolding above_limit if_some◌give◌otherwise◌
  limit_by_first {A = A} seen found {answer} first given =
      by found given
      ∙ ap (λ (o : Option Member). if_some o give (λ m. ltb m.leg.link.limit size) otherwise false)
      (first ∙ first_passing is_active (members_in rows))
    where
      by : (o : Option A) → MatchOption o (answer ≡ false) (λ x. answer ≡ ltb (seen x).leg.link.limit size)
          → answer ≡ (if_some option_map seen o give (λ m. ltb m.leg.link.limit size) otherwise false)
      by None g = g
      by (Some x) g = g

module _ (x : Sending) (m : Member) where
  pub numbered_number : (x.numbered ≡ 0 → ⊥) → x.next ≡ number_for_send x m
  unfolding number_for_send if_true◌then◌else◌
  numbered_number h = sym (rw (other_set x.numbered h))

  pub number_or : {number : Option ℕ} {sender : Sender} → number ≡ flagged (is_set x.numbered) x.next → sender ≡ m.leg.sender
      → unwrap_or number sender.next ≡ number_for_send x m
  unfolding number_for_send if_true◌then◌else◌ flagged
  number_or {number} {sender} is is_sender =
      ap (λ (o : Option ℕ). unwrap_or o sender.next) is ∙ ap (λ (y : Sender). unwrap_or (flagged (is_set x.numbered) x.next) y.next) is_sender
      ∙ by (is_set x.numbered)
    where
      by : (b : Bool) → unwrap_or (flagged b x.next) m.leg.sender.next ≡ (if_true b then x.next else m.leg.sender.next)
      by true = refl
      by false = refl

  pub leg_number : {sender : Sender} → x.numbered ≡ 0 → sender ≡ m.leg.sender → sender.next ≡ number_for_send x m
  unfolding number_for_send if_true◌then◌else◌
  leg_number h is = ap (λ (y : Sender). y.next) is ∙ sym (rw (zero_unset x.numbered h))

pub number_of_first : (x : Send) (ms : List Member) (m : Member) → at_place 0 ms ≡ Some m
    → sequence_for_send x ms ≡ number_for_send x.numbers m
unfolding sequence_for_send number_for_send if_true◌then◌else◌ if_some◌give◌otherwise◌ flagged
number_of_first x ms m e = go (is_set x.numbers.numbered)
  where
    go : (b : Bool)
        → (if_some flagged b x.numbers.next
        give (λ n. n)
        otherwise (if_some at_place 0 ms give (λ k. k.leg.sender.next) otherwise 0))
        ≡ (if_true b then x.numbers.next else m.leg.sender.next)
    go true = refl
    go false = ap (λ (o : Option Member). if_some o give (λ k. k.leg.sender.next) otherwise 0) e

module _ (sequence : ℕ) (m : Member) {active : Bool} (is : active ≡ is_active m) where
  pub inactive_matches : active ≡ false → false ≡ is_mismatched sequence m
  unfolding is_mismatched
  inactive_matches e = sym (rw (← is, e))

  pub active_matches : {sender : Sender} → active ≡ true → sender ≡ m.leg.sender
      → not (eqb sender.next sequence) ≡ is_mismatched sequence m
  unfolding is_mismatched
  active_matches e is_sender =
      ap (λ (y : Sender). not (eqb y.next sequence)) is_sender
      ∙ sym (rw (← is, e))

pub mismatch_of_any : (sequence : ℕ) (ms : List Member) → sequence_mismatch sequence (such_that is_active ms) ≡ any (is_mismatched sequence) ms
unfolding sequence_mismatch is_mismatched such_that any if_true◌then◌else◌
mismatch_of_any sequence [] = refl
mismatch_of_any sequence (m ∷ ms) = go (is_active m) (mismatch_of_any sequence ms)
  where
    go : (b : Bool) → sequence_mismatch sequence (such_that is_active ms) ≡ any (is_mismatched sequence) ms
        → sequence_mismatch sequence (if_true b then m ∷ such_that is_active ms else such_that is_active ms)
        ≡ ((b && not (eqb m.leg.sender.next sequence)) || any (is_mismatched sequence) ms)
    go true e = ap (λ (r : Bool). not (eqb m.leg.sender.next sequence) || r) e
    go false e = e

module _ (sequence n : ℕ) (t : List ℕ) where
  pub mismatch_at : (i : ℕ) → Some i ≡ place_of (is_mismatched sequence) (members_of n t)
      → true ≡ sequence_mismatch sequence (such_that is_active (members_of n t))
  mismatch_at i e =
      sym (mismatch_of_any sequence (members_of n t) ∙ any_found (is_mismatched sequence) (members_of n t) ∙ ap is_some (sym e))

  pub mismatch_nowhere : None ≡ place_of (is_mismatched sequence) (members_of n t)
      → false ≡ sequence_mismatch sequence (such_that is_active (members_of n t))
  mismatch_nowhere e =
      sym (mismatch_of_any sequence (members_of n t) ∙ any_found (is_mismatched sequence) (members_of n t) ∙ ap is_some (sym e))

-- ---- one attempt

module _ (time size sequence : ℕ) where
  sends_append : (l k : List Member) → sends_of time size sequence (l ++ k) ≡ sends_of time size sequence l ++ sends_of time size sequence k
  unfolding sends_of
  sends_append l k =
      ap (each (own_send time sequence)) (such_that_append (takes_send time size sequence) l k)
      ∙ each_append (own_send time sequence) (such_that (takes_send time size sequence) l)
      (such_that (takes_send time size sequence) k)

  sends_few : (l : List Member) → length (sends_of time size sequence l) ≤ length l
  unfolding sends_of
  sends_few l =
      omega (
        arith,
        each_length (own_send time sequence) (such_that (takes_send time size sequence) l),
        such_that_few (takes_send time size sequence) l,
      )

  module _ (m : Member) where
    sends_none : takes_send time size sequence m ≡ false → sends_of time size sequence (m ∷ []) ≡ []
    unfolding sends_of such_that each if_true◌then◌else◌
    sends_none e = rw e

    sends_one : takes_send time size sequence m ≡ true → sends_of time size sequence (m ∷ []) ≡ own_send time sequence m ∷ []
    unfolding sends_of such_that each if_true◌then◌else◌
    sends_one e = rw e

    takes_inactive : is_active m ≡ false → takes_send time size sequence m ≡ false
    unfolding takes_send
    takes_inactive e = rw e

    attempt_inactive : is_active m ≡ false → attempt_send time size sequence m ≡ m
    unfolding attempt_send if_true◌then◌else◌
    attempt_inactive e = rw e

    takes_failed : is_active m ≡ true → send_shared_with_sequence time size sequence m.leg ≡ None
        → takes_send time size sequence m ≡ false
    unfolding takes_send if_some◌give◌otherwise◌
    takes_failed e f = rw (e, f)

    attempt_failed : is_active m ≡ true → send_shared_with_sequence time size sequence m.leg ≡ None
        → attempt_send time size sequence m ≡ mark_send_failure m
    unfolding attempt_send if_true◌then◌else◌ if_some◌give◌otherwise◌
    attempt_failed e f = rw (e, f)

    takes_sent : (l : Leg) → is_active m ≡ true → send_shared_with_sequence time size sequence m.leg ≡ Some l
        → takes_send time size sequence m ≡ true
    unfolding takes_send if_some◌give◌otherwise◌
    takes_sent l e f = rw (e, f)

    attempt_sent : (l : Leg) → is_active m ≡ true → send_shared_with_sequence time size sequence m.leg ≡ Some l
        → attempt_send time size sequence m ≡ with_leg l m
    unfolding attempt_send if_true◌then◌else◌ if_some◌give◌otherwise◌
    attempt_sent l e f = rw (e, f)

module _ (i time size sequence sent : ℕ) (t a : List ℕ) {active : Bool} (is : active ≡ is_active (member_at t i)) where
  wrote_none : takes_send time size sequence (member_at t i) ≡ false
      → Wrote sent (sends_of time size sequence (member_at t i ∷ [])) a sent a
  wrote_none e =
      subst (λ (xs : List Sent). Wrote sent xs a sent a) (sym (sends_none time size sequence (member_at t i) e)) (wrote_nothing sent a)

  pub not_attempted : active ≡ false → AttemptedAt i time size sequence sent (send_tables t a) sent (send_tables t a)
  not_attempted e =
      record {
        changed =
            changed_by i t t (attempt_send time size sequence) (unchanged i t)
            (sym (attempt_inactive time size sequence (member_at t i) (sym is ∙ e)));
        wrote = wrote_none (takes_inactive time size sequence (member_at t i) (sym is ∙ e));
      }

  module _ {went : Bool} {v b : List ℕ} (e : active ≡ true)
      (on : SentOn time size sequence i sent (send_tables t a) went (send_tables v b)) where
    pub attempt_marked : {u : List ℕ} → went ≡ false → Changed i mark_send_failure v u
        → AttemptedAt i time size sequence sent (send_tables t a) sent (send_tables u b)
    unfolding if_true◌then◌else◌ if_some◌give◌otherwise◌
    attempt_marked {u} failed c =
        record {
          changed =
              changed_by i t u (attempt_send time size sequence) (changed_twice i t v u on.changed c)
              (ap mark_send_failure (rw fails) ∙ sym (attempt_failed time size sequence (member_at t i) (sym is ∙ e) fails));
          wrote =
              subst (λ (xs : List Sent). Wrote sent xs a sent b)
              (sym (sends_none time size sequence (member_at t i) (takes_failed time size sequence (member_at t i) (sym is ∙ e) fails)))
              (rw failed at on.written);
        }
      where
        fails : send_shared_with_sequence time size sequence (member_at t i).leg ≡ None
        fails = not_some (send_shared_with_sequence time size sequence (member_at t i).leg) (sym failed ∙ on.succeeded)

    pub attempt_noted : went ≡ true → AttemptedAt i time size sequence sent (send_tables t a) (sent + 1) (send_tables v b)
    unfolding if_true◌then◌else◌ if_some◌give◌otherwise◌
    attempt_noted succeeded =
        with_some (send_shared_with_sequence time size sequence (member_at t i).leg) (sym succeeded ∙ on.succeeded)
        (λ l goes.
        record {
          changed =
              changed_by i t v (attempt_send time size sequence) on.changed
              (rw goes (sym (attempt_sent time size sequence (member_at t i) l (sym is ∙ e) goes)));
          wrote =
              subst (λ (xs : List Sent). Wrote sent xs a (sent + 1) b)
              (sym (sends_one time size sequence (member_at t i) (takes_sent time size sequence (member_at t i) l (sym is ∙ e) goes)))
              (rw succeeded at on.written);
        })

-- ---- the attempts, one after the other

-- the members below i are tried
pub record Attempting (n i time size sequence : ℕ) (t a : List ℕ) (sent : ℕ) (u b : List ℕ) : Type 0 where
  pub within : i ≤ n
  pub few : sent ≤ i
  pub list_long : length b ≡ length a
  pub changing : Changing i (attempt_send time size sequence) t u
  pub wrote : Wrote 0 (sends_of time size sequence (members_of i t)) a sent b

one_more : (i : ℕ) (t : List ℕ) → members_of i t ++ (member_at t i ∷ []) ≡ members_of (i + 1) t
unfolding members_of
one_more i t =
    sym
    (ap (λ (k : ℕ). tab k (member_at t)) (add-one i)
    ∙ tab_push i (member_at t) (member_at t) (member_at t i) (λ j h. refl) refl)

module _ (n time size sequence : ℕ) (t a : List ℕ) where
  pub attempting_start : Attempting n 0 time size sequence t a 0 t a
  unfolding sends_of members_of tab such_that each
  attempting_start =
      record {
        within = omega arith;
        few = omega arith;
        list_long = refl;
        changing = changing_start (attempt_send time size sequence) t;
        wrote = wrote_nothing 0 a;
      }

  pub attempting_on : {v c : List ℕ} {answer : ℕ} (i sent : ℕ) (u b : List ℕ) → i < n → n ≤ max_members → list_size ≤ length a
      → Attempting n i time size sequence t a sent u b → AttemptedAt i time size sequence sent (send_tables u b) answer (send_tables v c)
      → Attempting n (i + 1) time size sequence t a answer v c
  attempting_on {v} {c} {answer} i sent u b h most enough so_far at =
      record {
        within = omega arith;
        few = few_now;
        list_long =
            wrote_length at.wrote (omega (arith, few_now, so_far.list_long)) ∙ so_far.list_long;
        changing = changing_on i (attempt_send time size sequence) t u v so_far.changing at.changed;
        wrote =
            subst (λ (xs : List Sent). Wrote 0 xs a answer c) rows
            (wrote_then so_far.wrote (omega (arith, so_far.few)) at.wrote);
      }
    where
      few_now : answer ≤ i + 1
      few_now = omega (arith, so_far.few, at.wrote.count, sends_few time size sequence (member_at u i ∷ []))

      rows : sends_of time size sequence (members_of i t) ++ sends_of time size sequence (member_at u i ∷ [])
          ≡ sends_of time size sequence (members_of (i + 1) t)
      rows =
          ap (λ (m : Member). sends_of time size sequence (members_of i t) ++ sends_of time size sequence (m ∷ []))
          (so_far.changing.left i (omega arith))
          ∙ sym (sends_append time size sequence (members_of i t) (member_at t i ∷ []))
          ∙ ap (sends_of time size sequence) (one_more i t)

  pub attempting_done : {u b : List ℕ} (i sent : ℕ) → n ≤ i → Attempting n i time size sequence t a sent u b
      → Attempted n time size sequence (send_tables t a) sent (send_tables u b)
  attempting_done {u} {b} i sent h so_far =
      let all = changing_done i n (attempt_send time size sequence) t u h so_far.within so_far.changing in
      let end : i ≡ n = omega (arith, so_far.within) in
      record {
        long = all.long;
        members = all.members;
        wrote = subst (λ (k : ℕ). Wrote 0 (sends_of time size sequence (members_of k t)) a sent b) end so_far.wrote;
        few = omega (arith, so_far.few);
      }

-- ---- the whole send

-- the rows that are shown are the sends
list_shown : (xs : List Sent) (a b : List ℕ) (sent : ℕ) → sent * sent_row_size ≤ length a → Wrote 0 xs a sent b → sent_rows sent b ≡ xs
unfolding tab
list_shown xs a b sent fits w = wrote_rows 0 sent xs a b w fits

nothing_shown : (a : List ℕ) → sent_rows 0 a ≡ []
unfolding tab
nothing_shown a = refl

none_left : {A : Type 0} (l : List A) → 0 ≡ length l → is_empty l ≡ true
unfolding is_empty
none_left [] e = refl
none_left (x ∷ xs) e = absurd (omega arith)

some_left : {A : Type 0} (l : List A) → (length l ≡ 0 → ⊥) → is_empty l ≡ false
unfolding is_empty
some_left [] h = absurd (h refl)
some_left (x ∷ xs) h = refl

-- a state with these members and these numbers
module _ (n : ℕ) (x : Sending) (t : List ℕ) (s : State) (members : s.members ≡ members_of n t) (numbers : s.send.numbers ≡ x) where
  unmoved : s ≡ left_by_send x (members_of n t) s
  unmoved = λ j. left_by_send (numbers j) (members j) s

  left_as : (z y : Sending) (l k : List Member) → z ≡ y → l ≡ k → left_by_send z l s ≡ left_by_send y k s
  left_as z y l k q e = λ j. left_by_send (q j) (e j) s

  no_active_in : None ≡ first_active (members_of n t) → such_that is_active s.members ≡ []
  no_active_in e = ap (such_that is_active) members ∙ none_active n t e

  module _ (i : ℕ) (first : Some i ≡ first_active (members_of n t)) where
    first_in : at_place 0 (such_that is_active s.members) ≡ Some (member_at t i)
    first_in = ap (λ (l : List Member). at_place 0 (such_that is_active l)) members ∙ first_is n t i first

    active_in : is_empty (such_that is_active s.members) ≡ false
    active_in = empty_placed (such_that is_active s.members) (member_at t i) first_in

    sequence_in : (sequence : ℕ) → sequence ≡ number_for_send x (member_at t i)
        → sequence_for_send s.send (such_that is_active s.members) ≡ sequence
    sequence_in sequence is =
        number_of_first s.send (such_that is_active s.members) (member_at t i) first_in
        ∙ ap (λ (y : Sending). number_for_send y (member_at t i)) numbers
        ∙ sym is

  mismatch_in : (sequence : ℕ) {answer : Bool} → answer ≡ sequence_mismatch sequence (such_that is_active (members_of n t))
      → sequence_mismatch sequence (such_that is_active s.members) ≡ answer
  mismatch_in sequence is = ap (λ (l : List Member). sequence_mismatch sequence (such_that is_active l)) members ∙ sym is

  sends_in : (time size sequence : ℕ) → each (own_send time sequence) (such_that (takes_send time size sequence) s.members)
      ≡ sends_of time size sequence (members_of n t)
  unfolding sends_of
  sends_in time size sequence =
      ap (λ (l : List Member). each (own_send time sequence) (such_that (takes_send time size sequence) l)) members

abbrev answered : (s : State) → List Sent → ℕ → Flow
answered s xs code = record { state = s; sends = xs; code = code }

module _ (n time size : ℕ) (x : Sending) (t a : List ℕ) where
  pub none_active_left : None ≡ first_active (members_of n t)
      → SentBroadcast n time size x (send_tables t a) record { outcome = Err NoActiveMember; state = x; sent = 0 } (send_tables t a)
  unfolding send_broadcast is_empty if_true◌then◌else◌ tab
  none_active_left e =
      record {
        long = refl;
        wrote = wrote_nothing 0 a;
        few = omega arith;
        is =
            λ s members numbers.
            rw (no_active_in n x t s members numbers e)
            (ap (λ (y : State). answered y [] 24) (unmoved n x t s members numbers));
      }

  module _ (i : ℕ) {sequence : ℕ} {mismatch : Bool} (first : Some i ≡ first_active (members_of n t))
      (is_sequence : sequence ≡ number_for_send x (member_at t i))
      (is_mismatch : mismatch ≡ sequence_mismatch sequence (such_that is_active (members_of n t))) where
    pub mismatch_left : mismatch ≡ true
        → SentBroadcast n time size x (send_tables t a) record { outcome = Err SequenceMismatch; state = x; sent = 0 } (send_tables t a)
    unfolding send_broadcast if_true◌then◌else◌ tab
    mismatch_left e =
        record {
          long = refl;
          wrote = wrote_nothing 0 a;
          few = omega arith;
          is =
              λ s members numbers.
              rw (
                active_in n x t s members numbers i first,
                sequence_in n x t s members numbers i first sequence is_sequence,
                mismatch_in n x t s members numbers sequence is_mismatch,
                e,
              )
              (ap (λ (y : State). answered y [] 25) (unmoved n x t s members numbers));
        }

    module _ (e : mismatch ≡ false) {sent : ℕ} {u b : List ℕ} (tried : Attempted n time size sequence (send_tables t a) sent (send_tables u b))
        (fits : sent * sent_row_size ≤ length a) where
      rows_are : sent_rows sent b ≡ sends_of time size sequence (members_of n t)
      rows_are = list_shown (sends_of time size sequence (members_of n t)) a b sent fits tried.wrote

      wrote_shown : Wrote 0 (sent_rows sent b) a sent b
      wrote_shown = subst (λ (xs : List Sent). Wrote 0 xs a sent b) (sym rows_are) tried.wrote

      members_are : (s : State) → s.members ≡ members_of n t
          → each (attempt_send time size sequence) s.members ≡ members_of n u
      members_are s members = ap (each (attempt_send time size sequence)) members ∙ sym tried.members

      pub all_failed : sent ≡ 0
          → SentBroadcast n time size x (send_tables t a) record { outcome = Err AllBroadcastFailed; state = x; sent = sent } (send_tables u b)
      unfolding send_broadcast if_true◌then◌else◌
      all_failed zero_sent =
          record {
            long = tried.long;
            wrote = wrote_shown;
            few = tried.few;
            is =
                λ s members numbers.
                rw (
                  active_in n x t s members numbers i first,
                  sequence_in n x t s members numbers i first sequence is_sequence,
                  mismatch_in n x t s members numbers sequence is_mismatch,
                  e,
                  sends_in n x t s members numbers time size sequence,
                  none_left (sends_of time size sequence (members_of n t)) (omega (arith, zero_sent, tried.wrote.count)),
                )
                (λ j.
                answered
                (left_as n x t s members numbers s.send.numbers x (each (attempt_send time size sequence) s.members)
                (members_of n u) numbers (members_are s members) j)
                (no_rows j) 26);
          }
        where
          no_rows : [] ≡ sent_rows sent b
          no_rows = sym (nothing_shown b) ∙ ap (λ (k : ℕ). sent_rows k b) (sym zero_sent)

      pub sent_by_some : {y : Sending} → (sent ≡ 0 → ⊥) → y ≡ with_number (sequence_further sequence 1) x
          → SentBroadcast n time size x (send_tables t a) record { outcome = (Ok tt); state = y; sent = sent } (send_tables u b)
      unfolding send_broadcast if_true◌then◌else◌
      sent_by_some {y} some_sent is_number =
          record {
            long = tried.long;
            wrote = wrote_shown;
            few = tried.few;
            is =
                λ s members numbers.
                rw (
                  active_in n x t s members numbers i first,
                  sequence_in n x t s members numbers i first sequence is_sequence,
                  mismatch_in n x t s members numbers sequence is_mismatch,
                  e,
                  sends_in n x t s members numbers time size sequence,
                  some_left (sends_of time size sequence (members_of n t)) (λ q. some_sent (omega (arith, q, tried.wrote.count))),
                )
                (λ j.
                answered
                (left_as n x t s members numbers (with_number (sequence_further sequence 1) s.send.numbers) y
                (each (attempt_send time size sequence) s.members) (members_of n u)
                (ap (with_number (sequence_further sequence 1)) numbers ∙ sym is_number) (members_are s members) j)
                (sym rows_are j) 0);
          }
