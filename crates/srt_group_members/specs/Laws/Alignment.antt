-- What is proved of the definitions in specs/Alignment.antt, with what the proofs need.
use Rattle.std.specs.Prelude.{◌≡◌, Bool, not, ◌&&◌, List, [], ◌∷◌, ℕ, suc, ◌≤◌, ◌<◌, eqb, None, Option, Some, is_some}
use Rattle.std.proofs.Math.Path.{refl, ap, sym}
use Rattle.std.proofs.Common.{◌∙◌}
use Rattle.std.proofs.Math.Bool.{true, false}
use borrow.Author.Tests.{eq-eqb, ne_eqb}
use Rattle.srt_group_model.specs.Tools.{if_true◌then◌else◌, if_some◌give◌otherwise◌, or_else, flagged, first_such, place_of, at_place, change}
use Rattle.srt_group_model.specs.Laws.Places.{change_nothing}
use Rattle.srt_group_model.specs.State.{Member, with_leg}
use Rattle.srt_group_model.specs.Legs.{is_connected, has_sender}
use Rattle.srt_group_model.specs.Members.{has_id, alignment_source, align_leg, align_member_sequence}
use Rattle.srt_group_model.specs.declared.Leg.{Leg}
use Rattle.srt_group_model.specs.declared.Membership.{Membership}
use Rattle.srt_group_model.specs.declared.Sender.{Sender}
use Rattle.srt_connection.specs.Laws.Answers.{result_ok, result_err}
use Rattle.srt_connection_queue.specs.Laws.Tab.{tab_past}
use Rattle.srt_connection_members.specs.Members.{member_at, members_of, Changed}
use Rattle.srt_connection_members.specs.Laws.Members.{members_place, changed_by, unchanged}
use Rattle.srt_group_members.specs.Scan.{Tried}
use Rattle.srt_group_members.specs.Laws.Scan.{sequence_some, sequence_none}
use Rattle.srt_group_members.specs.Alignment.{is_other_sender, AlignedAt}

-- ---- the tests; cited by no proof, these laws stand for who reads `is_other_sender`

module _ (id : ℕ) (m : Member) where
  pub same_is_not_other : {x : Membership} → x ≡ m.membership → x.id ≡ id → false ≡ is_other_sender id m
  unfolding is_other_sender
  same_is_not_other {x} membership same = sym (rw (← membership, eq-eqb x.id id same))

  pub unconnected_is_no_sender : {answer : Bool} → answer ≡ is_connected m.leg → answer ≡ false → false ≡ is_other_sender id m
  unfolding is_other_sender
  unconnected_is_no_sender is fails = sym (rw (← is, fails) (go (not (has_id id m))))
    where
      go : (b : Bool) → (b && false) ≡ false
      go true = refl
      go false = refl

  pub other_if_started : {x : Membership} {answer : Bool} {s : Sender} → x ≡ m.membership → (x.id ≡ id → ⊥)
      → answer ≡ is_connected m.leg → answer ≡ true → s ≡ m.leg.sender → eqb s.started 1 ≡ is_other_sender id m
  unfolding is_other_sender
  other_if_started {x} membership other is connected sender =
      sym (rw (← membership, ne_eqb x.id id other, ← is, connected, ← sender))

-- ---- the source

-- the first that passes a test stands at its place; with the next, cited by no proof: they stand for who reads `first_such`
pub first_such_at : {A : Type 0} (test : A → Bool) (l : List A) (i : ℕ) → place_of test l ≡ Some i → first_such test l ≡ at_place i l
unfolding place_of first_such at_place if_true◌then◌else◌ if_some◌give◌otherwise◌
first_such_at test [] i e = refl
first_such_at {A} test (x ∷ xs) i e = go (test x) (place_of test xs) (λ j q. first_such_at test xs j q) i e
  where
    go : (b : Bool) (o : Option ℕ) → ((j : ℕ) → o ≡ Some j → first_such test xs ≡ at_place j xs) → (i : ℕ)
        → (if_true b then Some 0 else (if_some o give (λ k. Some (suc k)) otherwise None)) ≡ Some i
        → (if_true b then Some x else first_such test xs) ≡ at_place i (x ∷ xs)
    go true o h i e = let first : 0 ≡ i = cc in rw (← first)
    go false None h i e = cc e
    go false (Some j) h i e = let later : suc j ≡ i = cc in rw (← later) (h j refl)

pub no_such : {A : Type 0} (test : A → Bool) (l : List A) → place_of test l ≡ None → first_such test l ≡ None
unfolding place_of first_such if_true◌then◌else◌ if_some◌give◌otherwise◌
no_such test [] e = refl
no_such test (x ∷ xs) e = go (test x) (place_of test xs) (λ q. no_such test xs q) e
  where
    go : (b : Bool) (o : Option ℕ) → (o ≡ None → first_such test xs ≡ None)
        → (if_true b then Some 0 else (if_some o give (λ k. Some (suc k)) otherwise None)) ≡ None
        → (if_true b then Some x else first_such test xs) ≡ None
    go true o h e = cc e
    go false None h e = h refl
    go false (Some j) h e = cc e

-- the first that passes a test does
such_passes : {A : Type 0} (test : A → Bool) (l : List A) {x : A} → Some x ≡ first_such test l → test x ≡ true
unfolding first_such if_true◌then◌else◌
such_passes test [] e = cc e
such_passes {A} test (y ∷ ys) {x} e = go (test y) refl (λ later. such_passes test ys later) e
  where
    go : (b : Bool) → test y ≡ b → (Some x ≡ first_such test ys → test x ≡ true)
        → Some x ≡ (if_true b then Some y else first_such test ys) → test x ≡ true
    go true passes later e = let same : x ≡ y = cc in rw same passes
    go false passes later e = later e

unset : (o : Option ℕ) → is_some o ≡ false → o ≡ None
unset None is = refl
unset (Some s) is = cc is

module _ (ms : List Member) (id : ℕ) (number : Option ℕ) where
  -- cited by no proof: it stands for who reads `alignment_source`
  pub source_numbered : (s : ℕ) → number ≡ Some s → Some s ≡ alignment_source number id ms
  unfolding alignment_source or_else
  source_numbered s is = sym (rw is)

  module _ (is : is_some number ≡ false) where
    pub source_none : None ≡ first_such (is_other_sender id) ms → None ≡ alignment_source number id ms
    unfolding alignment_source is_other_sender or_else if_some◌give◌otherwise◌
    source_none e = sym (rw (unset number is, sym e))

    pub source_other : {m : Member} {s : Sender} → Some m ≡ first_such (is_other_sender id) ms → s ≡ m.leg.sender
        → Some s.next ≡ alignment_source number id ms
    unfolding alignment_source is_other_sender flagged or_else if_some◌give◌otherwise◌
    source_other {m} {s} e sender = sym (rw (unset number is, sym e, started, ← sender))
      where
        both : (a b c : Bool) → (a && (b && c)) ≡ true → c ≡ true
        both true true c e = e
        both true false c e = cc e
        both false b c e = cc e

        started : eqb m.leg.sender.started 1 ≡ true
        started = both (not (has_id id m)) (is_connected m.leg) (has_sender m.leg) (such_passes (is_other_sender id) ms e)

-- ---- one leg

module _ (i sequence : ℕ) (t : List ℕ) {leg : Leg} (is_leg : leg ≡ (member_at t i).leg) where
  pub leg_not_aligned : None ≡ align_leg sequence leg → AlignedAt i sequence t false t
  unfolding if_some◌give◌otherwise◌
  leg_not_aligned failed =
      record {
        aligned = sym (rw fails);
        changed =
            changed_by i t t (λ m. if_some align_leg sequence m.leg give (λ l. with_leg l m) otherwise m) (unchanged i t)
            (sym (rw fails));
      }
    where
      fails : align_leg sequence (member_at t i).leg ≡ None
      fails = ap (align_leg sequence) (sym is_leg) ∙ result_err (align_leg sequence leg) failed

  pub leg_aligned : {u : List ℕ} (l : Leg) → Some l ≡ align_leg sequence leg → Changed i (with_leg l) t u
      → AlignedAt i sequence t true u
  unfolding if_some◌give◌otherwise◌
  leg_aligned {u} l aligned c =
      record {
        aligned = sym (rw goes);
        changed =
            changed_by i t u (λ m. if_some align_leg sequence m.leg give (λ l. with_leg l m) otherwise m) c (sym (rw goes));
      }
    where
      goes : align_leg sequence (member_at t i).leg ≡ Some l
      goes = ap (align_leg sequence) (sym is_leg) ∙ result_ok (align_leg sequence leg) l aligned

-- ---- one member

module _ (n i : ℕ) (number : Option ℕ) (t : List ℕ) where
  pub align_past : n ≤ i → Tried n (align_member_sequence number i (members_of n t)) t false t
  unfolding align_member_sequence if_some◌give◌otherwise◌ members_of
  align_past h = rw (tab_past n (member_at t) i h) record { long = refl; succeeded = refl; is = refl }

  module _ (there : i < n) {id : ℕ} (is_id : id ≡ (member_at t i).membership.id) where
    pub align_no_source : None ≡ alignment_source number id (members_of n t)
        → Tried n (align_member_sequence number i (members_of n t)) t true t
    unfolding align_member_sequence if_some◌give◌otherwise◌
    align_no_source e =
        rw (
          members_place n t i there,
          ← is_id,
          sequence_none (alignment_source number id (members_of n t)) e,
        ) record { long = refl; succeeded = refl; is = refl }

    pub align_with : {answer : Bool} {u : List ℕ} (sequence : ℕ)
        → Some sequence ≡ alignment_source number id (members_of n t) → AlignedAt i sequence t answer u
        → Tried n (align_member_sequence number i (members_of n t)) t answer u
    unfolding align_member_sequence if_some◌give◌otherwise◌
    align_with {answer} {u} sequence e a =
        rw (
          members_place n t i there,
          ← is_id,
          sequence_some (alignment_source number id (members_of n t)) sequence e,
        ) (go (align_leg sequence (member_at t i).leg) refl)
      where
        go : (o : Option Leg) → align_leg sequence (member_at t i).leg ≡ o
            → Tried n (if_some o give (λ l. Some (change i (with_leg l) (members_of n t))) otherwise None) t answer u
        go None fails =
            record {
              long = a.changed.long;
              succeeded = a.aligned ∙ ap is_some fails;
              is =
                  (changed_by i t u (λ m. m) a.changed (rw fails)).members n
                  ∙ change_nothing i (members_of n t);
            }
        go (Some l) goes =
            record {
              long = a.changed.long;
              succeeded = a.aligned ∙ ap is_some goes;
              is = (changed_by i t u (with_leg l) a.changed (rw goes)).members n;
            }
