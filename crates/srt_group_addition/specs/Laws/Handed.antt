-- What is proved of the definitions in specs/Handed.antt, with what the proofs need.
use Rattle.srt_protocol.specs.Errors.{Outcome}
use Rattle.std.specs.Prelude.{◌≡◌, refl, Bool, true, false, ◌||◌, List, [], ◌∷◌, ℕ, ◌≤◌, ◌<◌, leb, length, Err, Ok}
use Rattle.std.proofs.Math.Path.{ap}
use Rattle.std.proofs.Common.{sym, subst, ◌∙◌, arith, leb-false, le-leb}
use Rattle.std.proofs.lemmas.Bool.{lt-leb}
use Rattle.srt_protocol.specs.declared.error.Error.{Error}
use Rattle.srt_protocol.specs.declared.error.Error.TheVariants.{OutOfRange, InvalidState, MemberLimit, DuplicateMember}
use Rattle.srt_protocol.specs.Errors.{error_number, outcome_number}
use Rattle.srt_group_model.specs.Tools.{if_true◌then◌else◌, any}
use Rattle.srt_group_model.specs.State.{Member, State}
use Rattle.srt_group_model.specs.Members.{has_id}
use Rattle.srt_group_model.specs.Validity.{max_members}
use Rattle.srt_group_model.specs.Guards.{no_answer, Step, refuse, Check, ◌when◌, guard}
use Rattle.srt_group_model.specs.Laws.CellsMoved.{Keeps}
use Rattle.srt_group_model.specs.Calls.{add_body, add_member}
use Rattle.srt_group_model.specs.Lent.{call_add_member, step_of}
use Rattle.srt_group_model.specs.declared.Core.{Core}
use Rattle.srt_group_model.specs.declared.Event.{Event}
use Rattle.srt_group_model.specs.declared.Leg.{Leg}
use Rattle.srt_group_model.specs.declared.Sending.{Sending}
use Rattle.srt_connection_members.specs.Members.{members_of}
use Rattle.srt_connection_members.specs.Laws.Members.{members_length}
use Rattle.srt_group_shown.specs.Tables.{Parts, parts, Tables, tables, rest_of, state_of}
use Rattle.srt_group_shown.specs.Steps.{Unbroken, StepsKeeping}
use Rattle.srt_group_shown.specs.Laws.Steps.{left_by, left_refused}
use Rattle.srt_group_shown.specs.Laws.Found.{long_with, same_cells}
use Rattle.srt_group_addition.specs.Addition.{Adds}
use Rattle.srt_group_addition.specs.Handed.{in_use, unfit, first_refusal, addition_refused, call_of_member, StepsAdding}
use Rattle.srt_group_addition.specs.Laws.Cells.{adding_keeps}
use Rattle.srt_group.specs.declared.Answered.{Answered}

-- ---- the first refusal

module _ (id weight : ℕ) (l : Leg) (queue : List Event) (n : ℕ) (ms : List ℕ) where
  abbrev full : Bool
  full = leb max_members (length (members_of n ms))

  abbrev duplicate : Bool
  duplicate = any (has_id id) (members_of n ms)

  abbrev First : Outcome → Type 0
  First o = ◌≡◌ {A = Outcome} o (addition_refused id weight l queue (members_of n ms))

  module _ {a : Bool} (is_a : a ≡ in_use l queue) where
    pub stops_in_use : a ≡ true → First (Err InvalidState)
    stops_in_use e = ap (λ (x : Bool). first_refusal x (unfit id weight l) full duplicate) (sym e ∙ is_a)

    module _ (a_no : a ≡ false) {b : Bool} (is_b : b ≡ unfit id weight l) where
      after_in_use : first_refusal false (unfit id weight l) full duplicate ≡ addition_refused id weight l queue (members_of n ms)
      after_in_use = ap (λ (x : Bool). first_refusal x (unfit id weight l) full duplicate) (sym a_no ∙ is_a)

      pub stops_unfit : b ≡ true → First (Err OutOfRange)
      stops_unfit e = ap (λ (x : Bool). first_refusal false x full duplicate) (sym e ∙ is_b) ∙ after_in_use

      module _ (b_no : b ≡ false) where
        after_unfit : first_refusal false false full duplicate ≡ addition_refused id weight l queue (members_of n ms)
        after_unfit = ap (λ (x : Bool). first_refusal false x full duplicate) (sym b_no ∙ is_b) ∙ after_in_use

        pub stops_full : max_members ≤ n → First (Err MemberLimit)
        stops_full e =
            ap (λ (x : Bool). first_refusal false false x duplicate) (sym (ap (leb max_members) (members_length n ms) ∙ le-leb max_members n e))
            ∙ after_unfit

        module _ (room : n < max_members) {d : Bool} (is_d : d ≡ duplicate) where
          after_full : first_refusal false false false d ≡ addition_refused id weight l queue (members_of n ms)
          after_full =
              ap (λ (x : Bool). first_refusal false false false x) is_d
              ∙ ap (λ (x : Bool). first_refusal false false x duplicate) (sym (ap (leb max_members) (members_length n ms) ∙ lt-leb max_members n room))
              ∙ after_unfit

          pub stops_duplicate : d ≡ true → First (Err DuplicateMember)
          stops_duplicate e = ap (λ (x : Bool). first_refusal false false false x) (sym e) ∙ after_full

          pub none_stops : d ≡ false → First (Ok tt)
          none_stops e = ap (λ (x : Bool). first_refusal false false false x) (sym e) ∙ after_full

abbrev checks : (a b c d : Bool) → List Check
checks a b c d = (6 when a) ∷ (2 when b) ∷ (20 when c) ∷ (21 when d) ∷ []

never : {B : Type 0} {e : Error} → ◌≡◌ {A = Outcome} (Ok tt) (Err e) → B
never is = let different : ◌≡◌ {A = ℕ} 0 1 = cc is in absurd (omega arith)

-- a list of guards that stops at it, and one that goes through
guards_stop : (a b c d : Bool) (e : Error) (s : State) (body : Step) → ◌≡◌ {A = Outcome} (Err e) (first_refusal a b c d)
    → guard (checks a b c d) s body ≡ refuse (error_number e) s
unfolding guard if_true◌then◌else◌
guards_stop true b c d e s body is = ap (λ (o : Outcome). refuse (outcome_number o) s) (sym is)
guards_stop false true c d e s body is = ap (λ (o : Outcome). refuse (outcome_number o) s) (sym is)
guards_stop false false true d e s body is = ap (λ (o : Outcome). refuse (outcome_number o) s) (sym is)
guards_stop false false false true e s body is = ap (λ (o : Outcome). refuse (outcome_number o) s) (sym is)
guards_stop false false false false e s body is = never (sym is)

guards_pass : (a b c d : Bool) (s : State) (body : Step) → ◌≡◌ {A = Outcome} (Ok tt) (first_refusal a b c d)
    → guard (checks a b c d) s body ≡ body
unfolding guard if_true◌then◌else◌
guards_pass true b c d s body is = never is
guards_pass false true c d s body is = never is
guards_pass false false true d s body is = never is
guards_pass false false false true s body is = never is
guards_pass false false false false s body is = refl

-- one that passes leaves room for a member
room_left : (id weight : ℕ) (l : Leg) (queue : List Event) (n : ℕ) (ms : List ℕ)
    → ◌≡◌ {A = Outcome} (Ok tt) (addition_refused id weight l queue (members_of n ms)) → n < max_members
room_left id weight l queue n ms is =
    omega (arith, members_length n ms, go (in_use l queue) (unfit id weight l) (leb max_members (length (members_of n ms))) (any (has_id id) (members_of n ms)) refl is)
  where
    go : (a b c d : Bool) → c ≡ leb max_members (length (members_of n ms)) → ◌≡◌ {A = Outcome} (Ok tt) (first_refusal a b c d) → length (members_of n ms) < max_members
    go true b c d e is = never is
    go false true c d e is = never is
    go false false true d e is = never is
    go false false false d e is = leb-false max_members (length (members_of n ms)) (sym e)

-- ---- the call after 5 and 6 of the group's own state

module _ (id weight : ℕ) (l : Leg) (queue : List Event) (p : Parts) (t : Tables) (unbroken : Unbroken p t) where
  abbrev s : State
  s = state_of p t

  starts : (store output list : ℕ) → step_of store output list (call_add_member id weight l queue) s
      ≡ guard (checks (in_use l queue) (unfit id weight l) (leb max_members (length s.members)) (any (has_id id) s.members)) s (add_body id weight l s)
  unfolding step_of add_member
  starts store output list =
      ap (λ (x : Bool). guard (checks (x || in_use l queue) (unfit id weight l) (leb max_members (length s.members)) (any (has_id id) s.members)) s (add_body id weight l s))
      unbroken.valid

  adding_refused : (e : Error) → ◌≡◌ {A = Outcome} (Err e) (addition_refused id weight l queue s.members)
      → StepsKeeping (call_add_member id weight l queue) p t (error_number e) no_answer p t
  adding_refused e is =
      record {
        steps =
            record {
              step = λ store output list. left_refused (error_number e) s (starts store output list ∙ guards_stop _ _ _ _ e s (add_body id weight l s) is) refl;
              long = unbroken.long;
            };
        keeps = same_cells s;
      }

  adding_done : (answer : Answered Core (Unit {0})) (members' : List ℕ) → ◌≡◌ {A = Outcome} (Ok tt) (addition_refused id weight l queue s.members)
      → Adds id weight l p.core p.sending t.members answer members'
      → StepsKeeping (call_add_member id weight l queue) p t (outcome_number answer.answer) no_answer
      (parts p.identity answer.«record» p.sending p.ring) (tables members' t.pending t.waiting t.history t.sources)
  adding_done answer members' is adds =
      let left = adds.step (rest_of p t) refl t.pending t.waiting in
      record {
        steps =
            record {
              step = λ store output list. left_by (add_body id weight l s) (starts store output list ∙ guards_pass _ _ _ _ s (add_body id weight l s) is) left;
              long = long_with unbroken.long members' adds.long;
            };
        keeps = subst (Keeps s) left.state (adding_keeps id weight l s);
      }

-- ---- the leg of the row, and what was tested of it

pub of_row : (id weight : ℕ) (core : Core) (sending : Sending) (ms : List ℕ) (answer : Answered Core (Unit {0})) (ms' : List ℕ) {m front : Member} → m ≡ front
    → StepsAdding (call_of_member id weight m) core sending ms answer ms' → StepsAdding (call_of_member id weight front) core sending ms answer ms'
of_row id weight core sending ms answer ms' same steps =
    subst (λ (x : Member). StepsAdding (call_of_member id weight x) core sending ms answer ms') same steps

module _ (id weight : ℕ) (m : Member) (core : Core) (sending : Sending) (ms : List ℕ) {leg : Leg} (is_leg : leg ≡ m.leg) {r : Outcome}
    (tested : r ≡ addition_refused id weight leg m.queue (members_of core.counts.members ms)) where
  of_member : r ≡ addition_refused id weight m.leg m.queue (members_of core.counts.members ms)
  of_member = tested ∙ ap (λ (l : Leg). addition_refused id weight l m.queue (members_of core.counts.members ms)) is_leg

  pub leg_refused : (e : Error) → r ≡ Err e → {answer : Answered Core (Unit {0})} → answer.«record» ≡ core → answer.answer ≡ Err e
      → StepsAdding (call_of_member id weight m) core sending ms answer ms
  leg_refused e is kept refused =
      subst (λ (a : Answered Core (Unit {0})). StepsAdding (call_of_member id weight m) core sending ms a ms)
      (λ i. record { «record» = sym kept i; answer = sym refused i })
      record {
        over =
            λ identity ring pending waiting history sources unbroken.
            adding_refused id weight m.leg m.queue (parts identity core sending ring) (tables ms pending waiting history sources) unbroken e
            (sym is ∙ of_member);
      }

  module _ (accepted : r ≡ Ok tt) where
    pub leg_room : core.counts.members < max_members
    leg_room = room_left id weight leg m.queue core.counts.members ms (sym accepted ∙ tested)

    pub leg_added : (answer : Answered Core (Unit {0})) (ms' : List ℕ) → Adds id weight leg core sending ms answer ms'
        → StepsAdding (call_of_member id weight m) core sending ms answer ms'
    leg_added answer ms' adds =
        record {
          over =
              λ identity ring pending waiting history sources unbroken.
              adding_done id weight m.leg m.queue (parts identity core sending ring) (tables ms pending waiting history sources) unbroken answer ms'
              (sym accepted ∙ of_member) (subst (λ (l : Leg). Adds id weight l core sending ms answer ms') is_leg adds);
        }
