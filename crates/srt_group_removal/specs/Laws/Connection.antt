-- What is proved of the definitions in specs/Connection.antt, with what the proofs need.
use Rattle.srt_protocol.specs.Errors.{Outcome}
use Rattle.std.specs.Prelude.{◌≡◌, refl, false, ℕ, ◌≤◌, ◌<◌, eqb, length, Err, None, Ok, Some}
use Rattle.std.proofs.Math.Path.{ap}
use Rattle.std.proofs.Common.{sym, subst, ◌∙◌, arith, lt-ltb, le-ltb}
use mathlib.Core.List.{List, [], ◌∷◌}
use Rattle.srt_protocol.specs.declared.error.Error.TheVariants.{OutOfRange, UnknownMember}
use Rattle.srt_protocol.specs.Errors.{outcome_number}
use Rattle.srt_protocol.specs.Cells.{max_cells}
use Rattle.srt_group_model.specs.declared.Core.{Core}
use Rattle.srt_group_model.specs.declared.Leg.{Leg}
use Rattle.srt_group_model.specs.declared.Identity.{Identity}
use Rattle.srt_group_model.specs.declared.Sending.{Sending}
use Rattle.srt_group_model.specs.Laws.Reason.{if_elim}
use Rattle.srt_group_model.specs.State.{State, Member, with_leg}
use Rattle.srt_group_model.specs.Legs.{largest_32}
use Rattle.srt_group_model.specs.Members.{find}
use Rattle.srt_group_model.specs.Cells.{used_cells}
use Rattle.srt_group_model.specs.Validity.{above, max_members}
use Rattle.srt_group_model.specs.Guards.{leg_back, accept, Check, ◌when◌, guard}
use Rattle.srt_group_model.specs.Calls.{cells_given, breaks_rule, is_unknown, remove_body, remove_member_connection}
use Rattle.srt_group_model.specs.Lent.{call_remove_member_connection, delivered_by, step_of}
use Rattle.srt_group_model.specs.Sound.{Sound}
use Rattle.srt_group_model.specs.Laws.Refusals.{guard_stops, guard_goes_on}
use Rattle.srt_group_model.specs.Laws.Valid.{valid_of, counted_of}
use Rattle.srt_group_model.specs.Laws.Sound.{sound_of_valid}
use Rattle.srt_connection_queue.specs.Queue.{cleared}
use Rattle.srt_connection_members.specs.Members.{members_of, Changed}
use Rattle.srt_connection_members.specs.Laws.Members.{members_length}
use Rattle.srt_group_tables.specs.declared.history.HistoryRing.{HistoryRing}
use Rattle.srt_group_shown.specs.Tables.{Parts, parts, Tables, tables, rest_of, state_of}
use Rattle.srt_group_shown.specs.Ready.{Ready, storing, Performs}
use Rattle.srt_group_shown.specs.Steps.{Unbroken}
use Rattle.srt_group_shown.specs.Laws.Steps.{rows_unbroken, unbroken_of, left_refused, left_accepted, performs_steps}
use Rattle.srt_group_shown.specs.Laws.Found.{is_nowhere, is_known}
use Rattle.srt_group_collecting.specs.Follows.{Follows}
use Rattle.srt_group_removal.specs.declared.removal.Removed.{Removed}
use Rattle.srt_group.specs.declared.Answered.{Answered}
use Rattle.srt_group_removal.specs.Removal.{Removes}
use Rattle.srt_group_removal.specs.Connection.{AnyRemovable, leg_in, GivesBack, RowAfter, given_back, StepsRemoval}
use Rattle.srt_group_removal.specs.Laws.Removal.{removable, removed_as_called}

-- ---- what an unbroken state gives

cells_few : (s : State) → cells_given s ≤ max_cells
unfolding cells_given
cells_few s = if_elim (λ (n : ℕ). n ≤ max_cells) (eqb s.making.length 0) _ _ (λ e. omega arith) (λ e. omega arith)

pub any_removable : {p : Parts} {t : Tables} → Unbroken p t → AnyRemovable p.core t.members t.pending
any_removable {p} {t} unbroken =
    record {
      rows = rows_unbroken unbroken;
      each =
          λ i there.
          removable i p.core (rest_of p t) t.members t.pending t.waiting unbroken.long.members unbroken.long.pending few
          sound there;
    }
  where
    s : State
    s = state_of p t

    sound : Sound s
    sound = sound_of_valid (cells_given s) s (cells_few s) unbroken.valid

    few : p.core.counts.members ≤ max_members
    few =
        omega (
          arith,
          (counted_of s (valid_of (cells_given s) s unbroken.valid).counts).members,
          members_length p.core.counts.members t.members,
        )

-- ---- the lent row

pub gives_back : (leg : Leg) (row mid row' : List ℕ) → Changed 0 (with_leg leg) row mid → Changed 0 cleared mid row' → GivesBack leg row row'
gives_back leg row mid row' put clears =
    record {
      long = clears.long ∙ put.long;
      here = clears.here ∙ ap cleared put.here;
      others = λ j other. clears.others j other ∙ put.others j other;
    }

-- the leg that it shows is the one given back
leg_there : {leg : Leg} {row row' : List ℕ} → GivesBack leg row row' → leg ≡ leg_in row'
leg_there gives = ap (λ (m : Member). m.leg) (sym gives.here)

pub row_given : {leg : Leg} {row row' : List ℕ} → GivesBack leg row row' → RowAfter (Ok tt) row row'
row_given {leg} {row} {row'} gives = subst (λ (l : Leg). GivesBack l row row') (leg_there gives) gives

-- ---- the call after 5 and 6

pub none_delivered : (o : Outcome) (row : List ℕ) → delivered_by (given_back o row) ≡ None
unfolding delivered_by
none_delivered (Ok tt) row = refl
none_delivered (Err e) row = refl

module _ (id : ℕ) (core : Core) (ms ps : List ℕ) where
  abbrev call_state : Identity → Sending → HistoryRing → (ws hs ss : List ℕ) → State
  call_state identity sending ring ws hs ss = state_of (parts identity core sending ring) (tables ms ps ws hs ss)

  abbrev 3_on : State → List Check
  3_on s = (3 when is_unknown id s) ∷ []

  abbrev 2_on : State → List Check
  2_on s = (2 when above largest_32 id) ∷ 3_on s

  -- the call is its checks from 2 on
  starts : (store output list : ℕ) (s : State) → breaks_rule s ≡ false
      → step_of store output list (call_remove_member_connection id) s ≡ guard (2_on s) s (remove_body id s)
  unfolding step_of remove_member_connection
  starts store output list s valid = guard_goes_on (6 when breaks_rule s) (2_on s) s (remove_body id s) valid

  pub unfit_removal : (row : List ℕ) → largest_32 < id → {answer : Answered Core (Unit {0})} → answer.«record» ≡ core → answer.answer ≡ Err OutOfRange
      → StepsRemoval id core ms ps answer ms ps row
  unfit_removal row large kept refused =
      subst (λ (a : Answered Core (Unit {0})). StepsRemoval id core ms ps a ms ps row) (λ i. record { «record» = sym kept i; answer = sym refused i })
      record {
        over =
            λ identity sending ring ws hs ss unbroken.
            let s = call_state identity sending ring ws hs ss in
            record {
              step =
                  λ store output list.
                  left_refused 2 s
                  (starts store output list s unbroken.valid
                  ∙ guard_stops (2 when above largest_32 id) (3_on s) s (remove_body id s) (lt-ltb largest_32 id large))
                  refl;
              long = unbroken.long;
            };
      }

  module _ (fit : id ≤ largest_32) where
    after_2 : (store output list : ℕ) (s : State) → breaks_rule s ≡ false
        → step_of store output list (call_remove_member_connection id) s ≡ guard (3_on s) s (remove_body id s)
    after_2 store output list s valid =
        starts store output list s valid
        ∙ guard_goes_on (2 when above largest_32 id) (3_on s) s (remove_body id s) (le-ltb largest_32 id fit)

    pub unknown_removal : (row : List ℕ) → None ≡ find id (members_of core.counts.members ms) → {answer : Answered Core (Unit {0})}
        → answer.«record» ≡ core → answer.answer ≡ Err UnknownMember → StepsRemoval id core ms ps answer ms ps row
    unknown_removal row nowhere kept refused =
        subst (λ (a : Answered Core (Unit {0})). StepsRemoval id core ms ps a ms ps row) (λ i. record { «record» = sym kept i; answer = sym refused i })
        record {
          over =
              λ identity sending ring ws hs ss unbroken.
              let s = call_state identity sending ring ws hs ss in
              record {
                step =
                    λ store output list.
                    left_refused 3 s
                    (after_2 store output list s unbroken.valid
                    ∙ guard_stops (3 when is_unknown id s) [] s (remove_body id s)
                    (is_nowhere id (parts identity core sending ring) (tables ms ps ws hs ss) nowhere))
                    refl;
                long = unbroken.long;
              };
        }

    pub named_removed : (i : ℕ) (removed : Removed) (ms' ps' row row' : List ℕ) → Some i ≡ find id (members_of core.counts.members ms)
        → Removes i core ms ps removed ms' ps' → GivesBack removed.leg row row'
        → StepsRemoval id core ms ps record { «record» = removed.core; answer = Ok tt } ms' ps' row'
    unfolding guard
    named_removed i removed ms' ps' row row' at removes gives =
        record {
          over =
              λ identity sending ring ws hs ss unbroken.
              let p = parts identity core sending ring in
              let t = tables ms ps ws hs ss in
              let s = state_of p t in
              record {
                step =
                    λ store output list.
                    left_accepted (state_of (parts identity removed.core sending ring) (tables ms' ps' ws hs ss)) (leg_back (leg_in row'))
                    (after_2 store output list s unbroken.valid
                    ∙ guard_goes_on (3 when is_unknown id s) [] s (remove_body id s) (is_known id p t i at)
                    ∙ removed_as_called id i core ms ps removed ms' ps' at removes (rest_of p t) ws
                    ∙ ap (λ (l : Leg). accept (state_of (parts identity removed.core sending ring) (tables ms' ps' ws hs ss)) (leg_back l)) (leg_there gives))
                    refl;
                long =
                    record {
                      members = omega (arith, unbroken.long.members, removes.members_long);
                      pending = omega (arith, unbroken.long.pending, removes.pending_long);
                      waiting = unbroken.long.waiting;
                      history = unbroken.long.history;
                      sources = unbroken.long.sources;
                    };
              };
        }

-- ---- in a state that is ready

pub removal_performed : {p : Parts} {t : Tables} {store used : List ℕ} → Ready p t (length store) used → (id : ℕ) (r : Answered Core (Unit {0})) (ms' ps' used' row' : List ℕ)
    → StepsRemoval id p.core t.members t.pending r ms' ps' row'
    → Follows p.core t.members t.pending used r.«record» ms' ps' used'
    → Performs (call_remove_member_connection id) p t (storing store) (outcome_number r.answer) (given_back r.answer row')
    (parts p.identity r.«record» p.sending p.ring) (tables ms' ps' t.waiting t.history t.sources) (storing store) used'
unfolding used_cells
removal_performed {p} {t} ready id r ms' ps' used' row' steps follows =
    performs_steps ready (none_delivered r.answer row') used'
    (steps.over p.identity p.sending p.ring t.waiting t.history t.sources (unbroken_of ready))
    record { cells = follows.shows (rest_of p t).send.history ready.shows.cells }
