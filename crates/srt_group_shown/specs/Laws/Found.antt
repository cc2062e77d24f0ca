-- The member that `find` answers: what 3, a test of it and a change of it are, and what a changed row shows.
use Rattle.std.specs.Prelude.{◌≡◌, refl, Bool, true, false, not, ◌||◌, List, [], ◌∷◌, ℕ, zero, suc, ◌*◌, ◌≤◌, ◌<◌, length, None, Option, Some}
use Rattle.std.proofs.Math.Path.{ap}
use Rattle.std.proofs.Common.{sym, ◌∙◌, arith}
use Rattle.srt_group_model.specs.Tools.{if_some◌give◌otherwise◌, any, place_of, at_place, change}
use Rattle.srt_group_model.specs.Laws.Reason.{if_elim, if_some_elim, none_some, or_yes_right}
use Rattle.srt_group_model.specs.State.{Member, State, with_members}
use Rattle.srt_group_model.specs.Members.{has_id, find}
use Rattle.srt_group_model.specs.Cells.{queue_cells, queued_cells}
use Rattle.srt_group_model.specs.Sound.{occurs}
use Rattle.srt_group_model.specs.Laws.Places.{first_such_is_found}
use Rattle.srt_group_model.specs.Laws.CellsKept.{occurs_append, uses_used}
use Rattle.srt_group_model.specs.Laws.CellsMoved.{Keeps}
use Rattle.srt_group_model.specs.Calls.{is_unknown, of_member, change_member}
use Rattle.srt_connection_queue.specs.Rows.{row_size}
use Rattle.srt_connection_members.specs.Members.{members_of, member_at, HasRow, Changed}
use Rattle.srt_connection_members.specs.Laws.Members.{members_place, found_some, found_none, found_below}
use Rattle.srt_group_shown.specs.Tables.{Parts, Tables, state_of, Long}
use Rattle.srt_group_shown.specs.Ready.{Ready}
use Rattle.srt_group_shown.specs.Laws.Steps.{rows_there}

-- ---- the members' table, changed

-- the table as it is after a call
abbrev pub with_table : List ℕ → Tables → Tables
with_table members t =
    record { members = members; pending = t.pending; waiting = t.waiting; history = t.history; sources = t.sources }

pub long_with : {t : Tables} → Long t → (members' : List ℕ) → length members' ≡ length t.members → Long (with_table members' t)
long_with long members' same =
    record {
      members = omega (arith, long.members, same);
      pending = long.pending;
      waiting = long.waiting;
      history = long.history;
      sources = long.sources;
    }

-- ---- the member that `find` answers

found_any : (test : Member → Bool) (ms : List Member) (i : ℕ) → place_of test ms ≡ Some i → any test ms ≡ true
unfolding any place_of
found_any test [] i = λ e. none_some e
found_any test (m ∷ ms) i =
    if_elim (λ (o : Option ℕ). o ≡ Some i → any test (m ∷ ms) ≡ true) _ _ _ (λ t e. ap (λ (b : Bool). b || any test ms) t)
    (λ t.
    if_some_elim (λ (o : Option ℕ). o ≡ Some i → any test (m ∷ ms) ≡ true) _ _ _
    (λ k f e. or_yes_right (test m) (any test ms) (found_any test ms k f)) (λ f e. none_some e))

nowhere_any : (test : Member → Bool) (ms : List Member) → place_of test ms ≡ None → any test ms ≡ false
unfolding any place_of
nowhere_any test [] = λ e. refl
nowhere_any test (m ∷ ms) =
    if_elim (λ (o : Option ℕ). o ≡ None → any test (m ∷ ms) ≡ false) _ _ _ (λ t e. none_some (sym e))
    (λ t.
    if_some_elim (λ (o : Option ℕ). o ≡ None → any test (m ∷ ms) ≡ false) _ _ _ (λ k f e. none_some (sym e))
    (λ f e. ap (λ (b : Bool). b || any test ms) t ∙ nowhere_any test ms f))

module _ (id : ℕ) (p : Parts) (t : Tables) where
  abbrev s : State
  s = state_of p t

  pub is_nowhere : None ≡ find id s.members → is_unknown id s ≡ true
  is_nowhere nowhere = ap not (nowhere_any (has_id id) s.members (found_none (find id s.members) nowhere))

  module _ (i : ℕ) (at : Some i ≡ find id s.members) where
    pub found_there : find id s.members ≡ Some i
    found_there = found_some (find id s.members) i at

    pub below : i < p.core.counts.members
    below = found_below p.core.counts.members id i t.members at

    pub place : at_place i s.members ≡ Some (member_at t.members i)
    place = members_place p.core.counts.members t.members i below

    pub is_known : is_unknown id s ≡ false
    is_known = ap not (found_any (has_id id) s.members i found_there)

    pub of_found : (test : Member → Bool) → of_member id test s ≡ test (member_at t.members i)
    unfolding of_member if_some◌give◌otherwise◌
    of_found test =
        ap (λ (o : Option Member). if_some o give test otherwise false)
        (first_such_is_found (has_id id) s.members
        ∙ ap (λ (o : Option ℕ). if_some o give (λ k. at_place k s.members) otherwise None) found_there
        ∙ place)

    pub change_found : (f : Member → Member) → change_member id f s ≡ with_members (change i f s.members) s
    unfolding change_member if_some◌give◌otherwise◌
    change_found f =
        ap (λ (x : Option ℕ). if_some x give (λ k. with_members (change k f s.members) s) otherwise s) found_there

pub found_row : {p : Parts} {t : Tables} {store : ℕ} {used : List ℕ} → Ready p t store used → (id i : ℕ)
    → Some i ≡ find id (state_of p t).members → HasRow i t.members
found_row {p} {t} ready id i at = omega (arith, rows_there ready, below id p t i at)

pub row_there : (count id i : ℕ) (members : List ℕ) → count * row_size ≤ length members
    → Some i ≡ find id (members_of count members) → HasRow i members
row_there count id i members rows at = omega (arith, rows, found_below count id i members at)

-- the state that is shown once a row is changed
pub shown_changed : (p : Parts) (t : Tables) (i : ℕ) (f : Member → Member) (members' : List ℕ) → Changed i f t.members members'
    → state_of p (with_table members' t) ≡ with_members (change i f (state_of p t).members) (state_of p t)
shown_changed p t i f members' changed =
    ap (λ (ms : List Member). with_members ms (state_of p t)) (changed.members p.core.counts.members)

-- ---- the cells in use

pub change_queued : (n i : ℕ) (f : Member → Member) (ms : List Member) → ((m : Member) → occurs n (queue_cells (f m)) ≡ occurs n (queue_cells m))
    → occurs n (queued_cells (change i f ms)) ≡ occurs n (queued_cells ms)
unfolding queued_cells change
change_queued n zero f [] same = refl
change_queued n (suc i) f [] same = refl
change_queued n zero f (m ∷ ms) same =
    omega (arith, same m, occurs_append n (queue_cells (f m)) (queued_cells ms), occurs_append n (queue_cells m) (queued_cells ms))
change_queued n (suc i) f (m ∷ ms) same =
    omega (arith, change_queued n i f ms same, occurs_append n (queue_cells m) (queued_cells (change i f ms)), occurs_append n (queue_cells m) (queued_cells ms))

pub change_keeps : (i : ℕ) (f : Member → Member) (s : State) → ((n : ℕ) (m : Member) → occurs n (queue_cells (f m)) ≡ occurs n (queue_cells m))
    → Keeps s (with_members (change i f s.members) s)
change_keeps i f s same =
    record {
      cells =
          λ n. omega (arith, uses_used n s, uses_used n (with_members (change i f s.members) s), change_queued n i f s.members (same n));
    }

pub same_cells : (s : State) → Keeps s s
same_cells s = record { cells = λ n. refl }
