-- The members' states refreshed, and every leg disconnected, are document 01's.
use Rattle.srt_protocol.specs.Errors.{Outcome}
use Rattle.std.specs.Prelude.{◌≡◌, ℕ, ◌≤◌, Err}
use Rattle.std.proofs.Math.Path.{refl, ap, subst}
use Rattle.std.proofs.Common.{sym, ◌∙◌, arith, le-ltb}
use mathlib.Core.List.{List, [], ◌∷◌}
use Rattle.srt_protocol.specs.declared.error.Error.{Error}
use Rattle.srt_protocol.specs.Errors.{error_number, outcome_number}
use Rattle.srt_group_model.specs.Tools.{each}
use Rattle.srt_group_model.specs.declared.Core.{Core}
use Rattle.srt_group_model.specs.State.{Member, State, with_members, on_leg}
use Rattle.srt_group_model.specs.Legs.{disconnect_leg, largest_64}
use Rattle.srt_group_model.specs.Cells.{queue_cells, queued_cells}
use Rattle.srt_group_model.specs.Sound.{occurs}
use Rattle.srt_group_model.specs.Run.{start, refresh_states}
use Rattle.srt_group_model.specs.Validity.{above}
use Rattle.srt_group_model.specs.Guards.{no_answer, accept, ◌when◌, guard}
use Rattle.srt_group_model.specs.Laws.Refusals.{guard_goes_on}
use Rattle.srt_group_model.specs.Laws.CellsKept.{occurs_append, uses_used}
use Rattle.srt_group_model.specs.Laws.CellsMoved.{Keeps, refresh_keeps}
use Rattle.srt_group_model.specs.Calls.{breaks_rule, left_by, refresh_member_states, disconnect}
use Rattle.srt_group_model.specs.Lent.{call_refresh_member_states, call_disconnect, step_of}
use Rattle.srt_connection_members.specs.Members.{ChangedAll}
use Rattle.srt_group_shown.specs.Tables.{Parts, parts, Tables, state_of}
use Rattle.srt_group_shown.specs.Steps.{Unbroken, StepsKeeping}
use Rattle.srt_group_shown.specs.Laws.Steps.{left_by as left_by_step, left_accepted}
use Rattle.srt_group_shown.specs.Laws.Found.{with_table, long_with}
use Rattle.srt_group_collecting.specs.Leaves.{sends}
use Rattle.srt_group_polls.specs.Refresh.{Refreshes}
use Rattle.srt_group_refusals.specs.Begins.{begun}
use Rattle.srt_group_refusals.specs.Promised.{nothing_lent, showing, Promised}
use Rattle.srt_group_refusals.specs.Laws.Promised.{promised_refused_6}

-- ---- `refresh_member_states`

-- the record with the core as it is after a call
abbrev pub with_core : Core → Parts → Parts
with_core core p = parts p.identity core p.sending p.ring

module _ (p : Parts) (t : Tables) where
  abbrev before : State
  before = state_of p t

  pub refresh_refused : {r : Outcome} (begins : r ≡ begun p t) (e : Error) → r ≡ Err e → {p' : Parts} → p' ≡ p → {answer : Outcome} → answer ≡ Err e
      → Promised call_refresh_member_states p t nothing_lent (showing p' t nothing_lent (outcome_number answer) no_answer 0)
  unfolding step_of refresh_member_states
  refresh_refused begins e refused kept told =
      rw (kept, told) (promised_refused_6 call_refresh_member_states p t nothing_lent begins _ _ refl e refused)

  module _ (unbroken : Unbroken p t) where
    pub refreshed : (after : Core) (members' : List ℕ) → Refreshes (sends p.sending) refresh_states p.core t.members after members'
        → StepsKeeping call_refresh_member_states p t 0 no_answer (with_core after p) (with_table members' t)
    unfolding step_of refresh_member_states guard
    refreshed after members' refreshes =
        let shows_it = (refreshes.run t.pending t.waiting _ refl [] 0).state in
        record {
          steps =
              record {
                step =
                    λ store output list.
                    left_by_step (left_by (refresh_states (start before)) no_answer)
                    (guard_goes_on (6 when breaks_rule before) [] before (left_by (refresh_states (start before)) no_answer) unbroken.valid)
                    record { code = refl; answer = refl; state = shows_it; put = refl; sends = refl };
                long = long_with unbroken.long members' refreshes.members_long;
              };
          keeps = subst (Keeps before) shows_it (refresh_keeps (start before));
        }

-- ---- `disconnect`

-- a change of every member that leaves the queues
each_queued : (n : ℕ) (f : Member → Member) (ms : List Member) → ((m : Member) → occurs n (queue_cells (f m)) ≡ occurs n (queue_cells m))
    → occurs n (queued_cells (each f ms)) ≡ occurs n (queued_cells ms)
unfolding queued_cells each
each_queued n f [] same = refl
each_queued n f (m ∷ ms) same =
    omega (arith, same m, each_queued n f ms same, occurs_append n (queue_cells (f m)) (queued_cells (each f ms)), occurs_append n (queue_cells m) (queued_cells ms))

same_queue : (n : ℕ) (m : Member) → occurs n (queue_cells (on_leg disconnect_leg m)) ≡ occurs n (queue_cells m)
unfolding queue_cells
same_queue n m = refl

module _ (time : ℕ) (p : Parts) (t : Tables) where
  pub disconnect_refused : {r : Outcome} (begins : r ≡ begun p t) (e : Error) → r ≡ Err e
      → Promised (call_disconnect time) p t nothing_lent (showing p t nothing_lent (error_number e) no_answer 0)
  unfolding step_of disconnect
  disconnect_refused begins e refused = promised_refused_6 (call_disconnect time) p t nothing_lent begins _ _ refl e refused

  module _ (unbroken : Unbroken p t) (small : time ≤ largest_64) where
    abbrev s : State
    s = state_of p t

    abbrev apart : State
    apart = with_members (each (on_leg disconnect_leg) s.members) s

    pub disconnected : (members' : List ℕ) → ChangedAll p.core.counts.members (on_leg disconnect_leg) t.members members'
        → StepsKeeping (call_disconnect time) p t 0 no_answer p (with_table members' t)
    unfolding step_of disconnect guard
    disconnected members' changed =
        let shows_it : apart ≡ state_of p (with_table members' t) = ap (λ (ms : List Member). with_members ms s) (sym changed.members) in
        record {
          steps =
              record {
                step =
                    λ store output list.
                    left_accepted apart no_answer
                    (guard_goes_on (6 when breaks_rule s) ((2 when above largest_64 time) ∷ []) s (accept apart no_answer) unbroken.valid
                    ∙ guard_goes_on (2 when above largest_64 time) [] s (accept apart no_answer) (le-ltb largest_64 time small))
                    shows_it;
                long = long_with unbroken.long members' changed.long;
              };
          keeps =
              subst (Keeps s) shows_it
              record {
                cells =
                    λ n. omega (arith, uses_used n s, uses_used n apart, each_queued n (on_leg disconnect_leg) s.members (same_queue n));
              };
        }
