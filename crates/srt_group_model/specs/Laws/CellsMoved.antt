-- Which cells each step of a call takes and frees, exactly: what a table of the cells in use follows, where it is kept from call
-- to call and not made anew. CellsKept and CellsCalls bound the same counts from above.
use Rattle.std.specs.Prelude.{◌≡◌, refl, Bool, true, false, not, ℕ, zero, suc, ◌+◌, eqb, None, Some}
use Rattle.std.proofs.Math.Path.{ap}
use mathlib.Core.List.{List, [], ◌∷◌}
use Rattle.std.proofs.Common.{arith}
use Rattle.srt_group_model.specs.Tools.{if_true◌then◌else◌, such_that, at_place, change, each, without_place}
use Rattle.srt_group_model.specs.Laws.Reason.{if_elim, by_test, not_both, none_some, some_inj}
use Rattle.srt_group_model.specs.State.{Member, Send, State, with_members, on_leg}
use Rattle.srt_group_model.specs.Legs.{add_reservation}
use Rattle.srt_group_model.specs.Members.{id_of}
use Rattle.srt_group_model.specs.Nearest.{sequence_of, has_sequence, is_covered, covered}
use Rattle.srt_group_model.specs.Run.{Run, refresh_pending_states, refresh_states}
use Rattle.srt_group_model.specs.Collecting.{front, is_discarded, retain_group_packet, report_event}
use Rattle.srt_group_model.specs.Delivery.{deliver_packet, pass_run}
use Rattle.srt_group_model.specs.Removal.{retire, take_out}
use Rattle.srt_group_model.specs.Cells.{queue_cells, queued_cells, used_cells}
use Rattle.srt_group_model.specs.Calls.{enqueue, data_event}
use Rattle.srt_group_model.specs.Laws.Queues.{AllRelabelled, pop, packet_of, retain_relabelled}
use Rattle.srt_group_model.specs.Laws.Steps.{popped}
use Rattle.srt_group_model.specs.Sound.{one, occurs, uses, pending_cells, history_cells}
use Rattle.srt_group_model.specs.Laws.Released.{deliver_released, deliver_relabelled}
use Rattle.srt_group_model.specs.Laws.CellsKept.{occurs_append, uses_used, relabelled_cells, popped_data, popped_event, inserted, own_cells, retain_send}
use Rattle.srt_group_model.specs.declared.Data.{Data}
use Rattle.srt_group_model.specs.declared.Event.{Event}
use Rattle.srt_group_model.specs.declared.Packet.{Packet}
use Rattle.srt_group_model.specs.declared.Waiting.{Waiting}
use Rattle.srt_group_model.specs.Laws.CallLaw.{RefreshLaw}
use Rattle.srt_group_model.specs.Laws.EveryCall.{refreshes_pending, refreshes, breaks}
use Rattle.srt_group_model.specs.Laws.MemberMoves.{moved_relabelled}
use Rattle.srt_group_model.specs.Laws.InHand.{enqueued}

-- from one state to the other these cells are taken, and those are freed
pub record Moves (taken freed : List ℕ) (s t : State) : Type 0 where
  pub cells : (n : ℕ) → occurs n (used_cells t) + occurs n freed ≡ occurs n (used_cells s) + occurs n taken

abbrev pub Keeps : State → State → Type 0
Keeps = Moves [] []

-- part by part
parts_move : (taken freed : List ℕ) (s t : State)
    → ((n : ℕ) → uses n t.members t.receive.pending t.send.history + occurs n freed ≡ uses n s.members s.receive.pending s.send.history + occurs n taken)
    → Moves taken freed s t
parts_move taken freed s t h = record { cells = λ n. omega (arith, h n, uses_used n s, uses_used n t) }

-- where only the members change, and not their cells
relabelled_keeps : (s : State) (ms : List Member) → AllRelabelled s.members ms → Keeps s (with_members ms s)
unfolding occurs
relabelled_keeps s ms h = parts_move [] [] s (with_members ms s) (λ n. omega (arith, ap (occurs n) (relabelled_cells s.members ms h)))

-- what moves a label or a leg, and sets the base, keeps them
keeps_refresh : (s : State) → RefreshLaw (λ hand t log. Keeps s t)
unfolding used_cells
keeps_refresh s =
    record {
      moves = λ t i m f at move h. record { cells = λ n. omega (arith, h.cells n, (relabelled_keeps t _ (moved_relabelled i m f t.members at move)).cells n) };
      binds = λ t i m at a unbound h. record { cells = h.cells };
      sets_base = λ t b e source h. record { cells = h.cells };
    }

-- ---- a collected event

module _ (s : State) (i : ℕ) (m : Member) (e : Event) (at : at_place i s.members ≡ Some m) (f : front m.queue ≡ Some e) where
  abbrev retained : State
  retained = retain_group_packet i (packet_of m e) (popped i s)

  retained_queued : (n : ℕ) → occurs n (queued_cells retained.members) ≡ occurs n (queued_cells (change i pop s.members))
  retained_queued n = ap (occurs n) (relabelled_cells (change i pop s.members) _ (retain_relabelled i (packet_of m e) (popped i s)))

  retained_history : (n : ℕ) → occurs n (history_cells retained.send.history) ≡ occurs n (history_cells s.send.history)
  retained_history n = ap (λ (x : Send). occurs n (history_cells x.history)) (retain_send i (packet_of m e) (popped i s))

  -- a packet that is discarded frees its cell
  pub discarded_frees : eqb e.kind 0 ≡ true → is_discarded (packet_of m e) s.receive ≡ true → Moves [] (e.content.cell ∷ []) s retained
  unfolding retain_group_packet occurs
  discarded_frees d gone =
      parts_move [] (e.content.cell ∷ []) s retained
      (λ n.
      let pending : occurs n (pending_cells retained.receive.pending) ≡ occurs n (pending_cells s.receive.pending) =
      if_elim (λ (t : State). occurs n (pending_cells t.receive.pending) ≡ occurs n (pending_cells s.receive.pending)) _ _ _
      (λ g. refl) (λ g. not_both gone g)
      in
      omega (arith, pending, retained_queued n, retained_history n, popped_data n i m e s.members at f d))

  -- one that is retained keeps it
  pub retained_keeps : eqb e.kind 0 ≡ true → is_discarded (packet_of m e) s.receive ≡ false → Keeps s retained
  unfolding retain_group_packet occurs
  retained_keeps d kept =
      parts_move [] [] s retained
      (λ n.
      let pending : occurs n (pending_cells retained.receive.pending) ≡ one e.content.cell n + occurs n (pending_cells s.receive.pending) =
      if_elim (λ (t : State). occurs n (pending_cells t.receive.pending) ≡ one e.content.cell n + occurs n (pending_cells s.receive.pending)) _ _ _
      (λ g. not_both g kept) (λ g. inserted n (packet_of m e) s.receive.pending)
      in
      omega (arith, pending, retained_queued n, retained_history n, popped_data n i m e s.members at f d))

  pub reported_keeps : (w : Waiting) → eqb e.kind 0 ≡ false → Keeps s (report_event i w (popped i s))
  unfolding occurs
  reported_keeps w d =
      breaks (λ hand t log. Keeps s t) (keeps_refresh s) None [] s i w
      (parts_move [] [] s _ (λ n. omega (arith, ap (occurs n) (popped_event i m e s.members at f d))))

-- ---- a delivery

split_cells : (n : ℕ) (test : Packet → Bool) (ps : List Packet)
    → occurs n (pending_cells (such_that (λ p. not (test p)) ps)) + occurs n (pending_cells (such_that test ps)) ≡ occurs n (pending_cells ps)
unfolding such_that each occurs if_true◌then◌else◌
split_cells n test [] = omega arith
split_cells n test (p ∷ ps) =
    by_test (test p) (λ e. rw e (omega (arith, split_cells n test ps))) (λ e. rw e (omega (arith, split_cells n test ps)))

-- what the run covers is freed, the packet itself too
pub delivery_frees : (base : ℕ) (p : Packet) (s : State)
    → Moves [] (pending_cells (covered base p.content.count s.receive.pending)) s (deliver_packet base p s)
unfolding deliver_packet pass_run occurs
delivery_frees base p s =
    parts_move [] (pending_cells (covered base p.content.count s.receive.pending)) s (deliver_packet base p s)
    (λ n.
    let queued = ap (occurs n) (relabelled_cells s.members _ (deliver_relabelled base p s)) in
    let history = ap (λ (x : Send). occurs n (history_cells x.history)) (deliver_released base p s).send in
    omega (arith, queued, history, split_cells n (is_covered base p.content.count) s.receive.pending))

-- ---- queueing

change_cells : (n more i : ℕ) (f : Member → Member) (m : Member) (ms : List Member) → at_place i ms ≡ Some m
    → ((m : Member) → occurs n (queue_cells (f m)) ≡ occurs n (queue_cells m) + more)
    → occurs n (queued_cells (change i f ms)) ≡ occurs n (queued_cells ms) + more
unfolding queued_cells at_place change
change_cells n more zero f m [] at h = none_some at
change_cells n more (suc i) f m [] at h = none_some at
change_cells n more zero f m (x ∷ ms) at h =
    omega (arith, h x, occurs_append n (queue_cells (f x)) (queued_cells ms), occurs_append n (queue_cells x) (queued_cells ms))
change_cells n more (suc i) f m (x ∷ ms) at h =
    omega (arith, change_cells n more i f m ms at h, occurs_append n (queue_cells x) (queued_cells (change i f ms)), occurs_append n (queue_cells x) (queued_cells ms))

-- data at the end of a member's queue takes its cell
pub enqueue_takes : (i cell size : ℕ) (d : Data) (m : Member) (s : State) → at_place i s.members ≡ Some m
    → Moves (cell ∷ []) [] s (with_members (change i (λ x. on_leg (add_reservation d.count) (enqueue (data_event cell size d) x)) s.members) s)
unfolding queue_cells such_that each occurs if_true◌then◌else◌
enqueue_takes i cell size d m s at =
    parts_move (cell ∷ []) [] s (with_members (change i (λ x. on_leg (add_reservation d.count) (enqueue (data_event cell size d) x)) s.members) s)
    (λ n.
    omega (arith, change_cells n (one cell n) i (λ x. on_leg (add_reservation d.count) (enqueue (data_event cell size d) x)) m s.members at (λ x. omega (arith, enqueued n (data_event cell size d) x))))

-- ---- a removal

without_cells : (n i : ℕ) (m : Member) (ms : List Member) → at_place i ms ≡ Some m
    → occurs n (queued_cells (without_place i ms)) + occurs n (queue_cells m) ≡ occurs n (queued_cells ms)
unfolding queued_cells at_place without_place
without_cells n zero m [] at = none_some at
without_cells n (suc i) m [] at = none_some at
without_cells n zero m (x ∷ ms) at =
    omega (arith, occurs_append n (queue_cells x) (queued_cells ms), ap (λ (y : Member). occurs n (queue_cells y)) (some_inj at))
without_cells n (suc i) m (x ∷ ms) at =
    omega (arith, without_cells n i m ms at, occurs_append n (queue_cells x) (queued_cells (without_place i ms)), occurs_append n (queue_cells x) (queued_cells ms))

-- the queue of the member is dropped
pub take_out_frees : (i : ℕ) (m : Member) (s : State) → at_place i s.members ≡ Some m → Moves [] (queue_cells m) s (take_out i m s)
unfolding take_out occurs
take_out_frees i m s at =
    parts_move [] (queue_cells m) s (take_out i m s)
    (λ n. omega (arith, without_cells n i m s.members at, ap (occurs n) (own_cells (id_of m) s.receive.pending)))

-- a retired packet frees its cell: in a valid state it is the one with that sequence
pub retire_frees : (p : Packet) (s : State) → Moves [] (pending_cells (such_that (has_sequence (sequence_of p)) s.receive.pending)) s (retire p s)
unfolding retire occurs
retire_frees p s =
    parts_move [] (pending_cells (such_that (has_sequence (sequence_of p)) s.receive.pending)) s (retire p s)
    (λ n. omega (arith, split_cells n (has_sequence (sequence_of p)) s.receive.pending))

-- ---- the refresh of the members' states names the same cells

same_cells : (s : State) → Keeps s s
same_cells s = record { cells = λ n. refl }

pub refresh_pending_keeps : (r : Run) → Keeps r.state (refresh_pending_states r).state
refresh_pending_keeps r = refreshes_pending (λ hand t log. Keeps r.state t) (keeps_refresh r.state) None r (same_cells r.state)

pub refresh_keeps : (r : Run) → Keeps r.state (refresh_states r).state
refresh_keeps r = refreshes (λ hand t log. Keeps r.state t) (keeps_refresh r.state) None r (same_cells r.state)
