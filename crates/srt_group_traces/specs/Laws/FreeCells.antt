-- A cell that nothing uses is that of no queued and no held packet; the cell that a call takes lies within the store. Document 01,
-- "Receiving".
use Rattle.std.specs.Prelude.{◌≡◌, refl, false, List, [], ◌∷◌, ◌++◌, ℕ, ◌+◌, ◌*◌, ◌≤◌, eqb}
use Rattle.std.proofs.Common.{arith}
use Rattle.srt_protocol.specs.Cells.{cell_size, cells_of}
use Rattle.srt_group_model.specs.Tools.{any, such_that, each, All}
use Rattle.srt_group_model.specs.State.{Member, State}
use Rattle.srt_group_model.specs.Cells.{is_data, queue_cells, queued_cells, used_cells, is_among}
use Rattle.srt_group_model.specs.Calls.{no_free_cell, taken_cell}
use Rattle.srt_group_model.specs.declared.Event.{Event}
use Rattle.srt_group_model.specs.declared.Packet.{Packet}
use Rattle.srt_group_model.specs.Laws.Reason.{or_left, or_right}
use Rattle.srt_group_model.specs.Laws.InHand.{taken_lowest}
use Rattle.srt_group_traces.specs.Laws.Cases.{all_if_passes, not_eq_of, or_both}
use Rattle.srt_group_traces.specs.Laws.Law.{ElsewhereThan, Queued, LiveAt}

-- ---- no queued and no held packet has it

pub is_among_append : (cell : ℕ) (u v : List ℕ) → is_among cell (u ++ v) ≡ false
    → (is_among cell u ≡ false) × (is_among cell v ≡ false)
unfolding any
is_among_append cell [] v e = (refl, e)
is_among_append cell (m ∷ u) v e =
    let h : (is_among cell u ≡ false) × (is_among cell v ≡ false) =
    is_among_append cell u v (or_right (eqb m cell) (is_among cell (u ++ v)) e) in
    (or_both (eqb m cell) (is_among cell u) (or_left (eqb m cell) (is_among cell (u ++ v)) e) h.0, h.1)

-- no number of these is the cell, whatever it is a number of
none_is : {A : Type 0} (number : A → ℕ) (cell : ℕ) (l : List A) → is_among cell (each number l) ≡ false
    → All (λ (a : A). number a ≡ cell → ⊥) l
unfolding each any
none_is number cell [] e = tt
none_is number cell (x ∷ xs) e =
    (not_eq_of (number x) cell (or_left (eqb (number x) cell) _ e), none_is number cell xs (or_right (eqb (number x) cell) _ e))

queues_elsewhere : (cell : ℕ) (ms : List Member) → is_among cell (queued_cells ms) ≡ false → All (Queued (λ (leg : ℕ). ElsewhereThan cell)) ms
unfolding queued_cells queue_cells
queues_elsewhere cell [] e = tt
queues_elsewhere cell (m ∷ ms) e =
    let h = is_among_append cell (queue_cells m) (queued_cells ms) e in (
      all_if_passes (λ (e : Event). ElsewhereThan cell e.content) is_data m.queue
          (none_is (λ (e : Event). e.content.cell) cell (such_that is_data m.queue) h.0),
      queues_elsewhere cell ms h.1,
    )

pub unused_elsewhere : (cell : ℕ) (s : State) → is_among cell (used_cells s) ≡ false → LiveAt (λ (leg : ℕ). ElsewhereThan cell) s
unfolding used_cells
unused_elsewhere cell s e =
    let h = is_among_append cell (queued_cells s.members) _ e in (
      queues_elsewhere cell s.members h.0,
      none_is (λ (p : Packet). p.content.cell) cell s.receive.pending
          (is_among_append cell (each (λ p. p.content.cell) s.receive.pending) _ h.1).0,
    )

-- ---- the taken cell lies within the store

pub taken_cell_within : (store_length : ℕ) (s : State) → no_free_cell (cells_of store_length) s ≡ false
    → taken_cell (cells_of store_length) s * cell_size + cell_size ≤ store_length
taken_cell_within store_length s e = omega (arith, (taken_lowest (cells_of store_length) s e).within)
