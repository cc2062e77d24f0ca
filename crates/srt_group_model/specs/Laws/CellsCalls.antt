-- The cells over every call: none is named twice and none lies beyond the store, the cell that a call has taken included.
use Rattle.std.specs.Prelude.{◌≡◌, refl, false, List, [], ℕ, ◌+◌, ◌≤◌, ◌<◌, ltb, eqb, length, None, Option, Some}
use Rattle.std.proofs.Common.{ap, subst, arith, eqb-true, lt-ltb}
use Rattle.srt_protocol.specs.Cells.{cells_of}
use Rattle.srt_group_model.specs.Laws.Reason.{if_elim, by_test, not_both}
use Rattle.srt_group_model.specs.State.{State}
use Rattle.srt_group_model.specs.Delivery.{skip_to}
use Rattle.srt_group_model.specs.Run.{Mark}
use Rattle.srt_group_model.specs.Cells.{used_cells}
use Rattle.srt_group_model.specs.Validity.{cell_twice, cell_beyond_store}
use Rattle.srt_group_model.specs.Calls.{no_free_cell, taken_cell}
use Rattle.srt_group_model.specs.Lent.{Lent, Call, perform}
use Rattle.srt_group_model.specs.Laws.Steps.{StateLaw, state_law_of}
use Rattle.srt_group_model.specs.Laws.EveryCall.{call_keeps}
use Rattle.srt_group_model.specs.Sound.{room, uses, Within, one, occurs}
use Rattle.srt_group_model.specs.Laws.CellsKept.{Apart, apart_of_rules, once_of_apart, inside_of_apart, uses_used, one_same, one_other, absent, popped_event}
use Rattle.srt_group_model.specs.Laws.InHand.{used, taken_lowest, deliver_cells, fewer_refreshes, fewer_collects, fewer_polls, fewer_moves}

room_of : (cells cell : ℕ) → cell < cells → room cells cell ≡ 1
room_of cells cell h = if_elim (λ (r : ℕ). r ≡ 1) (ltb cell cells) 1 0 (λ e. refl) (λ e. not_both (lt-ltb cell cells h) e)

-- a cell in hand counts as one that is used
abbrev pub in_hand : Option ℕ → ℕ → ℕ
in_hand None n = 0
in_hand (Some cell) n = one cell n

abbrev pub Holding : (ℕ → ℕ) → Option ℕ → State → List Mark → Type 0
Holding bound hand s log = (n : ℕ) → uses n s.members s.receive.pending s.send.history + in_hand hand n ≤ bound n

takes_free : (cells : ℕ) (s : State) → no_free_cell cells s ≡ false → Holding (room cells) None s [] → Holding (room cells) (Some (taken_cell cells s)) s []
takes_free cells s free h n =
    let cell = taken_cell cells s in
    let low = taken_lowest cells s free in
    by_test (eqb cell n)
    (λ e.
    subst (λ (k : ℕ). used k s + one cell k ≤ room cells k) (eqb-true cell n e)
    (omega (arith, uses_used cell s, absent cell (used_cells s) low.unused, one_same cell, room_of cells cell (omega (arith, low.within)))))
    (λ e. omega (arith, h n, one_other cell n e))

fewer_holding : (cells : ℕ) (hand : Option ℕ) (log later : List Mark) (s t : State) → ((n : ℕ) → used n t ≤ used n s)
    → Holding (room cells) hand s log → Holding (room cells) hand t later
fewer_holding cells hand log later s t fewer h n = omega (arith, fewer n, h n)

pub within_law : (cells : ℕ) → StateLaw (Within (room cells))
unfolding skip_to
within_law cells =
    state_law_of (Holding (room cells)) (Within (room cells)) (fewer_refreshes _ (fewer_holding cells)) (fewer_collects _ (fewer_holding cells)) (fewer_polls _ (fewer_holding cells)) (λ s log h n. omega (arith, h n)) (λ s log h n. omega (arith, h n))
    (λ s i m e f d h n. omega (arith, h n, ap (occurs n) (popped_event i m e s.members f.stands f.first d)))
    (λ s base p h n. omega (arith, h n, deliver_cells n s base p)) (λ s base p g h. h) (λ s p g h. h)

-- No call makes a cell named twice, or one beyond the store that it is lent.
pub cells_kept : (c : Call) (lent : Lent) (s : State) → cell_twice s ≡ false → cell_beyond_store (cells_of (length lent.store)) s ≡ false
    → (cell_twice (perform c lent s).state ≡ false) × (cell_beyond_store (cells_of (length lent.store)) (perform c lent s).state ≡ false)
unfolding cell_twice cell_beyond_store
cells_kept c lent s h k =
    let cells = cells_of (length lent.store) in
    let t = (perform c lent s).state in
    let before = apart_of_rules cells (used_cells s) h k in
    let moves = fewer_moves (Holding (room cells)) (fewer_holding cells) _ (takes_free cells s) (λ log s t cell more h n. omega (arith, more n, h n)) in
    let after = call_keeps (Holding (room cells)) c lent s moves (λ n. omega (arith, before n, uses_used n s)) in
    let apart : Apart cells (used_cells t) = λ n. omega (arith, after n, uses_used n t) in
    (once_of_apart cells _ apart, inside_of_apart cells _ apart)
