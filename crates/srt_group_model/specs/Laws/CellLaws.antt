-- Laws of cells: the free cell is the lowest, and 30 comes exactly if every cell carries a queued, held or history payload.
-- Document 01, "Codes from the state" and "Receiving".
use Rattle.std.specs.Prelude.{◌≡◌, refl, Bool, true, false, ◌&&◌, ◌||◌, List, [], ◌∷◌, ◌++◌, ℕ, zero, suc, ◌+◌, ◌≤◌, ◌<◌, length, None, Option, Some}
use Rattle.std.proofs.Common.{sym, ap, subst, ◌∙◌, arith}
use Rattle.std.proofs.Math.Decide.{dec_le}
use Rattle.srt_protocol.specs.Cells.{cell_size, cells_of}
use Rattle.srt_group_model.specs.Tools.{any, All}
use Rattle.srt_group_model.specs.Laws.Reason.{if_elim, if_some_elim, not_both, none_some, some_inj, and_left, and_right}
use Rattle.srt_group_model.specs.State.{State, is_backup}
use Rattle.srt_group_model.specs.Cells.{used_cells, is_among, lowest_free, free_cell}
use Rattle.srt_group_model.specs.Validity.{above, is_invalid}
use Rattle.srt_group_model.specs.Guards.{Step, Check, ◌when◌, guard}
use Rattle.srt_group_model.specs.Calls.{no_free_cell, store_unfit, is_unknown, data_unfit, queue_data_body, queue_data, list_unfit, taken_cell, send}
use Rattle.srt_group_model.specs.Laws.Refusals.{changes_nothing, send_body_midway}
use Rattle.srt_group_model.specs.Legs.{largest_64}
use Rattle.srt_group_model.specs.declared.Data.{Data}

-- of the numbers from `first` on, so many, this one is the lowest that is not used
pub record Lowest (left first : ℕ) (used : List ℕ) (cell : ℕ) : Type 0 where
  pub from : first ≤ cell
  pub within : cell < first + left
  pub unused : is_among cell used ≡ false
  pub lower_used : (n : ℕ) → first ≤ n → n < cell → is_among n used ≡ true

abbrev Finds : (left first : ℕ) → List ℕ → Option ℕ → Type 0
Finds left first used o = (cell : ℕ) → o ≡ Some cell → Lowest left first used cell

-- n is first, or beyond it
from_first : (P : ℕ → Type 0) (first n : ℕ) → P first → (suc first ≤ n → P n) → first ≤ n → P n
from_first P first n here later h = elim (dec_le (suc first) n) [ yes k ↦ later k | no k ↦ let e : first ≡ n = omega arith in subst P e here ]

lowest_free_lowest : (left first : ℕ) (used : List ℕ) → Finds left first used (lowest_free left first used)
unfolding lowest_free
lowest_free_lowest zero first used = λ cell e. none_some e
lowest_free_lowest (suc left) first used =
    if_elim (Finds (suc left) first used) _ _ _
    (λ among cell e.
    let rest = lowest_free_lowest left (suc first) used cell e in
    record {
      from = omega (arith, rest.from);
      within = omega (arith, rest.within);
      unused = rest.unused;
      lower_used =
          λ n h g.
          from_first (λ (k : ℕ). k < cell → is_among k used ≡ true) first n (λ k. among) (λ k. rest.lower_used n k) h g;
    })
    (λ free cell e.
    let same : first ≡ cell = some_inj e in
    record {
      from = omega arith;
      within = omega arith;
      unused = ap (λ (k : ℕ). is_among k used) (sym same) ∙ free;
      lower_used = λ n h g. absurd (omega arith);
    })

-- none is free only if every one of them is used
lowest_free_none : (left first : ℕ) (used : List ℕ) → lowest_free left first used ≡ None → (n : ℕ) → first ≤ n → n < first + left → is_among n used ≡ true
unfolding lowest_free
lowest_free_none zero first used = λ e n h g. absurd (omega arith)
lowest_free_none (suc left) first used =
    if_elim (λ (o : Option ℕ). o ≡ None → (n : ℕ) → first ≤ n → n < first + suc left → is_among n used ≡ true) _ _ _
    (λ among e n h.
    from_first (λ (k : ℕ). k < first + suc left → is_among k used ≡ true) first n (λ g. among)
    (λ k g. lowest_free_none left (suc first) used e n k (omega arith)) h)
    (λ free e. none_some (sym e))

-- The free cell is the lowest: it is a cell of the store that no payload uses, and every lower one is used.
pub free_cell_is_lowest : (cells : ℕ) (s : State) (cell : ℕ) → free_cell cells s ≡ Some cell → Lowest cells 0 (used_cells s) cell
unfolding free_cell
free_cell_is_lowest cells s cell e = lowest_free_lowest cells 0 (used_cells s) cell e

-- every cell carries a queued, held or history payload
abbrev pub AllUsed : ℕ → State → Type 0
AllUsed cells s = (cell : ℕ) → cell < cells → is_among cell (used_cells s) ≡ true

full_all_used : (cells : ℕ) (s : State) → no_free_cell cells s ≡ true → AllUsed cells s
unfolding free_cell
full_all_used cells s =
    if_some_elim (λ (b : Bool). b ≡ true → AllUsed cells s) _ _ _ (λ cell e k. not_both k refl)
    (λ e k cell h. lowest_free_none cells 0 (used_cells s) e cell (omega arith) (omega arith))

all_used_full : (cells : ℕ) (s : State) → AllUsed cells s → no_free_cell cells s ≡ true
all_used_full cells s h =
    if_some_elim (λ (b : Bool). b ≡ true) _ _ _
    (λ cell e.
    let found = free_cell_is_lowest cells s cell e in
    not_both (h cell (omega (arith, found.within))) found.unused)
    (λ e. refl)

-- ---- the code

-- the code of a guarded call, if it is one that only this test gives
only_when : (n : ℕ) (cs : List Check) (s : State) (body : Step) {Q : Type 0} → All (λ (c : Check). c.fails ≡ true → c.code ≡ n → Q) cs → (body.code ≡ n → Q) → (guard cs s body).code ≡ n → Q
unfolding guard
only_when n [] s body h k = k
only_when n (c ∷ cs) s body {Q} h k =
    if_elim (λ (x : Step). x.code ≡ n → Q) _ _ _ (λ e. h.0 e) (λ e. only_when n cs s body h.1 k)

-- a test that fails behind tests that do not gives its code
first_failing : (bs cs : List Check) (c : Check) (s : State) (body : Step) → All (λ (b : Check). b.fails ≡ false) bs → c.fails ≡ true → (guard (bs ++ (c ∷ cs)) s body).code ≡ c.code
unfolding guard
first_failing [] cs c s body h e =
    if_elim (λ (x : Step). x.code ≡ c.code) _ _ _ (λ g. refl) (λ g. not_both e g)
first_failing (b ∷ bs) cs c s body h e =
    if_elim (λ (x : Step). x.code ≡ c.code) _ _ _ (λ g. not_both g h.0) (λ g. first_failing bs cs c s body h.1 e)

-- queueing data gives 30 only if every cell is used
pub queue_30_full : (store id : ℕ) (d : Data) (payload : List ℕ) (s : State) → (queue_data store id d payload s).code ≡ 30 → AllUsed (cells_of store) s
unfolding queue_data queue_data_body
queue_30_full store id d payload s =
    only_when 30 _ s _
    (λ e k. absurd (omega arith), (λ e k. absurd (omega arith), (λ e k. absurd (omega arith), (λ e k. absurd (omega arith), (λ e k. absurd (omega arith), (λ e k. full_all_used (cells_of store) s e, (λ e k. absurd (omega arith), tt)))))))
    (λ k. absurd (omega arith))

-- and always if no code from the input comes first
pub full_queue_30 : (store id : ℕ) (d : Data) (payload : List ℕ) (s : State) → AllUsed (cells_of store) s
    → store_unfit store s ≡ false → is_invalid (cells_of store) s ≡ false → data_unfit id d ≡ false → is_unknown id s ≡ false → above cell_size (length payload) ≡ false
    → (queue_data store id d payload s).code ≡ 30
unfolding queue_data
full_queue_30 store id d payload s full a b c e f =
    first_failing
    ((5 when store_unfit store s) ∷ (6 when is_invalid (cells_of store) s) ∷ (2 when data_unfit id d) ∷ (3 when is_unknown id s)
    ∷ (4 when above cell_size (length payload)) ∷ [])
    _ (30 when no_free_cell (cells_of store) s) s _ (a, (b, (c, (e, (f, tt))))) (all_used_full (cells_of store) s full)

thirty : changes_nothing 30 ≡ true
unfolding changes_nothing any
thirty = refl

-- a send gives 30 only in Backup, and only if every cell is used
pub send_30_full : (store list time : ℕ) (payload : List ℕ) (s : State) → (send store list time payload s).code ≡ 30 → (is_backup s.making.mode ≡ true) × AllUsed (cells_of store) s
unfolding send
send_30_full store list time payload s =
    only_when 30 _ s _
    (λ e k. absurd (omega arith), (λ e k. absurd (omega arith), (λ e k. absurd (omega arith), (λ e k. absurd (omega arith), (λ e k. (and_left (is_backup s.making.mode) _ e, full_all_used (cells_of store) s (and_right (is_backup s.making.mode) _ e)), tt)))))
    (λ k.
    not_both (ap changes_nothing k ∙ thirty)
    (send_body_midway (taken_cell (cells_of store) s) time payload s))

pub full_send_30 : (store list time : ℕ) (payload : List ℕ) (s : State) → is_backup s.making.mode ≡ true → AllUsed (cells_of store) s
    → (store_unfit store s || list_unfit list) ≡ false → is_invalid (cells_of store) s ≡ false → above largest_64 time ≡ false → above cell_size (length payload) ≡ false
    → (send store list time payload s).code ≡ 30
unfolding send
full_send_30 store list time payload s backup full a b c e =
    first_failing
    ((5 when (store_unfit store s || list_unfit list)) ∷ (6 when is_invalid (cells_of store) s) ∷ (2 when above largest_64 time)
    ∷ (4 when above cell_size (length payload)) ∷ [])
    [] (30 when (is_backup s.making.mode && no_free_cell (cells_of store) s)) s _ (a, (b, (c, (e, tt))))
    (ap (λ (x : Bool). x && no_free_cell (cells_of store) s) backup ∙ all_used_full (cells_of store) s full)
