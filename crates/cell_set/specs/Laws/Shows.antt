-- The words show which cells a state uses, and stay so from step to step: the model's CellsMoved says which cells a step takes
-- and frees, the code's contract says which bits it moves, and one law puts the two together.
use Rattle.std.specs.Prelude.{◌≡◌, refl, true, false, List, [], ◌∷◌, ◌++◌, ℕ, ◌≤◌, ◌<◌, eqb, leb, ltb, length, None, Option, Some}
use Rattle.std.proofs.Common.{sym, subst, ◌∙◌, arith, eqb-true, eq-eqb, ne_eqb, ltb-true, ltb-false, leb-true, leb-false}
use Rattle.std.proofs.lemmas.Bool.{eqb-false}
use Rattle.srt_group_model.specs.Tools.{any, each, at_place}
use Rattle.srt_group_model.specs.Laws.Reason.{if_elim, by_test, not_both}
use Rattle.srt_group_model.specs.State.{Member, State, Making}
use Rattle.srt_group_model.specs.Cells.{queued_cells, used_cells, is_among, free_cell}
use Rattle.srt_group_model.specs.Validity.{cell_twice, cell_beyond_store, is_invalid}
use Rattle.srt_group_model.specs.Laws.Valid.{valid_of}
use Rattle.srt_group_model.specs.Calls.{new}
use Rattle.srt_group_model.specs.Sound.{occurs}
use Rattle.srt_group_model.specs.Laws.CellsKept.{one_same, one_other, occurs_append, absent, present, apart_of_rules, room_inside, room_most}
use Rattle.srt_group_model.specs.Laws.CellsMoved.{Moves, Keeps, discarded_frees, retained_keeps}
use Rattle.srt_group_model.specs.Collecting.{front, retain_group_packet}
use Rattle.srt_group_model.specs.Laws.Queues.{packet_of}
use Rattle.srt_group_model.specs.Laws.Steps.{popped}
use Rattle.srt_protocol.specs.Cells.{max_cells}
use Rattle.srt_group_model.specs.declared.Event.{Event}
use Rattle.cell_set.specs.Bits.{set_size, bit_at}
use Rattle.cell_set.specs.Sets.{ShowsCells, Taken, Freed, LowestFree}
use Rattle.cell_set.specs.Laws.Sets.{most, beyond}
use Rattle.cell_set.specs.Shows.{Shows, freed_by}

-- ---- a step of the model and a step of the words

pub shows_kept : {words : List ℕ} {s t : State} → Shows words s → Keeps s t → Shows words t
unfolding occurs
shows_kept shows keeps =
    record { cells = record { long = shows.cells.long; bits = λ n. omega (arith, shows.cells.bits n, keeps.cells n) } }

-- a cell that was free is taken
pub shows_taken : {words after : List ℕ} {cell : ℕ} {s t : State} → Shows words s → bit_at words cell ≡ 0 → Taken cell words after
    → Moves (cell ∷ []) [] s t → Shows after t
unfolding occurs
shows_taken {words} {after} {cell} {s} {t} shows free taken moves =
    record {
      cells =
          record {
            long = taken.long;
            bits =
                λ n.
                by_test (eqb cell n)
                (λ e.
                subst (λ (k : ℕ). bit_at after k ≡ occurs k (used_cells t)) (eqb-true cell n e)
                (omega (arith, taken.here, shows.cells.bits cell, moves.cells cell, one_same cell)))
                (λ e. omega (arith, taken.others n e, shows.cells.bits n, moves.cells n, one_other cell n e));
          };
    }

-- cells that the state names no more are freed
pub shows_freed : {words after cells : List ℕ} {s t : State} → Shows words s → Freed cells words after → Moves [] cells s t → Shows after t
unfolding occurs
shows_freed {words} {after} {cells} {s} {t} shows freed moves =
    record {
      cells =
          record {
            long = freed.long;
            bits =
                λ n.
                by_test (is_among n cells)
                (λ e. omega (arith, freed.gone n e, shows.cells.bits n, moves.cells n, present n cells e, most words n))
                (λ e. omega (arith, freed.others n e, shows.cells.bits n, moves.cells n, absent n cells e));
          };
    }

pub collected_frees : (s : State) (i : ℕ) (m : Member) (e : Event) → at_place i s.members ≡ Some m → front m.queue ≡ Some e
    → eqb e.kind 0 ≡ true → Moves [] (freed_by (packet_of m e) s.receive) s (retain_group_packet i (packet_of m e) (popped i s))
unfolding freed_by
collected_frees s i m e at f d =
    if_elim (λ (l : List ℕ). Moves [] l s (retain_group_packet i (packet_of m e) (popped i s))) _ _ _
    (discarded_frees s i m e at f d) (retained_keeps s i m e at f d)

-- ---- one after another

pub none_freed : (words : List ℕ) → length words ≡ set_size → Freed [] words words
unfolding any
none_freed words long = record { long = long; gone = λ n among. not_both among refl; others = λ n apart. refl }

pub freed_then : {cells more a b c : List ℕ} → Freed cells a b → Freed more b c → Freed (cells ++ more) a c
freed_then {cells} {more} {a} {b} {c} first second =
    record {
      long = second.long;
      gone =
          λ n among.
          by_test (is_among n more) (λ e. second.gone n e)
          (λ e. second.others n e ∙ first.gone n (in_first n cells more among e));
      others =
          λ n apart.
          second.others n (among_right n cells more apart) ∙ first.others n (among_left n cells more apart);
    }
  where
    in_first : (n : ℕ) (l m : List ℕ) → is_among n (l ++ m) ≡ true → is_among n m ≡ false → is_among n l ≡ true
    in_first n l m among apart =
        by_test (is_among n l) (λ e. e)
        (λ e. absurd (omega (arith, present n (l ++ m) among, absent n l e, absent n m apart, occurs_append n l m)))

    among_left : (n : ℕ) (l m : List ℕ) → is_among n (l ++ m) ≡ false → is_among n l ≡ false
    among_left n l m apart =
        by_test (is_among n l) (λ e. absurd (omega (arith, present n l e, absent n (l ++ m) apart, occurs_append n l m))) (λ e. e)

    among_right : (n : ℕ) (l m : List ℕ) → is_among n (l ++ m) ≡ false → is_among n m ≡ false
    among_right n l m apart =
        by_test (is_among n m) (λ e. absurd (omega (arith, present n m e, absent n (l ++ m) apart, occurs_append n l m))) (λ e. e)

-- ---- the cell that is found is document 01's

lowest_is : {words : List ℕ} {cells : ℕ} {r : Option ℕ} {s : State} → Shows words s → LowestFree words cells r → r ≡ free_cell cells s
unfolding free_cell
lowest_is {s = s} shows lowest = lowest.is (used_cells s) shows.cells

-- a cell was found, or none
pub lowest_found : {words : List ℕ} {cells cell : ℕ} {r : Option ℕ} {s : State} → Shows words s → LowestFree words cells r → r ≡ Some cell
    → free_cell cells s ≡ Some cell
lowest_found {cells = cells} {cell} {s = s} shows lowest is = given (free_cell cells s) (sym is ∙ lowest_is shows lowest)
  where
    given : (o : Option ℕ) → Some cell ≡ o → o ≡ Some cell
    given None e = cc e
    given (Some c) e = cc e

pub none_found : {words : List ℕ} {cells : ℕ} {r : Option ℕ} {s : State} → Shows words s → LowestFree words cells r → r ≡ None
    → free_cell cells s ≡ None
none_found {cells = cells} {s = s} shows lowest is = given (free_cell cells s) (sym is ∙ lowest_is shows lowest)
  where
    given : (o : Option ℕ) → None ≡ o → o ≡ None
    given None e = refl
    given (Some c) e = cc e

-- ---- what it says, cell by cell

-- a bit is set exactly if its cell is named
pub shows_exactly : {words : List ℕ} {s : State} → Shows words s → (n : ℕ) → eqb (bit_at words n) 1 ≡ is_among n (used_cells s)
shows_exactly {words} {s} shows n =
    by_test (is_among n (used_cells s))
    (λ e. eq-eqb (bit_at words n) 1 (omega (arith, shows.cells.bits n, present n (used_cells s) e, most words n)) ∙ sym e)
    (λ e. ne_eqb (bit_at words n) 1 (λ q. omega (arith, shows.cells.bits n, absent n (used_cells s) e)) ∙ sym e)

-- and of a valid state that is all that it says, as no cell is named twice
pub of_exactly : (cells : ℕ) (words : List ℕ) (s : State) → cells ≤ max_cells → is_invalid cells s ≡ false → length words ≡ set_size
    → ((n : ℕ) → n < max_cells → eqb (bit_at words n) 1 ≡ is_among n (used_cells s)) → Shows words s
unfolding cell_twice cell_beyond_store
of_exactly cells words s few valid long exactly =
    let rules = valid_of cells s valid in
    let apart = apart_of_rules cells (used_cells s) rules.cells_once rules.cells_inside in
    record {
      cells =
          record {
            long = long;
            bits =
                λ n.
                by_test (ltb n max_cells)
                (λ inside.
                by_test (is_among n (used_cells s))
                (λ e.
                omega (arith, apart n, room_most cells n, present n (used_cells s) e, eqb-true (bit_at words n) 1 (exactly n (ltb-true n max_cells inside) ∙ e)))
                (λ e.
                omega (arith, absent n (used_cells s) e, most words n, eqb-false (bit_at words n) 1 (exactly n (ltb-true n max_cells inside) ∙ e))))
                (λ outside.
                let far : max_cells ≤ n = ltb-false n max_cells outside in
                by_test (leb 1 (occurs n (used_cells s)))
                (λ e. absurd (omega (arith, few, far, room_inside cells n (omega (arith, apart n, leb-true 1 (occurs n (used_cells s)) e)))))
                (λ e. omega (arith, beyond words n long far, leb-false 1 (occurs n (used_cells s)) e)));
          };
    }

-- a group that was just made uses no cell
pub shows_new : (words : List ℕ) (making : Making) → ShowsCells words [] → Shows words (new making)
unfolding new used_cells queued_cells each
shows_new words making fresh = record { cells = fresh }
