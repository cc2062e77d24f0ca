-- What is proved of the definitions in specs/Marks.antt, with what the proofs need.
use Rattle.std.specs.Prelude.{◌≡◌, Bool, true, false, List, [], ◌∷◌, ℕ, ◌+◌, ◌≤◌, ◌<◌, eqb, ltb}
use Rattle.std.proofs.Math.Path.{refl, subst}
use Rattle.std.proofs.Common.{sym, ◌∙◌, arith}
use borrow.Author.Tests.{eqb-true, eqb-false, ltb-false}
use Rattle.srt_group_model.specs.Laws.Reason.{if_elim, by_test, not_both}
use Rattle.srt_group_model.specs.Sound.{occurs, room}
use Rattle.srt_group_model.specs.Laws.CellsKept.{one_same, one_other, room_inside, room_most}
use Rattle.cell_set.specs.Bits.{bit_at}
use Rattle.cell_set.specs.Sets.{ShowsCells, Taken}
use Rattle.cell_set.specs.Laws.Sets.{most}
use Rattle.cell_set.specs.Marks.{Marking, Marks}

module _ (cells cell : ℕ) (before : List ℕ) where
  pub beyond_refused : cells ≤ cell → Marks cells (cell ∷ []) before false before
  unfolding occurs
  beyond_refused far =
      record {
        marked = λ e. not_both e refl;
        kept = λ e. not_both e refl;
        broken = λ e h. omega (arith, room_inside cells cell (omega (arith, h cell, one_same cell)));
      }

  pub again_refused : {r : Bool} → r ≡ eqb (bit_at before cell) 1 → r ≡ true → Marks cells (cell ∷ []) before false before
  unfolding occurs
  again_refused is yes_used =
      record {
        marked = λ e. not_both e refl;
        kept = λ e. not_both e refl;
        broken =
            λ e h. omega (arith, h cell, one_same cell, room_most cells cell, eqb-true (bit_at before cell) 1 (sym is ∙ yes_used));
      }

  pub cell_marked : {r : Bool} (after : List ℕ) → Marking cells before → cell < cells → r ≡ eqb (bit_at before cell) 1 → r ≡ false
      → Taken cell before after → Marks cells (cell ∷ []) before true after
  unfolding occurs
  cell_marked after marking inside is not_used taken =
      let free : bit_at before cell ≡ 0 = omega (arith, most before cell, eqb-false (bit_at before cell) 1 (sym is ∙ not_used)) in
      let bits : (n : ℕ) → bit_at after n ≡ bit_at before n + occurs n (cell ∷ []) =
      λ n.
      by_test (eqb cell n)
      (λ e.
      subst (λ (k : ℕ). bit_at after k ≡ bit_at before k + occurs k (cell ∷ [])) (eqb-true cell n e)
      (omega (arith, taken.here, free, one_same cell)))
      (λ e. omega (arith, taken.others n e, one_other cell n e))
      in
      record {
        marked = λ e. bits;
        kept =
            λ e.
            record {
              store = marking.store;
              long = taken.long;
              within =
                  λ n.
                  by_test (eqb cell n)
                  (λ t.
                  subst (λ (k : ℕ). bit_at after k ≤ room cells k) (eqb-true cell n t)
                  (omega (arith, taken.here, in_store cells cell inside)))
                  (λ t. omega (arith, taken.others n t, marking.within n));
            };
        broken = λ e. not_both refl e;
      }
    where
      in_store : (cells cell : ℕ) → cell < cells → 1 ≤ room cells cell
      in_store cells cell h = if_elim (λ (k : ℕ). 1 ≤ k) (ltb cell cells) 1 0 (λ e. omega arith) (λ e. absurd (omega (arith, ltb-false cell cells e)))

-- a pass that began with no cell marked, and was not refused, leaves the words that show what it was given
pub marks_show : (cells : ℕ) (named before after : List ℕ) → ShowsCells before [] → Marks cells named before true after → ShowsCells after named
unfolding occurs
marks_show cells named before after fresh marks =
    record { long = (marks.kept refl).long; bits = λ n. omega (arith, marks.marked refl n, fresh.bits n) }
