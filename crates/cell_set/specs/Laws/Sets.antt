-- What is proved of the definitions in specs/Sets.antt, with what the proofs need.
use Rattle.std.specs.Prelude.{◌≡◌, refl, true, List, [], ◌∷◌, ℕ, zero, suc, ◌+◌, ◌-◌, ◌*◌, ◌/◌, ◌%◌, ◌^◌, ◌≤◌, ◌<◌, eqb, ltb, length, get_or, set, None, Some}
use Rattle.std.proofs.Common.{sym, ◌∙◌, arith, get_or-set_same, get_or-set_other}
use Rattle.std.specs.Bool.{then_some}
use Rattle.std.proofs.Math.Path.{ap, subst}
use Rattle.std.proofs.Math.Bool.{false}
use borrow.Author.Tests.{eqb-true, eqb-false, ltb-true, ltb-false}
use Rattle.std.specs.Int.Bits.{bit_or, bit_and}
use Rattle.std.proofs.Math.ListN.{length-set, get_or-eq_default}
use Rattle.srt_group_model.specs.Tools.{if_true◌then◌else◌, any}
use Rattle.srt_group_model.specs.Laws.Reason.{by_test, not_both, or_left, or_cases}
use Rattle.srt_group_model.specs.Cells.{is_among, lowest_free}
use Rattle.srt_group_model.specs.Sound.{occurs}
use Rattle.srt_group_model.specs.Laws.CellsKept.{absent, present}
use Rattle.srt_protocol.specs.Cells.{max_cells}
use Rattle.cell_set.specs.Bits.{set_size, bit, bit_at}
use Rattle.cell_set.specs.Laws.Bits.{bit_most, bit_none, set_here, set_other, unset_here, unset_other, full_bit, trailing_ones, ones_end, ones_before, zero_at}
use Rattle.cell_set.specs.Sets.{ShowsCells, Taken, Freed, LowestFree, Passed, FirstWord}

-- ---- one bit is written

pub most : (words : List ℕ) (n : ℕ) → bit_at words n ≤ 1
unfolding bit_at
most words n = bit_most (n % 64) (get_or words (n / 64) 0)

pub beyond : (words : List ℕ) (n : ℕ) → length words ≡ set_size → max_cells ≤ n → bit_at words n ≡ 0
unfolding bit_at
beyond words n long far =
    ap (bit (n % 64)) (get_or-eq_default words 0 {n = n / 64} (omega arith)) ∙ bit_none (n % 64)

module _ (words : List ℕ) (cell : ℕ) (long : length words ≡ set_size) (below : cell < max_cells) where
  abbrev old : ℕ
  old = get_or words (cell / 64) 0

  abbrev mask : ℕ
  mask = 1 * 2 ^ (cell % 64) % 2 ^ 64

  written_here : (v : ℕ) → bit_at (set words (cell / 64) v) cell ≡ bit (cell % 64) v
  unfolding bit_at
  written_here v = ap (bit (cell % 64)) (get_or-set_same words (cell / 64) v 0 (omega arith))

  written_other : (v : ℕ) → ((i : ℕ) → i < 64 → (i ≡ cell % 64 → ⊥) → bit i v ≡ bit i old) → (n : ℕ) → eqb cell n ≡ false
      → bit_at (set words (cell / 64) v) n ≡ bit_at words n
  unfolding bit_at
  written_other v others n other =
      by_test (eqb (n / 64) (cell / 64))
      (λ e.
      let same : n / 64 ≡ cell / 64 = eqb-true (n / 64) (cell / 64) e in
      ap (λ (k : ℕ). bit (n % 64) (get_or (set words (cell / 64) v) k 0)) same
      ∙ ap (bit (n % 64)) (get_or-set_same words (cell / 64) v 0 (omega arith))
      ∙ others (n % 64) (omega arith) (λ q. eqb-false cell n other (omega arith)) ∙ ap (λ (k : ℕ). bit (n % 64) (get_or words k 0)) (sym same))
      (λ e. ap (bit (n % 64)) (get_or-set_other words (cell / 64) (n / 64) v 0 (λ q. eqb-false (n / 64) (cell / 64) e q)))

  pub cell_taken : Taken cell words (set words (cell / 64) (bit_or old mask))
  cell_taken =
      record {
        long = simp length-set long;
        here = written_here (bit_or old mask) ∙ set_here old (cell % 64) (omega arith);
        others = written_other (bit_or old mask) (λ i h. set_other old (cell % 64) (omega arith) i);
      }

  pub cell_freed : Freed (cell ∷ []) words (set words (cell / 64) (bit_and old (2 ^ 64 - 1 - mask)))
  unfolding any
  cell_freed =
      record {
        long = simp length-set long;
        gone =
            λ n among.
            let same : cell ≡ n = eqb-true cell n (or_cases (eqb cell n) false among (λ e. e) (λ e. not_both e refl)) in
            subst (λ (k : ℕ). bit_at (set words (cell / 64) (bit_and old (2 ^ 64 - 1 - mask))) k ≡ 0) same
            (written_here (bit_and old (2 ^ 64 - 1 - mask)) ∙ unset_here old (cell % 64) (omega arith));
        others =
            λ n apart. written_other (bit_and old (2 ^ 64 - 1 - mask)) (unset_other old (cell % 64) (omega arith)) n (or_left (eqb cell n) false apart);
      }

-- there is no such cell
pub nothing_freed : (words : List ℕ) (cell : ℕ) → length words ≡ set_size → max_cells ≤ cell → Freed (cell ∷ []) words words
unfolding any
nothing_freed words cell long far =
    record {
      long = long;
      gone =
          λ n among.
          let same : cell ≡ n = eqb-true cell n (or_cases (eqb cell n) false among (λ e. e) (λ e. not_both e refl)) in
          beyond words n long (omega arith);
      others = λ n apart. refl;
    }

-- ---- all bits are cleared

pub all_cleared : (words : List ℕ) → length words ≡ set_size → ((k : ℕ) → k < set_size → get_or words k 0 ≡ 0) → ShowsCells words []
unfolding bit_at occurs
all_cleared words long none_set =
    record {
      long = long;
      bits =
          λ n.
          by_test (ltb n max_cells)
          (λ e. ap (bit (n % 64)) (none_set (n / 64) (omega (arith, ltb-true n max_cells e))) ∙ bit_none (n % 64))
          (λ e. beyond words n long (ltb-false n max_cells e));
    }

-- ---- the search

in_word : (words : List ℕ) (at n : ℕ) → n / 64 ≡ at → bit_at words n ≡ bit (n % 64) (get_or words at 0)
unfolding bit_at
in_word words at n same = ap (λ (k : ℕ). bit (n % 64) (get_or words k 0)) same

pub words_passed : (words : List ℕ) (at : ℕ) → ((k : ℕ) → k < at → get_or words k 0 ≡ 2 ^ 64 - 1) → Passed words at
words_passed words at full n below =
    in_word words (n / 64) n refl ∙ ap (bit (n % 64)) (full (n / 64) (omega arith)) ∙ full_bit (n % 64) (omega arith)

named_of : (n : ℕ) (named : List ℕ) → occurs n named ≡ 1 → is_among n named ≡ true
named_of n named e = by_test (is_among n named) (λ t. t) (λ t. absurd (omega (arith, absent n named t)))

unnamed_of : (n : ℕ) (named : List ℕ) → occurs n named ≡ 0 → is_among n named ≡ false
unnamed_of n named e = by_test (is_among n named) (λ t. absurd (omega (arith, present n named t))) (λ t. t)

lowest_at : (left first c : ℕ) (named : List ℕ) → first ≤ c → c < first + left → is_among c named ≡ false
    → ((k : ℕ) → first ≤ k → k < c → is_among k named ≡ true) → lowest_free left first named ≡ Some c
unfolding lowest_free if_true◌then◌else◌
lowest_at zero first c named low high free taken = absurd (omega arith)
lowest_at (suc left) first c named low high free taken =
    by_test (ltb first c)
    (λ t.
    let before : first < c = ltb-true first c t in
    rw (taken first (omega arith) before) (lowest_at left (suc first) c named (omega arith) (omega arith) free (λ k h. taken k (omega arith))))
    (λ t.
    let same : c ≡ first = omega (arith, ltb-false first c t) in
    rw (ap (λ (k : ℕ). is_among k named) (sym same) ∙ free) (ap Some (sym same)))

lowest_none : (left first : ℕ) (named : List ℕ) → ((k : ℕ) → first ≤ k → k < first + left → is_among k named ≡ true)
    → lowest_free left first named ≡ None
unfolding lowest_free if_true◌then◌else◌
lowest_none zero first named taken = refl
lowest_none (suc left) first named taken =
    rw (taken first (omega arith) (omega arith)) (lowest_none left (suc first) named (λ k low high. taken k (omega arith) (omega arith)))

pub none_free : (words : List ℕ) (cells : ℕ) → ((n : ℕ) → n < cells → bit_at words n ≡ 1) → LowestFree words cells None
none_free words cells passed =
    record {
      free = tt;
      is =
          λ named shows.
          sym ((lowest_none cells 0 named (λ k low high. named_of k named (sym (shows.bits k) ∙ passed k (omega arith)))));
    }

pub lowest_found : (words : List ℕ) (cells cell : ℕ) → cell < cells → bit_at words cell ≡ 0
    → ((n : ℕ) → n < cell → bit_at words n ≡ 1) → LowestFree words cells (Some cell)
lowest_found words cells cell inside free passed =
    record {
      free = (inside, free);
      is =
          λ named shows.
          sym
          ((lowest_at cells 0 cell named (omega arith) (omega arith) (unnamed_of cell named (sym (shows.bits cell) ∙ free))
          (λ k low high. named_of k named (sym (shows.bits k) ∙ passed k high))));
    }

-- the lowest free cell is where the trailing ones of that word end
module _ (words : List ℕ) (at cells : ℕ) (first : FirstWord words at) (inside : at < set_size) (small : get_or words at 0 < 2 ^ 64) where
  abbrev ones : ℕ
  ones = trailing_ones (get_or words at 0) small

  pub ones_inside : ones < 64
  ones_inside = ones_end (get_or words at 0) small (first.not_full inside)

  ones_passed : (n : ℕ) → n < at * 64 + ones → bit_at words n ≡ 1
  ones_passed n below =
      by_test (ltb n (at * 64)) (λ e. first.passed n (ltb-true n (at * 64) e))
      (λ e.
      let from : at * 64 ≤ n = ltb-false n (at * 64) e in
      let most : ones < 64 = ones_inside in
      in_word words at n (omega arith) ∙ ones_before (get_or words at 0) small (n % 64) (omega arith))

  found_free : bit_at words (at * 64 + ones) ≡ 0
  found_free =
      let most : ones < 64 = ones_inside in
      let same : (at * 64 + ones) % 64 ≡ ones = omega arith in
      in_word words at (at * 64 + ones) (omega arith) ∙ ap (λ (k : ℕ). bit k (get_or words at 0)) same ∙ zero_at (get_or words at 0) small most

  pub found_in_word : at * 64 + ones < cells → LowestFree words cells (Some (at * 64 + ones))
  found_in_word below = lowest_found words cells (at * 64 + ones) below found_free ones_passed

  pub beyond_store : cells ≤ at * 64 + ones → LowestFree words cells None
  beyond_store beyond = none_free words cells (λ n h. ones_passed n (omega arith))

  pub found_if_inside : LowestFree words cells (then_some (ltb (at * 64 + ones) cells) (at * 64 + ones))
  found_if_inside =
      by_test (ltb (at * 64 + ones) cells) (λ e. rw e (found_in_word (ltb-true (at * 64 + ones) cells e)))
      (λ e. rw e (beyond_store (ltb-false (at * 64 + ones) cells e)))
