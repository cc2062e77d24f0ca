-- What is proved of the definitions in specs/Freeing.antt, with what the proofs need.
use Rattle.std.specs.Prelude.{◌≡◌, List, [], ◌∷◌, ◌++◌, ℕ, ◌+◌, ◌-◌, ◌%◌, ◌≤◌, ◌<◌, eqb, length, drop, get_or}
use Rattle.std.proofs.Common.{ap, sym, ◌∙◌, add-one, eqb-true}
use Rattle.std.proofs.Math.Path.{subst}
use native.Mathlib.Omega.{arith}
use Rattle.srt_group_model.specs.Tools.{each}
use Rattle.srt_group_model.specs.Cells.{is_among}
use Rattle.srt_group_model.specs.Sound.{occurs, history_cells}
use Rattle.srt_group_model.specs.Laws.Reason.{by_test}
use Rattle.srt_group_model.specs.Laws.CellsKept.{one_same, one_other, occurs_append, absent, present}
use Rattle.srt_group_model.specs.Laws.InHand.{history_append}
use Rattle.srt_group_model.specs.Backup.{max_history}
use Rattle.srt_group_model.specs.declared.Entry.{Entry}
use Rattle.srt_group_members.specs.Laws.Scan.{tab_next}
use Rattle.srt_group_tables.specs.declared.history.HistoryRing.{HistoryRing}
use Rattle.srt_group_tables.specs.Ring.{Arrays, word_cell, entry_at, entries_of}
use Rattle.cell_set.specs.Bits.{set_size, bit_at}
use Rattle.cell_set.specs.Sets.{Taken, Freed}
use Rattle.cell_set.specs.Laws.Sets.{most}
use Rattle.srt_group_carrier.specs.Freeing.{TrimFollows, SendFollows, FrontFreed}

-- ---- one after another

pub trim_same : (h : List Entry) (used : List ℕ) → length used ≡ set_size → TrimFollows h used h used
trim_same h used long = record { long = long; free = λ n e. e; shows = λ named s. s }

pub trim_then : {a b c : List Entry} {u v w : List ℕ} → TrimFollows a u b v → TrimFollows b v c w → TrimFollows a u c w
trim_then first second =
    record {
      long = second.long;
      free = λ n e. second.free n (first.free n e);
      shows = λ named s. second.shows named (first.shows named s);
    }

pub trim_then_send : {a b c : List Entry} {u v w : List ℕ} {cell : ℕ} → TrimFollows a u b v → SendFollows cell b v c w → SendFollows cell a u c w
trim_then_send {cell = cell} first second =
    record { long = second.long; shows = λ named e s. second.shows named (first.free cell e) (first.shows named s) }

pub send_then_trim : {a b c : List Entry} {u v w : List ℕ} {cell : ℕ} → SendFollows cell a u b v → TrimFollows b v c w → SendFollows cell a u c w
send_then_trim first second =
    record { long = second.long; shows = λ named e s. second.shows named (first.shows named e s) }

pub trim_sends : {a b : List Entry} {u v : List ℕ} (cell : ℕ) → TrimFollows a u b v → SendFollows cell a u b v
trim_sends cell trim = record { long = trim.long; shows = λ named e s. trim.shows named s }

-- the same entries, written otherwise
pub trim_as : {a b b' : List Entry} {u v : List ℕ} → b ≡ b' → TrimFollows a u b v → TrimFollows a u b' v
trim_as {a} {u = u} {v = v} same trim = subst (λ (h : List Entry). TrimFollows a u h v) same trim

-- ---- one entry leaves

module _ (e : Entry) (es : List Entry) (used used' : List ℕ) (freed : Freed (e.cell ∷ []) used used') where
  pub front_freed : TrimFollows (e ∷ es) used es used'
  unfolding each occurs
  front_freed =
      record {
        long = freed.long;
        free =
            λ n zero.
            by_test (is_among n (e.cell ∷ [])) (λ t. freed.gone n t) (λ t. freed.others n t ∙ zero);
        shows =
            λ named s.
            record {
              long = freed.long;
              bits =
                  λ n.
                  by_test (is_among n (e.cell ∷ []))
                  (λ t.
                  omega (
                    arith,
                    freed.gone n t,
                    s.bits n,
                    most used n,
                    present n (e.cell ∷ []) t,
                    occurs_append n named (history_cells es),
                    occurs_append n named (e.cell ∷ history_cells es),
                  ))
                  (λ t.
                  omega (
                    arith,
                    freed.others n t,
                    s.bits n,
                    absent n (e.cell ∷ []) t,
                    occurs_append n named (history_cells es),
                    occurs_append n named (e.cell ∷ history_cells es),
                  ));
            };
      }

-- ---- one joins

module _ (e : Entry) (es : List Entry) (used used' : List ℕ) (taken : Taken e.cell used used') where
  pub newest_taken : SendFollows e.cell es used (es ++ (e ∷ [])) used'
  unfolding each occurs
  newest_taken =
      record {
        long = taken.long;
        shows =
            λ named free s.
            record {
              long = taken.long;
              bits =
                  λ n.
                  by_test (eqb e.cell n)
                  (λ t.
                  subst (λ (k : ℕ). bit_at used' k ≡ occurs k (named ++ history_cells (es ++ (e ∷ [])))) (eqb-true e.cell n t)
                  (omega (
                    arith,
                    taken.here,
                    free,
                    s.bits e.cell,
                    one_same e.cell,
                    history_append e.cell es e,
                    occurs_append e.cell named (history_cells es),
                    occurs_append e.cell named (history_cells (es ++ (e ∷ []))),
                  )))
                  (λ t.
                  omega (
                    arith,
                    taken.others n t,
                    s.bits n,
                    one_other e.cell n t,
                    history_append n es e,
                    occurs_append n named (history_cells es),
                    occurs_append n named (history_cells (es ++ (e ∷ []))),
                  ));
            };
      }

-- ---- the loop

-- so many of the oldest have left
pub record Freeing (r : HistoryRing) (index : ℕ) (history used used' : List ℕ) : Type 0 where
  pub long : length used' ≡ set_size
  pub follows : (a : Arrays) → a.history ≡ history → TrimFollows (entries_of r a) used (drop index (entries_of r a)) used'

module _ (r : HistoryRing) (history used : List ℕ) where
  pub freeing_starts : length used ≡ set_size → Freeing r 0 history used used
  freeing_starts long = record { long = long; follows = λ a is. trim_same (entries_of r a) used long }

  pub freeing_goes_on : {cell : ℕ} (index : ℕ) (u v : List ℕ) → index < r.length → Freeing r index history used u
      → cell ≡ word_cell (get_or history ((r.start + index) % max_history) 0) → Freed (cell ∷ []) u v
      → Freeing r (index + 1) history used v
  freeing_goes_on {cell} index u v below so_far is freed =
      record {
        long = freed.long;
        follows =
            λ a same.
            let next : drop index (entries_of r a) ≡ entry_at r a index ∷ drop (index + 1) (entries_of r a) =
            tab_next index r.length (entry_at r a) below
            ∙ ap (λ (k : ℕ). entry_at r a index ∷ drop k (entries_of r a)) (sym (add-one index))
            in
            let here : cell ≡ (entry_at r a index).cell =
            is ∙ ap (λ (h : List ℕ). word_cell (get_or h ((r.start + index) % max_history) 0)) (sym same)
            in
            trim_then (so_far.follows a same)
            (subst (λ (h : List Entry). TrimFollows h u (drop (index + 1) (entries_of r a)) v) (sym next)
            (front_freed (entry_at r a index) (drop (index + 1) (entries_of r a)) u v
            (subst (λ (k : ℕ). Freed (k ∷ []) u v) here freed)));
      }

  pub all_freed : (index left : ℕ) (u : List ℕ) → index ≤ r.length - left → r.length ≤ index + left → Freeing r index history used u
      → FrontFreed r left history used u
  all_freed index left u most_gone ended so_far =
      let end : index ≡ r.length - left = omega arith in
      record {
        long = so_far.long;
        follows = λ a same. trim_as (ap (λ (k : ℕ). drop k (entries_of r a)) end) (so_far.follows a same);
      }
