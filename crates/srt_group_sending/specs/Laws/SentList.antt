-- What is proved of the definitions in specs/SentList.antt, with what the proofs need.
use Rattle.std.specs.Prelude.{◌≡◌, refl, ℕ, ◌+◌, ◌*◌, ◌≤◌}
use Rattle.std.proofs.Math.Path.{ap}
use Rattle.std.proofs.Common.{sym, ◌∙◌, length-append, length-take-le, take_at, drop-drop}
use mathlib.Core.List.{List, [], ◌∷◌, ◌++◌, append_assoc, append-nil}
use native.Mathlib.Omega.{arith}
use Rattle.std.proofs.Math.ListN.{length, take, drop, take-append-drop}
use Rattle.std.proofs.Math.Seq.{drop-append-add}
use Rattle.word_rows.specs.Laws.Rows.{table_push}
use Rattle.srt_protocol.specs.Cells.{overwritten}
use Rattle.srt_protocol.specs.Laws.CellLaws.{overwritten_length}
use Rattle.srt_group_model.specs.Sending.{sent_row_size, Sent}
use Rattle.srt_group_model.specs.Lent.{list_rows}
use Rattle.srt_group_sending.specs.SentList.{sent_words, sent_of, sent_at, sent_rows, Wrote}

-- ---- words that are written one part after the other

module _ {A : Type 0} where
  pub overwritten_by_nothing : (at : ℕ) (whole : List A) → overwritten at [] whole ≡ whole
  unfolding overwritten
  overwritten_by_nothing at whole =
      let end : at + 0 ≡ at = omega arith in
      ap (λ (n : ℕ). take at whole ++ drop n whole) end ∙ take-append-drop at whole

  module _ (at : ℕ) (p q whole : List A) (fits : at + length p ≤ length whole) where
    abbrev front : List A
    front = take at whole ++ p

    front_length : length front ≡ at + length p
    front_length = length-append (take at whole) p ∙ ap (λ (n : ℕ). n + length p) (length-take-le at whole (omega arith))

    behind : drop (at + length p + length q) (front ++ drop (at + length p) whole) ≡ drop (at + length (p ++ q)) whole
    behind =
        let end : at + length p + length q ≡ at + length (p ++ q) = omega (arith, length-append p q) in
        ap (λ (n : ℕ). drop (n + length q) (front ++ drop (at + length p) whole)) (sym front_length)
        ∙ drop-append-add front (drop (at + length p) whole) (length q)
        ∙ drop-drop (length q) (at + length p) whole
        ∙ ap (λ (n : ℕ). drop n whole) end

    pub overwritten_behind : overwritten (at + length p) q (overwritten at p whole) ≡ overwritten at (p ++ q) whole
    unfolding overwritten
    overwritten_behind =
        ap (overwritten (at + length p) q) (sym (append_assoc (take at whole) p (drop (at + length p) whole)))
        ∙ ap (λ (l : List A). l ++ (q ++ drop (at + length p + length q) (front ++ drop (at + length p) whole)))
        (take_at front (drop (at + length p) whole) (at + length p) front_length)
        ∙ ap (λ (l : List A). front ++ (q ++ l)) behind
        ∙ append_assoc (take at whole) p (q ++ drop (at + length (p ++ q)) whole)
        ∙ ap (λ (l : List A). take at whole ++ l) (sym (append_assoc p q (drop (at + length (p ++ q)) whole)))

-- ---- rows

pub list_rows_length : (xs : List Sent) → length (list_rows xs) ≡ length xs * sent_row_size
unfolding list_rows
list_rows_length [] = refl
list_rows_length (x ∷ xs) = omega (arith, list_rows_length xs)

list_rows_append : (xs ys : List Sent) → list_rows (xs ++ ys) ≡ list_rows xs ++ list_rows ys
unfolding list_rows
list_rows_append [] ys = refl
list_rows_append (x ∷ xs) ys =
    ap (λ (l : List ℕ). x.leg ∷ x.sequence ∷ x.cell ∷ x.source ∷ x.time ∷ l) (list_rows_append xs ys)

pub one_row : (x : Sent) → list_rows (x ∷ []) ≡ sent_words x
unfolding list_rows sent_words
one_row x = refl

pub five_words : (x : Sent) → length (sent_words x) ≡ sent_row_size
unfolding sent_words
five_words x = refl

sent_back : (x : Sent) → sent_of (sent_words x) ≡ x
unfolding sent_of sent_words
sent_back x = refl

-- ---- what was noted

pub wrote_nothing : (k : ℕ) (before : List ℕ) → Wrote k [] before k before
unfolding list_rows
wrote_nothing k before = record { count = omega arith; is = sym (overwritten_by_nothing (k * sent_row_size) before) }

pub wrote_one : (k : ℕ) (x : Sent) (before after : List ℕ) → after ≡ overwritten (k * sent_row_size) (sent_words x) before
    → Wrote k (x ∷ []) before (k + 1) after
wrote_one k x before after e =
    record { count = omega arith; is = e ∙ ap (λ (l : List ℕ). overwritten (k * sent_row_size) l before) (sym (one_row x)) }

module _ {k n : ℕ} {xs : List Sent} {a b : List ℕ} (w : Wrote k xs a n b) (fits : n * sent_row_size ≤ length a) where
  room : k * sent_row_size + length (list_rows xs) ≤ length a
  room = omega (arith, list_rows_length xs, w.count)

  pub wrote_length : length b ≡ length a
  wrote_length = ap length w.is ∙ overwritten_length (k * sent_row_size) (list_rows xs) a room

  pub wrote_then : {m : ℕ} {ys : List Sent} {c : List ℕ} → Wrote n ys b m c → Wrote k (xs ++ ys) a m c
  wrote_then {m} {ys} {c} v =
      let start : n * sent_row_size ≡ k * sent_row_size + length (list_rows xs) = omega (arith, list_rows_length xs, w.count) in
      record {
        count = omega (arith, w.count, v.count, length-append xs ys);
        is =
            v.is ∙ ap (λ (l : List ℕ). overwritten (n * sent_row_size) (list_rows ys) l) w.is
            ∙ ap (λ (at : ℕ). overwritten at (list_rows ys) (overwritten (k * sent_row_size) (list_rows xs) a))
            start
            ∙ overwritten_behind (k * sent_row_size) (list_rows xs) (list_rows ys) a room
            ∙ ap (λ (l : List ℕ). overwritten (k * sent_row_size) l a) (sym (list_rows_append xs ys));
      }

-- the rows shown are those from before, and the sends behind them
row_pushed : (k : ℕ) (x : Sent) (a : List ℕ) → k * sent_row_size + sent_row_size ≤ length a
    → sent_rows (k + 1) (overwritten (k * sent_row_size) (sent_words x) a) ≡ sent_rows k a ++ (x ∷ [])
unfolding sent_at
row_pushed k x a fits =
    table_push sent_row_size sent_of a (sent_words x) k fits (five_words x)
    ∙ ap (λ (y : Sent). sent_rows k a ++ (y ∷ [])) (sent_back x)

first_of_rows : (x : Sent) (xs : List Sent) → list_rows (x ∷ xs) ≡ sent_words x ++ list_rows xs
unfolding list_rows sent_words
first_of_rows x xs = refl

first_written : (k n : ℕ) (x : Sent) (xs : List Sent) (a b : List ℕ) → Wrote k (x ∷ xs) a n b → n * sent_row_size ≤ length a
    → Wrote (k + 1) xs (overwritten (k * sent_row_size) (sent_words x) a) n b
first_written k n x xs a b w fits =
    let start : k * sent_row_size + length (sent_words x) ≡ (k + 1) * sent_row_size = omega (arith, five_words x) in
    record {
      count = omega (arith, w.count);
      is =
          w.is ∙ ap (λ (l : List ℕ). overwritten (k * sent_row_size) l a) (first_of_rows x xs)
          ∙ sym (overwritten_behind (k * sent_row_size) (sent_words x) (list_rows xs) a (omega (arith, five_words x, w.count)))
          ∙ ap (λ (at : ℕ). overwritten at (list_rows xs) (overwritten (k * sent_row_size) (sent_words x) a)) start;
    }

pub wrote_rows : (k n : ℕ) (xs : List Sent) (a b : List ℕ) → Wrote k xs a n b → n * sent_row_size ≤ length a
    → sent_rows n b ≡ sent_rows k a ++ xs
wrote_rows k n [] a b w fits =
    let same : n ≡ k = omega (arith, w.count) in
    ap (λ (j : ℕ). sent_rows j b) same
    ∙ ap (sent_rows k) (w.is ∙ sym (wrote_nothing k a).is)
    ∙ sym (append-nil (sent_rows k a))
wrote_rows k n (x ∷ xs) a b w fits =
    wrote_rows (k + 1) n xs (overwritten (k * sent_row_size) (sent_words x) a) b (first_written k n x xs a b w fits)
    (omega (arith, overwritten_length (k * sent_row_size) (sent_words x) a (omega (arith, five_words x, w.count))))
    ∙ ap (λ (l : List Sent). l ++ xs) (row_pushed k x a (omega (arith, w.count)))
    ∙ append_assoc (sent_rows k a) (x ∷ []) xs
