-- What is proved of the definitions in specs/Row.antt, with what the proofs need.
use Rattle.std.specs.Prelude.{◌≡◌, ℕ, suc, ◌+◌, ◌*◌, ◌-◌, ◌≤◌, ◌<◌, length, set}
use Rattle.std.proofs.Math.Path.{ap, sym}
use Rattle.std.proofs.Common.{ap₂, ◌∙◌, mul-le-mul_right, take-append-drop, drop-drop, drop-set-lt}
use mathlib.Core.List.{List, ◌++◌}
use Rattle.std.proofs.Math.Decide.{dec_lt}
use native.Mathlib.Omega.{arith}
use Rattle.std.proofs.Math.ListN.{take, drop, length-drop}
use Rattle.std.proofs.Math.Seq.{drop_at, take_at, length-take-le, take-append-le, take-set-lt, take-set-le}
use Rattle.std.proofs.lemmas.List.{drop-append-le, drop-set-add}
use Rattle.word_rows.specs.Rows.{row_at}
use borrow.Rule.Slice.PartMut.{drop_put, same_len_mid, mid_len}
use Rattle.srt_connection_queue.specs.Row.{put_row}

next_row : (w j i : ℕ) → j < i → j * w + w ≤ i * w
next_row w j i h =
    let e : suc j * w ≤ i * w = mul-le-mul_right w h in
    let f : suc j * w ≡ j * w + w = omega arith in
    omega arith

module _ (w : ℕ) (l r : List ℕ) (i : ℕ) (fits : i * w + w ≤ length l) (long : length r ≡ w) where
  pub row_put : row_at w (put_row w l i r) i ≡ r
  unfolding row_at
  row_put =
      let k = length-take-le (i * w) l (omega arith) in
      rw (
        drop_at (take (i * w) l) (r ++ drop (i * w + w - i * w) (drop (i * w) l)) (i * w) k,
        take_at r (drop (i * w + w - i * w) (drop (i * w) l)) w long,
      )

  pub put_length : length (put_row w l i r) ≡ length l
  put_length =
      same_len_mid (i * w) (i * w + w - i * w) l r (long ∙ sym (mid_len (i * w) (i * w + w) l fits ∙ (omega arith)))

  -- the frame
  pub row_put_other : (j : ℕ) → (j ≡ i → ⊥) → row_at w (put_row w l i r) j ≡ row_at w l j
  unfolding row_at
  row_put_other j other = go (dec_lt j i)
    where
      before : j < i → take w (drop (j * w) (put_row w l i r)) ≡ take w (drop (j * w) l)
      before h =
          let n = next_row w j i h in
          let k = length-take-le (i * w) l (omega arith) in
          let t = take (i * w) l in
          let front : (x : List ℕ) → take w (drop (j * w) (t ++ x)) ≡ take w (drop (j * w) t) =
          λ x.
          ap (take w) (drop-append-le (j * w) t x (omega arith))
          ∙ take-append-le w (drop (j * w) t) x (omega (arith, length-drop (j * w) t))
          in
          front (r ++ drop (i * w + w - i * w) (drop (i * w) l))
          ∙ sym (front (drop (i * w) l)) ∙ ap (λ (x : List ℕ). take w (drop (j * w) x)) (take-append-drop (i * w) l)

      after : i < j → take w (drop (j * w) (put_row w l i r)) ≡ take w (drop (j * w) l)
      after h =
          let n = next_row w i j h in
          let e : j * w ≡ i * w + w + (j * w - (i * w + w)) = omega arith in
          let d : (x : List ℕ) → drop (j * w) x ≡ drop (j * w - (i * w + w)) (drop (i * w + w) x) =
          λ x. ap (λ (m : ℕ). drop m x) e ∙ sym (drop-drop (j * w - (i * w + w)) (i * w + w) x)
          in
          ap (take w)
          (d (put_row w l i r)
          ∙ ap (drop (j * w - (i * w + w))) (drop_put (i * w) (i * w + w) l r (omega arith) fits (omega arith)) ∙ sym (d l))

      go : Dec (j < i) → take w (drop (j * w) (put_row w l i r)) ≡ take w (drop (j * w) l)
      go (yes h) = before h
      go (no h) = after (omega arith)

-- the row between two parts of the list is lent, and comes back as r
pub put_between : (w : ℕ) (l : List ℕ) (i : ℕ) (before rest r behind : List ℕ) → before ≡ take (i * w) l → rest ≡ drop (i * w) l
    → behind ≡ drop w rest → before ++ (r ++ behind) ≡ put_row w l i r
put_between w l i before rest r behind front back last =
    let size : i * w + w - i * w ≡ w = omega arith in
    ap₂ (λ (x y : List ℕ). x ++ (r ++ y)) front (last ∙ ap (drop w) back)
    ∙ sym (ap (λ (n : ℕ). take (i * w) l ++ (r ++ drop n (drop (i * w) l))) size)

-- ---- one word of row i was set: the row has it, and every other row is as it was

module _ (w : ℕ) (l : List ℕ) (i k v : ℕ) (within : k < w) where
  pub word_set : row_at w (set l (i * w + k) v) i ≡ set (row_at w l i) k v
  unfolding row_at
  word_set = ap (take w) (drop-set-add (i * w) l k v) ∙ take-set-lt w (drop (i * w) l) k v within

  pub word_set_other : (j : ℕ) → (j ≡ i → ⊥) → row_at w (set l (i * w + k) v) j ≡ row_at w l j
  unfolding row_at
  word_set_other j other = go (dec_lt j i)
    where
      go : Dec (j < i) → take w (drop (j * w) (set l (i * w + k) v)) ≡ take w (drop (j * w) l)
      go (yes h) =
          let n = next_row w j i h in
          let e : i * w + k ≡ j * w + (i * w + k - j * w) = omega arith in
          ap (λ (x : ℕ). take w (drop (j * w) (set l x v))) e
          ∙ ap (take w) (drop-set-add (j * w) l (i * w + k - j * w) v)
          ∙ take-set-le w (drop (j * w) l) (i * w + k - j * w) v (omega arith)
      go (no h) =
          let n = next_row w i j (omega arith) in
          ap (take w) (drop-set-lt (j * w) l (i * w + k) v (omega arith))
