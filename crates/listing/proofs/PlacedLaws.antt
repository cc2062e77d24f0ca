-- Laws of a text placed in a buffer: its length, a text placed over the end of another, and a text that grows by one.
use Prim.Native.Nat.{ℕ, suc, ◌+◌, ◌-◌, ◌<◌, ◌≤◌}
use native.Mathlib.Omega.{arith}
use native.Mathlib.Nat.{zero-add, add-zero}
use native.Mathlib.Numerals.{add-one}
use mathlib.Core.Bool.{true, false}
use lib.Dec.{leb}
use borrow.Author.Tests.{le-leb, lt-leb}
use mathlib.Core.Path.{◌≡◌, refl, ap, sym, subst, ◌∙◌}
use mathlib.Core.List.{List, [], ◌∷◌, ◌++◌, append_assoc}
use lib.ListN.{length, take, drop, get_or, set, replicate, length-append, length-drop, length-set, length-replicate, replicate-append-replicate, take-append-drop, drop_of_length-le}
use lib.Seq.{append_snoc, drop-cons, drop-set-lt, get_or-set_same, take-set-le, length-take-le, take-suc, take_at, drop-length, drop-append-add, drop-drop, set_split, take_all}
use Rattle.std.proofs.lemmas.List.{append-nil}
use Rattle.std.specs.Prelude.{Some, None}
use Rattle.listing.specs.Placed.{placed, begun, Placed, PlacedOrRefused}

drop_longer : (t rest : List ℕ) (n : ℕ) → length t ≤ n → drop n (t ++ rest) ≡ drop (n - length t) rest
drop_longer t rest n h =
    let e : length t + (n - length t) ≡ n = omega arith in
    subst (λ (k : ℕ). drop k (t ++ rest) ≡ drop (n - length t) rest) e (drop-append-add t rest (n - length t))

-- a text placed over the end of another, and at least as far
pub placed_over :
    (buffer : List ℕ) (at : ℕ) (s t u : List ℕ) → at ≤ length buffer → length t ≤ length u
    → placed (placed buffer at (s ++ t)) (at + length s) u ≡ placed buffer at (s ++ u)
unfolding placed
placed_over buffer at s t u h g =
    let front = take at buffer in
    let rest = drop (at + length (s ++ t)) buffer in
    let e : length (front ++ s) ≡ at + length s = length-append front s ∙ ap (λ (n : ℕ). n + length s) (length-take-le at buffer h) in
    let whole : front ++ ((s ++ t) ++ rest) ≡ (front ++ s) ++ (t ++ rest) = simp append_assoc in
    let before : take (at + length s) (front ++ ((s ++ t) ++ rest)) ≡ front ++ s = rw whole (take_at (front ++ s) (t ++ rest) (at + length s) e) in
    let behind : drop (at + length s + length u) (front ++ ((s ++ t) ++ rest)) ≡ drop (length u) (t ++ rest) =
    rw (whole, ← e) (drop-append-add (front ++ s) (t ++ rest) (length u)) in
    let place : at + length (s ++ t) + (length u - length t) ≡ at + length (s ++ u) = simp length-append (omega arith) in
    let end : drop (at + length s + length u) (front ++ ((s ++ t) ++ rest)) ≡ drop (at + length (s ++ u)) buffer =
    behind ∙ (drop_longer t rest (length u) g ∙ (drop-drop (length u - length t) (at + length (s ++ t)) buffer ∙ ap (λ (n : ℕ). drop n buffer) place)) in
    rw (before, end) (simp append_assoc)

-- a store is a text of one byte
pub set_placed : (buffer : List ℕ) (at byte : ℕ) → at < length buffer → set buffer at byte ≡ placed buffer at (byte ∷ [])
unfolding placed
set_placed buffer at byte h = set_split buffer at byte h ∙ rw (← add-one at)

-- a text's last byte stored first, and the rest of the text placed before it
pub placed_last_byte_first :
    (buffer : List ℕ) (end : ℕ) (text : List ℕ) (byte : ℕ) → length text < end → end ≤ length buffer
    → placed (set buffer (end - 1) byte) (end - 1 - length text) text
    ≡ placed buffer (end - length (text ++ (byte ∷ []))) (text ++ (byte ∷ []))
unfolding placed
placed_last_byte_first buffer end text byte h g =
    let start = end - 1 - length text in
    let long = length-append text (byte ∷ []) in
    let same : end - length (text ++ (byte ∷ [])) ≡ start = omega arith in
    let last : start + length text ≡ end - 1 = omega arith in
    let next : start + length (text ++ (byte ∷ [])) ≡ suc (end - 1) = omega arith in
    let front : take start (set buffer (end - 1) byte) ≡ take start buffer = take-set-le start buffer (end - 1) byte (omega arith) in
    let set_long : end - 1 < length (set buffer (end - 1) byte) = simp length-set (omega arith) in
    let back : drop (end - 1) (set buffer (end - 1) byte) ≡ byte ∷ drop (suc (end - 1)) buffer =
    rw (drop-cons (set buffer (end - 1) byte) (end - 1) 0 set_long, get_or-set_same buffer (end - 1) byte 0 (omega arith), drop-set-lt (suc (end - 1)) buffer (end - 1) byte (omega arith)) in
    rw (same, next, last, front, back) (ap (λ (rest : List ℕ). take start buffer ++ rest) (sym (append_snoc text byte (drop (suc (end - 1)) buffer))))

placed_is : (buffer : List ℕ) (at : ℕ) (text : List ℕ) → take at buffer ++ (text ++ drop (at + length text) buffer) ≡ placed buffer at text
unfolding placed
placed_is buffer at text = refl

-- a text at the start
pub placed_begins : (buffer text : List ℕ) → placed buffer 0 text ≡ begun buffer text
unfolding placed
placed_begins buffer text = rw (zero-add (length text))

-- a text behind the one at the start
begun_more : (buffer s u : List ℕ) → placed (begun buffer s) (length s) u ≡ begun buffer (s ++ u)
unfolding placed
begun_more buffer s u =
    let rest = drop (length s) buffer in
    rw (
      take_at s rest (length s) refl,
      drop-append-add s rest (length u),
      drop-drop (length u) (length s) buffer,
      length-append s u,
      append_assoc s u (drop (length s + length u) buffer),
    )

-- a text put at the start of what is behind a place
placed_behind :
    (out : List ℕ) (at : ℕ) (text part : List ℕ) → at ≤ length out → part ≡ begun (take (length out - at) (drop at out)) text
    → take at out ++ (part ++ drop (length out - at) (drop at out)) ≡ placed out at text
placed_behind out at text part inside put =
    let left = length-drop at out in
    rw (
      put,
      take_all (length out - at) (drop at out) (omega arith),
      drop_of_length-le (drop at out) {i = length out - at} (omega arith),
      append-nil (text ++ drop (length text) (drop at out)),
      drop-drop (length text) at out,
    ) (placed_is out at text)

-- a text at a place, where it has room, and where it has none
module _ (out : List ℕ) (at : ℕ) (text : List ℕ) where
  pub text_placed :
      (part : List ℕ) (end : ℕ) → at + length text ≤ length out → Placed (take (length out - at) (drop at out)) text part end
      → PlacedOrRefused out at text (take at out ++ (part ++ drop (length out - at) (drop at out))) (Some (at + end))
  text_placed part end room put =
      let here : leb (at + length text) (length out) ≡ true = le-leb _ _ room in
      record {
        bytes = rw here (placed_behind out at text part (omega arith) put.bytes);
        end_of = rw (here, put.end_of) refl;
      }

  pub text_refused : length out < at + length text → PlacedOrRefused out at text out None
  text_refused beyond =
      let none : leb (at + length text) (length out) ≡ false = lt-leb _ _ beyond in record { bytes = rw none refl; end_of = rw none refl }

module _ (buffer out : List ℕ) (end : ℕ) (s : List ℕ) (inside : end ≤ length out) (begins : out ≡ begun buffer s) (e : end ≡ length s) where
  -- the same where it is put at the start of what is left
  pub begun_further :
      (u part : List ℕ) → part ≡ begun (take (length out - end) (drop end out)) u
      → take end out ++ (part ++ drop (length out - end) (drop end out)) ≡ begun buffer (s ++ u)
  begun_further u part put =
      placed_behind out end u part inside put
      ∙ (ap (λ (n : ℕ). placed out n u) e ∙ ap (λ (t : List ℕ). placed t (length s) u) begins ∙ begun_more buffer s u)

  -- a byte stored behind the text
  pub begun_byte_more : (byte : ℕ) → end < length out → set out end byte ≡ begun buffer (s ++ (byte ∷ []))
  begun_byte_more byte h =
      set_placed out end byte h
      ∙ (ap (λ (n : ℕ). placed out n (byte ∷ [])) e ∙ ap (λ (t : List ℕ). placed t (length s) (byte ∷ [])) begins ∙ begun_more buffer s (byte ∷ []))

-- ---- laws of the definitions that no proof cites today

pub length_placed : (buffer : List ℕ) (at : ℕ) (text : List ℕ) → at + length text ≤ length buffer → length (placed buffer at text) ≡ length buffer
unfolding placed
length_placed buffer at text h =
    let inside : at ≤ length buffer = omega arith in
    simp (length-append, length-drop, length-take-le at buffer inside) (omega arith)

pub placed_nothing : (buffer : List ℕ) (at : ℕ) → placed buffer at [] ≡ buffer
unfolding placed
placed_nothing buffer at = rw (add-zero at) (take-append-drop at buffer)

-- up to the end of the text stand the bytes before it, and the text
pub upto_placed : (buffer : List ℕ) (at : ℕ) (text : List ℕ) → at ≤ length buffer → take (at + length text) (placed buffer at text) ≡ take at buffer ++ text
unfolding placed
upto_placed buffer at text h =
    let e : length (take at buffer ++ text) ≡ at + length text = length-append (take at buffer) text ∙ ap (λ (n : ℕ). n + length text) (length-take-le at buffer h) in
    rw (← append_assoc (take at buffer) text (drop (at + length text) buffer)) (take_at (take at buffer ++ text) (drop (at + length text) buffer) (at + length text) e)

-- a text placed behind another
pub placed_behind_another : (buffer : List ℕ) (at : ℕ) (s u : List ℕ) → at ≤ length buffer → placed (placed buffer at s) (at + length s) u ≡ placed buffer at (s ++ u)
placed_behind_another buffer at s u h =
    subst (λ (t : List ℕ). placed (placed buffer at t) (at + length s) u ≡ placed buffer at (s ++ u)) (append-nil s)
    (placed_over buffer at s [] u h (omega arith))

-- a byte stored behind a text that is placed
pub placed_byte_more :
    (buffer : List ℕ) (at : ℕ) (text : List ℕ) (byte : ℕ) → at + length text < length buffer
    → set (placed buffer at text) (at + length text) byte ≡ placed buffer at (text ++ (byte ∷ []))
placed_byte_more buffer at text byte h =
    let long : length (placed buffer at text) ≡ length buffer = length_placed buffer at text (omega arith) in
    set_placed (placed buffer at text) (at + length text) byte (omega arith) ∙ placed_behind_another buffer at text (byte ∷ []) (omega arith)

-- one more of equal bytes behind those that are placed
pub placed_one_more :
    (buffer : List ℕ) (at count byte : ℕ) → at + count < length buffer
    → set (placed buffer at (replicate count byte)) (at + count) byte ≡ placed buffer at (replicate (count + 1) byte)
placed_one_more buffer at count byte h =
    let long = length-replicate count byte in
    let here : at + length (replicate count byte) ≡ at + count = omega arith in
    let more : replicate count byte ++ (byte ∷ []) ≡ replicate (count + 1) byte = replicate-append-replicate count 1 byte in
    rw (← here, ← more) (placed_byte_more buffer at (replicate count byte) byte (omega arith))

-- one more of some bytes behind those that are placed
pub placed_next :
    (buffer : List ℕ) (at : ℕ) (bytes : List ℕ) (index : ℕ) → index < length bytes → at + index < length buffer
    → set (placed buffer at (take index bytes)) (at + index) (get_or bytes index 0) ≡ placed buffer at (take (index + 1) bytes)
placed_next buffer at bytes index g h =
    let long : length (take index bytes) ≡ index = length-take-le index bytes (omega arith) in
    let here : at + length (take index bytes) ≡ at + index = omega arith in
    let more : take index bytes ++ (get_or bytes index 0 ∷ []) ≡ take (index + 1) bytes = rw add-one (sym (take-suc bytes index 0 g)) in
    rw (← here, ← more) (placed_byte_more buffer at (take index bytes) (get_or bytes index 0) (omega arith))

-- a text as long as the buffer, placed at its start, is the whole
pub placed_whole : (buffer text : List ℕ) → length text ≡ length buffer → placed buffer 0 text ≡ text
unfolding placed
placed_whole buffer text e =
    let end : 0 + length text ≡ length buffer = omega arith in
    rw (end, drop-length buffer) (append-nil text)
