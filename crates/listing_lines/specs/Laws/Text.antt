-- What is proved of the definitions in specs/Text.antt, with what the proofs need: the text of lines one behind the other, and that a line has
-- room.
use Rattle.std.specs.Prelude.{ℕ, ◌+◌, ◌<◌, ◌≤◌, ◌^◌, true, ◌≡◌, refl, List, [], ◌∷◌, ◌++◌, leb, length, take, get_or, Option, Some, None}
use Rattle.std.proofs.lemmas.List.{take_more}
use Rattle.std.specs.Option.{unwrap_or}
use Rattle.std.proofs.Common.{arith, ap, sym, ◌∙◌, append_assoc, append-nil, le-leb}
use Rattle.listing.specs.Text.{line_text}
use Rattle.listing.specs.Placed.{PlacedOrRefused}
use Rattle.listing.proofs.PlacedLaws.{placed_begins}
use Rattle.listing.proofs.TextLaws.{line_text_at_most}
use native.Mathlib.Nat.{zero-add}
use Rattle.listing_lines.specs.Text.{texts, LineWritten}

pub texts_append : (a b : List (List ℕ)) → texts (a ++ b) ≡ texts a ++ texts b
unfolding texts
texts_append [] b = refl
texts_append (line ∷ a) b = rw (texts_append a b) (sym (append_assoc (line_text 11 line) (texts a) (texts b)))

texts_one : (line : List ℕ) → texts (line ∷ []) ≡ line_text 11 line
unfolding texts
texts_one line = append-nil (line_text 11 line)

-- the text of the rows up to an index, and the row there
pub texts_next :
    (rows : List (List ℕ)) (index : ℕ) → index < length rows
    → texts (take (index + 1) rows) ≡ texts (take index rows) ++ line_text 11 (get_or rows index [])
texts_next rows index inside =
    ap texts (take_more rows index [] inside) ∙ texts_append (take index rows) (get_or rows index [] ∷ [])
    ∙ ap (λ (text : List ℕ). texts (take index rows) ++ text) (texts_one (get_or rows index []))

-- a line of 6 numbers is at most 121 bytes long
six_at_most : (row : List ℕ) → length row ≡ 6 → ((index : ℕ) → get_or row index 0 < 2 ^ 64) → length (line_text 11 row) ≤ 121
six_at_most row six fits = rw six at (line_text_at_most 11 20 row (omega arith) (omega arith) fits)

-- so it is written where 121 bytes are free
pub row_written :
    (row out after : List ℕ) (answer : Option ℕ) → length row ≡ 6 → ((index : ℕ) → get_or row index 0 < 2 ^ 64) → 121 ≤ length out
    → PlacedOrRefused out 0 (line_text 11 row) after answer → LineWritten row out after (unwrap_or answer 0)
row_written row out after answer six fits free put =
    let few = six_at_most row six fits in
    let room : leb (0 + length (line_text 11 row)) (length out) ≡ true = le-leb _ _ (omega arith) in
    let bytes = rw room at put.bytes in
    let end = rw room at put.end_of in
    rw end (record { most = omega (arith, few); text = record { bytes = bytes ∙ placed_begins out (line_text 11 row); end_of = zero-add _ } })

pub row_not_refused :
    (row out after : List ℕ) (at : ℕ) (answer : Option ℕ) → length row ≡ 6 → ((index : ℕ) → get_or row index 0 < 2 ^ 64) → at + 121 ≤ length out
    → PlacedOrRefused out at (line_text 11 row) after answer → answer ≡ None → ⊥
row_not_refused row out after at answer six fits free put e =
    let few = six_at_most row six fits in
    let room : leb (at + length (line_text 11 row)) (length out) ≡ true = le-leb _ _ (omega arith) in
    let never : None ≡ Some (at + length (line_text 11 row)) = sym e ∙ (put.end_of ∙ rw room) in
    cc never
