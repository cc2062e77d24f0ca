-- Laws of reading a line, column by column from the left, and what the answers of the functions that read them say.
use Prim.Native.Nat.{ℕ, suc, ◌+◌, ◌-◌, ◌*◌, ◌<◌, ◌≤◌}
use native.Mathlib.Omega.{arith}
use native.Mathlib.Nat.{zero-mul, suc-mul}
use native.Mathlib.Numerals.{add-one}
use mathlib.Core.Bool.{Bool, true, false, and-false, true≢false}
use mathlib.Core.Path.{◌≡◌, refl, sym, ◌∙◌}
use mathlib.Core.List.{List, [], ◌∷◌, ◌++◌}
use lib.Dec.{leb, eqb}
use lib.ListN.{length, take, drop, set, replicate, length-drop}
use lib.Seq.{take-suc-set, append_snoc}
use borrow.Author.Tests.{le-leb, lt-leb, eq-eqb, ne_eqb, leb-true, eqb-true, eqb-false}
use Rattle.listing.proofs.Cases.{by_cases}
use Rattle.listing.specs.Column.{column}
use Rattle.listing.specs.Line.{cut, all_numbers, values, begins_with_columns, well_formed, line_numbers, line_answer, LineRead, ColumnsRead}
use Rattle.std.specs.Prelude.{Option, Some, None}

-- a test that holds where another does, and the other way round, has the same answer
same_test : (a b : Bool) → (a ≡ true → b ≡ true) → (b ≡ true → a ≡ true) → a ≡ b
same_test true b f g = sym (f refl)
same_test false true f g = g refl
same_test false false f g = refl

begins_with_none : (width : ℕ) (bytes : List ℕ) → begins_with_columns 0 width bytes ≡ true
unfolding begins_with_columns all_numbers cut
begins_with_none width bytes = rw (zero-mul width, le-leb 0 (length bytes) (omega arith))

begins_too_short : (count width : ℕ) (bytes : List ℕ) → length bytes < width → begins_with_columns (suc count) width bytes ≡ false
unfolding begins_with_columns
begins_too_short count width bytes h =
    let short : length bytes < suc count * width = omega (arith, suc-mul count width) in
    rw (lt-leb _ _ short)

begins_malformed : (count width : ℕ) (bytes : List ℕ) → column (take width bytes) ≡ None → begins_with_columns (suc count) width bytes ≡ false
unfolding begins_with_columns all_numbers cut
begins_malformed count width bytes e = rw e (and-false (leb (suc count * width) (length bytes)))

begins_with_number :
    (count width value : ℕ) (bytes : List ℕ) → width ≤ length bytes → column (take width bytes) ≡ Some value
    → begins_with_columns (suc count) width bytes ≡ begins_with_columns count width (drop width bytes)
unfolding begins_with_columns all_numbers cut
begins_with_number count width value bytes h e =
    let more = suc-mul count width in
    let left = length-drop width bytes in
    let room : leb (suc count * width) (length bytes) ≡ leb (count * width) (length (drop width bytes)) =
    same_test (leb (suc count * width) (length bytes)) (leb (count * width) (length (drop width bytes)))
    (λ t. let fits = leb-true (suc count * width) (length bytes) t in let here : count * width ≤ length (drop width bytes) = omega arith in le-leb _ _ here)
    (λ t. let fits = leb-true (count * width) (length (drop width bytes)) t in let here : suc count * width ≤ length bytes = omega arith in le-leb _ _ here) in
    rw (e, room)

values_with_number :
    (count width value : ℕ) (bytes : List ℕ) → column (take width bytes) ≡ Some value
    → values (cut (suc count) width bytes) ≡ value ∷ values (cut count width (drop width bytes))
unfolding values cut
values_with_number count width value bytes e = rw e

-- the same, for the column of an index and what is left from it on: what is left of the columns decides for the whole
module _ (count width : ℕ) (rest : List ℕ) (index : ℕ) (more : index < count) where
  pub columns_too_short : length rest < width → begins_with_columns (count - index) width rest ≡ false
  columns_too_short h =
      let one : count - index ≡ suc (count - (index + 1)) = omega arith in
      rw one (begins_too_short (count - (index + 1)) width rest h)

  pub columns_malformed : column (take width rest) ≡ None → begins_with_columns (count - index) width rest ≡ false
  columns_malformed e =
      let one : count - index ≡ suc (count - (index + 1)) = omega arith in
      rw one (begins_malformed (count - (index + 1)) width rest e)

  pub columns_more :
      (value : ℕ) → width ≤ length rest → column (take width rest) ≡ Some value
      → begins_with_columns (count - index) width rest ≡ begins_with_columns (count - (index + 1)) width (drop width rest)
  columns_more value h e =
      let one : count - index ≡ suc (count - (index + 1)) = omega arith in
      rw one (begins_with_number (count - (index + 1)) width value rest h e)

  pub values_more :
      (value : ℕ) (numbers : List ℕ) → index < length numbers → column (take width rest) ≡ Some value
      → take index numbers ++ values (cut (count - index) width rest)
      ≡ take (index + 1) (set numbers index value) ++ values (cut (count - (index + 1)) width (drop width rest))
  values_more value numbers h e =
      let one : count - index ≡ suc (count - (index + 1)) = omega arith in
      rw (one, values_with_number (count - (index + 1)) width value rest e, add-one index, take-suc-set numbers index value h)
      (sym (append_snoc (take index numbers) value (values (cut (count - suc index) width (drop width rest)))))

-- a column more is passed
pub column_passed : (index width : ℕ) → (index + 1) * width ≡ index * width + width
column_passed index width = rw (add-one index) (suc-mul index width)

pub columns_done : (count width : ℕ) (rest : List ℕ) (index : ℕ) → count ≤ index → begins_with_columns (count - index) width rest ≡ true
columns_done count width rest index h =
    let none : count - index ≡ 0 = omega arith in
    rw none (begins_with_none width rest)

pub values_done : (count width : ℕ) (rest : List ℕ) (index : ℕ) → count ≤ index → values (cut (count - index) width rest) ≡ []
unfolding values cut
values_done count width rest index h = let none : count - index ≡ 0 = omega arith in rw none

-- what the answer of `read_columns` says
module _ (width : ℕ) (bytes numbers after : List ℕ) where
  pub no_columns : begins_with_columns (length numbers) width bytes ≡ false → ColumnsRead width bytes numbers after None
  no_columns e = record { end = rw e; put = λ t. absurd (true≢false (sym t ∙ e)) }

  pub columns_end :
      (answer : Option ℕ) (end : ℕ) → ColumnsRead width bytes numbers after answer → answer ≡ Some end
      → (begins_with_columns (length numbers) width bytes ≡ true) × (end ≡ length numbers * width)
  columns_end answer end r e = by_cases (begins_with_columns (length numbers) width bytes)
      (λ t. let same : Some end ≡ Some (length numbers * width) = sym e ∙ (r.end ∙ rw t) in (t, cc))
      (λ f. let never : Some end ≡ None = sym e ∙ (r.end ∙ rw f) in let z : ◌≡◌ {A = ℕ} 0 1 = cc in absurd (omega arith))

  pub columns_refused :
      (answer : Option ℕ) → ColumnsRead width bytes numbers after answer → answer ≡ None
      → begins_with_columns (length numbers) width bytes ≡ false
  columns_refused answer r e = by_cases (begins_with_columns (length numbers) width bytes)
      (λ t. let never : Some (length numbers * width) ≡ None = sym (r.end ∙ rw t) ∙ e in let z : ◌≡◌ {A = ℕ} 0 1 = cc in absurd (omega arith))
      (λ f. f)

-- a line of its columns' length is well-formed where it begins with its columns
pub well_formed_begins : (count width : ℕ) (bytes : List ℕ) → length bytes ≡ count * width → well_formed count width bytes ≡ begins_with_columns count width bytes
unfolding well_formed begins_with_columns
well_formed_begins count width bytes e =
    let here : count * width ≤ length bytes = omega arith in
    rw (eq-eqb _ _ e, le-leb _ _ here)

pub well_formed_length : (count width : ℕ) (bytes : List ℕ) → (length bytes ≡ count * width → ⊥) → well_formed count width bytes ≡ false
unfolding well_formed
well_formed_length count width bytes e = rw (ne_eqb _ _ e)

pub not_well_formed : (count width : ℕ) (bytes : List ℕ) → begins_with_columns count width bytes ≡ false → well_formed count width bytes ≡ false
not_well_formed count width bytes h = by_cases (eqb (length bytes) (count * width))
    (λ t. well_formed_begins count width bytes (eqb-true (length bytes) (count * width) t) ∙ h)
    (λ f. well_formed_length count width bytes (eqb-false (length bytes) (count * width) f))

-- a malformed line reads as zeros
pub malformed_line :
    (width : ℕ) (bytes numbers : List ℕ) → well_formed (length numbers) width bytes ≡ false
    → LineRead width bytes numbers (replicate (length numbers) 0) (line_answer false)
unfolding line_numbers
malformed_line width bytes numbers e = record { form = rw e; put = rw e }

pub line_of_columns :
    (width : ℕ) (bytes numbers after : List ℕ) → length bytes ≡ length numbers * width
    → begins_with_columns (length numbers) width bytes ≡ true → after ≡ values (cut (length numbers) width bytes)
    → LineRead width bytes numbers after (line_answer true)
unfolding line_numbers
line_of_columns width bytes numbers after e t put =
    let well : well_formed (length numbers) width bytes ≡ true = well_formed_begins (length numbers) width bytes e ∙ t in
    record { form = rw well; put = rw well put }
