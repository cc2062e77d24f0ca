-- What is proved of the definitions in specs/Rows.antt, with what the proofs need.
use Rattle.std.specs.Prelude.{◌≡◌, ◌⊎◌, List, [], ◌∷◌, ◌++◌, ℕ, zero, suc, ◌+◌, ◌*◌, ◌-◌, ◌≤◌, ◌<◌, drop, get_or, map}
use Rattle.std.specs.Simd.{first_chunks}
use Rattle.std.proofs.Math.Path.{ap, ap₂, refl}
use Rattle.std.proofs.Common.{sym, ◌∙◌, mul-le-mul_right, add-one, arith, length-drop, length-take-le, get_or-take, get_or-drop, ext_get_or, drop-drop}
use Rattle.std.proofs.Math.Logic.{inl, inr}
use Rattle.std.proofs.Math.Decide.{dec_lt}
use Rattle.std.proofs.Math.ListN.{length, take}
use Rattle.srt_protocol.specs.Cells.{overwritten}
use Rattle.srt_protocol.specs.Laws.CellLaws.{part_back, overwritten_there, overwritten_run}
use Rattle.word_rows.specs.Tab.{tab, removed}
use Rattle.word_rows.specs.Laws.Tab.{tab_push, tab_remove, tab_same, map_tab}
use Rattle.word_rows.specs.Rows.{row_at, Closed}

-- ---- words of a row

pub row_length : (width : ℕ) (words : List ℕ) (i : ℕ) → i * width + width ≤ length words → length (row_at width words i) ≡ width
unfolding row_at
row_length width words i fits = length-take-le width (drop (i * width) words) (omega (arith, length-drop (i * width) words))

pub row_word : (width : ℕ) (words : List ℕ) (i k : ℕ) → k < width → get_or (row_at width words i) k 0 ≡ get_or words (i * width + k) 0
unfolding row_at
row_word width words i k below = get_or-take width (drop (i * width) words) k 0 below ∙ get_or-drop (i * width) words k 0

-- two rows are equal where their words are
pub row_same : (width : ℕ) (words others : List ℕ) (i j : ℕ) → i * width + width ≤ length others → j * width + width ≤ length words
    → ((k : ℕ) → k < width → get_or others (i * width + k) 0 ≡ get_or words (j * width + k) 0) → row_at width others i ≡ row_at width words j
row_same width words others i j fits_i fits_j same =
    ext_get_or 0 (row_at width others i) (row_at width words j) (long_i ∙ sym long_j)
    (λ k below.
    let within : k < width = omega (arith, long_i) in
    row_word width others i k within ∙ same k within ∙ sym (row_word width words j k within))
  where
    long_i : length (row_at width others i) ≡ width
    long_i = row_length width others i fits_i

    long_j : length (row_at width words j) ≡ width
    long_j = row_length width words j fits_j

-- ---- a row that was lent and came back

-- the part of a slice that a row is
pub row_part : (width : ℕ) (words : List ℕ) (i : ℕ) → take (i * width + width - i * width) (drop (i * width) words) ≡ row_at width words i
unfolding row_at
row_part width words i =
    let size : i * width + width - i * width ≡ width = omega arith in ap (λ (n : ℕ). take n (drop (i * width) words)) size

-- how the words stand when the part comes back as `row`
pub row_back : (width : ℕ) (words row : List ℕ) (i : ℕ) → length row ≡ width
    → take (i * width) words ++ (row ++ drop (i * width + width - i * width) (drop (i * width) words)) ≡ overwritten (i * width) row words
row_back width words row i long = part_back (i * width) width row words long

-- the row between two parts of the words is lent, and comes back as `row`
pub row_between : (width : ℕ) (words row : List ℕ) (i : ℕ) (before rest behind : List ℕ) → length row ≡ width → before ≡ take (i * width) words
    → rest ≡ drop (i * width) words → behind ≡ drop width rest → before ++ (row ++ behind) ≡ overwritten (i * width) row words
row_between width words row i before rest behind long front back last =
    let size : i * width + width - i * width ≡ width = omega arith in
    ap₂ (λ (x y : List ℕ). x ++ (row ++ y)) front (last ∙ ap (drop width) back)
    ∙ sym (ap (λ (n : ℕ). take (i * width) words ++ (row ++ drop n (drop (i * width) words))) size)
    ∙ row_back width words row i long

next_row : (width j i : ℕ) → j < i → j * width + width ≤ i * width
next_row width j i below =
    let step : suc j * width ≤ i * width = mul-le-mul_right width below in
    let next : suc j * width ≡ j * width + width = omega arith in
    omega arith

module _ (width : ℕ) (words row : List ℕ) (i : ℕ) (fits : i * width + width ≤ length words) (long : length row ≡ width) where
  pub row_there : row_at width (overwritten (i * width) row words) i ≡ row
  unfolding row_at
  row_there =
      ap (λ (n : ℕ). take n (drop (i * width) (overwritten (i * width) row words))) (sym long)
      ∙ overwritten_there (i * width) row words (omega arith)

  pub row_elsewhere : (j : ℕ) → (j ≡ i → ⊥) → row_at width (overwritten (i * width) row words) j ≡ row_at width words j
  unfolding row_at
  row_elsewhere j other = overwritten_run (i * width) row words (omega arith) 0 (j * width) width (apart (dec_lt j i))
    where
      apart : Dec (j < i) → (j * width + width ≤ i * width) ⊎ (i * width + length row ≤ j * width)
      apart (yes lower) = inl (next_row width j i lower)
      apart (no not_lower) = inr (omega (arith, next_row width i j (omega arith)))

-- ---- the rows as `as_chunks` lends them

pub chunks_taken : (width n k : ℕ) (words : List ℕ) → n ≤ k → take n (first_chunks width k words) ≡ first_chunks width n words
chunks_taken width zero k words below = refl
chunks_taken width (suc n) zero words below = absurd (omega arith)
chunks_taken width (suc n) (suc k) words below =
    ap (λ (rows : List (List ℕ)). take width words ∷ rows) (chunks_taken width n k (drop width words) (omega arith))

chunk_front : (width : ℕ) (words : List ℕ) → take width words ≡ row_at width words 0
unfolding row_at
chunk_front width words = let none : 0 * width ≡ 0 = omega arith in ap (λ (n : ℕ). take width (drop n words)) (sym none)

row_next : (width : ℕ) (words : List ℕ) (i : ℕ) → row_at width (drop width words) i ≡ row_at width words (suc i)
unfolding row_at
row_next width words i =
    let on : width + i * width ≡ suc i * width = omega arith in
    ap (take width) (drop-drop (i * width) width words ∙ ap (λ (n : ℕ). drop n words) on)

pub chunk_there : (width k i : ℕ) (words : List ℕ) → i < k → get_or (first_chunks width k words) i [] ≡ row_at width words i
chunk_there width zero i words below = absurd (omega arith)
chunk_there width (suc k) zero words below = chunk_front width words
chunk_there width (suc k) (suc i) words below = chunk_there width k i (drop width words) (omega arith) ∙ row_next width words i

pub chunks_are_rows : (width n : ℕ) (words : List ℕ) → first_chunks width n words ≡ tab n (row_at width words)
unfolding tab
chunks_are_rows width zero words = refl
chunks_are_rows width (suc n) words =
    cc (
      chunk_front width words,
      chunks_are_rows width n (drop width words),
      tab_same n (λ i. row_at width words (suc i)) (row_at width (drop width words)) (λ i below. row_next width words i),
    )

-- the first n rows, each read as what it stands for
pub chunks_read : {A : Type 0} (width : ℕ) (read : List ℕ → A) (n k : ℕ) (words : List ℕ) → n ≤ k
    → map read (take n (first_chunks width k words)) ≡ tab n (λ i. read (row_at width words i))
chunks_read width read n k words below =
    ap (map read) (chunks_taken width n k words below ∙ chunks_are_rows width n words) ∙ map_tab n (row_at width words) read

-- ---- a table: the first `count` rows, each read as what it stands for

module _ {A : Type 0} (width : ℕ) (read : List ℕ → A) where
  abbrev pub read_row : List ℕ → ℕ → A
  read_row words i = read (row_at width words i)

  abbrev pub table : ℕ → List ℕ → List A
  table count words = tab count (read_row words)

  -- a row was written behind the others, which are as they were
  module _ (words row : List ℕ) (place : ℕ) (fits : place * width + width ≤ length words) (long : length row ≡ width) where
    pub table_push : table (place + 1) (overwritten (place * width) row words) ≡ table place words ++ (read row ∷ [])
    table_push =
        ap (λ (n : ℕ). table n (overwritten (place * width) row words)) (add-one place)
        ∙ tab_push place (read_row words) (read_row (overwritten (place * width) row words)) (read row)
        (λ i below. ap read (row_elsewhere width words row place fits long i (λ same. omega arith)))
        (ap read (row_there width words row place fits long))

  -- the rows behind a place moved down by one: the row there is gone
  pub table_removed : (words closed : List ℕ) (count place : ℕ) → count * width ≤ length words → place < count
      → Closed width words (place * width) (count * width) closed → table (count - 1) closed ≡ removed place (table count words)
  table_removed words closed count place fits inside gap =
      tab_remove (count - 1) place (read_row words) (read_row closed) (omega arith)
      (λ i lower.
      ap read
      (row_same width words closed i i (omega (arith, gap.long, end_of i (omega arith))) (end_of i (omega arith))
      (λ k within. gap.low (i * width + k) (omega (arith, next_row width i place lower)))))
      (λ i higher below.
      ap read
      (row_same width words closed i (suc i) (omega (arith, gap.long, end_of i (omega arith))) (end_of (suc i) (omega arith))
      (λ k within.
      gap.high (i * width + k) (omega (arith, mul-le-mul_right width higher)) (omega (arith, end_of_next i (omega arith), one_on i k))
      ∙ ap (λ (n : ℕ). get_or words n 0) (one_on i k))))
      ∙ ap (λ (n : ℕ). removed place (table n words)) one_less
    where
      end_of : (i : ℕ) → i < count → i * width + width ≤ length words
      end_of i below = omega (arith, next_row width i count below)

      end_of_next : (i : ℕ) → suc i < count → suc i * width + width ≤ count * width
      end_of_next i below = next_row width (suc i) count below

      one_on : (i k : ℕ) → i * width + k + width ≡ suc i * width + k
      one_on i k = omega arith

      one_less : suc (count - 1) ≡ count
      one_less = omega arith
