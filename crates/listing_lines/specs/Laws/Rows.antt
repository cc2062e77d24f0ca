-- Rows of words in one list (`cut`), one behind the other.
use Rattle.std.specs.Prelude.{ℕ, zero, suc, ◌+◌, ◌-◌, ◌*◌, ◌≤◌, ◌≡◌, List, [], ◌∷◌, ◌++◌, length, take, drop}
use Rattle.std.proofs.Common.{arith, zero-add, zero-mul, suc-add, suc-mul, ap, sym, ◌∙◌, length-take, length-drop, take-append-drop, drop-drop, drop_at, length-take-le, take_all}
use Rattle.listing.specs.Line.{cut}
use Rattle.listing.proofs.WholeLaws.{cut_append}

-- the first rows, and those behind them
pub cut_sum :
    (count more width : ℕ) (words : List ℕ)
    → cut (count + more) width words ≡ cut count width words ++ cut more width (drop (count * width) words)
unfolding cut
cut_sum zero more width words = rw (zero-add more, zero-mul width)
cut_sum (suc count) more width words =
    let next : width + count * width ≡ suc count * width = omega (arith, suc-mul count width) in
    rw (suc-add count more, cut_sum count more width (drop width words), drop-drop (count * width) width words, next)

-- one row
pub cut_one : (width : ℕ) (row : List ℕ) → length row ≡ width → cut 1 width row ≡ row ∷ []
unfolding cut
cut_one width row long = rw (take_all width row (omega arith))

-- rows stand in the words up to their end
cut_upto : (count width : ℕ) (words : List ℕ) → count * width ≤ length words → cut count width (take (count * width) words) ≡ cut count width words
cut_upto count width words fits =
    let size = length-take-le (count * width) words fits in
    sym (cut_append count width (take (count * width) words) (drop (count * width) words) (omega arith))
    ∙ ap (cut count width) (take-append-drop (count * width) words)

-- a row that is lent
pub lent_long : (words : List ℕ) (begin end width : ℕ) → end ≡ begin + width → end ≤ length words → length (take (end - begin) (drop begin words)) ≡ width
lent_long words begin end width e fits = simp (length-take, length-drop) (omega arith)

-- rows, and behind them those of a part that was lent and came back
pub cut_behind :
    (count more width : ℕ) (words row rest : List ℕ) → count * width ≤ length words → more * width ≤ length row
    → cut (count + more) width (take (count * width) words ++ (row ++ rest)) ≡ cut count width words ++ cut more width row
cut_behind count more width words row rest fits long =
    let front = take (count * width) words in
    let size : length front ≡ count * width = length-take-le (count * width) words fits in
    rw (
      cut_sum count more width (front ++ (row ++ rest)),
      drop_at front (row ++ rest) (count * width) size,
      cut_append more width row rest long,
      cut_append count width front (row ++ rest) (omega arith),
      cut_upto count width words fits,
    )
