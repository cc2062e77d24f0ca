-- Laws of a well-formed line that stands in a stream with its line feed: columns of numbers have no line feed in them, so
-- the line feed behind them ends the first line.
use Prim.Native.Nat.{ℕ, zero, suc, ◌+◌, ◌*◌, ◌<◌, ◌≤◌}
use native.Mathlib.Omega.{arith}
use native.Mathlib.Nat.{zero-mul, suc-mul}
use native.Mathlib.Numerals.{add-one}
use denote.Ref.{Bor}
use mathlib.Core.Bool.{true, false, ◌&&◌, true≢false}
use mathlib.Core.Path.{◌≡◌, refl, ap, sym, subst, ◌∙◌}
use mathlib.Core.List.{List, [], ◌∷◌, ◌++◌}
use lib.Dec.{leb, eqb}
use lib.ListN.{length, take, drop, drop_of_length-le, get_or, length-append, length-drop, take-append-drop}
use lib.Seq.{drop-append-add, take-append-le, drop-append-le, drop-cons, get_or_at, length-take-le}
use borrow.Author.Tests.{le-leb, eq-eqb, ne_eqb, leb-true, eqb-true}
use Rattle.std.proofs.lemmas.Bool.{and_parts, false≢true}
use Rattle.listing.proofs.Cases.{by_cases}
use Rattle.listing.specs.Column.{column, after_spaces, all_digits, digits_read, is_digit}
use Rattle.listing.specs.Line.{cut, is_number, all_numbers, values, begins_with_columns, well_formed, line_numbers}
use Rattle.listing.specs.Stream.{has_feed, first_line, after_feed}
use Rattle.listing.specs.Held.{WholeRead, whole_here}
use Rattle.std.specs.Prelude.{Option, Some, None, ◌≢◌}
use Rattle.std.specs.Option.{MatchOption}

-- a digit or a space is no line feed
digit_no_feed : (byte : ℕ) → is_digit byte ≡ true → eqb byte 10 ≡ false
digit_no_feed byte h =
    let low = leb-true 48 byte (and_parts (leb 48 byte) (leb byte 57) h).0 in
    let other : byte ≡ 10 → ⊥ = λ e. omega arith in
    ne_eqb byte 10 other

digits_no_feed : (bytes : List ℕ) → all_digits bytes ≡ true → has_feed bytes ≡ false
unfolding all_digits has_feed
digits_no_feed [] h = refl
digits_no_feed (byte ∷ bytes) h =
    let parts = and_parts (is_digit byte) (all_digits bytes) h in
    rw (digit_no_feed byte parts.0, digits_no_feed bytes parts.1)

digits_read_no_feed : (bytes : List ℕ) → is_number (digits_read bytes) ≡ true → has_feed bytes ≡ false
unfolding digits_read
digits_read_no_feed [] h = absurd (false≢true h)
digits_read_no_feed (byte ∷ bytes) h = by_cases (all_digits (byte ∷ bytes))
    (λ t. digits_no_feed (byte ∷ bytes) t)
    (λ f. absurd (false≢true (rw f at h)))

after_spaces_no_feed : (bytes : List ℕ) → has_feed (after_spaces bytes) ≡ false → has_feed bytes ≡ false
unfolding after_spaces has_feed
after_spaces_no_feed [] h = refl
after_spaces_no_feed (byte ∷ bytes) h = by_cases (eqb byte 32)
    (λ t.
    let space = eqb-true byte 32 t in
    let other : byte ≡ 10 → ⊥ = λ e. omega arith in
    rw (ne_eqb byte 10 other) (after_spaces_no_feed bytes (rw t at h)))
    (λ f. rw f at h)

column_no_feed : (bytes : List ℕ) → is_number (column bytes) ≡ true → has_feed bytes ≡ false
unfolding column
column_no_feed bytes h = after_spaces_no_feed bytes (digits_read_no_feed (after_spaces bytes) h)

has_feed_append : (a b : List ℕ) → has_feed a ≡ false → has_feed b ≡ false → has_feed (a ++ b) ≡ false
unfolding has_feed
has_feed_append [] b h g = g
has_feed_append (byte ∷ a) b h g = by_cases (eqb byte 10)
    (λ t. absurd (true≢false (rw t at h)))
    (λ f. rw f (has_feed_append a b (rw f at h) g))

columns_no_feed :
    (count width : ℕ) (bytes : List ℕ) → length bytes ≡ count * width → all_numbers (cut count width bytes) ≡ true
    → has_feed bytes ≡ false
unfolding all_numbers cut has_feed
columns_no_feed zero width [] e h = refl
columns_no_feed zero width (byte ∷ bytes) e h = absurd (omega (arith, zero-mul width))
columns_no_feed (suc count) width bytes e h =
    let parts = and_parts (is_number (column (take width bytes))) (all_numbers (cut count width (drop width bytes))) h in
    let left : length (drop width bytes) ≡ count * width = omega (arith, length-drop width bytes, suc-mul count width) in
    subst (λ (s : List ℕ). has_feed s ≡ false) (take-append-drop width bytes)
    (has_feed_append (take width bytes) (drop width bytes) (column_no_feed (take width bytes) parts.0)
    (columns_no_feed count width (drop width bytes) left parts.1))

-- the columns of bytes are those of what follows them too
pub cut_append : (count width : ℕ) (bytes more : List ℕ) → count * width ≤ length bytes → cut count width (bytes ++ more) ≡ cut count width bytes
unfolding cut
cut_append zero width bytes more h = refl
cut_append (suc count) width bytes more h =
    let fits : width ≤ length bytes = omega (arith, suc-mul count width) in
    let left : count * width ≤ length (drop width bytes) = omega (arith, length-drop width bytes, suc-mul count width) in
    rw (take-append-le width bytes more fits, drop-append-le width bytes more fits, cut_append count width (drop width bytes) more left)

-- bytes without line feed, with one behind them, are the first line
first_line_before_feed : (line rest : List ℕ) → has_feed line ≡ false → (first_line (line ++ (10 ∷ rest)) ≡ line) × (has_feed (line ++ (10 ∷ rest)) ≡ true)
unfolding first_line has_feed
first_line_before_feed [] rest h = (refl, refl)
first_line_before_feed (byte ∷ line) rest h = by_cases (eqb byte 10)
    (λ t. absurd (true≢false (rw t at h)))
    (λ f. let more = first_line_before_feed line rest (rw f at h) in (rw (f, more.0), rw (f, more.1)))

-- a stream with a line feed is its first line, the line feed and the rest
pub feed_behind_first_line : (stream : List ℕ) → has_feed stream ≡ true → stream ≡ first_line stream ++ (10 ∷ after_feed stream)
unfolding has_feed first_line after_feed
feed_behind_first_line [] h = absurd (false≢true h)
feed_behind_first_line (byte ∷ stream) h = by_cases (eqb byte 10)
    (λ t. rw (t, eqb-true byte 10 t))
    (λ f. rw f (ap (λ (s : List ℕ). byte ∷ s) (feed_behind_first_line stream (rw f at h))))

-- a stream that begins with columns of numbers, and a line feed behind them
pub whole_line :
    (count width : ℕ) (stream : List ℕ) → begins_with_columns count width stream ≡ true → count * width < length stream
    → get_or stream (count * width) 0 ≡ 10
    → (has_feed stream ≡ true) × (well_formed count width (first_line stream) ≡ true)
    × (line_numbers count width (first_line stream) ≡ values (cut count width stream))
unfolding begins_with_columns well_formed line_numbers
whole_line count width stream h inside feed =
    let size = count * width in
    let line = take size stream in
    let rest = drop (suc size) stream in
    let long : length line ≡ size = length-take-le size stream (omega arith) in
    let split : line ++ (10 ∷ rest) ≡ stream = ap (λ (s : List ℕ). line ++ s) (rw (← feed) (sym (drop-cons stream size 0 inside))) ∙ take-append-drop size stream in
    let same : cut count width stream ≡ cut count width line =
    subst (λ (s : List ℕ). cut count width s ≡ cut count width line) split (cut_append count width line (10 ∷ rest) (omega arith)) in
    let all : all_numbers (cut count width line) ≡ true = rw same at (and_parts (leb size (length stream)) (all_numbers (cut count width stream)) h).1 in
    let parts = first_line_before_feed line rest (columns_no_feed count width line long all) in
    let first : first_line stream ≡ line = subst (λ (s : List ℕ). first_line s ≡ line) split parts.0 in
    let well : (eqb (length line) size && all_numbers (cut count width line)) ≡ true = rw (eq-eqb (length line) size long, all) in
    (subst (λ (s : List ℕ). has_feed s ≡ true) split parts.1, rw first well, rw (first, well, same))

-- a well-formed first line begins the stream with its columns, and its line feed stands behind them
pub whole_line_begins :
    (count width : ℕ) (stream : List ℕ) → has_feed stream ≡ true → well_formed count width (first_line stream) ≡ true
    → (begins_with_columns count width stream ≡ true) × (count * width < length stream) × (get_or stream (count * width) 0 ≡ 10)
unfolding begins_with_columns well_formed
whole_line_begins count width stream h well =
    let line = first_line stream in
    let parts = and_parts (eqb (length line) (count * width)) (all_numbers (cut count width line)) well in
    let long : length line ≡ count * width = eqb-true _ _ parts.0 in
    let split : stream ≡ line ++ (10 ∷ after_feed stream) = feed_behind_first_line stream h in
    let total : length stream ≡ length line + suc (length (after_feed stream)) = ap length split ∙ length-append line (10 ∷ after_feed stream) in
    let same : cut count width stream ≡ cut count width line =
    ap (cut count width) split ∙ cut_append count width line (10 ∷ after_feed stream) (omega arith) in
    let room : count * width ≤ length stream = omega arith in (
      rw (le-leb _ _ room, same, parts.1),
      omega arith,
      ap (λ (s : List ℕ). get_or s (count * width) 0) split ∙ get_or_at line 10 (after_feed stream) 0 (count * width) long,
    )

-- what is known of a block's lines where the columns from a place on do not end at a line feed
pub not_whole_here :
    (count width : ℕ) (stream : List ℕ)
    → (begins_with_columns count width stream ≡ true → count * width < length stream → get_or stream (count * width) 0 ≡ 10 → ⊥)
    → whole_here count width stream ≡ false
not_whole_here count width stream never = by_cases (whole_here count width stream)
    (λ t.
    let parts = and_parts (has_feed stream) (well_formed count width (first_line stream)) t in
    let facts = whole_line_begins count width stream parts.0 parts.1 in
    absurd (never facts.0 facts.1 facts.2))
    (λ f. f)

-- behind a well-formed first line and its line feed the stream goes on
pub whole_line_rest : (count width : ℕ) (stream : List ℕ) → whole_here count width stream ≡ true → drop (count * width + 1) stream ≡ after_feed stream
unfolding well_formed
whole_line_rest count width stream h =
    let line = first_line stream in
    let parts = and_parts (has_feed stream) (well_formed count width line) h in
    let long : length line ≡ count * width = eqb-true _ _ (and_parts (eqb (length line) (count * width)) (all_numbers (cut count width line)) parts.1).0 in
    let place : count * width + 1 ≡ length line + 1 = omega arith in
    ap (λ (n : ℕ). drop n stream) place
    ∙ (ap (drop (length line + 1)) (feed_behind_first_line stream parts.0) ∙ drop-append-add line (10 ∷ after_feed stream) 1)

-- the answer where the columns end at a line feed, and where not
module _ (block : List ℕ) (width : ℕ) (numbers after : List ℕ) (same : length after ≡ length numbers) where
  pub whole_found :
      (rest : Bor (List ℕ)) → begins_with_columns (length numbers) width block ≡ true → length numbers * width < length block
      → get_or block (length numbers * width) 0 ≡ 10 → after ≡ values (cut (length numbers) width block)
      → rest.now ≡ drop (length numbers * width + 1) block → WholeRead block width numbers after (Some rest)
  whole_found rest begins inside feed put behind =
      let facts = whole_line (length numbers) width block begins inside feed in
      let here : whole_here (length numbers) width block ≡ true = rw (facts.0, facts.1) in
      record { found = (here, behind ∙ whole_line_rest (length numbers) width block here); put = λ t. put ∙ sym facts.2; same = same }

  pub whole_not_found :
      (begins_with_columns (length numbers) width block ≡ true → length numbers * width < length block
      → get_or block (length numbers * width) 0 ≡ 10 → ⊥)
      → WholeRead block width numbers after None
  whole_not_found never =
      let none : whole_here (length numbers) width block ≡ false = not_whole_here (length numbers) width block never in
      record { found = none; put = λ t. absurd (true≢false (sym t ∙ none)); same = same }

  pub whole_refused : begins_with_columns (length numbers) width block ≡ false → WholeRead block width numbers after None
  whole_refused malformed = whole_not_found (λ t inside feed. false≢true (sym malformed ∙ t))

  -- what is left behind the columns begins with a line feed, or there is no answer
  pub whole_or_not :
      (end : ℕ) (answer : Option (Bor (List ℕ))) → begins_with_columns (length numbers) width block ≡ true → end ≡ length numbers * width
      → after ≡ values (cut (length numbers) width block)
      → MatchOption answer ((rest : List ℕ) → drop end block ≢ 10 ∷ rest) (λ x. drop end block ≡ 10 ∷ x.now)
      → WholeRead block width numbers after answer
  whole_or_not end (Some rest) begins is put feed =
      let size = length numbers * width in
      let here : drop size block ≡ 10 ∷ rest.now = rw is at feed in
      let inside : size < length block = omega (arith, ap length here, length-drop size block) in
      let split = sym (drop-cons block size 0 inside) ∙ here in
      whole_found rest begins inside (ap (λ (l : List ℕ). get_or l 0 0) split) put (rw (add-one size) (sym (ap (drop 1) split)))
  whole_or_not end None begins is put never =
      whole_not_found (λ t inside feed. (rw is at never) _ (drop-cons block (length numbers * width) 0 inside ∙ ap (λ (b : ℕ). b ∷ drop (suc (length numbers * width)) block) feed))

-- columns end inside the bytes that begin with them
pub columns_inside : (count width end : ℕ) (bytes : List ℕ) → begins_with_columns count width bytes ≡ true → end ≡ count * width → end ≤ length bytes
unfolding begins_with_columns
columns_inside count width end bytes begins is =
    let few = leb-true _ _ (and_parts (leb (count * width) (length bytes)) (all_numbers (cut count width bytes)) begins).0 in omega (arith, is)

-- behind a block's end no line stands
pub none_whole_behind :
    (block : List ℕ) (from width : ℕ) (numbers : List ℕ) → length block < from → WholeRead (drop from block) width numbers numbers None
unfolding has_feed
none_whole_behind block from width numbers behind =
    rw (drop_of_length-le block {i = from} (omega arith)) (record { found = refl; put = λ t. absurd (false≢true t); same = refl })

-- ---- laws of the definitions that no proof cites today

pub begins_inside : (count width : ℕ) (stream : List ℕ) → begins_with_columns count width stream ≡ true → count * width ≤ length stream
unfolding begins_with_columns
begins_inside count width stream h =
    leb-true (count * width) (length stream) (and_parts (leb (count * width) (length stream)) (all_numbers (cut count width stream)) h).0
