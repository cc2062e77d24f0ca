-- What is proved of the definitions in specs/Taken.antt, with what the proofs need: what one line fills, and how the lines of a block
-- come one by one.
use Rattle.std.specs.Prelude.{ℕ, ◌+◌, ◌*◌, ◌<◌, ◌≤◌, cond, ◌≡◌, refl, List, [], ◌∷◌, ◌++◌, map, leb, length, take, Some, None, Result}
use Rattle.std.proofs.Common.{arith, ap, sym, ◌∙◌, append-nil, length-append, leb-false, ne_eqb}
use Rattle.std.proofs.Math.ListN.{set}
use Rattle.std.proofs.Math.Seq.{append_snoc}
use Rattle.std.proofs.lemmas.List.{take-set, take_more_set}
use denote.Ref.{Bor}
use Rattle.listing.specs.Line.{well_formed, line_numbers}
use Rattle.listing.specs.Stream.{first_line, after_feed, ended, open_line, last_line}
use Rattle.listing.specs.Held.{Held, HeldBy, SameBuffer, HeldRead, TakenFrom}
use Rattle.listing.specs.declared.MalformedLine.{MalformedLine}
use Rattle.listing.specs.declared.stream.OpenLine.{OpenLine}
use Rattle.listing.proofs.Cases.{by_cases}
use Rattle.listing.proofs.StreamLaws.{ended_at_feed, ended_without_feed, first_line_all, held_nothing, held_is_nothing, held_some, same_buffer_then}
use Rattle.listing.proofs.WholeLaws.{feed_behind_first_line}
use Rattle.listing_lines.specs.Taken.{LinesTakenFrom, LineTakenFrom, LastLineTaken}

-- ---- what one line fills

-- a line longer than 88 bytes is malformed, so it counts as zeros
long_malformed : (line : List ℕ) → 88 < length line → line_numbers 8 11 line ≡ 0 ∷ 0 ∷ 0 ∷ 0 ∷ 0 ∷ 0 ∷ 0 ∷ 0 ∷ []
unfolding well_formed line_numbers
long_malformed line h = let other : length line ≡ 8 * 11 → ⊥ = λ e. omega arith in rw (ne_eqb (length line) (8 * 11) other)

-- a line that a buffer of 88 bytes or more holds is read as its numbers
pub held_numbers :
    (buffer line : List ℕ) (size : ℕ) (row row_after : List ℕ) (told : Result (Unit {0}) MalformedLine) → 88 ≤ length buffer → length row ≡ 8
    → HeldRead 11 buffer size row row_after told → Held line buffer size → row_after ≡ line_numbers 8 11 line
held_numbers buffer line size row row_after told room eight read holds = by_cases (leb (length line) (length buffer))
    (λ short. put ∙ rw short)
    (λ long.
    let more = leb-false (length line) (length buffer) long in
    put ∙ (rw long (sym (long_malformed line (omega arith)))))
  where
    put : row_after ≡ cond (leb (length line) (length buffer)) (line_numbers 8 11 line) (0 ∷ 0 ∷ 0 ∷ 0 ∷ 0 ∷ 0 ∷ 0 ∷ 0 ∷ [])
    put = rw eight at (read.put line holds)

-- a block without line feed is held
pub none_ended :
    (block : List ℕ) (held after : OpenLine) (row : List ℕ) → TakenFrom block held after None → LineTakenFrom block held after row None
none_ended block held after row took =
    record { same = took.same; taken = (took.behind, λ line h. rw (first_line_all block took.behind).0 at (took.holds line h)) }

-- a line that a line feed ended is read
pub line_ended :
    (block : List ℕ) (held between after : OpenLine) (row row_after : List ℕ) (told : Result (Unit {0}) MalformedLine) (rest : Bor (List ℕ))
    → TakenFrom block held between (Some rest) → HeldRead 11 between.bytes.now between.size row row_after told → 88 ≤ length held.bytes.now → length row ≡ 8
    → SameBuffer between after → after.size ≡ 0 → LineTakenFrom block held after row_after (Some rest)
line_ended block held between after row row_after told rest took read room eight same none =
    record {
      same = same_buffer_then took.same same;
      taken = (
        took.behind.0,
        took.behind.1,
        held_nothing after.bytes.now none,
        λ line h. held_numbers between.bytes.now (line ++ first_line block) between.size row row_after told (omega (arith, took.same.room)) eight read (took.holds line h),
      );
    }

-- ---- the lines of a block, one by one

-- a line began before a block, and the rest is left of the block: what is held now, with which the rest ends and leaves open the same
pub record Behind (start block rest : List ℕ) (after : OpenLine) (rows : List (List ℕ)) : Type 0 where
  pub now : List ℕ
  pub holds : HeldBy now after
  pub filled : map (line_numbers 8 11) (ended start block) ≡ rows ++ map (line_numbers 8 11) (ended now rest)
  pub leaves : open_line start block ≡ open_line now rest

-- the front of a block is taken, and the rest is left
pub record TakenSoFar (block rest : List ℕ) (held after : OpenLine) (rows : List (List ℕ)) (count : ℕ) : Type 0 where
  pub same : SameBuffer held after
  pub few : count + length rest ≤ length block
  pub behind : (start : List ℕ) → HeldBy start held → Behind start block rest after (take count rows)

pub none_so_far : (block : List ℕ) (held : OpenLine) (rows : List (List ℕ)) → TakenSoFar block block held held rows 0
none_so_far block held rows =
    record { same = record { reference = refl; room = refl }; few = omega arith; behind = λ start h. record { now = start; holds = h; filled = refl; leaves = refl } }

-- where nothing is left all is taken
pub all_taken :
    {block : List ℕ} {held after : OpenLine} {rows : List (List ℕ)} {count : ℕ} (rest : List ℕ)
    → TakenSoFar block rest held after rows count → length rest ≤ 0 → LinesTakenFrom block held after rows count
unfolding ended open_line
all_taken {block = block} {after = after} {rows = rows} {count = count} [] so none =
    record {
      same = so.same;
      few = omega (arith, so.few);
      filled = λ line h. sym (append-nil (take count rows)) ∙ sym (so.behind line h).filled;
      open_held = λ line h. rw (so.behind line h).leaves (so.behind line h).holds;
    }
all_taken (byte ∷ rest) so none = absurd (omega arith)

module _ {block rest : List ℕ} {held between : OpenLine} {rows : List (List ℕ)} {count : ℕ} (so : TakenSoFar block rest held between rows count) {after : OpenLine} (row : List ℕ) where
  -- a line more
  pub one_more :
      (left : Bor (List ℕ)) → count < length rows → LineTakenFrom rest between after row (Some left)
      → TakenSoFar block left.now held after (set rows count row) (count + 1)
  one_more left inside step =
      let feed = step.taken.0 in
      let is = step.taken.1 in
      let split = ap length (feed_behind_first_line rest feed) ∙ length-append (first_line rest) (10 ∷ after_feed rest) in
      let shown = take_more_set rows count row inside in
      record {
        same = same_buffer_then so.same step.same;
        few = rw is (omega (arith, so.few));
        behind = λ start h.
            let b = so.behind start h in
            let ends = ended_at_feed b.now rest feed in
            record {
              now = [];
              holds = step.taken.2;
              filled = b.filled ∙ rw (shown, is, ends.0, step.taken.3 b.now b.holds)
                  (sym (append_snoc (take count rows) (line_numbers 8 11 (b.now ++ first_line rest)) (map (line_numbers 8 11) (ended [] (after_feed rest)))));
              leaves = b.leaves ∙ rw is ends.1;
            };
      }

  -- no line more
  pub no_more : LineTakenFrom rest between after row None → LinesTakenFrom block held after (set rows count row) count
  no_more step =
      record {
        same = same_buffer_then so.same step.same;
        few = omega (arith, so.few);
        filled = λ line h.
            let b = so.behind line h in
            take-set rows count row ∙ sym (append-nil (take count rows)) ∙ sym (rw (ended_without_feed b.now rest step.taken.0).0 at b.filled);
        open_held = λ line h.
            let b = so.behind line h in
            rw (b.leaves, (ended_without_feed b.now rest step.taken.0).1) (step.taken.1 b.now b.holds);
      }

-- ---- the line that the end of the stream ends

last_line_one : (line : List ℕ) → 0 < length line → last_line line ≡ line ∷ []
unfolding last_line
last_line_one [] some = absurd (omega arith)
last_line_one (byte ∷ line) some = refl

pub last_line_taken :
    (buffer : List ℕ) (size : ℕ) (row row_after : List ℕ) (told : Result (Unit {0}) MalformedLine) → (size ≡ 0 → ⊥) → 88 ≤ length buffer → length row ≡ 8
    → HeldRead 11 buffer size row row_after told → LastLineTaken buffer size (Some row_after)
last_line_taken buffer size row row_after told some room eight read =
    λ line h. rw (last_line_one line (held_some line buffer size (omega arith) h), held_numbers buffer line size row row_after told room eight read h)

pub no_last_line : (buffer : List ℕ) (size : ℕ) → size ≡ 0 → LastLineTaken buffer size None
unfolding last_line
no_last_line buffer size none = λ line h. rw (held_is_nothing line buffer size none h)
