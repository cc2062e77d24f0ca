-- Laws of the lines of a stream, byte by byte, of a line that a buffer holds, and of streams that come in blocks.
use Prim.Native.Nat.{ℕ, suc, ◌+◌, ◌-◌, ◌<◌, ◌≤◌}
use native.Mathlib.Omega.{arith}
use mathlib.Core.Bool.{true, false, true≢false}
use mathlib.Core.Path.{◌≡◌, refl, subst, ap, sym, ◌∙◌}
use mathlib.Core.List.{List, [], ◌∷◌, ◌++◌, append_assoc}
use lib.Dec.{leb, eqb}
use lib.ListN.{length, take, drop, get_or, length-append, length-drop, drop_of_length-le}
use lib.Seq.{append_snoc, take-suc, get_or-drop, length-take-le, take_all}
use denote.Ref.{Bor}
use Rattle.std.specs.Prelude.{nat_eq, nat_lt, slice_range, Some, None, ◌⊎◌}
use Rattle.std.proofs.Common.{inl, inr}
use Rattle.std.specs.List.{position, position_or_len}
use Rattle.std.proofs.lemmas.Option.{cond_some, none-some}
use borrow.Author.Tests.{eq-eqb, ne_eqb, ltb-true, ltb-false, leb-true, leb-false}
use Rattle.listing.proofs.Cases.{by_cases}
use Rattle.listing.proofs.ColumnLaws.{drop_at_byte, drop_at_end}
use Rattle.listing.proofs.PlacedLaws.{upto_placed, length_placed}
use Rattle.listing.specs.Placed.{placed}
use Rattle.std.proofs.lemmas.List.{append-nil}
use Rattle.listing.specs.Stream.{lines, in_front, joined, has_feed, first_line, after_feed, ended, open_line, last_line}
use Rattle.listing.specs.Laws.Stream.{lines_of_blocks}
use Rattle.listing.specs.Held.{Held, SameBuffer, TakenFrom}
use Rattle.listing.specs.declared.stream.OpenLine.{OpenLine}

-- the place of a stream's first line feed, or its end where it has none
pub record FeedIn (stream : List ℕ) (at : ℕ) : Type 0 where
  pub inside : at ≤ length stream
  pub before : take at stream ≡ first_line stream
  pub feed : at < length stream → has_feed stream ≡ true
  pub none : at ≡ length stream → has_feed stream ≡ false
  pub rest : at < length stream → drop (at + 1) stream ≡ after_feed stream

feed_later : (byte : ℕ) (stream : List ℕ) (at : ℕ) → eqb byte 10 ≡ false → FeedIn stream at → FeedIn (byte ∷ stream) (suc at)
unfolding has_feed first_line after_feed
feed_later byte stream at f later =
    record {
      inside = omega (arith, later.inside);
      before = rw (f, later.before);
      feed = λ h. rw f (later.feed (omega arith));
      none = λ h. rw f (later.none (omega arith));
      rest = λ h. let next : suc at + 1 ≡ suc (at + 1) = omega arith in rw (f, next) (later.rest (omega arith));
    }

pub feed_found : (stream : List ℕ) → FeedIn stream (position_or_len (λ byte. nat_eq byte 10) stream)
unfolding has_feed first_line after_feed
feed_found [] = record { inside = omega arith; before = refl; feed = λ h. absurd (omega arith); none = λ h. refl; rest = λ h. absurd (omega arith) }
feed_found (byte ∷ stream) = by_cases (eqb byte 10)
    (λ t. rw t (record { inside = omega arith; before = rw t; feed = λ h. rw t; none = λ h. absurd (omega arith); rest = λ h. rw t }))
    (λ f.
    let one : 1 + position_or_len (λ b. nat_eq b 10) stream ≡ suc (position_or_len (λ b. nat_eq b 10) stream) = omega arith in
    rw (f, one) (feed_later byte stream _ f (feed_found stream)))

-- where the place of the first line feed is known, and where there is none
pub feed_at : (stream : List ℕ) (at : ℕ) → position (λ byte. nat_eq byte 10) stream ≡ Some at → FeedIn stream at × (at < length stream)
feed_at stream at e =
    let parts = cond_some (nat_lt (position_or_len (λ byte. nat_eq byte 10) stream) (length stream)) (position_or_len (λ byte. nat_eq byte 10) stream) at e in
    let here = ltb-true (position_or_len (λ byte. nat_eq byte 10) stream) (length stream) parts.0 in
    (subst (FeedIn stream) parts.1 (feed_found stream), omega (arith, parts.1))

pub no_feed_at : (stream : List ℕ) → position (λ byte. nat_eq byte 10) stream ≡ None → has_feed stream ≡ false
no_feed_at stream e =
    let found = feed_found stream in
    by_cases (nat_lt (position_or_len (λ byte. nat_eq byte 10) stream) (length stream))
    (λ t. let never : Some (position_or_len (λ byte. nat_eq byte 10) stream) ≡ None = rw t at e in absurd (none-some _ (sym never)))
    (λ f. let past = ltb-false (position_or_len (λ byte. nat_eq byte 10) stream) (length stream) f in found.none (omega (arith, found.inside)))

-- without a line feed the first line is all there is, and nothing follows it
pub first_line_all : (stream : List ℕ) → has_feed stream ≡ false → (first_line stream ≡ stream) × (after_feed stream ≡ [])
unfolding has_feed first_line after_feed
first_line_all [] h = (refl, refl)
first_line_all (byte ∷ stream) h = by_cases (eqb byte 10)
    (λ t. absurd (no_feed_here t))
    (λ f.
    let rest = first_line_all stream (rw f at h) in
    (rw (f, rest.0), rw (f, rest.1)))
  where
    no_feed_here : eqb byte 10 ≡ true → ⊥
    no_feed_here t = let never : true ≡ false = rw t at h in let z : ◌≡◌ {A = ℕ} 0 1 = cc in omega arith

-- THE BLOCKS: lines that end in two blocks, one behind the other
pub ended_append : (before a b : List ℕ) → ended before (a ++ b) ≡ ended before a ++ ended (open_line before a) b
unfolding ended open_line
ended_append before [] b = refl
ended_append before (byte ∷ a) b = by_cases (eqb byte 10)
    (λ t. rw (t, ended_append [] a b))
    (λ f. rw (f, ended_append (before ++ (byte ∷ [])) a b))

pub open_line_append : (before a b : List ℕ) → open_line before (a ++ b) ≡ open_line (open_line before a) b
unfolding open_line
open_line_append before [] b = refl
open_line_append before (byte ∷ a) b = by_cases (eqb byte 10)
    (λ t. rw (t, open_line_append [] a b))
    (λ f. rw (f, open_line_append (before ++ (byte ∷ [])) a b))

-- the bytes before a stream's first line feed stand in front of its first line
unfoldable after_bytes : List ℕ → List (List ℕ) → List (List ℕ)
after_bytes [] lines = lines
after_bytes (byte ∷ before) lines = in_front byte (after_bytes before lines)

after_bytes_snoc : (before : List ℕ) (byte : ℕ) (lines : List (List ℕ)) → after_bytes (before ++ (byte ∷ [])) lines ≡ after_bytes before (in_front byte lines)
unfolding after_bytes
after_bytes_snoc [] byte lines = refl
after_bytes_snoc (b ∷ before) byte lines = rw (after_bytes_snoc before byte lines)

after_bytes_line : (before : List ℕ) (lines : List (List ℕ)) → after_bytes before ([] ∷ lines) ≡ before ∷ lines
unfolding after_bytes in_front
after_bytes_line [] lines = refl
after_bytes_line (byte ∷ before) lines = rw (after_bytes_line before lines)

after_bytes_none : (before : List ℕ) → after_bytes before [] ≡ last_line before
unfolding after_bytes in_front last_line
after_bytes_none [] = refl
after_bytes_none (byte ∷ before) = rw (after_bytes_none before) (in_front_last byte before)
  where
    in_front_last : (byte : ℕ) (line : List ℕ) → in_front byte (last_line line) ≡ (byte ∷ line) ∷ []
    in_front_last byte [] = refl
    in_front_last byte (next ∷ line) = refl

-- a stream's lines, after bytes of its first line: those that line feeds end, and the last one
lines_after : (before stream : List ℕ) → after_bytes before (lines stream) ≡ ended before stream ++ last_line (open_line before stream)
unfolding lines ended open_line after_bytes
lines_after before [] = after_bytes_none before
lines_after before (byte ∷ stream) = by_cases (eqb byte 10)
    (λ t. rw (t, after_bytes_line before (lines stream)) (ap (λ (rest : List (List ℕ)). before ∷ rest) (lines_after [] stream)))
    (λ f. rw f (sym (after_bytes_snoc before byte (lines stream)) ∙ lines_after (before ++ (byte ∷ [])) stream))

-- a stream cut into blocks anywhere has the lines of the whole
pub lines_of_blocks_after : (before : List ℕ) (blocks : List (List ℕ)) → lines_of_blocks before blocks ≡ ended before (joined blocks) ++ last_line (open_line before (joined blocks))
unfolding lines_of_blocks joined ended open_line
lines_of_blocks_after before [] = refl
lines_of_blocks_after before (block ∷ blocks) =
    rw (ended_append before block (joined blocks), open_line_append before block (joined blocks), lines_of_blocks_after (open_line before block) blocks)
    (sym (append_assoc (ended before block) (ended (open_line before block) (joined blocks)) (last_line (open_line (open_line before block) (joined blocks)))))

pub lines_of_blocks_are_lines : (blocks : List (List ℕ)) → lines_of_blocks [] blocks ≡ lines (joined blocks)
unfolding after_bytes
lines_of_blocks_are_lines blocks = lines_of_blocks_after [] blocks ∙ sym (lines_after [] (joined blocks))

-- a block with a line feed ends the line that came before it and goes on behind the line feed
pub ended_at_feed :
    (before block : List ℕ) → has_feed block ≡ true
    → (ended before block ≡ (before ++ first_line block) ∷ ended [] (after_feed block))
    × (open_line before block ≡ open_line [] (after_feed block))
unfolding ended open_line has_feed first_line after_feed
ended_at_feed before [] h = absurd (true≢false (sym h))
ended_at_feed before (byte ∷ block) h = by_cases (eqb byte 10)
    (λ t. (rw (t, append-nil before), rw t))
    (λ f.
    let more = ended_at_feed (before ++ (byte ∷ [])) block (rw f at h) in (
      rw f (more.0 ∙ ap (λ (line : List ℕ). line ∷ ended [] (after_feed block)) (append_snoc before byte (first_line block))),
      rw f more.1,
    ))

-- a block without line feed ends no line, and adds all its bytes
pub ended_without_feed :
    (before block : List ℕ) → has_feed block ≡ false → (ended before block ≡ []) × (open_line before block ≡ before ++ block)
unfolding ended open_line has_feed
ended_without_feed before [] h = (refl, sym (append-nil before))
ended_without_feed before (byte ∷ block) h = by_cases (eqb byte 10)
    (λ t. absurd (true≢false (rw t at h)))
    (λ f.
    let more = ended_without_feed (before ++ (byte ∷ [])) block (rw f at h) in
    (rw f more.0, rw f (more.1 ∙ append_snoc before byte block)))

-- an empty line is held at size 0, and nothing else is
pub held_nothing : (buffer : List ℕ) {size : ℕ} → size ≡ 0 → Held [] buffer size
held_nothing buffer none = record { within = λ h. rw none; beyond = λ h. absurd (omega arith) }

-- one change of an open line behind another keeps the buffer
pub same_buffer_then : {held between after : OpenLine} → SameBuffer held between → SameBuffer between after → SameBuffer held after
same_buffer_then first second = record { reference = second.reference ∙ first.reference; room = second.room ∙ first.room }

-- a part from a place on that is lent
pub lent_from :
    (block : List ℕ) (from : ℕ) (part : Bor (List ℕ)) → part.now ≡ slice_range block from (length block) → part.now ≡ drop from block
lent_from block from part is = is ∙ take_all (length block - from) (drop from block) (omega (arith, length-drop from block))

-- where a part from a place on to the end is refused
pub beyond_end : {from end : ℕ} → (end < from) ⊎ (end < end) → end < from
beyond_end (inl beyond) = beyond
beyond_end (inr never) = absurd (omega (arith, never))

-- behind a block's end there is no line, and what is held stays
pub none_taken_behind : (block : List ℕ) (from : ℕ) (held : OpenLine) → length block < from → TakenFrom (drop from block) held held None
unfolding has_feed first_line
none_taken_behind block from held behind =
    rw (drop_of_length-le block {i = from} (omega arith)) (record { same = record { reference = refl; room = refl }; holds = λ line h. rw (append-nil line) h; behind = refl })

pub held_is_nothing : (line buffer : List ℕ) (size : ℕ) → size ≡ 0 → Held line buffer size → line ≡ []
held_is_nothing line buffer size none h = sym (h.within (omega arith)) ∙ rw none

-- a line that is held at a larger size has a byte
pub held_some : (line buffer : List ℕ) (size : ℕ) → 0 < size → Held line buffer size → 0 < length line
held_some line buffer size some h = by_cases (leb size (length buffer))
    (λ t.
    let inside = leb-true size (length buffer) t in
    omega (arith, ap length (h.within inside), length-take-le size buffer inside))
    (λ f. let long = h.beyond (leb-false size (length buffer) f) in omega arith)

-- ---- laws of the definitions that no proof cites today

-- the byte at a place of a block, where it is a line feed and where not
module _ (block : List ℕ) (at : ℕ) (inside : at < length block) where
  pub has_feed_here : get_or block at 0 ≡ 10 → has_feed (drop at block) ≡ true
  unfolding has_feed
  has_feed_here e = rw (drop_at_byte block at inside, eq-eqb _ _ e)

  pub first_line_here : get_or block at 0 ≡ 10 → first_line (drop at block) ≡ []
  unfolding first_line
  first_line_here e = rw (drop_at_byte block at inside, eq-eqb _ _ e)

  pub after_feed_here : get_or block at 0 ≡ 10 → after_feed (drop at block) ≡ drop (at + 1) block
  unfolding after_feed
  after_feed_here e = rw (drop_at_byte block at inside, eq-eqb _ _ e)

  pub has_feed_later : (get_or block at 0 ≡ 10 → ⊥) → has_feed (drop at block) ≡ has_feed (drop (at + 1) block)
  unfolding has_feed
  has_feed_later e = rw (drop_at_byte block at inside, ne_eqb _ _ e)

  pub first_line_longer : (get_or block at 0 ≡ 10 → ⊥) → first_line (drop at block) ≡ get_or block at 0 ∷ first_line (drop (at + 1) block)
  unfolding first_line
  first_line_longer e = rw (drop_at_byte block at inside, ne_eqb _ _ e)

  pub after_feed_later : (get_or block at 0 ≡ 10 → ⊥) → after_feed (drop at block) ≡ after_feed (drop (at + 1) block)
  unfolding after_feed
  after_feed_later e = rw (drop_at_byte block at inside, ne_eqb _ _ e)

  -- the bytes from a place up to here, and the one here
  pub part_longer : (from : ℕ) → from ≤ at → take (at + 1 - from) (drop from block) ≡ take (at - from) (drop from block) ++ (get_or block at 0 ∷ [])
  part_longer from h =
      let one : at + 1 - from ≡ suc (at - from) = omega arith in
      let place : from + (at - from) ≡ at = omega arith in
      let left = length-drop from block in
      rw (one, take-suc (drop from block) (at - from) 0 (omega arith), get_or-drop from block (at - from) 0, place)

-- at the end of a block
module _ (block : List ℕ) (at : ℕ) (done : at ≡ length block) where
  pub has_feed_none : has_feed (drop at block) ≡ false
  unfolding has_feed
  has_feed_none = rw (drop_at_end block at done)

  pub first_line_none : first_line (drop at block) ≡ []
  unfolding first_line
  first_line_none = rw (drop_at_end block at done)

-- a line that a buffer holds, with bytes added to it
module _ (buffer line bytes : List ℕ) (size : ℕ) (held : Held line buffer size) where
  pub held_longer : length buffer < size → Held (line ++ bytes) buffer size
  held_longer h =
      let long = held.beyond h in
      let more = length-append line bytes in
      record { within = λ w. absurd (omega arith); beyond = λ w. omega arith }

  pub held_overflow : size ≤ length buffer → length buffer - size < length bytes → Held (line ++ bytes) buffer (length buffer + 1)
  held_overflow h g =
      let here : length (take size buffer) ≡ length line = ap length (held.within h) in
      let long = length-take-le size buffer h in
      let more = length-append line bytes in
      record { within = λ w. absurd (omega arith); beyond = λ w. omega arith }

  pub held_append : size + length bytes ≤ length buffer → Held (line ++ bytes) (placed buffer size bytes) (size + length bytes)
  held_append h =
      let same = length_placed buffer size bytes h in
      record {
        within = λ w. upto_placed buffer size bytes (omega arith) ∙ ap (λ (s : List ℕ). s ++ bytes) (held.within (omega arith));
        beyond = λ w. absurd (omega arith);
      }

-- nothing is taken from a place past the end of a block
pub past_the_end : (block : List ℕ) (from : ℕ) → length block < from → drop from block ≡ []
past_the_end block from h = drop_of_length-le block {i = from} (omega arith)
