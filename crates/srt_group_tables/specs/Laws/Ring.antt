-- What is proved of the definitions in specs/Ring.antt, with what the proofs need.
use Rattle.std.specs.Option.{MatchOption, unwrap_or}
use Rattle.std.specs.Prelude.{None, Option, Some, ◌≡◌, Bool, true, false, ◌⊎◌, leb, length, get_or, drop}
use Rattle.std.proofs.Math.Path.{ap, sym}
use Rattle.std.proofs.Common.{◌∙◌, inl, inr, add-one, le-leb, le-ltb, lt-ltb, get_or-set_same, get_or-set_other}
use mathlib.Core.List.{List, [], ◌∷◌, ◌++◌}
use Prim.Native.Nat.{ℕ, zero, suc, ◌+◌, ◌-◌, ◌%◌, ◌≤◌, ◌<◌}
use Rattle.std.proofs.Math.Decide.{dec_lt}
use native.Mathlib.Omega.{arith}
use Rattle.std.proofs.lemmas.Bool.{lt-leb}
use Rattle.srt_protocol.specs.Sequence.{sequence_before}
use Rattle.srt_group_model.specs.declared.Entry.{Entry}
use Rattle.srt_group_model.specs.Tools.{if_true◌then◌else◌}
use Rattle.srt_group_model.specs.Backup.{max_history, drop_before}
use Rattle.srt_group_tables.specs.declared.history.HistoryRing.{HistoryRing}
use Rattle.word_rows.specs.Tab.{tab}
use Rattle.word_rows.specs.Laws.Tab.{tab_length, tab_front, tab_none, tab_pop, tab_push, tab_same}
use Rattle.srt_group_tables.specs.Ring.{entry_word, word_sequence, word_cell, word_length, Packs, Arrays, Long, entry_in, entry_at, entries_of, with_entry, next_place, after_push, Trimmed}
use Rattle.srt_group_model.specs.State.{entry_of}

-- ---- a word: a sequence, a cell and a length

-- what was put into a word is what it shows
module _ (sequence cell length : ℕ) (packs : Packs sequence cell length) where
  pub shows_sequence : word_sequence (entry_word sequence cell length) ≡ sequence
  shows_sequence = omega arith

  pub shows_cell : word_cell (entry_word sequence cell length) ≡ cell
  shows_cell = omega arith

  pub shows_length : word_length (entry_word sequence cell length) ≡ length
  shows_length = omega arith

-- ---- the arrays

-- the entry whose parts were read at a place of the arrays; cited by no proof, it stands for who reads `entry_at`
pub entry_shown : (r : HistoryRing) (a : Arrays) (i at : ℕ) {sequence cell size : ℕ} → at ≡ (r.start + i) % 512
    → sequence ≡ word_sequence (get_or a.history at 0) → cell ≡ word_cell (get_or a.history at 0)
    → size ≡ word_length (get_or a.history at 0)
    → entry_of sequence cell size (get_or a.sources at 0) ≡ entry_at r a i
entry_shown r a i at is sequence cell size =
    (λ j. entry_of (sequence j) (cell j) (size j) (get_or a.sources at 0))
    ∙ ap (entry_in a) is

-- the model's history after a send: the entry is the newest, and a full history loses its oldest
unfoldable pub with_newest : Entry → List Entry → List Entry
with_newest e entries = (if_true leb max_history (length entries) then drop 1 entries else entries) ++ (e ∷ [])

-- the ring without its oldest entry
abbrev pub popped : HistoryRing → HistoryRing
popped r = record { start = (r.start % max_history + 1) % max_history; length = r.length - 1 }

-- ---- an entry is pushed

newest_with_room : (e : Entry) (entries : List Entry) → length entries < max_history → with_newest e entries ≡ entries ++ (e ∷ [])
unfolding with_newest if_true◌then◌else◌
newest_with_room e entries room = simp (lt-leb max_history (length entries) room)

newest_of_full : (e : Entry) (entries : List Entry) → max_history ≤ length entries
    → with_newest e entries ≡ drop 1 entries ++ (e ∷ [])
unfolding with_newest if_true◌then◌else◌
newest_of_full e entries full = simp (le-leb max_history (length entries) full)

pub push_with_room : (r : HistoryRing) → r.length < max_history → after_push r ≡ record { start = r.start; length = r.length + 1 }
unfolding after_push if_true◌then◌else◌
push_with_room r room = simp (lt-ltb r.length max_history room)

pub push_of_full : (r : HistoryRing) → max_history ≤ r.length → after_push r ≡ record { start = (r.start % max_history + 1) % max_history; length = r.length }
unfolding after_push if_true◌then◌else◌
push_of_full r full = simp (le-ltb r.length max_history full)

module _ (a : Arrays) (k : ℕ) (e : Entry) where
  entry_elsewhere : (j : ℕ) → (j ≡ k → ⊥) → entry_in (with_entry k e a) j ≡ entry_in a j
  entry_elsewhere j other =
      let word = get_or-set_other a.history k j (entry_word e.sequence e.cell e.length) 0 other in
      let source = get_or-set_other a.sources k j e.source.0 0 other in
      λ i. entry_of (word_sequence (word i)) (word_cell (word i)) (word_length (word i)) (source i)

  entry_there : Long a → Packs e.sequence e.cell e.length → k < max_history → entry_in (with_entry k e a) k ≡ e
  entry_there long packs inside =
      let word = get_or-set_same a.history k (entry_word e.sequence e.cell e.length) 0 (omega (arith, long.history)) in
      let sequence = ap word_sequence word ∙ shows_sequence e.sequence e.cell e.length packs in
      let cell = ap word_cell word ∙ shows_cell e.sequence e.cell e.length packs in
      let size = ap word_length word ∙ shows_length e.sequence e.cell e.length packs in
      let source = get_or-set_same a.sources k e.source.0 0 (omega (arith, long.sources)) in
      λ i. entry_of (sequence i) (cell i) (size i) (source i)

module _ (r : HistoryRing) (a : Arrays) where
  front_popped : 0 < r.length → entries_of (popped r) a ≡ drop 1 (entries_of r a)
  front_popped some =
      tab_pop (r.length - 1) (entry_at r a) (entry_at (popped r) a) (λ i below. ap (entry_in a) (omega arith))
      ∙ ap (λ (n : ℕ). drop 1 (tab n (entry_at r a))) (omega arith)

  module _ (e : Entry) (long : Long a) (packs : Packs e.sequence e.cell e.length) (fits : r.length ≤ max_history) where
    abbrev stored : Arrays
    stored = with_entry (next_place r) e a

    -- every other entry stays
    kept : (i : ℕ) → 0 < i ⊎ r.length < max_history → i < r.length → entry_in stored ((r.start + i) % max_history) ≡ entry_at r a i
    kept i apart below = entry_elsewhere a (next_place r) e ((r.start + i) % max_history) (elsewhere apart)
      where
        elsewhere : 0 < i ⊎ r.length < max_history → (r.start + i) % max_history ≡ next_place r → ⊥
        elsewhere (inl later) same = omega arith
        elsewhere (inr room) same = omega arith

    there : entry_in stored (next_place r) ≡ e
    there = entry_there a (next_place r) e long packs (omega arith)

    pushed_with_room : r.length < max_history → entries_of (after_push r) stored ≡ with_newest e (entries_of r a)
    pushed_with_room room =
        ap (λ (x : HistoryRing). entries_of x stored) (push_with_room r room)
        ∙ ap (λ (n : ℕ). tab n (λ i. entry_in stored ((r.start + i) % max_history))) (add-one r.length)
        ∙ tab_push r.length (entry_at r a) (λ i. entry_in stored ((r.start + i) % max_history)) e (λ i below. kept i (inr room) below) there
        ∙ sym (newest_with_room e (entries_of r a) (omega (arith, tab_length r.length (entry_at r a))))

    turned : HistoryRing
    turned = record { start = (r.start % max_history + 1) % max_history; length = r.length }

    pushed_full : max_history ≤ r.length → entries_of (after_push r) stored ≡ with_newest e (entries_of r a)
    unfolding turned
    pushed_full full =
        ap (λ (x : HistoryRing). entries_of x stored) (push_of_full r full)
        ∙ ap (λ (n : ℕ). tab n (entry_at turned stored)) one_more
        ∙ tab_push (r.length - 1) (entry_at (popped r) a) (entry_at turned stored) e same last
        ∙ ap (λ (es : List Entry). es ++ (e ∷ [])) (front_popped (omega arith))
        ∙ sym (newest_of_full e (entries_of r a) (omega (arith, tab_length r.length (entry_at r a))))
      where
        one_more : r.length ≡ suc (r.length - 1)
        one_more = omega arith

        same : (i : ℕ) → i < r.length - 1 → entry_at turned stored i ≡ entry_at (popped r) a i
        same i below =
            ap (entry_in stored) (omega arith) ∙ kept (suc i) (inl (omega arith)) (omega arith) ∙ ap (entry_in a) (omega arith)

        last : entry_at turned stored (r.length - 1) ≡ e
        last = ap (entry_in stored) (omega arith) ∙ there

    -- the entry stored behind the newest, and the ring moved on: the model's history with the entry
    pub pushed : entries_of (after_push r) stored ≡ with_newest e (entries_of r a)
    pushed = by (dec_lt r.length max_history)
      where
        by : Dec (r.length < max_history) → entries_of (after_push r) stored ≡ with_newest e (entries_of r a)
        by (yes room) = pushed_with_room room
        by (no full) = pushed_full (omega arith)

pub push_fits : (r : HistoryRing) → r.length ≤ max_history → (after_push r).length ≤ max_history
push_fits r fits = by (dec_lt r.length max_history)
  where
    by : Dec (r.length < max_history) → (after_push r).length ≤ max_history
    by (yes room) = omega (arith, ap (λ (x : HistoryRing). x.length) (push_with_room r room))
    by (no full) = omega (arith, ap (λ (x : HistoryRing). x.length) (push_of_full r (omega arith)))

-- ---- the front is dropped

first_goes : (sequence : ℕ) (e : Entry) (es : List Entry) → sequence_before e.sequence sequence ≡ true
    → drop_before sequence (e ∷ es) ≡ drop_before sequence es
unfolding drop_before if_true◌then◌else◌
first_goes sequence e es first = rw first

first_stays : (sequence : ℕ) (e : Entry) (es : List Entry) → sequence_before e.sequence sequence ≡ false
    → drop_before sequence (e ∷ es) ≡ e ∷ es
unfolding drop_before if_true◌then◌else◌
first_stays sequence e es first = rw first

module _ (r : HistoryRing) (sequence : ℕ) (history : List ℕ) (a : Arrays) (is : a.history ≡ history) where
  front_and_rest : 0 < r.length → entries_of r a ≡ entry_at r a 0 ∷ entries_of (popped r) a
  front_and_rest some =
      tab_front r.length (entry_at r a) some ∙ ap (λ (es : List Entry). entry_at r a 0 ∷ es) (sym (front_popped r a some))

  front_sequence : (b : Bool) → sequence_before (word_sequence (get_or history (r.start % max_history) 0)) sequence ≡ b
      → sequence_before (entry_at r a 0).sequence sequence ≡ b
  front_sequence b first =
      ap (λ (l : List ℕ). sequence_before (word_sequence (get_or l ((r.start + 0) % max_history) 0)) sequence) is
      ∙ ap (λ (n : ℕ). sequence_before (word_sequence (get_or history n 0)) sequence) (omega arith)
      ∙ first

  front_dropped : 0 < r.length → sequence_before (word_sequence (get_or history (r.start % max_history) 0)) sequence ≡ true
      → drop_before sequence (entries_of (popped r) a) ≡ drop_before sequence (entries_of r a)
  front_dropped some first =
      sym
      (ap (drop_before sequence) (front_and_rest some)
      ∙ first_goes sequence (entry_at r a 0) (entries_of (popped r) a) (front_sequence true first))

  front_stays : 0 < r.length → sequence_before (word_sequence (get_or history (r.start % max_history) 0)) sequence ≡ false
      → entries_of r a ≡ drop_before sequence (entries_of r a)
  front_stays some first =
      front_and_rest some
      ∙ sym
      (ap (drop_before sequence) (front_and_rest some)
      ∙ first_stays sequence (entry_at r a 0) (entries_of (popped r) a) (front_sequence false first))

  none_dropped : r.length ≡ 0 → entries_of r a ≡ drop_before sequence (entries_of r a)
  unfolding drop_before
  none_dropped none =
      tab_none r.length (entry_at r a) none ∙ sym (ap (drop_before sequence) (tab_none r.length (entry_at r a) none))

-- where the walk of `drop_before` stands: what is left to drop gives what all of it gives
pub record Trimming (sequence : ℕ) (history : List ℕ) (before : HistoryRing) (start left : ℕ) : Type 0 where
  pub fits : left ≤ before.length
  pub same : (a : Arrays) → a.history ≡ history
      → drop_before sequence (entries_of record { start = start; length = left } a) ≡ drop_before sequence (entries_of before a)

module _ (sequence : ℕ) (history : List ℕ) (before : HistoryRing) (start left : ℕ) (here : Trimming sequence history before start left) where
  abbrev ring : HistoryRing
  ring = record { start = start; length = left }

  pub trimmed_one : 0 < left → sequence_before (word_sequence (get_or history (start % max_history) 0)) sequence ≡ true
      → Trimming sequence history before ((start % max_history + 1) % max_history) (left - 1)
  trimmed_one some first =
      record {
        fits = omega (arith, here.fits);
        same = λ a is. front_dropped ring sequence history a is some first ∙ here.same a is;
      }

  pub trimmed_there : 0 < left → sequence_before (word_sequence (get_or history (start % max_history) 0)) sequence ≡ false
      → Trimmed sequence history before ring
  trimmed_there some first =
      record { fits = here.fits; is = λ a is. front_stays ring sequence history a is some first ∙ here.same a is }

  pub trimmed_all : left ≡ 0 → Trimmed sequence history before ring
  trimmed_all none =
      record { fits = here.fits; is = λ a is. none_dropped ring sequence history a is none ∙ here.same a is }

-- the walk ends at the first entry that stays, or behind the last
module _ (sequence : ℕ) (history : List ℕ) (before : HistoryRing) where
  abbrev goes : ℕ → Bool
  goes k = sequence_before (word_sequence (get_or history ((before.start + k) % max_history) 0)) sequence

  trimming_at : (i : ℕ) → i ≤ before.length → ((k : ℕ) → k < i → goes k ≡ true)
      → Trimming sequence history before ((before.start + i) % max_history) (before.length - i)
  trimming_at zero below all =
      let none : before.length - 0 ≡ before.length = omega arith in
      rw none
      record {
        fits = omega arith;
        same =
            λ a is.
            ap (drop_before sequence)
            (tab_same before.length (entry_at before a) (entry_at record { start = (before.start + 0) % max_history; length = before.length } a)
            (λ k h. ap (entry_in a) (omega arith)));
      }
  trimming_at (suc i) below all =
      let at : (before.start + suc i) % max_history ≡ ((before.start + i) % max_history % max_history + 1) % max_history = omega arith in
      let left : before.length - suc i ≡ before.length - i - 1 = omega arith in
      rw (at, left)
      (trimmed_one sequence history before ((before.start + i) % max_history) (before.length - i) (trimming_at i (omega arith) (λ k h. all k (omega arith)))
      (omega arith)
      (ap (λ (k : ℕ). sequence_before (word_sequence (get_or history k 0)) sequence) (omega arith) ∙ all i (omega arith)))

  -- what `find` tells of the walk
  abbrev pub Ends : Option ℕ → Type 0
  Ends found =
      MatchOption found ((k : ℕ) → 0 ≤ k → k < before.length → goes k ≡ true)
      (λ i. (0 ≤ i) × (i < before.length) × (goes i ≡ false) × ((k : ℕ) → 0 ≤ k → k < i → goes k ≡ true))

  pub ends_within : (found : Option ℕ) → Ends found → unwrap_or found before.length ≤ before.length
  ends_within None all = omega arith
  ends_within (Some i) there = omega (arith, there.1)

  pub trimmed_found : (found : Option ℕ) → Ends found
      → Trimmed sequence history before
      record { start = (before.start + unwrap_or found before.length) % max_history; length = before.length - unwrap_or found before.length }
  trimmed_found None all =
      trimmed_all sequence history before ((before.start + before.length) % max_history) (before.length - before.length)
      (trimming_at before.length (omega arith) (λ k h. all k (omega arith) h)) (omega arith)
  trimmed_found (Some i) there =
      trimmed_there sequence history before ((before.start + i) % max_history) (before.length - i)
      (trimming_at i (omega (arith, there.1)) (λ k h. there.3 k (omega arith) h)) (omega (arith, there.1))
      (ap (λ (k : ℕ). sequence_before (word_sequence (get_or history k 0)) sequence) (omega arith) ∙ there.2)

  -- the first entry stays, or there is none
  pub trimmed_nothing : (found : Option ℕ) → Ends found → unwrap_or found before.length ≡ 0 → Trimmed sequence history before before
  trimmed_nothing found ends none = by found ends none where
    whole : Trimming sequence history before before.start before.length
    whole = record { fits = omega arith; same = λ a is i. drop_before sequence (entries_of before a) }

    by : (f : Option ℕ) → Ends f → unwrap_or f before.length ≡ 0 → Trimmed sequence history before before
    by None all none = trimmed_all sequence history before before.start before.length whole none
    by (Some i) stays none =
        trimmed_there sequence history before before.start before.length whole (omega (arith, stays.1, none))
        (ap (λ (k : ℕ). sequence_before (word_sequence (get_or history k 0)) sequence) (omega (arith, none)) ∙ stays.2)
