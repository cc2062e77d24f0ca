-- Laws of the pending packets: a search that halves, a packet put into its place and one taken out, the nearest, and
-- packets that become the group's own.
use Rattle.std.specs.Prelude.{◌≡◌, refl, Bool, true, false, ◌||◌, List, [], ◌∷◌, ◌++◌, ℕ, zero, suc, ◌+◌, ◌*◌, ◌-◌, ◌%◌, ◌≤◌, ◌<◌, length, drop, get_or, set, ltb, leb, eqb, None, Option, Some}
use Rattle.std.proofs.Common.{ap, sym, subst, ◌∙◌, ⊎_elim, eq-or-lt_of_le, add-one, arith, length-set}
use Rattle.std.proofs.Math.Decide.{dec_lt, ℕ_discrete}
use Rattle.std.proofs.Math.ListN.{drop_of_length-le}
use borrow.Author.Tests.{lt-ltb, le-ltb, le-leb, lt-leb, eq-eqb, ne_eqb, ltb-true}
use Rattle.word_rows.specs.Tab.{tab, removed}
use Rattle.word_rows.specs.Laws.Tab.{tab_same, tab_none, tab_insert, tab_remove, tab_length, inserted}
use Rattle.srt_protocol.specs.Sequence.{half}
use Rattle.srt_protocol.specs.Cells.{max_cells, overwritten}
use Rattle.srt_group_model.specs.declared.Packet.{Packet}
use Rattle.srt_group_model.specs.Laws.Reason.{and_left, and_right}
use Rattle.srt_group_model.specs.Tools.{if_true◌then◌else◌, if_some◌give◌otherwise◌, or_else, any, place_of, such_that, each}
use Rattle.srt_group_model.specs.Cells.{is_among}
use Rattle.srt_group_model.specs.Sound.{pending_cells}
use Rattle.srt_group_model.specs.Nearest.{sequence_of, has_sequence, is_held, insert, lowest, nearest}
use Rattle.srt_group_model.specs.Removal.{own_packet, by_group}
use Rattle.srt_group_model.specs.Validity.{max_pending, ascends}
use Rattle.srt_group_tables.specs.Packets.{index_size, pending_size, packet_row_size, index_rows, start_of, round, slot_of, row_words, MovedUp, MovedDown, packet_at, packets, Placed, Holds, WithRoom, Without, place_found, in_use}
use Rattle.srt_group_tables.specs.Laws.PacketIndex.{cell_of, round_there, round_elsewhere, index_lent, index_back, back_length, restarted, restarted_length, moved_shown, restarted_shown, put_in, put_length, put_there, put_elsewhere, member_word, same_member, owned_same_cell, owned_other_cell}

pub drop_zero : (l : List Packet) → drop 0 l ≡ l
drop_zero [] = refl
drop_zero (p ∷ l) = refl

pub each_append : {A B : Type 0} (f : A → B) (l k : List A) → each f (l ++ k) ≡ each f l ++ each f k
unfolding each
each_append f [] k = refl
each_append {A} {B} f (x ∷ xs) k = ap (λ (r : List B). f x ∷ r) (each_append f xs k)

pub each_tab : {A B : Type 0} (f : A → B) (n : ℕ) (g : ℕ → A) → each f (tab n g) ≡ tab n (λ i. f (g i))
unfolding each tab
each_tab f zero g = refl
each_tab f (suc n) g = cc (each_tab f n (λ i. g (suc i)))

-- ---- ascending packets

-- each sequence is below the next
module _ (f : ℕ → Packet) where
  next_below : (n : ℕ) → ascends (tab (suc (suc n)) f) ≡ true → sequence_of (f 0) < sequence_of (f 1)
  unfolding ascends tab
  next_below n up = ltb-true _ _ (and_left (ltb (sequence_of (f 0)) (sequence_of (f 1))) (ascends (tab (suc n) (λ i. f (suc i)))) up)

  rest_ascends : (n : ℕ) → ascends (tab (suc (suc n)) f) ≡ true → ascends (tab (suc n) (λ i. f (suc i))) ≡ true
  unfolding ascends tab
  rest_ascends n up = and_right (ltb (sequence_of (f 0)) (sequence_of (f 1))) (ascends (tab (suc n) (λ i. f (suc i)))) up

-- so of two places the higher has the higher sequence
pub ascends_up : (n : ℕ) (f : ℕ → Packet) → ascends (tab n f) ≡ true → (i j : ℕ) → i < j → j < n
    → sequence_of (f i) < sequence_of (f j)
ascends_up zero f up i j less below = absurd (omega arith)
ascends_up (suc zero) f up i j less below = absurd (omega arith)
ascends_up (suc (suc n)) f up zero zero less below = absurd (omega arith)
ascends_up (suc (suc n)) f up zero (suc zero) less below = next_below f n up
ascends_up (suc (suc n)) f up zero (suc (suc j)) less below =
    omega (
      arith,
      next_below f n up,
      ascends_up (suc n) (λ k. f (suc k)) (rest_ascends f n up) zero (suc j) (omega arith) (omega arith),
    )
ascends_up (suc (suc n)) f up (suc i) zero less below = absurd (omega arith)
ascends_up (suc (suc n)) f up (suc i) (suc j) less below =
    ascends_up (suc n) (λ k. f (suc k)) (rest_ascends f n up) i j (omega arith) (omega arith)

pub ascends_le : (n : ℕ) (f : ℕ → Packet) → ascends (tab n f) ≡ true → (i j : ℕ) → i ≤ j → j < n
    → sequence_of (f i) ≤ sequence_of (f j)
ascends_le n f up i j less below =
    ⊎_elim (λ same. rw same (omega arith)) (λ more. omega (arith, ascends_up n f up i j more below)) (eq-or-lt_of_le less)

-- ---- a search that halves: the place is between `low` and `high`

pub record Between (words : List ℕ) (count sequence low high : ℕ) : Type 0 where
  pub ordered : low ≤ high
  pub within : high ≤ count
  pub below : (k : ℕ) → k < low → sequence_of (packet_at words k) < sequence
  pub above : (k : ℕ) → high ≤ k → k < count → sequence ≤ sequence_of (packet_at words k)

module _ (words : List ℕ) (count sequence : ℕ) (up : ascends (packets count words) ≡ true) where
  pub between_above : {low high : ℕ} → Between words count sequence low high → (middle : ℕ) → middle < high
      → sequence_of (packet_at words middle) < sequence → Between words count sequence (middle + 1) high
  between_above here middle inside less =
      record {
        ordered = omega arith;
        within = here.within;
        below =
            λ k lower.
            omega (arith, ascends_le count (packet_at words) up k middle (omega arith) (omega (arith, here.within)));
        above = here.above;
      }

  pub between_below : {low high : ℕ} → Between words count sequence low high → (middle : ℕ) → low ≤ middle → middle < high
      → sequence ≤ sequence_of (packet_at words middle) → Between words count sequence low middle
  between_below here middle inside upper less =
      record {
        ordered = inside;
        within = omega (arith, here.within);
        below = here.below;
        above =
            λ k higher inside_count.
            omega (arith, ascends_le count (packet_at words) up middle k higher inside_count);
      }

-- where a search that looks at the ends first begins; cited by no proof, it stands for who reads `Between`
pub between_all : (words : List ℕ) (count sequence : ℕ) → Between words count sequence 0 count
between_all words count sequence =
    record {
      ordered = omega arith;
      within = omega arith;
      below = λ k lower. absurd (omega arith);
      above = λ k higher inside. absurd (omega arith);
    }

pub placed_between : (words : List ℕ) (count sequence low high : ℕ) → Between words count sequence low high → high ≤ low → Placed words count sequence low
placed_between words count sequence low high here met =
    record {
      within = omega (arith, here.within, here.ordered);
      below = here.below;
      above = λ k higher inside. here.above k (omega arith) inside;
    }

module _ (words : List ℕ) (count sequence : ℕ) (up : ascends (packets count words) ≡ true) where
  pub placed_behind : (last : ℕ) → last < count → count ≤ last + 1 → sequence_of (packet_at words last) < sequence → Placed words count sequence count
  placed_behind last inside end less =
      placed_between words count sequence count count
      (record {
        ordered = omega arith;
        within = omega arith;
        below = λ k lower. omega (arith, ascends_le count (packet_at words) up k last (omega arith) inside);
        above = λ k higher below. absurd (omega arith);
      })
      (omega arith)

  pub placed_first : sequence ≤ sequence_of (packet_at words 0) → Placed words count sequence 0
  placed_first less =
      record {
        within = omega arith;
        below = λ k lower. absurd (omega arith);
        above = λ k higher inside. omega (arith, ascends_le count (packet_at words) up 0 k (omega arith) inside);
      }

-- ---- whether a sequence is held, by what stands at its place

place_there : (n : ℕ) (f : ℕ → Packet) (sequence place : ℕ) → place < n → ((k : ℕ) → k < place → sequence_of (f k) < sequence)
    → sequence_of (f place) ≡ sequence → place_of (has_sequence sequence) (tab n f) ≡ Some place
unfolding place_of tab if_true◌then◌else◌ if_some◌give◌otherwise◌
place_there zero f sequence place inside below is = absurd (omega arith)
place_there (suc n) f sequence zero inside below is = rw (eq-eqb (sequence_of (f 0)) sequence is)
place_there (suc n) f sequence (suc place) inside below is =
    rw (
      ne_eqb (sequence_of (f 0)) sequence (λ same. omega (arith, below 0 (omega arith))),
      place_there n (λ i. f (suc i)) sequence place (omega arith) (λ k lower. below (suc k) (omega arith)) is,
    )

place_nowhere : (n : ℕ) (f : ℕ → Packet) (sequence : ℕ) → ((k : ℕ) → k < n → sequence_of (f k) ≡ sequence → ⊥)
    → place_of (has_sequence sequence) (tab n f) ≡ None
unfolding place_of tab if_true◌then◌else◌ if_some◌give◌otherwise◌
place_nowhere zero f sequence never = refl
place_nowhere (suc n) f sequence never =
    rw (
      ne_eqb (sequence_of (f 0)) sequence (never 0 (omega arith)),
      place_nowhere n (λ i. f (suc i)) sequence (λ k lower. never (suc k) (omega arith)),
    )

module _ (words : List ℕ) (count sequence place : ℕ) (at : Placed words count sequence place) where
  pub find_there : place < count → sequence_of (packet_at words place) ≡ sequence → place_found sequence (packets count words) ≡ Some place
  find_there inside is =
      (place_there count (packet_at words) sequence place inside at.below is)

  pub find_past : count ≤ place → place_found sequence (packets count words) ≡ None
  find_past past =
      (place_nowhere count (packet_at words) sequence (λ k inside is. omega (arith, at.below k (omega arith))))

  pub find_other : ascends (packets count words) ≡ true → place < count → (sequence_of (packet_at words place) ≡ sequence → ⊥)
      → place_found sequence (packets count words) ≡ None
  find_other up inside other = (place_nowhere count (packet_at words) sequence never)
    where
      never : (k : ℕ) → k < count → sequence_of (packet_at words k) ≡ sequence → ⊥
      never k inside_k is = go (dec_lt k place) (dec_lt place k)
        where
          go : Dec (k < place) → Dec (place < k) → ⊥
          go (yes lower) h = omega (arith, at.below k lower)
          go (no l) (yes higher) =
              omega (arith, at.above place (omega arith) inside, ascends_up count (packet_at words) up place k higher inside_k)
          go (no l) (no h) = other (ap (λ (i : ℕ). sequence_of (packet_at words i)) (omega arith) ∙ is)

-- ---- a turn of each loop that moves words round the ring

-- those from `at` up to `end` have moved, and those below have not
pub record MovingUp (width start : ℕ) (before : List ℕ) (from end : ℕ) (here : List ℕ) (at : ℕ) : Type 0 where
  pub after : from ≤ at
  pub within : at ≤ end
  pub long : length here ≡ length before
  pub low : (k : ℕ) → k < at + width → k < index_size → get_or here (round start k) 0 ≡ get_or before (round start k) 0
  pub moved : (k : ℕ) → at ≤ k → k < end → get_or here (round start (k + width)) 0 ≡ get_or before (round start k) 0
  pub high : (k : ℕ) → end + width ≤ k → k < index_size → get_or here (round start k) 0 ≡ get_or before (round start k) 0

module _ (width start : ℕ) (before : List ℕ) (from end : ℕ) (long : length before ≡ index_size) (fits : end + width ≤ index_size) where
  pub up_start : from ≤ end → MovingUp width start before from end before end
  up_start ordered =
      record {
        after = ordered;
        within = omega arith;
        long = refl;
        low = λ k lower inside. refl;
        moved = λ k higher lower. absurd (omega arith);
        high = λ k higher inside. refl;
      }

  module _ (here : List ℕ) (at : ℕ) (so_far : MovingUp width start before from end here at) where
    pub up_turn : from < at
        → MovingUp width start before from end (set here (round start (at - 1 + width)) (get_or here (round start (at - 1)) 0)) (at - 1)
    up_turn left =
        record {
          after = omega arith;
          within = omega (arith, so_far.within);
          long = length-set here (round start (at - 1 + width)) word ∙ so_far.long;
          low = λ k lower inside. elsewhere k inside (λ q. omega arith) ∙ so_far.low k (omega arith) inside;
          moved = λ k higher lower. moved k (dec_lt (at - 1) k) higher lower;
          high = λ k higher inside. elsewhere k inside (λ q. omega (arith, so_far.within)) ∙ so_far.high k higher inside;
        }
      where
        word : ℕ
        word = get_or here (round start (at - 1)) 0

        here_long : length here ≡ index_size
        here_long = so_far.long ∙ long

        to_low : at - 1 + width < index_size
        to_low = omega (arith, so_far.within)

        elsewhere : (k : ℕ) → k < index_size → (k ≡ at - 1 + width → ⊥)
            → get_or (set here (round start (at - 1 + width)) word) (round start k) 0 ≡ get_or here (round start k) 0
        elsewhere k inside other = round_elsewhere here start (at - 1 + width) word here_long to_low k inside other

        moved : (k : ℕ) → Dec (at - 1 < k) → at - 1 ≤ k → k < end
            → get_or (set here (round start (at - 1 + width)) word) (round start (k + width)) 0 ≡ get_or before (round start k) 0
        moved k (yes above) higher lower = elsewhere (k + width) (omega arith) (λ q. omega arith) ∙ so_far.moved k (omega arith) lower
        moved k (no not_above) higher lower =
            let same : k ≡ at - 1 = omega arith in
            ap (λ (n : ℕ). get_or (set here (round start (at - 1 + width)) word) (round start (n + width)) 0) same
            ∙ round_there here start (at - 1 + width) word here_long to_low
            ∙ so_far.low (at - 1) (omega arith) (omega (arith, so_far.within))
            ∙ ap (λ (n : ℕ). get_or before (round start n) 0) (sym same)

    pub up_done : at ≤ from → MovedUp width start before from end here
    up_done past =
        record {
          long = so_far.long;
          low = λ k lower. so_far.low k (omega (arith, so_far.after)) (omega (arith, so_far.after, so_far.within));
          moved = λ k higher lower. so_far.moved k (omega arith) lower;
          high = so_far.high;
        }

-- those before `at` have moved, and those from there on have not
pub record MovingDown (width start : ℕ) (before : List ℕ) (from end : ℕ) (here : List ℕ) (at : ℕ) : Type 0 where
  pub after : from ≤ at
  pub within : at + width ≤ end
  pub long : length here ≡ length before
  pub low : (k : ℕ) → k < from → get_or here (round start k) 0 ≡ get_or before (round start k) 0
  pub moved : (k : ℕ) → from ≤ k → k < at → get_or here (round start k) 0 ≡ get_or before (round start (k + width)) 0
  pub rest : (k : ℕ) → at ≤ k → k < index_size → get_or here (round start k) 0 ≡ get_or before (round start k) 0

module _ (width start : ℕ) (before : List ℕ) (from end : ℕ) (long : length before ≡ index_size) (fits : end ≤ index_size) where
  pub down_start : from + width ≤ end → MovingDown width start before from end before from
  down_start ordered =
      record {
        after = omega arith;
        within = ordered;
        long = refl;
        low = λ k lower. refl;
        moved = λ k higher lower. absurd (omega arith);
        rest = λ k higher inside. refl;
      }

  module _ (here : List ℕ) (at : ℕ) (so_far : MovingDown width start before from end here at) where
    pub down_turn : at + width < end
        → MovingDown width start before from end (set here (round start at) (get_or here (round start (at + width)) 0)) (at + 1)
    down_turn left =
        record {
          after = omega (arith, so_far.after);
          within = omega arith;
          long = length-set here (round start at) word ∙ so_far.long;
          low = λ k lower. elsewhere k (omega (arith, so_far.after)) (λ q. omega (arith, so_far.after)) ∙ so_far.low k lower;
          moved = λ k higher lower. moved k (dec_lt k at) higher lower;
          rest = λ k higher inside. elsewhere k inside (λ q. omega arith) ∙ so_far.rest k (omega arith) inside;
        }
      where
        word : ℕ
        word = get_or here (round start (at + width)) 0

        here_long : length here ≡ index_size
        here_long = so_far.long ∙ long

        elsewhere : (k : ℕ) → k < index_size → (k ≡ at → ⊥) → get_or (set here (round start at) word) (round start k) 0 ≡ get_or here (round start k) 0
        elsewhere k inside other = round_elsewhere here start at word here_long (omega arith) k inside other

        moved : (k : ℕ) → Dec (k < at) → from ≤ k → k < at + 1 → get_or (set here (round start at) word) (round start k) 0 ≡ get_or before (round start (k + width)) 0
        moved k (yes below) higher lower = elsewhere k (omega arith) (λ q. omega arith) ∙ so_far.moved k higher below
        moved k (no not_below) higher lower =
            let same : k ≡ at = omega arith in
            ap (λ (n : ℕ). get_or (set here (round start at) word) (round start n) 0) same
            ∙ round_there here start at word here_long (omega arith)
            ∙ so_far.rest (at + width) (omega arith) (omega arith)
            ∙ ap (λ (n : ℕ). get_or before (round start (n + width)) 0) (sym same)

    pub down_done : end ≤ at + width → MovedDown width start before from end here
    down_done past =
        record {
          long = so_far.long;
          low = so_far.low;
          moved = λ k higher lower. so_far.moved k higher (omega arith);
          high = λ k higher inside. so_far.rest k (omega (arith, so_far.within)) inside;
        }

-- ---- a packet put into its place

none_passes : {A : Type 0} (test : A → Bool) (n : ℕ) (f : ℕ → A) → any test (tab n f) ≡ false → (k : ℕ) → k < n
    → test (f k) ≡ true → ⊥
unfolding tab any
none_passes test zero f none_of k inside passes = omega arith
none_passes test (suc n) f none_of zero inside passes = not_first (test (f 0)) (any test (tab n (λ i. f (suc i)))) none_of passes
  where
    not_first : (a b : Bool) → (a || b) ≡ false → a ≡ true → ⊥
    not_first true b neither first = let different : ◌≡◌ {A = ℕ} 0 1 = cc in omega arith
    not_first false b neither first = let different : ◌≡◌ {A = ℕ} 0 1 = cc in omega arith
none_passes test (suc n) f none_of (suc k) inside passes =
    none_passes test n (λ i. f (suc i)) (or_right (test (f 0)) (any test (tab n (λ i. f (suc i)))) none_of) k (omega arith) passes
  where
    or_right : (a b : Bool) → (a || b) ≡ false → b ≡ false
    or_right true b e = let different : ◌≡◌ {A = ℕ} 0 1 = cc in absurd (omega arith)
    or_right false b e = e

never_held : (n : ℕ) (f : ℕ → Packet) (sequence : ℕ) → is_held sequence (tab n f) ≡ false → (k : ℕ) → k < n
    → sequence_of (f k) ≡ sequence → ⊥
never_held n f sequence absent k inside is =
    none_passes (has_sequence sequence) n f absent k inside (eq-eqb (sequence_of (f k)) sequence is)

cell_unused : (n : ℕ) (f : ℕ → Packet) (cell : ℕ) → is_among cell (pending_cells (tab n f)) ≡ false → (k : ℕ) → k < n
    → cell_of (f k) ≡ cell → ⊥
cell_unused n f cell absent k inside is =
    none_passes (λ (c : ℕ). eqb c cell) n (λ i. cell_of (f i)) (ap (is_among cell) (sym (each_tab cell_of n f)) ∙ absent) k inside
    (eq-eqb (cell_of (f k)) cell is)

insert_there : (n : ℕ) (f : ℕ → Packet) (p : Packet) (place : ℕ) → place ≤ n
    → ((k : ℕ) → k < place → sequence_of (f k) < sequence_of p) → (place < n → sequence_of p < sequence_of (f place))
    → insert p (tab n f) ≡ inserted place p (tab n f)
unfolding insert inserted tab if_true◌then◌else◌
insert_there zero f p zero within below here = refl
insert_there zero f p (suc place) within below here = absurd (omega arith)
insert_there (suc n) f p zero within below here = rw (lt-ltb (sequence_of p) (sequence_of (f 0)) (here (omega arith)))
insert_there (suc n) f p (suc place) within below here =
    rw (le-ltb (sequence_of p) (sequence_of (f 0)) (omega (arith, below 0 (omega arith))))
    (ap (λ (rest : List Packet). f 0 ∷ rest)
    (insert_there n (λ i. f (suc i)) p place (omega arith) (λ k lower. below (suc k) (omega arith)) (λ inside. here (omega arith))))

-- room for a packet: those below its place moved down, with the ring's start, or those from it on moved up
module _ (words index : List ℕ) (start count at : ℕ) (enough : pending_size ≤ length words) (is : start ≡ start_of words) (low : start < index_size)
    (inside : at ≤ count) (room : count < max_pending) where
  pub room_below : (next : ℕ) → next ≡ (start + index_size - 1) % index_size → MovedDown 1 next (index_lent words) 0 (at + 1) index
      → WithRoom words count at (restarted (index_back words index) next)
  room_below next before gap =
      record {
        long = restarted_length words index enough gap.long next;
        low =
            λ k lower.
            restarted_shown words index enough gap.long start next k k is (omega arith)
            (gap.moved k (omega arith) (omega arith) ∙ ap (λ (n : ℕ). get_or (index_lent words) n 0) (omega arith));
        high =
            λ k higher below.
            restarted_shown words index enough gap.long start next k (k + 1) is (omega arith)
            (gap.high (k + 1) (omega arith) (omega arith) ∙ ap (λ (n : ℕ). get_or (index_lent words) n 0) (omega arith));
      }

  pub room_above : MovedUp 1 start (index_lent words) at count index → WithRoom words count at (index_back words index)
  room_above gap =
      record {
        long = back_length words enough index gap.long;
        low = λ k lower. moved_shown words index enough gap.long start k k is (gap.low k lower);
        high = λ k higher below. moved_shown words index enough gap.long start k (k + 1) is (gap.moved k higher below);
      }

pub room_enough : (words opened : List ℕ) (count at : ℕ) → pending_size ≤ length words → WithRoom words count at opened → (to word : ℕ)
    → pending_size ≤ length (set opened to word)
room_enough words opened count at enough gap to word = omega (arith, length-set opened to word, gap.long)

packet_inserted : (words opened : List ℕ) (count place : ℕ) (p : Packet) → (enough : pending_size ≤ length words) → count < max_pending
    → Placed words count (sequence_of p) place → WithRoom words count place opened
    → ascends (packets count words) ≡ true → is_held (sequence_of p) (packets count words) ≡ false → cell_of p < max_cells
    → is_among (cell_of p) (pending_cells (packets count words)) ≡ false
    → Holds (length words) (put_in opened place p) (count + 1) (insert p (packets count words))
packet_inserted words opened count place p enough room at gap up absent small unused =
    record {
      length_kept = put_length opened place p opened_enough low small ∙ gap.long;
      is =
          ap (λ (n : ℕ). packets n (put_in opened place p)) (add-one count)
          ∙ tab_insert count place p (packet_at words) (packet_at (put_in opened place p)) at.within lower_packets
          (put_there opened place p opened_enough low small) upper_packets
          ∙ sym (insert_there count (packet_at words) p place at.within at.below strictly);
    }
  where
    opened_enough : pending_size ≤ length opened
    opened_enough = omega (arith, gap.long)

    low : place < max_pending
    low = omega (arith, at.within)

    cell_free : (i j : ℕ) → i < count → packet_at opened j ≡ packet_at words i → cell_of (packet_at opened j) ≡ cell_of p → ⊥
    cell_free i j inside same is =
        cell_unused count (packet_at words) (cell_of p) unused i inside (ap cell_of (sym same) ∙ is)

    lower_packets : (i : ℕ) → i < place → packet_at (put_in opened place p) i ≡ packet_at words i
    lower_packets i lower =
        let inside : i < count = omega (arith, at.within) in
        put_elsewhere opened place p opened_enough low small i (omega arith) (λ q. omega arith) (cell_free i i inside (gap.low i lower)) ∙ gap.low i lower

    upper_packets : (i : ℕ) → place ≤ i → i < count → packet_at (put_in opened place p) (suc i) ≡ packet_at words i
    upper_packets i higher inside =
        let same : packet_at opened (suc i) ≡ packet_at words i = ap (packet_at opened) (sym (add-one i)) ∙ gap.high i higher inside in
        put_elsewhere opened place p opened_enough low small (suc i) (omega arith) (λ q. omega arith) (cell_free i (suc i) inside same) ∙ same

    strictly : place < count → sequence_of p < sequence_of (packet_at words place)
    strictly inside =
        ⊎_elim (λ same. absurd (never_held count (packet_at words) (sequence_of p) absent place inside (sym same)))
        (λ more. more) (eq-or-lt_of_le (at.above place (omega arith) inside))

pub inserted_at : (words opened after : List ℕ) (count place there : ℕ) (p : Packet) → (enough : pending_size ≤ length words) → count < max_pending
    → Placed words count (sequence_of p) place → WithRoom words count place opened
    → ascends (packets count words) ≡ true → is_held (sequence_of p) (packets count words) ≡ false → cell_of p < max_cells
    → is_among (cell_of p) (pending_cells (packets count words)) ≡ false → there ≡ slot_of opened place
    → after ≡ overwritten ((index_rows + cell_of p) * packet_row_size) (row_words p) (set opened there (sequence_of p * max_cells + cell_of p))
    → Holds (length words) after (count + 1) (insert p (packets count words))
inserted_at words opened after count place there p enough room at gap up absent small unused slot is =
    subst (λ (l : List ℕ). Holds (length words) l (count + 1) (insert p (packets count words)))
    (sym
    (is
    ∙ ap
    (λ (n : ℕ). overwritten ((index_rows + cell_of p) * packet_row_size) (row_words p) (set opened n (sequence_of p * max_cells + cell_of p)))
    slot))
    (packet_inserted words opened count place p enough room at gap up absent small unused)

-- ---- packets taken out of their places

-- those below them moved up, with the ring's start, or those behind them moved down
module _ (words index : List ℕ) (start count from end : ℕ) (enough : pending_size ≤ length words) (is : start ≡ start_of words) (low : start < index_size)
    (ordered : from ≤ end) (within : end ≤ count) (most : count ≤ max_pending) where
  pub removed_below : (next : ℕ) → next ≡ (start + (end - from)) % index_size → MovedUp (end - from) start (index_lent words) 0 from index
      → Without words count from end (restarted (index_back words index) next)
  removed_below next behind gap =
      record {
        long = restarted_length words index enough gap.long next;
        low =
            λ k lower.
            restarted_shown words index enough gap.long start next k k is (omega arith)
            (ap (λ (n : ℕ). get_or index n 0) (further k) ∙ gap.moved k (omega arith) lower);
        high =
            λ k higher inside.
            restarted_shown words index enough gap.long start next (k + (end - from)) k is (omega arith)
            (ap (λ (n : ℕ). get_or index n 0) (further k) ∙ gap.high (k + (end - from)) (omega arith) (omega arith));
      }
    where
      further : (k : ℕ) → round next k ≡ round start (k + (end - from))
      further k = omega arith

  pub removed_above : MovedDown (end - from) start (index_lent words) from count index → Without words count from end (index_back words index)
  removed_above gap =
      record {
        long = back_length words enough index gap.long;
        low = λ k lower. moved_shown words index enough gap.long start k k is (gap.low k lower);
        high = λ k higher inside. moved_shown words index enough gap.long start (k + (end - from)) k is (gap.moved k higher inside);
      }

pub packet_removed : (words after : List ℕ) (count place : ℕ) → place < count → Without words count place (place + 1) after
    → Holds (length words) after (count - 1) (removed place (packets count words))
packet_removed words after count place inside gone =
    record {
      length_kept = gone.long;
      is =
          tab_remove (count - 1) place (packet_at words) (packet_at after) (omega arith) gone.low
          (λ i higher below. gone.high i higher (omega arith) ∙ ap (packet_at words) (omega arith))
          ∙ ap (λ (n : ℕ). removed place (packets n words)) one_less;
    }
  where
    one_less : suc (count - 1) ≡ count
    one_less = omega arith

-- ---- the lowest, and the nearest

ascends_rest : (n : ℕ) (f : ℕ → Packet) → ascends (tab (suc n) f) ≡ true → ascends (tab n (λ i. f (suc i))) ≡ true
unfolding ascends tab
ascends_rest zero f up = refl
ascends_rest (suc n) f up = rest_ascends f n up

-- the first of ascending packets is the lowest
lowest_first : (n : ℕ) (f : ℕ → Packet) → ascends (tab (suc n) f) ≡ true → lowest (tab (suc n) f) ≡ Some (f 0)
unfolding lowest tab if_true◌then◌else◌ if_some◌give◌otherwise◌
lowest_first zero f up = refl
lowest_first (suc n) f up =
    rw (
      lowest_first n (λ i. f (suc i)) (ascends_rest (suc n) f up),
      le-leb (sequence_of (f 0)) (sequence_of (f 1)) (omega (arith, next_below f n up)),
    )

lowest_from : (n : ℕ) (f : ℕ → Packet) (place : ℕ) → ascends (tab n f) ≡ true → place < n
    → lowest (drop place (tab n f)) ≡ Some (f place)
unfolding tab
lowest_from zero f place up inside = absurd (omega arith)
lowest_from (suc n) f zero up inside = lowest_first n f up
lowest_from (suc n) f (suc place) up inside =
    lowest_from n (λ i. f (suc i)) place (ascends_rest n f up) (omega arith)

-- those at or above a sequence are those from its place on
such_that_from : (n : ℕ) (f : ℕ → Packet) (sequence place : ℕ) → ((k : ℕ) → k < place → k < n → sequence_of (f k) < sequence)
    → ((k : ℕ) → place ≤ k → k < n → sequence ≤ sequence_of (f k))
    → such_that (λ p. leb sequence (sequence_of p)) (tab n f) ≡ drop place (tab n f)
unfolding such_that tab if_true◌then◌else◌
such_that_from zero f sequence zero below above = refl
such_that_from zero f sequence (suc place) below above = refl
such_that_from (suc n) f sequence zero below above =
    rw (le-leb sequence (sequence_of (f 0)) (above 0 (omega arith) (omega arith)))
    (ap (λ (rest : List Packet). f 0 ∷ rest)
    (such_that_from n (λ i. f (suc i)) sequence zero (λ k lower inside. absurd (omega arith))
    (λ k higher inside. above (suc k) (omega arith) (omega arith))))
such_that_from (suc n) f sequence (suc place) below above =
    rw (lt-leb sequence (sequence_of (f 0)) (below 0 (omega arith) (omega arith)))
    (such_that_from n (λ i. f (suc i)) sequence place (λ k lower inside. below (suc k) (omega arith) (omega arith))
    (λ k higher inside. above (suc k) (omega arith) (omega arith)))

-- `from` is half the space above the first packet's sequence, and `place` the place of `from`
module _ (words : List ℕ) (count from place : ℕ) (some_held : 0 < count) (up : ascends (packets count words) ≡ true)
    (half_above : from ≡ sequence_of (packet_at words 0) + half) (at : Placed words count from place) where
  lowest_is : lowest (packets count words) ≡ Some (packet_at words 0)
  lowest_is = ap lowest (sym (drop_zero (packets count words))) ∙ lowest_from count (packet_at words) 0 up some_held

  far : such_that (λ p. leb (sequence_of (packet_at words 0) + half) (sequence_of p)) (packets count words)
      ≡ drop place (packets count words)
  far =
      ap (λ (n : ℕ). such_that (λ p. leb n (sequence_of p)) (packets count words)) (sym half_above)
      ∙ such_that_from count (packet_at words) from place (λ k lower inside. at.below k lower) at.above

  pub nearest_wraps : place < count → nearest (packets count words) ≡ Some (packet_at words place)
  unfolding nearest or_else if_some◌give◌otherwise◌
  nearest_wraps inside = rw (lowest_is, far, lowest_from count (packet_at words) place up inside)

  pub nearest_lowest : count ≤ place → nearest (packets count words) ≡ Some (packet_at words 0)
  unfolding nearest or_else if_some◌give◌otherwise◌ lowest
  nearest_lowest past =
      rw (lowest_is, far, drop_of_length-le (packets count words) {i = place} (omega (arith, tab_length count (packet_at words))))

pub nearest_none : (words : List ℕ) (count : ℕ) → count ≡ 0 → nearest (packets count words) ≡ None
unfolding nearest lowest if_some◌give◌otherwise◌
nearest_none words count nothing = ap nearest (tab_none count (packet_at words) nothing)

-- a place that was found is in use
pub at_in_use : (count : ℕ) (best : Option ℕ) (place : ℕ) → in_use count best → best ≡ Some place → place < count
at_in_use count best place used is = subst (in_use count) is used

-- ---- packets that become the group's own: those before `at` have. A packet from there on may have too, if it shares its row

-- with one before; owning it once more then changes nothing

pub record Owning (id count : ℕ) (before words : List ℕ) (at : ℕ) : Type 0 where
  pub within : at ≤ count
  pub long : length words ≡ length before
  pub done : (k : ℕ) → k < at → packet_at words k ≡ own_packet id (packet_at before k)
  pub alike : (k : ℕ) → k < count → own_packet id (packet_at words k) ≡ own_packet id (packet_at before k)

own_yes : (id : ℕ) (p : Packet) → p.member ≡ id → own_packet id p ≡ by_group p
unfolding own_packet if_true◌then◌else◌
own_yes id p is = rw (eq-eqb p.member id is)

own_no : (id : ℕ) (p : Packet) → (p.member ≡ id → ⊥) → own_packet id p ≡ p
unfolding own_packet if_true◌then◌else◌
own_no id p other = rw (ne_eqb p.member id other)

own_twice : (id : ℕ) (p : Packet) → own_packet id (own_packet id p) ≡ own_packet id p
unfolding own_packet if_true◌then◌else◌
own_twice id p = by_test (eqb p.member id) refl
  where
    by_test : (b : Bool) → eqb p.member id ≡ b → own_packet id (own_packet id p) ≡ own_packet id p
    by_test true e = rw (e, e)
    by_test false e = rw (e, e)

pub owning_start : (id count : ℕ) (before : List ℕ) → Owning id count before before 0
owning_start id count before =
    record { within = omega arith; long = refl; done = λ k lower. absurd (omega arith); alike = λ k inside. refl }

module _ (id count : ℕ) (before words : List ℕ) (at start : ℕ) (here : Owning id count before words at) (inside : at < count)
    (start_is : start ≡ (index_rows + cell_of (packet_at words at)) * packet_row_size) where
  pub owned_one : count ≤ max_pending → pending_size ≤ length before → get_or words (start + 5) 0 ≡ id
      → Owning id count before (set words (start + 6) 1) (at + 1)
  owned_one most enough mine =
      record {
        within = omega arith;
        long = length-set words (start + 6) 1 ∙ here.long;
        done = λ k lower. done k (dec_lt k at) lower;
        alike = alike;
      }
    where
      after : List ℕ
      after = set words (start + 6) 1

      long_enough : pending_size ≤ length words
      long_enough = omega (arith, here.long)

      -- the row is that of every packet with its cell, and they are all the member's
      owned : (k : ℕ) → k < max_pending → cell_of (packet_at words k) ≡ cell_of (packet_at words at)
          → packet_at after k ≡ own_packet id (packet_at words k)
      owned k low same =
          owned_same_cell words at start start_is long_enough k low same
          ∙ sym
          (own_yes id (packet_at words k)
          (same_member words at start start_is long_enough k same ∙ sym (member_word words at start start_is) ∙ mine))

      alike : (k : ℕ) → k < count → own_packet id (packet_at after k) ≡ own_packet id (packet_at before k)
      alike k within = by_cell (ℕ_discrete (cell_of (packet_at words k)) (cell_of (packet_at words at)))
        where
          by_cell : Dec (cell_of (packet_at words k) ≡ cell_of (packet_at words at))
              → own_packet id (packet_at after k) ≡ own_packet id (packet_at before k)
          by_cell (yes same) =
              ap (own_packet id) (owned k (omega arith) same) ∙ own_twice id (packet_at words k) ∙ here.alike k within
          by_cell (no other) =
              ap (own_packet id) (owned_other_cell words at start start_is long_enough k (omega arith) other) ∙ here.alike k within

      done : (k : ℕ) → Dec (k < at) → k < at + 1 → packet_at after k ≡ own_packet id (packet_at before k)
      done k (no not_lower) upto =
          let here_is : k ≡ at = omega arith in
          owned k (omega arith) (ap (λ (i : ℕ). cell_of (packet_at words i)) here_is) ∙ here.alike k (omega arith)
      done k (yes lower) upto = by_cell (ℕ_discrete (cell_of (packet_at words k)) (cell_of (packet_at words at)))
        where
          by_cell : Dec (cell_of (packet_at words k) ≡ cell_of (packet_at words at)) → packet_at after k ≡ own_packet id (packet_at before k)
          by_cell (yes same) = owned k (omega arith) same ∙ here.alike k (omega arith)
          by_cell (no other) =
              owned_other_cell words at start start_is long_enough k (omega arith) other ∙ here.done k lower

  pub owned_not : (get_or words (start + 5) 0 ≡ id → ⊥) → Owning id count before words (at + 1)
  owned_not other =
      record {
        within = omega arith;
        long = here.long;
        done = λ k lower. done k (dec_lt k at) lower;
        alike = here.alike;
      }
    where
      done : (k : ℕ) → Dec (k < at) → k < at + 1 → packet_at words k ≡ own_packet id (packet_at before k)
      done k (yes lower) upto = here.done k lower
      done k (no not_lower) upto =
          let here_is : k ≡ at = omega arith in
          rw here_is
          (sym (own_no id (packet_at words at) (λ mine. other (member_word words at start start_is ∙ mine)))
          ∙ here.alike at inside)

pub owned_all : (id count : ℕ) (before words : List ℕ) (at : ℕ) → Owning id count before words at → count ≤ at
    → Holds (length before) words count (each (own_packet id) (packets count before))
owned_all id count before words at here past =
    record {
      length_kept = here.long;
      is =
          tab_same count (λ i. own_packet id (packet_at before i)) (packet_at words) (λ i inside. here.done i (omega arith))
          ∙ sym (each_tab (own_packet id) count (packet_at before));
    }
