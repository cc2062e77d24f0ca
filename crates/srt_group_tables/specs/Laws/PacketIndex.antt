-- Laws of the pending table's words: what an index word and the row of its cell show, and how it shows that an index word was
-- written, that index words were moved, and that a row was written.
use Rattle.std.specs.Prelude.{◌≡◌, refl, List, ◌++◌, ◌⊎◌, length, take, drop, get_or, set}
use Rattle.std.proofs.Math.Path.{ap}
use Rattle.std.proofs.Common.{sym, ◌∙◌, append-nil, inl, inr, length-set, length-drop, length-append, drop_of_length-le, drop-drop, length-take-le, get_or-take, get_or-drop, get_or-append-add, get_or-set_same, get_or-set_other}
use Prim.Native.Nat.{ℕ, ◌+◌, ◌*◌, ◌-◌, ◌/◌, ◌%◌, ◌≤◌, ◌<◌}
use Rattle.std.proofs.Math.Decide.{dec_lt}
use native.Mathlib.Omega.{arith}
use Rattle.std.proofs.Math.ListN.{get_or-append}
use Rattle.std.proofs.lemmas.List.Edits.{sets, sets-eq}
use Rattle.word_rows.specs.Rows.{row_at}
use Rattle.word_rows.specs.Laws.Rows.{row_word, row_part}
use Rattle.srt_protocol.specs.Cells.{max_cells, overwritten}
use Rattle.srt_protocol.specs.Laws.CellLaws.{overwritten_length, overwritten_there, overwritten_elsewhere}
use Rattle.srt_group_model.specs.declared.Packet.{Packet}
use Rattle.srt_group_model.specs.Nearest.{sequence_of}
use Rattle.srt_group_model.specs.Validity.{max_pending}
use Rattle.srt_group_model.specs.Removal.{by_group}
use Rattle.srt_group_tables.specs.Packets.{pending_size, packet_row_size, packet_size, index_size, index_rows, start_of, round, slot_of, index_word, packet_of, row_words, packet_at}

abbrev pub cell_of : Packet → ℕ
cell_of p = p.content.cell

-- ---- an index word, and a row

-- a row whose words are all stored is the list of what was stored
pub all_stored : (row words : List ℕ) → length row ≡ length words → sets row 0 words ≡ words
all_stored row words long =
    sets-eq words row 0 (omega arith)
    ∙ ap (λ (rest : List ℕ). words ++ rest) (drop_of_length-le row {i = 0 + length words} (omega arith)) ∙ append-nil words

pub seven_words : (p : Packet) → length (row_words p) ≡ packet_size
unfolding row_words
seven_words p = refl

pub index_sequence : (words : List ℕ) (at : ℕ) → index_word words at / max_cells ≡ sequence_of (packet_at words at)
unfolding packet_at packet_of
index_sequence words at = refl

pub index_cell : (words : List ℕ) (at : ℕ) → index_word words at % max_cells ≡ cell_of (packet_at words at)
unfolding packet_at packet_of
index_cell words at = refl

pub cell_small : (words : List ℕ) (at : ℕ) → cell_of (packet_at words at) < max_cells
cell_small words at = omega (arith, index_cell words at)

-- the sequence of a word fits where half the sequence space is added
pub sequence_small : (words : List ℕ) (at : ℕ) → index_word words at < 18446744073709551616
    → sequence_of (packet_at words at) < 9007199254740992
sequence_small words at small = omega (arith, index_sequence words at)

-- the row of a packet's cell, as a part of the words; `there` is its index word
pub packet_part : (words : List ℕ) (at there start : ℕ) → there ≡ slot_of words at → start ≡ (index_rows + get_or words there 0 % max_cells) * packet_row_size
    → packet_of (get_or words there 0) (take (start + 8 - start) (drop start words)) ≡ packet_at words at
unfolding packet_at packet_of
packet_part words at there start place is =
    ap (λ (n : ℕ). packet_of (get_or words n 0) (take (start + 8 - start) (drop start words))) place
    ∙ ap (λ (n : ℕ). packet_of (index_word words at) (take (n + 8 - n) (drop n words)))
    (is ∙ ap (λ (n : ℕ). (index_rows + get_or words n 0 % max_cells) * packet_row_size) place)
    ∙ ap (packet_of (index_word words at)) (row_part packet_row_size words (index_rows + index_word words at % max_cells))

-- the word of a packet's row that names its member
module _ (words : List ℕ) (at start : ℕ) (start_is : start ≡ (index_rows + cell_of (packet_at words at)) * packet_row_size) where
  word_at : (k : ℕ) → k < packet_row_size → get_or words (start + k) 0 ≡ get_or (row_at packet_row_size words (index_rows + index_word words at % max_cells)) k 0
  word_at k below =
      ap (λ (n : ℕ). get_or words n 0) (omega (arith, start_is, index_cell words at))
      ∙ sym (row_word packet_row_size words (index_rows + index_word words at % max_cells) k below)

  pub member_word : get_or words (start + 5) 0 ≡ (packet_at words at).member
  unfolding packet_at packet_of
  member_word = word_at 5 (omega arith)

-- ---- equal words show the same packet

pub shown_same : (words others : List ℕ) (i j : ℕ) → index_word others j ≡ index_word words i
    → ((k : ℕ) → k < packet_size
    → get_or others ((index_rows + cell_of (packet_at words i)) * packet_row_size + k) 0 ≡ get_or words ((index_rows + cell_of (packet_at words i)) * packet_row_size + k) 0)
    → packet_at others j ≡ packet_at words i
unfolding packet_at packet_of
shown_same words others i j same row =
    ap (λ (w : ℕ). packet_of w (row_at packet_row_size others (index_rows + w % max_cells))) same
    ∙ cc (
      field 0 (omega arith),
      field 1 (omega arith),
      field 2 (omega arith),
      field 3 (omega arith),
      field 4 (omega arith),
      field 5 (omega arith),
      field 6 (omega arith),
    )
  where
    number : ℕ
    number = index_rows + index_word words i % max_cells

    field : (k : ℕ) → k < packet_size → get_or (row_at packet_row_size others number) k 0 ≡ get_or (row_at packet_row_size words number) k 0
    field k below =
        row_word packet_row_size others number k (omega arith) ∙ row k below ∙ sym (row_word packet_row_size words number k (omega arith))

-- a packet stands where its index word and the words of its row do
pub shown_there : (words : List ℕ) (i : ℕ) (p : Packet) → cell_of p < max_cells → index_word words i ≡ sequence_of p * max_cells + cell_of p
    → ((k : ℕ) → k < packet_size → get_or words ((index_rows + cell_of p) * packet_row_size + k) 0 ≡ get_or (row_words p) k 0) → packet_at words i ≡ p
unfolding packet_at packet_of row_words
shown_there words i p small word row =
    ap (λ (w : ℕ). packet_of w (row_at packet_row_size words (index_rows + w % max_cells))) word
    ∙ ap (λ (c : ℕ). packet_of (sequence_of p * max_cells + cell_of p) (row_at packet_row_size words (index_rows + c))) cell_back
    ∙ λ i.
    record {
      member = field 5 (omega arith) i;
      owned = field 6 (omega arith) i;
      content =
          record {
            sequence = sequence_back i;
            count = field 0 (omega arith) i;
            message = field 1 (omega arith) i;
            timestamp = field 2 (omega arith) i;
            source = record { 0 = field 3 (omega arith) i };
            cell = cell_back i;
            length = field 4 (omega arith) i;
          };
    }
  where
    sequence_back : (sequence_of p * max_cells + cell_of p) / max_cells ≡ sequence_of p
    sequence_back = omega arith

    cell_back : (sequence_of p * max_cells + cell_of p) % max_cells ≡ cell_of p
    cell_back = omega arith

    field : (k : ℕ) → k < packet_size → get_or (row_at packet_row_size words (index_rows + cell_of p)) k 0 ≡ get_or (row_words p) k 0
    field k below = row_word packet_row_size words (index_rows + cell_of p) k (omega arith) ∙ row k below

-- ---- the ring

-- two places of the ring are two words of it
pub apart : (start i j : ℕ) → i < index_size → j < index_size → (i ≡ j → ⊥) → round start i ≡ round start j → ⊥
apart start i j below_i below_j other same = other (omega arith)

-- a word of the index written: the other places show the words that they showed
module _ (index : List ℕ) (start to word : ℕ) (long : length index ≡ index_size) (low : to < index_size) where
  pub round_there : get_or (set index (round start to) word) (round start to) 0 ≡ word
  round_there = get_or-set_same index (round start to) word 0 (omega arith)

  pub round_elsewhere : (k : ℕ) → k < index_size → (k ≡ to → ⊥) → get_or (set index (round start to) word) (round start k) 0 ≡ get_or index (round start k) 0
  round_elsewhere k inside other = get_or-set_other index (round start to) (round start k) word 0 (apart start k to inside low other)

-- where the ring starts is told behind the index
pub same_start : (words others : List ℕ) → get_or others (index_size + packet_size) 0 ≡ get_or words (index_size + packet_size) 0
    → start_of others ≡ start_of words
unfolding start_of
same_start words others same = ap (λ (n : ℕ). n % index_size) same

-- ---- the index lent, and what the words are when it comes back

abbrev pub index_lent : List ℕ → List ℕ
index_lent words = take (index_size - 0) (drop 0 words)

abbrev pub index_back : List ℕ → List ℕ → List ℕ
index_back words index = take 0 words ++ (index ++ drop (index_size - 0) (drop 0 words))

module _ (words : List ℕ) (enough : pending_size ≤ length words) where
  pub lent_length : length (index_lent words) ≡ index_size
  lent_length = length-take-le index_size (drop 0 words) (omega (arith, length-drop 0 words))

  pub lent_word : (k : ℕ) → k < index_size → get_or (index_lent words) k 0 ≡ get_or words k 0
  lent_word k below = get_or-take index_size (drop 0 words) k 0 below

  module _ (index : List ℕ) (long : length index ≡ length (index_lent words)) where
    long_is : length index ≡ index_size
    long_is = long ∙ lent_length

    pub back_length : length (index_back words index) ≡ length words
    back_length =
        length-append index (drop index_size words) ∙ omega (arith, long_is, length-drop index_size words)

    pub back_index : (k : ℕ) → k < index_size → get_or (index_back words index) k 0 ≡ get_or index k 0
    back_index k below = get_or-append index (drop index_size words) 0 k (omega (arith, long_is))

    pub back_rows : (k : ℕ) → index_size ≤ k → get_or (index_back words index) k 0 ≡ get_or words k 0
    back_rows k above =
        ap (λ (n : ℕ). get_or (index_back words index) n 0) (omega (arith, long_is))
        ∙ get_or-append-add index (drop index_size words) (k - index_size) 0
        ∙ get_or-drop index_size words (k - index_size) 0 ∙ ap (λ (n : ℕ). get_or words n 0) (omega arith)

-- the ring's words once the index came back: it starts where it did, or was told to start elsewhere
module _ (words index : List ℕ) (enough : pending_size ≤ length words) (long : length index ≡ length (index_lent words)) where
  pub back_start : start_of (index_back words index) ≡ start_of words
  back_start = same_start words (index_back words index) (back_rows words enough index long (index_size + packet_size) (omega arith))

  pub back_word : (i : ℕ) → index_word (index_back words index) i ≡ get_or index (slot_of words i) 0
  back_word i =
      ap (λ (s : ℕ). get_or (index_back words index) (round s i) 0) back_start ∙ back_index words enough index long (slot_of words i) (omega arith)

  pub lent_round : (start k : ℕ) → get_or (index_lent words) (round start k) 0 ≡ get_or words (round start k) 0
  lent_round start k = lent_word words enough (round start k) (omega arith)

abbrev pub restarted : List ℕ → ℕ → List ℕ
restarted words start = set words (index_size + packet_size) start

module _ (words : List ℕ) (start : ℕ) (enough : pending_size ≤ length words) (low : start < index_size) where
  pub restarted_start : start_of (restarted words start) ≡ start
  unfolding start_of
  restarted_start = ap (λ (n : ℕ). n % index_size) (get_or-set_same words (index_size + packet_size) start 0 (omega arith)) ∙ omega arith

  pub restarted_word : (i : ℕ) → index_word (restarted words start) i ≡ get_or words (round start i) 0
  restarted_word i =
      ap (λ (s : ℕ). get_or (restarted words start) (round s i) 0) restarted_start
      ∙ get_or-set_other words (index_size + packet_size) (round start i) start 0 (λ q. omega arith)

  -- no word of a packet's row is the one that tells the start
  pub restarted_row : (cell k : ℕ) → k < packet_size
      → get_or (restarted words start) ((index_rows + cell) * packet_row_size + k) 0 ≡ get_or words ((index_rows + cell) * packet_row_size + k) 0
  restarted_row cell k below = get_or-set_other words (index_size + packet_size) ((index_rows + cell) * packet_row_size + k) start 0 (λ q. omega arith)

-- the packets whose index words moved, the ring's start with them or not
module _ (words index : List ℕ) (enough : pending_size ≤ length words) (long : length index ≡ length (index_lent words)) where
  row_back_same : (cell k : ℕ) → get_or (index_back words index) ((index_rows + cell) * packet_row_size + k) 0 ≡ get_or words ((index_rows + cell) * packet_row_size + k) 0
  row_back_same cell k = back_rows words enough index long ((index_rows + cell) * packet_row_size + k) (omega arith)

  back_enough : pending_size ≤ length (index_back words index)
  back_enough = omega (arith, back_length words enough index long)

  pub moved_shown : (start i j : ℕ) → start ≡ start_of words → get_or index (round start j) 0 ≡ get_or (index_lent words) (round start i) 0
      → packet_at (index_back words index) j ≡ packet_at words i
  moved_shown start i j is same =
      shown_same words (index_back words index) i j
      (back_word words index enough long j ∙ ap (λ (s : ℕ). get_or index (round s j) 0) (sym is)
      ∙ same ∙ lent_round words index enough long start i ∙ ap (λ (s : ℕ). get_or words (round s i) 0) is)
      (λ k below. row_back_same (cell_of (packet_at words i)) k)

  pub restarted_shown : (start next i j : ℕ) → start ≡ start_of words → next < index_size
      → get_or index (round next j) 0 ≡ get_or (index_lent words) (round start i) 0 → packet_at (restarted (index_back words index) next) j ≡ packet_at words i
  restarted_shown start next i j is low same =
      shown_same words (restarted (index_back words index) next) i j
      (restarted_word (index_back words index) next back_enough low j ∙ back_index words enough index long (round next j) (omega arith)
      ∙ same ∙ lent_round words index enough long start i ∙ ap (λ (s : ℕ). get_or words (round s i) 0) is)
      (λ k below.
      restarted_row (index_back words index) next back_enough low (cell_of (packet_at words i)) k below
      ∙ row_back_same (cell_of (packet_at words i)) k)

  pub restarted_length : (start : ℕ) → length (restarted (index_back words index) start) ≡ length words
  restarted_length start = length-set (index_back words index) (index_size + packet_size) start ∙ back_length words enough index long

-- ---- a packet's index word and row written

-- how the words stand when the part of a row that a packet takes comes back
pub row_written : (start : ℕ) (words row : List ℕ) → length row ≡ packet_size
    → take start words ++ (row ++ drop (start + packet_size - start) (drop start words)) ≡ overwritten start row words
unfolding overwritten
row_written start words row long =
    let end : start + (start + packet_size - start) ≡ start + length row = omega arith in
    ap (λ (rest : List ℕ). take start words ++ (row ++ rest))
    (drop-drop (start + packet_size - start) start words ∙ ap (λ (n : ℕ). drop n words) end)

-- a word of what was written
overwritten_word : (at : ℕ) (part whole : List ℕ) → at + length part ≤ length whole → (k : ℕ) → k < length part
    → get_or (overwritten at part whole) (at + k) 0 ≡ get_or part k 0
overwritten_word at part whole fits k below =
    sym (get_or-drop at (overwritten at part whole) k 0) ∙ sym (get_or-take (length part) (drop at (overwritten at part whole)) k 0 below)
    ∙ ap (λ (l : List ℕ). get_or l k 0) (overwritten_there at part whole fits)

abbrev pub indexed : List ℕ → ℕ → Packet → List ℕ
indexed words to p = set words (slot_of words to) (sequence_of p * max_cells + cell_of p)

abbrev pub put_in : List ℕ → ℕ → Packet → List ℕ
put_in words to p = overwritten ((index_rows + cell_of p) * packet_row_size) (row_words p) (indexed words to p)

module _ (words : List ℕ) (to : ℕ) (p : Packet) (enough : pending_size ≤ length words) (low : to < max_pending) (small : cell_of p < max_cells) where
  room : (index_rows + cell_of p) * packet_row_size + packet_size ≤ length (indexed words to p)
  room = omega (arith, length-set words (slot_of words to) (sequence_of p * max_cells + cell_of p))

  room_for_row : (index_rows + cell_of p) * packet_row_size + length (row_words p) ≤ length (indexed words to p)
  room_for_row = omega (arith, room, seven_words p)

  pub put_length : length (put_in words to p) ≡ length words
  put_length =
      overwritten_length ((index_rows + cell_of p) * packet_row_size) (row_words p) (indexed words to p) room_for_row
      ∙ length-set words (slot_of words to) (sequence_of p * max_cells + cell_of p)

  elsewhere : (k : ℕ) → (k < (index_rows + cell_of p) * packet_row_size) ⊎ ((index_rows + cell_of p) * packet_row_size + packet_size ≤ k)
      → get_or (put_in words to p) k 0 ≡ get_or (indexed words to p) k 0
  elsewhere k apart =
      overwritten_elsewhere ((index_rows + cell_of p) * packet_row_size) (row_words p) (indexed words to p) room_for_row k 0
      (by_length apart)
    where
      by_length : (k < (index_rows + cell_of p) * packet_row_size) ⊎ ((index_rows + cell_of p) * packet_row_size + packet_size ≤ k)
          → (k < (index_rows + cell_of p) * packet_row_size) ⊎ ((index_rows + cell_of p) * packet_row_size + length (row_words p) ≤ k)
      by_length (inl ahead) = inl ahead
      by_length (inr behind) = inr (omega (arith, behind, seven_words p))

  -- the ring starts where it did: its word is that of no packet
  put_start : start_of (put_in words to p) ≡ start_of words
  put_start =
      same_start words (put_in words to p)
      (elsewhere (index_size + packet_size) (of_first (dec_lt 0 (cell_of p)))
      ∙ get_or-set_other words (slot_of words to) (index_size + packet_size) (sequence_of p * max_cells + cell_of p) 0 (λ q. omega arith))
    where
      of_first : Dec (0 < cell_of p)
          → (index_size + packet_size < (index_rows + cell_of p) * packet_row_size) ⊎ ((index_rows + cell_of p) * packet_row_size + packet_size ≤ index_size + packet_size)
      of_first (yes another) = inl (omega arith)
      of_first (no first) = inr (omega arith)

  put_word : (i : ℕ) → index_word (put_in words to p) i ≡ get_or (indexed words to p) (slot_of words i) 0
  put_word i =
      ap (λ (s : ℕ). get_or (put_in words to p) (round s i) 0) put_start ∙ elsewhere (slot_of words i) (inl (omega arith))

  pub put_there : packet_at (put_in words to p) to ≡ p
  put_there =
      shown_there (put_in words to p) to p small
      (put_word to ∙ get_or-set_same words (slot_of words to) (sequence_of p * max_cells + cell_of p) 0 (omega arith))
      (λ k below.
      overwritten_word ((index_rows + cell_of p) * packet_row_size) (row_words p) (indexed words to p) room_for_row k (omega (arith, seven_words p)))

  -- a packet of another cell is as it was
  pub put_elsewhere : (i : ℕ) → i < max_pending → (i ≡ to → ⊥) → (cell_of (packet_at words i) ≡ cell_of p → ⊥)
      → packet_at (put_in words to p) i ≡ packet_at words i
  put_elsewhere i inside other free =
      shown_same words (put_in words to p) i i
      (put_word i
      ∙ get_or-set_other words (slot_of words to) (slot_of words i) (sequence_of p * max_cells + cell_of p) 0 (apart (start_of words) i to inside low other))
      (λ k below.
      elsewhere (start + k) (aside (dec_lt (cell_of (packet_at words i)) (cell_of p)) k below)
      ∙ get_or-set_other words (slot_of words to) (start + k) (sequence_of p * max_cells + cell_of p) 0 (λ q. omega arith))
    where
      start : ℕ
      start = (index_rows + cell_of (packet_at words i)) * packet_row_size

      aside : Dec (cell_of (packet_at words i) < cell_of p) → (k : ℕ) → k < packet_size
          → (start + k < (index_rows + cell_of p) * packet_row_size) ⊎ ((index_rows + cell_of p) * packet_row_size + packet_size ≤ start + k)
      aside (yes lower) k below = inl (omega arith)
      aside (no not_lower) k below = inr (higher (dec_lt (cell_of p) (cell_of (packet_at words i))))
        where
          higher : Dec (cell_of p < cell_of (packet_at words i)) → (index_rows + cell_of p) * packet_row_size + packet_size ≤ start + k
          higher (yes more) = omega arith
          higher (no not_more) = absurd (free (omega arith))

-- ---- the owned word of a packet's row set: every index word that names the cell shares the row

module _ (words : List ℕ) (at start : ℕ) (start_is : start ≡ (index_rows + cell_of (packet_at words at)) * packet_row_size)
    (enough : pending_size ≤ length words) where
  pub same_member : (i : ℕ) → cell_of (packet_at words i) ≡ cell_of (packet_at words at)
      → (packet_at words i).member ≡ (packet_at words at).member
  same_member i same =
      sym (member_word words i start (omega (arith, start_is, same))) ∙ member_word words at start start_is

  -- no index word is written, nor the ring's start
  owned_index : (i : ℕ) → index_word (set words (start + 6) 1) i ≡ index_word words i
  owned_index i =
      ap (λ (s : ℕ). get_or (set words (start + 6) 1) (round s i) 0)
      (same_start words (set words (start + 6) 1) (get_or-set_other words (start + 6) (index_size + packet_size) 1 0 (λ q. omega (arith, start_is))))
      ∙ get_or-set_other words (start + 6) (slot_of words i) 1 0 (λ q. omega (arith, start_is))

  pub owned_same_cell : (i : ℕ) → i < max_pending → cell_of (packet_at words i) ≡ cell_of (packet_at words at)
      → packet_at (set words (start + 6) 1) i ≡ by_group (packet_at words i)
  unfolding packet_at packet_of
  owned_same_cell i low same =
      ap (λ (w : ℕ). packet_of w (row_at packet_row_size (set words (start + 6) 1) (index_rows + w % max_cells))) (owned_index i)
      ∙ cc (
        field 0 (omega arith),
        field 1 (omega arith),
        field 2 (omega arith),
        field 3 (omega arith),
        field 4 (omega arith),
        field 5 (omega arith),
        owned,
      )
    where
      number : ℕ
      number = index_rows + index_word words i % max_cells

      field : (k : ℕ) → k < 6 → get_or (row_at packet_row_size (set words (start + 6) 1) number) k 0 ≡ get_or (row_at packet_row_size words number) k 0
      field k below =
          row_word packet_row_size (set words (start + 6) 1) number k (omega arith)
          ∙ get_or-set_other words (start + 6) (number * packet_row_size + k) 1 0 (λ q. omega (arith, start_is, same))
          ∙ sym (row_word packet_row_size words number k (omega arith))

      owned : get_or (row_at packet_row_size (set words (start + 6) 1) number) 6 0 ≡ 1
      owned =
          row_word packet_row_size (set words (start + 6) 1) number 6 (omega arith)
          ∙ ap (λ (n : ℕ). get_or (set words (start + 6) 1) n 0) (omega (arith, start_is, same))
          ∙ get_or-set_same words (start + 6) 1 0 (omega (arith, start_is, cell_small words at))

  pub owned_other_cell : (i : ℕ) → i < max_pending → (cell_of (packet_at words i) ≡ cell_of (packet_at words at) → ⊥)
      → packet_at (set words (start + 6) 1) i ≡ packet_at words i
  owned_other_cell i low other =
      shown_same words (set words (start + 6) 1) i i (owned_index i)
      (λ k below.
      get_or-set_other words (start + 6) ((index_rows + cell_of (packet_at words i)) * packet_row_size + k) 1 0
      (λ q. other (omega (arith, start_is, q, below))))
