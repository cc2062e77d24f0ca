-- The pending packets as an index of one word each, with a row of eight words for each cell, and what a search for a sequence
-- finds. The index is a ring. The list of what its first `count` words show, from its start on, is the model's list of pending packets.
use Rattle.std.specs.Prelude.{◌≡◌, List, [], ◌∷◌, ℕ, ◌+◌, ◌-◌, ◌*◌, ◌/◌, ◌%◌, ◌≤◌, ◌<◌, length, get_or, None, Option, Some}
use Rattle.word_rows.specs.Tab.{tab}
use Rattle.word_rows.specs.Rows.{row_at}
use Rattle.srt_group_model.specs.declared.Packet.{Packet}
use Rattle.srt_group_model.specs.Tools.{place_of}
use Rattle.srt_group_model.specs.Nearest.{sequence_of, has_sequence}
use Rattle.srt_group_model.specs.Validity.{max_pending}
use Rattle.srt_protocol.specs.Cells.{max_cells}

-- ---- sizes

-- the words of the index: one for each packet that is held
abbrev pub index_size : ℕ
index_size = max_pending

-- the words of a cell's row
abbrev pub packet_row_size : ℕ
packet_row_size = 8

-- those of them that a packet takes
abbrev pub packet_size : ℕ
packet_size = 7

-- the words of the table: the index, and behind it a row for each cell
abbrev pub pending_size : ℕ
pending_size = index_size + max_cells * packet_row_size

-- the index takes as many words as so many rows
abbrev pub index_rows : ℕ
index_rows = index_size / packet_row_size

-- ---- the ring

-- where it starts: the free word of the first row, read modulo its size, so that every word is a start
unfoldable pub start_of : List ℕ → ℕ
start_of words = get_or words (index_size + packet_size) 0 % index_size

-- the index word of the place i, counted from a start
abbrev pub round : (start i : ℕ) → ℕ
round start i = (start + i) % index_size

abbrev pub slot_of : List ℕ → ℕ → ℕ
slot_of words i = round (start_of words) i

abbrev pub index_word : List ℕ → ℕ → ℕ
index_word words i = get_or words (slot_of words i) 0

-- the words of the places from `from` up to `end` stand `width` places further on
pub record MovedUp (width start : ℕ) (index : List ℕ) (from end : ℕ) (after : List ℕ) : Type 0 where
  pub long : length after ≡ length index
  pub low : (k : ℕ) → k < from → get_or after (round start k) 0 ≡ get_or index (round start k) 0
  pub moved : (k : ℕ) → from ≤ k → k < end → get_or after (round start (k + width)) 0 ≡ get_or index (round start k) 0
  pub high : (k : ℕ) → end + width ≤ k → k < index_size → get_or after (round start k) 0 ≡ get_or index (round start k) 0

-- the words of the places from `from + width` up to `end` stand `width` places before
pub record MovedDown (width start : ℕ) (index : List ℕ) (from end : ℕ) (after : List ℕ) : Type 0 where
  pub long : length after ≡ length index
  pub low : (k : ℕ) → k < from → get_or after (round start k) 0 ≡ get_or index (round start k) 0
  pub moved : (k : ℕ) → from ≤ k → k + width < end → get_or after (round start k) 0 ≡ get_or index (round start (k + width)) 0
  pub high : (k : ℕ) → end ≤ k → k < index_size → get_or after (round start k) 0 ≡ get_or index (round start k) 0

-- ---- definitions

-- the packet of an index word, `sequence * max_cells + cell`, and the row of its cell; and the words of a packet's row
unfoldable pub packet_of : ℕ → List ℕ → Packet
packet_of word row =
    record {
      member = get_or row 5 0;
      owned = get_or row 6 0;
      content =
          record {
            sequence = word / max_cells;
            count = get_or row 0 0;
            message = get_or row 1 0;
            timestamp = get_or row 2 0;
            source = record { 0 = get_or row 3 0 };
            cell = word % max_cells;
            length = get_or row 4 0;
          };
    }

unfoldable pub row_words : Packet → List ℕ
row_words p =
    p.content.count ∷ p.content.message ∷ p.content.timestamp ∷ p.content.source.0 ∷ p.content.length
    ∷ p.member ∷ p.owned ∷ []

-- the rows of the cells stand behind the index
unfoldable pub packet_at : List ℕ → ℕ → Packet
packet_at words i = packet_of (index_word words i) (row_at packet_row_size words (index_rows + index_word words i % max_cells))

-- the packets of the first `count` index words
abbrev pub packets : ℕ → List ℕ → List Packet
packets count words = tab count (packet_at words)

-- the packets from a place up to another
abbrev pub packets_between : (from end : ℕ) → List ℕ → List Packet
packets_between from end words = tab (end - from) (λ i. packet_at words (from + i))

-- a place among the first `count`: what is before it is below the sequence, and what is from there on is not
pub record Placed (words : List ℕ) (count sequence place : ℕ) : Type 0 where
  pub within : place ≤ count
  pub below : (k : ℕ) → k < place → sequence_of (packet_at words k) < sequence
  pub above : (k : ℕ) → place ≤ k → k < count → sequence ≤ sequence_of (packet_at words k)

-- what a table of so many words holds after a call
pub record Holds (long : ℕ) (after : List ℕ) (count : ℕ) (ps : List Packet) : Type 0 where
  pub length_kept : length after ≡ long
  pub is : packets count after ≡ ps

-- a packet has room at a place, and those from there on moved up
pub record WithRoom (words : List ℕ) (count at : ℕ) (after : List ℕ) : Type 0 where
  pub long : length after ≡ length words
  pub low : (k : ℕ) → k < at → packet_at after k ≡ packet_at words k
  pub high : (k : ℕ) → at ≤ k → k < count → packet_at after (k + 1) ≡ packet_at words k

-- the packets from a place up to another are gone, and those behind them moved down
pub record Without (words : List ℕ) (count from end : ℕ) (after : List ℕ) : Type 0 where
  pub long : length after ≡ length words
  pub low : (k : ℕ) → k < from → packet_at after k ≡ packet_at words k
  pub high : (k : ℕ) → from ≤ k → k + (end - from) < count → packet_at after k ≡ packet_at words (k + (end - from))

-- the place of the packet with a sequence
abbrev pub place_found : ℕ → List Packet → Option ℕ
place_found sequence ps = place_of (has_sequence sequence) ps

-- the packet at the place that was found
abbrev pub packet_found : List ℕ → Option ℕ → Option Packet
packet_found words None = None
packet_found words (Some i) = Some (packet_at words i)

-- a place that was found is that of an index word in use
abbrev pub in_use : ℕ → Option ℕ → Type 0
in_use count None = Unit {0}
in_use count (Some i) = i < count

-- a search that gives a packet, by its place
pub record FoundPacket (words : List ℕ) (count : ℕ) (r : Option ℕ) (p : Option Packet) : Type 0 where
  pub within : in_use count r
  pub is : packet_found words r ≡ p
