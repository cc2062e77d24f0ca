-- The history as a ring over two arrays of max-history places, the words of its entries and their source times, and the list of entries
-- that it shows, oldest first.
use Rattle.std.specs.Prelude.{◌≡◌, List, ℕ, ◌+◌, ◌*◌, ◌/◌, ◌%◌, ◌≤◌, ◌<◌, ltb, length, get_or, set}
use Rattle.srt_group_model.specs.declared.Entry.{Entry}
use Rattle.srt_group_model.specs.Tools.{if_true◌then◌else◌}
use Rattle.srt_group_model.specs.Legs.{largest_sequence}
use Rattle.srt_group_model.specs.Backup.{max_history, drop_before}
use Rattle.srt_group_model.specs.State.{Send, send_side, entry_of}
use Rattle.srt_group_model.specs.declared.Sending.{Sending}
use Rattle.srt_group_tables.specs.declared.history.HistoryRing.{HistoryRing}
use Rattle.word_rows.specs.Tab.{tab}

-- ---- a word: a sequence, a cell and a length

-- how many cells a word can name, and how many lengths
abbrev pub cells_in_word : ℕ
cells_in_word = 2048

abbrev pub lengths_in_word : ℕ
lengths_in_word = 2048

abbrev pub entry_word : (sequence cell length : ℕ) → ℕ
entry_word sequence cell length = (sequence * cells_in_word + cell) * lengths_in_word + length

abbrev pub word_sequence : ℕ → ℕ
word_sequence word = word / lengths_in_word / cells_in_word

abbrev pub word_cell : ℕ → ℕ
word_cell word = word / lengths_in_word % cells_in_word

abbrev pub word_length : ℕ → ℕ
word_length word = word % lengths_in_word

-- what a word of 64 bits has room for
pub record Packs (sequence cell length : ℕ) : Type 0 where
  pub sequence_fits : sequence ≤ largest_sequence
  pub cell_fits : cell < cells_in_word
  pub length_fits : length < lengths_in_word

-- ---- the arrays

-- the words of the entries, and their source times
pub record Arrays : Type 0 where
  pub history : List ℕ
  pub sources : List ℕ

abbrev pub arrays : (history sources : List ℕ) → Arrays
arrays history sources = record { history = history; sources = sources }

-- the arrays have max-history places each
pub record Long (a : Arrays) : Type 0 where
  pub history : length a.history ≡ max_history
  pub sources : length a.sources ≡ max_history

-- the entry at a place of the arrays
abbrev pub entry_in : Arrays → ℕ → Entry
entry_in a k =
    let word = get_or a.history k 0 in
    entry_of (word_sequence word) (word_cell word) (word_length word) (get_or a.sources k 0)

-- the entry i places after the start, round the ring
abbrev pub entry_at : HistoryRing → Arrays → ℕ → Entry
entry_at r a i = entry_in a ((r.start + i) % max_history)

-- the entries in use, oldest first
abbrev pub entries_of : HistoryRing → Arrays → List Entry
entries_of r a = tab r.length (entry_at r a)

-- what sending moves, as the numbers, the ring and the arrays of the group record show it
abbrev pub send_of : Sending → HistoryRing → Arrays → Send
send_of x r a = send_side x (entries_of r a)

-- an entry at a place of the arrays
abbrev pub with_entry : ℕ → Entry → Arrays → Arrays
with_entry k e a =
    record {
      history = set a.history k (entry_word e.sequence e.cell e.length);
      sources = set a.sources k e.source.0;
    }

-- the place behind the newest: over the oldest one, if the ring is full
abbrev pub next_place : HistoryRing → ℕ
next_place r = (r.start + r.length) % max_history

unfoldable pub after_push : HistoryRing → HistoryRing
after_push r =
    if_true ltb r.length max_history
    then record { start = r.start; length = r.length + 1 }
    else record { start = (r.start % max_history + 1) % max_history; length = r.length }

-- a ring from which the front was dropped, over arrays with these words and any source times: no longer than it was
pub record Trimmed (sequence : ℕ) (history : List ℕ) (before after : HistoryRing) : Type 0 where
  pub fits : after.length ≤ before.length
  pub is : (a : Arrays) → a.history ≡ history → entries_of after a ≡ drop_before sequence (entries_of before a)
