-- Payloads in the cells of a lent store (document 01, "Receiving"): a cell is 1,456 bytes, a store has length / 1,456 of
-- them, at most 2,048. A payload is put into a cell and copied from it to byte 12 of an output; every other byte stays.
use Rattle.srt_protocol.specs.Errors.{Outcome}
use Rattle.std.specs.Prelude.{◌≡◌, ℕ, ◌+◌, ◌*◌, ◌/◌, min, List, ◌++◌, length, take, drop, nat_le, nat_lt, Ok}
use Rattle.srt_protocol.specs.declared.error.Error.TheVariants.{PayloadTooLong, InsufficientBuffer, InvalidState}
use Rattle.srt_protocol.specs.Errors.{refuse_if, if_accepted}

-- ---- definitions

abbrev pub cell_size : ℕ
cell_size = 1456

-- the output's first bytes, the host's RTP head, which no payload touches
abbrev pub head_size : ℕ
head_size = 12

-- the bytes of the output that a packet is given in: the head and the longest payload
abbrev pub output_size : ℕ
output_size = head_size + cell_size

-- no store has more cells
abbrev pub max_cells : ℕ
max_cells = 2048

-- how many cells a store of this length has
abbrev pub cells_of : ℕ → ℕ
cells_of store_length = min (store_length / cell_size) max_cells

-- a list with `part` over what stood there from place `at` on
unfoldable pub overwritten : {A : Type 0} → ℕ → List A → List A → List A
overwritten at part whole = take at whole ++ (part ++ drop (at + length part) whole)

-- the first `size` bytes of a cell
abbrev pub cell_bytes : ℕ → ℕ → List ℕ → List ℕ
cell_bytes cell size store = take size (drop (cell * cell_size) store)

-- ---- which use of a cell is refused

-- 5: the store is below one cell; 6: it has no such cell; 4: the payload's size is above one cell
unfoldable pub cell_outcome : ℕ → ℕ → ℕ → Outcome
cell_outcome store_length cell size =
    refuse_if (nat_lt store_length cell_size) InsufficientBuffer
    (refuse_if (nat_le (cells_of store_length) cell) InvalidState
    (refuse_if (nat_lt cell_size size) PayloadTooLong (Ok tt)))

-- ---- putting a payload into a cell

pub record Put (store : List ℕ) (cell : ℕ) (payload : List ℕ) (answer : Outcome) (after : List ℕ) : Type 0 where
  pub outcome : answer ≡ cell_outcome (length store) cell (length payload)
  pub stored : after ≡ if_accepted answer (overwritten (cell * cell_size) payload store) store

-- ---- copying a payload of `size` bytes from a cell to an output

-- 5 also if the output is below its head and one cell
abbrev pub copy_outcome : ℕ → ℕ → ℕ → ℕ → Outcome
copy_outcome store_length cell size output_length =
    refuse_if (nat_lt output_length output_size) InsufficientBuffer (cell_outcome store_length cell size)

pub record Copied (store : List ℕ) (cell size : ℕ) (output : List ℕ) (answer : Outcome) (after : List ℕ) : Type 0 where
  pub outcome : answer ≡ copy_outcome (length store) cell size (length output)
  pub copied : after ≡ if_accepted answer (overwritten head_size (cell_bytes cell size store) output) output
