-- What is known of the packet that a data poll gives: its cell lies in the store, and its payload in the cell.
use Rattle.std.specs.Prelude.{ℕ, ◌≤◌, ◌<◌, None, Option, Some}
use Rattle.srt_protocol.specs.Cells.{cell_size}
use Rattle.srt_group_model.specs.declared.Packet.{Packet}

-- ---- the walk

abbrev pub GaveData : (Packet → Type 0) → Option Packet → Type 0
GaveData Q None = Unit {0}
GaveData Q (Some p) = Q p

-- ---- a held packet's cell and payload

-- it lies in a store of so many cells
pub record InStore (cells : ℕ) (p : Packet) : Type 0 where
  pub cell : p.content.cell < cells
  pub size : p.content.length ≤ cell_size
