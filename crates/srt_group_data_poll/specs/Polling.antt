-- The data poll of a valid state: what it writes, and that it is document 01's.
use Rattle.srt_group_model.specs.declared.Packet.{Packet}
use Rattle.std.specs.Prelude.{ℕ, ◌+◌, ◌≤◌, Option}
use Rattle.srt_protocol.specs.Cells.{cell_size, head_size, cells_of}
use Rattle.srt_group_model.specs.Tools.{is_set}
use Rattle.srt_group_model.specs.Guards.{Answer, data_polled}
use Rattle.srt_group_model.specs.Given.{GaveData, InStore}
use Rattle.srt_group_polls.specs.declared.polls.DataPoll.{DataPoll}

-- the answer of a data poll: its packet, and whether it asks to be called again at once
abbrev pub answer_of : DataPoll → Answer
answer_of r = data_polled r.gave (is_set r.continuation)

-- ---- the payload

pub record Writable (gave : Option Packet) (store output : ℕ) : Type 0 where
  pub given : GaveData (InStore (cells_of store)) gave
  pub one_cell : cell_size ≤ store
  pub room : head_size + cell_size ≤ output
