-- What queueing data does to the tables, and that it is document 01's.
use Rattle.srt_protocol.specs.Errors.{Outcome}
use Rattle.std.specs.Prelude.{◌≡◌, List, ℕ, ◌+◌, ◌*◌, ◌^◌, ◌≤◌, ◌<◌, length, Err, Ok}
use Rattle.srt_protocol.specs.declared.error.Error.{Error}
use Rattle.srt_protocol.specs.Errors.{if_accepted}
use Rattle.srt_protocol.specs.Cells.{cell_size, cells_of, overwritten}
use Rattle.srt_group_model.specs.State.{Member, on_leg}
use Rattle.srt_group_model.specs.Legs.{add_reservation}
use Rattle.srt_group_model.specs.Calls.{enqueue, data_event}
use Rattle.srt_group_model.specs.declared.Data.{Data}
use Rattle.srt_connection_queue.specs.Queue.{push_outcome}
use Rattle.srt_connection_members.specs.Members.{member_at, HasRow, Changed}
use Rattle.cell_set.specs.Sets.{Taken}

-- ---- the member at an index, once a cell is found

pub record Enqueueable (index cell : ℕ) (d : Data) (size : ℕ) (members : List ℕ) (store : ℕ) : Type 0 where
  pub there : HasRow index members
  pub room : (member_at members index).leg.receiver.reserved + d.count < 2 ^ 64
  pub one_cell : cell_size ≤ store
  pub cell_there : cell < cells_of store
  pub payload : size ≤ cell_size

-- the packet is queued and its count reserved
abbrev pub with_data : (cell size : ℕ) → Data → Member → Member
with_data cell size d m = on_leg (add_reservation d.count) (enqueue (data_event cell size d) m)

pub record Enqueues (index cell : ℕ) (d : Data) (payload members store used : List ℕ) (r : Outcome) (members' store' used' : List ℕ) : Type 0 where
  pub outcome : r ≡ push_outcome (member_at members index)
  pub queued : Changed index (λ m. if_accepted r (with_data cell (length payload) d m) m) members members'
  pub stored_there : store' ≡ if_accepted r (overwritten (cell * cell_size) payload store) store
  pub taken : r ≡ Ok tt → Taken cell used used'
  pub kept : (e : Error) → r ≡ Err e → used' ≡ used
