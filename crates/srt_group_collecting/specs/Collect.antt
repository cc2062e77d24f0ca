-- What is left by holding or discarding a packet, and by reporting an event.
use Rattle.std.specs.Prelude.{◌≡◌, true, false, List, ℕ, ◌+◌, ◌≤◌, ◌<◌, length, leb}
use Rattle.srt_protocol.specs.Cells.{max_cells}
use Rattle.srt_group_model.specs.declared.Core.{Core}
use Rattle.srt_group_model.specs.declared.Packet.{Packet}
use Rattle.srt_group_model.specs.declared.Waiting.{Waiting}
use Rattle.srt_group_model.specs.Tools.{if_true◌then◌else◌, change}
use Rattle.srt_group_model.specs.State.{Member, Receive, is_backup, turned, broken_state, receive_side}
use Rattle.srt_group_model.specs.Accounts.{reserve, Fits}
use Rattle.srt_group_model.specs.Legs.{largest_sequence}
use Rattle.srt_group_model.specs.Members.{promote_backup_member}
use Rattle.srt_group_model.specs.Validity.{max_pending, ascends}
use Rattle.srt_group_model.specs.Cells.{is_among}
use Rattle.srt_group_model.specs.Sound.{pending_cells}
use Rattle.srt_group_model.specs.Collecting.{retain_group_packet, report_event}
use Rattle.srt_group_tables.specs.Packets.{pending_size, packets}
use Rattle.srt_group_shown.specs.Tables.{receive_tables}
use Rattle.srt_group_collecting.specs.Leaves.{Leaves}

-- ---- a packet is held or discarded

-- the packet of member m can be held in a table that holds so many
pub record Holdable (held : ℕ) (pending : List ℕ) (p : Packet) (m : Member) : Type 0 where
  pub long : pending_size ≤ length pending
  pub few : held < max_pending
  pub ascending : ascends (packets held pending) ≡ true
  pub sequence : p.content.sequence ≤ largest_sequence
  pub cell : p.content.cell < max_cells
  pub apart : is_among p.content.cell (pending_cells (packets held pending)) ≡ false
  pub room : Fits (reserve p.content.count m.membership.account)

-- over any waiting events, which stay
pub record Retained (i : ℕ) (p : Packet) (core : Core) (ms ps : List ℕ) (after : Core) (ms' ps' : List ℕ) : Type 0 where
  pub waiting_same : after.counts.waiting ≡ core.counts.waiting
  pub leaves : (ws : List ℕ) → Leaves (retain_group_packet i p) core (receive_tables ms ps ws) after (receive_tables ms' ps' ws)

-- what is received of a state that is shown
abbrev pub receive_of : Core → List ℕ → Receive
receive_of core ps = receive_side core.receiving (packets core.counts.pending ps)

-- ---- an event is reported

-- what an event of this kind makes of the members: an error or a disconnect breaks the one at a place and, in Backup, promotes
abbrev pub broken_by : (mode kind place : ℕ) → List Member → List Member
broken_by mode kind i ms =
    if_true leb 2 kind
    then
    (let broken = change i (turned broken_state) ms in
    if_true is_backup mode then promote_backup_member broken else broken)
    else ms

-- over any held packets, which stay
pub record Reported (i : ℕ) (w : Waiting) (core : Core) (ms ws : List ℕ) (after : Core) (ms' ws' : List ℕ) : Type 0 where
  pub waiting_more : after.counts.waiting ≡ core.counts.waiting + 1
  pub leaves : (ps : List ℕ) → Leaves (report_event i w) core (receive_tables ms ps ws) after (receive_tables ms' ps ws')
