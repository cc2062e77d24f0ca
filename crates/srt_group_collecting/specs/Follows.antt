-- The set of used cells follows a step: if its words showed the cells in use before, they show them after, over every history, since
-- receiving touches none. It says nothing of which cells were freed, so that it goes through a loop as one function after another.
use Rattle.std.specs.Prelude.{◌≡◌, List, ◌++◌, ℕ, length}
use Rattle.srt_group_model.specs.declared.Core.{Core}
use Rattle.srt_group_model.specs.declared.Entry.{Entry}
use Rattle.srt_group_model.specs.Cells.{queued_cells}
use Rattle.srt_group_model.specs.Sound.{pending_cells, history_cells}
use Rattle.srt_connection_members.specs.Members.{members_of}
use Rattle.srt_group_tables.specs.Packets.{packets}
use Rattle.cell_set.specs.Sets.{ShowsCells}
use Rattle.cell_set.specs.Bits.{set_size}

-- the cells that queued, held and history payloads are in; no waiting event names one
abbrev pub named : Core → List Entry → (members pending : List ℕ) → List ℕ
named core history members pending =
    queued_cells (members_of core.counts.members members)
    ++ (pending_cells (packets core.counts.pending pending) ++ history_cells history)

pub record Follows (core : Core) (ms ps used : List ℕ) (after : Core) (ms' ps' used' : List ℕ) : Type 0 where
  pub long : length used' ≡ set_size
  pub shows : (history : List Entry) → ShowsCells used (named core history ms ps) → ShowsCells used' (named after history ms' ps')
