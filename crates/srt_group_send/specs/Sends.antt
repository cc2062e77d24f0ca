-- A send in either mode, over the lent tables: what its parts may rely on, and what they leave.
use Rattle.std.specs.Prelude.{◌≡◌, true, false, List, ℕ, ◌≤◌, ◌<◌, length, IfOk, None, Option, Some, Result, MatchOption, MatchResult}
use Rattle.srt_protocol.specs.declared.error.Error.{Error}
use Rattle.srt_protocol.specs.declared.error.Error.TheVariants.{NoFreeCell}
use Rattle.cell_set.specs.Sets.{LowestFree}
use Rattle.srt_protocol.specs.Cells.{cell_size, max_cells, cells_of}
use Rattle.srt_group_model.specs.Tools.{if_true◌then◌else◌}
use Rattle.srt_group_model.specs.State.{State, is_backup}
use Rattle.srt_group_model.specs.Run.{start, refresh_states}
use Rattle.srt_group_model.specs.Sending.{max_sent, Sent, Flow, send_broadcast}
use Rattle.srt_group_model.specs.Backup.{send_backup}
use Rattle.srt_group_model.specs.Calls.{send_flow}
use Rattle.srt_group_model.specs.Sound.{Fit}
use Rattle.srt_group_tables.specs.Ring.{Long, cells_in_word, entries_of}
use Rattle.srt_group_sending.specs.SentList.{Wrote}
use Rattle.srt_group_carrier.specs.Freeing.{SendFollows}
use Rattle.srt_group_carrier.specs.Lendable.{BackupTables, arrays_in}
use Rattle.srt_group_model.specs.Lent.{Lent, call_send, perform}
use Rattle.srt_group_shown.specs.Tables.{Parts, Tables, tables, state_of}
use Rattle.srt_group_shown.specs.Ready.{Performs}
use Rattle.srt_group.specs.declared.Group.{Group}
use Rattle.srt_group.specs.Made.{parts_of}
use Rattle.srt_group_send.specs.Answers.{send_number, send_answer}
use Rattle.srt_group_send.specs.declared.sending.GroupSent.{GroupSent}

-- the send of the mode
abbrev pub by_mode : (mode time size cell : ℕ) → State → Flow
by_mode mode time size cell s = if_true is_backup mode then send_backup time size cell s else send_broadcast time size s

-- the cell of a send; where it takes none, the model's names a number that is no cell
abbrev pub cell_or_none : Option ℕ → ℕ
cell_or_none None = max_cells
cell_or_none (Some cell) = cell

-- a Backup send takes a cell, and a Broadcast send none
abbrev pub CellByMode : ℕ → Option ℕ → Type 0
CellByMode mode cell = MatchOption cell (is_backup mode ≡ false) (λ k. (is_backup mode ≡ true) × (k < cells_in_word))

-- the cell of a send's payload: none in Broadcast, in Backup the lowest that is free; or in Backup none is free
abbrev pub CellOfSend : ℕ → List ℕ → ℕ → Result (Option ℕ) Error → Type 0
CellOfSend mode used cells r =
    MatchResult r
    (λ cell. MatchOption cell (is_backup mode ≡ false) (λ k. (is_backup mode ≡ true) × LowestFree used cells (Some k)))
    (λ e. (e ≡ NoFreeCell) × ((is_backup mode ≡ true) × LowestFree used cells None))

-- the state that a record shows, with held packets and waiting events, which no send moves
abbrev pub sending_state : Group → BackupTables → (pending waiting : List ℕ) → State
sending_state g t pending waiting = state_of (parts_of g) (tables t.members pending waiting t.history t.sources)

-- every number is in its range
pub record FitShown (g : Group) (t : BackupTables) : Type 0 where
  pub pending : List ℕ
  pub waiting : List ℕ
  pub fit : Fit (sending_state g t pending waiting)

-- The model's flow was made, from the refresh on, whatever no send moves; the rows written are its sends, and the set of used cells follows it.
pub record FlowMade (cell time size : ℕ) (g : Group) (before : BackupTables) (answer : GroupSent) (after : BackupTables) : Type 0 where
  pub members_long : length after.members ≡ length before.members
  pub arrays_long : Long (arrays_in after)
  pub few : answer.rows ≤ max_sent
  pub sends : List Sent
  pub written : Wrote 0 sends before.list answer.rows after.list
  pub legs : IfOk answer.answer (λ n. n ≡ (if_true is_backup g.core.mode then 1 else length sends))
  pub follows : SendFollows cell (entries_of g.ring (arrays_in before)) before.used (entries_of answer.«record».ring (arrays_in after)) after.used
  pub flow : (pending waiting payload : List ℕ) → length payload ≡ size
      → send_flow cell time payload (sending_state g before pending waiting)
      (refresh_states (start (sending_state g before pending waiting)))
      ≡ record {
        state = sending_state answer.«record» after pending waiting;
        sends = sends;
        code = send_number answer.answer;
      }

-- ---- the call

-- a payload of this size fits into the cell of a store of this length
pub record Storable (cell size store : ℕ) : Type 0 where
  pub one_cell : cell_size ≤ store
  pub there : cell < cells_of store
  pub short : size ≤ cell_size

-- the call is its definition, and so is the count of the rows that it fills
pub record Sends (time : ℕ) (payload : List ℕ) (p : Parts) (t : Tables) (bytes : Lent) (r : GroupSent) (t' : Tables) (bytes' : Lent) (used' : List ℕ) : Type 0 where
  pub performs : Performs (call_send time payload) p t bytes (send_number r.answer) (send_answer r.answer) (parts_of r.«record») t' bytes' used'
  pub rows : r.rows ≡ (perform (call_send time payload) bytes (state_of p t)).rows
