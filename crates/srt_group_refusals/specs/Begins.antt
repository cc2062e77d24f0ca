-- What a public call tests before all else: 5 for lent tables too short for their rows, then the first codes of its definition.
use Rattle.srt_protocol.specs.Errors.{Outcome}
use Rattle.std.specs.Prelude.{◌≡◌, Bool, not, ◌||◌, List, ℕ, ◌≤◌, eqb, ltb, length, Ok}
use Rattle.srt_protocol.specs.declared.error.Error.TheVariants.{InsufficientBuffer, InvalidState}
use Rattle.srt_protocol.specs.Errors.{refuse_if}
use Rattle.srt_protocol.specs.Cells.{cells_of, output_size}
use Rattle.srt_group_model.specs.Backup.{max_history}
use Rattle.srt_group_model.specs.Validity.{is_invalid}
use Rattle.srt_group_model.specs.Calls.{store_unfit, output_unfit, breaks_rule}
use Rattle.srt_connection_members.specs.Members.{members_size}
use Rattle.srt_group_tables.specs.Packets.{pending_size}
use Rattle.srt_group_tables.specs.Waitings.{waiting_size}
use Rattle.srt_group_shown.specs.Tables.{Parts, Tables, state_of}
use Rattle.srt_group_shown.specs.Ready.{Ready}

-- a table has fewer words than its rows take, or one of the history's two is not 512 long
unfoldable pub are_short : Tables → Bool
are_short t =
    ltb (length t.members) members_size
    || (ltb (length t.pending) pending_size
    || (ltb (length t.waiting) waiting_size
    || (not (eqb (length t.history) max_history) || not (eqb (length t.sources) max_history))))

-- How a call begins that is lent no store: 5 for short tables, 6, or it goes on.
abbrev pub begun : Parts → Tables → Outcome
begun p t = refuse_if (are_short t) InsufficientBuffer (refuse_if (breaks_rule (state_of p t)) InvalidState (Ok tt))

-- How a call begins that is lent a store of so many bytes: 5 for short tables, 5 for the store, 6, or it goes on.
abbrev pub begun_stored : Parts → Tables → (store : ℕ) → Outcome
begun_stored p t store =
    refuse_if (are_short t) InsufficientBuffer
    (refuse_if (store_unfit store (state_of p t)) InsufficientBuffer
    (refuse_if (is_invalid (cells_of store) (state_of p t)) InvalidState (Ok tt)))

-- it begins so; where it goes on, the form for a valid state may be called
pub record BeginsStored (p : Parts) (t : Tables) (store : ℕ) (r : Outcome) (used : List ℕ) : Type 0 where
  pub is : r ≡ begun_stored p t store
  pub ready : r ≡ Ok tt → Ready p t store used

-- how a poll begins, which is lent an output too: 5 if that has no room, then the same
abbrev pub begun_poll : Parts → Tables → (store output : ℕ) → Outcome
begun_poll p t store output = refuse_if (output_unfit output) InsufficientBuffer (begun_stored p t store)

pub record BeginsPoll (p : Parts) (t : Tables) (store output : ℕ) (r : Outcome) (used : List ℕ) : Type 0 where
  pub is : r ≡ begun_poll p t store output
  pub ready : r ≡ Ok tt → Ready p t store used
  pub room : r ≡ Ok tt → output_size ≤ output
