-- `remove_member_connection` after 5 and 6: what it rests on, what it promises over whatever it does not touch, and what the lent row
-- shows afterwards.
use Rattle.srt_protocol.specs.Errors.{Outcome}
use Rattle.std.specs.Prelude.{◌≡◌, List, [], ℕ, ◌*◌, ◌≤◌, ◌<◌, length, Err, Ok}
use Rattle.srt_protocol.specs.Errors.{outcome_number}
use Rattle.srt_group_model.specs.declared.Core.{Core}
use Rattle.srt_group_model.specs.declared.Identity.{Identity}
use Rattle.srt_group_model.specs.declared.Leg.{Leg}
use Rattle.srt_group_model.specs.declared.Sending.{Sending}
use Rattle.srt_group_model.specs.State.{State}
use Rattle.srt_group_model.specs.Guards.{Answer, leg_back}
use Rattle.srt_group_model.specs.Lent.{Lent, call_remove_member_connection, perform}
use Rattle.srt_connection_queue.specs.Rows.{row_size, member_from}
use Rattle.srt_connection_members.specs.Members.{member_at}
use Rattle.srt_group_tables.specs.declared.history.HistoryRing.{HistoryRing}
use Rattle.srt_group_shown.specs.Tables.{Parts, parts, Tables, tables, state_of}
use Rattle.srt_group_shown.specs.Ready.{Performs}
use Rattle.srt_group_shown.specs.Steps.{Unbroken, Steps}
use Rattle.srt_group_refusals.specs.Promised.{answered, nothing_lent, showing, Promised}
use Rattle.srt_group.specs.declared.Answered.{Answered}
use Rattle.srt_group_removal.specs.Removal.{Removable}

-- whichever member is named, its removal has what it relies on
pub record AnyRemovable (core : Core) (members pending : List ℕ) : Type 0 where
  pub rows : core.counts.members * row_size ≤ length members
  pub each : (i : ℕ) → i < core.counts.members → Removable i core members pending

-- ---- the lent row

-- the leg that the lent row shows
abbrev pub leg_in : List ℕ → Leg
leg_in row = (member_at row 0).leg

-- the first lent row shows this leg, with an empty queue; its membership stays as it was lent, and so do the rows behind it
pub record GivesBack (leg : Leg) (row row' : List ℕ) : Type 0 where
  pub long : length row' ≡ length row
  pub here : member_at row' 0 ≡ member_from (member_at row 0).membership leg []
  pub others : (j : ℕ) → (j ≡ 0 → ⊥) → member_at row' j ≡ member_at row j

-- accepted: a leg is given back in it; refused: it is as it was
abbrev pub RowAfter : Outcome → (row row' : List ℕ) → Type 0
RowAfter (Ok tt) row row' = GivesBack (leg_in row') row row'
RowAfter (Err e) row row' = row' ≡ row

-- the answer of the call: accepted, the leg in the row
abbrev pub given_back : Outcome → (row : List ℕ) → Answer
given_back o row = answered o (leg_back (leg_in row))

-- ---- the call

-- the call is its definition, over whatever it does not touch
pub record StepsRemoval (id : ℕ) (core : Core) (ms ps : List ℕ) (r : Answered Core (Unit {0})) (ms' ps' row' : List ℕ) : Type 0 where
  pub over : (identity : Identity) (sending : Sending) (ring : HistoryRing) (waiting history sources : List ℕ)
      → Unbroken (parts identity core sending ring) (tables ms ps waiting history sources)
      → Steps (call_remove_member_connection id) (parts identity core sending ring) (tables ms ps waiting history sources)
      (outcome_number r.answer) (given_back r.answer row')
      (parts identity r.«record» sending ring) (tables ms' ps' waiting history sources)

-- The answer of the call as it is defined. `remove_member` drops it, as the Rust does: of the leg it shows nothing.
abbrev pub answer_dropped : (id : ℕ) → Lent → State → Answer
answer_dropped id bytes s = (perform (call_remove_member_connection id) bytes s).answer

abbrev pub PerformsDropping : (id : ℕ) → Parts → Tables → Lent → (number : ℕ) → Parts → Tables → Lent → (used' : List ℕ) → Type 0
PerformsDropping id p t bytes number p' t' bytes' used' =
    Performs (call_remove_member_connection id) p t bytes number (answer_dropped id bytes (state_of p t)) p' t' bytes' used'

-- the promise of `remove_member`
abbrev pub PromisedDropping : (id : ℕ) → Parts → Tables → Outcome → Parts → Tables → Type 0
PromisedDropping id p t o p' t' =
    Promised (call_remove_member_connection id) p t nothing_lent
    (showing p' t' nothing_lent (outcome_number o) (answered o (answer_dropped id nothing_lent (state_of p t))) 0)
