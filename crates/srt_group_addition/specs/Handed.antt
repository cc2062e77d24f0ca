-- A leg is handed to an addition in a lent row of the members' table: its first row, of which the membership part is not read.
use Rattle.srt_protocol.specs.Errors.{Outcome}
use Rattle.std.specs.Prelude.{Bool, not, ◌||◌, List, ℕ, leb, eqb, length, Ok}
use Rattle.srt_protocol.specs.declared.error.Error.TheVariants.{OutOfRange, InvalidState, MemberLimit, DuplicateMember}
use Rattle.srt_protocol.specs.Errors.{refuse_if, outcome_number}
use Rattle.srt_group_model.specs.Tools.{is_empty, any}
use Rattle.srt_group_model.specs.State.{Member}
use Rattle.srt_group_model.specs.Legs.{handed, largest_16, largest_32}
use Rattle.srt_group_model.specs.Members.{has_id}
use Rattle.srt_group_model.specs.Validity.{above, leg_out_of_range, leg_sequence_too_large, max_members}
use Rattle.srt_group_model.specs.Guards.{no_answer}
use Rattle.srt_group_model.specs.Lent.{Call, call_add_member}
use Rattle.srt_group_model.specs.declared.Core.{Core}
use Rattle.srt_group_model.specs.declared.Event.{Event}
use Rattle.srt_group_model.specs.declared.Identity.{Identity}
use Rattle.srt_group_model.specs.declared.Leg.{Leg}
use Rattle.srt_group_model.specs.declared.Sending.{Sending}
use Rattle.srt_connection_members.specs.Members.{member_at}
use Rattle.srt_group_tables.specs.declared.history.HistoryRing.{HistoryRing}
use Rattle.srt_group_shown.specs.Tables.{parts, tables}
use Rattle.srt_group_shown.specs.Steps.{Unbroken, StepsKeeping}
use Rattle.srt_group.specs.declared.Answered.{Answered}

-- ---- what refuses it, after 5 and 6 of the group's own state

-- 6: its queue is not empty, or its reservation not 0
abbrev pub in_use : Leg → (queue : List Event) → Bool
in_use l queue = not (is_empty queue) || not (eqb l.receiver.reserved 0)

-- 2
abbrev pub unfit : (id weight : ℕ) → Leg → Bool
unfit id weight l =
    above largest_32 id || (above largest_16 weight || (leg_out_of_range (handed l) || leg_sequence_too_large l))

abbrev pub first_refusal : (in_use unfit full duplicate : Bool) → Outcome
first_refusal in_use unfit full duplicate =
    refuse_if in_use InvalidState
    (refuse_if unfit OutOfRange (refuse_if full MemberLimit (refuse_if duplicate DuplicateMember (Ok tt))))

abbrev pub addition_refused : (id weight : ℕ) → Leg → (queue : List Event) → List Member → Outcome
addition_refused id weight l queue ms =
    first_refusal (in_use l queue) (unfit id weight l) (leb max_members (length ms)) (any (has_id id) ms)

-- ---- the call

-- the leg and the queue that a row shows
abbrev pub call_of_member : (id weight : ℕ) → Member → Call
call_of_member id weight m = call_add_member id weight m.leg m.queue

abbrev pub call_of_row : (id weight : ℕ) → (row : List ℕ) → Call
call_of_row id weight row = call_of_member id weight (member_at row 0)

-- it is its definition after 5 and 6 of the group's own state, and the same cells are in use, over whatever it does not touch
pub record StepsAdding (call : Call) (core : Core) (sending : Sending) (members : List ℕ) (answer : Answered Core (Unit {0})) (members' : List ℕ) : Type 0 where
  pub over : (identity : Identity) (ring : HistoryRing) (pending waiting history sources : List ℕ)
      → Unbroken (parts identity core sending ring) (tables members pending waiting history sources)
      → StepsKeeping call (parts identity core sending ring) (tables members pending waiting history sources)
      (outcome_number answer.answer) no_answer (parts identity answer.«record» sending ring)
      (tables members' pending waiting history sources)
