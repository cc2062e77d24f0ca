-- The numbers of the refusals (document 01, "Codes from the input" and "Codes from the state").
use Rattle.std.specs.Prelude.{ℕ, Bool, true, false, Result, Ok, Err}
use Rattle.srt_protocol.specs.declared.error.Error.{Error}
use Rattle.srt_protocol.specs.declared.error.Error.TheVariants.{MissingGroupMask, OutOfRange, UnknownMember, PayloadTooLong, InsufficientBuffer, InvalidState, MemberLimit, DuplicateMember, AlignmentFailed, PayloadAboveLimit, NoActiveMember, SequenceMismatch, AllBroadcastFailed, AllBackupFailed, ReplayRefused, PromotionSendFailed, NoFreeCell, QueueFull, OutOfTurn}

abbrev pub error_number : Error → ℕ
error_number MissingGroupMask = 1
error_number OutOfRange = 2
error_number UnknownMember = 3
error_number PayloadTooLong = 4
error_number InsufficientBuffer = 5
error_number InvalidState = 6
error_number MemberLimit = 20
error_number DuplicateMember = 21
error_number AlignmentFailed = 22
error_number PayloadAboveLimit = 23
error_number NoActiveMember = 24
error_number SequenceMismatch = 25
error_number AllBroadcastFailed = 26
error_number AllBackupFailed = 27
error_number ReplayRefused = 28
error_number PromotionSendFailed = 29
error_number NoFreeCell = 30
error_number QueueFull = 31
error_number OutOfTurn = 32

-- what a call answers that has nothing to give back
abbrev pub Outcome : Type 0
Outcome = Result (Unit {0}) Error

-- an outcome's number: 0 is accepted
abbrev pub outcome_number : Outcome → ℕ
outcome_number (Ok tt) = 0
outcome_number (Err e) = error_number e

-- ---- the first fault decides: a call is a chain of these, in document 01's order

abbrev pub refuse_if : Bool → Error → Outcome → Outcome
refuse_if true e other = Err e
refuse_if false e other = other

-- what an accepted call leaves, or what a refused one leaves
abbrev pub if_accepted : {A : Type 0} → Outcome → A → A → A
if_accepted (Ok tt) done unchanged = done
if_accepted (Err e) done unchanged = unchanged
