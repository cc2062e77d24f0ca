-- A leg that is given back, by the number of the outcome.
use Rattle.srt_protocol.specs.Errors.{Outcome}
use Rattle.std.specs.Prelude.{◌≡◌, refl, Bool, true, false, List, ℕ, ◌<◌, eqb, length, Err, Ok}
use Rattle.std.proofs.Common.{sym, ap, subst, ◌∙◌}
use Rattle.srt_protocol.specs.declared.error.Error.{Error}
use Rattle.srt_protocol.specs.declared.error.Error.TheVariants.{MissingGroupMask, OutOfRange, UnknownMember, PayloadTooLong, InsufficientBuffer, InvalidState, MemberLimit, DuplicateMember, AlignmentFailed, PayloadAboveLimit, NoActiveMember, SequenceMismatch, AllBroadcastFailed, AllBackupFailed, ReplayRefused, PromotionSendFailed, NoFreeCell, QueueFull, OutOfTurn}
use Rattle.srt_protocol.specs.Errors.{error_number, outcome_number}
use Rattle.srt_group_model.specs.Tools.{if_true◌then◌else◌}
use Rattle.srt_group_model.specs.Laws.Reason.{when_false}
use Rattle.srt_group_model.specs.Guards.{no_answer, leg_back}
use Rattle.srt_group_model.specs.Lent.{Lent, call_remove_member_connection}
use Rattle.srt_group_shown.specs.Tables.{Tables}
use Rattle.srt_group_refusals.specs.Promised.{row_short}
use Rattle.srt_group_removal.specs.Connection.{leg_in, RowAfter, given_back}
use Rattle.srt_group_words.specs.Record.{record_size}
use Rattle.srt_group_words.specs.Words.{silent, Words, words, Gives, PerformsGives}
use Rattle.srt_group_words.specs.Laws.Words.{record_gives}
use Rattle.srt_group_c_members.specs.LegBack.{leg_given, RowBy, PromisedLegBack, PerformsLegBack}

not_zero : (e : Error) → eqb (error_number e) 0 ≡ false
not_zero MissingGroupMask = refl
not_zero OutOfRange = refl
not_zero UnknownMember = refl
not_zero PayloadTooLong = refl
not_zero InsufficientBuffer = refl
not_zero InvalidState = refl
not_zero MemberLimit = refl
not_zero DuplicateMember = refl
not_zero AlignmentFailed = refl
not_zero PayloadAboveLimit = refl
not_zero NoActiveMember = refl
not_zero SequenceMismatch = refl
not_zero AllBroadcastFailed = refl
not_zero AllBackupFailed = refl
not_zero ReplayRefused = refl
not_zero PromotionSendFailed = refl
not_zero NoFreeCell = refl
not_zero QueueFull = refl
not_zero OutOfTurn = refl

-- what the outcome says, its number says
leg_by_number : (o : Outcome) (row : List ℕ) → given_back o row ≡ leg_given (outcome_number o) row
unfolding if_true◌then◌else◌
leg_by_number (Ok tt) row = refl
leg_by_number (Err e) row = sym (when_false (eqb (error_number e) 0) (leg_back (leg_in row)) no_answer (not_zero e))

row_by_number : (o : Outcome) (row row' : List ℕ) → RowAfter o row row' → RowBy (eqb (outcome_number o) 0) row row'
row_by_number (Ok tt) row row' after = after
row_by_number (Err e) row row' after = subst (λ (b : Bool). RowBy b row row') (sym (not_zero e)) after

module _ {code : ℕ} (o : Outcome) (row row' : List ℕ) (same : code ≡ outcome_number o) (left : RowAfter o row row') where
  given : given_back o row' ≡ leg_given code row'
  given = leg_by_number o row' ∙ ap (λ (n : ℕ). leg_given n row') (sym same)

  row_left : RowBy (eqb code 0) row row'
  row_left = subst (λ (n : ℕ). RowBy (eqb n 0) row row') (sym same) (row_by_number o row row' left)

  pub promised_leg_back : {id : ℕ} {before after : Words} → Gives (call_remove_member_connection id) silent (row_short row) before code after (given_back o row')
      → PromisedLegBack id before code after row row'
  promised_leg_back gives = record { gives = record { promised = gives.promised; is = gives.is ∙ given }; row = row_left }

  pub performs_leg_back : {id : ℕ} {before after : Words} {used' : List ℕ} → PerformsGives (call_remove_member_connection id) silent before code after used' (given_back o row')
      → PerformsLegBack id before code after used' row row'
  performs_leg_back gives = record { gives = record { performs = gives.performs; is = gives.is ∙ given }; row = row_left }

pub leg_refused : {id : ℕ} {w : List ℕ} {t : Tables} {bytes : Lent} {answer : List ℕ} {row : List ℕ} → length w < record_size
    → PromisedLegBack id (words w t bytes answer) 5 (words w t bytes answer) row row
unfolding if_true◌then◌else◌
leg_refused short = record { gives = record_gives short; row = refl }
