-- A call in words that begins with 5 and 6 and then does what its form for a valid state does.
use Rattle.srt_protocol.specs.Errors.{Outcome}
use Rattle.std.specs.Prelude.{◌≡◌, refl, Bool, true, false, not, ◌||◌, List, [], ◌∷◌, ℕ, ◌≤◌, ◌<◌, eqb, ltb, length, Err, Ok}
use Rattle.std.proofs.Common.{sym, ap, subst, ◌∙◌, arith, lt-ltb, le-ltb, eq-eqb, ne_eqb}
use Rattle.srt_protocol.specs.declared.error.Error.{Error}
use Rattle.srt_protocol.specs.declared.error.Error.TheVariants.{MissingGroupMask, OutOfRange, UnknownMember, PayloadTooLong, InsufficientBuffer, InvalidState, MemberLimit, DuplicateMember, AlignmentFailed, PayloadAboveLimit, NoActiveMember, SequenceMismatch, AllBroadcastFailed, AllBackupFailed, ReplayRefused, PromotionSendFailed, NoFreeCell, QueueFull, OutOfTurn}
use Rattle.srt_protocol.specs.Errors.{error_number, outcome_number}
use Rattle.srt_protocol.specs.Cells.{overwritten}
use Rattle.srt_group_model.specs.Laws.Reason.{when_true, when_false, or_yes_right}
use Rattle.srt_group_model.specs.Guards.{no_answer}
use Rattle.srt_group_model.specs.Lent.{Lent, Call}
use Rattle.srt_group_model.specs.Answers.{values_of}
use Rattle.cell_set.specs.Bits.{set_size}
use Rattle.srt_group_traces.specs.Laws.Port.{performs_does}
use Rattle.srt_group_shown.specs.Tables.{Tables, state_of}
use Rattle.srt_group_shown.specs.Ready.{lending}
use Rattle.srt_group.specs.Made.{parts_of}
use Rattle.srt_group.specs.declared.Group.{Group}
use Rattle.srt_group_refusals.specs.Begins.{are_short, BeginsStored, BeginsPoll}
use Rattle.srt_group_refusals.specs.Laws.Begins.{not_short, begins_as_stored, has_room}
use Rattle.srt_group_refusals.specs.Promised.{showing, Promised}
use Rattle.srt_group_refusals.specs.Laws.Promised.{promised_does}
use Rattle.srt_group_words.specs.Record.{record_size, group_of}
use Rattle.srt_group_words.specs.Words.{zeros, Says, silent, in_words, sent_words, Words, words, parts_in, are_few, PromisedWords, ReadyWords, PerformsWords, set_unfit, BeginsValid}
use Rattle.srt_group_words.specs.Laws.Words.{silent_enough, sent_enough, room_in_words, in_words_of}

-- ---- the number of an outcome

number_refused : (e : Error) → error_number e ≡ 0 → ⊥
number_refused MissingGroupMask h = omega arith
number_refused OutOfRange h = omega arith
number_refused UnknownMember h = omega arith
number_refused PayloadTooLong h = omega arith
number_refused InsufficientBuffer h = omega arith
number_refused InvalidState h = omega arith
number_refused MemberLimit h = omega arith
number_refused DuplicateMember h = omega arith
number_refused AlignmentFailed h = omega arith
number_refused PayloadAboveLimit h = omega arith
number_refused NoActiveMember h = omega arith
number_refused SequenceMismatch h = omega arith
number_refused AllBroadcastFailed h = omega arith
number_refused AllBackupFailed h = omega arith
number_refused ReplayRefused h = omega arith
number_refused PromotionSendFailed h = omega arith
number_refused NoFreeCell h = omega arith
number_refused QueueFull h = omega arith
number_refused OutOfTurn h = omega arith

zero_accepted : (o : Outcome) → outcome_number o ≡ 0 → o ≡ Ok tt
zero_accepted (Ok tt) h = refl
zero_accepted (Err e) h = absurd (number_refused e h)

-- ---- the group that was read

module _ (w : List ℕ) {g : Group} (read : g ≡ group_of w) {t : Tables} {store : ℕ} {used : List ℕ} {o : Outcome} where
  pub begun_stored : BeginsStored (parts_of g) t store o used → BeginsStored (parts_of (group_of w)) t store o used
  begun_stored begins = subst (λ (x : Group). BeginsStored (parts_of x) t store o used) read begins

  pub begun_poll : {output : ℕ} → BeginsPoll (parts_of g) t store output o used → BeginsPoll (parts_of (group_of w)) t store output o used
  begun_poll {output} begins = subst (λ (x : Group). BeginsPoll (parts_of x) t store output o used) read begins

-- ---- it goes on

module _ {w : List ℕ} {t : Tables} {store : ℕ} {used : List ℕ} {o : Outcome} where
  pub stored_ready : BeginsStored (parts_of (group_of w)) t store o used → o ≡ Ok tt → record_size ≤ length w → ReadyWords w t store used
  stored_ready begins on long = record { long = long; ready = begins.ready on }

  pub poll_ready : {output : ℕ} → BeginsPoll (parts_of (group_of w)) t store output o used → o ≡ Ok tt → record_size ≤ length w
      → ReadyWords w t store used
  poll_ready begins on long = record { long = long; ready = begins.ready on }

-- the form's promise is the call's
performed_in_words : {call : Call} {says : Says} {w : List ℕ} {t : Tables} {bytes : Lent} {answer : List ℕ} {code : ℕ} {after : Words} {used' : List ℕ}
    → are_short t ≡ false → are_few says (words w t bytes answer) ≡ false → PerformsWords call says (words w t bytes answer) code after used'
    → PromisedWords call says false (words w t bytes answer) code after
unfolding showing
performed_in_words {call} {says} {w} {t} {bytes} {answer} {code} {after} long enough done =
    let p = parts_of (group_of w) in
    in_words_of call says w t bytes answer enough after.group after.tables after.bytes after.answer code done.given done.rows
    (promised_does call p t bytes (showing (parts_in after) after.tables after.bytes code done.given done.rows) long
    (performs_does call bytes (state_of p t) (showing (parts_in after) after.tables after.bytes code done.given done.rows)
    done.performs.code done.performs.answer done.performs.state done.performs.lent done.filled))
    done.said done.behind

module _ {call : Call} {w : List ℕ} {t : Tables} {bytes : Lent} {after : Words} {number : ℕ} {used' : List ℕ} (long : record_size ≤ length w) where
  pub stored_silent : {store : ℕ} {used : List ℕ} {o : Outcome} → BeginsStored (parts_of (group_of w)) t store o used → o ≡ Ok tt
      → PerformsWords call silent (words w t bytes []) number after used' → PromisedWords call silent false (words w t bytes []) number after
  stored_silent begins on done = performed_in_words (not_short begins on) (silent_enough w t bytes long) done

  pub stored_sent : {answer : List ℕ} → 2 ≤ length answer → {store : ℕ} {used : List ℕ} {o : Outcome}
      → BeginsStored (parts_of (group_of w)) t store o used → o ≡ Ok tt
      → PerformsWords call sent_words (words w t bytes answer) number after used'
      → PromisedWords call sent_words false (words w t bytes answer) number after
  stored_sent {answer} room begins on done = performed_in_words (not_short begins on) (sent_enough w t bytes answer long room) done

  pub poll_performed : {size : ℕ} {answer : List ℕ} → size ≤ length answer → {store output : ℕ} {used : List ℕ} {o : Outcome}
      → BeginsPoll (parts_of (group_of w)) t store output o used → o ≡ Ok tt
      → PerformsWords call (in_words size) (words w t bytes answer) number after used'
      → PromisedWords call (in_words size) false (words w t bytes answer) number after
  poll_performed {answer = answer} room begins on done =
      performed_in_words (not_short (begins_as_stored begins (has_room begins on)) on) (room_in_words w t bytes answer long room) done

-- ---- it is refused

module _ (call : Call) (w : List ℕ) (t : Tables) (bytes : Lent) where
  abbrev refused_with : ℕ → Type 0
  refused_with n = Promised call (parts_of (group_of w)) t bytes (showing (parts_of (group_of w)) t bytes n no_answer 0)

  pub refused_in_words : (e : Error) {code : ℕ} → code ≡ error_number e → refused_with (error_number e) → refused_with code
  refused_in_words e same refused = subst refused_with (sym same) refused

-- a poll by 5 of the output, of the tables or of the store, or by 6: the words of its answer are 0
pub poll_refused : (call : Call) (w : List ℕ) (t : Tables) (store output answer : List ℕ) → record_size ≤ length w → 8 ≤ length answer
    → (e : Error) {code : ℕ} → code ≡ error_number e
    → {answer' : List ℕ} → answer' ≡ overwritten 0 (0 ∷ 0 ∷ 0 ∷ 0 ∷ 0 ∷ 0 ∷ 0 ∷ 0 ∷ []) answer
    → refused_with call w t (lending store output) (error_number e)
    → PromisedWords call (in_words 8) false (words w t (lending store output) answer) code (words w t (lending store output) answer')
unfolding in_words values_of zeros
poll_refused call w t store output answer long room e {code} same {answer'} put refused =
    in_words_of call (in_words 8) w t (lending store output) answer (room_in_words w t (lending store output) answer long room) w t
    (lending store output) answer' code no_answer 0
    (refused_in_words call w t (lending store output) e same refused) put refl

-- ---- a host that is the only writer begins

module _ (w : List ℕ) (t : Tables) (store : ℕ) (used : List ℕ) where
  unfit_refused : set_unfit w used ≡ true → BeginsValid w t store used 5 used
  unfit_refused unfit = record { is = sym (when_true (set_unfit w used) 5 _ unfit); ready = λ zero. absurd (omega (arith, zero)) }

  pub record_unfit : length w < record_size → BeginsValid w t store used 5 used
  record_unfit short = unfit_refused (ap (λ (b : Bool). b || not (eqb (length used) set_size)) (lt-ltb (length w) record_size short))

  pub set_refused : (length used ≡ set_size → ⊥) → BeginsValid w t store used 5 used
  set_refused other =
      unfit_refused (or_yes_right (ltb (length w) record_size) _ (ap not (ne_eqb (length used) set_size other)))

  pub begins_valid : record_size ≤ length w → length used ≡ set_size → {o : Outcome} {used' : List ℕ}
      → BeginsStored (parts_of (group_of w)) t store o used' → {code : ℕ} → code ≡ outcome_number o → BeginsValid w t store used code used'
  begins_valid long size {o} begins same =
      let fits : set_unfit w used ≡ false =
      ap (λ (b : Bool). b || not (eqb (length used) set_size)) (le-ltb (length w) record_size long)
      ∙ ap not (eq-eqb (length used) set_size size)
      in
      record {
        is = same ∙ ap outcome_number begins.is ∙ sym (when_false (set_unfit w used) 5 _ fits);
        ready = λ on. stored_ready begins (zero_accepted o (sym same ∙ on)) long;
      }
