-- What is proved of the definitions in specs/Telling.antt, with what the proofs need.
use Rattle.std.specs.Prelude.{◌≡◌, Bool, List, [], ◌∷◌, ℕ, eqb, length, Err, None, Ok, Option, Result, Some}
use Rattle.std.proofs.Math.Path.{refl}
use Rattle.std.proofs.Common.{ap, ap₂, sym, subst, ◌∙◌, eqb-true, ne_eqb, arith}
use Rattle.srt_protocol.specs.declared.error.Error.{Error}
use Rattle.srt_protocol.specs.Errors.{error_number}
use Rattle.srt_protocol.specs.Laws.Errors.{refused_not_0}
use Rattle.srt_protocol.specs.Cells.{output_size}
use Rattle.srt_group_model.specs.declared.Data.{Data}
use Rattle.srt_group_model.specs.declared.Event.{Event}
use Rattle.srt_group_model.specs.declared.Leg.{Leg}
use Rattle.srt_group_model.specs.declared.Packet.{Packet}
use Rattle.srt_group_model.specs.Tools.{if_true◌then◌else◌}
use Rattle.srt_group_model.specs.State.{Member, State, with_leg}
use Rattle.srt_group_model.specs.Sending.{list_size}
use Rattle.srt_group_model.specs.Guards.{Answer, no_answer, data_polled, Step}
use Rattle.srt_group_model.specs.Lent.{Lent, Call, call_add_member, call_queue_data, call_send, call_remove_member_connection, step_of, with_bytes, perform}
use Rattle.srt_group_model.specs.Listing.{Line, column, leg_of_line, columns, refused_line, printed}
use Rattle.srt_group_model.specs.Laws.Answers.{call_answers}
use Rattle.srt_group_model.specs.Laws.Reason.{if_elim, when_false}
use Rattle.srt_connection_queue.specs.Queue.{cleared}
use Rattle.srt_connection_members.specs.Members.{HasRow, Changed}
use Rattle.srt_group_shown.specs.Tables.{Tables, state_of}
use Rattle.srt_group_shown.specs.Ready.{Ready, storing, lending, sending_into, Performs}
use Rattle.srt_group_send.specs.Answers.{send_number, send_answer}
use Rattle.srt_group_send.specs.Sends.{Sends}
use Rattle.srt_group_send.specs.declared.sending.GroupSent.{GroupSent}
use Rattle.srt_group_addition.specs.Handed.{call_of_row}
use Rattle.srt_group_removal.specs.Connection.{answer_dropped, PerformsDropping}
use Rattle.srt_group.specs.Made.{parts_of}
use Rattle.srt_group.specs.declared.Group.{Group}
use Rattle.srt_group_listing.specs.declared.Printed.{Printed}
use Rattle.srt_group_traces.specs.VerbCalls.{addition, reading, data_of_line, queueing, polling, sending, removing, breaking, event}
use Rattle.srt_group_listing.specs.Telling.{numbers_of, prints, packet_line, sent_line, asks, Tells, HandedOver}

-- A call in its form for a valid state, whose line prints its code and its answer, tells what the model's listing tells.
pub tells : (verb : ℕ) (call : Call) (g g' : Group) (t t' : Tables) (bytes bytes' : Lent) (code : ℕ) (given : Answer) (used' : List ℕ)
    (line : Printed)
    → Performs call (parts_of g) t bytes code given (parts_of g') t' bytes' used'
    → step_of (length bytes.store) (length bytes.output) (length bytes.list) call (state_of (parts_of g) t)
    ≡ asks (length bytes.store) call (state_of (parts_of g) t)
    → length bytes'.store ≡ length bytes.store
    → numbers_of line ≡ prints verb code given (state_of (parts_of g') t')
    → Tells verb call g t (length bytes.store) (record { group = g'; line = line }) t' used'
unfolding perform with_bytes printed
tells verb call g g' t t' bytes bytes' code given used' line done lent size says =
    record {
      state = done.state ∙ ap (λ (x : Step). x.state) lent;
      line = says ∙ cc;
      ready = subst (λ (n : ℕ). Ready (parts_of g') t' n used') size done.ready;
    }

-- ---- the lines

-- a call that shows no columns of its own prints its code
prints_code : (verb code : ℕ) (given : Answer) (s : State) → (code ≡ 0 → columns given s ≡ 0 ∷ 0 ∷ 0 ∷ 0 ∷ [])
    → refused_line verb code ≡ prints verb code given s
prints_code verb code given s none_shown =
    if_elim (λ (l : List ℕ). refused_line verb code ≡ l) (eqb code 0) (verb ∷ 0 ∷ columns given s) (refused_line verb code)
    (λ e.
    let accepted : code ≡ 0 = eqb-true code 0 e in
    ap₂ (λ (n : ℕ) (l : List ℕ). verb ∷ n ∷ l) accepted (sym (none_shown accepted)))
    (λ e. refl)

pub prints_packet : (gave : Option Packet) (more : Bool) (s : State)
    → packet_line gave s.receive.numbers.skipped ≡ prints 5 0 (data_polled gave more) s
unfolding columns if_true◌then◌else◌
prints_packet None more s = refl
prints_packet (Some p) more s = refl

pub prints_sent : (r : Result ℕ Error) (s : State) → sent_line r ≡ prints 6 (send_number r) (send_answer r) s
unfolding columns if_true◌then◌else◌
prints_sent (Ok legs) s = refl
prints_sent (Err e) s = sym (when_false (eqb (error_number e) 0) _ _ (ne_eqb (error_number e) 0 (refused_not_0 e)))

-- ---- which calls look at no more of what they are lent than the store's length

abbrev pub Unlent : Call → Type 0
Unlent call = (store output list output' list' : ℕ) (s : State) → step_of store output list call s ≡ step_of store output' list' call s

module _ (line : Line) where
  pub addition_unlent : Unlent (addition line)
  unfolding step_of
  addition_unlent store output list output' list' s = refl

  pub reading_unlent : Unlent (reading line)
  unfolding step_of
  reading_unlent store output list output' list' s = refl

  pub queueing_unlent : Unlent (queueing line)
  unfolding step_of
  queueing_unlent store output list output' list' s = refl

  pub removing_unlent : Unlent (removing line)
  unfolding step_of
  removing_unlent store output list output' list' s = refl

  pub breaking_unlent : Unlent (breaking line)
  unfolding step_of
  breaking_unlent store output list output' list' s = refl

  pub event_unlent : Unlent (event line)
  unfolding step_of
  event_unlent store output list output' list' s = refl

-- ---- the verbs

-- those that print their code alone
module _ (verb : ℕ) {call : Call} (unlent : Unlent call) {g g' : Group} {t t' : Tables} {store store' : List ℕ} {code : ℕ} {used' : List ℕ} {line : Printed}
    (size : length store' ≡ length store) (says : numbers_of line ≡ refused_line verb code) where
  told_without_columns : (given : Answer) → (code ≡ 0 → columns given (state_of (parts_of g') t') ≡ 0 ∷ 0 ∷ 0 ∷ 0 ∷ [])
      → Performs call (parts_of g) t (storing store) code given (parts_of g') t' (storing store') used'
      → Tells verb call g t (length store) (record { group = g'; line = line }) t' used'
  told_without_columns given none_shown done =
      tells verb call g g' t t' (storing store) (storing store') code given used' line done
      (unlent (length store) 0 0 output_size list_size (state_of (parts_of g) t)) size
      (says ∙ prints_code verb code given (state_of (parts_of g') t') none_shown)

  pub tells_code : Performs call (parts_of g) t (storing store) code no_answer (parts_of g') t' (storing store') used'
      → Tells verb call g t (length store) (record { group = g'; line = line }) t' used'
  unfolding columns
  tells_code done = told_without_columns no_answer (λ accepted. refl) done

-- what a removal gives back has no columns
removal_no_columns : (id : ℕ) (bytes : Lent) (s s' : State) → (perform (call_remove_member_connection id) bytes s).code ≡ 0
    → columns (answer_dropped id bytes s) s' ≡ 0 ∷ 0 ∷ 0 ∷ 0 ∷ []
unfolding columns
removal_no_columns id bytes s s' accepted =
    ap (λ (a : Answer). columns a s') (call_answers (call_remove_member_connection id) bytes s accepted).1

pub tells_removal : (line : Line) {g g' : Group} {t t' : Tables} {store : List ℕ} {code : ℕ} {used' : List ℕ} {out : Printed}
    → numbers_of out ≡ refused_line 7 code
    → PerformsDropping (column 1 line) (parts_of g) t (storing store) code (parts_of g') t' (storing store) used'
    → Tells 7 (removing line) g t (length store) (record { group = g'; line = out }) t' used'
tells_removal line {g} {g'} {t} {t'} {store} {code} {used'} {out} says done =
    told_without_columns 7 (removing_unlent line) refl says _
    (λ accepted.
    removal_no_columns (column 1 line) (storing store) (state_of (parts_of g) t) (state_of (parts_of g') t') (sym done.code ∙ accepted))
    done

module _ (line : Line) {g g' : Group} {t t' : Tables} {store : List ℕ} {code : ℕ} {used' : List ℕ} {out : Printed} where
  pub tells_reading : numbers_of out ≡ refused_line 3 code
      → Performs (reading line) (parts_of g) t (storing store) code no_answer (parts_of g') t' (storing store) used'
      → Tells 3 (reading line) g t (length store) (record { group = g'; line = out }) t' used'
  tells_reading says done = tells_code 3 (reading_unlent line) refl says done

  pub tells_breaking : numbers_of out ≡ refused_line 8 code
      → Performs (breaking line) (parts_of g) t (storing store) code no_answer (parts_of g') t' (storing store) used'
      → Tells 8 (breaking line) g t (length store) (record { group = g'; line = out }) t' used'
  tells_breaking says done = tells_code 8 (breaking_unlent line) refl says done

  pub tells_event : numbers_of out ≡ refused_line 9 code
      → Performs (event line) (parts_of g) t (storing store) code no_answer (parts_of g') t' (storing store) used'
      → Tells 9 (event line) g t (length store) (record { group = g'; line = out }) t' used'
  tells_event says done = tells_code 9 (event_unlent line) refl says done

pub tells_queueing : (line : Line) {g g' : Group} {t t' : Tables} {store store' payload : List ℕ} {content : Data} {code : ℕ} {used' : List ℕ} {out : Printed}
    → content ≡ data_of_line line → payload ≡ column 5 line ∷ [] → length store' ≡ length store
    → numbers_of out ≡ refused_line 4 code
    → Performs (call_queue_data (column 1 line) content payload) (parts_of g) t (storing store) code no_answer (parts_of g') t' (storing store') used'
    → Tells 4 (queueing line) g t (length store) (record { group = g'; line = out }) t' used'
tells_queueing line {g} {g'} {t} {t'} {store} {store'} {payload} {content} {code} {used'} {out} made byte size says done =
    tells_code 4 (queueing_unlent line) size says
    (subst (λ (c : Call). Performs c (parts_of g) t (storing store) code no_answer (parts_of g') t' (storing store') used')
    (ap₂ (λ (d : Data) (b : List ℕ). call_queue_data (column 1 line) d b) made byte) done)

-- a leg that a row shows with an empty queue is the one that is added
pub tells_addition : (line : Line) {g g' : Group} {t t' : Tables} {store row : List ℕ} {code : ℕ} {used' : List ℕ} {out : Printed}
    → HandedOver (leg_of_line line) row
    → numbers_of out ≡ refused_line 2 code
    → Performs (call_of_row (column 1 line) (column 2 line) row) (parts_of g) t (storing store) code no_answer (parts_of g') t' (storing store) used'
    → Tells 2 (addition line) g t (length store) (record { group = g'; line = out }) t' used'
tells_addition line {g} {g'} {t} {t'} {store} {row} {code} {used'} {out} handed says done =
    tells_code 2 (addition_unlent line) refl says
    (subst (λ (c : Call). Performs c (parts_of g) t (storing store) code no_answer (parts_of g') t' (storing store) used')
    (ap₂ (λ (l : Leg) (q : List Event). call_add_member (column 1 line) (column 2 line) l q) handed.is handed.empty) done)

pub handed_over : {leg is : Leg} {blank between row : List ℕ} → leg ≡ is → HasRow 0 between
    → Changed 0 (with_leg leg) blank between → Changed 0 cleared between row → HandedOver is row
handed_over made long put emptied =
    let here = emptied.here ∙ ap cleared put.here in
    record { long = omega (arith, emptied.long); is = ap (λ (m : Member). m.leg) here ∙ made; empty = ap (λ (m : Member). m.queue) here }

-- ---- the lines of a poll

pub line_without_packet : {gave : Option Packet} {skipped : ℕ} → gave ≡ None
    → 5 ∷ 0 ∷ 0 ∷ 0 ∷ 0 ∷ skipped ∷ [] ≡ packet_line gave skipped
line_without_packet {gave} {skipped} is = ap (λ (o : Option Packet). packet_line o skipped) (sym is)

pub line_with_packet : {gave : Option Packet} {skipped : ℕ} (p : Packet) → gave ≡ Some p
    → 5 ∷ 0 ∷ p.member ∷ p.content.sequence ∷ p.content.count ∷ skipped ∷ [] ≡ packet_line gave skipped
line_with_packet {gave} {skipped} p is = ap (λ (o : Option Packet). packet_line o skipped) (sym is)

pub tells_poll : (line : Line) {g g' : Group} {t t' : Tables} {store output output' : List ℕ} {gave : Option Packet} {more : Bool} {used' : List ℕ} {out : Printed}
    → length output ≡ output_size
    → numbers_of out ≡ packet_line gave g'.core.receiving.skipped
    → Performs (polling line) (parts_of g) t (lending store output) 0 (data_polled gave more) (parts_of g') t' (lending store output') used'
    → Tells 5 (polling line) g t (length store) (record { group = g'; line = out }) t' used'
unfolding step_of
tells_poll line {g} {g'} {t} {t'} {store} {output} {output'} {gave} {more} {used'} {out} size says done =
    tells 5 (polling line) g g' t t' (lending store output) (lending store output') 0 (data_polled gave more) used' out done
    (ap (λ (n : ℕ). step_of (length store) n 0 (polling line) (state_of (parts_of g) t)) size) refl
    (says ∙ prints_packet gave more (state_of (parts_of g') t'))

pub tells_send : (line : Line) {g : Group} {t t' : Tables} {store store' list list' payload : List ℕ} {sent : GroupSent} {used' : List ℕ} {out : Printed}
    → length list ≡ list_size
    → length store' ≡ length store
    → payload ≡ column 1 line ∷ []
    → numbers_of out ≡ sent_line sent.answer
    → Sends (column 2 line) payload (parts_of g) t (sending_into store list) sent t' (sending_into store' list') used'
    → Tells 6 (sending line) g t (length store) (record { group = sent.«record»; line = out }) t' used'
unfolding step_of
tells_send line {g} {t} {t'} {store} {store'} {list} {list'} {payload} {sent} {used'} {out} rows size byte says done =
    tells 6 (sending line) g sent.«record» t t' (sending_into store list) (sending_into store' list') (send_number sent.answer) (send_answer sent.answer) used' out
    (subst
    (λ (b : List ℕ).
    Performs (call_send (column 2 line) b) (parts_of g) t (sending_into store list) (send_number sent.answer) (send_answer sent.answer) (parts_of sent.«record») t'
    (sending_into store' list') used')
    byte done.performs)
    (ap (λ (n : ℕ). step_of (length store) 0 n (sending line) (state_of (parts_of g) t)) rows) size
    (says ∙ prints_sent sent.answer (state_of (parts_of sent.«record») t'))
