-- Each line of a listing as a call: what it prints and leaves is what the call gives; a line that is no call leaves the group, unless it
-- makes a new one.
use Rattle.std.specs.Prelude.{◌≡◌, Bool, true, List, [], ◌∷◌, eqb, length, None, Option, Some}
use Rattle.std.proofs.Math.Path.{refl, ap}
use Rattle.std.proofs.Common.{sym, ◌∙◌, subst, arith}
use Rattle.std.proofs.Math.Bool.{false}
use Prim.Native.Nat.{ℕ, zero, suc}
use Rattle.std.proofs.lemmas.List.{length-replicate}
use Rattle.srt_protocol.specs.Cells.{output_size}
use Rattle.srt_group_model.specs.Tools.{if_true◌then◌else◌, if_some◌give◌otherwise◌, at_place}
use Rattle.srt_group_model.specs.State.{State}
use Rattle.srt_group_model.specs.Sending.{list_size}
use Rattle.srt_group_model.specs.Validity.{above}
use Rattle.srt_group_model.specs.declared.Data.{Data}
use Rattle.srt_group_model.specs.declared.Event.{Event}
use Rattle.srt_group_model.specs.declared.Leg.{Leg}
use Rattle.srt_group_model.specs.Guards.{Step, refuse}
use Rattle.srt_group_model.specs.Calls.{new_code}
use Rattle.srt_group_model.specs.Lent.{Result, Call, call_add_member, call_poll_data, call_queue_data, with_bytes, step_of, perform}
use Rattle.srt_group_model.specs.Listing.{Line, column, store_length, leg_of_line, printed, verbs, Told, tell, tell_new, tell_verb}
use Rattle.srt_group_model.specs.Laws.Reason.{if_elim, when_true, when_false, not_both, none_some, some_inj}
use Rattle.srt_group_traces.specs.Statement.{do_call, is_poll, with_payload}
use Rattle.srt_group_traces.specs.VerbCalls.{addition, reading, data_of_line, queueing, polling, sending, removing, breaking, event}
use Rattle.srt_group_traces.specs.Listings.{is_accepted, with_byte, verb_calls, call_of_verb, call_of, lending, asking, printed_by}

-- ---- through the verbs

-- what holds of each verb and its call holds of every line that is one
module _ (P : ℕ → Call → Type 0) (line : Line) where
  pub record EachVerb : Type 0 where
    pub adds : P 2 (addition line)
    pub reads : P 3 (reading line)
    pub queues : above 255 (column 5 line) ≡ false → P 4 (queueing line)
    pub polls : P 5 (polling line)
    pub sends : above 255 (column 1 line) ≡ false → P 6 (sending line)
    pub removes : P 7 (removing line)
    pub breaks : P 8 (breaking line)
    pub reports : P 9 (event line)

  of_call : (verb : ℕ) (c call : Call) → P verb c → ◌≡◌ {A = Option Call} (Some c) (Some call) → P verb call
  of_call verb c call h e = subst (P verb) (some_inj e) h

  of_byte : (verb byte : ℕ) (c call : Call) → (above 255 byte ≡ false → P verb c) → with_byte byte c ≡ Some call → P verb call
  of_byte verb byte c call h =
      if_elim (λ (o : Option Call). o ≡ Some call → P verb call) (above 255 byte) _ _ (λ t e. none_some e) (λ t e. of_call verb c call (h t) e)

  by_verb : (verb : ℕ) (call : Call) → EachVerb → call_of_verb verb line ≡ Some call → P verb call
  unfolding call_of_verb verb_calls at_place if_some◌give◌otherwise◌
  by_verb zero call h e = none_some e
  by_verb (suc zero) call h e = none_some e
  by_verb (suc (suc zero)) call h e = of_call 2 _ call h.adds e
  by_verb (suc (suc (suc zero))) call h e = of_call 3 _ call h.reads e
  by_verb (suc (suc (suc (suc zero)))) call h e = of_byte 4 (column 5 line) _ call h.queues e
  by_verb (suc (suc (suc (suc (suc zero))))) call h e = of_call 5 _ call h.polls e
  by_verb (suc (suc (suc (suc (suc (suc zero)))))) call h e = of_byte 6 (column 1 line) _ call h.sends e
  by_verb (suc (suc (suc (suc (suc (suc (suc zero))))))) call h e = of_call 7 _ call h.removes e
  by_verb (suc (suc (suc (suc (suc (suc (suc (suc zero)))))))) call h e = of_call 8 _ call h.breaks e
  by_verb (suc (suc (suc (suc (suc (suc (suc (suc (suc zero))))))))) call h e = of_call 9 _ call h.reports e
  by_verb (suc (suc (suc (suc (suc (suc (suc (suc (suc (suc verb)))))))))) call h e = none_some e

  pub by_line : (call : Call) → EachVerb → call_of line ≡ Some call → P (column 0 line) call
  by_line call = by_verb (column 0 line) call

-- ---- a line that is a call

-- the replay's step
abbrev replayed : Call → State → Step
replayed call s = step_of store_length output_size list_size call s

-- what is told of a step
abbrev of_step : Line → Step → Told
of_step line step = record { group = Some step.state; line = printed (column 0 line) step }

module _ (line : Line) (s : State) where
  abbrev Tells : ℕ → Call → Type 0
  Tells verb call =
      tell verb line (Some s) ≡ of_step line (replayed call s)

  each_tells : EachVerb Tells line
  unfolding tell tell_verb verbs at_place if_some◌give◌otherwise◌ step_of
  each_tells =
      record {
        adds = refl;
        reads = refl;
        queues = λ e. ap (of_step line) (when_false (above 255 (column 5 line)) _ _ e);
        polls = refl;
        sends = λ e. ap (of_step line) (when_false (above 255 (column 1 line)) _ _ e);
        removes = refl;
        breaks = refl;
        reports = refl;
      }

-- a call that is lent a store of the replay's length takes the replay's step
lent_step : (store : List ℕ) (call : Call) (s : State) → length store ≡ store_length
    → perform call (lending store) s ≡ with_bytes (lending store) (replayed call s)
unfolding perform lending
lent_step store call s e =
    λ i. with_bytes (lending store) (step_of (e i) (length-replicate {A = ℕ} output_size 0 i) (length-replicate {A = ℕ} list_size 0 i) call s)

pub line_is_call : (line : Line) (call : Call) (store : List ℕ) (s : State) → length store ≡ store_length → call_of line ≡ Some call
    → tell (column 0 line) line (Some s)
    ≡ record {
      group = Some (do_call (asking store call) s).state;
      line = printed_by (column 0 line) (do_call (asking store call) s);
    }
unfolding do_call with_bytes printed printed_by
line_is_call line call store s long e =
    by_line (Tells line s) line call (each_tells line s) e
    ∙ ap
    (λ (r : Result).
    record { group = Some r.state; line = printed_by (column 0 line) r })
    (sym (lent_step store call s long))

-- ---- what a line's verb says of its call

never : {A : Type 0} → ◌≡◌ {A = Bool} false true → A
never e = not_both {t = true} refl (sym e)

-- verb 5 polls, and no other does
pub polls_by_verb : (line : Line) (call : Call) → call_of line ≡ Some call → is_poll call ≡ eqb (column 0 line) 5
unfolding is_poll
polls_by_verb line call =
    by_line (λ verb c. is_poll c ≡ eqb verb 5) line call
    record { adds = refl; reads = refl; queues = λ e. refl; polls = refl; sends = λ e. refl; removes = refl; breaks = refl; reports = refl }

pub poll_of_verb : (line : Line) (call : Call) → call_of line ≡ Some call → is_poll call ≡ true → call ≡ call_poll_data (column 1 line)
unfolding is_poll
poll_of_verb line call =
    by_line (λ verb c. is_poll c ≡ true → c ≡ call_poll_data (column 1 line)) line call
    record { adds = never; reads = never; queues = λ e. never; polls = λ e. refl; sends = λ e. never; removes = never; breaks = never; reports = never }

-- verb 4 queues data, and no other does: the packet of its columns
pub record QueuesLine (line : Line) (d : Data) (payload : List ℕ) (verb : ℕ) : Type 0 where
  pub verb_is : verb ≡ 4
  pub packet : with_payload d payload ≡ record { sequence = column 2 line; count = column 3 line; payload = column 5 line ∷ [] }

abbrev QueuesAs : Line → ℕ → Call → Type 0
QueuesAs line verb c = (id : ℕ) (d : Data) (payload : List ℕ) → c ≡ call_queue_data id d payload → QueuesLine line d payload verb

pub queues_by_verb : (line : Line) (call : Call) → call_of line ≡ Some call → QueuesAs line (column 0 line) call
queues_by_verb line call =
    by_line (QueuesAs line) line call
    record {
      adds = λ id d payload e. absurd (let z : ◌≡◌ {A = ℕ} 0 1 = cc in omega arith);
      reads = λ id d payload e. absurd (let z : ◌≡◌ {A = ℕ} 0 1 = cc in omega arith);
      queues =
          λ byte id d payload e.
          let same_data : d ≡ data_of_line line = cc in
          let same_payload : payload ≡ column 5 line ∷ [] = cc in
          record { verb_is = refl; packet = λ i. with_payload (same_data i) (same_payload i) };
      polls = λ id d payload e. absurd (let z : ◌≡◌ {A = ℕ} 0 1 = cc in omega arith);
      sends = λ byte id d payload e. absurd (let z : ◌≡◌ {A = ℕ} 0 1 = cc in omega arith);
      removes = λ id d payload e. absurd (let z : ◌≡◌ {A = ℕ} 0 1 = cc in omega arith);
      breaks = λ id d payload e. absurd (let z : ◌≡◌ {A = ℕ} 0 1 = cc in omega arith);
      reports = λ id d payload e. absurd (let z : ◌≡◌ {A = ℕ} 0 1 = cc in omega arith);
    }

-- verb 2 adds a leg, and no other does: its peer's first sequence is column 5
pub record AddsLine (line : Line) (l : Leg) (verb : ℕ) : Type 0 where
  pub verb_is : verb ≡ 2
  pub first : l.receiver.first ≡ column 5 line

abbrev AddsAs : Line → ℕ → Call → Type 0
AddsAs line verb c = (id weight : ℕ) (l : Leg) (queue : List Event) → c ≡ call_add_member id weight l queue → AddsLine line l verb

pub adds_by_verb : (line : Line) (call : Call) → call_of line ≡ Some call → AddsAs line (column 0 line) call
adds_by_verb line call =
    by_line (AddsAs line) line call
    record {
      adds =
          λ id weight l queue e.
          let same : l ≡ leg_of_line line = cc in
          record { verb_is = refl; first = ap (λ (x : Leg). x.receiver.first) same };
      reads = λ id weight l queue e. absurd (let z : ◌≡◌ {A = ℕ} 0 1 = cc in omega arith);
      queues = λ byte id weight l queue e. absurd (let z : ◌≡◌ {A = ℕ} 0 1 = cc in omega arith);
      polls = λ id weight l queue e. absurd (let z : ◌≡◌ {A = ℕ} 0 1 = cc in omega arith);
      sends = λ byte id weight l queue e. absurd (let z : ◌≡◌ {A = ℕ} 0 1 = cc in omega arith);
      removes = λ id weight l queue e. absurd (let z : ◌≡◌ {A = ℕ} 0 1 = cc in omega arith);
      breaks = λ id weight l queue e. absurd (let z : ◌≡◌ {A = ℕ} 0 1 = cc in omega arith);
      reports = λ id weight l queue e. absurd (let z : ◌≡◌ {A = ℕ} 0 1 = cc in omega arith);
    }

pub addition_of_verb : (line : Line) → column 0 line ≡ 2 → call_of line ≡ Some (addition line)
unfolding call_of_verb verb_calls at_place if_some◌give◌otherwise◌
addition_of_verb line e = ap (λ (verb : ℕ). call_of_verb verb line) e

-- ---- a line that is no call

-- the group stays, and the line is refused
pub record Passes (s : State) (told : Told) : Type 0 where
  pub group : told.group ≡ Some s
  pub refused : eqb (column 1 told.line) 0 ≡ false

module _ (line : Line) (s : State) where
  refuse_passes : Passes s (of_step line (refuse 2 s))
  unfolding printed if_true◌then◌else◌
  refuse_passes = record { group = refl; refused = refl }

  byte_refused : (byte : ℕ) (step : Step) (c : Call) → with_byte byte c ≡ None → Passes s (of_step line (if_true above 255 byte then refuse 2 s else step))
  byte_refused byte step c =
      if_elim (λ (o : Option Call). o ≡ None → Passes s (of_step line (if_true above 255 byte then refuse 2 s else step))) (above 255 byte) _ _
      (λ t e. subst (λ (x : Step). Passes s (of_step line x)) (sym (when_true (above 255 byte) (refuse 2 s) step t)) refuse_passes)
      (λ t e. none_some (sym e))

  new_refused : is_accepted 1 record { input = line; output = (tell_new line (Some s)).line } ≡ false → Passes s (tell_new line (Some s))
  unfolding tell_new
  new_refused =
      if_elim (λ (told : Told). is_accepted 1 record { input = line; output = told.line } ≡ false → Passes s told) (eqb (new_code _) 0) _ _
      (λ t e. not_both {t = true} refl e) (λ t e. record { group = refl; refused = t })

  passes_by : (verb : ℕ) → call_of_verb verb line ≡ None → is_accepted 1 record { input = line; output = (tell verb line (Some s)).line } ≡ false
      → Passes s (tell verb line (Some s))
  unfolding tell tell_verb verbs call_of_verb verb_calls at_place if_some◌give◌otherwise◌
  passes_by zero e made = record { group = refl; refused = refl }
  passes_by (suc zero) e made = new_refused made
  passes_by (suc (suc zero)) e made = none_some (sym e)
  passes_by (suc (suc (suc zero))) e made = none_some (sym e)
  passes_by (suc (suc (suc (suc zero)))) e made = byte_refused (column 5 line) _ _ e
  passes_by (suc (suc (suc (suc (suc zero))))) e made = none_some (sym e)
  passes_by (suc (suc (suc (suc (suc (suc zero)))))) e made = byte_refused (column 1 line) _ _ e
  passes_by (suc (suc (suc (suc (suc (suc (suc zero))))))) e made = none_some (sym e)
  passes_by (suc (suc (suc (suc (suc (suc (suc (suc zero)))))))) e made = none_some (sym e)
  passes_by (suc (suc (suc (suc (suc (suc (suc (suc (suc zero))))))))) e made = none_some (sym e)
  passes_by (suc (suc (suc (suc (suc (suc (suc (suc (suc (suc verb)))))))))) e made = record { group = refl; refused = refl }

  pub no_call_passes : call_of line ≡ None → is_accepted 1 record { input = line; output = (tell (column 0 line) line (Some s)).line } ≡ false
      → Passes s (tell (column 0 line) line (Some s))
  no_call_passes = passes_by (column 0 line)
