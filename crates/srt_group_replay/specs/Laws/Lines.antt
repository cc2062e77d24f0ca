-- What is proved of a line of a replay listing, with what the proofs need.
use Rattle.std.specs.Prelude.{◌≡◌, false, ℕ, zero, suc, ◌-◌, ◌≤◌, ◌<◌, ◌⊎◌, Err, None, Ok, Option, Result, Some}
use Rattle.std.proofs.Math.Path.{refl, ap, ap₂, sym, subst}
use Rattle.std.proofs.Common.{◌∙◌, inl, inr, arith}
use mathlib.Core.List.{List, []}
use borrow.Author.Tests.{eq-eqb, ne_eqb}
use Rattle.std.proofs.Math.Dec.{eqb}
use Rattle.srt_protocol.specs.Errors.{error_number}
use Rattle.srt_protocol.specs.Laws.Errors.{refused_not_0}
use Rattle.srt_group_model.specs.Tools.{if_some◌give◌otherwise◌, at_place}
use Rattle.srt_group_model.specs.State.{State, Making}
use Rattle.srt_group_model.specs.Calls.{new, new_code, store_unfit}
use Rattle.srt_group_model.specs.Listing.{Line, column, store_length, verbs, refused_line, tell_new, tell_verb, tell}
use Rattle.srt_group_model.specs.Laws.Reason.{when_true, when_false}
use Rattle.srt_group_traces.specs.Port.{Shown}
use Rattle.cell_set.specs.Sets.{ShowsCells}
use Rattle.srt_group_shown.specs.Tables.{Tables, Long, state_of}
use Rattle.srt_group_shown.specs.Ready.{Ready, storing}
use Rattle.srt_group_shown.specs.Laws.Ready.{ready_new}
use Rattle.srt_group.specs.Made.{parts_of, PromisedNew}
use Rattle.srt_group.specs.declared.Group.{Group}
use Rattle.srt_protocol.specs.declared.error.Error.{Error}
use Rattle.srt_group_replay.specs.declared.Memory.{Memory}
use Rattle.srt_group_listing.specs.declared.Printed.{Printed}
use Rattle.srt_group_listing.specs.Telling.{numbers_of}
use Rattle.srt_group_replay.specs.declared.verb.Call.{Call}
use Rattle.srt_group_replay.specs.declared.verb.Call.TheVariants.{Add, Reading, Data, Poll, Send, Remove, MarkBroken, Event}
use Rattle.srt_group_replay.specs.Verb.{call_number}
use Rattle.srt_group_replay.specs.Lines.{state_over, StandingOver, standing}
use Rattle.srt_group_replay.specs.Told.{TellsLine, TellsOver, TellsNew}

-- ---- verbs that are none, and no group

no_verb : (line : Line) (s : Option State) (n : ℕ) → 9 < n → tell n line s ≡ record { group = s; line = refused_line 0 2 }
unfolding tell verbs at_place if_some◌give◌otherwise◌
no_verb line s zero beyond = absurd (omega arith)
no_verb line s (suc zero) beyond = absurd (omega arith)
no_verb line s (suc (suc zero)) beyond = absurd (omega arith)
no_verb line s (suc (suc (suc zero))) beyond = absurd (omega arith)
no_verb line s (suc (suc (suc (suc zero)))) beyond = absurd (omega arith)
no_verb line s (suc (suc (suc (suc (suc zero))))) beyond = absurd (omega arith)
no_verb line s (suc (suc (suc (suc (suc (suc zero)))))) beyond = absurd (omega arith)
no_verb line s (suc (suc (suc (suc (suc (suc (suc zero))))))) beyond = absurd (omega arith)
no_verb line s (suc (suc (suc (suc (suc (suc (suc (suc zero)))))))) beyond = absurd (omega arith)
no_verb line s (suc (suc (suc (suc (suc (suc (suc (suc (suc zero))))))))) beyond = absurd (omega arith)
no_verb line s (suc (suc (suc (suc (suc (suc (suc (suc (suc (suc n)))))))))) beyond = refl

without_group : (line : Line) (k : ℕ) → k < 8 → tell (suc (suc k)) line None ≡ record { group = None; line = refused_line (column 0 line) 6 }
unfolding tell verbs at_place if_some◌give◌otherwise◌ tell_verb
without_group line zero few = refl
without_group line (suc zero) few = refl
without_group line (suc (suc zero)) few = refl
without_group line (suc (suc (suc zero))) few = refl
without_group line (suc (suc (suc (suc zero)))) few = refl
without_group line (suc (suc (suc (suc (suc zero))))) few = refl
without_group line (suc (suc (suc (suc (suc (suc zero)))))) few = refl
without_group line (suc (suc (suc (suc (suc (suc (suc zero))))))) few = refl
without_group line (suc (suc (suc (suc (suc (suc (suc (suc k)))))))) few = absurd (omega arith)

-- a call's number is none of the others
pub calls_numbers : (call : Call) → (2 ≤ call_number call) × (call_number call ≤ 9)
calls_numbers Add = (omega arith, omega arith)
calls_numbers Reading = (omega arith, omega arith)
calls_numbers Data = (omega arith, omega arith)
calls_numbers Poll = (omega arith, omega arith)
calls_numbers Send = (omega arith, omega arith)
calls_numbers Remove = (omega arith, omega arith)
calls_numbers MarkBroken = (omega arith, omega arith)
calls_numbers Event = (omega arith, omega arith)

-- ---- verb 1

module _ (line : Line) where
  abbrev making_of : Making
  making_of = record { id = column 1 line; mode = column 2 line; length = store_length }

  new_fits : store_unfit store_length (new making_of) ≡ false
  unfolding store_unfit new
  new_fits = refl

  module _ {r : Result Group Error} (promised : PromisedNew making_of r) where
    -- made: a fresh group stands
    module _ (fresh : Group) (is : r ≡ Ok fresh) where
      here : PromisedNew making_of (Ok fresh)
      here = subst (PromisedNew making_of) is promised

      accepted : (t : Tables) → new_code making_of ≡ 0
      accepted t = sym (ap (λ (x : Shown). x.code) (here.holds t (storing []) (new making_of)))

      shows : (t : Tables) → state_of (parts_of fresh) t ≡ new making_of
      shows t =
          ap (λ (x : Shown). x.state) (here.holds t (storing []) (new making_of))
          ∙ when_true (eqb (new_code making_of) 0) (new making_of) (new making_of) (eq-eqb (new_code making_of) 0 (accepted t))

      pub tells_made : column 0 line ≡ 1 → {out : Printed} → numbers_of out ≡ refused_line 1 0
          → (s : Option State) (t : Tables) → TellsLine line s out (Some (state_of (parts_of fresh) t))
      unfolding tell tell_new
      tells_made verb {out} says s t =
          ap (λ (n : ℕ). tell n line s) verb
          ∙ when_true (eqb (new_code making_of) 0) _ _ (eq-eqb (new_code making_of) 0 (accepted t))
          ∙ ap₂ (λ (x : Option State) (l : List ℕ). record { group = x; line = l }) (ap (λ (x : State). Some x) (sym (shows t))) (sym says)

      pub fresh_stands : {t : Tables} {used' : List ℕ} → Long t → ShowsCells used' [] → StandingOver (Some fresh) t used'
      fresh_stands {t} {used'} long clean =
          record {
            long = long;
            ready = ready_new (parts_of fresh) t making_of store_length used' (shows t) (accepted t) long new_fits clean;
          }

      pub new_made : column 0 line ≡ 1 → {used' : List ℕ} → ShowsCells used' [] → {out : Printed} → numbers_of out ≡ refused_line 1 0
          → {g : Option Group} {used : List ℕ} → TellsNew line g used (record { group = Some fresh; line = out }) used'
      new_made verb clean says {g} =
          record { over = λ t stands. record { told = tells_made verb says (state_over g t) t; stands = fresh_stands stands.long clean } }

    -- refused: what stood in its place stays
    pub tells_refused : (e : Error) → r ≡ Err e → column 0 line ≡ 1 → {n : ℕ} → n ≡ error_number e → {out : Printed} → numbers_of out ≡ refused_line 1 n
        → (s : Option State) → TellsLine line s out s
    unfolding tell tell_new
    tells_refused e is verb {n} number {out} says s =
        ap (λ (n : ℕ). tell n line s) verb
        ∙ when_false (eqb (new_code making_of) 0) _ _ (ap (λ (n : ℕ). eqb n 0) (sym code) ∙ ne_eqb (error_number e) 0 (refused_not_0 e))
        ∙ ap (λ (l : List ℕ). record { group = s; line = l }) (ap (λ (n : ℕ). refused_line 1 n) (sym (number ∙ code)) ∙ sym says)
      where
        code : error_number e ≡ new_code making_of
        code =
            ap (λ (x : Shown). x.code)
            ((subst (PromisedNew making_of) is promised).holds record { members = []; pending = []; waiting = []; history = []; sources = [] } (storing [])
            (new making_of))

    pub new_refused : (e : Error) → r ≡ Err e → column 0 line ≡ 1 → {n : ℕ} → n ≡ error_number e → {out : Printed} → numbers_of out ≡ refused_line 1 n
        → {g : Option Group} {used : List ℕ} → TellsNew line g used (record { group = g; line = out }) used
    new_refused e is verb number says {g} =
        record { over = λ t stands. record { told = tells_refused e is verb number says (state_over g t); stands = stands } }

-- ---- a line

module _ (line : Line) where
  -- nothing changes
  stays : {s : Option State} {out : Printed} {l : List ℕ} → tell (column 0 line) line s ≡ record { group = s; line = l } → numbers_of out ≡ l
      → TellsLine line s out s
  stays {s} rule says = rule ∙ ap (λ (l : List ℕ). record { group = s; line = l }) (sym says)

  -- no such verb
  pub tells_no_verb : (column 0 line < 1) ⊎ (9 < column 0 line) → (s : Option State) {out : Printed} → numbers_of out ≡ refused_line 0 2
      → TellsLine line s out s
  unfolding tell
  tells_no_verb (inl below) s says = let none : column 0 line ≡ 0 = omega (arith, below) in stays (ap (λ (n : ℕ). tell n line s) none) says
  tells_no_verb (inr beyond) s says = stays (no_verb line s (column 0 line) beyond) says

  -- no group was made
  pub tells_without_group : 2 ≤ column 0 line → column 0 line ≤ 9 → {s : Option State} → None ≡ s
      → {out : Printed} → numbers_of out ≡ refused_line (column 0 line) 6 → TellsLine line s out s
  tells_without_group from to {s} is {out} says =
      subst (λ (o : Option State). TellsLine line o out o) is
      (stays (ap (λ (n : ℕ). tell n line None) verb ∙ without_group line (column 0 line - 2) (omega arith)) says)
    where
      verb : column 0 line ≡ suc (suc (column 0 line - 2))
      verb = omega arith

pub none_stands : (g : Option Group) (m : Memory) {s : Option State} → standing g m ≡ s → g ≡ None → None ≡ s
none_stands g m {s} view is = subst (λ (o : Option Group). standing o m ≡ s) is view

-- a group that is ready stands
pub stands : {g : Group} {t : Tables} {used : List ℕ} → Ready (parts_of g) t store_length used → StandingOver (Some g) t used
stands ready = record { long = ready.long; ready = ready }

-- ---- a line over the tables

module _ (line : Line) {g : Option Group} {t : Tables} {used : List ℕ} (here : StandingOver g t used) where
  pub over_no_verb : (column 0 line < 1) ⊎ (9 < column 0 line) → {out : Printed} → numbers_of out ≡ refused_line 0 2
      → TellsOver line g t (record { group = g; line = out }) t used
  over_no_verb none says = record { told = tells_no_verb line none (state_over g t) says; stands = here }

  pub over_no_group : g ≡ None → 2 ≤ column 0 line → column 0 line ≤ 9 → {out : Printed} → numbers_of out ≡ refused_line (column 0 line) 6
      → TellsOver line g t (record { group = None; line = out }) t used
  over_no_group is from to {out} says =
      subst (λ (o : Option Group). TellsOver line o t (record { group = None; line = out }) t used) (sym is)
      (record { told = tells_without_group line from to refl says; stands = subst (λ (o : Option Group). StandingOver o t used) is here })
