-- What is proved of the definitions in specs/Verbs.antt, with what the proofs need.
use Rattle.std.specs.Prelude.{◌≡◌, ℕ, ◌≤◌, ◌<◌, Some}
use Rattle.std.proofs.Math.Path.{refl, ap, sym, subst}
use Rattle.std.proofs.Common.{ap₂, ◌∙◌, lt-ltb, le-ltb}
use mathlib.Core.List.{List}
use Rattle.srt_group_model.specs.Tools.{if_true◌then◌else◌, if_some◌give◌otherwise◌, at_place}
use Rattle.srt_group_model.specs.State.{State}
use Rattle.srt_group_model.specs.Guards.{Step, refuse}
use Rattle.srt_group_model.specs.Validity.{above}
use Rattle.srt_group_model.specs.Lent.{Call, step_of}
use Rattle.srt_group_model.specs.Listing.{Line, column, store_length, verbs, refused_line, printed, with_byte, Told, tell_verb, tell}
use Rattle.srt_group_model.specs.Laws.Reason.{when_true, when_false}
use Rattle.srt_group_shown.specs.Tables.{Tables, state_of}
use Rattle.srt_group_shown.specs.Ready.{Ready}
use Rattle.srt_group.specs.Made.{parts_of}
use Rattle.srt_group.specs.declared.Group.{Group}
use Rattle.srt_group_listing.specs.declared.Printed.{Printed}
use Rattle.srt_group_listing.specs.declared.Told as told
use Rattle.srt_group_traces.specs.VerbCalls.{addition, reading, queueing, polling, sending, removing, breaking, event}
use Rattle.srt_group_listing.specs.Telling.{numbers_of, asks, TellsStep, Tells, TellsByte}
use Rattle.srt_group_listing.specs.Verbs.{TellsVerb}

-- ---- a byte

module _ {byte verb : ℕ} (call : Call) {g : Group} {t : Tables} {store : ℕ} where
  -- one that fits changes nothing
  pub byte_fits : byte ≤ 255 → {r : told.Told} {t' : Tables} {used' : List ℕ} → Tells verb call g t store r t' used' → TellsByte byte verb call g t store r t' used'
  byte_fits fits done =
      let same : with_byte byte (asks store call (state_of (parts_of g) t)) (state_of (parts_of g) t) ≡ asks store call (state_of (parts_of g) t) =
      when_false (above 255 byte) (refuse 2 (state_of (parts_of g) t)) (asks store call (state_of (parts_of g) t)) (le-ltb 255 byte fits)
      in
      record {
        state = done.state ∙ ap (λ (x : Step). x.state) (sym same);
        line = done.line ∙ ap (printed verb) (sym same);
        ready = done.ready;
      }

  -- one above 255 is refused, and nothing changes
  pub byte_refused : 255 < byte → {used : List ℕ} → Ready (parts_of g) t store used → {out : Printed} → numbers_of out ≡ refused_line verb 2
      → TellsByte byte verb call g t store (record { group = g; line = out }) t used
  unfolding printed if_true◌then◌else◌
  byte_refused beyond ready says =
      let same : with_byte byte (asks store call (state_of (parts_of g) t)) (state_of (parts_of g) t) ≡ refuse 2 (state_of (parts_of g) t) =
      when_true (above 255 byte) (refuse 2 (state_of (parts_of g) t)) (asks store call (state_of (parts_of g) t)) (lt-ltb 255 byte beyond)
      in
      record {
        state = ap (λ (x : Step). x.state) (sym same);
        line = says ∙ ap (printed verb) (sym same);
        ready = ready;
      }

-- ---- a verb over a group that was made

-- what the listing tells of a step
abbrev told_of : Line → (State → Step) → State → Told
told_of line step s = record { group = Some (step s).state; line = printed (column 0 line) (step s) }

module _ (line : Line) {g : Group} {t t' : Tables} {store : ℕ} {r : told.Told} {used' : List ℕ} (cells : store ≡ store_length) where
  -- the verb k is this step, and the code tells it
  tells_step : (k : ℕ) (step : ℕ → State → Step) → column 0 line ≡ k
      → tell k line (Some (state_of (parts_of g) t)) ≡ told_of line (step store_length) (state_of (parts_of g) t)
      → TellsStep k (step store) g t store r t' used' → TellsVerb line g t r t' used'
  tells_step k step is rule done =
      record {
        told =
            ap (λ (n : ℕ). tell n line (Some (state_of (parts_of g) t))) is ∙ rule
            ∙ ap₂ (λ (x : State) (l : List ℕ). record { group = Some x; line = l }) (sym here.state)
            (ap (λ (n : ℕ). printed n (step store_length (state_of (parts_of g) t))) is ∙ sym here.line);
        ready = here.ready;
      }
    where
      here : TellsStep k (step store_length) g t store_length r t' used'
      here = subst (λ (n : ℕ). TellsStep k (step n) g t n r t' used') cells done

  pub tells_2 : column 0 line ≡ 2 → Tells 2 (addition line) g t store r t' used' → TellsVerb line g t r t' used'
  unfolding tell verbs at_place if_some◌give◌otherwise◌ tell_verb step_of
  tells_2 is done = tells_step 2 (λ n. asks n (addition line)) is refl done

  pub tells_3 : column 0 line ≡ 3 → Tells 3 (reading line) g t store r t' used' → TellsVerb line g t r t' used'
  unfolding tell verbs at_place if_some◌give◌otherwise◌ tell_verb step_of
  tells_3 is done = tells_step 3 (λ n. asks n (reading line)) is refl done

  pub tells_4 : column 0 line ≡ 4 → TellsByte (column 5 line) 4 (queueing line) g t store r t' used' → TellsVerb line g t r t' used'
  unfolding tell verbs at_place if_some◌give◌otherwise◌ tell_verb step_of
  tells_4 is done = tells_step 4 (λ n s. with_byte (column 5 line) (asks n (queueing line) s) s) is refl done

  pub tells_5 : column 0 line ≡ 5 → Tells 5 (polling line) g t store r t' used' → TellsVerb line g t r t' used'
  unfolding tell verbs at_place if_some◌give◌otherwise◌ tell_verb step_of
  tells_5 is done = tells_step 5 (λ n. asks n (polling line)) is refl done

  pub tells_6 : column 0 line ≡ 6 → TellsByte (column 1 line) 6 (sending line) g t store r t' used' → TellsVerb line g t r t' used'
  unfolding tell verbs at_place if_some◌give◌otherwise◌ tell_verb step_of
  tells_6 is done = tells_step 6 (λ n s. with_byte (column 1 line) (asks n (sending line) s) s) is refl done

  pub tells_7 : column 0 line ≡ 7 → Tells 7 (removing line) g t store r t' used' → TellsVerb line g t r t' used'
  unfolding tell verbs at_place if_some◌give◌otherwise◌ tell_verb step_of
  tells_7 is done = tells_step 7 (λ n. asks n (removing line)) is refl done

  pub tells_8 : column 0 line ≡ 8 → Tells 8 (breaking line) g t store r t' used' → TellsVerb line g t r t' used'
  unfolding tell verbs at_place if_some◌give◌otherwise◌ tell_verb step_of
  tells_8 is done = tells_step 8 (λ n. asks n (breaking line)) is refl done

  pub tells_9 : column 0 line ≡ 9 → Tells 9 (event line) g t store r t' used' → TellsVerb line g t r t' used'
  unfolding tell verbs at_place if_some◌give◌otherwise◌ tell_verb step_of
  tells_9 is done = tells_step 9 (λ n. asks n (event line)) is refl done
