-- `new` in words.
use Rattle.std.specs.Prelude.{◌≡◌, refl, Bool, List, ℕ, ◌≤◌, ◌<◌, length, drop, Err, Ok, Result}
use Rattle.std.proofs.Common.{sym, ap, subst, ◌∙◌, lt-ltb, le-ltb}
use Rattle.srt_protocol.specs.declared.error.Error.{Error}
use Rattle.srt_protocol.specs.Errors.{error_number}
use Rattle.srt_protocol.specs.Cells.{overwritten}
use Rattle.srt_group_model.specs.State.{State, Making}
use Rattle.srt_group_model.specs.Guards.{no_answer}
use Rattle.srt_group_model.specs.Lent.{Lent}
use Rattle.srt_group_traces.specs.Port.{Shown}
use Rattle.srt_group_shown.specs.Tables.{Tables, state_of}
use Rattle.srt_group.specs.Made.{parts_of, PromisedNew}
use Rattle.srt_group.specs.declared.Group.{Group}
use Rattle.srt_group_words.specs.Record.{record_size, group_of, group_words}
use Rattle.srt_group_words.specs.Laws.Record.{group_put, put_behind}
use Rattle.srt_group_words.specs.Words.{MadeWords, NewBy, PromisedNewWords}

module _ (making : Making) (w : List ℕ) where
  pub new_few : length w < record_size → PromisedNewWords making w 5 w
  new_few short = subst (λ (b : Bool). NewBy b making w 5 w) (sym (lt-ltb (length w) record_size short)) record { refused = refl; same = refl }

  module _ (long : record_size ≤ length w) {r : Result Group Error} (promised : PromisedNew making r) where
    by_words : {code : ℕ} {w' : List ℕ} → MadeWords making w code w' → PromisedNewWords making w code w'
    by_words {code} {w'} made = subst (λ (b : Bool). NewBy b making w code w') (sym (le-ltb (length w) record_size long)) made

    abbrev shows : Tables → Lent → ℕ → State → Shown
    shows t bytes code s = record { state = s; lent = bytes; code = code; answer = no_answer; rows = 0 }

    pub new_in_words : (g : Group) → r ≡ Ok g → {w' : List ℕ} → w' ≡ overwritten 0 (group_words g) w → PromisedNewWords making w 0 w'
    new_in_words g is {w'} put =
        by_words
        record {
          holds =
              λ t bytes.
              ap (λ (h : Group). shows t bytes 0 (state_of (parts_of h) t)) (ap group_of put ∙ group_put g w)
              ∙ (subst (λ (n : Result Group Error). PromisedNew making n) is promised).holds t bytes (state_of (parts_of (group_of w)) t);
          behind = ap (drop record_size) put ∙ put_behind g w;
        }

    pub new_refused : (e : Error) → r ≡ Err e → {code : ℕ} → code ≡ error_number e → PromisedNewWords making w code w
    new_refused e is {code} same =
        by_words
        record {
          holds =
              λ t bytes.
              ap (λ (n : ℕ). shows t bytes n (state_of (parts_of (group_of w)) t)) same
              ∙ (subst (λ (n : Result Group Error). PromisedNew making n) is promised).holds t bytes (state_of (parts_of (group_of w)) t);
          behind = refl;
        }
