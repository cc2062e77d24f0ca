-- What is proved of the definitions in specs/Ready.antt, with what the proofs need.
use Rattle.std.specs.Prelude.{◌≡◌, refl, false, ◌&&◌, ◌||◌, List, [], ℕ, ◌≤◌, eqb, length}
use Rattle.std.proofs.Math.Path.{sym, ap, ap₂, subst}
use Rattle.std.proofs.Common.{◌∙◌, ltb-false}
use Rattle.std.proofs.Math.Bool.{not}
use Rattle.std.proofs.Math.Dec.{ltb}
use Rattle.srt_protocol.specs.Cells.{cell_size, cells_of, overwritten}
use Rattle.srt_group_model.specs.Laws.Reason.{or_right}
use Rattle.srt_group_model.specs.State.{State, Making}
use Rattle.srt_group_model.specs.Validity.{is_invalid}
use Rattle.srt_group_model.specs.Guards.{Answer, no_answer, Step, refuse}
use Rattle.srt_group_model.specs.Calls.{new, new_code, store_unfit}
use Rattle.srt_group_model.specs.Lent.{Lent, Call, stored, delivered_by, written_out, list_rows, with_bytes, step_of, perform}
use Rattle.srt_group_model.specs.Laws.Fixed.{making_kept}
use Rattle.srt_group_model.specs.Laws.Valid.{valid_kept, new_valid}
use Rattle.cell_set.specs.Sets.{ShowsCells}
use Rattle.cell_set.specs.Shows.{Shows}
use Rattle.cell_set.specs.Laws.Shows.{shows_new}
use Rattle.srt_group_shown.specs.Tables.{Parts, Tables, state_of, Long}
use Rattle.srt_group_shown.specs.Ready.{Ready, Performs}

-- ---- laws

-- the store has a cell
pub one_cell : {p : Parts} {t : Tables} {store : ℕ} {used : List ℕ} → Ready p t store used → cell_size ≤ store
unfolding store_unfit
one_cell {p} {t} {store} ready =
    ltb-false store cell_size
    (or_right (not (eqb p.identity.length 0) && not (eqb store p.identity.length)) (ltb store cell_size) ready.fits)

module _ (call : Call) (p : Parts) (t : Tables) (lent : Lent) (used : List ℕ) (ready : Ready p t (length lent.store) used) where
  abbrev s : State
  s = state_of p t

  abbrev step : Step
  step = step_of (length lent.store) (length lent.output) (length lent.list) call s

  -- refused: the same state is shown, and no byte changes
  pub performs_refused_over : (code : ℕ) → step ≡ refuse code s → (t' : Tables) → state_of p t' ≡ s → Long t'
      → Performs call p t lent code no_answer p t' lent used
  unfolding perform with_bytes stored delivered_by written_out list_rows overwritten
  performs_refused_over code is t' same long =
      record {
        code = sym (ap (λ (x : Step). x.code) is);
        answer = sym (ap (λ (x : Step). x.answer) is);
        state = same ∙ sym (ap (λ (x : Step). x.state) is);
        lent = sym (ap (λ (x : Step). (with_bytes lent x).lent) is);
        ready =
            record {
              long = long;
              fits = ap (store_unfit (length lent.store)) same ∙ ready.fits;
              valid = ap (is_invalid (cells_of (length lent.store))) same ∙ ready.valid;
              shows = subst (Shows used) (sym same) ready.shows;
            };
      }

  pub performs_refused : (code : ℕ) → step ≡ refuse code s → Performs call p t lent code no_answer p t lent used
  performs_refused code is = performs_refused_over code is t refl ready.long

  -- accepted: the state and the bytes are the step's; it is valid by the model's law, so only the words are left to show
  pub performs_accepted : {number : ℕ} {given : Answer} (x : Step) (p' : Parts) (t' : Tables) (lent' : Lent) (used' : List ℕ) → step ≡ x
      → number ≡ x.code → given ≡ x.answer → state_of p' t' ≡ x.state → lent' ≡ (with_bytes lent x).lent
      → length lent'.store ≡ length lent.store → Long t' → Shows used' x.state
      → Performs call p t lent number given p' t' lent' used'
  unfolding perform with_bytes store_unfit
  performs_accepted x p' t' lent' used' is code answer same bytes size long shows =
      let after : state_of p' t' ≡ (perform call lent s).state = same ∙ ap (λ (y : Step). y.state) (sym is) in
      let kept : (state_of p' t').making.length ≡ s.making.length =
      ap (λ (z : State). z.making.length) after ∙ ap (λ (x : Making). x.length) (making_kept call lent s)
      in
      record {
        code = code ∙ sym (ap (λ (y : Step). y.code) is);
        answer = answer ∙ sym (ap (λ (y : Step). y.answer) is);
        state = after;
        lent = bytes ∙ ap (λ (y : Step). (with_bytes lent y).lent) (sym is);
        ready =
            record {
              long = long;
              fits = ap₂ (λ (n k : ℕ). (not (eqb k 0) && not (eqb n k)) || ltb n cell_size) size kept ∙ ready.fits;
              valid = ap₂ (λ (n : ℕ) (z : State). is_invalid (cells_of n) z) size after ∙ valid_kept call lent s ready.valid;
              shows = subst (Shows used') (sym same) shows;
            };
      }

-- a group that was just made is ready, over tables that are long and words that show no cell: what a form rests on can be met
pub ready_new : (p : Parts) (t : Tables) (making : Making) (store : ℕ) (used : List ℕ) → state_of p t ≡ new making
    → new_code making ≡ 0 → Long t → store_unfit store (new making) ≡ false → ShowsCells used [] → Ready p t store used
ready_new p t making store used is accepted long fits fresh =
    record {
      long = long;
      fits = ap (store_unfit store) is ∙ fits;
      valid = ap (is_invalid (cells_of store)) is ∙ new_valid making (cells_of store) accepted;
      shows = subst (Shows used) (sym is) (shows_new used making fresh);
    }
