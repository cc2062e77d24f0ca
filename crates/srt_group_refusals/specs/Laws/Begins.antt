-- What is proved of the definitions in specs/Begins.antt, with what the proofs need.
use Rattle.srt_protocol.specs.Errors.{Outcome}
use Rattle.std.specs.Prelude.{◌≡◌, Bool, true, false, not, ◌&&◌, ◌||◌, List, ℕ, eqb, ltb, length, Err, Ok}
use Rattle.std.proofs.Math.Path.{sym, ap}
use Rattle.std.proofs.Common.{subst, ◌∙◌, arith, eqb-true, eq-eqb, ne_eqb, ltb-false, le-ltb}
use Rattle.std.proofs.lemmas.Bool.{not-false}
use Rattle.srt_protocol.specs.declared.error.Error.{Error}
use Rattle.srt_protocol.specs.declared.error.Error.TheVariants.{InsufficientBuffer, InvalidState}
use Rattle.srt_protocol.specs.Errors.{error_number, outcome_number, refuse_if}
use Rattle.srt_protocol.specs.Cells.{cell_size, max_cells, cells_of}
use Rattle.srt_group_model.specs.Tools.{if_true◌then◌else◌}
use Rattle.srt_group_model.specs.Laws.Reason.{when_true, when_false, or_left, or_right, by_test}
use Rattle.srt_group_model.specs.Backup.{max_history}
use Rattle.srt_group_model.specs.Validity.{is_invalid}
use Rattle.srt_group_model.specs.Calls.{store_unfit, output_unfit, cells_given, breaks_rule}
use Rattle.srt_connection_members.specs.Members.{members_size}
use Rattle.srt_group_tables.specs.Packets.{pending_size}
use Rattle.srt_group_tables.specs.Waitings.{waiting_size}
use Rattle.srt_group_shown.specs.Tables.{Parts, Tables, state_of, Long}
use Rattle.srt_group_state.specs.Tested.{Tested}
use Rattle.srt_group_state.specs.Laws.Tested.{ready_of_tested}
use Rattle.srt_group_shown.specs.Steps.{Unbroken}
use Rattle.srt_group_refusals.specs.Begins.{are_short, begun, begun_stored, BeginsStored, BeginsPoll}

pub are_long : (t : Tables) → are_short t ≡ false → Long t
unfolding are_short
are_long t h =
    let h1 = or_right (ltb (length t.members) members_size) _ h in
    let h2 = or_right (ltb (length t.pending) pending_size) _ h1 in
    let h3 = or_right (ltb (length t.waiting) waiting_size) _ h2 in
    record {
      members = ltb-false _ _ (or_left _ _ h);
      pending = ltb-false _ _ (or_left _ _ h1);
      waiting = ltb-false _ _ (or_left _ _ h2);
      history = eqb-true _ _ (not-false _ (or_left _ _ h3));
      sources = eqb-true _ _ (not-false _ (or_right (not (eqb (length t.history) max_history)) _ h3));
    }

refused_is : {b : Bool} (e : Error) (other : Outcome) → b ≡ true → ◌≡◌ {A = Outcome} (Err e) (refuse_if b e other)
refused_is e other fails = sym (ap (λ (x : Bool). refuse_if x e other) fails)

passed_is : {b : Bool} (e : Error) (other : Outcome) → b ≡ false → other ≡ refuse_if b e other
passed_is e other passes = sym (ap (λ (x : Bool). refuse_if x e other) passes)

pub never_accepted : {B : Type 0} {e : Error} → ◌≡◌ {A = Outcome} (Err e) (Ok tt) → B
never_accepted {B} {e} never = let different : ◌≡◌ {A = ℕ} 0 1 = cc in absurd (omega arith)

module _ (p : Parts) (t : Tables) (store : ℕ) (used : List ℕ) where
  pub begins_short : are_short t ≡ true → BeginsStored p t store (Err InsufficientBuffer) used
  begins_short short = record { is = refused_is _ _ short; ready = λ never. never_accepted never }

  -- the store, as the code tests it
  pub unfit_is : {b : Bool}
      → ((not (eqb p.identity.length 0) && not (eqb store p.identity.length)) || ltb store cell_size) ≡ b
      → store_unfit store (state_of p t) ≡ b
  unfolding store_unfit
  unfit_is is = is

  pub begins_unfit : are_short t ≡ false → store_unfit store (state_of p t) ≡ true → BeginsStored p t store (Err InsufficientBuffer) used
  begins_unfit long unfit =
      record { is = refused_is _ _ unfit ∙ passed_is _ _ long; ready = λ never. never_accepted never }

  module _ (long : are_short t ≡ false) (fits : store_unfit store (state_of p t) ≡ false) {cells : ℕ}
      (is_cells : cells ≡ cells_of store) {r : Bool} (found : Tested cells (state_of p t) r used) where
    tested : Tested (cells_of store) (state_of p t) r used
    tested = subst (λ (n : ℕ). Tested n (state_of p t) r used) is_cells found

    pub begins_invalid : r ≡ true → BeginsStored p t store (Err InvalidState) used
    begins_invalid broken =
        record {
          is = refused_is _ _ (sym tested.is ∙ broken) ∙ passed_is _ _ fits ∙ passed_is _ _ long;
          ready = λ never. never_accepted never;
        }

    pub begins_ready : r ≡ false → BeginsStored p t store (Ok tt) used
    begins_ready valid =
        record {
          is = passed_is _ _ (sym tested.is ∙ valid) ∙ passed_is _ _ fits ∙ passed_is _ _ long;
          ready = λ e. ready_of_tested (are_long t long) fits tested valid;
        }

-- ---- a call that is lent no store

pub none_given : {given : ℕ} → given ≡ 0 → max_cells ≡ (if_true eqb given 0 then max_cells else cells_of given)
none_given {given} is = sym (when_true (eqb given 0) max_cells (cells_of given) (eq-eqb given 0 is))

pub some_given : {given : ℕ} → (given ≡ 0 → ⊥) → cells_of given ≡ (if_true eqb given 0 then max_cells else cells_of given)
some_given {given} not_0 = sym (when_false (eqb given 0) max_cells (cells_of given) (ne_eqb given 0 not_0))

module _ (p : Parts) (t : Tables) where
  pub begun_short : are_short t ≡ true → Err InsufficientBuffer ≡ begun p t
  begun_short short = refused_is _ _ short

  module _ (long : are_short t ≡ false) {cells : ℕ}
      (is_cells : cells ≡ (if_true eqb p.identity.length 0 then max_cells else cells_of p.identity.length))
      {r : Bool} {used : List ℕ} (found : Tested cells (state_of p t) r used) where
    broken_is : {b : Bool} → r ≡ b → breaks_rule (state_of p t) ≡ b
    unfolding cells_given
    broken_is is = ap (λ (n : ℕ). is_invalid n (state_of p t)) (sym is_cells) ∙ sym found.is ∙ is

    pub begun_invalid : r ≡ true → Err InvalidState ≡ begun p t
    begun_invalid broken = refused_is _ _ (broken_is broken) ∙ passed_is _ _ long

    pub begun_on : r ≡ false → Ok tt ≡ begun p t
    begun_on valid = passed_is _ _ (broken_is valid) ∙ passed_is _ _ long

-- what it then knows
module _ (p : Parts) (t : Tables) {r : Outcome} (begins : r ≡ begun p t) where
  abbrev after_tables : Outcome
  after_tables = refuse_if (breaks_rule (state_of p t)) InvalidState (Ok tt)

  pub begun_which : {B : Type 0} (e : Error) → r ≡ Err e
      → (are_short t ≡ true → error_number e ≡ 5 → B)
      → (are_short t ≡ false → breaks_rule (state_of p t) ≡ true → error_number e ≡ 6 → B)
      → B
  begun_which e refused on_short on_invalid =
      let is = sym refused ∙ begins in
      by_test (are_short t)
      (λ short. on_short short (ap outcome_number (is ∙ sym (refused_is InsufficientBuffer after_tables short))))
      (λ long.
      let on = is ∙ sym (passed_is InsufficientBuffer after_tables long) in
      by_test (breaks_rule (state_of p t))
      (λ broken. on_invalid long broken (ap outcome_number (on ∙ sym (refused_is InvalidState (Ok tt) broken))))
      (λ valid. never_accepted (on ∙ sym (passed_is InvalidState (Ok tt) valid))))

  pub begun_long : r ≡ Ok tt → are_short t ≡ false
  begun_long accepted =
      by_test (are_short t)
      (λ short. never_accepted (refused_is InsufficientBuffer after_tables short ∙ sym begins ∙ accepted)) (λ long. long)

  pub begun_valid : r ≡ Ok tt → breaks_rule (state_of p t) ≡ false
  begun_valid accepted =
      by_test (breaks_rule (state_of p t))
      (λ broken.
      never_accepted
      (refused_is InvalidState (Ok tt) broken ∙ passed_is InsufficientBuffer after_tables (begun_long accepted) ∙ sym begins ∙ accepted))
      (λ valid. valid)

  pub begun_unbroken : r ≡ Ok tt → Unbroken p t
  begun_unbroken accepted = record { long = are_long t (begun_long accepted); valid = begun_valid accepted }

-- ---- what a call that is lent a store and has begun knows

module _ {p : Parts} {t : Tables} {store : ℕ} {r : Outcome} {used : List ℕ} (begins : BeginsStored p t store r used) where
  abbrev after_short : Outcome
  after_short =
      refuse_if (store_unfit store (state_of p t)) InsufficientBuffer
      (refuse_if (is_invalid (cells_of store) (state_of p t)) InvalidState (Ok tt))

  abbrev after_unfit : Outcome
  after_unfit = refuse_if (is_invalid (cells_of store) (state_of p t)) InvalidState (Ok tt)

  pub not_short : r ≡ Ok tt → are_short t ≡ false
  not_short accepted =
      by_test (are_short t)
      (λ short. never_accepted (refused_is InsufficientBuffer after_short short ∙ sym begins.is ∙ accepted))
      (λ long. long)

  -- refused: by the first of the three that fails
  pub which_refused : {B : Type 0} (e : Error) → r ≡ Err e
      → (are_short t ≡ true → error_number e ≡ 5 → B)
      → (are_short t ≡ false → store_unfit store (state_of p t) ≡ true → error_number e ≡ 5 → B)
      → (are_short t ≡ false → store_unfit store (state_of p t) ≡ false → is_invalid (cells_of store) (state_of p t) ≡ true → error_number e ≡ 6 → B)
      → B
  which_refused e refused on_short on_unfit on_invalid =
      let begun = sym refused ∙ begins.is in
      by_test (are_short t)
      (λ short. on_short short (ap outcome_number (begun ∙ sym (refused_is InsufficientBuffer after_short short))))
      (λ long.
      by_test (store_unfit store (state_of p t))
      (λ unfit. on_unfit long unfit (ap outcome_number (begun ∙ sym (passed_is InsufficientBuffer after_short long) ∙ sym (refused_is InsufficientBuffer after_unfit unfit))))
      (λ fits.
      by_test (is_invalid (cells_of store) (state_of p t))
      (λ broken.
      on_invalid long fits broken
      (ap outcome_number
      (begun ∙ sym (passed_is InsufficientBuffer after_short long) ∙ sym (passed_is InsufficientBuffer after_unfit fits)
      ∙ sym (refused_is InvalidState (Ok tt) broken))))
      (λ valid.
      never_accepted
      (begun ∙ sym (passed_is InsufficientBuffer after_short long) ∙ sym (passed_is InsufficientBuffer after_unfit fits)
      ∙ sym (passed_is InvalidState (Ok tt) valid)))))

-- ---- a poll

module _ (p : Parts) (t : Tables) (store output : ℕ) (used : List ℕ) where
  pub begins_no_room : output_unfit output ≡ true → BeginsPoll p t store output (Err InsufficientBuffer) used
  begins_no_room unfit =
      record { is = refused_is _ _ unfit; ready = λ never. never_accepted never; room = λ never. never_accepted never }

  pub begins_with_room : output_unfit output ≡ false → {r : Outcome} → BeginsStored p t store r used → BeginsPoll p t store output r used
  begins_with_room room begins =
      record { is = begins.is ∙ passed_is _ _ room; ready = begins.ready; room = λ accepted. ltb-false _ _ room }

module _ {p : Parts} {t : Tables} {store output : ℕ} {r : Outcome} {used : List ℕ} (begins : BeginsPoll p t store output r used) where
  -- with room for a payload it begins as a call that is lent a store
  pub begins_as_stored : output_unfit output ≡ false → BeginsStored p t store r used
  begins_as_stored room = record { is = begins.is ∙ sym (passed_is InsufficientBuffer (begun_stored p t store) room); ready = begins.ready }

  pub has_room : r ≡ Ok tt → output_unfit output ≡ false
  has_room accepted = le-ltb _ _ (begins.room accepted)

  pub which_poll_refused : {B : Type 0} (e : Error) → r ≡ Err e
      → (output_unfit output ≡ true → error_number e ≡ 5 → B)
      → (output_unfit output ≡ false → BeginsStored p t store r used → B)
      → B
  which_poll_refused e refused on_output on_stored =
      by_test (output_unfit output)
      (λ unfit. on_output unfit (ap outcome_number (sym refused ∙ begins.is ∙ sym (refused_is InsufficientBuffer (begun_stored p t store) unfit))))
      (λ room. on_stored room (begins_as_stored room))
