-- What is proved of the definitions in specs/Readings.antt, with what the proofs need.
use Rattle.std.specs.Prelude.{◌≡◌, refl, Bool, true, false, ◌||◌, List, [], ◌∷◌, ℕ, eqb, None, Option, Some}
use Rattle.std.proofs.Common.{sym, ◌∙◌, ne_eqb}
use Rattle.srt_group_model.specs.Validity.{above}
use Rattle.srt_group_model.specs.Calls.{reading_out_of_range, read_field}
use Rattle.srt_group_model.specs.Tools.{if_true◌then◌else◌, if_some◌give◌otherwise◌, first_such, All}
use Rattle.srt_group_model.specs.Laws.Reason.{when_false}
use Rattle.srt_group_model.specs.Legs.{readings, reading_of, goes_back}
use Rattle.srt_group_model.specs.declared.Leg.{Leg}
use Rattle.srt_connection.specs.declared.readings.Field.{Field}
use Rattle.srt_connection.specs.declared.readings.Field.TheVariants.{State, Window, ReceiveWindow, Latency, Acknowledged, Srtt, Rttvar, LastHeard, PaceTime, PeerGroup, PayloadLimit, OldestSendTime}
use Rattle.srt_connection.specs.Readings.{field_number, IsField, NoField, row_of}

-- ---- laws

pub or_false : (b : Bool) → (b || false) ≡ b
or_false true = refl
or_false false = refl

none_such : {A : Type 0} (test : A → Bool) (l : List A) → All (λ x. test x ≡ false) l → first_such test l ≡ None
unfolding first_such
none_such test [] h = refl
none_such test (x ∷ l) h = when_false (test x) _ _ h.0 ∙ none_such test l h.1

-- there are twelve fields
pub unknown_field : (n : ℕ) → (n ≡ 1 → ⊥) → (n ≡ 2 → ⊥) → (n ≡ 3 → ⊥) → (n ≡ 4 → ⊥) → (n ≡ 5 → ⊥) → (n ≡ 6 → ⊥) → (n ≡ 7 → ⊥)
    → (n ≡ 8 → ⊥) → (n ≡ 9 → ⊥) → (n ≡ 10 → ⊥) → (n ≡ 11 → ⊥) → (n ≡ 12 → ⊥) → reading_of n ≡ None
unfolding reading_of readings
unknown_field n h1 h2 h3 h4 h5 h6 h7 h8 h9 h10 h11 h12 =
    none_such _ readings
    (other 1 h1, (other 2 h2, (other 3 h3, (other 4 h4, (other 5 h5, (other 6 h6, (other 7 h7, (other 8 h8, (other 9 h9, (other 10 h10, (other 11 h11, (other 12 h12, tt))))))))))))
  where
    other : (k : ℕ) → (n ≡ k → ⊥) → eqb k n ≡ false
    other k h = ne_eqb k n (λ e. h (sym e))

-- ---- which readings have a turn

some_is_not_none : {A : Type 0} (x : A) → ◌≡◌ {A = Option A} (Some x) None → ⊥
some_is_not_none x e = cc e

pub unknown_has_no_turn : (field n : ℕ) (l : Leg) → NoField field → goes_back field n l ≡ false
unfolding goes_back reading_of readings first_such if_true◌then◌else◌
unknown_has_no_turn field n l none =
    let no_state : eqb field 1 ≡ false = ne_eqb field 1 (λ is. some_is_not_none _ (rw is at none)) in
    let no_acknowledgement : eqb field 5 ≡ false = ne_eqb field 5 (λ is. some_is_not_none _ (rw is at none)) in
    rw (no_state, no_acknowledgement)

-- ---- what a field's row of `readings` tells

-- the row of a field is the row of its number
pub known : (f : Field) → reading_of (field_number f) ≡ Some (row_of f)
unfolding reading_of readings first_such if_true◌then◌else◌ field_number row_of
known State = refl
known Window = refl
known ReceiveWindow = refl
known Latency = refl
known Acknowledged = refl
known Srtt = refl
known Rttvar = refl
known LastHeard = refl
known PaceTime = refl
known PeerGroup = refl
known PayloadLimit = refl
known OldestSendTime = refl

pub read_known : (f : Field) (field n : ℕ) (l : Leg) → IsField f field → read_field field n l ≡ (row_of f).put n l
unfolding read_field if_some◌give◌otherwise◌
read_known f field n l is = rw (is, known f)

pub read_unknown : (field n : ℕ) (l : Leg) → NoField field → read_field field n l ≡ l
unfolding read_field if_some◌give◌otherwise◌
read_unknown field n l none = rw none

pub ranged_known : (f : Field) (field n : ℕ) → IsField f field → reading_out_of_range field n ≡ above (row_of f).largest n
unfolding reading_out_of_range if_some◌give◌otherwise◌
ranged_known f field n is = rw (is, known f)

pub ranged_unknown : (field n : ℕ) → NoField field → reading_out_of_range field n ≡ true
unfolding reading_out_of_range if_some◌give◌otherwise◌
ranged_unknown field n none = rw none
