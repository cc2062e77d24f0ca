-- What is proved of the definitions in specs/Turns.antt, with what the proofs need.
use Rattle.std.specs.Prelude.{◌≡◌, Bool, List, [], ◌∷◌, ◌++◌, ℕ, zero, suc, ◌+◌, ◌-◌, ◌<◌, length, min, max, fold, take, drop, None, Option, Some}
use Rattle.std.proofs.Math.Path.{refl, ap, sym}
use Rattle.std.proofs.Common.{◌∙◌}
use native.Mathlib.Omega.{arith}
use Rattle.srt_group_model.specs.Tools.{if_true◌then◌else◌, if_some◌give◌otherwise◌, place_of}
use Rattle.srt_group_model.specs.State.{Member}
use Rattle.srt_group_model.specs.Collecting.{in_turn}
use Rattle.srt_group_model.specs.Removal.{largest_window}
use Rattle.srt_connection_queue.specs.Laws.Tab.{place_below}
use Rattle.srt_connection_queue.specs.Rows.{member_of}
use Rattle.srt_connection_members.specs.Members.{members_in}
use Rattle.srt_connection_members.specs.Laws.Members.{found_some, found_none}
use Rattle.srt_group_members.specs.Turns.{has_event}

-- ---- the rows from a place on, and those before it

left_in : (k : ℕ) (rows : List (List ℕ)) → drop k (members_in rows) ≡ members_in (drop (min k (length rows)) rows)
left_in zero rows = let none : 0 ≡ min 0 (length rows) = omega arith in ap (λ (j : ℕ). members_in (drop j rows)) none
left_in (suc k) [] = let none : 0 ≡ min (suc k) 0 = omega arith in ap (λ (j : ℕ). members_in (drop {A = List ℕ} j [])) none
left_in (suc k) (row ∷ rows) = left_in k rows ∙ (let one : suc (min k (length rows)) ≡ min (suc k) (suc (length rows)) = omega arith in ap (λ (j : ℕ). members_in (drop j (row ∷ rows))) one)

long : (rows : List (List ℕ)) → length (members_in rows) ≡ length rows
long [] = refl
long (row ∷ rows) = ap (λ (n : ℕ). suc n) (long rows)

left_long : (k : ℕ) (rows : List (List ℕ)) → length (drop k rows) ≡ length rows - k
left_long zero rows = omega arith
left_long (suc k) [] = omega arith
left_long (suc k) (row ∷ rows) = left_long k rows ∙ omega arith

parted : (k : ℕ) (rows : List (List ℕ)) → members_in rows ≡ members_in (take k rows) ++ members_in (drop k rows)
parted zero rows = refl
parted (suc k) [] = refl
parted (suc k) (row ∷ rows) = ap (λ (ms : List Member). member_of row ∷ ms) (parted k rows)

-- where none of the later ones passes, the first that does is among the earlier
place_before : {A : Type 0} (test : A → Bool) (xs ys : List A) → place_of test ys ≡ None → place_of test (xs ++ ys) ≡ place_of test xs
unfolding place_of if_true◌then◌else◌ if_some◌give◌otherwise◌
place_before test [] ys none = none
place_before test (x ∷ xs) ys none =
    ap (λ (o : Option ℕ). if_true test x then Some 0 else (if_some o give (λ i. Some (suc i)) otherwise None)) (place_before test xs ys none)

-- the place that was found is one of the rows'
pub event_inside : (rows : List (List ℕ)) (i : ℕ) → Some i ≡ place_of has_event (members_in rows) → i < length rows
event_inside rows i e =
    omega (arith, place_below has_event (members_in rows) i (found_some (place_of has_event (members_in rows)) i e), long rows)

module _ (round : ℕ) (rows : List (List ℕ)) {k : ℕ} (at : k ≡ min round (length rows)) where
  pub turn_later : {later : List (List ℕ)} {i : ℕ} → later ≡ drop k rows → Some i ≡ place_of has_event (members_in later)
      → Some (k + i) ≡ in_turn round (members_in rows)
  unfolding in_turn has_event if_some◌give◌otherwise◌
  turn_later {later} {i} is e =
      let inside : i < length rows - k = omega (arith, event_inside later i e, ap length is, left_long k rows) in
      let whole : k ≡ round = omega arith in
      sym (rw found (ap (λ (j : ℕ). Some (j + i)) (sym whole)))
    where
      found : place_of has_event (drop round (members_in rows)) ≡ Some i
      found =
          ap (place_of has_event)
          (left_in round rows ∙ ap (λ (j : ℕ). members_in (drop j rows)) (sym at) ∙ ap (λ (r : List (List ℕ)). members_in r) (sym is))
          ∙ found_some (place_of has_event (members_in later)) i e

  pub turn_again : {before later : List (List ℕ)} {answer : Option ℕ} → before ≡ take k rows → later ≡ drop k rows
      → None ≡ place_of has_event (members_in later) → answer ≡ place_of has_event (members_in before)
      → answer ≡ in_turn round (members_in rows)
  unfolding in_turn has_event if_some◌give◌otherwise◌
  turn_again {before} {later} before_is is e answer =
      answer
      ∙ ap (λ (r : List (List ℕ)). place_of has_event (members_in r)) before_is
      ∙ sym (place_before has_event (members_in (take k rows)) (members_in (drop k rows)) none_later)
      ∙ ap (place_of has_event) (sym (parted k rows))
      ∙ sym (rw (ap (place_of has_event) (left_in round rows ∙ ap (λ (j : ℕ). members_in (drop j rows)) (sym at)) ∙ none_later))
    where
      none_later : place_of has_event (members_in (drop k rows)) ≡ None
      none_later =
          ap (λ (r : List (List ℕ)). place_of has_event (members_in r)) (sym is)
          ∙ found_none (place_of has_event (members_in later)) e

-- ---- the largest window

larger_first : (window x : ℕ) (ms : List Member) → largest_window (max window x) ms ≡ max (largest_window window ms) x
unfolding largest_window
larger_first window x [] = refl
larger_first window x (m ∷ ms) = ap (max m.leg.receiver.window) (larger_first window x ms) ∙ omega arith

pub window_folded : (window : ℕ) (rows : List (List ℕ))
    → fold (λ largest row. max largest (member_of row).leg.receiver.window) window rows ≡ largest_window window (members_in rows)
unfolding largest_window
window_folded window [] = refl
window_folded window (row ∷ rows) =
    window_folded (max window (member_of row).leg.receiver.window) rows
    ∙ larger_first window (member_of row).leg.receiver.window (members_in rows)
    ∙ omega arith
