-- The members that rows show, by their places.
use Rattle.std.specs.Prelude.{◌≡◌, Bool, false, List, [], ◌∷◌, length, drop, None, Option, Some}
use Rattle.std.specs.Option.{MatchOption}
use Rattle.std.proofs.Math.Path.{refl, ap}
use Rattle.std.proofs.Common.{◌∙◌, arith}
use Prim.Native.Nat.{ℕ, zero, suc, ◌+◌, ◌≤◌, ◌<◌}
use Rattle.srt_group_model.specs.Tools.{if_some◌give◌otherwise◌, place_of, at_place}
use Rattle.srt_group_model.specs.State.{Member}
use Rattle.srt_group_model.specs.Members.{promotion}
use Rattle.srt_connection_queue.specs.Laws.Tab.{place_below}
use Rattle.srt_connection_members.specs.Members.{members_in}
use Rattle.srt_connection_members.specs.Laws.Members.{found_some}
use Rattle.srt_group_members.specs.Rank.{shown}
use Rattle.srt_group_members.specs.Laws.Rank.{promotion_inside}

-- a test of what an option has, if it has anything
pub some_and : {A : Type 0} (test : A → Bool) (o : Option A) {answer : Bool} → MatchOption o (answer ≡ false) (λ x. answer ≡ test x)
    → answer ≡ (if_some o give test otherwise false)
unfolding if_some◌give◌otherwise◌
some_and test None given = given
some_and test (Some x) given = given

members_long : (rows : List (List ℕ)) → length (members_in rows) ≡ length rows
members_long [] = refl
members_long (row ∷ rows) = ap suc (members_long rows)

pub row_there : (i : ℕ) (rows : List (List ℕ)) → i < length rows → at_place i (members_in rows) ≡ Some (shown rows i)
unfolding at_place
row_there i [] h = absurd (omega arith)
row_there zero (row ∷ rows) h = refl
row_there (suc i) (row ∷ rows) h = row_there i rows (omega arith)

pub row_found : (test : Member → Bool) (rows : List (List ℕ)) (i : ℕ) → Some i ≡ place_of test (members_in rows) → i < length rows
row_found test rows i e =
    omega (arith, place_below test (members_in rows) i (found_some (place_of test (members_in rows)) i e), members_long rows)

pub row_promoted : (rows : List (List ℕ)) (i : ℕ) → Some i ≡ promotion (members_in rows) → i < length rows
row_promoted rows i e = omega (arith, promotion_inside (members_in rows) i e, members_long rows)

-- the member at the place, and those behind it
pub left_next : (k : ℕ) (rows : List (List ℕ)) → k < length rows → drop k (members_in rows) ≡ shown rows k ∷ drop (k + 1) (members_in rows)
left_next k [] h = absurd (omega arith)
left_next zero (row ∷ rows) h = refl
left_next (suc k) (row ∷ rows) h =
    let next : suc (k + 1) ≡ suc k + 1 = omega arith in
    left_next k rows (omega arith) ∙ ap (λ (j : ℕ). shown rows k ∷ drop j (members_in (row ∷ rows))) next

pub left_none : (k : ℕ) (rows : List (List ℕ)) → length rows ≤ k → drop k (members_in rows) ≡ []
left_none zero [] h = refl
left_none (suc k) [] h = refl
left_none zero (row ∷ rows) h = absurd (omega arith)
left_none (suc k) (row ∷ rows) h = left_none k rows (omega arith)
