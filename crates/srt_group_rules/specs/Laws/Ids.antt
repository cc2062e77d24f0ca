-- What is proved of the definitions in specs/Ids.antt, with what the proofs need.
use Rattle.std.specs.Prelude.{◌≡◌, Bool, true, false, List, [], take, eqb, length, set, replicate, Some}
use Rattle.std.proofs.Math.Path.{refl, ap, sym}
use Rattle.std.proofs.Common.{◌∙◌, length-set, length-take-le, get_or-take, get_or-set_same, get_or-set_other}
use Rattle.std.proofs.lemmas.List.{length-replicate}
use Prim.Native.Nat.{ℕ, zero, suc, ◌+◌, ◌%◌, ◌≤◌, ◌<◌}
use Rattle.std.proofs.Math.Decide.{dec_lt}
use native.Mathlib.Omega.{arith}
use borrow.Author.Tests.{eq-eqb, ne_eqb, eqb-true, eqb-false}
use Rattle.std.proofs.Math.ListN.{get_or}
use Rattle.srt_group_model.specs.Tools.{any, each}
use Rattle.srt_group_model.specs.State.{Member}
use Rattle.srt_group_model.specs.Laws.Reason.{by_test, not_both, or_yes_left, or_yes_right, or_cases}
use Rattle.srt_group_model.specs.Members.{id_of, has_id, find}
use Rattle.srt_group_model.specs.Cells.{is_among}
use Rattle.srt_group_model.specs.Validity.{one_twice}
use Rattle.srt_connection_queue.specs.Rows.{member_of}
use Rattle.srt_connection_members.specs.Members.{member_in, members_in}
use Rattle.srt_connection_members.specs.Laws.Members.{members_tab, members_front}
use Rattle.word_rows.specs.Laws.Tab.{tab_length}
use Rattle.srt_connection_queue.specs.Laws.Tab.{tab_found, place_below, tab_passes}
use Rattle.word_rows.specs.Tab.{tab}
use Rattle.srt_group_tables.specs.Laws.PacketLaws.{each_tab}
use Rattle.srt_group_rules.specs.Laws.Walks.{any_there, any_nowhere, none_there}
use Rattle.srt_group_rules.specs.Ids.{id_at, members_upto, places, nobody, TakenBefore}

-- ---- a search that finds nothing, and a row that passes

module _ {A : Type 0} (test : A → Bool) where
  pub any_place : {C : Type 0} (n : ℕ) (f : ℕ → A) → any test (tab n f) ≡ true → ((i : ℕ) → i < n → test (f i) ≡ true → C) → C
  unfolding any tab
  any_place zero f found there = not_both found refl
  any_place (suc n) f found there =
      or_cases (test (f 0)) _ found (λ e. there 0 (omega arith) e)
      (λ e. any_place n (λ k. f (suc k)) e (λ i below it. there (suc i) (omega arith) it))

-- ---- distinct numbers, place by place

pub record Apart (ids : ℕ → ℕ) (n : ℕ) : Type 0 where
  pub apart : (i j : ℕ) → i < j → j < n → ids i ≡ ids j → ⊥

pub apart_once : (n : ℕ) (ids : ℕ → ℕ) → Apart ids n → one_twice (tab n ids) ≡ false
unfolding one_twice tab
apart_once zero ids h = refl
apart_once (suc n) ids h =
    cc (
      any_nowhere (λ m. eqb m (ids 0)) n (λ i. ids (suc i))
          (λ i below. ne_eqb (ids (suc i)) (ids 0) (λ e. h.apart 0 (suc i) (omega arith) (omega arith) (sym e))),
      apart_once n (λ i. ids (suc i))
          record { apart = λ i j less below e. h.apart (suc i) (suc j) (omega arith) (omega arith) e },
    )

pub twice_there : (n : ℕ) (ids : ℕ → ℕ) (i j : ℕ) → i < j → j < n → ids i ≡ ids j → one_twice (tab n ids) ≡ true
unfolding one_twice tab
twice_there zero ids i j less below same = absurd (omega arith)
twice_there (suc n) ids i zero less below same = absurd (omega arith)
twice_there (suc n) ids zero (suc j) less below same =
    or_yes_left _ _ (any_there (λ m. eqb m (ids 0)) n (λ i. ids (suc i)) j (omega arith) (eq-eqb (ids (suc j)) (ids 0) (sym same)))
twice_there (suc n) ids (suc i) (suc j) less below same =
    or_yes_right (is_among (ids 0) (tab n (λ i. ids (suc i)))) _
    (twice_there n (λ i. ids (suc i)) i j (omega arith) (omega arith) same)

pub once_apart : (n : ℕ) (ids : ℕ → ℕ) → one_twice (tab n ids) ≡ false → Apart ids n
once_apart n ids once = record { apart = λ i j less below same. not_both (twice_there n ids i j less below same) once }

-- ---- the ids of a table's members

pub ids_of : (n : ℕ) (t : List (List ℕ)) → each id_of (members_upto n t) ≡ tab n (id_at t)
ids_of n t = each_tab id_of n (member_in t)

-- what a search finds is there, and has the id
module _ (n id i : ℕ) (t : List (List ℕ)) (is : Some i ≡ find id (members_upto n t)) where
  pub found_upto : i < n
  found_upto = omega (arith, place_below (has_id id) (members_upto n t) i (sym is), tab_length n (member_in t))

  pub found_id : id_at t i ≡ id
  found_id = eqb-true (id_at t i) id (tab_passes (has_id id) n (member_in t) i (sym is))

module _ (t : List (List ℕ)) (index : ℕ) where
  module _ (answer : Bool) (tested : answer ≡ any (has_id (id_at t index)) (members_upto index t)) where
    pub apart_one : answer ≡ false → Apart (id_at t) index → Apart (id_at t) (index + 1)
    apart_one first here = record { apart = λ i j less below same. one_more i j less (dec_lt j index) same below }
      where
        one_more : (i j : ℕ) → i < j → Dec (j < index) → id_at t i ≡ id_at t j → j < index + 1 → ⊥
        one_more i j less (yes lower) same below = here.apart i j less lower same
        one_more i j less (no other) same below =
            let last : j ≡ index = omega arith in
            eqb-false (id_at t i) (id_at t index)
            (none_there (has_id (id_at t index)) index (member_in t) (sym tested ∙ first) i (omega arith))
            (same ∙ ap (id_at t) last)

    pub twice_here : (n : ℕ) → index < n → answer ≡ true → true ≡ one_twice (each id_of (members_upto n t))
    twice_here n inside again =
        any_place (has_id (id_at t index)) index (member_in t) (sym tested ∙ again)
        (λ i below it. sym (ap one_twice (ids_of n t) ∙ twice_there n (id_at t) i index below inside (eqb-true (id_at t i) (id_at t index) it)))

-- Cited by no proof: it stands for who reads `Apart`.
pub apart_start : (t : List (List ℕ)) → Apart (id_at t) 0
apart_start t = record { apart = λ i j less below same. omega arith }

pub apart_all : (t : List (List ℕ)) (index n : ℕ) → Apart (id_at t) index → n ≤ index → false ≡ one_twice (each id_of (members_upto n t))
apart_all t index n here all =
    sym
    (ap one_twice (ids_of n t)
    ∙ apart_once n (id_at t) record { apart = λ i j less below same. here.apart i j less (omega arith) same })

-- the rows before one were asked for its id
pub asked : (t : List (List ℕ)) (index id : ℕ) (answer : Bool) → index ≤ length t → id ≡ id_at t index → answer ≡ any (has_id id) (members_in (take index t))
    → answer ≡ any (has_id (id_at t index)) (members_upto index t)
asked t index id answer within is tested =
    tested ∙ ap (λ (k : ℕ). any (has_id k) (members_in (take index t))) is
    ∙ ap (any (has_id (id_at t index))) (sym (members_front index t within))

pub twice_in : (t : List (List ℕ)) (index : ℕ) (answer : Bool) → answer ≡ any (has_id (id_at t index)) (members_upto index t) → index < length t
    → answer ≡ true → true ≡ one_twice (each id_of (members_in t))
twice_in t index answer tested inside again =
    twice_here t index answer tested (length t) inside again ∙ ap (λ (ms : List Member). one_twice (each id_of ms)) (members_tab t)

pub once_in : (t : List (List ℕ)) (index : ℕ) → Apart (id_at t) index → length t ≤ index → false ≡ one_twice (each id_of (members_in t))
once_in t index here all = apart_all t index (length t) here all ∙ ap (λ (ms : List Member). one_twice (each id_of ms)) (members_tab t)

-- ---- the table of places

-- Cited by no proof: it stands for who reads `TakenBefore`.
pub taken_start : (t : List (List ℕ)) → TakenBefore t 0 (replicate places nobody)
taken_start t = record { long = length-replicate places nobody; taken = λ k below. absurd (omega arith) }

-- no id before has the place, so none is the same
pub free_place : (t : List (List ℕ)) (table : List ℕ) (id : ℕ) → TakenBefore t (length t) table → get_or table (id % places) 0 ≡ nobody
    → false ≡ any (has_id id) (members_in t)
free_place t table id here free =
    sym
    (ap (any (has_id id)) (sym (members_tab t))
    ∙ any_nowhere (has_id id) (length t) (member_in t)
    (λ k below.
    ne_eqb (id_at t k) id
    (λ same. here.taken k below (ap (λ (n : ℕ). get_or table (n % places) 0) same ∙ free))))

-- the members before one are those of the rows before its; cited by no proof, it stands for who reads `TakenBefore`
pub taken_front : (t : List (List ℕ)) (index : ℕ) (table : List ℕ) → index ≤ length t → TakenBefore t index table
    → TakenBefore (take index t) (length (take index t)) table
taken_front t index table within here =
    record {
      long = here.long;
      taken =
          λ k below free.
          let low : k < index = omega (arith, length-take-le index t within) in
          here.taken k low
          (ap (λ (row : List ℕ). get_or table (id_of (member_of row) % places) 0) (sym (get_or-take index t k [] low)) ∙ free);
    }

module _ (t : List (List ℕ)) (index : ℕ) (table : List ℕ) (here : TakenBefore t index table) (at : ℕ) (place_is : at ≡ id_at t index % places) where
  pub taken_on : index < nobody → TakenBefore t (index + 1) (set table at index)
  taken_on low =
      record {
        long = length-set table at index ∙ here.long;
        taken =
            λ k below is.
            by_test (eqb (id_at t k % places) at)
            (λ e.
            let there = ap (λ (n : ℕ). get_or (set table at index) n 0) (eqb-true (id_at t k % places) at e) in
            omega (arith, sym there ∙ is, get_or-set_same table at index 0 inside))
            (λ e.
            let other = eqb-false (id_at t k % places) at e in
            here.taken k (earlier k below (dec_lt k index) other) (sym (get_or-set_other table at (id_at t k % places) index 0 other) ∙ is));
      }
    where
      inside : at < length table
      inside = omega (arith, place_is, here.long)

      earlier : (k : ℕ) → k < index + 1 → Dec (k < index) → (id_at t k % places ≡ at → ⊥) → k < index
      earlier k below (yes lower) other = lower
      earlier k below (no l) other =
          let last : k ≡ index = omega arith in absurd (other (ap (λ (i : ℕ). id_at t i % places) last ∙ sym place_is))

-- a member with the id is the one that a search finds, where no id stands twice
pub found_there : (id : ℕ) (t : List (List ℕ)) → one_twice (each id_of (members_in t)) ≡ false → (i : ℕ) → i < length t → id_at t i ≡ id
    → Some i ≡ find id (members_in t)
found_there id t once i below is =
    sym
    (ap (find id) (sym (members_tab t))
    ∙ tab_found (has_id id) (length t) (member_in t) i below (eq-eqb (id_at t i) id is)
    (λ j lower.
    ne_eqb (id_at t j) id
    (λ same. (once_apart (length t) (id_at t) (ap one_twice (sym (ids_of (length t) t)) ∙ rw (← members_tab t) at once)).apart j i lower below (same ∙ sym is))))
