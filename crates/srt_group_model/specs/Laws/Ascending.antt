-- The held packets keep ascending by sequence over every call, so no sequence is held twice: the rule `held_sequence_twice`
-- of validity is kept.
use Rattle.std.specs.Prelude.{◌≡◌, refl, Bool, true, false, not, ◌&&◌, List, [], ◌∷◌, ℕ, ◌≤◌, ◌<◌, ltb, eqb}
use Rattle.std.proofs.Common.{ap, ap₂, ◌∙◌, arith, ltb-true, ltb-false, lt-ltb}
use Rattle.std.proofs.lemmas.Bool.{eqb-false, not-false}
use Rattle.srt_group_model.specs.Tools.{any, such_that, each, All}
use Rattle.srt_group_model.specs.Laws.Reason.{if_elim, and_left, and_right, and_yes, or_left, or_right, all_map}
use Rattle.srt_group_model.specs.State.{Receive, State}
use Rattle.srt_group_model.specs.Nearest.{sequence_of, is_held, insert}
use Rattle.srt_group_model.specs.Run.{Mark}
use Rattle.srt_group_model.specs.Collecting.{is_late, is_discarded}
use Rattle.srt_group_model.specs.Delivery.{pass_run, skip_to}
use Rattle.srt_group_model.specs.Removal.{own_packet}
use Rattle.srt_group_model.specs.Validity.{ascends, held_sequence_twice}
use Rattle.srt_group_model.specs.Lent.{Lent, Call, with_bytes, perform}
use Rattle.srt_group_model.specs.Laws.Moves.{Law}
use Rattle.srt_group_model.specs.Laws.Walk.{call_keeps}
use Rattle.srt_group_model.specs.declared.Packet.{Packet}

abbrev pub Above : ℕ → List Packet → Type 0
Above n = All (λ (p : Packet). n < sequence_of p)

above_lower : (m n : ℕ) (ps : List Packet) → m ≤ n → Above n ps → Above m ps
above_lower m n ps h = all_map _ _ (λ p k. omega arith) ps

-- a list ascends exactly if its rest does and all of the rest is above its first
pub ascends_rest : (p : Packet) (ps : List Packet) → ascends (p ∷ ps) ≡ true → ascends ps ≡ true
unfolding ascends
ascends_rest p [] e = refl
ascends_rest p (q ∷ qs) e = and_right (ltb (sequence_of p) (sequence_of q)) _ e

pub ascends_above : (p : Packet) (ps : List Packet) → ascends (p ∷ ps) ≡ true → Above (sequence_of p) ps
unfolding ascends
ascends_above p [] e = tt
ascends_above p (q ∷ qs) e =
    let first = ltb-true (sequence_of p) (sequence_of q) (and_left (ltb (sequence_of p) (sequence_of q)) _ e) in (
      first,
      above_lower (sequence_of p) (sequence_of q) qs (omega (arith, first))
          (ascends_above q qs (and_right (ltb (sequence_of p) (sequence_of q)) _ e)),
    )

ascends_cons : (p : Packet) (ps : List Packet) → Above (sequence_of p) ps → ascends ps ≡ true → ascends (p ∷ ps) ≡ true
unfolding ascends
ascends_cons p [] h e = refl
ascends_cons p (q ∷ qs) h e = and_yes (ltb (sequence_of p) (sequence_of q)) _ (lt-ltb (sequence_of p) (sequence_of q) h.0) e

-- ---- the moves

insert_above : (n : ℕ) (p : Packet) (ps : List Packet) → n < sequence_of p → Above n ps → Above n (insert p ps)
unfolding insert
insert_above n p [] h k = (h, tt)
insert_above n p (q ∷ qs) h k =
    if_elim (Above n) _ _ _ (λ e. (h, k)) (λ e. (k.0, insert_above n p qs h k.1))

pub insert_ascends : (p : Packet) (ps : List Packet) → is_held (sequence_of p) ps ≡ false → ascends ps ≡ true → ascends (insert p ps) ≡ true
unfolding insert any
insert_ascends p [] h e = ascends_cons p [] tt e
insert_ascends p (q ∷ qs) h e =
    if_elim (λ (l : List Packet). ascends l ≡ true) _ _ _
    (λ less.
    let first = ltb-true (sequence_of p) (sequence_of q) less in
    ascends_cons p (q ∷ qs) (first, above_lower (sequence_of p) (sequence_of q) qs (omega (arith, first)) (ascends_above q qs e)) e)
    (λ more.
    let differ = eqb-false (sequence_of q) (sequence_of p) (or_left (eqb (sequence_of q) (sequence_of p)) _ h) in
    let below = ltb-false (sequence_of p) (sequence_of q) more in
    ascends_cons q (insert p qs)
    (insert_above (sequence_of q) p qs (strictly (sequence_of q) (sequence_of p) differ below) (ascends_above q qs e))
    (insert_ascends p qs (or_right (eqb (sequence_of q) (sequence_of p)) _ h) (ascends_rest q qs e)))
  where
    strictly : (m n : ℕ) → (m ≡ n → ⊥) → m ≤ n → m < n
    strictly m n h k = omega arith

such_that_above : (n : ℕ) (test : Packet → Bool) (ps : List Packet) → Above n ps → Above n (such_that test ps)
unfolding such_that
such_that_above n test [] h = tt
such_that_above n test (p ∷ ps) h =
    if_elim (Above n) _ _ _ (λ e. (h.0, such_that_above n test ps h.1)) (λ e. such_that_above n test ps h.1)

pub such_that_ascends : (test : Packet → Bool) (ps : List Packet) → ascends ps ≡ true → ascends (such_that test ps) ≡ true
unfolding such_that
such_that_ascends test [] e = e
such_that_ascends test (p ∷ ps) e =
    let rest = such_that_ascends test ps (ascends_rest p ps e) in
    if_elim (λ (l : List Packet). ascends l ≡ true) _ _ _
    (λ g. ascends_cons p _ (such_that_above (sequence_of p) test ps (ascends_above p ps e)) rest)
    (λ g. rest)

own_sequence : (id : ℕ) (p : Packet) → sequence_of (own_packet id p) ≡ sequence_of p
unfolding own_packet
own_sequence id p = if_elim (λ (q : Packet). sequence_of q ≡ sequence_of p) _ _ _ (λ e. refl) (λ e. refl)

pub own_ascends : (id : ℕ) (ps : List Packet) → ascends (each (own_packet id) ps) ≡ ascends ps
unfolding each ascends
own_ascends id [] = refl
own_ascends id (p ∷ []) = refl
own_ascends id (p ∷ q ∷ qs) =
    ap₂ (λ (a b : Bool). a && b)
    (ap₂ (λ (a b : ℕ). ltb a b) (own_sequence id p) (own_sequence id q))
    (own_ascends id (q ∷ qs))

abbrev pub Ascends : Receive → List Mark → Type 0
Ascends x log = ascends x.pending ≡ true

pub ascends_law : Law Ascends
unfolding is_discarded pass_run skip_to
ascends_law =
    record {
      sets_base = λ x log b e h. h;
      retains = λ x log p e h. insert_ascends p x.pending (or_right (is_late p x) (is_held (sequence_of p) x.pending) e) h;
      discards = λ x log p e h. h;
      skips = λ x log base p tested time b e g h. h;
      delivers = λ x log base p b e h. such_that_ascends _ x.pending h;
      owns = λ x log id h. own_ascends id x.pending ∙ h;
      retires = λ x log p h. such_that_ascends _ x.pending h;
      puts = λ x log cell payload h. h;
    }

-- no call makes one sequence held twice, or the held packets stop ascending
pub ascending_kept : (c : Call) (lent : Lent) (s : State) → held_sequence_twice s ≡ false → held_sequence_twice (perform c lent s).state ≡ false
unfolding held_sequence_twice perform with_bytes
ascending_kept c lent s h =
    ap not (call_keeps Ascends ascends_law _ _ _ c s (not-false (ascends s.receive.pending) h))
