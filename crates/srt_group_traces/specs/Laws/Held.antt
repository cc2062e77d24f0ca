-- Facts of the held packets: what an insertion, a search, the nearest and a run leave of them. Why the nearest is the right
-- packet is the model's NearestLaw.
use Rattle.std.specs.Prelude.{◌≡◌, refl, true, false, not, ℕ, ◌+◌, ◌≤◌, eqb, None, Option, Some}
use Rattle.std.proofs.Common.{sym, ap, ◌∙◌, arith}
use mathlib.Core.List.{List, [], ◌∷◌}
use Rattle.std.proofs.Math.Dec.{leb}
use Rattle.srt_protocol.specs.Sequence.{half, sequence_distance}
use Rattle.srt_group_model.specs.Tools.{if_true◌then◌else◌, such_that, first_such, All}
use Rattle.srt_group_model.specs.Nearest.{sequence_of, has_sequence, held_at, insert, lowest, nearest, is_covered, not_covered}
use Rattle.srt_group_model.specs.declared.Packet.{Packet}
use Rattle.srt_group_model.specs.Laws.Reason.{when_true, when_false, if_elim, by_test, if_some_elim, all_map}
use Rattle.srt_group_traces.specs.Laws.Cases.{Each, each_at, each_or_else, all_such_that, all_pass, each_first_such, first_such_passes, le_of, gt_of, ge_of, eq_of, eqb_yes, not_false}

module _ (Q : Packet → Type 0) where
  pub insert_all : (p : Packet) (ps : List Packet) → Q p → All Q ps → All Q (insert p ps)
  unfolding insert
  insert_all p [] h k = (h, tt)
  insert_all p (q ∷ qs) h k = if_elim (All Q) _ _ _ (λ e. (h, k)) (λ e. (k.0, insert_all p qs h k.1))

  pub held_at_all : (sequence : ℕ) (ps : List Packet) → All Q ps → Each Q (held_at sequence ps)
  held_at_all sequence ps h = each_first_such Q (has_sequence sequence) ps h

  lowest_all : (ps : List Packet) → All Q ps → Each Q (lowest ps)
  unfolding lowest
  lowest_all [] h = tt
  lowest_all (p ∷ ps) h =
      if_some_elim (Each Q) (lowest ps) _ _
      (λ q e. if_elim Q _ _ _ (λ t. h.0) (λ t. each_at Q (lowest ps) q e (lowest_all ps h.1)))
      (λ e. h.0)

  pub nearest_all : (ps : List Packet) → All Q ps → Each Q (nearest ps)
  unfolding nearest
  nearest_all ps h =
      if_some_elim (Each Q) (lowest ps) _ _ (λ low e.
      each_or_else Q (lowest (such_that (λ p. leb (sequence_of low + half) (sequence_of p)) ps)) (Some low)
      (lowest_all _ (all_such_that Q _ ps h)) (each_at Q (lowest ps) low e (lowest_all ps h)))
      (λ e. tt)

  pub not_covered_all : (first count : ℕ) (ps : List Packet) → All Q ps → All Q (not_covered first count ps)
  not_covered_all first count ps h = all_such_that Q _ ps h

-- what a run does not cover starts at its end or after
pub not_covered_beyond : (first count : ℕ) (ps : List Packet)
    → All (λ (p : Packet). count ≤ sequence_distance first (sequence_of p)) (not_covered first count ps)
not_covered_beyond first count ps =
    all_map (λ (p : Packet). not (is_covered first count p) ≡ true)
    (λ (p : Packet). count ≤ sequence_distance first (sequence_of p))
    (λ p e. ge_of (sequence_distance first (sequence_of p)) count (not_false _ e)) (not_covered first count ps)
    (all_pass (λ p. not (is_covered first count p)) ps)

-- what is held at a sequence has it
pub held_at_sequence : (sequence : ℕ) (ps : List Packet) → Each (λ (p : Packet). sequence_of p ≡ sequence) (held_at sequence ps)
held_at_sequence sequence ps = go (held_at sequence ps) (first_such_passes (has_sequence sequence) ps)
  where
    go : (o : Option Packet) → Each (λ (p : Packet). has_sequence sequence p ≡ true) o
        → Each (λ (p : Packet). sequence_of p ≡ sequence) o
    go None h = tt
    go (Some p) h = eq_of (sequence_of p) sequence h

-- ---- the nearest is the packet that is held at its sequence

lowest_is_held : (ps : List Packet) → Each (λ (n : Packet). held_at (sequence_of n) ps ≡ Some n) (lowest ps)
unfolding lowest first_such
lowest_is_held [] = tt
lowest_is_held (p ∷ ps) =
    if_some_elim (Each (λ (n : Packet). held_at (sequence_of n) (p ∷ ps) ≡ Some n)) (lowest ps) _ _
    (λ q e.
    if_elim (λ (n : Packet). held_at (sequence_of n) (p ∷ ps) ≡ Some n) (leb (sequence_of p) (sequence_of q)) _ _ (λ low. here)
    (λ low.
    when_false (eqb (sequence_of p) (sequence_of q)) _ _ (other q low)
    ∙ each_at (λ (n : Packet). held_at (sequence_of n) ps ≡ Some n) (lowest ps) q e (lowest_is_held ps)))
    (λ e. here)
  where
    here : held_at (sequence_of p) (p ∷ ps) ≡ Some p
    here = when_true (eqb (sequence_of p) (sequence_of p)) _ _ (eqb_yes (sequence_of p))

    other : (q : Packet) → leb (sequence_of p) (sequence_of q) ≡ false → eqb (sequence_of p) (sequence_of q) ≡ false
    other q low =
        by_test (eqb (sequence_of p) (sequence_of q))
        (λ e. absurd (omega (arith, gt_of (sequence_of p) (sequence_of q) low, eq_of (sequence_of p) (sequence_of q) e))) (λ e. e)

-- a part of the packets, by a bound on the sequence, holds what all hold there
held_in_part : (bound sequence : ℕ) (ps : List Packet) → bound ≤ sequence
    → held_at sequence (such_that (λ p. leb bound (sequence_of p)) ps) ≡ held_at sequence ps
unfolding first_such such_that
held_in_part bound sequence [] h = refl
held_in_part bound sequence (p ∷ ps) h =
    if_elim (λ (l : List Packet). held_at sequence l ≡ held_at sequence (p ∷ ps)) (leb bound (sequence_of p)) _ _
    (λ e.
    ap (λ (o : Option Packet). if_true eqb (sequence_of p) sequence then Some p else o) (held_in_part bound sequence ps h))
    (λ e. held_in_part bound sequence ps h ∙ sym (when_false (eqb (sequence_of p) sequence) _ _ (other e)))
  where
    other : leb bound (sequence_of p) ≡ false → eqb (sequence_of p) sequence ≡ false
    other low =
        by_test (eqb (sequence_of p) sequence)
        (λ e. absurd (omega (arith, gt_of bound (sequence_of p) low, eq_of (sequence_of p) sequence e))) (λ e. e)

pub nearest_is_held : (ps : List Packet) (n : Packet) → nearest ps ≡ Some n → held_at (sequence_of n) ps ≡ Some n
unfolding nearest
nearest_is_held ps n near =
    each_at (λ (q : Packet). held_at (sequence_of q) ps ≡ Some q) (nearest ps) n near
    (if_some_elim (Each (λ (q : Packet). held_at (sequence_of q) ps ≡ Some q)) (lowest ps) _ _
    (λ low e.
    each_or_else (λ (q : Packet). held_at (sequence_of q) ps ≡ Some q)
    (lowest (such_that (λ p. leb (sequence_of low + half) (sequence_of p)) ps)) (Some low)
    (above (sequence_of low + half))
    (each_at (λ (q : Packet). held_at (sequence_of q) ps ≡ Some q) (lowest ps) low e (lowest_is_held ps)))
    (λ e. tt))
  where
    above : (bound : ℕ)
        → Each (λ (q : Packet). held_at (sequence_of q) ps ≡ Some q) (lowest (such_that (λ p. leb bound (sequence_of p)) ps))
    above bound =
        each_both (lowest (such_that (λ p. leb bound (sequence_of p)) ps))
        (lowest_is_held (such_that (λ p. leb bound (sequence_of p)) ps))
        (lowest_all (λ (q : Packet). bound ≤ sequence_of q) (such_that (λ p. leb bound (sequence_of p)) ps)
        (all_map (λ (q : Packet). leb bound (sequence_of q) ≡ true) (λ (q : Packet). bound ≤ sequence_of q)
        (λ q e. le_of bound (sequence_of q) e) (such_that (λ p. leb bound (sequence_of p)) ps)
        (all_pass (λ p. leb bound (sequence_of p)) ps)))
      where
        each_both : (o : Option Packet)
            → Each (λ (q : Packet). held_at (sequence_of q) (such_that (λ p. leb bound (sequence_of p)) ps) ≡ Some q) o
            → Each (λ (q : Packet). bound ≤ sequence_of q) o
            → Each (λ (q : Packet). held_at (sequence_of q) ps ≡ Some q) o
        each_both None h k = tt
        each_both (Some q) h k = sym (held_in_part bound (sequence_of q) ps k) ∙ h
