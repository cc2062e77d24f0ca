-- Laws of the base and of the skipped total, over every call: the total never falls, and a base that is set moves only by
-- delivery and skip. Document 01, "Receiving" and "Skip".
use Rattle.std.specs.Prelude.{◌≡◌, refl, Bool, true, false, List, ℕ, ◌+◌, ◌≤◌, min, Some}
use Rattle.std.proofs.Common.{sym, ◌∙◌, arith}
use Rattle.srt_protocol.specs.Sequence.{sequence_distance}
use Rattle.srt_group_model.specs.Legs.{largest_64}
use Rattle.srt_group_model.specs.Tools.{any}
use Rattle.srt_group_model.specs.Laws.Reason.{not_both, none_some}
use Rattle.srt_group_model.specs.State.{Receive, State, next_receive_sequence}
use Rattle.srt_group_model.specs.Nearest.{sequence_of}
use Rattle.srt_group_model.specs.Run.{Mark, put, base_set, collected, gap_skipped, delivered}
use Rattle.srt_group_model.specs.Delivery.{pass_run, skip_to}
use Rattle.srt_group_model.specs.Lent.{Call, Lent, with_bytes, perform}
use Rattle.srt_group_model.specs.Laws.Moves.{Law}
use Rattle.srt_group_model.specs.Laws.Walk.{call_keeps}

-- ---- the skipped total

abbrev NotBelow : ℕ → Receive → List Mark → Type 0
NotBelow n x log = (n ≤ x.numbers.skipped) × (x.numbers.skipped ≤ largest_64)

not_below_law : (n : ℕ) → Law (NotBelow n)
unfolding skip_to pass_run
not_below_law n =
    record {
      sets_base = λ x log b e h. h;
      retains = λ x log p e h. h;
      discards = λ x log p e h. h;
      skips =
          λ x log base p tested time b e g h. (
            rises n x.numbers.skipped (sequence_distance base (sequence_of p)) h.0 h.1,
            bounded x.numbers.skipped (sequence_distance base (sequence_of p)),
          );
      delivers = λ x log base p b e h. h;
      owns = λ x log id h. h;
      retires = λ x log p h. h;
      puts = λ x log cell payload h. h;
    }
  where
    rises : (n k d : ℕ) → n ≤ k → k ≤ largest_64 → n ≤ min (k + d) largest_64
    rises n k d h g = omega arith

    bounded : (k d : ℕ) → min (k + d) largest_64 ≤ largest_64
    bounded k d = omega arith

-- The skipped total never falls. It is a 64-bit number, so it starts at most at its ceiling.
pub skipped_never_falls : (c : Call) (lent : Lent) (s : State) → s.receive.numbers.skipped ≤ largest_64 → s.receive.numbers.skipped ≤ (perform c lent s).state.receive.numbers.skipped
unfolding perform with_bytes
skipped_never_falls c lent s h =
    (call_keeps (NotBelow s.receive.numbers.skipped) (not_below_law _) _ _ _ c s (omega arith, h)).0

-- ---- the base

-- a delivery or a skip
abbrev pub moves_base : Mark → Bool
moves_base (put cell payload) = false
moves_base (base_set b) = false
moves_base (collected p) = false
moves_base (gap_skipped s time distance) = true
moves_base (delivered p) = true

abbrev StaysAt : ℕ → Receive → List Mark → Type 0
StaysAt b x log = any moves_base log ≡ false → next_receive_sequence x ≡ Some b

stays_law : (b : ℕ) → Law (StaysAt b)
unfolding any skip_to pass_run
stays_law b =
    record {
      sets_base = λ x log n e h k. none_some (sym e ∙ h k);
      retains = λ x log p e h k. h k;
      discards = λ x log p e h k. h k;
      skips = λ x log base p tested time d e g h k. not_both refl k;
      delivers = λ x log base p d e h k. not_both refl k;
      owns = λ x log id h k. h k;
      retires = λ x log p h k. h k;
      puts = λ x log cell payload h k. h k;
    }

-- Once set, the base moves only by delivery and skip: a call whose log has neither leaves it.
pub base_moves_only : (c : Call) (lent : Lent) (s : State) (b : ℕ) → next_receive_sequence s.receive ≡ Some b
    → any moves_base (perform c lent s).log ≡ false → next_receive_sequence (perform c lent s).state.receive ≡ Some b
unfolding perform with_bytes
base_moves_only c lent s b e = call_keeps (StaysAt b) (stays_law b) _ _ _ c s (λ k. e)
