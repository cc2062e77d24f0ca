-- The member in turn is one of the members.
use Rattle.std.specs.Prelude.{◌≡◌, Bool, not, List, ℕ, ◌+◌, ◌<◌, length, drop, None, Option, Some}
use Rattle.std.proofs.Math.Path.{refl}
use Rattle.std.proofs.Common.{sym, ◌∙◌, arith}
use Rattle.std.proofs.Math.ListN.{length-drop}
use Rattle.srt_group_model.specs.Tools.{if_some◌give◌otherwise◌, is_empty, place_of}
use Rattle.srt_group_model.specs.Laws.Reason.{some_inj}
use Rattle.srt_group_model.specs.State.{Member}
use Rattle.srt_group_model.specs.Collecting.{in_turn}
use Rattle.srt_connection_queue.specs.Laws.Tab.{place_below}
use Rattle.srt_connection_members.specs.Members.{members_of}
use Rattle.srt_connection_members.specs.Laws.Members.{members_length, found_some}

abbrev has_event : Member → Bool
has_event m = not (is_empty m.queue)

module _ (round : ℕ) (ms : List Member) where
  turn_below : (o d : Option ℕ) (i : ℕ) → place_of has_event (drop round ms) ≡ o → place_of has_event ms ≡ d
      → (if_some o give (λ j. Some (round + j)) otherwise d) ≡ Some i → i < length ms
  unfolding if_some◌give◌otherwise◌
  turn_below None d i p q e = place_below has_event ms i (q ∙ e)
  turn_below (Some j) d i p q e =
      let same : round + j ≡ i = some_inj e in
      omega (arith, same, place_below has_event (drop round ms) j p, length-drop round ms)

  in_turn_below : (i : ℕ) → Some i ≡ in_turn round ms → i < length ms
  unfolding in_turn
  in_turn_below i e =
      turn_below (place_of has_event (drop round ms)) (place_of has_event ms) i refl refl (found_some (in_turn round ms) i e)

pub in_turn_inside : {r : Option ℕ} (n round i : ℕ) (t : List ℕ) → r ≡ Some i → r ≡ in_turn round (members_of n t) → i < n
in_turn_inside n round i t there found = omega (arith, in_turn_below round (members_of n t) i (sym there ∙ found), members_length n t)
