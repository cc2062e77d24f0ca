-- Every skip is right: it was made in a poll, at that poll's time, of the state that the poll had when it made the test; that
-- state's base was set and not held, and no continuation was asked for; the give-up test was true for the packet nearest in it.
-- The test is made once, before collecting. After collecting the base was still not held; the call delivers the packet then
-- nearest, and ends with empty leg queues and no event waiting.
use Rattle.std.specs.Prelude.{◌≡◌, refl, Bool, true, ◌||◌, ◌⊎◌, List, [], ◌∷◌, ℕ, None, Option, Some}
use Rattle.std.proofs.Common.{sym, subst, inl, inr}
use Rattle.srt_protocol.specs.Sequence.{sequence_further}
use Rattle.srt_group_model.specs.State.{State, next_receive_sequence}
use Rattle.srt_group_model.specs.Nearest.{sequence_of, nearest}
use Rattle.srt_group_model.specs.Run.{Mark, put, base_set, collected, gap_skipped, delivered}
use Rattle.srt_group_model.specs.Delivery.{gap_given_up, leg_gives_up}
use Rattle.srt_group_model.specs.declared.Packet.{Packet}
use Rattle.srt_group_model.specs.Tools.{All, all}
use Rattle.srt_group_model.specs.Laws.Reason.{if_some_elim, not_both}
use Rattle.srt_group_model.specs.Lent.{delivered_by}
use Rattle.srt_group_model.specs.Legs.{is_disconnected}
use Rattle.srt_group_traces.specs.Statement.{When, when_of, Asked, do_call, Marked, RightSkip}
use Rattle.srt_group_traces.specs.Laws.Sides.{Side, all_members}
use Rattle.srt_group_traces.specs.Laws.Shape.{Quiet, Skip, Shape, call_shape}
use Rattle.srt_group_traces.specs.Laws.Marks.{marked_all}

-- The give-up test was true for the packet nearest then: all legs are disconnected (with no members too), or the packet's leg, where
-- it is gone the first, gives up on it by then.
pub record GivenUp (time : ℕ) (tested : State) : Type 0 where
  pub nearest_then : Packet
  pub is : nearest tested.receive.pending ≡ Some nearest_then
  pub passed : (all (λ m. is_disconnected m.leg) tested.members || leg_gives_up time nearest_then tested.members) ≡ true

pub given_up_for_nearest : (time : ℕ) (tested : State) → gap_given_up time tested ≡ true → GivenUp time tested
unfolding gap_given_up
given_up_for_nearest time tested =
    if_some_elim (λ (t : Bool). t ≡ true → GivenUp time tested) (nearest tested.receive.pending) _ _
    (λ p e f. record { nearest_then = p; is = e; passed = f }) (λ e f. not_both {t = true} refl (sym f))

pub right_skip : {when : When} {p : Packet} {s : State} {log : List Mark} (skip : Skip when p s log)
    → next_receive_sequence s.receive ≡ Some (sequence_further (sequence_of p) p.content.count)
    → RightSkip when (Some p) s skip.tested when.time skip.distance
right_skip {when} {p} {s} skip past =
    record {
      in_time = refl;
      gathered = skip.gathered;
      base = skip.base;
      at_test = skip.at_test;
      based = skip.based;
      missing = skip.missing;
      complete = skip.complete;
      given_up = skip.given_up;
      still_missing = skip.still_missing;
      given = p;
      nearest_now = skip.nearest_now;
      far = skip.far;
      gives = refl;
      past = past;
      empty = all_members (λ (v : Side). v.queue ≡ []) s.members skip.empty;
      none_waiting = skip.none_waiting;
    }

-- of a mark: if it is a skip, it is right
abbrev Right : When → Option Packet → State → Mark → Type 0
Right when gave s (put cell payload) = Unit {0}
Right when gave s (base_set base) = Unit {0}
Right when gave s (collected p) = Unit {0}
Right when gave s (gap_skipped tested time distance) = RightSkip when gave s tested time distance
Right when gave s (delivered p) = Unit {0}

quiet_right : (when : When) (gave : Option Packet) (s : State) (log : List Mark) → Quiet log → All (Right when gave s) log
quiet_right when gave s [] h = tt
quiet_right when gave s (put cell payload ∷ log) h = (tt, quiet_right when gave s log h.1)
quiet_right when gave s (base_set base ∷ log) h = (tt, quiet_right when gave s log h.1)
quiet_right when gave s (collected p ∷ log) h = (tt, quiet_right when gave s log h.1)
quiet_right when gave s (gap_skipped tested time distance ∷ log) h = absurd h.0
quiet_right when gave s (delivered p ∷ log) h = absurd h.0

shape_right : (when : When) (o : Option Packet) (s : State) (log : List Mark) → Shape when o s log → All (Right when o s) log
shape_right when None s log h = quiet_right when None s log h
shape_right when (Some p) s log h = subst (All (Right when (Some p) s)) (sym h.is) (tt, go h.how)
  where
    go : Quiet h.before ⊎ Skip when p s h.before → All (Right when (Some p) s) h.before
    go (inl quiet) = quiet_right when (Some p) s h.before quiet
    go (inr skip) =
        subst (All (Right when (Some p) s)) (sym skip.is)
        (right_skip skip h.past, quiet_right when (Some p) s skip.before skip.quiet)

pub skips_claim : (call : Asked) (s : State) (tested : State) (time distance : ℕ) (older : List Mark)
    → Marked (do_call call s).log (gap_skipped tested time distance) older
    → RightSkip (when_of call.call s) (delivered_by (do_call call s).answer) (do_call call s).state tested time distance
skips_claim call s tested time distance older at =
    marked_all (Right (when_of call.call s) (delivered_by (do_call call s).answer) (do_call call s).state) (do_call call s).log
    (shape_right (when_of call.call s) (delivered_by (do_call call s).answer) (do_call call s).state (do_call call s).log (call_shape call s))
    (gap_skipped tested time distance) older at
