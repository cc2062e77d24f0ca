-- No readiness test moves what the group was made as: its id, its mode and its store's length. An instance of the law of calls.
use Rattle.std.specs.Prelude.{◌≡◌, refl, true, List, ℕ, None, Option, Some}
use Rattle.std.proofs.Common.{ap, ◌∙◌}
use Rattle.srt_group_model.specs.State.{State, Making}
use Rattle.srt_group_model.specs.Guards.{Answer}
use Rattle.srt_group_model.specs.Run.{Mark}
use Rattle.srt_group_model.specs.Lent.{Lent, Call, call_remove_member_connection, call_can_send, call_can_send_with_pacing, perform}
use Rattle.srt_group_model.specs.Laws.Reason.{not_both}
use Rattle.srt_group_model.specs.Laws.CallLaw.{Calling, called, Polls, polls_events, polls_packets, RefreshLaw, CallLaw}
use Rattle.srt_group_model.specs.Laws.EveryCall.{call_keeps}
use Rattle.srt_group_shown.specs.Tables.{Tables, state_of}
use Rattle.srt_group_shown.specs.Ready.{Performs}
use Rattle.srt_group.specs.declared.Group.{Group}
use Rattle.srt_group.specs.Made.{parts_of}
use Rattle.srt_group_send.specs.Readiness.{call_paced}

module _ (s : State) where
  abbrev Made : Option ℕ → State → List Mark → Type 0
  Made hand t log = t.making ≡ s.making

  made_refresh : RefreshLaw Made
  made_refresh =
      record { moves = λ t i m f at move h. h; binds = λ t i m at a unbound h. h; sets_base = λ t b unset source h. h }

  module _ (k : Calling) (no_poll : Polls k.call → ⊥) (no_removal : (id : ℕ) → k.call ≡ call_remove_member_connection id → ⊥) where
    made_moves : CallLaw k Made
    made_moves =
        record {
          refreshing = made_refresh;
          collecting = λ poll. absurd (no_poll poll);
          polling = λ poll. absurd (no_poll poll);
          joins = λ t id weight l queue is j h. h;
          leaves = λ t i m is at h. absurd (no_removal _ is);
          retires = λ t id base p is e h. absurd (no_removal id is);
          takes = λ payload takes free h. h;
          puts = λ t cell payload takes accepted short unused h. h;
          lets_go = λ t cell h. h;
          queues_data = λ t i m cell d payload is accepted at full unfit short h. h;
          queues_event = λ t i m id kind reason is at full some_kind known fits h. h;
          numbers = λ t sequence h. h;
          remembers = λ t i m e at next short fits h. h;
          trims = λ t l h. h;
        }

-- no test polls
no_poll : {c : Call} → (c ≡ call_can_send) → Polls c → ⊥
no_poll test (polls_events t is) = not_both {t = true} refl cc
no_poll test (polls_packets t n is) = not_both {t = true} refl cc

no_paced_poll : {c : Call} {time : ℕ} → (c ≡ call_can_send_with_pacing time) → Polls c → ⊥
no_paced_poll test (polls_events t is) = not_both {t = true} refl cc
no_paced_poll test (polls_packets t n is) = not_both {t = true} refl cc

pub tests_making : (pacing : Option ℕ) (lent : Lent) (s : State) → (perform (call_paced pacing) lent s).state.making ≡ s.making
tests_making None lent s =
    call_keeps (Made s) call_can_send lent s (made_moves s (called call_can_send lent s) (no_poll refl) (λ id is. not_both {t = true} refl cc)) refl
tests_making (Some time) lent s =
    call_keeps (Made s) (call_can_send_with_pacing time) lent s
    (made_moves s (called (call_can_send_with_pacing time) lent s) (no_paced_poll refl) (λ id is. not_both {t = true} refl cc)) refl

-- so a record that a test leaves has the identity of the one before
pub tests_identity : (pacing : Option ℕ) {g g' : Group} {t t' : Tables} {bytes bytes' : Lent} {used' : List ℕ} {number : ℕ} {given : Answer}
    → Performs (call_paced pacing) (parts_of g) t bytes number given (parts_of g') t' bytes' used' → g'.identity ≡ g.identity
tests_identity pacing {g} {t = t} {bytes = bytes} done =
    let making = ap (λ (s : State). s.making) done.state ∙ tests_making pacing bytes (state_of (parts_of g) t) in
    ap (λ (m : Making). record { id = m.id; length = m.length }) making
