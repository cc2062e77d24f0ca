-- A send leaves all of receiving, its refresh included, but that the refresh may set the base: the frame that demand 3 asks of sends. An
-- instance of the law of calls.
use Rattle.std.specs.Prelude.{◌≡◌, refl, true, false, List, ℕ, eqb, Option, Some}
use Rattle.std.proofs.Common.{sym, ap, ◌∙◌}
use Rattle.srt_group_model.specs.State.{State, next_receive_sequence}
use Rattle.srt_group_model.specs.Run.{Mark}
use Rattle.srt_group_model.specs.Lent.{call_send, step_of}
use Rattle.srt_group_model.specs.Laws.Reason.{not_both, none_some, EachTo, each_to_same, each_to_then}
use Rattle.srt_group_model.specs.Laws.CallLaw.{Calling, Polls, polls_events, polls_packets, RefreshLaw, CallLaw}
use Rattle.srt_group_model.specs.Laws.EveryCall.{step_keeps}
use Rattle.srt_group_model.specs.Laws.MemberMoves.{SameAccount, same_account, account_then, moved_accounts}
use Rattle.srt_group_model.specs.Calls.{send}

pub record LeavesReceiving (s t : State) : Type 0 where
  pub making : t.making ≡ s.making
  -- a peer group, once the group is bound to it; a base, once it is set
  pub peer : eqb s.peer 0 ≡ false → t.peer ≡ s.peer
  pub base : (b : ℕ) → next_receive_sequence s.receive ≡ Some b → t.receive ≡ s.receive
  pub skipped : t.receive.numbers.skipped ≡ s.receive.numbers.skipped
  pub pending : t.receive.pending ≡ s.receive.pending
  pub visit : t.visit ≡ s.visit
  pub own : t.own ≡ s.own
  pub waiting : t.waiting ≡ s.waiting
  -- of each member id, queue, sums, the peer's first sequence; and Broken stays
  pub members : EachTo SameAccount s.members t.members

module _ (s : State) where
  abbrev Left : Option ℕ → State → List Mark → Type 0
  Left hand t log = LeavesReceiving s t

  left_refresh : RefreshLaw Left
  left_refresh =
      record {
        moves =
            λ t i m f at move h.
            record {
              making = h.making;
              peer = h.peer;
              base = h.base;
              skipped = h.skipped;
              pending = h.pending;
              visit = h.visit;
              own = h.own;
              waiting = h.waiting;
              members = each_to_then SameAccount account_then s.members t.members _ h.members (moved_accounts i m f t.members at move);
            };
        binds =
            λ t i m at a unbound h.
            record {
              making = h.making;
              peer = λ bound. not_both (ap (λ (n : ℕ). eqb n 0) (sym (h.peer bound)) ∙ unbound) bound;
              base = h.base;
              skipped = h.skipped;
              pending = h.pending;
              visit = h.visit;
              own = h.own;
              waiting = h.waiting;
              members = h.members;
            };
        sets_base =
            λ t b unset source h.
            record {
              making = h.making;
              peer = h.peer;
              base = λ c e. none_some (sym unset ∙ ap next_receive_sequence (h.base c e) ∙ e);
              skipped = h.skipped;
              pending = h.pending;
              visit = h.visit;
              own = h.own;
              waiting = h.waiting;
              members = h.members;
            };
      }

  module _ (k : Calling) (time : ℕ) (payload : List ℕ) (send : k.call ≡ call_send time payload) where
    no_poll : Polls k.call → ⊥
    no_poll (polls_events t is) = not_both {t = true} refl cc
    no_poll (polls_packets t n is) = not_both {t = true} refl cc

    left_moves : CallLaw k Left
    left_moves =
        record {
          refreshing = left_refresh;
          collecting = λ poll. absurd (no_poll poll);
          polling = λ poll. absurd (no_poll poll);
          joins = λ t id weight l queue is j h. not_both {t = true} refl cc;
          leaves = λ t i m is at h. not_both {t = true} refl cc;
          retires = λ t id base p is e h. not_both {t = true} refl cc;
          takes = λ payload takes free h. h;
          puts = λ t cell payload takes accepted short unused h. h;
          lets_go = λ t cell h. h;
          queues_data = λ t i m cell d payload is accepted at full unfit short h. not_both {t = true} refl cc;
          queues_event = λ t i m id kind reason is at full some_kind known fits h. not_both {t = true} refl cc;
          numbers =
              λ t sequence h.
              record { making = h.making; peer = h.peer; base = h.base; skipped = h.skipped; pending = h.pending; visit = h.visit; own = h.own; waiting = h.waiting; members = h.members };
          remembers =
              λ t i m e at next short fits h.
              record { making = h.making; peer = h.peer; base = h.base; skipped = h.skipped; pending = h.pending; visit = h.visit; own = h.own; waiting = h.waiting; members = h.members };
          trims =
              λ t l h.
              record { making = h.making; peer = h.peer; base = h.base; skipped = h.skipped; pending = h.pending; visit = h.visit; own = h.own; waiting = h.waiting; members = h.members };
        }

pub send_leaves_receiving : (store list time : ℕ) (payload : List ℕ) (s : State) → LeavesReceiving s (send store list time payload s).state
unfolding step_of
send_leaves_receiving store list time payload s =
    step_keeps (Left s) store 0 list (call_send time payload) s (left_moves s _ time payload refl)
    record {
      making = refl;
      peer = λ e. refl;
      base = λ b e. refl;
      skipped = refl;
      pending = refl;
      visit = refl;
      own = refl;
      waiting = refl;
      members = each_to_same SameAccount same_account s.members;
    }
