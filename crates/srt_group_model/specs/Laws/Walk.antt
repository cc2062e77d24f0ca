-- Two narrower laws as instances of the one over every call: what the moves of receiving keep (Moves), every call keeps, and what the
-- moves of the queues keep (Queues), every poll keeps.
use Rattle.std.specs.Prelude.{refl, List, [], ℕ, None, Option}
use Rattle.std.proofs.Common.{subst}
use Rattle.srt_group_model.specs.Tools.{change}
use Rattle.srt_group_model.specs.State.{Member, Receive, State, on_leg, on_account}
use Rattle.srt_group_model.specs.Accounts.{reserve}
use Rattle.srt_group_model.specs.Legs.{release_data_reservation}
use Rattle.srt_group_model.specs.Members.{id_of}
use Rattle.srt_group_model.specs.Run.{Mark, delivered, Run}
use Rattle.srt_group_model.specs.Delivery.{deliver_packet}
use Rattle.srt_group_model.specs.Polls.{poll_event, poll_data_bounded}
use Rattle.srt_group_model.specs.Removal.{retire, take_out}
use Rattle.srt_group_model.specs.Guards.{Step}
use Rattle.srt_group_model.specs.Lent.{Call, step_of}
use Rattle.srt_group_model.specs.Laws.Moves.{Law}
use Rattle.srt_group_model.specs.Laws.Queues.{Relabelled, pop, packet_of, sums_relabelled, QueueLaw}
use Rattle.srt_group_model.specs.Laws.CallLaw.{PollLaw, CallLaw, Calling, RefreshLaw, CollectLaw}
use Rattle.srt_group_model.specs.Laws.EveryCall.{change_twice, polls_event, polls_data, step_keeps}
use Rattle.srt_group_model.specs.Laws.MemberMoves.{moved_relabelled}
use Rattle.srt_group_model.specs.Laws.Released.{deliver_relabelled}

module _ (I : Receive → List Mark → Type 0) (law : Law I) where
  abbrev pub Keeps : Step → Type 0
  Keeps x = I x.state.receive x.log

  pub receive_refreshes : RefreshLaw (λ hand s log. I s.receive log)
  receive_refreshes =
      record {
        moves = λ s i m f at move h. h;
        binds = λ s i m at a unbound h. h;
        sets_base = λ s b e source h. law.sets_base s.receive _ b e h;
      }

  pub receive_collects : CollectLaw (λ hand s log. I s.receive log)
  receive_collects =
      record {
        continues = λ s b h. h;
        turns = λ s i m at h. h;
        discards = λ s i m e f d g h. law.discards s.receive _ (packet_of m e) g h;
        holds = λ s i m e f d g h. law.retains s.receive _ (packet_of m e) g h;
        reports = λ s i m e f d few h. h;
      }

  pub receive_polls : PollLaw (λ hand s log. I s.receive log)
  unfolding deliver_packet
  receive_polls =
      record {
        gives = λ s h. h;
        skips = λ s base p tested time b n near h. law.skips s.receive _ base p tested time b n near h;
        delivers = λ s base p b e h. law.delivers s.receive _ base p b e h;
      }

  pub receive_law : (k : Calling) → CallLaw k (λ hand s log. I s.receive log)
  unfolding take_out retire
  receive_law k =
      record {
        refreshing = receive_refreshes;
        collecting = λ poll. receive_collects;
        polling = λ poll. receive_polls;
        joins = λ s id weight l queue is j h. h;
        leaves = λ s i m is at h. law.owns s.receive _ (id_of m) h;
        retires = λ s id base p is e h. law.retires s.receive _ p h;
        takes = λ payload takes free h. h;
        puts = λ s cell payload takes accepted short unused h. law.puts s.receive _ cell payload h;
        lets_go = λ s cell h. h;
        queues_data = λ s i m cell d payload is accepted at full unfit short h. h;
        queues_event = λ s i m id kind reason is at full some_kind known fits h. h;
        numbers = λ s sequence h. h;
        remembers = λ s i m e at next short fits h. h;
        trims = λ s l h. h;
      }

  pub call_keeps : (store output list : ℕ) (c : Call) (s : State) → I s.receive [] → Keeps (step_of store output list c s)
  call_keeps store output list c s h = step_keeps (λ hand s log. I s.receive log) store output list c s (receive_law _) h

module _ (J : List Member → List Mark → Type 0) (law : QueueLaw J) where
  abbrev KeptBy : Option ℕ → State → List Mark → Type 0
  KeptBy hand s log = J s.members log

  -- the front is taken, and then the sums change
  counts_after : (ms : List Member) (log : List Mark) (i : ℕ) (f : Member → Member) → ((m : Member) → Relabelled m (f m)) → J (change i pop ms) log → J (change i (λ x. f (pop x)) ms) log
  counts_after ms log i f g h =
      subst (λ (l : List Member). J l log) (change_twice i f pop ms) (law.relabels (change i pop ms) _ log (sums_relabelled i f (change i pop ms) g) h)

  pub queue_refreshes : RefreshLaw KeptBy
  queue_refreshes =
      record {
        moves = λ s i m f at move h. law.relabels s.members _ _ (moved_relabelled i m f s.members at move) h;
        binds = λ s i m at a unbound h. h;
        sets_base = λ s b e source h. law.marks s.members _ _ refl h;
      }

  pub queue_collects : CollectLaw KeptBy
  queue_collects =
      record {
        continues = λ s b h. h;
        turns = λ s i m at h. h;
        discards =
            λ s i m e f d g h.
            counts_after s.members _ i (on_leg (release_data_reservation e.content.count)) (λ x. record { id = refl; queue = refl; broken = λ b. b })
            (law.takes_data s.members _ i m e f.stands f.first d h);
        holds =
            λ s i m e f d g h.
            counts_after s.members _ i (on_account (reserve e.content.count)) (λ x. record { id = refl; queue = refl; broken = λ b. b })
            (law.takes_data s.members _ i m e f.stands f.first d h);
        reports = λ s i m e f d few h. law.takes_event s.members _ i m e f.stands f.first d h;
      }

  pub queue_polls : PollLaw KeptBy
  queue_polls =
      record {
        gives = λ s h. h;
        skips = λ s base p tested time b n near h. law.marks s.members _ _ refl h;
        delivers = λ s base p b e h. law.marks _ _ (delivered p) refl (law.relabels s.members _ _ (deliver_relabelled base p s) h);
      }

  pub poll_event_kept : (time : ℕ) (r : Run) → J r.state.members r.log → J (poll_event time r).run.state.members (poll_event time r).run.log
  poll_event_kept time r h = polls_event KeptBy queue_refreshes queue_collects queue_polls None time r h

  pub poll_data_kept : (time max_events : ℕ) (r : Run) → J r.state.members r.log
      → J (poll_data_bounded time max_events r).run.state.members (poll_data_bounded time max_events r).run.log
  poll_data_kept time max_events r h = polls_data KeptBy queue_refreshes queue_collects queue_polls None time max_events r h
