-- A walk over the whole state: what the refresh, a collected event, a delivery and a skip each keep, the polls keep. For laws
-- that speak of members and held packets together, as the rules of validity do.
use Rattle.std.specs.Prelude.{◌≡◌, Bool, List, [], eqb, drop, None, Option, Some}
use Rattle.std.proofs.Math.Path.{subst}
use Rattle.std.proofs.Math.Bool.{true, false}
use Prim.Native.Nat.{ℕ, zero, suc, ◌%◌}
use Rattle.std.proofs.Math.ListN.{length}
use Rattle.srt_group_model.specs.Tools.{at_place, change}
use Rattle.srt_group_model.specs.Laws.Reason.{if_elim, if_some_elim, some_inj}
use Rattle.srt_group_model.specs.State.{Member, State, with_receive, with_base, with_members, with_waiting, with_continuation, with_round, next_send_sequence}
use Rattle.srt_group_model.specs.Members.{id_of, settle_members, requalify_members}
use Rattle.srt_group_model.specs.Nearest.{sequence_of, held_at, nearest}
use Rattle.srt_group_model.specs.Run.{Mark, Run, set_base, admit_connected_peer_groups, refresh_pending_states, refresh_states}
use Rattle.srt_group_model.specs.Collecting.{retain_group_packet, report_event, collect_member_event, front, Visited, take_front, collect_one_event, collect_until_held, Emptied, collect_until_empty, packet_from, waiting_from}
use Rattle.srt_group_model.specs.Delivery.{Poll, deliver_packet, deliver, skip_to, give_waiting, skip_after, max_visits, skip_given_up_gap}
use Rattle.srt_group_model.specs.Polls.{deliver_next, poll_event}
use Rattle.srt_group_model.specs.Laws.Queues.{pop, packet_of, waiting_of}
use Rattle.srt_group_model.specs.Laws.CallLaw.{InFront, reported, PollLaw, RefreshLaw, CollectLaw}
use Rattle.srt_group_model.specs.Laws.EveryCall.{admits_all, settles, requalifies, retains, breaks}
use Rattle.srt_group_model.specs.declared.Event.{Event}
use Rattle.srt_group_model.specs.declared.Packet.{Packet}

-- the state without the front event of the member at a place
abbrev pub popped : ℕ → State → State
popped i s = with_members (change i pop s.members) s

pub record StateLaw (Good : State → Type 0) : Type 0 where
  pub admits : (r : Run) → Good r.state → Good (admit_connected_peer_groups r).state
  pub settles : (s : State) → Good s → Good (with_members (settle_members s.making.mode (next_send_sequence s.send) s.members) s)
  pub requalifies : (s : State) → Good s → Good (with_members (requalify_members s.making.mode (next_send_sequence s.send) s.members) s)
  pub continues : (s : State) (b : Bool) → Good s → Good (with_continuation b s)
  pub turns : (s : State) (i : ℕ) (m : Member) → at_place i s.members ≡ Some m → Good s → Good (with_round (suc i % length s.members) s)
  pub takes : (s : State) (i : ℕ) (m : Member) (e : Event) → at_place i s.members ≡ Some m → front m.queue ≡ Some e
      → eqb e.kind 0 ≡ true → Good s → Good (retain_group_packet i (packet_of m e) (popped i s))
  pub reports : (s : State) (i : ℕ) (m : Member) (e : Event) → at_place i s.members ≡ Some m → front m.queue ≡ Some e
      → eqb e.kind 0 ≡ false → Good s → Good (report_event i (waiting_of m e) (popped i s))
  pub delivers : (s : State) (base : ℕ) (p : Packet) → held_at base s.receive.pending ≡ Some p → Good s → Good (deliver_packet base p s)
  pub skips : (s : State) (base : ℕ) (p : Packet) → nearest s.receive.pending ≡ Some p → Good s → Good (with_receive (skip_to base (sequence_of p) s.receive) s)
  pub bases : (s : State) (p : Packet) → nearest s.receive.pending ≡ Some p → Good s → Good (with_receive (with_base (sequence_of p) s.receive) s)
  pub gives : (s : State) → Good s → Good (with_waiting (drop 1 s.waiting) s)

-- laws that hold together
module _ (P Q : State → Type 0) (p : StateLaw P) (q : StateLaw Q) where
  pub both_laws : StateLaw (λ s. P s × Q s)
  both_laws =
      record {
        admits = λ r h. (p.admits r h.0, q.admits r h.1);
        settles = λ s h. (p.settles s h.0, q.settles s h.1);
        requalifies = λ s h. (p.requalifies s h.0, q.requalifies s h.1);
        continues = λ s b h. (p.continues s b h.0, q.continues s b h.1);
        turns = λ s i m at h. (p.turns s i m at h.0, q.turns s i m at h.1);
        takes = λ s i m e at f d h. (p.takes s i m e at f d h.0, q.takes s i m e at f d h.1);
        reports = λ s i m e at f d h. (p.reports s i m e at f d h.0, q.reports s i m e at f d h.1);
        delivers = λ s base x g h. (p.delivers s base x g h.0, q.delivers s base x g h.1);
        skips = λ s base x g h. (p.skips s base x g h.0, q.skips s base x g h.1);
        bases = λ s x g h. (p.bases s x g h.0, q.bases s x g h.1);
        gives = λ s h. (p.gives s h.0, q.gives s h.1);
      }

-- a law of what says the same
module _ (P Q : State → Type 0) (to : (s : State) → Q s → P s) (from : (s : State) → P s → Q s) where
  pub law_as : StateLaw P → StateLaw Q
  law_as p =
      record {
        admits = λ r h. from _ (p.admits r (to _ h));
        settles = λ s h. from _ (p.settles s (to _ h));
        requalifies = λ s h. from _ (p.requalifies s (to _ h));
        continues = λ s b h. from _ (p.continues s b (to _ h));
        turns = λ s i m at h. from _ (p.turns s i m at (to _ h));
        takes = λ s i m e at f d h. from _ (p.takes s i m e at f d (to _ h));
        reports = λ s i m e at f d h. from _ (p.reports s i m e at f d (to _ h));
        delivers = λ s base x g h. from _ (p.delivers s base x g (to _ h));
        skips = λ s base x g h. from _ (p.skips s base x g (to _ h));
        bases = λ s x g h. from _ (p.bases s x g (to _ h));
        gives = λ s h. from _ (p.gives s (to _ h));
      }

-- What every move of a poll keeps, these steps keep. A report is asked for however many wait; a delivery, a skip and a first base
-- at any base.
module _ (P : Option ℕ → State → List Mark → Type 0) (Good : State → Type 0) (law : RefreshLaw P) (collects : CollectLaw P) (polls : PollLaw P)
    (to : (s : State) (log : List Mark) → Good s → P None s log) (from : (s : State) (log : List Mark) → P None s log → Good s) where
  pub state_law_of : ((s : State) (i : ℕ) (m : Member) (e : Event) → InFront s i m e → eqb e.kind 0 ≡ false → Good s → Good (reported i m e s))
      → ((s : State) (base : ℕ) (p : Packet) → Good s → Good (deliver_packet base p s))
      → ((s : State) (base : ℕ) (p : Packet) → nearest s.receive.pending ≡ Some p → Good s → Good (with_receive (skip_to base (sequence_of p) s.receive) s))
      → ((s : State) (p : Packet) → nearest s.receive.pending ≡ Some p → Good s → Good (with_receive (with_base (sequence_of p) s.receive) s))
      → StateLaw Good
  state_law_of reports delivers skips bases =
      record {
        admits = λ r h. from _ _ (admits_all P law None r (to _ _ h));
        settles = λ s h. from _ [] (settles P law None [] s s.making.mode s.members (to s [] h));
        requalifies = λ s h. from _ [] (requalifies P law None [] s s.making.mode s.members (to s [] h));
        continues = λ s b h. from _ [] (collects.continues s b (to s [] h));
        turns = λ s i m at h. from _ [] (collects.turns s i m at (to s [] h));
        takes = λ s i m e at f d h. from _ _ (retains P law collects None [] s i m e record { stands = at; first = f } d (to s [] h));
        reports = λ s i m e at f d h. from _ [] (breaks P law None [] s i _ (to _ [] (reports s i m e record { stands = at; first = f } d h)));
        delivers = λ s base p g h. delivers s base p h;
        skips = skips;
        bases = bases;
        gives = λ s h. from _ [] (polls.gives s (to s [] h));
      }

module _ (Good : State → Type 0) (law : StateLaw Good) where
  abbrev Has : Run → Type 0
  Has r = Good r.state

  pub refresh_pending_has : (r : Run) → Has r → Has (refresh_pending_states r)
  unfolding refresh_pending_states
  refresh_pending_has r h = law.settles _ (law.admits r h)

  pub refresh_has : (r : Run) → Has r → Has (refresh_states r)
  unfolding refresh_states
  refresh_has r h = law.requalifies _ (refresh_pending_has r h)

  collect_member_has : (i id : ℕ) (e : Event) (r : Run)
      → (eqb e.kind 0 ≡ true → Good (retain_group_packet i (packet_from id e) r.state))
      → (eqb e.kind 0 ≡ false → Good (report_event i (waiting_from id e) r.state))
      → Has (collect_member_event i id e r)
  unfolding collect_member_event
  collect_member_has i id e r f g = if_elim Has _ _ _ (λ k. f k) (λ k. g k)

  take_front_has : (i : ℕ) (m : Member) (r : Run) → at_place i r.state.members ≡ Some m → Has r → Has (take_front i m r).run
  unfolding take_front
  take_front_has i m r at h =
      let turned = law.turns r.state i m at h in
      if_some_elim (λ (v : Visited). Has v.run) _ _ _
      (λ e g.
      if_elim (λ (v : Visited). Has v.run) _ _ _ (λ b. law.continues _ true turned)
      (λ b.
      collect_member_has i (id_of m) e _
      (λ k. law.takes (with_round (suc i % length r.state.members) r.state) i m e at g k turned)
      (λ k. law.reports (with_round (suc i % length r.state.members) r.state) i m e at g k turned)))
      (λ g. h)

  pub collect_one_has : (r : Run) → Has r → Has (collect_one_event r).run
  unfolding collect_one_event
  collect_one_has r h =
      if_some_elim (λ (v : Visited). Has v.run) _ _ _
      (λ i g. if_some_elim (λ (v : Visited). Has v.run) _ _ _ (λ m k. take_front_has i m r k h) (λ k. h))
      (λ g. h)

  pub until_held_has : (n : ℕ) (r : Run) → Has r → Has (collect_until_held n r)
  unfolding collect_until_held
  until_held_has zero r h = h
  until_held_has (suc n) r h =
      let more = law.continues _ _ (collect_one_has r h) in
      if_elim Has _ _ _ (λ e. h)
      (λ e.
      if_elim Has _ _ _ (λ g. collect_one_has r h)
      (λ g. if_elim Has _ _ _ (λ k. more) (λ k. until_held_has n _ more)))

  pub until_empty_has : (n sequence : ℕ) (r : Run) → Has r → Has (collect_until_empty n sequence r).run
  unfolding collect_until_empty
  until_empty_has zero sequence r h = law.continues _ _ h
  until_empty_has (suc n) sequence r h =
      if_elim (λ (v : Emptied). Has v.run) _ _ _ (λ e. h)
      (λ e.
      if_elim (λ (v : Emptied). Has v.run) _ _ _ (λ g. until_empty_has n sequence _ (collect_one_has r h))
      (λ g. collect_one_has r h))

  pub deliver_has : (base : ℕ) (r : Run) → Has r → Has (deliver base r).run
  unfolding deliver
  deliver_has base r h =
      if_some_elim (λ (q : Poll). Has q.run) _ _ _ (λ p g. law.delivers _ base p g h) (λ g. h)

  pub give_waiting_has : (r : Run) → Has r → Has (give_waiting r).run
  unfolding give_waiting
  give_waiting_has r h = if_some_elim (λ (q : Poll). Has q.run) _ _ _ (λ w g. law.gives _ h) (λ g. h)

  pub skip_has : (time base : ℕ) (r : Run) → Has r → Has (skip_given_up_gap time base r).run
  unfolding skip_given_up_gap skip_after
  skip_has time base r h =
      let emptied = until_empty_has max_visits base r h in
      if_elim (λ (q : Poll). Has q.run) _ _ _ (λ e. deliver_has base r h)
      (λ e.
      if_elim (λ (q : Poll). Has q.run) _ _ _ (λ g. give_waiting_has _ emptied)
      (λ g.
      if_elim (λ (q : Poll). Has q.run) _ _ _
      (λ k.
      if_some_elim (λ (q : Poll). Has q.run) _ _ _ (λ p m. deliver_has _ _ (law.skips _ base p m emptied)) (λ m. emptied))
      (λ k. deliver_has base _ emptied)))

  pub deliver_next_has : (time : ℕ) (r : Run) → Has r → Has (deliver_next time r).run
  unfolding deliver_next set_base
  deliver_next_has time r h =
      if_some_elim (λ (q : Poll). Has q.run) _ _ _ (λ base b. skip_has time base r h)
      (λ b.
      if_some_elim (λ (q : Poll). Has q.run) _ _ _
      (λ p g.
      deliver_has _ _
      (if_some_elim Has _ _ _ (λ n k. h)
      (λ k. if_some_elim Has (Some (sequence_of p)) _ _ (λ n e. subst (λ (x : ℕ). Good (with_receive (with_base x r.state.receive) r.state)) (some_inj e) (law.bases _ p g h)) (λ e. h))))
      (λ g. h))

  pub poll_event_has : (time : ℕ) (r : Run) → Has r → Has (poll_event time r).run
  unfolding poll_event
  poll_event_has time r h =
      let gathered = until_held_has max_visits _ (refresh_pending_has _ (law.continues _ false h)) in
      if_elim (λ (q : Poll). Has q.run) _ _ _ (λ e. give_waiting_has _ gathered)
      (λ e. deliver_next_has time _ (refresh_has _ gathered))
