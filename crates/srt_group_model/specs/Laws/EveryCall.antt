-- The one walk over every call: what each move of CallLaw keeps, every call keeps.
use Rattle.std.specs.Prelude.{◌≡◌, Bool, ◌&&◌, None, Option, Some}
use Rattle.std.proofs.Math.Path.{refl, sym, ap, subst}
use Rattle.std.proofs.Common.{◌∙◌, arith, eqb-true, ltb-false, leb-false}
use Rattle.std.proofs.Math.Bool.{true, false, not}
use mathlib.Core.List.{List, [], ◌∷◌, ◌++◌, append_assoc}
use Prim.Native.Nat.{ℕ, zero, suc, ◌+◌, ◌%◌, ◌≤◌, ◌<◌}
use Rattle.std.proofs.lemmas.Bool.{not-false}
use Rattle.std.proofs.Math.Dec.{eqb}
use Rattle.std.proofs.Math.ListN.{length}
use Rattle.srt_protocol.specs.Cells.{cell_size, cells_of}
use Rattle.srt_protocol.specs.Sequence.{sequence_further}
use Rattle.srt_group_model.specs.Tools.{is_empty, first_such, place_of, at_place, change, each, All}
use Rattle.srt_group_model.specs.Laws.Reason.{if_elim, if_some_elim, by_test, not_both, and_left, and_right, or_left, or_right, none_some, some_inj, each_to_at, at_change, first_such_of}
use Rattle.srt_group_model.specs.State.{Member, Receive, Send, State, is_backup, next_receive_sequence, next_send_sequence, with_receive, with_send, with_members, with_peer, with_base, with_round, with_leg, on_leg, turned, pending_state, active_state, standby_state, unstable_state, broken_state, with_waiting, entry_of}
use Rattle.srt_group_model.specs.Legs.{largest_16, largest_32, largest_64, handed, goes_back, is_connected, can_send, disconnect_leg, peer_initial_sequence, send_shared_with_sequence}
use Rattle.srt_group_model.specs.Members.{id_of, has_id, find, in_state, is_active, is_standby, promote_backup_member, promote_if_none, arrives, base_after, peer_after, admit_peer_group, align_member_sequence, steps_from, turn_aligned, settle, requalify, settle_members, break_disconnected, requalify_members}
use Rattle.srt_group_model.specs.Nearest.{sequence_of, nearest, insert}
use Rattle.srt_group_model.specs.Laws.Arrivals.{base_after_elim, peer_after_elim}
use Rattle.srt_group_model.specs.Run.{Mark, put, base_set, collected, Run, start, set_base, admit_connected_peer_groups, refresh_pending_states, refresh_states}
use Rattle.srt_group_model.specs.Collecting.{retain_group_packet, report_event, collect_member_event, Visited, take_front, collect_one_event, collect_until_held, Emptied, collect_until_empty}
use Rattle.srt_group_model.specs.Delivery.{Polled, nothing, event, packet, Poll, deliver, give_waiting, skip_after, max_visits, skip_given_up_gap}
use Rattle.srt_group_model.specs.Polls.{deliver_next, poll_event, DataPoll, pass_events, poll_until_data, poll_data_bounded}
use Rattle.srt_group_model.specs.Removal.{take_out, remove_member_at}
use Rattle.srt_group_model.specs.Sending.{Flow, ends_with, ◌and_then◌, mark_send_failure, attempt_send, send_broadcast, with_send_number}
use Rattle.srt_group_model.specs.Backup.{demote_stale_backup_carrier, trim_by_carrier, append_history, record_backup_send, Replayed, replay_entries, put_leg, replay_on, replay_flight, align_carrier, take_over_backup_flight, send_own, send_after_promotion, send_at_place, send_backup}
use Rattle.srt_group_model.specs.Validity.{above, max_members, max_waiting, leg_out_of_range}
use Rattle.srt_group_model.specs.Guards.{Step, Check, guard}
use Rattle.srt_group_model.specs.Calls.{breaks_rule, of_member, change_member, no_free_cell, taken_cell, new_member, add_body, add_member, mark_member_broken, remove_body, remove_member_connection, refresh_member_states, disconnect, event_poll_body, poll_event_call, data_poll_body, poll_data_call, left_by_send, send_flow, send_body, send, can_send_body, can_send_call, can_send_with_pacing_body, can_send_with_pacing_call, read_leg, queue_full, data_unfit, queue_data_body, queue_data, queue_event}
use Rattle.srt_group_model.specs.Lent.{Lent, Call, call_add_member, call_mark_member_broken, call_remove_member_connection, call_refresh_member_states, call_disconnect, call_poll_event, call_poll_data_bounded, call_send, call_can_send, call_can_send_with_pacing, call_look, call_read_leg, call_queue_data, call_queue_event, with_bytes, step_of, perform}
use Rattle.srt_group_model.specs.Laws.Refusals.{guard_elim, guard_passed, look_elim}
use Rattle.srt_group_model.specs.Laws.Frame.{Kept, align_kept, promotion_standby, not_broken, place_passes, active_not_broken, ActiveAt, first_active_at, take_over_active, found_stands, trim_members, take_over_kept}
use Rattle.srt_group_model.specs.Laws.Moves.{AtBase, NotHeld, until_empty_base, until_empty_not_held, skip_base, set_base_base}
use Rattle.srt_group_model.specs.Laws.Queues.{pop, packet_of}
use Rattle.srt_group_model.specs.Laws.Waits.{waits, FewWait, none_waits, collect_one_waits, refresh_waits}
use Rattle.srt_group_model.specs.Laws.CallLaw.{MemberMove, unmoved, turn, admission, colliding, alignment, catching_up, leg_send, leg_end, leg_reading, Joining, BaseSource, first_of, nearest_held, InFront, PollLaw, CallLaw, RefreshLaw, CollectLaw, Calling, calling, called, polls_events, polls_packets, queues_it, sends_it}
use Rattle.srt_group_model.specs.declared.Data.{Data}
use Rattle.srt_group_model.specs.declared.Event.{Event}
use Rattle.srt_group_model.specs.declared.Entry.{Entry}
use Rattle.srt_group_model.specs.declared.Packet.{Packet}
use Rattle.srt_group_model.specs.declared.Leg.{Leg}
use Rattle.srt_group_model.specs.declared.Membership.{Membership}
use Rattle.srt_group_model.specs.Laws.Released.{retirements_keep}
use Rattle.srt_group_model.specs.Cells.{used_cells, is_among}
use Rattle.srt_group_model.specs.Laws.InHand.{Unnamed, unnamed_moves, unnamed_unused}
use Rattle.srt_group_model.specs.declared.Waiting.{Waiting}

-- ---- places of a list

by_option : {A B : Type 0} (o : Option A) → ((a : A) → o ≡ Some a → B) → (o ≡ None → B) → B
by_option None f g = g refl
by_option (Some a) f g = f a refl

change_past : (i : ℕ) (f : Member → Member) (ms : List Member) → at_place i ms ≡ None → change i f ms ≡ ms
unfolding at_place change
change_past zero f [] e = refl
change_past (suc i) f [] e = refl
change_past zero f (m ∷ ms) e = none_some (sym e)
change_past (suc i) f (m ∷ ms) e = ap (λ (l : List Member). m ∷ l) (change_past i f ms e)

pub change_twice : (i : ℕ) (f g : Member → Member) (ms : List Member) → change i f (change i g ms) ≡ change i (λ x. f (g x)) ms
unfolding change
change_twice zero f g [] = refl
change_twice (suc i) f g [] = refl
change_twice zero f g (m ∷ ms) = refl
change_twice (suc i) f g (m ∷ ms) = ap (λ (l : List Member). m ∷ l) (change_twice i f g ms)

-- the one member of a list
one_place : (m x : Member) (i : ℕ) → at_place i (m ∷ []) ≡ Some x → m ≡ x
unfolding at_place
one_place m x zero e = some_inj e
one_place m x (suc i) e = none_some e

at_end : (done : List Member) (m : Member) (rest : List Member) → at_place (length done) (done ++ (m ∷ rest)) ≡ Some m
unfolding at_place
at_end [] m rest = refl
at_end (x ∷ done) m rest = at_end done m rest

change_end : (f : Member → Member) (done : List Member) (m : Member) (rest : List Member) → change (length done) f (done ++ (m ∷ rest)) ≡ done ++ (f m ∷ rest)
unfolding change
change_end f [] m rest = refl
change_end f (x ∷ done) m rest = ap (λ (l : List Member). x ∷ l) (change_end f done m rest)

-- ---- the member that a call names

pub record Found (id : ℕ) (ms : List Member) (i : ℕ) : Type 0 where
  pub member : Member
  pub stands : at_place i ms ≡ Some member
  pub first : first_such (has_id id) ms ≡ Some member

pub found : (id : ℕ) (ms : List Member) (i : ℕ) → find id ms ≡ Some i → Found id ms i
unfolding place_of at_place first_such
found id [] i = λ g. none_some g
found id (m ∷ ms) i =
    if_elim (λ (o : Option ℕ). o ≡ Some i → Found id (m ∷ ms) i) _ _ _
    (λ e g. subst (Found id (m ∷ ms)) (some_inj g) record { member = m; stands = refl; first = here e })
    (λ e.
    if_some_elim (λ (o : Option ℕ). o ≡ Some i → Found id (m ∷ ms) i) _ _ _
    (λ k f g.
    let rest = found id ms k f in
    subst (Found id (m ∷ ms)) (some_inj g) record { member = rest.member; stands = rest.stands; first = later e ∙ rest.first })
    (λ f g. none_some g))
  where
    here : has_id id m ≡ true → first_such (has_id id) (m ∷ ms) ≡ Some m
    here e = if_elim (λ (o : Option Member). o ≡ Some m) (has_id id m) _ _ (λ g. refl) (λ g. not_both e g)

    later : has_id id m ≡ false → first_such (has_id id) (m ∷ ms) ≡ first_such (has_id id) ms
    later e = if_elim (λ (o : Option Member). o ≡ first_such (has_id id) ms) (has_id id m) _ _ (λ g. not_both g e) (λ g. refl)

-- what a guard says of it
of_found : (id : ℕ) (test : Member → Bool) (s : State) (m : Member) → of_member id test s ≡ false → first_such (has_id id) s.members ≡ Some m → test m ≡ false
unfolding of_member
of_found id test s m =
    if_some_elim (λ (b : Bool). b ≡ false → first_such (has_id id) s.members ≡ Some m → test m ≡ false) _ _ _
    (λ x e g f. ap test (some_inj (sym f ∙ e)) ∙ g) (λ e g f. none_some (sym e ∙ f))

any_members : (ms : List Member) → All (λ (m : Member). Unit {0}) ms
any_members [] = tt
any_members (m ∷ ms) = (tt, any_members ms)

named : (X : State → Type 0) (id : ℕ) (f : Member → Member) (s : State)
    → ((i : ℕ) (m : Member) → at_place i s.members ≡ Some m → first_such (has_id id) s.members ≡ Some m → X (with_members (change i f s.members) s))
    → X s → X (change_member id f s)
unfolding change_member
named X id f s g h =
    if_some_elim X _ _ _ (λ i e. let m = found id s.members i e in g i m.member m.stands m.first) (λ e. h)

-- a leg sends at its next number only
at_next : (time size sequence : ℕ) (l k : Leg) → send_shared_with_sequence time size sequence l ≡ Some k → sequence ≡ l.sender.next
unfolding send_shared_with_sequence
at_next time size sequence l k =
    if_elim (λ (o : Option Leg). o ≡ Some k → sequence ≡ l.sender.next) _ _ _
    (λ e g. eqb-true sequence l.sender.next (and_left (eqb sequence l.sender.next) _ (and_right (can_send l) _ e))) (λ e g. none_some g)

set_base_send : (o : Option ℕ) (r : Run) → (set_base o r).state.send ≡ r.state.send
unfolding set_base
set_base_send o r =
    if_some_elim (λ (x : Run). x.state.send ≡ r.state.send) _ _ _ (λ b e. refl)
    (λ e. if_some_elim (λ (x : Run). x.state.send ≡ r.state.send) _ _ _ (λ b g. refl) (λ g. refl))

pub refresh_mode : (r : Run) → (refresh_states r).state.making.mode ≡ r.state.making.mode
unfolding refresh_states refresh_pending_states admit_connected_peer_groups set_base
refresh_mode r =
    if_some_elim (λ (q : Run). q.state.making.mode ≡ r.state.making.mode) (next_receive_sequence r.state.receive) _ _ (λ b e. refl)
    (λ e. if_some_elim (λ (q : Run). q.state.making.mode ≡ r.state.making.mode) (base_after None r.state.members) _ _ (λ b e. refl) (λ e. refl))

admission_move : (s : State) (m : Member) → MemberMove s m (admit_peer_group s.peer m)
unfolding admit_peer_group
admission_move s m =
    if_elim (MemberMove s m) _ _ _ (λ e. if_elim (MemberMove s m) _ _ _ (λ g. admission e) (λ g. colliding e)) (λ e. unmoved)

module _ (P : Option ℕ → State → List Mark → Type 0) (law : RefreshLaw P) where
  -- ---- members

  module _ (hand : Option ℕ) (log : List Mark) (s : State) where
    abbrev Having : List Member → Type 0
    Having ms = P hand (with_members ms s) log

    moves_at : (i : ℕ) (f : Member → Member) (ms : List Member) → ((m : Member) → at_place i ms ≡ Some m → MemberMove (with_members ms s) m (f m)) → Having ms → Having (change i f ms)
    moves_at i f ms g h =
        by_option (at_place i ms) (λ m at. law.moves (with_members ms s) i m f at (g m at) h)
        (λ at. subst Having (sym (change_past i f ms at)) h)

    moves_each : (f : Member → Member) → ((ms : List Member) (m : Member) → MemberMove (with_members ms s) m (f m)) → (done rest : List Member) → Having (done ++ rest) → Having (done ++ each f rest)
    unfolding each
    moves_each f g done [] h = h
    moves_each f g done (m ∷ rest) h =
        subst Having (append_assoc done (f m ∷ []) (each f rest))
        (moves_each f g (done ++ (f m ∷ [])) rest
        (subst Having (change_end f done m rest ∙ sym (append_assoc done (f m ∷ []) rest))
        (moves_at (length done) f (done ++ (m ∷ rest)) (λ x at. g _ x) h)))

    promotes : (ms : List Member) → Having ms → Having (promote_backup_member ms)
    unfolding promote_backup_member is_standby
    promotes ms h =
        if_some_elim Having _ _ _
        (λ i e.
        moves_at i (turned active_state) ms
        (λ m at. turn active_state (omega arith) (λ b. not_both b (not_broken m standby_state (and_left _ _ (promotion_standby ms i e m at)) refl))) h)
        (λ e. h)

    promotes_if_none : (mode : ℕ) (ms : List Member) → Having ms → Having (promote_if_none mode ms)
    unfolding promote_if_none
    promotes_if_none mode ms h = if_elim Having _ _ _ (λ e. promotes ms h) (λ e. h)

    aligns : (i : ℕ) (ms ns : List Member) → align_member_sequence (next_send_sequence s.send) i ms ≡ Some ns → Having ms → Having ns
    unfolding align_member_sequence
    aligns i ms ns =
        if_some_elim (λ (o : Option (List Member)). o ≡ Some ns → Having ms → Having ns) _ _ _
        (λ m at.
        if_some_elim (λ (o : Option (List Member)). o ≡ Some ns → Having ms → Having ns) _ _ _
        (λ sequence source.
        if_some_elim (λ (o : Option (List Member)). o ≡ Some ns → Having ms → Having ns) _ _ _
        (λ l g e h. subst Having (some_inj e) (law.moves (with_members ms s) i m (with_leg l) at (alignment sequence l source g) h))
        (λ g e h. none_some e))
        (λ source e h. subst Having (some_inj e) h))
        (λ at e h. none_some e)

    turns_aligned : (test : Member → Bool) (state : List Member → ℕ) → ((m : Member) → test m ≡ true → in_state broken_state m ≡ false)
        → ((ms : List Member) → state ms ≤ 4) → (i : ℕ) (ms : List Member) → Having ms → Having (turn_aligned test state (next_send_sequence s.send) i ms)
    unfolding turn_aligned
    turns_aligned test state whole fits i ms h =
        if_some_elim Having _ _ _
        (λ m at.
        if_elim Having _ _ _
        (λ t.
        if_some_elim Having _ _ _
        (λ ns g.
        moves_at i _ ns
        (λ n there.
        turn (state ns) (fits ns)
        (λ b.
        not_both b
        (ap (λ (x : Membership). eqb x.state broken_state) (each_to_at Kept ms ns (align_kept _ i ms ns g) i m n at there).membership ∙ whole m t)))
        (aligns i ms ns g h))
        (λ g. h))
        (λ t. h))
        (λ at. h)

    steps : (step : ℕ → List Member → List Member) → ((i : ℕ) (ms : List Member) → Having ms → Having (step i ms)) → (k i : ℕ) (ms : List Member) → Having ms → Having (steps_from step k i ms)
    unfolding steps_from
    steps step g zero i ms h = h
    steps step g (suc k) i ms h = steps step g k (suc i) (step i ms) (g i ms h)

    pub settles : (mode : ℕ) (ms : List Member) → Having ms → Having (settle_members mode (next_send_sequence s.send) ms)
    unfolding settle_members settle
    settles mode ms h =
        promotes_if_none mode _
        (steps (settle mode (next_send_sequence s.send))
        (turns_aligned _ _ (λ m t. not_broken m pending_state (and_left _ _ t) refl)
        (λ ns. if_elim (λ (n : ℕ). n ≤ 4) _ _ _ (λ e. omega arith) (λ e. omega arith)))
        (length ms) 0 ms h)

    pub requalifies : (mode : ℕ) (ms : List Member) → Having ms → Having (requalify_members mode (next_send_sequence s.send) ms)
    unfolding requalify_members requalify break_disconnected
    requalifies mode ms h =
        promotes_if_none mode _
        (steps (requalify mode (next_send_sequence s.send))
        (turns_aligned _ _ (λ m t. not_broken m unstable_state (and_left _ _ t) refl)
        (λ ns. if_elim (λ (n : ℕ). n ≤ 4) _ _ _ (λ e. omega arith) (λ e. omega arith)))
        (length (each break_disconnected ms)) 0 (each break_disconnected ms)
        (moves_each break_disconnected
        (λ ns m. if_elim (MemberMove (with_members ns s) m) _ _ _ (λ e. turn broken_state (omega arith) (λ b. refl)) (λ e. unmoved)) [] ms h))

  -- ---- the refresh

  binds_all : (hand : Option ℕ) (log : List Mark) (s : State) → P hand s log → P hand (with_peer (peer_after s.peer s.members) s) log
  binds_all hand log s h =
      peer_after_elim (λ (n : ℕ). P hand (with_peer n s) log) s.peer s.members h
      (λ n i m at a unbound k. law.binds (with_peer n s) i m at a unbound k)

  admits : (hand : Option ℕ) (log : List Mark) (s : State) → P hand s log
      → P hand (with_peer (peer_after s.peer s.members) (with_members (each (admit_peer_group (peer_after s.peer s.members)) s.members) s)) log
  admits hand log s h =
      let peer = peer_after s.peer s.members in
      moves_each hand log (with_peer peer s) (admit_peer_group peer) (λ ms m. admission_move (with_members ms (with_peer peer s)) m) [] s.members
      (binds_all hand log s h)

  base_source : (s : State) (b : ℕ) → base_after None s.members ≡ Some b → BaseSource s b
  base_source s b =
      base_after_elim (λ (o : Option ℕ). o ≡ Some b → BaseSource s b) None s.members (λ e. none_some e) (λ i m at a e. first_of i m at a e)

  abbrev pub Has : Option ℕ → Run → Type 0
  Has hand r = P hand r.state r.log

  pub admits_all : (hand : Option ℕ) (r : Run) → Has hand r → Has hand (admit_connected_peer_groups r)
  unfolding admit_connected_peer_groups set_base
  admits_all hand r h =
      let s = r.state in
      let peer = peer_after s.peer s.members in
      let Admitted : Run → Type 0 = λ x. P hand (with_peer peer (with_members (each (admit_peer_group peer) s.members) x.state)) x.log in
      if_some_elim Admitted _ _ _ (λ b e. admits hand r.log s h)
      (λ e.
      if_some_elim Admitted _ _ _
      (λ b g. admits hand (base_set b ∷ r.log) (with_receive (with_base b s.receive) s) (law.sets_base s b e (base_source s b g) h))
      (λ g. admits hand r.log s h))

  pub refreshes_pending : (hand : Option ℕ) (r : Run) → Has hand r → Has hand (refresh_pending_states r)
  unfolding refresh_pending_states
  refreshes_pending hand r h =
      let a = admit_connected_peer_groups r in settles hand a.log a.state a.state.making.mode a.state.members (admits_all hand r h)

  pub refreshes : (hand : Option ℕ) (r : Run) → Has hand r → Has hand (refresh_states r)
  unfolding refresh_states
  refreshes hand r h =
      let a = refresh_pending_states r in requalifies hand a.log a.state a.state.making.mode a.state.members (refreshes_pending hand r h)

  -- a member whose error or end is reported breaks, and in Backup another is promoted
  pub breaks : (hand : Option ℕ) (log : List Mark) (s : State) (i : ℕ) (w : Waiting) → P hand (with_waiting (s.waiting ++ (w ∷ [])) (with_members (change i pop s.members) s)) log
      → P hand (report_event i w (with_members (change i pop s.members) s)) log
  unfolding report_event
  breaks hand log s i w h =
      let t = with_waiting (s.waiting ++ (w ∷ [])) (with_members (change i pop s.members) s) in
      let broken = moves_at hand log t i (turned broken_state) (change i pop s.members) (λ x at. turn broken_state (omega arith) (λ b. refl)) h in
      if_elim (Having hand log t) _ _ _ (λ g. if_elim (Having hand log t) _ _ _ (λ k. promotes hand log t _ broken) (λ k. broken)) (λ g. h)

  -- ---- collecting

  module _ (collecting : CollectLaw P) where
    pub retains : (hand : Option ℕ) (log : List Mark) (s : State) (i : ℕ) (m : Member) (e : Event) → InFront s i m e → eqb e.kind 0 ≡ true → P hand s log
        → P hand (retain_group_packet i (packet_of m e) (with_members (change i pop s.members) s)) (collected (packet_of m e) ∷ log)
    unfolding retain_group_packet
    retains hand log s i m e f d h =
        let p = packet_of m e in
        if_elim (λ (t : State). P hand t (collected p ∷ log)) _ _ _
        (λ g. subst (λ (l : List Member). P hand (with_members l s) (collected p ∷ log)) (sym (change_twice i _ pop s.members)) (collecting.discards s i m e f d g h))
        (λ g.
        subst (λ (l : List Member). P hand (with_members l (with_receive (law_receive s p) s)) (collected p ∷ log)) (sym (change_twice i _ pop s.members))
        (collecting.holds s i m e f d g h))
      where
        law_receive : State → Packet → Receive
        law_receive s p = record { numbers = s.receive.numbers; pending = insert p s.receive.pending }

    collects : (hand : Option ℕ) (log : List Mark) (budget : ℕ) (s : State) (i : ℕ) (m : Member) (e : Event) → InFront s i m e → length s.waiting < max_waiting → P hand s log
        → Has hand (collect_member_event i (id_of m) e record { state = with_members (change i pop s.members) s; log = log; budget = budget })
    unfolding collect_member_event
    collects hand log budget s i m e f few h =
        if_elim (Has hand) _ _ _ (λ k. retains hand log s i m e f k h) (λ k. breaks hand log s i _ (collecting.reports s i m e f k few h))

    takes_front : (hand : Option ℕ) (i : ℕ) (m : Member) (r : Run) → at_place i r.state.members ≡ Some m → FewWait r → Has hand r → Has hand (take_front i m r).run
    unfolding take_front
    takes_front hand i m r at few h =
        let next = with_round (suc i % length r.state.members) r.state in
        let turned = collecting.turns r.state i m at h in
        if_some_elim (λ (v : Visited). Has hand v.run) _ _ _
        (λ e g.
        if_elim (λ (v : Visited). Has hand v.run) _ _ _ (λ b. collecting.continues next true turned)
        (λ b. collects hand r.log r.budget next i m e record { stands = at; first = g } few turned))
        (λ g. h)

    pub collects_one : (hand : Option ℕ) (r : Run) → FewWait r → Has hand r → Has hand (collect_one_event r).run
    unfolding collect_one_event
    collects_one hand r few h =
        if_some_elim (λ (v : Visited). Has hand v.run) _ _ _
        (λ i g. if_some_elim (λ (v : Visited). Has hand v.run) _ _ _ (λ m k. takes_front hand i m r k few h) (λ k. h))
        (λ g. h)

    pub collects_until_held : (hand : Option ℕ) (n : ℕ) (r : Run) → Has hand r → Has hand (collect_until_held n r)
    unfolding collect_until_held
    collects_until_held hand zero r h = h
    collects_until_held hand (suc n) r h =
        if_elim (Has hand) _ _ _ (λ e. h)
        (λ e.
        let one = collects_one hand r (omega (arith, none_waits r.state.waiting e)) h in
        let more = collecting.continues (collect_one_event r).run.state _ one in
        if_elim (Has hand) _ _ _ (λ g. one) (λ g. if_elim (Has hand) _ _ _ (λ k. more) (λ k. collects_until_held hand n _ more)))

    pub collects_until_empty : (hand : Option ℕ) (n sequence : ℕ) (r : Run) → waits r + n ≤ max_visits → Has hand r → Has hand (collect_until_empty n sequence r).run
    unfolding collect_until_empty
    collects_until_empty hand zero sequence r few h = collecting.continues r.state _ h
    collects_until_empty hand (suc n) sequence r few h =
        let one = collects_one hand r (omega (arith, few)) h in
        if_elim (λ (v : Emptied). Has hand v.run) _ _ _ (λ e. h)
        (λ e.
        if_elim (λ (v : Emptied). Has hand v.run) _ _ _ (λ g. collects_until_empty hand n sequence _ (omega (arith, few, collect_one_waits r)) one) (λ g. one))

    -- ---- delivery, the skip and the polls

    module _ (more : PollLaw P) where
      pub delivers_at : (hand : Option ℕ) (base : ℕ) (r : Run) → AtBase base r → Has hand r → Has hand (deliver base r).run
      unfolding deliver
      delivers_at hand base r b h =
          if_some_elim (λ (q : Poll). Has hand q.run) _ _ _ (λ p g. more.delivers r.state base p b g h) (λ g. h)

      pub gives_first : (hand : Option ℕ) (r : Run) → Has hand r → Has hand (give_waiting r).run
      unfolding give_waiting
      gives_first hand r h = if_some_elim (λ (q : Poll). Has hand q.run) _ _ _ (λ w g. more.gives r.state h) (λ g. h)

      skips_after : (hand : Option ℕ) (time : ℕ) (tested : State) (base : ℕ) (c : Emptied) → AtBase base c.run → NotHeld base c → Has hand c.run
          → Has hand (skip_after time tested base c).run
      unfolding skip_after
      skips_after hand time tested base c b n h =
          if_elim (λ (q : Poll). Has hand q.run) _ _ _ (λ e. gives_first hand c.run h)
          (λ e.
          if_elim (λ (q : Poll). Has hand q.run) _ _ _
          (λ g.
          if_some_elim (λ (q : Poll). Has hand q.run) _ _ _
          (λ p k. delivers_at hand (sequence_of p) _ (skip_base base (sequence_of p) _) (more.skips c.run.state base p tested time b (n g) k h))
          (λ k. h))
          (λ g. delivers_at hand base c.run b h))

      pub skips_gap : (hand : Option ℕ) (time base : ℕ) (r : Run) → waits r ≡ 0 → AtBase base r → Has hand r → Has hand (skip_given_up_gap time base r).run
      unfolding skip_given_up_gap
      skips_gap hand time base r few b h =
          if_elim (λ (q : Poll). Has hand q.run) _ _ _ (λ e. delivers_at hand base r b h)
          (λ e.
          skips_after hand time r.state base (collect_until_empty max_visits base r) (until_empty_base max_visits base r ∙ b)
          (until_empty_not_held max_visits base r) (collects_until_empty hand max_visits base r (omega (arith, few)) h))

      nearest_based : (hand : Option ℕ) (r : Run) (p : Packet) → nearest r.state.receive.pending ≡ Some p → Has hand r → Has hand (set_base (Some (sequence_of p)) r)
      unfolding set_base
      nearest_based hand r p g h =
          if_some_elim (Has hand) _ _ _ (λ b e. h)
          (λ e. if_some_elim (Has hand) (Some (sequence_of p)) _ _ (λ b k. law.sets_base r.state b e (nearest_held p g (some_inj k)) h) (λ k. h))

      pub delivers_next : (hand : Option ℕ) (time : ℕ) (r : Run) → waits r ≡ 0 → Has hand r → Has hand (deliver_next time r).run
      unfolding deliver_next
      delivers_next hand time r few h =
          if_some_elim (λ (q : Poll). Has hand q.run) _ _ _ (λ base b. skips_gap hand time base r few b h)
          (λ b.
          if_some_elim (λ (q : Poll). Has hand q.run) _ _ _
          (λ p g. delivers_at hand (sequence_of p) _ (set_base_base (sequence_of p) r b) (nearest_based hand r p g h))
          (λ g. h))

      pub polls_event : (hand : Option ℕ) (time : ℕ) (r : Run) → Has hand r → Has hand (poll_event time r).run
      unfolding poll_event
      polls_event hand time r h =
          let gathered = collects_until_held hand max_visits _ (refreshes_pending hand _ (collecting.continues r.state false h)) in
          if_elim (λ (q : Poll). Has hand q.run) _ _ _ (λ e. gives_first hand _ gathered)
          (λ e. delivers_next hand time _ (refresh_waits _ ∙ none_waits _ e) (refreshes hand _ gathered))

      passes_events : (hand : Option ℕ) (gave : Polled) (r : Run) (later : DataPoll) → Has hand r → Has hand later.run → Has hand (pass_events gave r later).run
      unfolding pass_events
      passes_events hand nothing r later h k = h
      passes_events hand (event w) r later h k = k
      passes_events hand (packet p) r later h k = h

      polls_until_data : (hand : Option ℕ) (time n : ℕ) (r : Run) → Has hand r → Has hand (poll_until_data time n r).run
      unfolding poll_until_data
      polls_until_data hand time zero r h = h
      polls_until_data hand time (suc n) r h =
          let polled = polls_event hand time r h in passes_events hand _ _ _ polled (polls_until_data hand time n _ polled)

      pub polls_data : (hand : Option ℕ) (time max_events : ℕ) (r : Run) → Has hand r → Has hand (poll_data_bounded time max_events r).run
      unfolding poll_data_bounded
      polls_data hand time max_events r h =
          if_elim (λ (q : DataPoll). Has hand q.run) _ _ _ (λ e. h) (λ e. polls_until_data hand time _ r h)

module _ (c : Calling) (P : Option ℕ → State → List Mark → Type 0) (law : CallLaw c P)
    (unused : (log : List Mark) (s : State) (cell : ℕ) → P (Some cell) s log → is_among cell (used_cells s) ≡ false) where
  -- ---- sending

  module _ (hand : Option ℕ) (log : List Mark) where
    abbrev InFlow : Flow → Type 0
    InFlow f = P hand f.state log

    demotes : (time : ℕ) (s : State) → P hand s log → P hand (with_members (demote_stale_backup_carrier time s.members) s) log
    unfolding demote_stale_backup_carrier
    demotes time s h =
        if_some_elim (Having P law.refreshing hand log s) _ _ _
        (λ i g.
        moves_at P law.refreshing hand log s i _ s.members
        (λ m at.
        if_elim (MemberMove s m) _ _ _
        (λ e. turn unstable_state (omega arith) (λ b. not_both b (active_not_broken m (place_passes is_active s.members i g m at))))
        (λ e. unmoved))
        h)
        (λ g. h)

    pub demotes_and_promotes : (time : ℕ) (mode : ℕ) (s : State) → P hand s log
        → P hand (with_members (promote_if_none mode (demote_stale_backup_carrier time s.members)) s) log
    demotes_and_promotes time mode s h = promotes_if_none P law.refreshing hand log s mode _ (demotes time s h)

    pub trims_by_carrier : (s : State) → P hand s log → P hand (trim_by_carrier s) log
    unfolding trim_by_carrier
    trims_by_carrier s h =
        if_some_elim (λ (t : State). P hand t log) _ _ _
        (λ id e.
        if_some_elim (λ (t : State). P hand t log) _ _ _
        (λ i g. if_some_elim (λ (t : State). P hand t log) _ _ _ (λ m at. law.trims s m.leg h) (λ at. h))
        (λ g. h))
        (λ e. h)

    failure_move : (s : State) (m : Member) → is_active m ≡ true → MemberMove s m (mark_send_failure m)
    unfolding mark_send_failure
    failure_move s m a =
        turn _ (if_elim (λ (n : ℕ). n ≤ 4) (is_connected m.leg && not (can_send m.leg)) unstable_state broken_state (λ e. omega arith) (λ e. omega arith)) (λ b. not_both b (active_not_broken m a))

    module _ (time : ℕ) (fits : time ≤ largest_64) where
      attempt_move : (size sequence : ℕ) (s : State) (m : Member) → MemberMove s m (attempt_send time size sequence m)
      unfolding attempt_send
      attempt_move size sequence s m =
          if_elim (MemberMove s m) _ _ _
          (λ e. if_some_elim (MemberMove s m) _ _ _ (λ l g. leg_send time size sequence l fits g) (λ g. failure_move s m e))
          (λ e. unmoved)

      broadcasts : (size : ℕ) (s : State) → P hand s log → InFlow (send_broadcast time size s)
      unfolding send_broadcast
      broadcasts size s h =
          let tried : (sequence : ℕ) → P hand (with_members (each (attempt_send time size sequence) s.members) s) log =
          λ sequence. moves_each P law.refreshing hand log s (attempt_send time size sequence) (λ ms m. attempt_move size sequence (with_members ms s) m) [] s.members h
          in
          if_elim InFlow _ _ _ (λ e. h)
          (λ e. if_elim InFlow _ _ _ (λ g. h) (λ g. if_elim InFlow _ _ _ (λ k. tried _) (λ k. law.numbers _ _ (tried _))))

      -- a leg after another at one place
      replays : (i id : ℕ) (m : Member) (s : State) (es : List Entry) (l : Leg) → at_place i s.members ≡ Some m → P hand (put_leg i l s) log
          → P hand (put_leg i (replay_entries time id es l).leg s) log
      unfolding replay_entries
      replays i id m s [] l at h = h
      replays i id m s (e ∷ es) l at h =
          if_some_elim (λ (x : Replayed). P hand (put_leg i x.leg s) log) _ _ _
          (λ k g.
          replays i id m s es k at
          (subst (Having P law.refreshing hand log s) (change_twice i (with_leg k) (with_leg l) s.members)
          (law.refreshing.moves (put_leg i l s) i (with_leg l m) (with_leg k) (at_change i (with_leg l) s.members m at) (leg_send time e.length e.sequence k fits g) h)))
          (λ g. h)

      replays_on : (i : ℕ) (m : Member) (l : Leg) (s : State) → at_place i s.members ≡ Some m → P hand (put_leg i l s) log → InFlow (replay_on time i m l s)
      unfolding replay_on
      replays_on i m l s at h = if_elim InFlow _ _ _ (λ e. h) (λ e. replays i (id_of m) m s s.send.history l at h)

      replays_flight : (i : ℕ) (m : Member) (e : Entry) (s : State) → at_place i s.members ≡ Some m → at_place 0 s.send.history ≡ Some e → P hand s log
          → InFlow (replay_flight time i m e s)
      unfolding replay_flight
      replays_flight i m e s at there h =
          if_elim InFlow _ _ _ (λ g. h)
          (λ g.
          if_elim InFlow _ _ _ (λ k. replays_on i m m.leg s at (law.refreshing.moves s i m (with_leg m.leg) at unmoved h))
          (λ k.
          if_some_elim InFlow _ _ _ (λ l j. replays_on i m l s at (law.refreshing.moves s i m (with_leg l) at (catching_up e l there j) h)) (λ j. h)))

      aligns_carrier : (i : ℕ) (s : State) → P hand s log → InFlow (align_carrier i s)
      unfolding align_carrier
      aligns_carrier i s h =
          if_elim InFlow _ _ _ (λ e. if_some_elim InFlow _ _ _ (λ ms g. aligns P law.refreshing hand log s i s.members ms g h) (λ g. h)) (λ e. h)

      takes_over_flight : (i : ℕ) (s : State) → P hand s log → InFlow (take_over_backup_flight time i s)
      unfolding take_over_backup_flight
      takes_over_flight i s h =
          let trimmed = trims_by_carrier s h in
          if_some_elim InFlow _ _ _
          (λ m at.
          if_elim InFlow _ _ _
          (λ e.
          if_some_elim InFlow _ _ _
          (λ x g. replays_flight i m x (trim_by_carrier s) (ap (at_place i) (trim_members s) ∙ at) g trimmed)
          (λ g. aligns_carrier i (trim_by_carrier s) trimmed))
          (λ e. aligns_carrier i s h))
          (λ at. h)

  -- a Backup send with a cell in hand: it succeeds and the payload is put, or it fails and the cell is still in hand
  module _ (time : ℕ) (fits : time ≤ largest_64) (log : List Mark) (cell : ℕ) (payload : List ℕ) (is : c.call ≡ call_send time payload) (short : length payload ≤ cell_size) where
    pub record Ended (f : Flow) : Type 0 where
      pub done : eqb f.code 0 ≡ true → c.code ≡ 0 → P None f.state (put cell payload ∷ log)
      pub failed : eqb f.code 0 ≡ false → P (Some cell) f.state log

    fails_with : (code : ℕ) (s : State) → eqb code 0 ≡ false → P (Some cell) s log → Ended (ends_with code s)
    fails_with code s e h = record { done = λ g accepted. not_both g e; failed = λ g. h }

    then_ends : (x : Flow) (f : State → Flow) → P (Some cell) x.state log → (P (Some cell) x.state log → Ended (f x.state)) → Ended (x and_then f)
    unfolding ◌and_then◌
    then_ends x f h k =
        let y = f x.state in
        if_elim Ended (eqb x.code 0) record { state = y.state; sends = x.sends ++ y.sends; code = y.code } x
        (λ e. record { done = (k h).done; failed = (k h).failed }) (λ e. record { done = λ g accepted. not_both g e; failed = λ g. h })

    sends_own : (sequence i : ℕ) (failed : Member → State → Flow) (s : State) → ((m : Member) → at_place i s.members ≡ Some m → Ended (failed m s)) → P (Some cell) s log
        → Ended (send_own time (length payload) cell sequence i failed s)
    unfolding send_own record_backup_send append_history
    sends_own sequence i failed s g h =
        if_some_elim Ended _ _ _
        (λ m at.
        if_some_elim Ended _ _ _
        (λ l k.
        let entry = entry_of sequence cell (length payload) time in
        let noted : State = with_send (append_history (id_of m) entry s.send) s in
        record {
          done =
              λ z accepted.
              let held = law.puts s cell payload (sends_it time is) accepted short (unused log s cell h) h in
              let remembered = law.remembers s i m entry at (at_next time (length payload) sequence m.leg l k) short fits held in
              let numbered = law.numbers noted sequence remembered in
              law.trims _ l (law.refreshing.moves (with_send_number (sequence_further sequence 1) noted) i m (with_leg l) at (leg_send time (length payload) sequence l fits k) numbered);
          failed = λ z. not_both refl z;
        })
        (λ k. g m at))
        (λ at. fails_with 24 s refl h)

    sends_after_promotion : (sequence i : ℕ) (failed : Member) (s : State) → ActiveAt i s → P (Some cell) s log
        → Ended (send_after_promotion time (length payload) cell sequence i failed s)
    unfolding send_after_promotion
    sends_after_promotion sequence i failed s active h =
        let marked = moves_at P law.refreshing (Some cell) log s i mark_send_failure s.members (λ m at. failure_move (Some cell) log s m (active m at)) h in
        let promoted = promotes P law.refreshing (Some cell) log s _ marked in
        if_some_elim Ended _ _ _
        (λ j g.
        then_ends _ _ (takes_over_flight (Some cell) log time fits j _ promoted)
        (λ k. sends_own sequence j _ _ (λ m at. fails_with 29 _ refl k) k))
        (λ g. fails_with 27 _ refl promoted)

    sends_at_place : (i : ℕ) (s : State) → ActiveAt i s → P (Some cell) s log → Ended (send_at_place time (length payload) cell i s)
    unfolding send_at_place
    sends_at_place i s active h =
        if_some_elim Ended _ _ _
        (λ m at.
        if_elim Ended _ _ _ (λ e. fails_with 25 s refl h)
        (λ e. sends_own _ i _ s (λ n there. sends_after_promotion _ i n s active h) h))
        (λ at. fails_with 24 s refl h)

    sends_backup : (s : State) → P (Some cell) s log → Ended (send_backup time (length payload) cell s)
    unfolding send_backup
    sends_backup s h =
        let ready : State = with_members (promote_if_none s.making.mode (demote_stale_backup_carrier time s.members)) s in
        let begun : P (Some cell) ready log = demotes_and_promotes (Some cell) log time s.making.mode s h in
        if_some_elim Ended _ _ _
        (λ i g.
        then_ends (take_over_backup_flight time i ready) (send_at_place time (length payload) cell i) (takes_over_flight (Some cell) log time fits i ready begun)
        (λ k. sends_at_place i _ (take_over_active i ready (take_over_backup_flight time i ready).state (take_over_kept time i ready) (first_active_at ready i g)) k))
        (λ g. fails_with 24 ready refl begun)

  -- ---- bodies

  abbrev Keeps : Step → Type 0
  Keeps x = P None x.state x.log

  -- the last member, once it stands there
  module _ (log : List Mark) (t : State) (i : ℕ) (m : Member) (at : at_place i t.members ≡ Some m) where
    binds_one : P None t log → P None (with_peer (peer_after t.peer (m ∷ [])) t) log
    binds_one h =
        peer_after_elim (λ (n : ℕ). P None (with_peer n t) log) t.peer (m ∷ []) h
        (λ n k x there a unbound q.
        let same = one_place m x k there in
        subst (λ (y : Member). P None (with_peer y.leg.link.peer t) log) same (law.refreshing.binds (with_peer n t) i m at (ap arrives same ∙ a) unbound q))

    one_source : (b : ℕ) → base_after None (m ∷ []) ≡ Some b → BaseSource t b
    one_source b =
        base_after_elim (λ (o : Option ℕ). o ≡ Some b → BaseSource t b) None (m ∷ []) (λ e. none_some e)
        (λ k x there a e.
        let same = one_place m x k there in first_of i m at (ap arrives same ∙ a) (ap (λ (y : Member). peer_initial_sequence y.leg) same ∙ e))

    admits_one : P None t log → let peer = peer_after t.peer (m ∷ []) in P None (with_peer peer (with_members (change i (admit_peer_group peer) t.members) t)) log
    admits_one h =
        let peer = peer_after t.peer (m ∷ []) in
        law.refreshing.moves (with_peer peer t) i m (admit_peer_group peer) at (admission_move (with_peer peer t) m) (binds_one h)

  adds : (id weight : ℕ) (l : Leg) (queue : List Event) (s : State) → c.call ≡ call_add_member id weight l queue → Joining id weight l s → P None s [] → Keeps (add_body id weight l s)
  unfolding add_body set_base
  adds id weight l queue s is j h =
      let m = new_member id weight (handed l) s in
      let i = length s.members in
      let peer = peer_after s.peer (m ∷ []) in
      let joined : State = with_members (s.members ++ (m ∷ [])) s in
      let begun = law.joins s id weight l queue is j h in
      let Added : Run → Type 0 = λ x. P None (with_peer peer (with_members (s.members ++ (admit_peer_group peer m ∷ [])) x.state)) x.log in
      let admitted : (t : Receive) (log : List Mark) → P None (with_receive t joined) log
      → P None (with_peer peer (with_members (s.members ++ (admit_peer_group peer m ∷ [])) (with_receive t s))) log =
      λ t log k.
      subst (λ (ms : List Member). P None (with_peer peer (with_members ms (with_receive t s))) log) (change_end (admit_peer_group peer) s.members m [])
      (admits_one log (with_receive t joined) i m (at_end s.members m []) k)
      in
      let added : Added (set_base (base_after None (m ∷ [])) (start s)) =
      if_some_elim Added _ _ _ (λ b e. admitted s.receive [] begun)
      (λ e.
      if_some_elim Added _ _ _
      (λ b g. admitted (with_base b s.receive) (base_set b ∷ []) (law.refreshing.sets_base joined b e (one_source [] joined i m (at_end s.members m []) b g) begun))
      (λ g. admitted s.receive [] begun))
      in
      let based = set_base (base_after None (m ∷ [])) (start s) in
      let ns = s.members ++ (admit_peer_group peer m ∷ []) in
      if_elim Keeps _ _ _
      (λ e.
      if_some_elim Keeps _ _ _
      (λ ms g.
      aligns P law.refreshing None based.log (with_peer peer (with_members ns based.state)) i ns ms
      (ap (λ (x : Send). align_member_sequence (next_send_sequence x) i ns) (set_base_send (base_after None (m ∷ [])) (start s)) ∙ g) added)
      (λ g. added))
      (λ e. added)

  removes : (id : ℕ) (s : State) → c.call ≡ call_remove_member_connection id → P None s [] → Keeps (remove_body id s)
  unfolding remove_body remove_member_at
  removes id s is h =
      if_some_elim Keeps _ _ _
      (λ f e.
      let there = found_stands (has_id id) s.members f e in
      retirements_keep (λ (t : State). P None t []) _ (λ t p far k. law.retires t id _ p is far k) _ _ (take_out f.place f.member s)
      (law.leaves s f.place f.member
      (is ∙ ap (λ (k : ℕ). call_remove_member_connection k) (sym (eqb-true (id_of f.member) id there.is))) there.at h))
      (λ e. h)

  reads_ready : (s : State) → P None s [] → Keeps (can_send_body s)
  unfolding can_send_body
  reads_ready s h =
      let fresh = refreshes P law.refreshing None (start s) h in
      if_elim Keeps _ _ _ (λ e. trims_by_carrier None _ _ fresh) (λ e. fresh)

  reads_paced_ready : (time : ℕ) (s : State) → P None s [] → Keeps (can_send_with_pacing_body time s)
  unfolding can_send_with_pacing_body
  reads_paced_ready time s h =
      let fresh = refreshes P law.refreshing None (start s) h in
      if_elim Keeps _ _ _ (λ e. trims_by_carrier None _ _ (demotes_and_promotes None _ time s.making.mode _ fresh)) (λ e. fresh)

  sends : (time : ℕ) (payload : List ℕ) → c.call ≡ call_send time payload → time ≤ largest_64 → length payload ≤ cell_size → is_backup c.from.making.mode && no_free_cell c.cells c.from ≡ false
      → P None c.from [] → (send_body (taken_cell c.cells c.from) time payload c.from).code ≡ c.code → Keeps (send_body (taken_cell c.cells c.from) time payload c.from)
  unfolding send_body send_flow left_by_send
  sends time payload is fits short free h =
      let s = c.from in
      let r = refresh_states (start s) in
      let cell = taken_cell c.cells s in
      let same : is_backup r.state.making.mode ≡ is_backup s.making.mode = ap is_backup (refresh_mode (start s)) in
      by_test (is_backup s.making.mode)
      (λ b.
      let taken = law.takes payload (sends_it time is) (ap (λ (x : Bool). x && no_free_cell c.cells s) (sym b) ∙ free) h in
      let fresh : P (Some cell) r.state r.log = refreshes P law.refreshing (Some cell) (start s) taken in
      let ended : Ended time fits r.log cell payload is short (send_flow cell time payload s r) =
      if_elim (Ended time fits r.log cell payload is short) _ _ _ (λ e. fails_with time fits r.log cell payload is short 23 r.state refl fresh)
      (λ e.
      if_elim (Ended time fits r.log cell payload is short) _ _ _ (λ g. sends_backup time fits r.log cell payload is short r.state fresh) (λ g. not_both b g))
      in
      if_elim (λ (x : Step). x.code ≡ c.code → Keeps x) _ _ _
      (λ e ends.
      if_elim (λ (log : List Mark). P None (send_flow cell time payload s r).state log) _ _ _ (λ g. ended.done e (sym ends)) (λ g. not_both (same ∙ b) g))
      (λ e ends. law.lets_go _ cell (ended.failed e)))
      (λ b.
      let fresh = refreshes P law.refreshing None (start s) h in
      let flow : P None (send_flow cell time payload s r).state r.log =
      if_elim (InFlow None r.log) _ _ _ (λ e. fresh)
      (λ e. if_elim (InFlow None r.log) _ _ _ (λ g. not_both g b) (λ g. broadcasts None r.log time fits (length payload) r.state fresh))
      in
      if_elim (λ (x : Step). x.code ≡ c.code → Keeps x) _ _ _
      (λ e ends. if_elim (λ (log : List Mark). P None (send_flow cell time payload s r).state log) _ _ _ (λ g. not_both g (same ∙ b)) (λ g. flow))
      (λ e ends. flow))

  queues : (id : ℕ) (d : Data) (payload : List ℕ) → c.call ≡ call_queue_data id d payload → c.code ≡ 0 → of_member id queue_full c.from ≡ false → data_unfit id d ≡ false → length payload ≤ cell_size
      → no_free_cell c.cells c.from ≡ false → P None c.from [] → Keeps (queue_data_body id (taken_cell c.cells c.from) d payload c.from)
  unfolding queue_data_body
  queues id d payload is accepted full unfit short free h =
      let s = c.from in
      let cell = taken_cell c.cells s in
      let taken = law.takes payload (queues_it id d is) free h in
      let held = law.puts s cell payload (queues_it id d is) accepted short (unused [] s cell taken) taken in
      named (λ (t : State). P None t (put cell payload ∷ [])) id _ s
      (λ i m at first.
      let same : id ≡ id_of m = sym (eqb-true (id_of m) id (first_such_of (λ (x : Member). Unit {0}) (has_id id) s.members m first (any_members s.members)).1) in
      law.queues_data s i m cell d payload (is ∙ ap (λ (n : ℕ). call_queue_data n d payload) same) accepted at (of_found id queue_full s m full first)
      (ap (λ (n : ℕ). data_unfit n d) (sym same) ∙ unfit) short held)
      (law.lets_go s cell held)

  kept : (cs : List Check) (s : State) (body : Step) → P None s [] → Keeps body → Keeps (guard cs s body)
  kept cs s body h k = guard_elim Keeps cs s body (λ code. h) k

  passed : (cs : List Check) (s : State) (body : Step) → P None s [] → (All (λ (c : Check). c.fails ≡ false) cs → Keeps body) → Keeps (guard cs s body)
  passed cs s body h k = guard_passed Keeps cs s body (λ code. h) k

-- ---- two laws together

module _ (P Q : Option ℕ → State → List Mark → Type 0) where
  abbrev Both : Option ℕ → State → List Mark → Type 0
  Both hand s log = P hand s log × Q hand s log

  both_refresh : RefreshLaw P → RefreshLaw Q → RefreshLaw Both
  both_refresh a b =
      record {
        moves = λ s i m f at move h. (a.moves s i m f at move h.0, b.moves s i m f at move h.1);
        binds = λ s i m at e unbound h. (a.binds s i m at e unbound h.0, b.binds s i m at e unbound h.1);
        sets_base = λ s n e source h. (a.sets_base s n e source h.0, b.sets_base s n e source h.1);
      }

  both_collect : CollectLaw P → CollectLaw Q → CollectLaw Both
  both_collect a b =
      record {
        continues = λ s t h. (a.continues s t h.0, b.continues s t h.1);
        turns = λ s i m at h. (a.turns s i m at h.0, b.turns s i m at h.1);
        discards = λ s i m e f d g h. (a.discards s i m e f d g h.0, b.discards s i m e f d g h.1);
        holds = λ s i m e f d g h. (a.holds s i m e f d g h.0, b.holds s i m e f d g h.1);
        reports = λ s i m e f d few h. (a.reports s i m e f d few h.0, b.reports s i m e f d few h.1);
      }

  both_poll : PollLaw P → PollLaw Q → PollLaw Both
  both_poll a b =
      record {
        gives = λ s h. (a.gives s h.0, b.gives s h.1);
        skips = λ s base p tested time e n near h. (a.skips s base p tested time e n near h.0, b.skips s base p tested time e n near h.1);
        delivers = λ s base p e there h. (a.delivers s base p e there h.0, b.delivers s base p e there h.1);
      }

  both_laws : {c : Calling} → CallLaw c P → CallLaw c Q → CallLaw c Both
  both_laws a b =
      record {
        refreshing = both_refresh a.refreshing b.refreshing;
        collecting = λ poll. both_collect (a.collecting poll) (b.collecting poll);
        polling = λ poll. both_poll (a.polling poll) (b.polling poll);
        joins = λ s id weight l queue is j h. (a.joins s id weight l queue is j h.0, b.joins s id weight l queue is j h.1);
        leaves = λ s i m is at h. (a.leaves s i m is at h.0, b.leaves s i m is at h.1);
        retires = λ s id base p is e h. (a.retires s id base p is e h.0, b.retires s id base p is e h.1);
        takes = λ payload is free h. (a.takes payload is free h.0, b.takes payload is free h.1);
        puts = λ s cell payload is accepted short unused h. (a.puts s cell payload is accepted short unused h.0, b.puts s cell payload is accepted short unused h.1);
        lets_go = λ s cell h. (a.lets_go s cell h.0, b.lets_go s cell h.1);
        queues_data = λ s i m cell d payload is accepted at full unfit short h. (a.queues_data s i m cell d payload is accepted at full unfit short h.0, b.queues_data s i m cell d payload is accepted at full unfit short h.1);
        queues_event = λ s i m id kind reason is at full some_kind known fits h. (a.queues_event s i m id kind reason is at full some_kind known fits h.0, b.queues_event s i m id kind reason is at full some_kind known fits h.1);
        numbers = λ s sequence h. (a.numbers s sequence h.0, b.numbers s sequence h.1);
        remembers = λ s i m e at next short fits h. (a.remembers s i m e at next short fits h.0, b.remembers s i m e at next short fits h.1);
        trims = λ s l h. (a.trims s l h.0, b.trims s l h.1);
      }

-- ---- every call

walks : (P : Option ℕ → State → List Mark → Type 0) (store output list : ℕ) (c : Call) (s : State) → CallLaw (calling store output list c s) P
    → ((log : List Mark) (t : State) (cell : ℕ) → P (Some cell) t log → is_among cell (used_cells t) ≡ false)
    → P None s [] → P None (step_of store output list c s).state (step_of store output list c s).log
unfolding step_of add_member mark_member_broken remove_member_connection refresh_member_states disconnect event_poll_body poll_event_call data_poll_body poll_data_call send can_send_call can_send_with_pacing_call read_leg queue_data queue_event queue_data_body
walks P store output list (call_add_member id weight l queue) s law unused h =
    passed _ P law unused _ s _ h
    (λ g.
    let fields = or_right (above largest_32 id) _ g.1.0 in
    let leg = or_right (above largest_16 weight) _ fields in
    adds _ P law unused id weight l queue s refl
    record {
      fresh = g.1.1.1.0;
      room = leb-false max_members (length s.members) g.1.1.0;
      unreserved = eqb-true l.receiver.reserved 0 (not-false _ (or_right (not (is_empty queue)) _ (or_right (breaks_rule s) _ g.0)));
      id_fits = ltb-false largest_32 id (or_left (above largest_32 id) _ g.1.0);
      weight_fits = ltb-false largest_16 weight (or_left (above largest_16 weight) _ fields);
      leg_fits = or_left (leg_out_of_range (handed l)) _ leg;
      sequences_fit = or_right (leg_out_of_range (handed l)) _ leg;
    } h)
walks P store output list (call_mark_member_broken id) s law unused h =
    kept _ P law unused _ s _ h (named (λ (t : State). P None t []) id _ s (λ i m at first. law.refreshing.moves s i m _ at (turn broken_state (omega arith) (λ b. refl)) h) h)
walks P store output list (call_remove_member_connection id) s law unused h = kept _ P law unused _ s _ h (removes _ P law unused id s refl h)
walks P store output list call_refresh_member_states s law unused h = kept _ P law unused _ s _ h (refreshes P law.refreshing None (start s) h)
walks P store output list (call_disconnect time) s law unused h =
    kept _ P law unused _ s _ h (moves_each P law.refreshing None [] s (on_leg disconnect_leg) (λ ms m. leg_end) [] s.members h)
walks P store output list (call_poll_event time) s law unused h = kept _ P law unused _ s _ h (polls_event P law.refreshing (law.collecting (polls_events time refl)) (law.polling (polls_events time refl)) None time (start s) h)
walks P store output list (call_poll_data_bounded time max_events) s law unused h = kept _ P law unused _ s _ h (polls_data P law.refreshing (law.collecting (polls_packets time max_events refl)) (law.polling (polls_packets time max_events refl)) None time max_events (start s) h)
walks P store output list (call_send time payload) s law unused h =
    guard_passed (λ (x : Step). x.code ≡ (send store list time payload s).code → P None x.state x.log) _ s (send_body (taken_cell (cells_of store) s) time payload s) (λ code e. h)
    (λ g. sends _ P law unused time payload refl (ltb-false largest_64 time g.1.1.0) (ltb-false cell_size (length payload) g.1.1.1.0) g.1.1.1.1.0 h)
    refl
walks P store output list call_can_send s law unused h = kept _ P law unused _ s _ h (reads_ready _ P law unused s h)
walks P store output list (call_can_send_with_pacing time) s law unused h = kept _ P law unused _ s _ h (reads_paced_ready _ P law unused time s h)
walks P store output list (call_look look) s law unused h = look_elim (λ (x : Step). P None x.state x.log) look s (λ code. h) (λ answer e. h)
walks P store output list (call_read_leg id field n) s law unused h =
    passed _ P law unused _ s _ h
    (λ g.
    named (λ (t : State). P None t []) id _ s
    (λ i m at first.
    law.refreshing.moves s i m _ at
    (leg_reading field n (or_right (above largest_32 id) _ g.1.0) (of_found id (λ x. goes_back field n x.leg) s m g.1.1.1.0 first)) h) h)
walks P store output list (call_queue_data id d payload) s law unused h =
    guard_passed (λ (x : Step). x.code ≡ (queue_data store id d payload s).code → P None x.state x.log) _ s (queue_data_body id (taken_cell (cells_of store) s) d payload s) (λ code e. h)
    (λ g e. queues _ P law unused id d payload refl (sym e) g.1.1.1.1.1.1.0 g.1.1.0 (ltb-false cell_size (length payload) g.1.1.1.1.0) g.1.1.1.1.1.0 h)
    refl
walks P store output list (call_queue_event id kind reason) s law unused h =
    passed _ P law unused _ s _ h
    (λ g.
    let rest = or_right (above largest_32 id) _ g.1.0 in
    let kinds = or_right (eqb kind 0) _ rest in
    named (λ (t : State). P None t []) id _ s
    (λ i m at first.
    law.queues_event s i m id kind reason refl at (of_found id queue_full s m g.1.1.1.0 first) (or_left (eqb kind 0) _ rest) (or_left (above 3 kind) _ kinds) (or_right (above 3 kind) _ kinds) h) h)

-- while a cell is in hand nothing uses it, so the walk may rely on that
pub step_keeps : (P : Option ℕ → State → List Mark → Type 0) (store output list : ℕ) (c : Call) (s : State) → CallLaw (calling store output list c s) P
    → P None s [] → P None (step_of store output list c s).state (step_of store output list c s).log
step_keeps P store output list c s law h =
    (walks (λ hand t log. P hand t log × Unnamed hand t log) store output list c s (both_laws P Unnamed law (unnamed_moves _)) (λ log t cell h. unnamed_unused t cell h.1) (h, tt)).0

pub call_keeps : (P : Option ℕ → State → List Mark → Type 0) (c : Call) (lent : Lent) (s : State) → CallLaw (called c lent s) P
    → P None s [] → P None (perform c lent s).state (perform c lent s).log
unfolding perform with_bytes
call_keeps P c lent s law h = step_keeps P _ _ _ c s law h
