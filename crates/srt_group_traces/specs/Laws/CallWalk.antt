-- What each move of receiving keeps, every call keeps, refused or not, and so every list of calls: an instance of the model's law of
-- calls.
use Rattle.std.specs.Prelude.{◌≡◌, Bool, not, ◌&&◌, ℕ, ◌+◌, ◌<◌, eqb, None, Option, Some}
use Rattle.std.proofs.Common.{sym, arith}
use Rattle.std.proofs.Math.Path.{subst}
use Rattle.std.proofs.Math.Bool.{true, false}
use mathlib.Core.List.{List, [], ◌∷◌, ◌++◌, append_assoc}
use Rattle.srt_protocol.specs.Sequence.{half}
use Rattle.srt_group_model.specs.Tools.{flagged, change, each, without_place, All, at_place}
use Rattle.srt_group_model.specs.State.{Member, State, Receive, next_receive_sequence, with_base}
use Rattle.srt_group_model.specs.Legs.{handed, no_sequence, largest_sequence, peer_initial_sequence}
use Rattle.srt_group_model.specs.Members.{id_of}
use Rattle.srt_group_model.specs.Run.{Mark, base_set}
use Rattle.srt_group_model.specs.Removal.{own_packet, retire, take_out}
use Rattle.srt_group_model.specs.Validity.{is_too_large, leg_sequence_too_large}
use Rattle.srt_group_model.specs.Laws.InRange.{in_range_of}
use Rattle.srt_group_model.specs.Calls.{new_member, enqueue, data_unfit}
use Rattle.srt_group_model.specs.declared.Data.{Data}
use Rattle.srt_group_model.specs.declared.Event.{Event}
use Rattle.srt_group_model.specs.declared.Packet.{Packet}
use Rattle.srt_group_model.specs.declared.Leg.{Leg}
use Rattle.srt_group_model.specs.Laws.Reason.{if_elim, all_append, or_right, not_both}
use Rattle.srt_group_traces.specs.Laws.Cases.{and_with_true, Each, each_at, all_change, all_such_that, all_without_place, ge_of, each_at_place, all_drop}
use Rattle.srt_group_traces.specs.Laws.Sides.{side, sides, all_sides, all_members, moved_sides, account_side, deliver_packet_leaves_sides}
use Rattle.srt_group_traces.specs.Laws.Law.{owned_by_group, EventOk, SideOk, PutLaw}
use Rattle.srt_group_traces.specs.Laws.FreeCells.{unused_elsewhere}
use Rattle.srt_group_model.specs.Collecting.{front}
use Rattle.srt_group_model.specs.Delivery.{deliver_packet}
use Rattle.srt_group_model.specs.Laws.Queues.{pop, packet_of}
use Rattle.srt_group_model.specs.Laws.CallLaw.{BaseSource, first_of, nearest_held, InFront, RefreshLaw, CollectLaw, PollLaw, Calling, CallLaw}
use Rattle.srt_group_model.specs.Laws.EveryCall.{call_keeps}
use Rattle.srt_group_model.specs.Laws.MemberMoves.{moved_account}
use Rattle.srt_group_traces.specs.Statement.{Asked, do_call, state_after, log_after}

-- ---- what the guards know of a sequence

-- a sequence of the space
abbrev pub Fits : ℕ → Type 0
Fits n = n < half + half

sequence_fits_of : (n : ℕ) → is_too_large n ≡ false → Fits n
unfolding half
sequence_fits_of n e = omega (arith, ge_of largest_sequence n e)

queued_sequence_fits : (id : ℕ) (d : Data) → data_unfit id d ≡ false → Fits d.sequence
unfolding data_unfit half
queued_sequence_fits id d h = omega (arith, (in_range_of _ (or_right (eqb d.count 0) _ h)).1.0)

-- held packets that become the group's own
pub own_packets_all : (Q : Packet → Type 0) → ((p : Packet) → Q p → Q (owned_by_group p)) → (id : ℕ) (ps : List Packet) → All Q ps → All Q (each (own_packet id) ps)
unfolding each own_packet
own_packets_all Q own id [] h = tt
own_packets_all Q own id (p ∷ ps) h = (if_elim Q _ _ _ (λ e. own p h.0) (λ e. h.0), own_packets_all Q own id ps h.1)

-- ---- one call

module _ (P : Data → Type 0) (F : ℕ → Type 0) (I : Receive → List Mark → Type 0) (law : PutLaw P F I)
    (firsts : (n : ℕ) → Fits n → F n) (fitting : (d : Data) → Fits d.sequence → P d) where
  abbrev SidesOk : List Member → Type 0
  SidesOk ms = All (SideOk P F) (sides ms)

  -- one side changes
  changed_sides : (i : ℕ) (f : Member → Member) (ms : List Member) → ((m : Member) → SideOk P F (side m) → SideOk P F (side (f m))) → SidesOk ms → SidesOk (change i f ms)
  changed_sides i f ms k h =
      all_sides (SideOk P F) (change i f ms) (all_change (λ (m : Member). SideOk P F (side m)) i f ms k (all_members (SideOk P F) ms h))

  side_at : (s : State) (i : ℕ) (m : Member) → at_place i s.members ≡ Some m → SidesOk s.members → SideOk P F (side m)
  side_at s i m at h =
      each_at (λ (m : Member). SideOk P F (side m)) (at_place i s.members) m at
      (each_at_place (λ (m : Member). SideOk P F (side m)) i s.members (all_members (SideOk P F) s.members h))

  popped : (m : Member) → SideOk P F (side m) → SideOk P F (side (pop m))
  popped m h = (all_drop (EventOk P F) 1 m.queue h.0, h.1)

  front_ok : (s : State) (i : ℕ) (m : Member) (e : Event) → InFront s i m e → eqb e.kind 0 ≡ true → SidesOk s.members → P e.content
  front_ok s i m e f d h =
      each_at (EventOk P F) (front m.queue) e f.first (each_at_place (EventOk P F) 0 m.queue (side_at s i m f.stands h).0) d

  -- an event more in a queue
  enqueue_ok : (e : Event) (m : Member) → EventOk P F e → SideOk P F (side m) → SideOk P F (side (enqueue e m))
  enqueue_ok e m k h = (all_append (EventOk P F) m.queue (e ∷ []) h.0 (k, tt), h.1)

  first_ok : (l : Leg) → leg_sequence_too_large l ≡ false → Each F (flagged (not (eqb l.receiver.first no_sequence)) l.receiver.first)
  unfolding leg_sequence_too_large flagged
  first_ok l e =
      go (not (eqb l.receiver.first no_sequence))
      (or_right (is_too_large l.receiver.advanced) _ (or_right (is_too_large l.sender.next) _ e))
    where
      go : (t : Bool) → (is_too_large l.receiver.first && t) ≡ false → Each F (flagged t l.receiver.first)
      go false h = tt
      go true h =
          firsts l.receiver.first
          (sequence_fits_of l.receiver.first (and_with_true (is_too_large l.receiver.first) h))

  sets_base_ok : (s : State) (log : List Mark) (b : ℕ) → next_receive_sequence s.receive ≡ None → BaseSource s b → SidesOk s.members → I s.receive log
      → I (with_base b s.receive) (base_set b ∷ log)
  sets_base_ok s log b unset (first_of i m at a e) ok h =
      law.calling.polling.on_base_set s.receive log b unset (each_at F (peer_initial_sequence m.leg) b e (side_at s i m at ok).1) h
  sets_base_ok s log b unset (nearest_held p near e) ok h =
      subst (λ (n : ℕ). I (with_base n s.receive) (base_set n ∷ log)) e (law.calling.polling.on_nearest_sets s.receive log p unset near h)

  -- `log` are the marks before the call
  module _ (log : List Mark) where
    abbrev Goes_on : Option ℕ → State → List Mark → Type 0
    Goes_on hand s m = SidesOk s.members × I s.receive (m ++ log)

    receiving_refreshes : RefreshLaw Goes_on
    receiving_refreshes =
        record {
          moves = λ s i m f at move h. (subst (All (SideOk P F)) (sym (moved_sides i m f s.members at (account_side m (f m) (moved_account move)))) h.0, h.1);
          binds = λ s i m at a unbound h. h;
          sets_base = λ s b e source h. (h.0, sets_base_ok s _ b e source h.0 h.1);
        }

    receiving_collects : CollectLaw Goes_on
    receiving_collects =
        record {
          continues = λ s b h. h;
          turns = λ s i m at h. h;
          discards =
              λ s i m e f d g h. (
                changed_sides i _ s.members popped h.0,
                law.calling.polling.collecting.on_discarded s.receive _ (packet_of m e) (front_ok s i m e f d h.0) g h.1,
              );
          holds =
              λ s i m e f d g h. (
                changed_sides i _ s.members popped h.0,
                law.calling.polling.collecting.on_retained s.receive _ (packet_of m e) (front_ok s i m e f d h.0) g h.1,
              );
          reports = λ s i m e f d few h. (changed_sides i pop s.members popped h.0, h.1);
        }

    receiving_polls : PollLaw Goes_on
    unfolding deliver_packet
    receiving_polls =
        record {
          gives = λ s h. h;
          skips = λ s base p tested time b n near h. (h.0, law.calling.polling.on_skipped s.receive _ base p tested time b near h.1);
          delivers =
              λ s base p b there h. (
                subst (All (SideOk P F)) (sym (deliver_packet_leaves_sides base p s)) h.0,
                law.calling.polling.on_delivered s.receive _ base p b there h.1,
              );
        }

    receiving_moves : (k : Calling) → CallLaw k Goes_on
    unfolding take_out retire new_member
    receiving_moves k =
        record {
          refreshing = receiving_refreshes;
          collecting = λ poll. receiving_collects;
          polling = λ poll. receiving_polls;
          joins =
              λ s id weight l queue is j h. (
                all_sides (SideOk P F) (s.members ++ (new_member id weight (handed l) s ∷ []))
                    (all_append (λ (m : Member). SideOk P F (side m)) s.members _ (all_members (SideOk P F) s.members h.0) ((tt, first_ok l j.sequences_fit), tt)),
                h.1,
              );
          leaves =
              λ s i m is at h. (
                all_sides (SideOk P F) (without_place i s.members)
                    (all_without_place (λ (m : Member). SideOk P F (side m)) i s.members (all_members (SideOk P F) s.members h.0)),
                law.calling.on_removed s.receive _ _ (λ Q own. own_packets_all Q own (id_of m) s.receive.pending) h.1,
              );
          retires = λ s id base p is e h. (h.0, law.calling.on_removed s.receive _ _ (λ Q own. all_such_that Q _ s.receive.pending) h.1);
          takes = λ payload takes free h. h;
          puts = λ s cell payload takes accepted short unused h. (h.0, law.on_put s.receive _ cell payload (unused_elsewhere cell s unused).1 h.1);
          lets_go = λ s cell h. h;
          queues_data =
              λ s i m cell d payload is accepted at full unfit short h.
              (changed_sides i _ s.members (λ x. enqueue_ok _ x (λ e. fitting _ (queued_sequence_fits (id_of m) d unfit))) h.0, h.1);
          queues_event =
              λ s i m id kind reason is at full some_kind known fits h.
              (changed_sides i _ s.members (λ x. enqueue_ok _ x (λ e. not_both e some_kind)) h.0, h.1);
          numbers = λ s sequence h. h;
          remembers = λ s i m e at next short fits h. h;
          trims = λ s l h. h;
        }

  -- ---- lists of calls

  -- between two calls: log are all marks so far
  pub record Holds (s : State) (log : List Mark) : Type 0 where
    pub sides_ok : All (SideOk P F) (sides s.members)
    pub kept : I s.receive log

  pub call_holds : (call : Asked) (s : State) (log : List Mark) → Holds s log
      → Holds (do_call call s).state ((do_call call s).log ++ log)
  unfolding do_call
  call_holds call s log h =
      let k = call_keeps (Goes_on log) call.call call.lent s (receiving_moves log _) (h.sides_ok, h.kept) in record { sides_ok = k.0; kept = k.1 }

  pub calls_hold : (calls : List Asked) (s : State) (log : List Mark) → Holds s log
      → Holds (state_after calls s) (log_after calls s ++ log)
  unfolding state_after log_after
  calls_hold [] s log h = h
  calls_hold (call ∷ more) s log h =
      rw append_assoc (calls_hold more (do_call call s).state ((do_call call s).log ++ log) (call_holds call s log h))
