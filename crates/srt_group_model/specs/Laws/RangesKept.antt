-- Every number of a state stays in its range over the polls.
use Rattle.std.specs.Prelude.{◌≡◌, Bool, true, false, ◌&&◌, List, [], ◌∷◌, ℕ, ◌≤◌, eqb, length, drop, None, Option, Some}
use Rattle.std.proofs.Common.{sym, ap, subst, ◌∙◌, arith, ltb-false}
use Rattle.srt_group_model.specs.Tools.{is_set, or_else, at_place, All}
use Rattle.srt_group_model.specs.Laws.Reason.{if_elim, if_some_elim, none_some, some_inj, or_left, or_right, all_each, each_to_all}
use Rattle.srt_group_model.specs.State.{Member, Receive, Send, State, next_send_sequence, with_receive, with_send, with_visit, with_members, with_waiting, with_peer, on_leg}
use Rattle.srt_group_model.specs.Legs.{advance_receive_sequence, largest_sequence, largest_32}
use Rattle.srt_group_model.specs.Nearest.{lowest, nearest}
use Rattle.srt_group_model.specs.Collecting.{front}
use Rattle.srt_group_model.specs.Delivery.{deliver_packet, pass_run}
use Rattle.srt_group_model.specs.Backup.{max_history}
use Rattle.srt_group_model.specs.Validity.{any_above, event_words, is_too_large, data_out_of_range, event_out_of_range}
use Rattle.srt_group_model.specs.Laws.InRange.{in_range_of}
use Rattle.srt_group_model.specs.Laws.Queues.{pop, packet_of, waiting_of}
use Rattle.srt_group_model.specs.Sound.{EventFit, MemberFit, AllFit, PacketFit, EntryFit, WaitingFit, ReceivingFit, SendingFit, Fit}
use Rattle.srt_group_model.specs.Laws.Ranges.{further_fits, OptionFit, flagged_fit}
use Rattle.srt_group_model.specs.declared.Event.{Event}
use Rattle.srt_group_model.specs.declared.Packet.{Packet}
use Rattle.srt_group_model.specs.declared.Account.{Account}
use Rattle.srt_group_model.specs.declared.Waiting.{Waiting}
use Rattle.srt_group_model.specs.declared.Visit.{Visit}
use Rattle.srt_group_model.specs.Laws.Released.{recounted, Recounted, Released, run_passed, deliver_released}
use Rattle.srt_group_model.specs.Laws.Weights.{all_such_that}

pub number_fit : (s : State) → Fit s → OptionFit (next_send_sequence s.send)
number_fit s h = flagged_fit (is_set s.send.numbers.numbered) s.send.numbers.next h.sending.next

-- ---- collecting

pub drop_fit : {A : Type 0} (P : A → Type 0) (l : List A) → All P l → All P (drop 1 l)
drop_fit P [] h = tt
drop_fit P (x ∷ l) h = h.1

pub drop_short : {A : Type 0} (l : List A) → length (drop 1 l) ≤ length l
drop_short [] = omega arith
drop_short (x ∷ l) = omega arith

pub pop_fit : (m : Member) → MemberFit m → MemberFit (pop m)
pop_fit m h =
    record {
      leg = h.leg;
      id = h.id;
      weight = h.weight;
      state = h.state;
      admitted = h.admitted;
      expected = h.expected;
      actual = h.actual;
      queue = drop_fit EventFit m.queue h.queue;
      short = omega (arith, h.short, drop_short m.queue);
    }

-- of what is counted and recorded of a member, only the number that its leg records has a range
pub recounted_fit : (account : Account) (reservation n : ℕ) (m : Member) → n ≤ largest_sequence → MemberFit m → MemberFit (on_leg (advance_receive_sequence n) (recounted account reservation m))
recounted_fit account reservation n m b h =
    let l = h.leg in
    record {
      leg =
          record {
            state = l.state;
            peer = l.peer;
            limit = l.limit;
            started = l.started;
            flight = l.flight;
            no_flight = l.no_flight;
            window = l.window;
            oldest = l.oldest;
            pace = l.pace;
            receive_window = l.receive_window;
            latency = l.latency;
            srtt = l.srtt;
            rttvar = l.rttvar;
            heard = l.heard;
            connects = l.connects;
            next = l.next;
            advanced = b;
            first = l.first;
          };
      id = h.id;
      weight = h.weight;
      state = h.state;
      admitted = h.admitted;
      expected = h.expected;
      actual = h.actual;
      queue = h.queue;
      short = h.short;
    }

pub advance_leg_fit : (n : ℕ) (m : Member) → n ≤ largest_sequence → MemberFit m → MemberFit (on_leg (advance_receive_sequence n) m)
advance_leg_fit n m = recounted_fit m.membership.account m.leg.receiver.reserved n m

pub counted_fit : (account : Account) (reservation : ℕ) (m : Member) → MemberFit m → MemberFit (recounted account reservation m)
counted_fit account reservation m h = recounted_fit account reservation m.leg.receiver.advanced m h.leg.advanced h

pub front_fit : (q : List Event) (e : Event) → front q ≡ Some e → All EventFit q → EventFit e
unfolding at_place
front_fit [] e f h = none_some f
front_fit (x ∷ q) e f h = subst EventFit (some_inj f) h.0

-- a packet that is collected
pub packet_fit : (m : Member) (e : Event) → MemberFit m → EventFit e → eqb e.kind 0 ≡ true → PacketFit (packet_of m e)
unfolding event_out_of_range
packet_fit m e h k d =
    let rest = or_right (any_above (event_words e)) _ k.fields in
    record {
      member = h.id;
      owned = omega arith;
      fields = ap (λ (b : Bool). b && data_out_of_range e.content) (sym d) ∙ rest;
      sequence = ltb-false largest_sequence e.content.sequence (ap (λ (b : Bool). b && is_too_large e.content.sequence) (sym d) ∙ k.sequence);
    }

-- an event that is reported
pub waiting_fit : (m : Member) (e : Event) → MemberFit m → EventFit e → eqb e.kind 0 ≡ false → WaitingFit (waiting_of m e)
unfolding event_out_of_range event_words
waiting_fit m e h k d =
    let words = in_range_of (event_words e) (or_left (any_above (event_words e)) _ k.fields) in
    record { member = h.id; kind = words.0; some_kind = d; reason = words.1.0 }

-- ---- one part is changed

pub members_fit : (ms : List Member) (s : State) → AllFit ms → Fit s → Fit (with_members ms s)
members_fit ms s k h =
    record { members = k; pending = h.pending; history = h.history; remembered = h.remembered; waiting = h.waiting; receiving = h.receiving; sending = h.sending; continuation = h.continuation; peer = h.peer }

pub receive_fit : (x : Receive) (s : State) → All PacketFit x.pending → ReceivingFit x.numbers → Fit s → Fit (with_receive x s)
receive_fit x s k b h =
    record { members = h.members; pending = k; history = h.history; remembered = h.remembered; waiting = h.waiting; receiving = b; sending = h.sending; continuation = h.continuation; peer = h.peer }

pub sending_fit : (x : Send) (s : State) → All EntryFit x.history → length x.history ≤ max_history → SendingFit x.numbers → Fit s → Fit (with_send x s)
sending_fit x s k r n h =
    record { members = h.members; pending = h.pending; history = k; remembered = r; waiting = h.waiting; receiving = h.receiving; sending = n; continuation = h.continuation; peer = h.peer }

pub events_fit : (ws : List Waiting) (s : State) → All WaitingFit ws → Fit s → Fit (with_waiting ws s)
events_fit ws s k h =
    record { members = h.members; pending = h.pending; history = h.history; remembered = h.remembered; waiting = k; receiving = h.receiving; sending = h.sending; continuation = h.continuation; peer = h.peer }

pub peer_fit : (n : ℕ) (s : State) → n ≤ largest_32 → Fit s → Fit (with_peer n s)
peer_fit n s k h =
    record { members = h.members; pending = h.pending; history = h.history; remembered = h.remembered; waiting = h.waiting; receiving = h.receiving; sending = h.sending; continuation = h.continuation; peer = k }

pub visit_fit : (v : Visit) (s : State) → v.continuation ≤ 1 → Fit s → Fit (with_visit v s)
visit_fit v s k h =
    record { members = h.members; pending = h.pending; history = h.history; remembered = h.remembered; waiting = h.waiting; receiving = h.receiving; sending = h.sending; continuation = k; peer = h.peer }

-- ---- delivery

released_fit : (s t : State) → Released s t → Fit s → Fit t
released_fit s t r h =
    record {
      members =
          each_to_all Recounted MemberFit (λ m n k f. subst MemberFit (sym k.is) (counted_fit k.account k.reservation m f)) s.members t.members r.members h.members;
      pending = subst (λ (x : Receive). All PacketFit x.pending) (sym r.receive) h.pending;
      history = subst (λ (x : Send). All EntryFit x.history) (sym r.send) h.history;
      remembered = subst (λ (x : Send). length x.history ≤ max_history) (sym r.send) h.remembered;
      waiting = subst (All WaitingFit) (sym r.waiting) h.waiting;
      receiving = subst (λ (x : Receive). ReceivingFit x.numbers) (sym r.receive) h.receiving;
      sending = subst (λ (x : Send). SendingFit x.numbers) (sym r.send) h.sending;
      continuation = subst (λ (v : Visit). v.continuation ≤ 1) (sym r.visit) h.continuation;
      peer = subst (λ (n : ℕ). n ≤ largest_32) (sym r.peer) h.peer;
    }

pub delivers_fit : (s : State) (base : ℕ) (p : Packet) → Fit s → Fit (deliver_packet base p s)
unfolding pass_run
delivers_fit s base p h =
    let further = further_fits base p.content.count in
    released_fit (run_passed base p s) (deliver_packet base p s) (deliver_released base p s)
    (receive_fit (pass_run base p s.receive) _ (all_such_that PacketFit _ s.receive.pending h.pending) record { based = omega arith; base = further }
    (members_fit _ s (all_each MemberFit _ (λ m k. advance_leg_fit _ m further k) s.members h.members) h))

abbrev PacketGives : Option Packet → Type 0
PacketGives o = (p : Packet) → o ≡ Some p → PacketFit p

lowest_fit : (ps : List Packet) → All PacketFit ps → PacketGives (lowest ps)
unfolding lowest
lowest_fit [] h = λ p e. none_some e
lowest_fit (q ∷ qs) h =
    if_some_elim PacketGives _ _ _
    (λ r g p e.
    if_elim (λ (x : Packet). x ≡ p → PacketFit p) _ _ _ (λ t k. subst PacketFit k h.0) (λ t k. subst PacketFit k (lowest_fit qs h.1 r g)) (some_inj e))
    (λ g p e. subst PacketFit (some_inj e) h.0)

or_else_fit : (a b : Option Packet) → PacketGives a → PacketGives b → PacketGives (or_else a b)
unfolding or_else
or_else_fit None b f g = g
or_else_fit (Some x) b f g = f

pub nearest_fit : (ps : List Packet) → All PacketFit ps → PacketGives (nearest ps)
unfolding nearest
nearest_fit ps h =
    if_some_elim PacketGives _ _ _
    (λ low g.
    or_else_fit _ (Some low) (lowest_fit _ (all_such_that PacketFit _ ps h)) (λ p e. subst PacketFit (some_inj e) (lowest_fit ps h low g)))
    (λ g p e. none_some e)
