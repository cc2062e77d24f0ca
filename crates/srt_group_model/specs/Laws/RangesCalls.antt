-- Every number of a state stays in its range over every call.
use Rattle.std.specs.Prelude.{◌≡◌, refl, Bool, true, false, not, ◌&&◌, List, [], ◌∷◌, ℕ, zero, suc, ◌≤◌, ◌<◌, leb, eqb, length, drop, None, Option, Some}
use Rattle.std.proofs.Common.{sym, ap, subst, ◌∙◌, arith, eqb-true, eq-eqb, ltb-false, le-ltb, leb-true, leb-false, length-append}
use Rattle.std.proofs.lemmas.Bool.{not-false}
use Rattle.srt_protocol.specs.Sequence.{sequence_distance, sequence_further}
use Rattle.srt_protocol.specs.Cells.{cell_size}
use Rattle.srt_group_model.specs.Tools.{if_true◌then◌else◌, if_some◌give◌otherwise◌, at_place, change, each, without_place, All, any}
use Rattle.srt_group_model.specs.Laws.Flag.{bit_most}
use Rattle.srt_group_model.specs.Laws.Reason.{if_elim, by_test, not_both, none_some, some_inj, and_left, and_right, or_left, or_right, no_either, first_such_of, all_append, neither, all_at}
use Rattle.srt_group_model.specs.State.{Member, Send, State, next_send_sequence, with_receive, with_send, with_members, on_leg, based_at}
use Rattle.srt_group_model.specs.Legs.{Reading, readings, reading_of, goes_back, read_state, acknowledge, handed, disconnect_leg, add_reservation, has_sender, is_connected, oldest_unacked_sequence, largest_sequence, largest_16, largest_32, largest_64, no_sequence}
use Rattle.srt_group_model.specs.Members.{id_of}
use Rattle.srt_group_model.specs.Nearest.{sequence_of, nearest}
use Rattle.srt_group_model.specs.Delivery.{skip_to}
use Rattle.srt_group_model.specs.Removal.{own_packet, retire, take_out}
use Rattle.srt_group_model.specs.Backup.{max_history, drop_before, trim_backup_history, append_history}
use Rattle.srt_group_model.specs.Validity.{above, any_above, data_words, leg_words, is_too_large, max_queued, data_out_of_range, event_out_of_range, leg_out_of_range, leg_sequence_too_large, event_words}
use Rattle.srt_group_model.specs.Calls.{queue_full, enqueue, data_event, data_unfit, no_data, reading_out_of_range, read_field, state_at_addition, new_member, lifecycle_event}
use Rattle.srt_group_model.specs.Lent.{Lent, Call, perform}
use Rattle.srt_group_model.specs.Laws.InRange.{in_range_of, of_in_range}
use Rattle.srt_group_model.specs.Laws.Queues.{pop, packet_of}
use Rattle.srt_group_model.specs.Laws.Steps.{StateLaw, state_law_of}
use Rattle.srt_group_model.specs.Laws.CallLaw.{MemberMove, unmoved, turn, admission, colliding, alignment, catching_up, leg_send, leg_end, leg_reading, advance, BaseSource, first_of, nearest_held, InFront, reported, Calling, RefreshLaw, CollectLaw, PollLaw, CallLaw}
use Rattle.srt_group_model.specs.Laws.EveryCall.{call_keeps}
use Rattle.srt_group_model.specs.Laws.Acknowledging.{acknowledged_less}
use Rattle.srt_group_model.specs.Sound.{LegFit, EventFit, MemberFit, AllFit, PacketFit, EntryFit, WaitingFit, ReceivingFit, SendingFit, Fit}
use Rattle.srt_group_model.specs.Laws.Ranges.{further_fits, synchronize_fit, send_fit, align_leg_fit, turned_fit, with_leg_fit, at_change_fit, source_fit, first_fit, admitted_fit, collided_fit}
use Rattle.srt_group_model.specs.Laws.RangesKept.{number_fit, drop_fit, pop_fit, advance_leg_fit, front_fit, packet_fit, waiting_fit, members_fit, receive_fit, sending_fit, events_fit, peer_fit, visit_fit, delivers_fit, nearest_fit, counted_fit}
use Rattle.srt_group_model.specs.declared.Leg.{Leg}
use Rattle.srt_group_model.specs.declared.Data.{Data}
use Rattle.srt_group_model.specs.declared.Event.{Event}
use Rattle.srt_group_model.specs.declared.Packet.{Packet}
use Rattle.srt_group_model.specs.declared.Entry.{Entry}
use Rattle.srt_group_model.specs.Laws.Weights.{all_such_that, inserted_all}

-- ---- readings

state_read_fit : (n : ℕ) (l : Leg) → n ≤ 2 → LegFit l → LegFit (read_state n l)
state_read_fit n l b h =
    by_test (eqb n 1)
    (λ e. read (if_elim (λ (k : ℕ). k ≡ 1) (eqb n 1) 1 l.sender.started (λ g. refl) (λ g. not_both e g)))
    (λ e. kept e (if_elim (λ (k : ℕ). k ≡ l.sender.started) (eqb n 1) 1 l.sender.started (λ g. not_both g e) (λ g. refl)))
  where
    read : (if_true eqb n 1 then 1 else l.sender.started) ≡ 1 → LegFit (read_state n l)
    read s =
        record { state = b; peer = h.peer; limit = h.limit; started = omega (arith, s); flight = h.flight; no_flight = λ g. not_both (eq-eqb (if_true eqb n 1 then 1 else l.sender.started) 1 s) g; window = h.window; oldest = h.oldest; pace = h.pace; receive_window = h.receive_window; latency = h.latency; srtt = h.srtt; rttvar = h.rttvar; heard = h.heard; connects = λ g. eq-eqb (if_true eqb n 1 then 1 else l.sender.started) 1 s; next = h.next; advanced = h.advanced; first = h.first }

    kept : eqb n 1 ≡ false → (if_true eqb n 1 then 1 else l.sender.started) ≡ l.sender.started → LegFit (read_state n l)
    kept e s =
        record { state = b; peer = h.peer; limit = h.limit; started = omega (arith, s, h.started); flight = h.flight; no_flight = λ g. h.no_flight (ap (λ (k : ℕ). eqb k 1) (sym s) ∙ g); window = h.window; oldest = h.oldest; pace = h.pace; receive_window = h.receive_window; latency = h.latency; srtt = h.srtt; rttvar = h.rttvar; heard = h.heard; connects = λ g. not_both g e; next = h.next; advanced = h.advanced; first = h.first }

acknowledge_fit : (n : ℕ) (l : Leg) → n ≤ largest_sequence → goes_back 5 n l ≡ false → LegFit l → LegFit (acknowledge n l)
unfolding goes_back oldest_unacked_sequence
acknowledge_fit n l b g h =
    let taken = not-false (has_sender l && leb (sequence_distance (sequence_distance l.sender.flight l.sender.next) n) l.sender.flight) g in
    let sends = and_left (has_sender l) _ taken in
    let less =
    acknowledged_less l.sender.flight l.sender.next n h.flight h.next b
    (leb-true (sequence_distance (sequence_distance l.sender.flight l.sender.next) n) l.sender.flight (and_right (has_sender l) _ taken))
    in
    record { state = h.state; peer = h.peer; limit = h.limit; started = h.started; flight = omega (arith, less, h.flight); no_flight = λ e. not_both sends e; window = h.window; oldest = h.oldest; pace = h.pace; receive_window = h.receive_window; latency = h.latency; srtt = h.srtt; rttvar = h.rttvar; heard = h.heard; connects = h.connects; next = h.next; advanced = h.advanced; first = h.first }

-- what a row of the table reads keeps a leg in its ranges
ReadsFit : Reading → Type 0
ReadsFit r = (n : ℕ) (l : Leg) → above r.largest n ≡ false → goes_back r.field n l ≡ false → LegFit l → LegFit (r.put n l)

readings_fit : All ReadsFit readings
unfolding readings ReadsFit
readings_fit = (
  (λ n l b g h. state_read_fit n l (ltb-false 2 n b) h),
  (
    (λ n l b g h. record { state = h.state; peer = h.peer; limit = h.limit; started = h.started; flight = h.flight; no_flight = h.no_flight; window = ltb-false largest_16 n b; oldest = h.oldest; pace = h.pace; receive_window = h.receive_window; latency = h.latency; srtt = h.srtt; rttvar = h.rttvar; heard = h.heard; connects = h.connects; next = h.next; advanced = h.advanced; first = h.first }),
    (
      (λ n l b g h. record { state = h.state; peer = h.peer; limit = h.limit; started = h.started; flight = h.flight; no_flight = h.no_flight; window = h.window; oldest = h.oldest; pace = h.pace; receive_window = ltb-false largest_16 n b; latency = h.latency; srtt = h.srtt; rttvar = h.rttvar; heard = h.heard; connects = h.connects; next = h.next; advanced = h.advanced; first = h.first }),
      (
        (λ n l b g h. record { state = h.state; peer = h.peer; limit = h.limit; started = h.started; flight = h.flight; no_flight = h.no_flight; window = h.window; oldest = h.oldest; pace = h.pace; receive_window = h.receive_window; latency = ltb-false largest_64 n b; srtt = h.srtt; rttvar = h.rttvar; heard = h.heard; connects = h.connects; next = h.next; advanced = h.advanced; first = h.first }),
        (
          (λ n l b g h. acknowledge_fit n l (ltb-false largest_sequence n b) g h),
          (
            (λ n l b g h. record { state = h.state; peer = h.peer; limit = h.limit; started = h.started; flight = h.flight; no_flight = h.no_flight; window = h.window; oldest = h.oldest; pace = h.pace; receive_window = h.receive_window; latency = h.latency; srtt = ltb-false largest_32 n b; rttvar = h.rttvar; heard = h.heard; connects = h.connects; next = h.next; advanced = h.advanced; first = h.first }),
            (
              (λ n l b g h. record { state = h.state; peer = h.peer; limit = h.limit; started = h.started; flight = h.flight; no_flight = h.no_flight; window = h.window; oldest = h.oldest; pace = h.pace; receive_window = h.receive_window; latency = h.latency; srtt = h.srtt; rttvar = ltb-false largest_32 n b; heard = h.heard; connects = h.connects; next = h.next; advanced = h.advanced; first = h.first }),
              (
                (λ n l b g h. record { state = h.state; peer = h.peer; limit = h.limit; started = h.started; flight = h.flight; no_flight = h.no_flight; window = h.window; oldest = h.oldest; pace = h.pace; receive_window = h.receive_window; latency = h.latency; srtt = h.srtt; rttvar = h.rttvar; heard = ltb-false largest_64 n b; connects = h.connects; next = h.next; advanced = h.advanced; first = h.first }),
                (
                  (λ n l b g h. record { state = h.state; peer = h.peer; limit = h.limit; started = h.started; flight = h.flight; no_flight = h.no_flight; window = h.window; oldest = h.oldest; pace = ltb-false largest_64 n b; receive_window = h.receive_window; latency = h.latency; srtt = h.srtt; rttvar = h.rttvar; heard = h.heard; connects = h.connects; next = h.next; advanced = h.advanced; first = h.first }),
                  (
                    (λ n l b g h. record { state = h.state; peer = ltb-false largest_32 n b; limit = h.limit; started = h.started; flight = h.flight; no_flight = h.no_flight; window = h.window; oldest = h.oldest; pace = h.pace; receive_window = h.receive_window; latency = h.latency; srtt = h.srtt; rttvar = h.rttvar; heard = h.heard; connects = h.connects; next = h.next; advanced = h.advanced; first = h.first }),
                    (
                      (λ n l b g h. record { state = h.state; peer = h.peer; limit = ltb-false largest_16 n b; started = h.started; flight = h.flight; no_flight = h.no_flight; window = h.window; oldest = h.oldest; pace = h.pace; receive_window = h.receive_window; latency = h.latency; srtt = h.srtt; rttvar = h.rttvar; heard = h.heard; connects = h.connects; next = h.next; advanced = h.advanced; first = h.first }),
                      (
                        (λ n l b g h. record { state = h.state; peer = h.peer; limit = h.limit; started = h.started; flight = h.flight; no_flight = h.no_flight; window = h.window; oldest = ltb-false largest_64 n b; pace = h.pace; receive_window = h.receive_window; latency = h.latency; srtt = h.srtt; rttvar = h.rttvar; heard = h.heard; connects = h.connects; next = h.next; advanced = h.advanced; first = h.first }),
                        tt,
                      ),
                    ),
                  ),
                ),
              ),
            ),
          ),
        ),
      ),
    ),
  ),
)

read_fit : (field n : ℕ) (l : Leg) → reading_out_of_range field n ≡ false → goes_back field n l ≡ false → LegFit l → LegFit (read_field field n l)
unfolding reading_out_of_range read_field reading_of if_some◌give◌otherwise◌ ReadsFit
read_fit field n l b g h = go (reading_of field) refl b
  where
    go : (o : Option Reading) → reading_of field ≡ o → (if_some o give (λ r. above r.largest n) otherwise true) ≡ false
        → LegFit (if_some o give (λ r. r.put n l) otherwise l)
    go None e b = h
    go (Some r) e b =
        let row = first_such_of ReadsFit _ readings r e readings_fit in
        row.0 n l b (subst (λ (k : ℕ). goes_back k n l ≡ false) (sym (eqb-true r.field field row.1)) g) h

-- ---- the history

drop_before_fit : (sequence : ℕ) (es : List Entry) → All EntryFit es → All EntryFit (drop_before sequence es)
unfolding drop_before
drop_before_fit sequence [] h = tt
drop_before_fit sequence (e ∷ es) h = if_elim (All EntryFit) _ _ _ (λ g. drop_before_fit sequence es h.1) (λ g. h)

trim_history_fit : (l : Leg) (x : Send) → All EntryFit x.history → All EntryFit (trim_backup_history l x).history
unfolding trim_backup_history
trim_history_fit l x h = if_elim (λ (y : Send). All EntryFit y.history) _ _ _ (λ e. drop_before_fit _ x.history h) (λ e. h)

drop_before_shorter : (sequence : ℕ) (es : List Entry) → length (drop_before sequence es) ≤ length es
unfolding drop_before
drop_before_shorter sequence [] = omega arith
drop_before_shorter sequence (e ∷ es) =
    if_elim (λ (l : List Entry). length l ≤ suc (length es)) _ _ _ (λ g. omega (arith, drop_before_shorter sequence es)) (λ g. omega arith)

trim_shorter : (l : Leg) (x : Send) → length (trim_backup_history l x).history ≤ length x.history
unfolding trim_backup_history
trim_shorter l x = if_elim (λ (y : Send). length y.history ≤ length x.history) _ _ _ (λ e. drop_before_shorter _ x.history) (λ e. omega arith)

append_most : (carrier : ℕ) (e : Entry) (x : Send) → length x.history ≤ max_history → length (append_history carrier e x).history ≤ max_history
unfolding append_history
append_most carrier e x h =
    let full = leb max_history (length x.history) in
    let front = if_true full then drop 1 x.history else x.history in
    let less : length front < max_history =
    if_elim (λ (l : List Entry). length l < max_history) full (drop 1 x.history) x.history
    (λ g. one_less x.history h) (λ g. leb-false max_history (length x.history) g)
    in
    omega (arith, length-append front (e ∷ []), less)
  where
    one_less : (l : List Entry) → length l ≤ max_history → length (drop 1 l) < max_history
    one_less [] k = omega arith
    one_less (y ∷ l) k = omega arith

trim_numbers_fit : (l : Leg) (x : Send) → SendingFit x.numbers → SendingFit (trim_backup_history l x).numbers
unfolding trim_backup_history
trim_numbers_fit l x h =
    if_elim (λ (y : Send). SendingFit y.numbers) _ _ _
    (λ e. record { numbered = h.numbered; next = h.next; carried = h.carried; carrier = h.carrier; gap = bit_most _ }) (λ e. h)

front_entry_fit : (e : Entry) (es : List Entry) → at_place 0 es ≡ Some e → All EntryFit es → EntryFit e
unfolding at_place
front_entry_fit e [] at h = none_some at
front_entry_fit e (x ∷ es) at h = subst EntryFit (some_inj at) h.0

drop_one_fit : (h : List Entry) → All EntryFit h → All EntryFit (drop 1 h)
drop_one_fit [] k = tt
drop_one_fit (e ∷ es) k = k.1

append_history_fit : (carrier : ℕ) (e : Entry) (x : Send) → EntryFit e → All EntryFit x.history → All EntryFit (append_history carrier e x).history
unfolding append_history
append_history_fit carrier e x k h =
    let full = leb max_history (length x.history) in
    all_append EntryFit (if_true full then drop 1 x.history else x.history) (e ∷ [])
    (if_elim (All EntryFit) full (drop 1 x.history) x.history (λ g. drop_one_fit x.history h) (λ g. h)) (k, tt)

append_numbers_fit : (carrier : ℕ) (e : Entry) (x : Send) → carrier ≤ largest_32 → SendingFit x.numbers → SendingFit (append_history carrier e x).numbers
unfolding append_history
append_numbers_fit carrier e x k h =
    record { numbered = h.numbered; next = h.next; carried = omega arith; carrier = k; gap = h.gap }

-- ---- members and held packets

without_fit : (i : ℕ) (ms : List Member) → AllFit ms → AllFit (without_place i ms)
unfolding without_place
without_fit zero [] h = tt
without_fit (suc i) [] h = tt
without_fit zero (m ∷ ms) h = h.1
without_fit (suc i) (m ∷ ms) h = (h.0, without_fit i ms h.1)

own_fit : (id : ℕ) (ps : List Packet) → All PacketFit ps → All PacketFit (each (own_packet id) ps)
unfolding each own_packet
own_fit id [] h = tt
own_fit id (p ∷ ps) h = (
  if_elim PacketFit _ _ _
      (λ e. record { member = h.0.member; owned = omega arith; fields = h.0.fields; sequence = h.0.sequence }) (λ e. h.0),
  own_fit id ps h.1,
)

new_member_fit : (id weight : ℕ) (l : Leg) (s : State) → id ≤ largest_32 → weight ≤ largest_16 → LegFit l → MemberFit (new_member id weight l s)
unfolding new_member state_at_addition
new_member_fit id weight l s a b h =
    record {
      leg = h;
      id = a;
      weight = b;
      state =
          if_elim (λ (n : ℕ). n ≤ 4) _ _ _
          (λ e. if_elim (λ (n : ℕ). n ≤ 4) _ _ _ (λ g. omega arith) (λ g. omega arith))
          (λ e. if_elim (λ (n : ℕ). n ≤ 4) _ _ _ (λ g. omega arith) (λ g. omega arith));
      admitted = omega arith;
      expected = omega arith;
      actual = omega arith;
      queue = tt;
      short = omega arith;
    }

disconnect_fit : (m : Member) → MemberFit m → MemberFit (on_leg disconnect_leg m)
disconnect_fit m h =
    let l = h.leg in
    record { leg = record { state = omega arith; peer = l.peer; limit = l.limit; started = l.started; flight = l.flight; no_flight = l.no_flight; window = l.window; oldest = l.oldest; pace = l.pace; receive_window = l.receive_window; latency = l.latency; srtt = l.srtt; rttvar = l.rttvar; heard = l.heard; connects = λ e. not_both e refl; next = l.next; advanced = l.advanced; first = l.first }; id = h.id; weight = h.weight; state = h.state; admitted = h.admitted; expected = h.expected; actual = h.actual; queue = h.queue; short = h.short }

read_leg_fit : (field n : ℕ) (m : Member) → reading_out_of_range field n ≡ false → goes_back field n m.leg ≡ false → MemberFit m → MemberFit (on_leg (read_field field n) m)
read_leg_fit field n m b g h = with_leg_fit (read_field field n m.leg) m (read_fit field n m.leg b g h.leg) h

enqueue_fit : (e : Event) (m : Member) → EventFit e → queue_full m ≡ false → MemberFit m → MemberFit (enqueue e m)
enqueue_fit e m k f h =
    record { leg = h.leg; id = h.id; weight = h.weight; state = h.state; admitted = h.admitted; expected = h.expected; actual = h.actual; queue = all_append EventFit m.queue (e ∷ []) h.queue (k, tt); short = omega (arith, length-append m.queue (e ∷ []), leb-false max_queued (length m.queue) f) }

reserve_fit : (n : ℕ) (m : Member) → MemberFit m → MemberFit (on_leg (add_reservation n) m)
reserve_fit n m h =
    let l = h.leg in
    record { leg = record { state = l.state; peer = l.peer; limit = l.limit; started = l.started; flight = l.flight; no_flight = l.no_flight; window = l.window; oldest = l.oldest; pace = l.pace; receive_window = l.receive_window; latency = l.latency; srtt = l.srtt; rttvar = l.rttvar; heard = l.heard; connects = l.connects; next = l.next; advanced = l.advanced; first = l.first }; id = h.id; weight = h.weight; state = h.state; admitted = h.admitted; expected = h.expected; actual = h.actual; queue = h.queue; short = h.short }

data_event_fit : (id cell size : ℕ) (d : Data) → data_unfit id d ≡ false → size ≤ cell_size → EventFit (data_event cell size d)
unfolding data_unfit event_out_of_range event_words data_out_of_range data_words
data_event_fit id cell size d h z =
    let words = in_range_of _ (or_right (eqb d.count 0) _ h) in
    record {
      fields =
          no_either _ _ (of_in_range (event_words (data_event cell size d)) (omega arith, (omega arith, tt)))
          (no_either _ _ (or_left (eqb d.count 0) _ h) (of_in_range _ (z, words.1.1)));
      sequence = le-ltb largest_sequence d.sequence words.1.0;
    }

event_event_fit : (kind reason : ℕ) → eqb kind 0 ≡ false → above 3 kind ≡ false → above largest_32 reason ≡ false → EventFit (lifecycle_event kind reason)
unfolding event_out_of_range event_words any_above any
event_event_fit kind reason a b c =
    record {
      fields = no_either _ _ (no_either _ _ b (no_either _ _ c refl)) (ap (λ (x : Bool). x && data_out_of_range no_data) a);
      sequence = ap (λ (x : Bool). x && is_too_large 0) a;
    }

-- ---- a leg's range as the rules test it

flight_most : (b : Bool) (n : ℕ) → n ≤ (if_true b then largest_16 else 0) → n ≤ largest_16
unfolding if_true◌then◌else◌
flight_most true n h = h
flight_most false n h = omega (arith, h)

flight_none : (b : Bool) (n : ℕ) → n ≤ (if_true b then largest_16 else 0) → b ≡ false → n ≡ 0
unfolding if_true◌then◌else◌
flight_none true n h e = not_both refl e
flight_none false n h e = omega (arith, h)

flight_bound : (b : Bool) (n : ℕ) → n ≤ largest_16 → (b ≡ false → n ≡ 0) → n ≤ (if_true b then largest_16 else 0)
unfolding if_true◌then◌else◌
flight_bound true n h k = h
flight_bound false n h k = omega (arith, k refl)

connect_rule : (a b : Bool) → (a && not b) ≡ false → a ≡ true → b ≡ true
connect_rule true true h e = refl
connect_rule true false h e = not_both refl h
connect_rule false b h e = not_both e refl

rule_connect : (a b : Bool) → (a ≡ true → b ≡ true) → (a && not b) ≡ false
rule_connect true true h = refl
rule_connect true false h = not_both (h refl) refl
rule_connect false b h = refl

pub leg_of_rules : (l : Leg) → leg_out_of_range l ≡ false → leg_sequence_too_large l ≡ false → LegFit l
unfolding leg_out_of_range leg_words leg_sequence_too_large
leg_of_rules l h k =
    let words = in_range_of (leg_words l) (search neither) in
    let flight = flight_most (has_sender l) l.sender.flight (search) in
    let no_flight = flight_none (has_sender l) l.sender.flight (search) in
    let connects = connect_rule (is_connected l) (has_sender l) (search neither) in
    let next = ltb-false largest_sequence l.sender.next (search neither) in
    let advanced = ltb-false largest_sequence l.receiver.advanced (search neither) in
    let first : (is_too_large l.receiver.first && not (eqb l.receiver.first no_sequence)) ≡ false = search neither in
    search

pub rules_of_leg : (l : Leg) → LegFit l → (leg_out_of_range l ≡ false) × (leg_sequence_too_large l ≡ false)
unfolding leg_out_of_range leg_words leg_sequence_too_large
rules_of_leg l h =
    let flight = flight_bound (has_sender l) l.sender.flight h.flight h.no_flight in (
      no_either _ _ (of_in_range (leg_words l) (search)) (rule_connect (is_connected l) (has_sender l) h.connects),
      no_either _ _ (le-ltb largest_sequence l.sender.next h.next)
          (no_either _ _ (le-ltb largest_sequence l.receiver.advanced h.advanced) h.first),
    )

handed_sequences : (l : Leg) → leg_sequence_too_large (handed l) ≡ leg_sequence_too_large l
unfolding leg_sequence_too_large
handed_sequences l = refl

-- ---- every call

move_fit : (s : State) (m n : Member) → MemberMove s m n → Fit s → MemberFit m → MemberFit n
move_fit s m n unmoved h k = k
move_fit s m n (turn state fits stays) h k = turned_fit state m fits k
move_fit s m n (admission e) h k = admitted_fit m k
move_fit s m n (colliding e) h k = collided_fit s.peer m h.peer k
move_fit s m n (alignment sequence l source e) h k =
    with_leg_fit l m (align_leg_fit sequence m.leg (source_fit (next_send_sequence s.send) (id_of m) s.members (number_fit s h) h.members sequence source) k.leg l e) k
move_fit s m n (catching_up entry l there e) h k =
    with_leg_fit l m (synchronize_fit entry.sequence m.leg (front_entry_fit entry s.send.history there h.history).sequence k.leg l e) k
move_fit s m n (leg_send time size sequence l fits e) h k = with_leg_fit l m (send_fit time size sequence m.leg fits k.leg l e) k
move_fit s m n leg_end h k = disconnect_fit m k
move_fit s m n (leg_reading field number fits forth) h k = read_leg_fit field number m fits forth k
move_fit s m n (advance base count) h k = advance_leg_fit (sequence_further base count) m (further_fits base count) k

-- the member at a place is changed
changes_fit : (s : State) (i : ℕ) (m : Member) (f : Member → Member) → at_place i s.members ≡ Some m → (MemberFit m → MemberFit (f m)) → Fit s → Fit (with_members (change i f s.members) s)
changes_fit s i m f at g h =
    members_fit _ s (at_change_fit i f s.members (λ x e. subst (λ (y : Member). MemberFit y → MemberFit (f y)) (some_inj (sym at ∙ e)) g) h.members) h

base_fit : (s : State) (b : ℕ) → BaseSource s b → Fit s → b ≤ largest_sequence
base_fit s b (first_of i m at a e) h = first_fit m.leg (all_at MemberFit i m s.members at h.members).leg b e
base_fit s b (nearest_held p g e) h = subst (λ (n : ℕ). n ≤ largest_sequence) e (nearest_fit s.receive.pending h.pending p g).sequence

-- a base that is set
based_fit : {n total : ℕ} → n ≤ largest_sequence → ReceivingFit (based_at n total)
based_fit h = record { based = omega arith; base = h }

skips_fit : (s : State) (base : ℕ) (p : Packet) → nearest s.receive.pending ≡ Some p → Fit s → Fit (with_receive (skip_to base (sequence_of p) s.receive) s)
unfolding skip_to
skips_fit s base p near h = receive_fit _ s h.pending (based_fit (nearest_fit s.receive.pending h.pending p near).sequence) h

trims_fit : (s : State) (l : Leg) → Fit s → Fit (with_send (trim_backup_history l s.send) s)
trims_fit s l h =
    sending_fit _ s (trim_history_fit l s.send h.history) (omega (arith, trim_shorter l s.send, h.remembered))
    (trim_numbers_fit l s.send h.sending) h

reports_fit : (s : State) (i : ℕ) (m : Member) (e : Event) → InFront s i m e → eqb e.kind 0 ≡ false → Fit s → Fit (reported i m e s)
reports_fit s i m e f d h =
    let mine = all_at MemberFit i m s.members f.stands h.members in
    events_fit _ _ (all_append WaitingFit s.waiting _ h.waiting (waiting_fit m e mine (front_fit m.queue e f.first mine.queue) d, tt))
    (changes_fit s i m pop f.stands (pop_fit m) h)

fit_refreshes : RefreshLaw (λ hand s log. Fit s)
fit_refreshes =
    record {
      moves = λ s i m f at move h. changes_fit s i m f at (move_fit s m (f m) move h) h;
      binds = λ s i m at a unbound h. peer_fit _ s (all_at MemberFit i m s.members at h.members).leg.peer h;
      sets_base = λ s b e source h. receive_fit _ s h.pending (based_fit (base_fit s b source h)) h;
    }

fit_collects : CollectLaw (λ hand s log. Fit s)
fit_collects =
    record {
      continues = λ s b h. visit_fit _ s (bit_most b) h;
      turns = λ s i m at h. visit_fit _ s h.continuation h;
      discards =
          λ s i m e f d g h. changes_fit s i m _ f.stands (λ k. counted_fit _ _ (pop m) (pop_fit m k)) h;
      holds =
          λ s i m e f d g h.
          let mine = all_at MemberFit i m s.members f.stands h.members in
          receive_fit _ _ (inserted_all PacketFit (packet_of m e) s.receive.pending (packet_fit m e mine (front_fit m.queue e f.first mine.queue) d) h.pending) h.receiving
          (changes_fit s i m _ f.stands (λ k. counted_fit _ _ (pop m) (pop_fit m k)) h);
      reports = λ s i m e f d few h. reports_fit s i m e f d h;
    }

fit_polls : PollLaw (λ hand s log. Fit s)
fit_polls =
    record {
      gives = λ s h. events_fit _ s (drop_fit WaitingFit s.waiting h.waiting) h;
      skips = λ s base p tested time b n near h. skips_fit s base p near h;
      delivers = λ s base p b e h. delivers_fit s base p h;
    }

fit_moves : (k : Calling) → CallLaw k (λ hand s log. Fit s)
unfolding take_out retire
fit_moves k =
    record {
      refreshing = fit_refreshes;
      collecting = λ poll. fit_collects;
      polling = λ poll. fit_polls;
      joins =
          λ s id weight l queue is j h.
          members_fit _ s
          (all_append MemberFit s.members _ h.members
          (new_member_fit id weight (handed l) s j.id_fits j.weight_fits (leg_of_rules (handed l) j.leg_fits (handed_sequences l ∙ j.sequences_fit)), tt)) h;
      leaves =
          λ s i m is at h.
          record { members = without_fit i s.members h.members; pending = own_fit (id_of m) s.receive.pending h.pending; history = h.history; remembered = h.remembered; waiting = h.waiting; receiving = h.receiving; sending = h.sending; continuation = h.continuation; peer = h.peer };
      retires =
          λ s id base p is e h.
          record { members = h.members; pending = all_such_that PacketFit _ s.receive.pending h.pending; history = h.history; remembered = h.remembered; waiting = h.waiting; receiving = h.receiving; sending = h.sending; continuation = h.continuation; peer = h.peer };
      takes = λ payload takes free h. h;
      puts = λ s cell payload takes accepted short unused h. h;
      lets_go = λ s cell h. h;
      queues_data =
          λ s i m cell d payload is accepted at full unfit short h.
          changes_fit s i m _ at (λ k. reserve_fit d.count _ (enqueue_fit _ m (data_event_fit (id_of m) cell (length payload) d unfit short) full k)) h;
      queues_event =
          λ s i m id kind reason is at full some_kind known fits h. changes_fit s i m _ at (enqueue_fit _ m (event_event_fit kind reason some_kind known fits) full) h;
      numbers =
          λ s sequence h.
          let x = h.sending in
          sending_fit _ s h.history h.remembered
          record { numbered = omega arith; next = further_fits sequence 1; carried = x.carried; carrier = x.carrier; gap = x.gap } h;
      remembers =
          λ s i m e at next short fits h.
          sending_fit _ s
          (append_history_fit (id_of m) e s.send
          record { sequence = subst (λ (n : ℕ). n ≤ largest_sequence) (sym next) (all_at MemberFit i m s.members at h.members).leg.next; size = short; source = fits } h.history)
          (append_most (id_of m) e s.send h.remembered) (append_numbers_fit (id_of m) e s.send (all_at MemberFit i m s.members at h.members).id h.sending) h;
      trims = λ s l h. trims_fit s l h;
    }

pub fit_law : StateLaw Fit
fit_law =
    state_law_of (λ hand s log. Fit s) Fit fit_refreshes fit_collects fit_polls (λ s log h. h) (λ s log h. h) reports_fit delivers_fit skips_fit
    (λ s p near h. receive_fit _ s h.pending (based_fit (nearest_fit s.receive.pending h.pending p near).sequence) h)

pub fit_kept : (c : Call) (lent : Lent) (s : State) → Fit s → Fit (perform c lent s).state
fit_kept c lent s h = call_keeps (λ hand s log. Fit s) c lent s (fit_moves _) h
