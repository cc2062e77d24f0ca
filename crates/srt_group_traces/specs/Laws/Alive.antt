-- What is alive, through a call: what is known of each queued and held packet, by its leg, its data and the marks so far, where each
-- mark keeps it; a payload is put only into a cell that nothing alive has. An instance of the model's law of calls.
use Rattle.std.specs.Prelude.{◌≡◌, refl, true, false, List, [], ◌∷◌, ℕ, ◌≤◌, eqb, length, None, Option, Some}
use Rattle.std.proofs.Common.{sym, subst}
use Rattle.srt_protocol.specs.Cells.{cell_size}
use Rattle.srt_group_model.specs.Tools.{All}
use Rattle.srt_group_model.specs.State.{Member, State}
use Rattle.srt_group_model.specs.Members.{id_of}
use Rattle.srt_group_model.specs.Nearest.{held_at}
use Rattle.srt_group_model.specs.Cells.{is_data}
use Rattle.srt_group_model.specs.Run.{Mark, put, base_set, collected, gap_skipped, delivered}
use Rattle.srt_group_model.specs.Collecting.{front}
use Rattle.srt_group_model.specs.Delivery.{deliver_packet, pass_run, skip_to}
use Rattle.srt_group_model.specs.Removal.{retire, take_out}
use Rattle.srt_group_model.specs.Calls.{new_member, no_free_cell, taken_cell, data_event}
use Rattle.srt_group_model.specs.Lent.{Lent, Call, call_queue_data, perform}
use Rattle.srt_group_model.specs.declared.Data.{Data}
use Rattle.srt_group_model.specs.declared.Event.{Event}
use Rattle.srt_group_model.specs.declared.Packet.{Packet}
use Rattle.srt_group_model.specs.Laws.Reason.{all_append, not_both}
use Rattle.srt_group_model.specs.Laws.Queues.{Relabelled, AllRelabelled, pop, packet_of}
use Rattle.srt_group_model.specs.Laws.CallLaw.{InFront, RefreshLaw, CollectLaw, PollLaw, Calling, called, TakesCell, queues_it, CallLaw}
use Rattle.srt_group_model.specs.Laws.EveryCall.{call_keeps}
use Rattle.srt_group_model.specs.Laws.MemberMoves.{moved_relabelled}
use Rattle.srt_group_model.specs.Laws.Released.{deliver_relabelled}
use Rattle.srt_group_traces.specs.Laws.Cases.{each_at, each_at_place, all_change, all_change_at, all_drop, all_such_that, all_without_place, each_to_all}
use Rattle.srt_group_traces.specs.Laws.Law.{ElsewhereThan, Queued, LiveAt}
use Rattle.srt_group_traces.specs.Laws.FreeCells.{unused_elsewhere}
use Rattle.srt_group_traces.specs.Laws.Held.{insert_all, held_at_all, not_covered_all}
use Rattle.srt_group_traces.specs.Laws.CallWalk.{own_packets_all}
use Rattle.srt_group_traces.specs.Laws.CallMarks.{Only}

-- ---- what is alive, by another fact

abbrev Of : (ℕ → Data → Type 0) → Packet → Type 0
Of Q p = Q p.member p.content

module _ (A B C : ℕ → Data → Type 0) (f : (leg : ℕ) (d : Data) → A leg d → B leg d → C leg d) where
  events_both : (leg : ℕ) (q : List Event) → All (λ (e : Event). is_data e ≡ true → A leg e.content) q → All (λ (e : Event). is_data e ≡ true → B leg e.content) q
      → All (λ (e : Event). is_data e ≡ true → C leg e.content) q
  events_both leg [] h k = tt
  events_both leg (e ∷ q) h k = ((λ t. f leg e.content (h.0 t) (k.0 t)), events_both leg q h.1 k.1)

  queues_both : (ms : List Member) → All (Queued A) ms → All (Queued B) ms → All (Queued C) ms
  queues_both [] h k = tt
  queues_both (m ∷ ms) h k = (events_both (id_of m) m.queue h.0 k.0, queues_both ms h.1 k.1)

  held_both : (ps : List Packet) → All (Of A) ps → All (Of B) ps → All (Of C) ps
  held_both [] h k = tt
  held_both (p ∷ ps) h k = (f p.member p.content h.0 k.0, held_both ps h.1 k.1)

  live_both : (s : State) → LiveAt A s → LiveAt B s → LiveAt C s
  live_both s h k = (queues_both s.members h.0 k.0, held_both s.receive.pending h.1 k.1)

pub live_map : (A B : ℕ → Data → Type 0) → ((leg : ℕ) (d : Data) → A leg d → B leg d) → (s : State) → LiveAt A s → LiveAt B s
live_map A B f s h = live_both A A B (λ leg d a b. f leg d a) s h h

-- ---- the law

-- an accepted call puts its payload into the cell that it has taken
pub record PutsIn (k : Calling) (cell : ℕ) (payload : List ℕ) : Type 0 where
  pub takes : TakesCell k.call payload
  pub accepted : k.code ≡ 0
  pub short : length payload ≤ cell_size
  pub is : cell ≡ taken_cell k.cells k.from
  pub free : no_free_cell k.cells k.from ≡ false

-- Q: what is known of each live packet, by the marks so far. X: what is known of the marks.
module _ (k : Calling) (Q : List Mark → ℕ → Data → Type 0) (X : List Mark → Type 0) where
  abbrev pub Known : List Mark → Mark → Type 0
  Known m (put cell payload) = PutsIn k cell payload
  Known m (base_set base) = Unit {0}
  Known m (collected p) = Q m p.member p.content
  Known m (gap_skipped tested time distance) = Unit {0}
  Known m (delivered p) = Q m p.member p.content

  pub record LiveLaw : Type 0 where
    pub marks : (m : List Mark) (mark : Mark) → Known m mark → X m → X (mark ∷ m)
    -- a mark other than a put leaves it, and a put into another cell
    pub stays : (m : List Mark) (mark : Mark) → Only ⊥ (Unit {0}) mark → (leg : ℕ) (d : Data) → Q m leg d → Q (mark ∷ m) leg d
    pub puts : (m : List Mark) (cell : ℕ) (payload : List ℕ) → PutsIn k cell payload → X m → (leg : ℕ) (d : Data) → ElsewhereThan cell d → Q m leg d → Q (put cell payload ∷ m) leg d
    -- the packet that the call queues
    pub queues : (m : List Mark) (cell leg : ℕ) (d : Data) (payload : List ℕ) → k.call ≡ call_queue_data leg d payload → PutsIn k cell payload → X (put cell payload ∷ m)
        → Q (put cell payload ∷ m) leg (data_event cell (length payload) d).content

  -- ---- one call

  module _ (law : LiveLaw) where
    -- the cell in hand is the one that was taken
    abbrev Taken : Option ℕ → Type 0
    Taken None = Unit {0}
    Taken (Some cell) = (cell ≡ taken_cell k.cells k.from) × (no_free_cell k.cells k.from ≡ false)

    abbrev pub Lives : Option ℕ → State → List Mark → Type 0
    Lives hand s m = Taken hand × LiveAt (Q m) s × X m

    again : (m : List Mark) (mark : Mark) (s : State) → Only ⊥ (Unit {0}) mark → LiveAt (Q m) s → LiveAt (Q (mark ∷ m)) s
    again m mark s other = live_map (Q m) (Q (mark ∷ m)) (law.stays m mark other) s

    relabelled : (R : ℕ → Data → Type 0) (ms ns : List Member) → AllRelabelled ms ns → All (Queued R) ms → All (Queued R) ns
    relabelled R =
        each_to_all Relabelled (Queued R)
        (λ a b r h.
        subst (λ (leg : ℕ). All (λ (e : Event). is_data e ≡ true → R leg e.content) b.queue) (sym r.id)
        (subst (All (λ (e : Event). is_data e ≡ true → R (id_of a) e.content)) (sym r.queue) h))

    popped : (R : ℕ → Data → Type 0) (m : Member) → Queued R m → Queued R (pop m)
    popped R m h = all_drop (λ (e : Event). is_data e ≡ true → R (id_of m) e.content) 1 m.queue h

    front_known : (R : ℕ → Data → Type 0) (s : State) (i : ℕ) (m : Member) (e : Event) → InFront s i m e → eqb e.kind 0 ≡ true → All (Queued R) s.members → R (id_of m) e.content
    front_known R s i m e f d h =
        each_at (λ (e : Event). is_data e ≡ true → R (id_of m) e.content) (front m.queue) e f.first
        (each_at_place (λ (e : Event). is_data e ≡ true → R (id_of m) e.content) 0 m.queue
        (each_at (Queued R) _ m f.stands (each_at_place (Queued R) i s.members h))) d

    live_refreshes : RefreshLaw Lives
    live_refreshes =
        record {
          moves = λ {hand} {log} s i m f at move h. (h.0, (relabelled (Q log) s.members _ (moved_relabelled i m f s.members at move) h.1.0, h.1.1), h.2);
          binds = λ s i m at a unbound h. h;
          sets_base = λ s b e source h. (h.0, again _ (base_set b) s tt h.1, law.marks _ (base_set b) tt h.2);
        }

    live_collects : CollectLaw Lives
    live_collects =
        record {
          continues = λ s b h. h;
          turns = λ s i m at h. h;
          discards =
              λ {hand} {log} s i m e f d g h.
              let p = packet_of m e in
              let known = front_known (Q log) s i m e f d h.1.0 in
              let live = again log (collected p) s tt h.1 in
              (h.0, (all_change (Queued (Q (collected p ∷ log))) i _ s.members (popped (Q (collected p ∷ log))) live.0, live.1), law.marks log (collected p) known h.2);
          holds =
              λ {hand} {log} s i m e f d g h.
              let p = packet_of m e in
              let known = front_known (Q log) s i m e f d h.1.0 in
              let live = again log (collected p) s tt h.1 in (
                h.0,
                (
                  all_change (Queued (Q (collected p ∷ log))) i _ s.members (popped (Q (collected p ∷ log))) live.0,
                  insert_all (Of (Q (collected p ∷ log))) p s.receive.pending (law.stays log (collected p) tt (id_of m) e.content known) live.1,
                ),
                law.marks log (collected p) known h.2,
              );
          reports = λ {hand} {log} s i m e f d few h. (h.0, (all_change (Queued (Q log)) i pop s.members (popped (Q log)) h.1.0, h.1.1), h.2);
        }

    live_polls : PollLaw Lives
    unfolding deliver_packet pass_run skip_to
    live_polls =
        record {
          gives = λ s h. h;
          skips =
              λ s base p tested time b n near h.
              (h.0, again _ (gap_skipped tested time _) s tt h.1, law.marks _ (gap_skipped tested time _) tt h.2);
          delivers =
              λ {hand} {log} s base p b there h.
              let live = again log (delivered p) s tt h.1 in
              let known = each_at (Of (Q log)) (held_at base s.receive.pending) p there (held_at_all (Of (Q log)) base s.receive.pending h.1.1) in (
                h.0,
                (
                  relabelled (Q (delivered p ∷ log)) s.members _ (deliver_relabelled base p s) live.0,
                  not_covered_all (Of (Q (delivered p ∷ log))) base p.content.count s.receive.pending live.1,
                ),
                law.marks log (delivered p) known h.2,
              );
        }

    live_moves : CallLaw k Lives
    unfolding take_out retire new_member
    live_moves =
        record {
          refreshing = live_refreshes;
          collecting = λ poll. live_collects;
          polling = λ poll. live_polls;
          joins = λ {hand} {log} s id weight l queue is j h. (h.0, (all_append (Queued (Q log)) s.members _ h.1.0 (tt, tt), h.1.1), h.2);
          leaves =
              λ {hand} {log} s i m is at h.
              (h.0, (all_without_place (Queued (Q log)) i s.members h.1.0, own_packets_all (Of (Q log)) (λ p q. q) (id_of m) s.receive.pending h.1.1), h.2);
          retires = λ {hand} {log} s id base p is e h. (h.0, (h.1.0, all_such_that (Of (Q log)) _ s.receive.pending h.1.1), h.2);
          takes = λ payload takes free h. ((refl, free), h.1, h.2);
          puts =
              λ {log} s cell payload takes accepted short unused h.
              let puts : PutsIn k cell payload = record { takes = takes; accepted = accepted; short = short; is = h.0.0; free = h.0.1 } in (
                h.0,
                live_both (λ (leg : ℕ). ElsewhereThan cell) (Q log) (Q (put cell payload ∷ log)) (law.puts log cell payload puts h.2) s (unused_elsewhere cell s unused) h.1,
                law.marks log (put cell payload) puts h.2,
              );
          lets_go = λ s cell h. (tt, h.1, h.2);
          queues_data =
              λ {log} s i m cell d payload is accepted at full unfit short h.
              let puts : PutsIn k cell payload = record { takes = queues_it (id_of m) d is; accepted = accepted; short = short; is = h.0.0; free = h.0.1 } in (
                tt,
                (
                  all_change_at (Queued (Q (put cell payload ∷ log))) i _ s.members m at
                      (λ q. all_append _ m.queue _ q ((λ t. law.queues log cell (id_of m) d payload is puts h.2), tt)) h.1.0,
                  h.1.1,
                ),
                h.2,
              );
          queues_event =
              λ {hand} {log} s i m id kind reason is at full some_kind known fits h.
              (h.0, (all_change (Queued (Q log)) i _ s.members (λ x q. all_append _ x.queue _ q ((λ t. not_both t some_kind), tt)) h.1.0, h.1.1), h.2);
          numbers = λ s sequence h. h;
          remembers = λ s i m e at next short fits h. (tt, h.1, h.2);
          trims = λ s l h. h;
        }

-- what is alive after a call, and what is known of its marks
pub call_lives : (c : Call) (lent : Lent) (s : State) (Q : List Mark → ℕ → Data → Type 0) (X : List Mark → Type 0) → LiveLaw (called c lent s) Q X
    → LiveAt (Q []) s → X [] → LiveAt (Q (perform c lent s).log) (perform c lent s).state × X (perform c lent s).log
call_lives c lent s Q X law h x =
    let k = call_keeps (Lives (called c lent s) Q X law) c lent s (live_moves (called c lent s) Q X law) (tt, h, x) in (k.1, k.2)
