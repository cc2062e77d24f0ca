-- What is proved of the definitions in specs/TakeOver.antt, with what the proofs need.
use Rattle.srt_protocol.specs.Errors.{Outcome}
use Rattle.std.specs.Prelude.{◌≡◌, Bool, ◌&&◌, zero, suc, ℕ, ◌≤◌, ◌<◌, eqb, length, Err, None, Ok, Option, Some, is_some}
use Rattle.std.proofs.Math.Path.{refl, ap, sym, subst}
use Rattle.std.proofs.Common.{◌∙◌, arith, le-leb}
use Rattle.std.proofs.Math.Bool.{true, false, not}
use mathlib.Core.List.{List, []}
use Rattle.std.proofs.lemmas.Bool.{lt-leb}
use Rattle.word_rows.specs.Laws.Tab.{tab_length, tab_none}
use Rattle.srt_protocol.specs.Errors.{outcome_number}
use Rattle.srt_protocol.specs.declared.error.Error.TheVariants.{AlignmentFailed, ReplayRefused}
use Rattle.srt_group_model.specs.Tools.{if_true◌then◌else◌, if_some◌give◌otherwise◌, is_set, flagged, at_place, change}
use Rattle.srt_group_model.specs.Laws.Flag.{zero_unset, other_set, unset_none, set_some}
use Rattle.srt_group_model.specs.State.{Member, Send, State, with_send, with_members, with_leg}
use Rattle.srt_group_model.specs.Legs.{has_sender, remaining_window_packets, synchronize_send_sequence}
use Rattle.srt_group_model.specs.Members.{id_of, align_leg, align_member_sequence}
use Rattle.srt_group_model.specs.Sending.{Sent, Flow}
use Rattle.srt_group_model.specs.Backup.{max_history, takes_over, trim_by_carrier, replay_entries, replay_on, replay_flight, align_carrier, take_over_backup_flight}
use Rattle.srt_group_model.specs.Backup as backup
use Rattle.srt_group_model.specs.declared.Entry.{Entry}
use Rattle.srt_group_model.specs.declared.Leg.{Leg}
use Rattle.srt_group_model.specs.declared.Sending.{Sending}
use Rattle.srt_connection.specs.Laws.Answers.{result_ok, result_err}
use Rattle.srt_connection_queue.specs.Laws.Tab.{tab_place}
use Rattle.srt_connection_members.specs.Members.{member_at, members_of, Changed}
use Rattle.srt_connection_members.specs.Laws.Members.{members_place}
use Rattle.srt_group_members.specs.Scan.{Tried}
use Rattle.srt_group_tables.specs.Ring.{Arrays, entry_at, entries_of, send_of}
use Rattle.srt_group_tables.specs.declared.history.HistoryRing.{HistoryRing}
use Rattle.srt_group_sending.specs.declared.flown.Flown.{Flown}
use Rattle.srt_group_sending.specs.SentList.{send_tables}
use Rattle.srt_group_sending.specs.Laws.SentList.{wrote_nothing}
use Rattle.srt_group_sending.specs.BackupReadiness.{is_other_carrier}
use Rattle.srt_group_sending.specs.Laws.BackupReadiness.{takes_over_is}
use Rattle.srt_group_backup.specs.declared.trimming.SendHistory.{SendHistory}
use Rattle.srt_group_backup.specs.Trimming.{TrimmedByCarrier}
use Rattle.srt_group_backup.specs.Replay.{EntriesReplayed}
use Rattle.srt_group_backup.specs.TakeOver.{HistoryIs, SendIs, FlightReplayed, CarrierAligned, TookOver}

-- ---- definitions

abbrev flow_of : State → List Sent → ℕ → Flow
flow_of s sends code = record { state = s; sends = sends; code = code }

-- a state whose members are put again is the same
members_again : (s : State) (ms : List Member) → s.members ≡ ms → s ≡ with_members ms s
members_again s ms e = ap (λ (l : List Member). with_members l s) e

-- ---- the replay on a leg

module _ (time i : ℕ) (r : HistoryRing) (a : Arrays) (l : Leg) (t : List ℕ) (sent : ℕ) (list : List ℕ) where
  history_length : (y : Send) → y.history ≡ entries_of r a → length y.history ≡ r.length
  history_length y e = ap length e ∙ tab_length r.length (entry_at r a)

  pub no_room_to_replay : {u : List ℕ} {room : ℕ} → room ≡ remaining_window_packets l → room ≤ r.length → Changed i (with_leg l) t u
      → FlightReplayed (replay_on time i (member_at t i) l) (HistoryIs (entries_of r a)) sent (send_tables t list)
      record { outcome = Err ReplayRefused; state = tt; sent = sent } (send_tables u list)
  unfolding replay_on if_true◌then◌else◌
  no_room_to_replay {u} {room} is full c =
      record {
        long = c.long;
        few = omega arith;
        sends = [];
        written = wrote_nothing sent list;
        flow =
            λ n s ms known.
            rw (le-leb (remaining_window_packets l) (length s.send.history) (omega (arith, history_length s.send known)))
            (ap (λ (l : List Member). flow_of (with_members l s) [] 28) (ap (change i (with_leg l)) ms ∙ sym (c.members n)));
      }

  pub replayed_with_room : {u list_after : List ℕ} {room id : ℕ} {played : Flown Leg}
      → room ≡ remaining_window_packets l → r.length < room → id ≡ id_of (member_at t i)
      → EntriesReplayed time id (entries_of r a) l sent list played list_after
      → Changed i (with_leg played.state) t u
      → FlightReplayed (replay_on time i (member_at t i) l) (HistoryIs (entries_of r a)) sent (send_tables t list)
      record { outcome = played.outcome; state = tt; sent = played.sent } (send_tables u list_after)
  unfolding replay_on if_true◌then◌else◌
  replayed_with_room {u} {list_after} {room} {id} {played} is enough member replayed c =
      record {
        long = c.long;
        few = replayed.few;
        sends = whole.sends;
        written = replayed.written;
        flow =
            λ n s ms known.
            rw (lt-leb (remaining_window_packets l) (length s.send.history) (omega (arith, history_length s.send known)))
            (ap
            (λ (p : backup.Replayed).
            flow_of (with_members (change i (with_leg p.leg) s.members) s) p.sends (if_true p.whole then 0 else 28))
            (same_replay s.send known)
            ∙ ap (λ (k : List Member). flow_of (with_members k s) whole.sends (if_true whole.whole then 0 else 28)) (changed n s ms)
            ∙ ap (flow_of (with_members (members_of n u) s) whole.sends) (sym replayed.outcome));
      }
    where
      whole : backup.Replayed
      whole = replay_entries time id (entries_of r a) l

      same_replay : (y : Send) → y.history ≡ entries_of r a
          → replay_entries time (id_of (member_at t i)) y.history l ≡ whole
      same_replay y known =
          ap (λ (es : List Entry). replay_entries time (id_of (member_at t i)) es l) known
          ∙ ap (λ (k : ℕ). replay_entries time k (entries_of r a) l) (sym member)

      changed : (n : ℕ) (s : State) → s.members ≡ members_of n t → change i (with_leg whole.leg) s.members ≡ members_of n u
      changed n s ms =
          ap (change i (with_leg whole.leg)) ms
          ∙ ap (λ (k : Leg). change i (with_leg k) (members_of n t)) (sym replayed.leg)
          ∙ sym (c.members n)

-- ---- the flight

-- without a gap the flight is replayed once the leg is aligned with its first sequence
flight_once_aligned : (time i : ℕ) (m : Member) (first : Entry) (s : State) → s.send.numbers.gap ≡ 0
    → replay_flight time i m first s
    ≡ (if_some align_leg first.sequence m.leg
    give (λ l. replay_on time i m l s)
    otherwise record { state = s; sends = []; code = 28 })
unfolding replay_flight align_leg if_true◌then◌else◌ if_some◌give◌otherwise◌
flight_once_aligned time i m first s no_gap =
    ap (λ (gap : Bool). if_true gap then flow_of s [] 28 else without_gap) (zero_unset s.send.numbers.gap no_gap)
    ∙ go (has_sender m.leg && eqb m.leg.sender.next first.sequence) (synchronize_send_sequence first.sequence m.leg)
  where
    without_gap : Flow
    without_gap =
        if_true has_sender m.leg && eqb m.leg.sender.next first.sequence
        then replay_on time i m m.leg s
        else
        (if_some synchronize_send_sequence first.sequence m.leg
        give (λ l. replay_on time i m l s)
        otherwise flow_of s [] 28)

    go : (b : Bool) (o : Option Leg)
        → (if_true b
        then replay_on time i m m.leg s
        else (if_some o give (λ l. replay_on time i m l s) otherwise flow_of s [] 28))
        ≡ (if_some (if_true b then Some m.leg else o) give (λ l. replay_on time i m l s) otherwise flow_of s [] 28)
    go true o = refl
    go false None = refl
    go false (Some l) = refl

module _ (time i : ℕ) (x : Sending) (r : HistoryRing) (a : Arrays) (t : List ℕ) (sent : ℕ) (list : List ℕ) where
  abbrev whole_flight : State → Flow
  whole_flight = replay_flight time i (member_at t i) (entry_at r a 0)

  gap_refuses : (s : State) → is_set s.send.numbers.gap ≡ true → whole_flight s ≡ flow_of s [] 28
  unfolding replay_flight if_true◌then◌else◌
  gap_refuses s gap = rw gap

  pub gap_not_replayed : (x.gap ≡ 0 → ⊥)
      → FlightReplayed whole_flight (SendIs (send_of x r a)) sent (send_tables t list)
      record { outcome = Err ReplayRefused; state = tt; sent = sent } (send_tables t list)
  gap_not_replayed gap =
      record {
        long = refl;
        few = omega arith;
        sends = [];
        written = wrote_nothing sent list;
        flow =
            λ n s ms known.
            gap_refuses s (ap (λ (y : Send). is_set y.numbers.gap) known ∙ other_set x.gap gap)
            ∙ ap (λ (z : State). flow_of z [] 28) (members_again s (members_of n t) ms);
      }

  module _ {e : Entry} {l : Leg} {result : Option Leg} (no_gap : x.gap ≡ 0) (first : e ≡ entry_at r a 0)
      (leg : l ≡ (member_at t i).leg) (is : result ≡ align_leg e.sequence l) where
    aligned : (o : Option Leg) → align_leg e.sequence l ≡ o → align_leg (entry_at r a 0).sequence (member_at t i).leg ≡ o
    aligned o same =
        ap (λ (f : Entry). align_leg f.sequence (member_at t i).leg) (sym first)
        ∙ ap (align_leg e.sequence) (sym leg) ∙ same

    no_gap_now : (s : State) → s.send ≡ send_of x r a → s.send.numbers.gap ≡ 0
    no_gap_now s known = ap (λ (y : Send). y.numbers.gap) known ∙ no_gap

    pub unaligned_not_replayed : result ≡ None
        → FlightReplayed whole_flight (SendIs (send_of x r a)) sent (send_tables t list)
        record { outcome = Err ReplayRefused; state = tt; sent = sent } (send_tables t list)
    unfolding if_some◌give◌otherwise◌
    unaligned_not_replayed err =
        record {
          long = refl;
          few = omega arith;
          sends = [];
          written = wrote_nothing sent list;
          flow =
              λ n s ms known.
              flight_once_aligned time i (member_at t i) (entry_at r a 0) s (no_gap_now s known)
              ∙ rw (aligned None (result_err (align_leg e.sequence l) (sym err ∙ is)))
              (ap (λ (z : State). flow_of z [] 28) (members_again s (members_of n t) ms));
        }

    pub aligned_replayed : {u list_after : List ℕ} {answer : Flown (Unit {0})} (k : Leg) → result ≡ Some k
        → FlightReplayed (replay_on time i (member_at t i) k) (HistoryIs (entries_of r a)) sent (send_tables t list) answer
        (send_tables u list_after)
        → FlightReplayed whole_flight (SendIs (send_of x r a)) sent (send_tables t list) answer (send_tables u list_after)
    unfolding if_some◌give◌otherwise◌
    aligned_replayed k ok replayed =
        record {
          long = replayed.long;
          few = replayed.few;
          sends = replayed.sends;
          written = replayed.written;
          flow =
              λ n s ms known.
              flight_once_aligned time i (member_at t i) (entry_at r a 0) s (no_gap_now s known)
              ∙ rw (aligned (Some k) (result_ok (align_leg e.sequence l) k (sym ok ∙ is)))
              (replayed.flow n s ms (ap (λ (y : Send). y.history) known));
        }

-- ---- nothing to replay

-- the flow of an alignment that may fail
abbrev alignment_flow : State → Option (List Member) → Flow
alignment_flow s o = if_some o give (λ ms. flow_of (with_members ms s) [] 0) otherwise flow_of s [] 22

module _ (i n : ℕ) (x : Sending) (t : List ℕ) where
  carrier_flow : (s : State) → s.send.numbers ≡ x
      → align_carrier i s
      ≡ (if_true is_set x.numbered
      then alignment_flow s (align_member_sequence (flagged (is_set x.numbered) x.next) i s.members)
      else flow_of s [] 0)
  unfolding align_carrier
  carrier_flow s numbers =
      ap
      (λ (y : Sending).
      if_true is_set y.numbered
      then alignment_flow s (align_member_sequence (flagged (is_set y.numbered) y.next) i s.members)
      else flow_of s [] 0)
      numbers

  pub not_numbered_not_aligned : x.numbered ≡ 0 → CarrierAligned i n x t (Ok tt) t
  unfolding if_true◌then◌else◌
  not_numbered_not_aligned none_there =
      record {
        long = refl;
        flow =
            λ s ms numbers.
            carrier_flow s numbers
            ∙ rw (zero_unset x.numbered none_there) (ap (λ (z : State). flow_of z [] 0) (members_again s (members_of n t) ms));
      }

  abbrev numbered_alignment : Option (List Member)
  numbered_alignment = align_member_sequence (flagged (is_set x.numbered) x.next) i (members_of n t)

  numbered_carrier : (s : State) → s.members ≡ members_of n t → s.send.numbers ≡ x → (x.numbered ≡ 0 → ⊥)
      → align_carrier i s ≡ alignment_flow s numbered_alignment
  unfolding if_true◌then◌else◌
  numbered_carrier s ms numbers there =
      carrier_flow s numbers
      ∙ ap
      (λ (b : Bool).
      if_true b
      then alignment_flow s (align_member_sequence (flagged (is_set x.numbered) x.next) i s.members)
      else flow_of s [] 0)
      (other_set x.numbered there)
      ∙ ap (λ (l : List Member). alignment_flow s (align_member_sequence (flagged (is_set x.numbered) x.next) i l)) ms

  pub without_number : {number : Option ℕ} {none_there : Bool} → number ≡ flagged (is_set x.numbered) x.next → is_some number ≡ not none_there
      → none_there ≡ true → CarrierAligned i n x t (Ok tt) t
  without_number is shown none_there = not_numbered_not_aligned (go x.numbered (ap is_some (sym is) ∙ shown ∙ ap not none_there))
    where
      go : (k : ℕ) → is_some (flagged (is_set k) x.next) ≡ false → k ≡ 0
      go zero e = refl
      go (suc k) e = let there : is_some (flagged (is_set (suc k)) x.next) ≡ true = ap is_some (set_some (suc k) x.next (λ q. omega arith)) in cc

  module _ {number : Option ℕ} {none_there answer : Bool} {u : List ℕ} (is : number ≡ flagged (is_set x.numbered) x.next)
      (shown : is_some number ≡ not none_there) (there : none_there ≡ false)
      (of_number : Tried n (align_member_sequence number i (members_of n t)) t answer u) where
    numbered : x.numbered ≡ 0 → ⊥
    numbered unset =
        let gone : is_some number ≡ false = ap is_some (is ∙ unset_none x.numbered x.next unset) in
        let is_there : is_some number ≡ true = shown ∙ ap not there in
        cc

    tried : Tried n numbered_alignment t answer u
    tried = subst (λ (o : Option ℕ). Tried n (align_member_sequence o i (members_of n t)) t answer u) is of_number

    pub carrier_not_aligned : answer ≡ false → CarrierAligned i n x t (Err AlignmentFailed) u
    unfolding if_some◌give◌otherwise◌
    carrier_not_aligned failed =
        record {
          long = tried.long;
          flow =
              λ s ms numbers.
              numbered_carrier s ms numbers numbered
              ∙ go s ms numbered_alignment (sym tried.succeeded ∙ failed) tried.is;
        }
      where
        go : (s : State) → s.members ≡ members_of n t → (o : Option (List Member)) → is_some o ≡ false
            → members_of n u ≡ (if_some o give (λ ms. ms) otherwise members_of n t)
            → (if_some o give (λ ms. flow_of (with_members ms s) [] 0) otherwise flow_of s [] 22)
            ≡ flow_of (with_members (members_of n u) s) [] 22
        go s ms None no_some same =
            ap (λ (z : State). flow_of z [] 22) (members_again s (members_of n u) (ms ∙ sym same))
        go s ms (Some ns) no_some same = cc no_some

    pub carrier_aligned : answer ≡ true → CarrierAligned i n x t (Ok tt) u
    unfolding if_some◌give◌otherwise◌
    carrier_aligned succeeded =
        record {
          long = tried.long;
          flow =
              λ s ms numbers.
              numbered_carrier s ms numbers numbered
              ∙ go s numbered_alignment (sym tried.succeeded ∙ succeeded) tried.is;
        }
      where
        go : (s : State) → (o : Option (List Member)) → is_some o ≡ true
            → members_of n u ≡ (if_some o give (λ ms. ms) otherwise members_of n t)
            → (if_some o give (λ ms. flow_of (with_members ms s) [] 0) otherwise flow_of s [] 22)
            ≡ flow_of (with_members (members_of n u) s) [] 0
        go s None is_one same = cc is_one
        go s (Some ns) is_one same = ap (λ (l : List Member). flow_of (with_members l s) [] 0) (sym same)

-- ---- the take-over

module _ (time i n : ℕ) (t : List ℕ) (below : i < n) where
  module _ (s : State) (ms : s.members ≡ members_of n t) where
    its_place : at_place i s.members ≡ Some (member_at t i)
    its_place = ap (at_place i) ms ∙ members_place n t i below

    carries_already : takes_over (id_of (member_at t i)) s.send ≡ false → take_over_backup_flight time i s ≡ align_carrier i s
    unfolding take_over_backup_flight if_true◌then◌else◌ if_some◌give◌otherwise◌
    carries_already no_other = rw (its_place, no_other)

    module _ (other : takes_over (id_of (member_at t i)) s.send ≡ true) where
      nothing_to_replay : at_place 0 (trim_by_carrier s).send.history ≡ None
          → take_over_backup_flight time i s ≡ align_carrier i (trim_by_carrier s)
      unfolding take_over_backup_flight if_true◌then◌else◌ if_some◌give◌otherwise◌
      nothing_to_replay empty = rw (its_place, other, empty)

      flight_to_replay : (first : Entry) → at_place 0 (trim_by_carrier s).send.history ≡ Some first
          → take_over_backup_flight time i s ≡ replay_flight time i (member_at t i) first (trim_by_carrier s)
      unfolding take_over_backup_flight if_true◌then◌else◌ if_some◌give◌otherwise◌
      flight_to_replay first there = rw (its_place, other, there)

  module _ (x : Sending) (r : HistoryRing) (a : Arrays) (sent : ℕ) (list : List ℕ) {id : ℕ} {answer : Bool}
      (member : id ≡ id_of (member_at t i)) (takes : answer ≡ is_other_carrier id x) where
    takes_now : (b : Bool) → answer ≡ b → (s : State) → s.send ≡ send_of x r a → takes_over (id_of (member_at t i)) s.send ≡ b
    takes_now b is s sends =
        ap (takes_over (id_of (member_at t i))) sends
        ∙ ap (λ (k : ℕ). takes_over k (send_of x r a)) (sym member)
        ∙ sym (takes ∙ takes_over_is id x (entries_of r a)) ∙ is

    pub no_take_over : {u : List ℕ} {outcome : Outcome} → r.length ≤ max_history → answer ≡ false → CarrierAligned i n x t outcome u
        → TookOver (take_over_backup_flight time i) n x r a sent (send_tables t list)
        record { outcome = outcome; state = record { sending = x; ring = r }; sent = sent } (send_tables u list)
    no_take_over {u} {outcome} fits no_other aligned =
        record {
          long = aligned.long;
          fits = fits;
          few = omega arith;
          sends = [];
          written = wrote_nothing sent list;
          flow =
              λ s ms sends.
              carries_already s ms (takes_now false no_other s sends)
              ∙ aligned.flow s ms (ap (λ (y : Send). y.numbers) sends)
              ∙ ap (λ (y : Send). flow_of (with_send y (with_members (members_of n u) s)) [] (outcome_number outcome)) sends;
        }

    module _ {trimmed : SendHistory} (fits : r.length ≤ max_history) (other : answer ≡ true) (by_carrier : TrimmedByCarrier (members_of n t) a.history x r trimmed) where
      abbrev trimmed_send : Send
      trimmed_send = send_of trimmed.sending trimmed.ring a

      pub took_over_nothing : {u : List ℕ} {outcome : Outcome} → trimmed.ring.length ≡ 0 → CarrierAligned i n trimmed.sending t outcome u
          → TookOver (take_over_backup_flight time i) n x r a sent (send_tables t list)
          record { outcome = outcome; state = trimmed; sent = sent } (send_tables u list)
      unfolding at_place
      took_over_nothing {u} {outcome} empty aligned =
          record {
            long = aligned.long;
            fits = omega (arith, by_carrier.fits);
            few = omega arith;
            sends = [];
            written = wrote_nothing sent list;
            flow =
                λ s ms sends.
                nothing_to_replay s ms (takes_now true other s sends)
                (ap (λ (z : State). at_place 0 z.send.history) (by_carrier.is s a ms refl sends)
                ∙ ap (at_place 0) (tab_none trimmed.ring.length (entry_at trimmed.ring a) empty))
                ∙ ap (align_carrier i) (by_carrier.is s a ms refl sends)
                ∙ aligned.flow (with_send trimmed_send s) ms refl;
          }

      pub took_over_flight : {u list_after : List ℕ} {flight : Flown (Unit {0})} → (trimmed.ring.length ≡ 0 → ⊥)
          → FlightReplayed (replay_flight time i (member_at t i) (entry_at trimmed.ring a 0)) (SendIs trimmed_send) sent
          (send_tables t list) flight (send_tables u list_after)
          → TookOver (take_over_backup_flight time i) n x r a sent (send_tables t list)
          record { outcome = flight.outcome; state = trimmed; sent = flight.sent }
          (send_tables u list_after)
      took_over_flight {u} {list_after} {flight} some_there replayed =
          record {
            long = replayed.long;
            fits = omega (arith, by_carrier.fits);
            few = replayed.few;
            sends = replayed.sends;
            written = replayed.written;
            flow =
                λ s ms sends.
                flight_to_replay s ms (takes_now true other s sends) (entry_at trimmed.ring a 0)
                (ap (λ (z : State). at_place 0 z.send.history) (by_carrier.is s a ms refl sends)
                ∙ tab_place trimmed.ring.length (entry_at trimmed.ring a) 0 (omega arith))
                ∙ ap (replay_flight time i (member_at t i) (entry_at trimmed.ring a 0)) (by_carrier.is s a ms refl sends)
                ∙ replayed.flow n (with_send trimmed_send s) ms refl;
          }
