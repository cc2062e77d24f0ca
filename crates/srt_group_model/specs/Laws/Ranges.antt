-- Every number of a state stays in its range: what `sequence_too_large` and `field_out_of_range` ask, as statements, and how the
-- moves of a poll keep them.
use Rattle.std.specs.Prelude.{◌≡◌, refl, Bool, true, false, not, ◌&&◌, List, [], ◌∷◌, ℕ, zero, suc, ◌-◌, ◌≤◌, ltb, eqb, None, Option, Some}
use Rattle.std.proofs.Common.{subst, arith, ltb-true, ltb-false}
use Rattle.srt_protocol.specs.Circle.{further}
use Rattle.srt_protocol.specs.Sequence.{half, sequence_further}
use Rattle.srt_group_model.specs.Tools.{or_else, flagged, first_such, at_place, change}
use Rattle.srt_group_model.specs.Laws.Reason.{if_elim, if_some_elim, not_both, none_some, some_inj, and_left, and_right}
use Rattle.srt_group_model.specs.State.{Member, turned, with_leg, on_membership, with_admitted, with_collision}
use Rattle.srt_group_model.specs.Legs.{is_connected, has_sender, can_send, no_sequence, peer_initial_sequence, send_shared_with_sequence, synchronize_send_sequence, largest_sequence, largest_32, largest_64}
use Rattle.srt_group_model.specs.Members.{alignment_source, align_leg}
use Rattle.srt_group_model.specs.Validity.{is_too_large}
use Rattle.srt_protocol.specs.declared.time.Timestamp.{Timestamp}
use Rattle.srt_group_model.specs.declared.Leg.{Leg}
use Rattle.srt_group_model.specs.Sound.{LegFit, MemberFit, AllFit}

-- ---- legs

-- a number further on is within the circle
pub further_fits : (a n : ℕ) → sequence_further a n ≤ largest_sequence
unfolding further half
further_fits a n = omega arith

abbrev pub OptionFit : Option ℕ → Type 0
OptionFit o = (n : ℕ) → o ≡ Some n → n ≤ largest_sequence

abbrev pub LegGives : Option Leg → Type 0
LegGives o = (k : Leg) → o ≡ Some k → LegFit k

pub gives_leg : (k : Leg) → LegFit k → LegGives (Some k)
gives_leg k h x e = subst LegFit (some_inj e) h

pub synchronize_fit : (sequence : ℕ) (l : Leg) → sequence ≤ largest_sequence → LegFit l → LegGives (synchronize_send_sequence sequence l)
unfolding synchronize_send_sequence
synchronize_fit sequence l b h =
    if_elim LegGives _ _ _
    (λ e.
    gives_leg _
    record {
      state = h.state;
      peer = h.peer;
      limit = h.limit;
      started = h.started;
      flight = h.flight;
      no_flight = h.no_flight;
      window = h.window;
      oldest = h.oldest;
      pace = h.pace;
      receive_window = h.receive_window;
      latency = h.latency;
      srtt = h.srtt;
      rttvar = h.rttvar;
      heard = h.heard;
      connects = h.connects;
      next = b;
      advanced = h.advanced;
      first = h.first;
    })
    (λ e k g. none_some g)

pub send_fit : (time size sequence : ℕ) (l : Leg) → time ≤ largest_64 → LegFit l → LegGives (send_shared_with_sequence time size sequence l)
unfolding send_shared_with_sequence can_send
send_fit time size sequence l b h =
    if_elim LegGives _ _ _
    (λ e.
    let can = and_left (is_connected l && ltb 0 (l.sender.window - l.sender.flight)) _ e in
    let connected = and_left (is_connected l) _ can in
    let room = ltb-true 0 (l.sender.window - l.sender.flight) (and_right (is_connected l) _ can) in
    gives_leg _
    record {
      state = h.state;
      peer = h.peer;
      limit = h.limit;
      started = h.started;
      flight = omega (arith, room, h.window);
      no_flight = λ g. not_both (h.connects connected) g;
      window = h.window;
      oldest = if_elim (λ (t : Timestamp). t.0 ≤ largest_64) (eqb l.sender.flight 0) _ _ (λ g. b) (λ g. h.oldest);
      pace = h.pace;
      receive_window = h.receive_window;
      latency = h.latency;
      srtt = h.srtt;
      rttvar = h.rttvar;
      heard = h.heard;
      connects = h.connects;
      next = further_fits l.sender.next 1;
      advanced = h.advanced;
      first = h.first;
    })
    (λ e k g. none_some g)

pub align_leg_fit : (sequence : ℕ) (l : Leg) → sequence ≤ largest_sequence → LegFit l → LegGives (align_leg sequence l)
unfolding align_leg
align_leg_fit sequence l b h = if_elim LegGives _ _ _ (λ e. gives_leg l h) (λ e. synchronize_fit sequence l b h)

-- ---- members

pub turned_fit : (n : ℕ) (m : Member) → n ≤ 4 → MemberFit m → MemberFit (turned n m)
turned_fit n m b h =
    record {
      leg = h.leg;
      id = h.id;
      weight = h.weight;
      state = b;
      admitted = h.admitted;
      expected = h.expected;
      actual = h.actual;
      queue = h.queue;
      short = h.short;
    }

pub with_leg_fit : (l : Leg) (m : Member) → LegFit l → MemberFit m → MemberFit (with_leg l m)
with_leg_fit l m b h =
    record {
      leg = b;
      id = h.id;
      weight = h.weight;
      state = h.state;
      admitted = h.admitted;
      expected = h.expected;
      actual = h.actual;
      queue = h.queue;
      short = h.short;
    }

pub at_change_fit : (i : ℕ) (f : Member → Member) (ms : List Member) → ((m : Member) → at_place i ms ≡ Some m → MemberFit m → MemberFit (f m)) → AllFit ms → AllFit (change i f ms)
unfolding change at_place
at_change_fit zero f [] g h = tt
at_change_fit (suc i) f [] g h = tt
at_change_fit zero f (m ∷ ms) g h = (g m refl h.0, h.1)
at_change_fit (suc i) f (m ∷ ms) g h = (h.0, at_change_fit i f ms g h.1)

first_such_fit : (test : Member → Bool) (m : Member) (ms : List Member) → first_such test ms ≡ Some m → AllFit ms → MemberFit m
unfolding first_such
first_such_fit test m [] = λ e h. none_some e
first_such_fit test m (x ∷ ms) =
    if_elim (λ (o : Option Member). o ≡ Some m → AllFit (x ∷ ms) → MemberFit m) _ _ _
    (λ t e h. subst MemberFit (some_inj e) h.0) (λ t e h. first_such_fit test m ms e h.1)

pub flagged_fit : (b : Bool) (n : ℕ) → n ≤ largest_sequence → OptionFit (flagged b n)
unfolding flagged
flagged_fit true n h k e = subst (λ (x : ℕ). x ≤ largest_sequence) (some_inj e) h
flagged_fit false n h k e = none_some e

pub source_fit : (number : Option ℕ) (id : ℕ) (ms : List Member) → OptionFit number → AllFit ms → OptionFit (alignment_source number id ms)
unfolding alignment_source or_else
source_fit (Some n) id ms b h = b
source_fit None id ms b h =
    if_some_elim OptionFit _ _ _
    (λ m e. flagged_fit (has_sender m.leg) m.leg.sender.next (first_such_fit _ m ms e h).leg.next) (λ e n g. none_some g)

-- ---- admission

pub first_fit : (l : Leg) → LegFit l → OptionFit (peer_initial_sequence l)
unfolding flagged
first_fit l f n e = first_of (eqb l.receiver.first no_sequence) l.receiver.first f.first n e
  where
    first_of : (none_there : Bool) (k : ℕ) → (is_too_large k && not none_there) ≡ false → OptionFit (flagged (not none_there) k)
    first_of true k g n e = none_some e
    first_of false k g n e = subst (λ (x : ℕ). x ≤ largest_sequence) (some_inj e) (ltb-false largest_sequence k (and_true (is_too_large k) g))
      where
        and_true : (b : Bool) → b && true ≡ false → b ≡ false
        and_true true g = g
        and_true false g = refl

pub admitted_fit : (m : Member) → MemberFit m → MemberFit (on_membership with_admitted m)
admitted_fit m h =
    record {
      leg = h.leg;
      id = h.id;
      weight = h.weight;
      state = h.state;
      admitted = omega arith;
      expected = h.expected;
      actual = h.actual;
      queue = h.queue;
      short = h.short;
    }

pub collided_fit : (peer : ℕ) (m : Member) → peer ≤ largest_32 → MemberFit m → MemberFit (on_membership (with_collision peer m.leg.link.peer) m)
collided_fit peer m b h =
    record {
      leg = h.leg;
      id = h.id;
      weight = h.weight;
      state = omega arith;
      admitted = h.admitted;
      expected = b;
      actual = h.leg.peer;
      queue = h.queue;
      short = h.short;
    }
