-- What a poll can do to the members: take the front of a queue, with the mark of what it collected, and change labels, sums and
-- sending sides. Walk shows that whatever these keep is kept by the polls.
use Rattle.std.specs.Prelude.{◌≡◌, refl, Bool, true, false, List, ◌∷◌, ℕ, eqb, drop, Some}
use Rattle.std.proofs.Common.{◌∙◌}
use Rattle.srt_group_model.specs.Tools.{at_place, change}
use Rattle.srt_group_model.specs.Laws.Reason.{if_elim, EachTo, each_to_change}
use Rattle.srt_group_model.specs.State.{Member, State, with_queue, broken_state}
use Rattle.srt_group_model.specs.Members.{id_of, in_state}
use Rattle.srt_group_model.specs.Run.{Mark, put, base_set, collected, gap_skipped, delivered}
use Rattle.srt_group_model.specs.Collecting.{retain_group_packet, front, packet_from, waiting_from}
use Rattle.srt_group_model.specs.declared.Event.{Event}
use Rattle.srt_group_model.specs.declared.Packet.{Packet}
use Rattle.srt_group_model.specs.declared.Waiting.{Waiting}

-- ---- the moves

-- the id and the queue stay, and a Broken member stays Broken
pub record Relabelled (m n : Member) : Type 0 where
  pub id : id_of n ≡ id_of m
  pub queue : n.queue ≡ m.queue
  pub broken : in_state broken_state m ≡ true → in_state broken_state n ≡ true

pub relabelled_same : (m : Member) → Relabelled m m
relabelled_same m = record { id = refl; queue = refl; broken = λ h. h }

pub relabelled_then : (a b c : Member) → Relabelled a b → Relabelled b c → Relabelled a c
relabelled_then a b c h k = record { id = k.id ∙ h.id; queue = k.queue ∙ h.queue; broken = λ e. k.broken (h.broken e) }

abbrev pub AllRelabelled : List Member → List Member → Type 0
AllRelabelled = EachTo Relabelled

-- a change of sums and sending sides at one place
pub sums_relabelled : (i : ℕ) (f : Member → Member) (ms : List Member) → ((m : Member) → Relabelled m (f m)) → AllRelabelled ms (change i f ms)
sums_relabelled i f ms h = each_to_change Relabelled relabelled_same i f ms (λ m at. h m)

abbrev pub pop : Member → Member
pop m = with_queue (drop 1 m.queue) m

-- the packet that is collected from a member's front event
abbrev pub packet_of : Member → Event → Packet
packet_of m e = packet_from (id_of m) e

-- the event that then waits
abbrev pub waiting_of : Member → Event → Waiting
waiting_of m e = waiting_from (id_of m) e

abbrev pub is_collected : Mark → Bool
is_collected (put cell payload) = false
is_collected (base_set b) = false
is_collected (collected p) = true
is_collected (gap_skipped s time distance) = false
is_collected (delivered p) = false

pub record QueueLaw (J : List Member → List Mark → Type 0) : Type 0 where
  pub relabels : (ms ns : List Member) (log : List Mark) → AllRelabelled ms ns → J ms log → J ns log
  pub takes_data : (ms : List Member) (log : List Mark) (i : ℕ) (m : Member) (e : Event) → at_place i ms ≡ Some m
      → front m.queue ≡ Some e → eqb e.kind 0 ≡ true → J ms log → J (change i pop ms) (collected (packet_of m e) ∷ log)
  pub takes_event : (ms : List Member) (log : List Mark) (i : ℕ) (m : Member) (e : Event) → at_place i ms ≡ Some m
      → front m.queue ≡ Some e → eqb e.kind 0 ≡ false → J ms log → J (change i pop ms) log
  pub marks : (ms : List Member) (log : List Mark) (mark : Mark) → is_collected mark ≡ false → J ms log → J ms (mark ∷ log)

-- ---- what is relabelled

pub retain_relabelled : (i : ℕ) (p : Packet) (s : State) → AllRelabelled s.members (retain_group_packet i p s).members
unfolding retain_group_packet
retain_relabelled i p s =
    if_elim (λ (t : State). AllRelabelled s.members t.members) _ _ _
    (λ e. sums_relabelled i _ s.members (λ m. record { id = refl; queue = refl; broken = λ h. h }))
    (λ e. sums_relabelled i _ s.members (λ m. record { id = refl; queue = refl; broken = λ h. h }))
