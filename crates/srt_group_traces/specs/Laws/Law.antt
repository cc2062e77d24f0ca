-- The few moves that receiving makes: a packet is collected (and discarded or retained), the base is set, a gap is skipped, a
-- packet is delivered, held packets are given to the group or retired, a payload is put into a free cell. A law says that an
-- invariant of the receiving side and the marks survives each of them. CallWalk proves that it then survives every call and every
-- list of calls: base arithmetic and the schedule are two such invariants.
use Rattle.std.specs.Prelude.{◌≡◌, true, false, not, List, ◌∷◌, ℕ, eqb, None, Some}
use Rattle.srt_protocol.specs.Sequence.{sequence_distance}
use Rattle.srt_group_model.specs.Tools.{flagged, All}
use Rattle.srt_group_model.specs.State.{Member, State, Receive, next_receive_sequence, with_base, with_pending}
use Rattle.srt_group_model.specs.Legs.{no_sequence}
use Rattle.srt_group_model.specs.Members.{id_of}
use Rattle.srt_group_model.specs.Nearest.{sequence_of, held_at, insert, nearest}
use Rattle.srt_group_model.specs.Run.{Mark, put, base_set, collected, gap_skipped, delivered}
use Rattle.srt_group_model.specs.Collecting.{is_discarded}
use Rattle.srt_group_model.specs.Delivery.{pass_run, skip_to}
use Rattle.srt_group_model.specs.Cells.{is_data}
use Rattle.srt_group_model.specs.declared.Data.{Data}
use Rattle.srt_group_model.specs.declared.Event.{Event}
use Rattle.srt_group_model.specs.declared.Packet.{Packet}
use Rattle.srt_group_model.specs.Removal.{by_group}
use Rattle.srt_group_traces.specs.Laws.Cases.{Each}
use Rattle.srt_group_traces.specs.Laws.Sides.{Side}

-- a fact of a packet's content, whoever holds it
abbrev pub OfContent : (Data → Type 0) → Packet → Type 0
OfContent P p = P p.content

-- a packet whose payload stands in another cell
abbrev pub ElsewhereThan : ℕ → Data → Type 0
ElsewhereThan cell d = d.cell ≡ cell → ⊥

-- What is alive: the packets queued at a leg and those held from it. What holds of each, by its leg and its data.
abbrev pub Queued : (ℕ → Data → Type 0) → Member → Type 0
Queued Q m = All (λ (e : Event). is_data e ≡ true → Q (id_of m) e.content) m.queue

abbrev pub LiveAt : (ℕ → Data → Type 0) → State → Type 0
LiveAt Q s = All (Queued Q) s.members × All (λ (p : Packet). Q p.member p.content) s.receive.pending

-- a packet as the group's own, and all else as it was
abbrev pub owned_by_group : Packet → Packet
owned_by_group = by_group

-- What is held now is among what was held, perhaps now the group's own: whatever holds of each packet, and does not ask who
-- owns it, holds still.
abbrev pub Among : List Packet → List Packet → Type 1
Among was is = (Q : Packet → Type 0) → ((p : Packet) → Q p → Q (owned_by_group p)) → All Q was → All Q is

-- P: what is known of each queued packet. F: what is known of each first sequence that a peer can give.
module _ (P : Data → Type 0) (F : ℕ → Type 0) where
  abbrev pub EventOk : Event → Type 0
  EventOk e = is_data e ≡ true → P e.content

  abbrev pub SideOk : Side → Type 0
  SideOk v = All EventOk v.queue × Each F (flagged (not (eqb v.first no_sequence)) v.first)

  module _ (I : Receive → List Mark → Type 0) where
    -- what collecting does: the packet is before the base or held already, and discarded, or it is retained
    pub record CollectLaw : Type 1 where
      pub on_discarded : (x : Receive) (log : List Mark) (p : Packet) → P p.content → is_discarded p x ≡ true → I x log
          → I x (collected p ∷ log)
      pub on_retained : (x : Receive) (log : List Mark) (p : Packet) → P p.content → is_discarded p x ≡ false → I x log
          → I (with_pending (insert p x.pending) x) (collected p ∷ log)

    pub record Law : Type 1 where
      pub collecting : CollectLaw
      -- a connected leg's first sequence sets the base
      pub on_base_set : (x : Receive) (log : List Mark) (base : ℕ) → next_receive_sequence x ≡ None → F base → I x log
          → I (with_base base x) (base_set base ∷ log)
      -- the nearest packet sets it
      pub on_nearest_sets : (x : Receive) (log : List Mark) (p : Packet) → next_receive_sequence x ≡ None
          → nearest x.pending ≡ Some p → I x log
          → I (with_base (sequence_of p) x) (base_set (sequence_of p) ∷ log)
      pub on_skipped : (x : Receive) (log : List Mark) (base : ℕ) (p : Packet) (tested : State) (time : ℕ)
          → next_receive_sequence x ≡ Some base → nearest x.pending ≡ Some p
          → I x log
          → I (skip_to base (sequence_of p) x) (gap_skipped tested time (sequence_distance base (sequence_of p)) ∷ log)
      pub on_delivered : (x : Receive) (log : List Mark) (base : ℕ) (p : Packet) → next_receive_sequence x ≡ Some base
          → held_at base x.pending ≡ Some p
          → I x log → I (pass_run base p x) (delivered p ∷ log)

    -- with a removal: held packets become the group's own, or are retired
    pub record CallLaw : Type 1 where
      pub polling : Law
      pub on_removed : (x : Receive) (log : List Mark) (ps : List Packet) → Among x.pending ps → I x log
          → I (with_pending ps x) log

    -- with a payload that is put into a cell that no held packet has
    pub record PutLaw : Type 1 where
      pub calling : CallLaw
      pub on_put : (x : Receive) (log : List Mark) (cell : ℕ) (payload : List ℕ) → All (OfContent (ElsewhereThan cell)) x.pending
          → I x log → I x (put cell payload ∷ log)
