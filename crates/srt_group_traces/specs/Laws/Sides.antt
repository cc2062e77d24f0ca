-- What receiving sees of a member: its queue and the first sequence of its leg's peer. All that a refresh, a send, a reading and a
-- delivery do to the members leaves that alone.
use Rattle.std.specs.Prelude.{◌≡◌, refl, List, [], ◌∷◌, ℕ, zero, suc, Some}
use Rattle.std.proofs.Common.{sym, ap, subst, ◌∙◌}
use Rattle.srt_group_model.specs.Tools.{at_place, change, each, All}
use Rattle.srt_group_model.specs.State.{Member, State, on_leg}
use Rattle.srt_group_model.specs.Legs.{advance_receive_sequence}
use Rattle.srt_group_model.specs.Delivery.{deliver_packet}
use Rattle.srt_group_model.specs.declared.Event.{Event}
use Rattle.srt_group_model.specs.declared.Packet.{Packet}
use Rattle.srt_group_model.specs.Laws.Reason.{some_inj, EachTo}
use Rattle.srt_group_model.specs.Laws.Released.{Recounted, run_passed, deliver_released}
use Rattle.srt_group_model.specs.Laws.MemberMoves.{SameAccount}

pub record Side : Type 0 where
  pub queue : List Event
  pub first : ℕ

abbrev pub side : Member → Side
side m = record { queue = m.queue; first = m.leg.receiver.first }

unfoldable pub sides : List Member → List Side
sides [] = []
sides (m ∷ ms) = side m ∷ sides ms

-- ---- a fact of each side, and of each member's

pub all_sides : (Q : Side → Type 0) (ms : List Member) → All (λ (m : Member). Q (side m)) ms → All Q (sides ms)
unfolding sides
all_sides Q [] h = tt
all_sides Q (m ∷ ms) h = (h.0, all_sides Q ms h.1)

pub all_members : (Q : Side → Type 0) (ms : List Member) → All Q (sides ms) → All (λ (m : Member). Q (side m)) ms
unfolding sides
all_members Q [] h = tt
all_members Q (m ∷ ms) h = (h.0, all_members Q ms h.1)

-- ---- changes that leave the sides

-- the member at a place is changed, and its side is not
pub moved_sides : (i : ℕ) (m : Member) (f : Member → Member) (ms : List Member) → at_place i ms ≡ Some m → side (f m) ≡ side m → sides (change i f ms) ≡ sides ms
unfolding sides change at_place
moved_sides zero m f [] at e = refl
moved_sides (suc i) m f [] at e = refl
moved_sides zero m f (x ∷ ms) at e = ap (λ (v : Side). v ∷ sides ms) (subst (λ (y : Member). side (f y) ≡ side y) (sym (some_inj at)) e)
moved_sides (suc i) m f (x ∷ ms) at e = ap {B = List Side} (λ (vs : List Side). side x ∷ vs) (moved_sides i m f ms at e)

pub account_side : (m n : Member) → SameAccount m n → side n ≡ side m
account_side m n h = λ i. record { queue = h.queue i; first = h.first i }

-- a delivery moves reservations and what the legs record
recounted_sides : (ms ns : List Member) → EachTo Recounted ms ns → sides ns ≡ sides ms
unfolding sides
recounted_sides [] [] h = refl
recounted_sides [] (n ∷ ns) h = absurd h
recounted_sides (m ∷ ms) [] h = absurd h
recounted_sides (m ∷ ms) (n ∷ ns) h =
    ap (λ (v : Side). v ∷ sides ns) (ap side h.0.is) ∙ ap {B = List Side} (λ (vs : List Side). side m ∷ vs) (recounted_sides ms ns h.1)

advanced_sides : (sequence : ℕ) (ms : List Member) → sides (each (on_leg (advance_receive_sequence sequence)) ms) ≡ sides ms
unfolding sides each
advanced_sides sequence [] = refl
advanced_sides sequence (m ∷ ms) = ap {B = List Side} (λ (vs : List Side). side m ∷ vs) (advanced_sides sequence ms)

pub deliver_packet_leaves_sides : (base : ℕ) (p : Packet) (s : State)
    → sides (deliver_packet base p s).members ≡ sides s.members
deliver_packet_leaves_sides base p s =
    recounted_sides (run_passed base p s).members _ (deliver_released base p s).members ∙ advanced_sides _ s.members
