-- What stays with a member whose label or leg moves: the frame of the moves of CallLaw, for the laws that do not look closer.
use Rattle.std.specs.Prelude.{◌≡◌, refl, true, List, ℕ, eqb, Some}
use Rattle.std.proofs.Common.{sym, ap, subst, ◌∙◌}
use Rattle.srt_group_model.specs.Tools.{at_place, change, All}
use Rattle.srt_group_model.specs.Laws.Reason.{if_some_elim, some_inj, first_such_of, EachTo, each_to_change}
use Rattle.srt_group_model.specs.State.{Member, State, broken_state, with_leg}
use Rattle.srt_group_model.specs.Legs.{Reading, readings, reading_of}
use Rattle.srt_group_model.specs.Members.{id_of, in_state}
use Rattle.srt_group_model.specs.Calls.{read_field}
use Rattle.srt_group_model.specs.Laws.Frame.{SameLeg, send_gives, synchronize_gives, align_gives}
use Rattle.srt_group_model.specs.Laws.Queues.{Relabelled, relabelled_same, AllRelabelled}
use Rattle.srt_group_model.specs.Laws.CallLaw.{MemberMove, unmoved, turn, admission, colliding, alignment, catching_up, leg_send, leg_end, leg_reading, advance}
use Rattle.srt_group_model.specs.declared.Leg.{Leg}
use Rattle.srt_group_model.specs.declared.Receiver.{Receiver}

-- ---- a reading leaves the reservation and the peer's first sequence

LeavesBoth : Reading → Type 0
LeavesBoth r = (n : ℕ) (l : Leg) → ((r.put n l).receiver.reserved ≡ l.receiver.reserved) × ((r.put n l).receiver.first ≡ l.receiver.first)

readings_leave : All LeavesBoth readings
unfolding readings LeavesBoth
readings_leave =
    (λ n l. (refl, refl), (λ n l. (refl, refl), (λ n l. (refl, refl), (λ n l. (refl, refl), (λ n l. (refl, refl), (λ n l. (refl, refl), (λ n l. (refl, refl), (λ n l. (refl, refl), (λ n l. (refl, refl), (λ n l. (refl, refl), (λ n l. (refl, refl), (λ n l. (refl, refl), tt))))))))))))

reading_leaves : (field : ℕ) (r : Reading) → reading_of field ≡ Some r → LeavesBoth r
unfolding reading_of
reading_leaves field r e = (first_such_of LeavesBoth _ readings r e readings_leave).0

read_leaves : (field n : ℕ) (l : Leg) → ((read_field field n l).receiver.reserved ≡ l.receiver.reserved) × ((read_field field n l).receiver.first ≡ l.receiver.first)
unfolding read_field LeavesBoth
read_leaves field n l =
    if_some_elim (λ (k : Leg). (k.receiver.reserved ≡ l.receiver.reserved) × (k.receiver.first ≡ l.receiver.first)) _ _ _
    (λ r e. reading_leaves field r e n l) (λ e. (refl, refl))

-- ---- a member whose label or leg moves

pub record SameAccount (m n : Member) : Type 0 where
  pub id : id_of n ≡ id_of m
  pub queue : n.queue ≡ m.queue
  pub account : n.membership.account ≡ m.membership.account
  pub reservation : n.leg.receiver.reserved ≡ m.leg.receiver.reserved
  pub first : n.leg.receiver.first ≡ m.leg.receiver.first
  pub broken : in_state broken_state m ≡ true → in_state broken_state n ≡ true

pub same_account : (m : Member) → SameAccount m m
same_account m = record { id = refl; queue = refl; account = refl; reservation = refl; first = refl; broken = λ b. b }

pub account_then : (a b c : Member) → SameAccount a b → SameAccount b c → SameAccount a c
account_then a b c h k =
    record {
      id = k.id ∙ h.id;
      queue = k.queue ∙ h.queue;
      account = k.account ∙ h.account;
      reservation = k.reservation ∙ h.reservation;
      first = k.first ∙ h.first;
      broken = λ e. k.broken (h.broken e);
    }

same_legs : (m : Member) (l : Leg) → SameLeg m.leg l → SameAccount m (with_leg l m)
same_legs m l h = record { id = refl; queue = refl; account = refl; reservation = ap (λ (x : Receiver). x.reserved) h.receiver; first = ap (λ (x : Receiver). x.first) h.receiver; broken = λ b. b }

pub moved_account : {s : State} {m n : Member} → MemberMove s m n → SameAccount m n
moved_account {s} {m} unmoved = same_account m
moved_account (turn n fits stays) =
    record { id = refl; queue = refl; account = refl; reservation = refl; first = refl; broken = λ b. ap (λ (k : ℕ). eqb k broken_state) (stays b) }
moved_account (admission e) = record { id = refl; queue = refl; account = refl; reservation = refl; first = refl; broken = λ b. b }
moved_account (colliding e) = record { id = refl; queue = refl; account = refl; reservation = refl; first = refl; broken = λ b. refl }
moved_account {s} {m} (alignment sequence l source e) = same_legs m l (align_gives sequence m.leg l e)
moved_account {s} {m} (catching_up entry l there e) = same_legs m l (synchronize_gives entry.sequence m.leg l e)
moved_account {s} {m} (leg_send time size sequence l fits e) = same_legs m l (send_gives time size sequence m.leg l e)
moved_account leg_end = record { id = refl; queue = refl; account = refl; reservation = refl; first = refl; broken = λ b. b }
moved_account {s} {m} (leg_reading field n fits forth) =
    record { id = refl; queue = refl; account = refl; reservation = (read_leaves field n m.leg).0; first = (read_leaves field n m.leg).1; broken = λ b. b }
moved_account (advance base count) = record { id = refl; queue = refl; account = refl; reservation = refl; first = refl; broken = λ b. b }

-- the member at a place moves, and the others stay
pub moved_at : (R : Member → Member → Type 0) → ((m : Member) → R m m) → (i : ℕ) (m : Member) (f : Member → Member) (ms : List Member) → at_place i ms ≡ Some m
    → R m (f m) → EachTo R ms (change i f ms)
moved_at R r i m f ms at h = each_to_change R r i f ms (λ x e. subst (λ (y : Member). R y (f y)) (some_inj (sym at ∙ e)) h)

pub moved_accounts : {s : State} (i : ℕ) (m : Member) (f : Member → Member) (ms : List Member) → at_place i ms ≡ Some m → MemberMove s m (f m) → EachTo SameAccount ms (change i f ms)
moved_accounts i m f ms at move = moved_at SameAccount same_account i m f ms at (moved_account move)

pub account_relabelled : (m n : Member) → SameAccount m n → Relabelled m n
account_relabelled m n h = record { id = h.id; queue = h.queue; broken = h.broken }

pub moved_relabelled : {s : State} (i : ℕ) (m : Member) (f : Member → Member) (ms : List Member) → at_place i ms ≡ Some m → MemberMove s m (f m) → AllRelabelled ms (change i f ms)
moved_relabelled i m f ms at move = moved_at Relabelled relabelled_same i m f ms at (account_relabelled m (f m) (moved_account move))
