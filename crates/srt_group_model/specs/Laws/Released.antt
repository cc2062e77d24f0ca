-- What a release leaves alone, walked once: the laws of deliveries cite it. A member is recounted: its account and its leg's reservation
-- may move, and nothing else of it does. Releasing packets recounts the members and moves the group's own sum. A delivery
-- leaves, but for that, the state in which the run is passed. A removal retires the group's own packets one by one.
use Rattle.std.specs.Prelude.{◌≡◌, refl, List, [], ◌∷◌, ℕ, zero, suc, Some}
use Rattle.std.proofs.Common.{ap, ◌∙◌}
use Rattle.srt_protocol.specs.Sequence.{sequence_further}
use Rattle.srt_group_model.specs.Tools.{such_that, each}
use Rattle.srt_group_model.specs.Laws.Reason.{if_elim, if_some_elim, EachTo, each_to_same, each_to_then, each_to_each, each_to_change, each_to_map, each_to_both}
use Rattle.srt_group_model.specs.State.{Member, State, with_receive, with_members, on_leg, on_membership, broken_state, with_own, with_account}
use Rattle.srt_group_model.specs.Legs.{with_reservation, advance_receive_sequence}
use Rattle.srt_group_model.specs.Members.{id_of, in_state}
use Rattle.srt_group_model.specs.Nearest.{covered, farthest}
use Rattle.srt_group_model.specs.Delivery.{release_pending_reservation, release_all, advance_legs, deliver_packet, pass_run}
use Rattle.srt_group_model.specs.Removal.{is_owned, retire, bound_group_owned_pending}
use Rattle.srt_group_model.specs.Laws.Queues.{Relabelled, AllRelabelled, relabelled_then}
use Rattle.srt_group_model.specs.declared.Account.{Account}
use Rattle.srt_group_model.specs.declared.Packet.{Packet}

-- ---- a member is recounted

abbrev pub recounted : (account : Account) (reservation : ℕ) → Member → Member
recounted account reservation m = on_leg (with_reservation reservation) (on_membership (with_account account) m)

pub record Recounted (m n : Member) : Type 0 where
  pub account : Account
  pub reservation : ℕ
  pub is : n ≡ recounted account reservation m

recounted_same : (m : Member) → Recounted m m
recounted_same m = record { account = m.membership.account; reservation = m.leg.receiver.reserved; is = refl }

recounted_then : (a b c : Member) → Recounted a b → Recounted b c → Recounted a c
recounted_then a b c h k =
    record { account = k.account; reservation = k.reservation; is = k.is ∙ ap (recounted k.account k.reservation) h.is }

recounted_relabelled : (m n : Member) → Recounted m n → Relabelled m n
recounted_relabelled m n h = record { id = ap id_of h.is; queue = ap (λ (x : Member). x.queue) h.is; broken = λ b. ap (in_state broken_state) h.is ∙ b }

-- ---- packets are released

pub record Released (s t : State) : Type 0 where
  pub making : t.making ≡ s.making
  pub peer : t.peer ≡ s.peer
  pub receive : t.receive ≡ s.receive
  pub send : t.send ≡ s.send
  pub visit : t.visit ≡ s.visit
  pub waiting : t.waiting ≡ s.waiting
  pub members : EachTo Recounted s.members t.members

released_then : (s t u : State) → Released s t → Released t u → Released s u
released_then s t u h k =
    record {
      making = k.making ∙ h.making;
      peer = k.peer ∙ h.peer;
      receive = k.receive ∙ h.receive;
      send = k.send ∙ h.send;
      visit = k.visit ∙ h.visit;
      waiting = k.waiting ∙ h.waiting;
      members = each_to_then Recounted recounted_then s.members t.members u.members h.members k.members;
    }

only_members : (s : State) (own : Account) (ms : List Member) → EachTo Recounted s.members ms → Released s (with_own own (with_members ms s))
only_members s own ms h =
    record { making = refl; peer = refl; receive = refl; send = refl; visit = refl; waiting = refl; members = h }

pub release_one : (p : Packet) (s : State) → Released s (release_pending_reservation p s)
unfolding release_pending_reservation
release_one p s =
    let same = each_to_same Recounted recounted_same s.members in
    if_elim (Released s) _ _ _ (λ e. only_members s _ s.members same)
    (λ e.
    if_some_elim (Released s) _ _ _
    (λ i g.
    only_members s s.own _
    (each_to_change Recounted recounted_same i _ s.members (λ m at. record { account = _; reservation = _; is = refl })))
    (λ g. only_members s s.own s.members same))

pub release_all_released : (ps : List Packet) (s : State) → Released s (release_all ps s)
unfolding release_all
release_all_released [] s = only_members s s.own s.members (each_to_same Recounted recounted_same s.members)
release_all_released (p ∷ ps) s = released_then s _ _ (release_one p s) (release_all_released ps (release_pending_reservation p s))

-- ---- a packet is delivered

-- the base passes the run, and every leg records it
abbrev pub run_passed : ℕ → Packet → State → State
run_passed base p s =
    with_receive (pass_run base p s.receive) (with_members (each (on_leg (advance_receive_sequence (sequence_further base p.content.count))) s.members) s)

pub deliver_released : (base : ℕ) (p : Packet) (s : State) → Released (run_passed base p s) (deliver_packet base p s)
unfolding deliver_packet advance_legs
deliver_released base p s =
    let h = release_all_released (covered base p.content.count s.receive.pending) s in
    record {
      making = h.making;
      peer = h.peer;
      receive = refl;
      send = h.send;
      visit = h.visit;
      waiting = h.waiting;
      members =
          each_to_both Recounted (on_leg (advance_receive_sequence (sequence_further base p.content.count)))
          (λ m n k. record { account = k.account; reservation = k.reservation; is = ap (on_leg (advance_receive_sequence (sequence_further base p.content.count))) k.is })
          s.members _ h.members;
    }

pub deliver_relabelled : (base : ℕ) (p : Packet) (s : State) → AllRelabelled s.members (deliver_packet base p s).members
deliver_relabelled base p s =
    each_to_then Relabelled relabelled_then s.members (run_passed base p s).members _
    (each_to_each Relabelled (on_leg (advance_receive_sequence _)) (λ m. record { id = refl; queue = refl; broken = λ b. b }) s.members)
    (each_to_map Recounted Relabelled recounted_relabelled (run_passed base p s).members _ (deliver_released base p s).members)

-- ---- the group's own packets are bounded

-- what each retirement keeps, all of them keep
pub retirements_keep : (P : State → Type 0) (base : ℕ) → ((s : State) (p : Packet) → farthest base (such_that is_owned s.receive.pending) ≡ Some p → P s → P (retire p s))
    → (left limit : ℕ) (s : State) → P s → P (bound_group_owned_pending left limit base s)
unfolding bound_group_owned_pending
retirements_keep P base f zero limit s h = h
retirements_keep P base f (suc left) limit s h =
    if_some_elim P _ _ _ (λ p e. if_elim P _ _ _ (λ g. h) (λ g. retirements_keep P base f left limit (retire p s) (f s p e h))) (λ e. h)
