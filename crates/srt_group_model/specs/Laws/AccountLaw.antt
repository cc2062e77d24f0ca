-- Accounts of packets over every call: what queueing, collecting, releasing, retiring and removing do to accounts, as one record; an account
-- that keeps it is kept by every call. The reserved sums are an instance (SumsKept).
use Rattle.std.specs.Prelude.{◌≡◌, Bool, true, ◌||◌, ℕ, ◌+◌, ◌-◌, eqb, length, drop, Some}
use Rattle.std.proofs.Math.Path.{refl, sym, ap, subst}
use Rattle.std.proofs.Common.{◌∙◌, arith}
use Rattle.std.proofs.Math.Bool.{false, not}
use mathlib.Core.List.{List, [], ◌∷◌, ◌++◌}
use borrow.Author.Tests.{eqb-true}
use Rattle.srt_protocol.specs.Sequence.{sequence_further}
use Rattle.srt_group_model.specs.Tools.{such_that, at_place, change, each, without_place, total, All}
use Rattle.srt_group_model.specs.Laws.Reason.{all_at, all_each, place_none, each_to_each, if_elim, if_some_elim, not_both, or_right, or_cases, or_yes_left, or_yes_right, all_map, all_append}
use Rattle.srt_group_model.specs.State.{Member, State, with_members, on_leg, on_account}
use Rattle.srt_group_model.specs.Accounts.{reserve, release, add_account, no_packets}
use Rattle.srt_group_model.specs.Legs.{handed, advance_receive_sequence}
use Rattle.srt_group_model.specs.Members.{id_of, has_id}
use Rattle.srt_group_model.specs.Nearest.{sequence_of, has_sequence, is_held, insert, is_covered, farthest}
use Rattle.srt_group_model.specs.Collecting.{is_late, is_discarded}
use Rattle.srt_group_model.specs.Delivery.{release_pending_reservation, release_all, advance_legs, deliver_packet, pass_run, skip_to}
use Rattle.srt_group_model.specs.Removal.{is_owned, own_packet, retire, take_out}
use Rattle.srt_group_model.specs.Cells.{is_data, is_among}
use Rattle.srt_group_model.specs.Validity.{one_twice, ascends, held_weight, own_weight, queued_weight}
use Rattle.srt_group_model.specs.Calls.{data_event, no_data, new_member}
use Rattle.srt_group_model.specs.Lent.{Lent, Call, perform}
use Rattle.srt_group_model.specs.Sound.{ids, Placed}
use Rattle.srt_group_model.specs.Laws.Frame.{place_passes}
use Rattle.srt_group_model.specs.Laws.HonestLog.{relabelled_ids, among_ids}
use Rattle.srt_group_model.specs.Laws.Unique.{among_any, ids_append, among_append, once_append, without_once}
use Rattle.srt_group_model.specs.Laws.Ascending.{insert_ascends, such_that_ascends, own_ascends}
use Rattle.srt_group_model.specs.Laws.Queues.{Relabelled, pop, packet_of}
use Rattle.srt_group_model.specs.Laws.MemberMoves.{SameAccount, moved_account}
use Rattle.srt_group_model.specs.Laws.CallLaw.{InFront, reported, Joining, PollLaw, CallLaw, RefreshLaw, CollectLaw, Calling}
use Rattle.srt_group_model.specs.Laws.EveryCall.{found, call_keeps}
use Rattle.srt_group_model.specs.Laws.Steps.{StateLaw, state_law_of}
use Rattle.srt_group_model.specs.Laws.Weights.{for_member, for_group, in_queue, counted_yes, counted_no, total_append, total_parted, total_inserted, inserted_all, all_passing, all_such_that, Alone, each_alone, farthest_of, held_other, held_owned, held_mine, none_held, others_hold, group_holds, front_weighs, without_all, change_all, ids_at, all_placed_after}
use Rattle.srt_group_model.specs.declared.Account.{Account}
use Rattle.srt_group_model.specs.declared.Data.{Data}
use Rattle.srt_group_model.specs.declared.Event.{Event}
use Rattle.srt_group_model.specs.declared.Leg.{Leg}
use Rattle.srt_group_model.specs.declared.Packet.{Packet}

-- ---- a rule

-- A rule of accounts: what a packet weighs; how a member's account and its leg's reservation stand to what its queue weighs and what
-- is held for it; how the group's own account stands to what it holds itself.
pub record AccountRule : Type 1 where
  pub weight : Data → ℕ
  pub member : (queued held : ℕ) → Account → (reservation : ℕ) → Type 0
  pub group : (held : ℕ) → Account → Type 0

-- every account is as the rule says, and every held packet is in one
pub record Accounts (rule : AccountRule) (ps : List Packet) (ms : List Member) (account : Account) : Type 0 where
  pub unique : one_twice (ids ms) ≡ false
  pub members :
      All
      (λ (m : Member).
      rule.member (queued_weight rule.weight m.queue) (held_weight rule.weight (id_of m) ps) m.membership.account m.leg.receiver.reserved)
      ms
  pub placed : All (Placed (ids ms)) ps
  pub own : rule.group (own_weight rule.weight ps) account

-- ---- the moves

pub record AccountLaw (rule : AccountRule) : Type 0 where
  -- a member joins
  pub joins : rule.member 0 0 no_packets 0
  -- a packet is queued for it; is collected and discarded; is collected and retained
  pub queues : (q h : ℕ) (a : Account) (r : ℕ) (d : Data) → rule.member q h a r → rule.member (rule.weight d + q) h a (r + d.count)
  pub discards : (q h : ℕ) (a : Account) (r : ℕ) (d : Data) → rule.member (rule.weight d + q) h a r → rule.member q h a (r - d.count)
  pub retains : (q h : ℕ) (a : Account) (r : ℕ) (d : Data) → rule.member (rule.weight d + q) h a r → rule.member q (rule.weight d + h) (reserve d.count a) r
  -- a packet held for it is released; one of the group's own is released or retired
  pub releases : (q h : ℕ) (a : Account) (r : ℕ) (d : Data) → rule.member q (rule.weight d + h) a r → rule.member q h (release d.count a) (r - d.count)
  pub own_releases : (h : ℕ) (a : Account) (d : Data) → rule.group (rule.weight d + h) a → rule.group h (release d.count a)
  -- it leaves, and the group takes over what is held for it
  pub takes_over : (q h : ℕ) (a : Account) (r own : ℕ) (b : Account) → rule.member q h a r → rule.group own b → rule.group (own + h) (add_account a b)

-- with it the held packets ascend, so that each is the only one with its sequence
pub record Accounted (rule : AccountRule) (ps : List Packet) (ms : List Member) (account : Account) : Type 0 where
  pub accounts : Accounts rule ps ms account
  pub ascending : ascends ps ≡ true

-- ---- members

placed_more : (id : ℕ) (l : List ℕ) (p : Packet) → Placed l p → Placed (l ++ (id ∷ [])) p
placed_more id l p h =
    or_cases (is_owned p) _ h (λ o. or_yes_left (is_owned p) _ o)
    (λ o. or_yes_right (is_owned p) _ (among_append p.member id l ∙ or_yes_left (is_among p.member l) _ o))

module _ (rule : AccountRule) (law : AccountLaw rule) where
  abbrev weight : Data → ℕ
  weight = rule.weight

  abbrev Row : (queued held : ℕ) → Account → (reservation : ℕ) → Type 0
  Row = rule.member

  abbrev Own : (held : ℕ) → Account → Type 0
  Own = rule.group

  abbrev Keeps : List Packet → List Member → Account → Type 0
  Keeps = Accounts rule

  abbrev RowOf : List Packet → Member → Type 0
  RowOf ps m = Row (queued_weight weight m.queue) (held_weight weight (id_of m) ps) m.membership.account m.leg.receiver.reserved

  same_row : {q q' h h' : ℕ} {a : Account} {r : ℕ} → q' ≡ q → h' ≡ h → Row q h a r → Row q' h' a r
  same_row {q} {q'} {h} {h'} {a} {r} e g k = subst (λ (n : ℕ). Row n h' a r) (sym e) (subst (λ (n : ℕ). Row q n a r) (sym g) k)

  moved_row : (ps : List Packet) (m n : Member) → SameAccount m n → RowOf ps m → RowOf ps n
  moved_row ps m n c k =
      let q = queued_weight weight m.queue in
      let h = held_weight weight (id_of m) ps in
      same_row (ap (queued_weight weight) c.queue) (ap (λ (id : ℕ). held_weight weight id ps) c.id)
      (subst (λ (a : Account). Row q h a n.leg.receiver.reserved) (sym c.account) (subst (Row q h m.membership.account) (sym c.reservation) k))

  abbrev pub Kept : State → Type 0
  Kept s = Accounted rule s.receive.pending s.members s.own

  -- one member is changed; what is held for the others weighs what it did
  changed : (ps qs : List Packet) (i : ℕ) (m : Member) (f : Member → Member) (ms : List Member) (a b : Account) → at_place i ms ≡ Some m → id_of (f m) ≡ id_of m
      → ((id : ℕ) → (id ≡ id_of m → ⊥) → held_weight weight id qs ≡ held_weight weight id ps) → (RowOf ps m → RowOf qs (f m)) → All (Placed (ids ms)) qs
      → Own (own_weight weight qs) b → Keeps ps ms a → Keeps qs (change i f ms) b
  changed ps qs i m f ms a b at same others mine placed own k =
      let names = ids_at i m f ms at same in
      record {
        unique = ap one_twice names ∙ k.unique;
        members =
            change_all (RowOf qs) f i m ms at
            (all_map (λ (x : Member). RowOf ps x × (id_of x ≡ id_of m → ⊥)) (RowOf qs) (λ x h. same_row refl (others (id_of x) h.1) h.0) (without_place i ms)
            (without_all (RowOf ps) i m ms k.unique at k.members))
            (mine (all_at (RowOf ps) i m ms at k.members));
        placed = subst (λ (l : List ℕ). All (Placed l) qs) (sym names) placed;
        own = own;
      }

  -- one member is changed, and nothing that is held
  changes : (s : State) (i : ℕ) (m : Member) (f : Member → Member) → at_place i s.members ≡ Some m → id_of (f m) ≡ id_of m
      → (RowOf s.receive.pending m → RowOf s.receive.pending (f m)) → Kept s → Kept (with_members (change i f s.members) s)
  changes s i m f at same mine h =
      let k = h.accounts in
      record { accounts = changed _ _ i m f s.members _ _ at same (λ id other. refl) mine k.placed k.own k; ascending = h.ascending }

  -- other packets that weigh the same, whatever is weighed
  weighed_alike : (ps qs : List Packet) (ms : List Member) (a : Account) → ((f : Packet → ℕ) → total f qs ≡ total f ps) → All (Placed (ids ms)) qs → Keeps ps ms a → Keeps qs ms a
  weighed_alike ps qs ms a same placed k =
      record {
        unique = k.unique;
        members = all_map (RowOf ps) (RowOf qs) (λ m h. same_row refl (same (for_member weight (id_of m))) h) ms k.members;
        placed = placed;
        own = subst (λ (n : ℕ). Own n a) (sym (same (for_group weight))) k.own;
      }

  -- ---- collecting

  module _ (s : State) (i : ℕ) (m : Member) (e : Event) (f : InFront s i m e) where
    collected : eqb e.kind 0 ≡ true → RowOf s.receive.pending m
        → Row (weight e.content + queued_weight weight (drop 1 m.queue)) (held_weight weight (id_of m) s.receive.pending) m.membership.account m.leg.receiver.reserved
    collected d k =
        same_row (omega (arith, front_weighs weight m.queue e f.first, counted_yes is_data (λ x. weight x.content) e d)) refl k

    holds : eqb e.kind 0 ≡ true → Keeps s.receive.pending s.members s.own
        → Keeps (insert (packet_of m e) s.receive.pending) (change i (λ x. on_account (reserve e.content.count) (pop x)) s.members) s.own
    holds d k =
        let p = packet_of m e in
        let ps = s.receive.pending in
        changed ps (insert p ps) i m _ s.members _ _ f.stands refl
        (λ id other. omega (arith, total_inserted (for_member weight id) p ps, held_other weight id p other))
        (λ h.
        same_row refl (omega (arith, total_inserted (for_member weight (id_of m)) p ps, held_mine weight (id_of m) p refl refl))
        (law.retains _ _ _ _ e.content (collected d h)))
        (inserted_all (Placed (ids s.members)) p ps (among_ids i m s.members f.stands) k.placed)
        (subst (λ (n : ℕ). Own n s.own) (omega (arith, total_inserted (for_group weight) p ps, counted_no is_owned (λ x. weight x.content) p refl)) k.own) k

    reports : eqb e.kind 0 ≡ false → Kept s → Kept (reported i m e s)
    reports d =
        changes s i m pop f.stands refl
        (λ k. same_row (omega (arith, front_weighs weight m.queue e f.first, counted_no is_data (λ x. weight x.content) e d)) refl k)

  -- ---- releasing

  releases_own : (p : Packet) (qs : List Packet) (ms : List Member) (a : Account) → is_owned p ≡ true → Keeps (p ∷ qs) ms a → Keeps qs ms (release p.content.count a)
  unfolding total
  releases_own p qs ms a o k =
      record {
        unique = k.unique;
        members = all_map (RowOf (p ∷ qs)) (RowOf qs) (λ m h. same_row refl (omega (arith, held_owned weight (id_of m) p o)) h) ms k.members;
        placed = k.placed.1;
        own =
            law.own_releases _ a p.content
            (subst (λ (n : ℕ). Own (n + own_weight weight qs) a) (counted_yes is_owned (λ x. weight x.content) p o) k.own);
      }

  releases_one : (p : Packet) (qs : List Packet) (s : State) → Keeps (p ∷ qs) s.members s.own
      → Keeps qs (release_pending_reservation p s).members (release_pending_reservation p s).own
  unfolding release_pending_reservation total
  releases_one p qs s k =
      if_elim (λ (t : State). Keeps qs t.members t.own) _ _ _ (λ o. releases_own p qs s.members s.own o k)
      (λ o.
      if_some_elim (λ (t : State). Keeps qs t.members t.own) _ _ _
      (λ i g.
      let there = found p.member s.members i g in
      let m = there.member in
      let same : id_of m ≡ p.member = eqb-true (id_of m) p.member (place_passes (has_id p.member) s.members i g m there.stands) in
      changed (p ∷ qs) qs i m _ s.members s.own s.own there.stands refl
      (λ id other. omega (arith, held_other weight id p (λ e. other (e ∙ sym same))))
      (λ h. law.releases _ _ _ _ p.content (same_row refl (omega (arith, held_mine weight (id_of m) p same o)) h)) k.placed.1
      (subst (λ (n : ℕ). Own n s.own) (omega (arith, counted_no is_owned (λ x. weight x.content) p o)) k.own) k)
      (λ g.
      not_both (ap (λ (b : Bool). b || is_among p.member (ids s.members)) (sym o) ∙ k.placed.0)
      (among_any p.member s.members ∙ place_none (has_id p.member) s.members g)))

  releases_all : (cs rest : List Packet) (s : State) → Keeps (cs ++ rest) s.members s.own → Keeps rest (release_all cs s).members (release_all cs s).own
  unfolding release_all
  releases_all [] rest s k = k
  releases_all (p ∷ cs) rest s k = releases_all cs rest (release_pending_reservation p s) (releases_one p (cs ++ rest) s k)

  delivers : (base : ℕ) (p : Packet) (s : State) → Keeps s.receive.pending s.members s.own
      → Keeps (deliver_packet base p s).receive.pending (deliver_packet base p s).members (deliver_packet base p s).own
  unfolding deliver_packet pass_run advance_legs
  delivers base p s k =
      let ps = s.receive.pending in
      let test = is_covered base p.content.count in
      let gone = such_that test ps in
      let rest = such_that (λ q. not (test q)) ps in
      let advance = on_leg (advance_receive_sequence (sequence_further base p.content.count)) in
      let ns = (release_all gone s).members in
      let done =
      releases_all gone rest s
      (weighed_alike ps (gone ++ rest) s.members s.own (λ f. omega (arith, total_parted f test ps, total_append f gone rest))
      (all_append (Placed (ids s.members)) gone rest (all_such_that _ test ps k.placed) (all_such_that _ (λ q. not (test q)) ps k.placed)) k)
      in
      let names : ids (each advance ns) ≡ ids ns = relabelled_ids ns (each advance ns) (each_to_each Relabelled advance (λ m. record { id = refl; queue = refl; broken = λ b. b }) ns) in
      record {
        unique = ap one_twice names ∙ done.unique;
        members = all_each (RowOf rest) advance (λ m h. h) ns done.members;
        placed = subst (λ (l : List ℕ). All (Placed l) rest) (sym names) done.placed;
        own = done.own;
      }

  -- ---- joining and leaving

  joins : (id rank : ℕ) (l : Leg) (s : State) → Joining id rank l s → Keeps s.receive.pending s.members s.own
      → Keeps s.receive.pending (s.members ++ (new_member id rank (handed l) s ∷ [])) s.own
  unfolding new_member each total
  joins id rank l s j k =
      let m = new_member id rank (handed l) s in
      let ps = s.receive.pending in
      let fresh : is_among id (ids s.members) ≡ false = among_any id s.members ∙ j.fresh in
      let names = ids_append s.members (m ∷ []) in
      record {
        unique = ap one_twice names ∙ once_append id (ids s.members) k.unique fresh;
        members =
            all_append (RowOf ps) s.members (m ∷ []) k.members
            (same_row refl (none_held weight id (ids s.members) ps fresh k.placed) (subst (Row 0 0 no_packets) (sym j.unreserved) law.joins), tt);
        placed =
            subst (λ (l : List ℕ). All (Placed l) ps) (sym names)
            (all_map (Placed (ids s.members)) (Placed (ids s.members ++ (id ∷ []))) (placed_more id (ids s.members)) ps k.placed);
        own = k.own;
      }

  leaves : (i : ℕ) (m : Member) (ps : List Packet) (ms : List Member) (a : Account) → at_place i ms ≡ Some m → Keeps ps ms a
      → Keeps (each (own_packet (id_of m)) ps) (without_place i ms) (add_account m.membership.account a)
  leaves i m ps ms a at k =
      record {
        unique = without_once i ms k.unique;
        members =
            all_map (λ (x : Member). RowOf ps x × (id_of x ≡ id_of m → ⊥)) (RowOf (each (own_packet (id_of m)) ps))
            (λ x h. same_row refl (others_hold weight (id_of x) (id_of m) ps h.1) h.0) (without_place i ms)
            (without_all (RowOf ps) i m ms k.unique at k.members);
        placed = all_placed_after i m ms ps at k.placed;
        own =
            subst (λ (n : ℕ). Own n (add_account m.membership.account a)) (sym (group_holds weight (id_of m) ps))
            (law.takes_over _ _ _ _ _ a (all_at (RowOf ps) i m ms at k.members) k.own);
      }

  retires : (base : ℕ) (p : Packet) (ps : List Packet) (ms : List Member) (a : Account) → farthest base (such_that is_owned ps) ≡ Some p → ascends ps ≡ true → Keeps ps ms a
      → Keeps (such_that (λ q. not (has_sequence (sequence_of p) q)) ps) ms (release p.content.count a)
  unfolding total
  retires base p ps ms a far up k =
      let rest = such_that (λ q. not (has_sequence (sequence_of p) q)) ps in
      let h = farthest_of (λ (q : Packet). Alone ps q × (is_owned q ≡ true)) base (such_that is_owned ps) p (all_passing (Alone ps) is_owned ps (each_alone ps up)) far in
      releases_own p rest ms a h.1
      (weighed_alike ps (p ∷ rest) ms a (λ f. sym (h.0 f)) (or_yes_left (is_owned p) _ h.1, all_such_that (Placed (ids ms)) _ ps k.placed) k)

  -- ---- every call

  deliver_kept : (s : State) (base : ℕ) (p : Packet) → Kept s → Kept (deliver_packet base p s)
  deliver_kept s base p h =
      record { accounts = delivers base p s h.accounts; ascending = unfold deliver_packet pass_run in (such_that_ascends _ s.receive.pending h.ascending) }

  refreshes : RefreshLaw (λ hand s log. Kept s)
  refreshes =
      record {
        moves = λ s i m f at move h. let c = moved_account move in changes s i m f at c.id (moved_row _ m (f m) c) h;
        binds = λ s i m at a unbound h. h;
        sets_base = λ s b e source h. h;
      }

  collects : CollectLaw (λ hand s log. Kept s)
  unfolding is_discarded
  collects =
      record {
        continues = λ s b h. h;
        turns = λ s i m at h. h;
        discards = λ s i m e f d g h. changes s i m _ f.stands refl (λ k. law.discards _ _ _ _ e.content (collected s i m e f d k)) h;
        holds =
            λ s i m e f d g h.
            record {
              accounts = holds s i m e f d h.accounts;
              ascending = insert_ascends _ s.receive.pending (or_right (is_late _ s.receive) (is_held e.content.sequence s.receive.pending) g) h.ascending;
            };
        reports = λ s i m e f d few h. reports s i m e f d h;
      }

  polls : PollLaw (λ hand s log. Kept s)
  unfolding skip_to
  polls =
      record {
        gives = λ s h. h;
        skips = λ s base p tested time b n near h. h;
        delivers = λ s base p b e h. deliver_kept s base p h;
      }

  calls : (k : Calling) → CallLaw k (λ hand s log. Kept s)
  unfolding take_out retire total
  calls k =
      record {
        refreshing = refreshes;
        collecting = λ poll. collects;
        polling = λ poll. polls;
        joins = λ s id rank l queue is j h. record { accounts = joins id rank l s j h.accounts; ascending = h.ascending };
        leaves = λ s i m is at h. record { accounts = leaves i m _ s.members s.own at h.accounts; ascending = own_ascends (id_of m) s.receive.pending ∙ h.ascending };
        retires = λ s id base p is far h. record { accounts = retires base p _ s.members s.own far h.ascending h.accounts; ascending = such_that_ascends _ s.receive.pending h.ascending };
        takes = λ payload takes free h. h;
        puts = λ s cell payload takes accepted short unused h. h;
        lets_go = λ s cell h. h;
        queues_data =
            λ s i m cell d payload is accepted at full unfit short h.
            let e = data_event cell (length payload) d in
            let more = total_append (in_queue weight) m.queue (e ∷ []) in
            changes s i m _ at refl (λ k. same_row (omega (arith, more, counted_yes is_data (λ x. weight x.content) e refl)) refl (law.queues _ _ _ _ e.content k)) h;
        queues_event =
            λ s i m id kind reason is at full some_kind known fits h.
            let e : Event = record { kind = kind; reason = reason; content = no_data } in
            let more = total_append (in_queue weight) m.queue (e ∷ []) in
            changes s i m _ at refl (λ k. same_row (omega (arith, more, counted_no is_data (λ x. weight x.content) e some_kind)) refl k) h;
        numbers = λ s sequence h. h;
        remembers = λ s i m e at next short fits h. h;
        trims = λ s l h. h;
      }

  -- An account that keeps these moves is kept by every call, and between the steps of a poll.
  pub account_kept : (c : Call) (lent : Lent) (s : State) → Kept s → Kept (perform c lent s).state
  account_kept c lent s h = call_keeps (λ hand s log. Kept s) c lent s (calls _) h

  pub account_steps : StateLaw Kept
  unfolding skip_to
  account_steps = state_law_of (λ hand s log. Kept s) Kept refreshes collects polls (λ s log h. h) (λ s log h. h) reports deliver_kept (λ s base p g h. h) (λ s p g h. h)
