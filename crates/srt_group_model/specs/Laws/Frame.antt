-- What alignment and a take-over leave of a member: its label, its queue, its leg's receiving side and link. And where searches stand.
use Rattle.std.specs.Prelude.{◌≡◌, refl, Bool, true, false, ◌&&◌, List, [], ◌∷◌, ℕ, suc, eqb, None, Option, Some}
use Rattle.std.proofs.Common.{sym, ap, ap₂, subst, ◌∙◌, eqb-true}
use Rattle.srt_group_model.specs.Tools.{if_true◌then◌else◌, if_some◌give◌otherwise◌, at_place, change, place_of}
use Rattle.srt_group_model.specs.Laws.Reason.{if_elim, if_some_elim, and_left, none_some, some_inj, EachTo, each_to_same, each_to_change, each_to_none, each_to_before}
use Rattle.srt_group_model.specs.State.{Member, State, with_leg, active_state, broken_state}
use Rattle.srt_group_model.specs.Legs.{connected, send_shared_with_sequence, synchronize_send_sequence}
use Rattle.srt_group_model.specs.Members.{id_of, in_state, is_active, is_standby, Placed, first_in_rank, promotion, align_leg, align_member_sequence, found}
use Rattle.srt_group_model.specs.Sending.{Flow}
use Rattle.srt_group_model.specs.Backup.{trim_by_carrier, Replayed, replay_entries, replay_on, replay_flight, align_carrier, take_over_backup_flight}
use Rattle.srt_group_model.specs.declared.Leg.{Leg}
use Rattle.srt_group_model.specs.declared.Link.{Link}
use Rattle.srt_group_model.specs.declared.Entry.{Entry}
use Rattle.srt_group_model.specs.declared.Membership.{Membership}

-- ---- a member kept

-- a member of which only the leg's sending side has moved
pub record Kept (m n : Member) : Type 0 where
  pub membership : n.membership ≡ m.membership
  pub queue : n.queue ≡ m.queue
  pub receiver : n.leg.receiver ≡ m.leg.receiver
  pub link : n.leg.link ≡ m.leg.link

pub kept_same : (m : Member) → Kept m m
kept_same m = record { membership = refl; queue = refl; receiver = refl; link = refl }

abbrev pub AllKept : List Member → List Member → Type 0
AllKept = EachTo Kept

-- a member in another state is not Broken
pub not_broken : (m : Member) (n : ℕ) → in_state n m ≡ true → eqb n broken_state ≡ false → in_state broken_state m ≡ false
not_broken m n h e = ap (λ (x : ℕ). eqb x broken_state) (eqb-true m.membership.state n h) ∙ e

-- ---- a leg that sends or is aligned keeps its receiving side and its link

pub record SameLeg (l k : Leg) : Type 0 where
  pub receiver : k.receiver ≡ l.receiver
  pub link : k.link ≡ l.link

abbrev pub Gives : (l : Leg) → Option Leg → Type 0
Gives l o = (k : Leg) → o ≡ Some k → SameLeg l k

same_leg : (l : Leg) → SameLeg l l
same_leg l = record { receiver = refl; link = refl }

gives_some : (l k : Leg) → SameLeg l k → Gives l (Some k)
gives_some l k h x e = subst (SameLeg l) (some_inj e) h

gives_none : (l : Leg) → Gives l None
gives_none l x e = none_some e

pub send_gives : (time size sequence : ℕ) (l : Leg) → Gives l (send_shared_with_sequence time size sequence l)
unfolding send_shared_with_sequence
send_gives time size sequence l =
    if_elim (Gives l) _ _ _ (λ e. gives_some l _ record { receiver = refl; link = refl }) (λ e. gives_none l)

pub synchronize_gives : (sequence : ℕ) (l : Leg) → Gives l (synchronize_send_sequence sequence l)
unfolding synchronize_send_sequence
synchronize_gives sequence l =
    if_elim (Gives l) _ _ _ (λ e. gives_some l _ record { receiver = refl; link = refl }) (λ e. gives_none l)

pub align_gives : (sequence : ℕ) (l : Leg) → Gives l (align_leg sequence l)
unfolding align_leg
align_gives sequence l =
    if_elim (Gives l) _ _ _ (λ e. gives_some l l (same_leg l)) (λ e. synchronize_gives sequence l)

pub leg_kept : (m : Member) (l : Leg) → SameLeg m.leg l → Kept m (with_leg l m)
leg_kept m l h = record { membership = refl; queue = refl; receiver = h.receiver; link = h.link }

-- the member at a place is the one that was looked up there
pub put_leg_kept : (i : ℕ) (l : Leg) (m : Member) (ms : List Member) → at_place i ms ≡ Some m → SameLeg m.leg l → AllKept ms (change i (with_leg l) ms)
put_leg_kept i l m ms at h =
    each_to_change Kept kept_same i (with_leg l) ms
    (λ x e. leg_kept x l (subst (λ (y : Member). SameLeg y.leg l) (some_inj (sym at ∙ e)) h))

-- ---- alignment and promotion

abbrev pub Aligns : List Member → Option (List Member) → Type 0
Aligns ms o = (ns : List Member) → o ≡ Some ns → AllKept ms ns

aligns_some : (ms ns : List Member) → AllKept ms ns → Aligns ms (Some ns)
aligns_some ms ns h x e = subst (AllKept ms) (some_inj e) h

pub align_kept : (number : Option ℕ) (i : ℕ) (ms : List Member) → Aligns ms (align_member_sequence number i ms)
unfolding align_member_sequence
align_kept number i ms =
    if_some_elim (Aligns ms) _ _ _
    (λ m at.
    if_some_elim (Aligns ms) _ _ _
    (λ sequence g.
    if_some_elim (Aligns ms) _ _ _
    (λ l k. aligns_some ms _ (put_leg_kept i l m ms at (align_gives sequence m.leg l k)))
    (λ k x e. none_some e))
    (λ g. aligns_some ms ms (each_to_same Kept kept_same ms)))
    (λ g x e. none_some e)

-- the one that is first in rank stands at its place and is a candidate
pub record Stands (candidate : Member → Bool) (ms : List Member) (r : Placed) : Type 0 where
  pub at : at_place r.place ms ≡ Some r.member
  pub is : candidate r.member ≡ true

abbrev Ranks : (Member → Bool) → List Member → Option Placed → Type 0
Ranks candidate ms o = (r : Placed) → o ≡ Some r → Stands candidate ms r

ranks_some : (candidate : Member → Bool) (ms : List Member) (r : Placed) → Stands candidate ms r → Ranks candidate ms (Some r)
ranks_some candidate ms r h x e = subst (Stands candidate ms) (some_inj e) h

-- the one that is found does, too
pub found_stands : (test : Member → Bool) (ms : List Member) → Ranks test ms (found test ms)
unfolding found at_place
found_stands test [] = λ r e. none_some e
found_stands test (m ∷ ms) =
    if_elim (Ranks test (m ∷ ms)) _ _ _ (λ passes. ranks_some test (m ∷ ms) _ record { at = refl; is = passes })
    (λ fails.
    if_some_elim (Ranks test (m ∷ ms)) _ _ _
    (λ f e. let h = found_stands test ms f e in ranks_some test (m ∷ ms) _ record { at = h.at; is = h.is })
    (λ e r g. none_some g))

-- found at its place
abbrev placed : ℕ → Member → Option Placed
placed i m = Some record { place = i; member = m }

abbrev placed_on : Option Placed → Option Placed
placed_on o = if_some o give (λ f. placed (suc f.place) f.member) otherwise None

pub found_at : (test : Member → Bool) (ms : List Member) (i : ℕ) (m : Member) → place_of test ms ≡ Some i → at_place i ms ≡ Some m
    → found test ms ≡ Some record { place = i; member = m }
unfolding found place_of at_place if_true◌then◌else◌ if_some◌give◌otherwise◌
found_at test [] i m is at = none_some is
found_at test (x ∷ ms) i m is at = go (test x) (place_of test ms) (λ j there stands. found_at test ms j m there stands) is at
  where
    go : (b : Bool) (o : Option ℕ)
        → ((j : ℕ) → o ≡ Some j → at_place j ms ≡ Some m → found test ms ≡ Some record { place = j; member = m })
        → (if_true b then Some 0 else (if_some o give (λ j. Some (suc j)) otherwise None)) ≡ Some i → at_place i (x ∷ ms) ≡ Some m
        → (if_true b then placed 0 x else placed_on (found test ms)) ≡ placed i m
    go true o rest is at =
        let here : 0 ≡ i = some_inj is in
        let same : x ≡ m = some_inj (ap (λ (n : ℕ). at_place n (x ∷ ms)) here ∙ at) in
        λ k. placed (here k) (same k)
    go false None rest is at = none_some is
    go false (Some j) rest is at =
        let here : suc j ≡ i = some_inj is in
        let h = rest j refl (ap (λ (n : ℕ). at_place n (x ∷ ms)) here ∙ at) in
        ap placed_on h ∙ (λ k. placed (here k) m)

pub first_in_rank_stands : (candidate : Member → Bool) (ms : List Member) → Ranks candidate ms (first_in_rank candidate ms)
unfolding first_in_rank at_place
first_in_rank_stands candidate [] = λ r e. none_some e
first_in_rank_stands candidate (m ∷ ms) =
    if_some_elim (Ranks candidate (m ∷ ms)) _ _ _
    (λ r g.
    ranks_some candidate (m ∷ ms) _
    (if_elim (Stands candidate (m ∷ ms)) _ _ _ (λ h. record { at = refl; is = and_left (candidate m) _ h })
    (λ h.
    let rest = first_in_rank_stands candidate ms r g in
    record { at = rest.at; is = rest.is })))
    (λ g.
    if_elim (Ranks candidate (m ∷ ms)) _ _ _ (λ h. ranks_some candidate (m ∷ ms) _ record { at = refl; is = h })
    (λ h r e. none_some e))

pub promotion_standby : (ms : List Member) (i : ℕ) → promotion ms ≡ Some i → (m : Member) → at_place i ms ≡ Some m → is_standby m ≡ true
unfolding promotion
promotion_standby ms i =
    if_some_elim (λ (o : Option ℕ). o ≡ Some i → (m : Member) → at_place i ms ≡ Some m → is_standby m ≡ true) _ _ _
    (λ r g e m at.
    let stands = first_in_rank_stands is_standby ms r g in
    let place : r.place ≡ i = some_inj e in
    let here : at_place r.place ms ≡ Some m = ap (λ (k : ℕ). at_place k ms) place ∙ at in
    ap is_standby (some_inj (sym here ∙ stands.at)) ∙ stands.is)
    (λ g e. none_some e)

-- ---- sends

-- the place that `place_of` finds holds one that passes the test
pub place_passes : (test : Member → Bool) (ms : List Member) (i : ℕ) → place_of test ms ≡ Some i → (m : Member) → at_place i ms ≡ Some m → test m ≡ true
unfolding place_of at_place
place_passes test [] i = λ e. none_some e
place_passes test (x ∷ ms) i =
    if_elim (λ (o : Option ℕ). o ≡ Some i → (m : Member) → at_place i (x ∷ ms) ≡ Some m → test m ≡ true) _ _ _
    (λ t e m at. ap test (some_inj (sym at ∙ ap (λ (k : ℕ). at_place k (x ∷ ms)) (sym (some_inj e)))) ∙ t)
    (λ t.
    if_some_elim (λ (o : Option ℕ). o ≡ Some i → (m : Member) → at_place i (x ∷ ms) ≡ Some m → test m ≡ true) _ _ _
    (λ k g e m at.
    place_passes test ms k g m (ap (λ (j : ℕ). at_place j (x ∷ ms)) (some_inj e) ∙ at))
    (λ g e. none_some e))

-- an active member is not Broken, so a mark of a failed send or a demotion takes no one out of Broken
pub active_not_broken : (m : Member) → is_active m ≡ true → in_state broken_state m ≡ false
unfolding is_active
active_not_broken m h = not_broken m active_state (and_left _ _ h) refl

-- a take-over moves the legs' sending sides only
abbrev TakesOver : State → Flow → Type 0
TakesOver s f = AllKept s.members f.state.members

all_kept_same : (s : State) → AllKept s.members s.members
all_kept_same s = each_to_same Kept kept_same s.members

pub trim_members : (s : State) → (trim_by_carrier s).members ≡ s.members
unfolding trim_by_carrier
trim_members s =
    if_some_elim (λ (t : State). t.members ≡ s.members) _ _ _
    (λ id e.
    if_some_elim (λ (t : State). t.members ≡ s.members) _ _ _
    (λ i g. if_some_elim (λ (t : State). t.members ≡ s.members) _ _ _ (λ m at. refl) (λ at. refl))
    (λ g. refl))
    (λ e. refl)

same_leg_then : (a b c : Leg) → SameLeg a b → SameLeg b c → SameLeg a c
same_leg_then a b c h k = record { receiver = k.receiver ∙ h.receiver; link = k.link ∙ h.link }

replay_entries_leg : (time id : ℕ) (es : List Entry) (l : Leg) → SameLeg l (replay_entries time id es l).leg
unfolding replay_entries
replay_entries_leg time id [] l = same_leg l
replay_entries_leg time id (e ∷ es) l =
    if_some_elim (λ (x : Replayed). SameLeg l x.leg) _ _ _
    (λ k g. same_leg_then l k _ (send_gives time e.length e.sequence l k g) (replay_entries_leg time id es k))
    (λ g. same_leg l)

replay_on_kept : (time i : ℕ) (m : Member) (l : Leg) (s : State) → at_place i s.members ≡ Some m → SameLeg m.leg l → TakesOver s (replay_on time i m l s)
unfolding replay_on
replay_on_kept time i m l s at h =
    if_elim (TakesOver s) _ _ _ (λ e. put_leg_kept i l m s.members at h)
    (λ e. put_leg_kept i _ m s.members at (same_leg_then m.leg l _ h (replay_entries_leg time (id_of m) s.send.history l)))

replay_flight_kept : (time i : ℕ) (m : Member) (e : Entry) (s : State) → at_place i s.members ≡ Some m → TakesOver s (replay_flight time i m e s)
unfolding replay_flight
replay_flight_kept time i m e s at =
    if_elim (TakesOver s) _ _ _ (λ h. all_kept_same s)
    (λ h.
    if_elim (TakesOver s) _ _ _ (λ k. replay_on_kept time i m m.leg s at (same_leg m.leg))
    (λ k.
    if_some_elim (TakesOver s) _ _ _
    (λ l g. replay_on_kept time i m l s at (synchronize_gives e.sequence m.leg l g))
    (λ g. all_kept_same s)))

align_carrier_kept : (i : ℕ) (s : State) → TakesOver s (align_carrier i s)
unfolding align_carrier
align_carrier_kept i s =
    if_elim (TakesOver s) _ _ _
    (λ h.
    if_some_elim (TakesOver s) _ _ _
    (λ ms g. align_kept _ i s.members ms g)
    (λ g. all_kept_same s))
    (λ h. all_kept_same s)

pub take_over_kept : (time i : ℕ) (s : State) → TakesOver s (take_over_backup_flight time i s)
unfolding take_over_backup_flight
take_over_kept time i s =
    if_some_elim (TakesOver s) _ _ _
    (λ m at.
    if_elim (TakesOver s) _ _ _
    (λ h.
    if_some_elim (TakesOver s) _ _ _
    (λ e k.
    subst (λ (ms : List Member). AllKept ms (replay_flight time i m e (trim_by_carrier s)).state.members) (trim_members s)
    (replay_flight_kept time i m e (trim_by_carrier s) (ap (at_place i) (trim_members s) ∙ at)))
    (λ k. subst (λ (ms : List Member). AllKept ms (align_carrier i (trim_by_carrier s)).state.members) (trim_members s) (align_carrier_kept i (trim_by_carrier s))))
    (λ h. align_carrier_kept i s))
    (λ at. all_kept_same s)

-- ---- one Backup send

abbrev pub ActiveAt : ℕ → State → Type 0
ActiveAt i s = (m : Member) → at_place i s.members ≡ Some m → is_active m ≡ true

pub first_active_at : (s : State) (i : ℕ) → place_of is_active s.members ≡ Some i → ActiveAt i s
first_active_at s i e m at = place_passes is_active s.members i e m at

-- a take-over leaves the member active
pub take_over_active : (i : ℕ) (s t : State) → AllKept s.members t.members → ActiveAt i s → ActiveAt i t
unfolding is_active
take_over_active i s t h active n at =
    each_to_before Kept s.members t.members h i n at
    (λ m before kept.
    ap₂ (λ (x : Membership) (y : Link). eqb x.state active_state && eqb y.state connected) kept.membership kept.link
    ∙ active m before)

-- A place that a search gave has a member, and has one after a take-over: so `with_member_at` refuses in no Backup send.
place_taken : (test : Member → Bool) (ms : List Member) (i : ℕ) → place_of test ms ≡ Some i → at_place i ms ≡ None → ⊥
unfolding place_of at_place
place_taken test [] i = λ e. none_some e
place_taken test (x ∷ ms) i =
    if_elim (λ (o : Option ℕ). o ≡ Some i → at_place i (x ∷ ms) ≡ None → ⊥) _ _ _
    (λ t e at. none_some (sym at ∙ ap (λ (k : ℕ). at_place k (x ∷ ms)) (sym (some_inj e))))
    (λ t.
    if_some_elim (λ (o : Option ℕ). o ≡ Some i → at_place i (x ∷ ms) ≡ None → ⊥) _ _ _
    (λ k g e at. place_taken test ms k g (ap (λ (j : ℕ). at_place j (x ∷ ms)) (some_inj e) ∙ at))
    (λ g e. none_some e))

pub searched_place_taken : (test : Member → Bool) (time i : ℕ) (s : State) → place_of test s.members ≡ Some i
    → (at_place i s.members ≡ None → ⊥) × (at_place i (take_over_backup_flight time i s).state.members ≡ None → ⊥)
searched_place_taken test time i s searched =
    let before = place_taken test s.members i searched in
    (before, λ at. before (each_to_none Kept s.members _ (take_over_kept time i s) i at))
