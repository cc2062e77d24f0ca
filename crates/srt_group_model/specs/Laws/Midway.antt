-- What a call leaves that ends midway, with 22 to 29: document 01, "The Rust's own, in its order, leaving what it leaves". What no refused call
-- moves (`refused_stays`), 22 at an addition (`addition_22`), and a refused send (`send_refused`).
use Rattle.std.specs.Prelude.{◌≡◌, Bool, true, false, not, ◌&&◌, ◌||◌, eqb, length, None, Option, Some}
use Rattle.std.proofs.Math.Path.{refl}
use Rattle.std.proofs.Common.{sym, ap, subst, ◌∙◌, eq-eqb, eqb-true}
use mathlib.Core.List.{List, [], ◌∷◌, ◌++◌, append_assoc}
use Prim.Native.Nat.{ℕ, zero, suc}
use Rattle.std.proofs.lemmas.Bool.{not-true}
use Rattle.srt_protocol.specs.Cells.{cells_of, overwritten}
use Rattle.srt_group_model.specs.Tools.{any, all, place_of, at_place, change, each, All}
use Rattle.srt_group_model.specs.Laws.Reason.{if_elim, when_false, by_test, if_some_elim, not_both, none_some, and_left, and_right, and_yes, or_cases, or_yes_left, or_yes_right, no_either, some_inj, at_change, all_map, all_append, EachTo}
use Rattle.srt_group_model.specs.State.{Member, Send, State, is_backup, next_receive_sequence, next_send_sequence, backup_carrier, with_receive, with_send, with_members, with_peer, turned, active_state, standby_state}
use Rattle.srt_group_model.specs.Legs.{handed, is_connected, on_sender}
use Rattle.srt_group_model.specs.Members.{id_of, is_active, is_standby, has_active_member, first_active, Placed, first_in_rank, promotion, promote_backup_member, promote_if_none, base_after, peer_after, admit_peer_group}
use Rattle.srt_group_model.specs.Run.{Run, start, set_base, admit_connected_peer_groups, refresh_pending_states, refresh_states}
use Rattle.srt_group_model.specs.Sending.{Sent, Flow, ends_with, ◌and_then◌, mark_send_failure, send_broadcast}
use Rattle.srt_group_model.specs.Backup.{is_stale, demote_stale_backup_carrier, drop_before, trim_backup_history, trim_by_carrier, Replayed, replay_entries, replay_on, replay_flight, align_carrier, take_over_backup_flight, send_own, send_after_promotion, send_at_place, send_backup}
use Rattle.srt_group_model.specs.Cells.{is_among}
use Rattle.srt_group_model.specs.Guards.{Step, refuse, Check, guard, About, about_group, about_time, about_member}
use Rattle.srt_group_model.specs.Calls.{taken_cell, new_member, add_body, add_member, left_by_send, send_flow, send_body, send, mode}
use Rattle.srt_group_model.specs.Lent.{Lent, Result, Call, call_add_member, call_mark_member_broken, call_remove_member_connection, call_refresh_member_states, call_disconnect, call_poll_event, call_poll_data_bounded, call_send, call_can_send, call_can_send_with_pacing, call_look, call_read_leg, call_queue_data, call_queue_event, stored, delivered_by, written_out, list_rows, with_bytes, step_of, perform, looking}
use Rattle.srt_group_model.specs.Codes.{broadcast_codes, backup_codes, look_codes, codes_of}
use Rattle.srt_group_model.specs.Laws.Refusals.{changes_nothing, guard_elim, among_passes, send_broadcast_ends, send_backup_ends, Unchanged, refusal_leaves_everything}
use Rattle.srt_group_model.specs.Laws.Codes.{call_code}
use Rattle.srt_group_model.specs.Laws.Computed.{definitions}
use Rattle.srt_group_model.specs.Laws.Cases.{leg, joined, entry, taking_over}
use Rattle.srt_group_model.specs.Laws.Frame.{first_in_rank_stands, place_passes, searched_place_taken}
use Rattle.srt_group_model.specs.Laws.MemberMoves.{SameAccount}
use Rattle.srt_group_model.specs.Laws.SendLeaves.{LeavesReceiving, send_leaves_receiving}
use Rattle.srt_group_model.specs.declared.Entry.{Entry}
use Rattle.srt_group_model.specs.declared.Leg.{Leg}
use Rattle.srt_group_model.specs.declared.Event.{Event}

-- ---- the statements

-- a history without some entries at its front
abbrev pub RestOf : List Entry → List Entry → Type 0
RestOf h rest = (front : List Entry) × (front ++ rest ≡ h)

-- the sending side, but that the acknowledged were dropped
pub record OnlyTrimmed (x y : Send) : Type 0 where
  pub number : next_send_sequence y ≡ next_send_sequence x
  pub carrier : backup_carrier y ≡ backup_carrier x
  pub history : RestOf x.history y.history

pub record Stays (s t : State) : Type 0 where
  pub making : t.making ≡ s.making
  -- a peer group, once the group is bound to it; a base, once it is set
  pub peer : eqb s.peer 0 ≡ false → t.peer ≡ s.peer
  pub base : (b : ℕ) → next_receive_sequence s.receive ≡ Some b → t.receive ≡ s.receive
  pub pending : t.receive.pending ≡ s.receive.pending
  pub skipped : t.receive.numbers.skipped ≡ s.receive.numbers.skipped
  pub send : OnlyTrimmed s.send t.send
  pub visit : t.visit ≡ s.visit
  pub own : t.own ≡ s.own
  pub waiting : t.waiting ≡ s.waiting

-- 22 at an addition: the leg is a member, admitted, and only not aligned; nothing was sent
pub record AddedUnaligned (id weight : ℕ) (l : Leg) (lent : Lent) (s : State) (r : Result) : Type 0 where
  pub members : r.state.members ≡ s.members ++ (admit_peer_group r.state.peer (new_member id weight (handed l) s) ∷ [])
  pub send : r.state.send ≡ s.send
  pub lent_same : r.lent ≡ lent
  pub rows : r.rows ≡ 0

-- the row is of an entry of the history
abbrev pub Replays : List Entry → Sent → Type 0
Replays h x = any (λ (e : Entry). eqb e.sequence x.sequence && eqb e.cell x.cell) h ≡ true

-- 23 and 24, and in Broadcast 25, come before anything was tried
abbrev pub is_untried : (mode code : ℕ) → Bool
is_untried mode code = eqb code 23 || (eqb code 24 || (eqb code 25 && not (is_backup mode)))

pub record SendRefused (s : State) (step : Step) : Type 0 where
  -- of each member id, queue, account, its leg's reservation and its peer's first sequence stay; and Broken stays
  pub members : EachTo SameAccount s.members step.state.members
  -- the call's own payload was sent on no leg
  pub replays : All (Replays s.send.history) step.sends
  pub broadcast : is_backup s.making.mode ≡ false → (step.state.send ≡ s.send) × (step.sends ≡ [])
  -- what the refresh leaves, and nothing sent
  pub untried : is_untried s.making.mode step.code ≡ true → (step.state ≡ (refresh_states (start s)).state) × (step.sends ≡ [])

-- ---- the sending side

only_same : (x : Send) → OnlyTrimmed x x
only_same x = record { number = refl; carrier = refl; history = ([], refl) }

only_then : (x y z : Send) → OnlyTrimmed x y → OnlyTrimmed y z → OnlyTrimmed x z
only_then x y z h k =
    record {
      number = k.number ∙ h.number;
      carrier = k.carrier ∙ h.carrier;
      history = (
        h.history.0 ++ k.history.0,
        append_assoc h.history.0 k.history.0 z.history ∙ ap (λ (es : List Entry). h.history.0 ++ es) k.history.1 ∙ h.history.1,
      );
    }

drop_before_rest : (n : ℕ) (es : List Entry) → RestOf es (drop_before n es)
unfolding drop_before
drop_before_rest n [] = ([], refl)
drop_before_rest n (e ∷ es) =
    let later = drop_before_rest n es in
    if_elim (RestOf (e ∷ es)) _ _ _ (λ h. (e ∷ later.0, ap (λ (l : List Entry). e ∷ l) later.1)) (λ h. ([], refl))

trim_only : (l : Leg) (x : Send) → OnlyTrimmed x (trim_backup_history l x)
unfolding trim_backup_history
trim_only l x =
    if_elim (OnlyTrimmed x) _ _ _ (λ h. record { number = refl; carrier = refl; history = drop_before_rest _ x.history }) (λ h. only_same x)

abbrev Trims : State → State → Type 0
Trims s t = OnlyTrimmed s.send t.send

trims_by_carrier : (s : State) → Trims s (trim_by_carrier s)
unfolding trim_by_carrier
trims_by_carrier s =
    if_some_elim (Trims s) _ _ _
    (λ id e.
    if_some_elim (Trims s) _ _ _
    (λ i g. if_some_elim (Trims s) _ _ _ (λ m at. trim_only m.leg s.send) (λ at. only_same s.send))
    (λ g. only_same s.send))
    (λ e. only_same s.send)

any_behind : (test : Entry → Bool) (front rest : List Entry) → any test rest ≡ true → any test (front ++ rest) ≡ true
unfolding any
any_behind test [] rest h = h
any_behind test (e ∷ es) rest h = or_yes_right (test e) _ (any_behind test es rest h)

replays_wider : (h rest : List Entry) → RestOf h rest → (rows : List Sent) → All (Replays rest) rows → All (Replays h) rows
replays_wider h rest part =
    all_map (Replays rest) (Replays h) (λ x r. subst (λ (es : List Entry). Replays es x) part.1 (any_behind _ part.0 rest r))

replay_entries_replay : (time id : ℕ) (es : List Entry) (l : Leg) → All (Replays es) (replay_entries time id es l).sends
unfolding replay_entries any
replay_entries_replay time id [] l = tt
replay_entries_replay time id (e ∷ es) l =
    if_some_elim (λ (x : Replayed). All (Replays (e ∷ es)) x.sends) _ _ _
    (λ k g. (
      or_yes_left (eqb e.sequence e.sequence && eqb e.cell e.cell) _
          (and_yes (eqb e.sequence e.sequence) (eqb e.cell e.cell) (eq-eqb e.sequence e.sequence refl) (eq-eqb e.cell e.cell refl)),
      replays_wider (e ∷ es) es (e ∷ [], refl) (replay_entries time id es k).sends (replay_entries_replay time id es k),
    ))
    (λ g. tt)

-- ---- one walk through a Backup send

-- what a take-over, or a refused send to a leg, leaves of the sending side x: only trimmed, only replays sent, and the code is not 24
record Left (x : Send) (f : Flow) : Type 0 where
  send : OnlyTrimmed x f.state.send
  sends : All (Replays x.history) f.sends
  code : eqb f.code 24 ≡ false

abbrev RefusedLeft : Send → Flow → Type 0
RefusedLeft x f = eqb f.code 0 ≡ false → Left x f

-- nothing was sent, and the sending side is as it was
still : (s : State) (code : ℕ) → eqb code 24 ≡ false → Left s.send (ends_with code s)
still s code e = record { send = only_same s.send; sends = tt; code = e }

left_wider : (x : Send) (t : State) (f : Flow) → OnlyTrimmed x t.send → Left t.send f → Left x f
left_wider x t f h k =
    record {
      send = only_then x t.send _ h k.send;
      sends = replays_wider x.history t.send.history h.history f.sends k.sends;
      code = k.code;
    }

replay_on_left : (time i : ℕ) (m : Member) (l : Leg) (s : State) → Left s.send (replay_on time i m l s)
unfolding replay_on
replay_on_left time i m l s =
    if_elim (Left s.send) _ _ _ (λ e. record { send = only_same s.send; sends = tt; code = refl })
    (λ e.
    record {
      send = only_same s.send;
      sends = replay_entries_replay time (id_of m) s.send.history l;
      code = if_elim (λ (n : ℕ). eqb n 24 ≡ false) _ 0 28 (λ h. refl) (λ h. refl);
    })

replay_flight_left : (time i : ℕ) (m : Member) (e : Entry) (s : State) → Left s.send (replay_flight time i m e s)
unfolding replay_flight
replay_flight_left time i m e s =
    if_elim (Left s.send) _ _ _ (λ h. still s 28 refl)
    (λ h.
    if_elim (Left s.send) _ _ _ (λ k. replay_on_left time i m m.leg s)
    (λ k. if_some_elim (Left s.send) _ _ _ (λ l g. replay_on_left time i m l s) (λ g. still s 28 refl)))

align_carrier_left : (i : ℕ) (s : State) → Left s.send (align_carrier i s)
unfolding align_carrier
align_carrier_left i s =
    if_elim (Left s.send) _ _ _
    (λ h. if_some_elim (Left s.send) _ _ _ (λ ms g. record { send = only_same s.send; sends = tt; code = refl }) (λ g. still s 22 refl))
    (λ h. still s 0 refl)

-- a member stands at the place
abbrev Taken : ℕ → State → Type 0
Taken i s = at_place i s.members ≡ None → ⊥

take_over_left : (time i : ℕ) (s : State) → Taken i s → Left s.send (take_over_backup_flight time i s)
unfolding take_over_backup_flight
take_over_left time i s taken =
    let trimmed = trim_by_carrier s in
    if_some_elim (Left s.send) _ _ _
    (λ m at.
    if_elim (Left s.send) _ _ _
    (λ h.
    if_some_elim (Left s.send) _ _ _
    (λ e k. left_wider s.send trimmed (replay_flight time i m e trimmed) (trims_by_carrier s) (replay_flight_left time i m e trimmed))
    (λ k. left_wider s.send trimmed (align_carrier i trimmed) (trims_by_carrier s) (align_carrier_left i trimmed)))
    (λ h. align_carrier_left i s))
    (λ at. absurd (taken at))

and_then_left : (x : Send) (f : Flow) (next : State → Flow) → Left x f → RefusedLeft f.state.send (next f.state) → RefusedLeft x (f and_then next)
unfolding ◌and_then◌
and_then_left x f next h k =
    if_elim (RefusedLeft x) _ _ _
    (λ e refused.
    let later = left_wider x f.state (next f.state) h.send (k refused) in
    record {
      send = later.send;
      sends = all_append (Replays x.history) f.sends (next f.state).sends h.sends later.sends;
      code = later.code;
    })
    (λ e refused. h)

send_own_left : (time size cell sequence i : ℕ) (failed : Member → State → Flow) (s : State) → Taken i s → ((m : Member) → RefusedLeft s.send (failed m s))
    → RefusedLeft s.send (send_own time size cell sequence i failed s)
unfolding send_own
send_own_left time size cell sequence i failed s taken h =
    if_some_elim (RefusedLeft s.send) _ _ _
    (λ m at. if_some_elim (RefusedLeft s.send) _ _ _ (λ l g refused. not_both refl refused) (λ g. h m))
    (λ at. absurd (taken at))

send_after_promotion_left : (time size cell sequence i : ℕ) (m : Member) (s : State)
    → RefusedLeft s.send (send_after_promotion time size cell sequence i m s)
unfolding send_after_promotion
send_after_promotion_left time size cell sequence i m s =
    let promoted = with_members (promote_backup_member (change i mark_send_failure s.members)) s in
    if_some_elim (RefusedLeft s.send) _ _ _
    (λ j g.
    let taken = searched_place_taken is_active time j promoted g in
    let after = (take_over_backup_flight time j promoted).state in
    and_then_left s.send (take_over_backup_flight time j promoted) _ (take_over_left time j promoted taken.0)
    (send_own_left time size cell sequence j _ after taken.1 (λ n refused. still after 29 refl)))
    (λ g refused. still promoted 27 refl)

send_at_place_left : (time size cell i : ℕ) (s : State) → Taken i s → RefusedLeft s.send (send_at_place time size cell i s)
unfolding send_at_place
send_at_place_left time size cell i s taken =
    if_some_elim (RefusedLeft s.send) _ _ _
    (λ m at.
    if_elim (RefusedLeft s.send) _ _ _ (λ h refused. still s 25 refl)
    (λ h. send_own_left time size cell _ i _ s taken (λ n. send_after_promotion_left time size cell _ i n s)))
    (λ at. absurd (taken at))

-- the members that a Backup send goes by
abbrev readied : ℕ → State → List Member
readied time s = promote_if_none s.making.mode (demote_stale_backup_carrier time s.members)

record BackupLeft (time : ℕ) (s : State) (f : Flow) : Type 0 where
  send : OnlyTrimmed s.send f.state.send
  sends : All (Replays s.send.history) f.sends
  at_24 : eqb f.code 24 ≡ true → (first_active (readied time s) ≡ None) × (f ≡ ends_with 24 (with_members (readied time s) s))

backup_left : (time size cell : ℕ) (s : State) → eqb (send_backup time size cell s).code 0 ≡ false → BackupLeft time s (send_backup time size cell s)
unfolding send_backup
backup_left time size cell s =
    let ready = with_members (readied time s) s in
    if_some_elim (λ (f : Flow). eqb f.code 0 ≡ false → BackupLeft time s f) (first_active (readied time s)) _ _
    (λ i g refused.
    let taken = searched_place_taken is_active time i ready g in
    let left =
    and_then_left s.send (take_over_backup_flight time i ready) (send_at_place time size cell i) (take_over_left time i ready taken.0)
    (send_at_place_left time size cell i (take_over_backup_flight time i ready).state taken.1) refused
    in
    record { send = left.send; sends = left.sends; at_24 = λ e. not_both e left.code })
    (λ g refused. record { send = only_same s.send; sends = tt; at_24 = λ e. (g, refl) })

-- ---- 24 in Backup: where no leg is active, neither silence nor promotion has moved a label

module _ {A : Type 0} (test : A → Bool) where
  place_none : (l : List A) → place_of test l ≡ None → any test l ≡ false
  unfolding place_of any
  place_none [] = λ e. refl
  place_none (x ∷ xs) =
      if_elim (λ (o : Option ℕ). o ≡ None → test x || any test xs ≡ false) (test x) _ _ (λ t e. none_some (sym e))
      (λ t.
      if_some_elim (λ (o : Option ℕ). o ≡ None → test x || any test xs ≡ false) (place_of test xs) _ _ (λ k g e. none_some (sym e))
      (λ g e. no_either (test x) _ t (place_none xs g)))

  at_any : (l : List A) (i : ℕ) (a : A) → at_place i l ≡ Some a → test a ≡ true → any test l ≡ true
  unfolding at_place any
  at_any [] i a e t = none_some e
  at_any (x ∷ xs) zero a e t = or_yes_left (test x) _ (ap test (some_inj e) ∙ t)
  at_any (x ∷ xs) (suc i) a e t = or_yes_right (test x) _ (at_any xs i a e t)

  any_change : (i : ℕ) (f : A → A) (l : List A) → any test l ≡ true → ((a : A) → at_place i l ≡ Some a → test a ≡ false) → any test (change i f l) ≡ true
  unfolding at_place any change
  any_change i f [] h fails = h
  any_change zero f (x ∷ xs) h fails = or_cases (test x) (any test xs) h (λ t. not_both t (fails x refl)) (λ t. or_yes_right (test (f x)) _ t)
  any_change (suc i) f (x ∷ xs) h fails =
      or_cases (test x) (any test xs) h (λ t. or_yes_left (test x) _ t) (λ t. or_yes_right (test x) _ (any_change i f xs t fails))

change_same : {A : Type 0} (i : ℕ) (f : A → A) (l : List A) → ((a : A) → f a ≡ a) → change i f l ≡ l
unfolding change
change_same i f [] h = refl
change_same zero f (x ∷ xs) h = ap (λ y. y ∷ xs) (h x)
change_same (suc i) f (x ∷ xs) h = ap (λ ys. x ∷ ys) (change_same i f xs h)

rank_none : (candidate : Member → Bool) (ms : List Member) → first_in_rank candidate ms ≡ None → any candidate ms ≡ false
unfolding first_in_rank any
rank_none candidate [] = λ e. refl
rank_none candidate (m ∷ ms) =
    if_some_elim (λ (o : Option Placed). o ≡ None → candidate m || any candidate ms ≡ false) (first_in_rank candidate ms) _ _ (λ r g e. none_some (sym e))
    (λ g.
    if_elim (λ (o : Option Placed). o ≡ None → candidate m || any candidate ms ≡ false) (candidate m) _ _ (λ t e. none_some (sym e))
    (λ t e. no_either (candidate m) _ t (rank_none candidate ms g)))

active_not_standby : (m : Member) → is_active m ≡ true → is_standby m ≡ false
unfolding is_active is_standby
active_not_standby m h =
    ap (λ (n : ℕ). eqb n standby_state && is_connected m.leg) (eqb-true m.membership.state active_state (and_left _ _ h))

-- a connected Standby that is promoted is active
promoted_active : (ms : List Member) (i : ℕ) → promotion ms ≡ Some i → any is_active (change i (turned active_state) ms) ≡ true
unfolding promotion is_active is_standby
promoted_active ms i =
    if_some_elim (λ (o : Option ℕ). o ≡ Some i → any is_active (change i (turned active_state) ms) ≡ true) (first_in_rank is_standby ms) _ _
    (λ r g e.
    let stands = first_in_rank_stands is_standby ms r g in
    let at : at_place i ms ≡ Some r.member = subst (λ (k : ℕ). at_place k ms ≡ Some r.member) (some_inj e) stands.at in
    at_any is_active (change i (turned active_state) ms) i (turned active_state r.member) (at_change i (turned active_state) ms r.member at)
    (and_right (eqb r.member.membership.state standby_state) _ stands.is))
    (λ g e. none_some e)

-- silence turns a carrier only where a connected Standby exists
no_standby_undemoted : (time : ℕ) (ms : List Member) → any is_standby (demote_stale_backup_carrier time ms) ≡ false
    → demote_stale_backup_carrier time ms ≡ ms
unfolding demote_stale_backup_carrier
no_standby_undemoted time ms =
    if_some_elim (λ (l : List Member). any is_standby l ≡ false → l ≡ ms) (first_active ms) _ _
    (λ i g alone.
    by_test (any is_standby ms)
    (λ t. not_both (any_change is_standby i _ ms t (λ m at. active_not_standby m (place_passes is_active ms i g m at))) alone)
    (λ t. change_same i _ ms (λ m. when_false (any is_standby ms && is_stale time m.leg) _ _ (ap (λ (b : Bool). b && is_stale time m.leg) t))))
    (λ g alone. refl)

none_readied : (mode time : ℕ) (ms : List Member) → is_backup mode ≡ true → first_active (promote_if_none mode (demote_stale_backup_carrier time ms)) ≡ None
    → promote_if_none mode (demote_stale_backup_carrier time ms) ≡ ms
unfolding promote_if_none promote_backup_member promotion
none_readied mode time ms backup =
    let silent = demote_stale_backup_carrier time ms in
    if_elim Unmoved (is_backup mode && not (has_active_member silent)) _ silent
    (λ t.
    if_some_elim Unmoved (promotion silent) _ silent
    (λ i g none_active. not_both (promoted_active silent i g) (place_none is_active _ none_active))
    (λ g none_active. no_standby_undemoted time ms (standby_none silent g)))
    (λ t none_active.
    not_both (and_yes (is_backup mode) (not (has_active_member silent)) backup (ap not (place_none is_active silent none_active))) t)
  where
    Unmoved : List Member → Type 0
    Unmoved l = first_active l ≡ None → l ≡ ms

    standby_none : (l : List Member) → promotion l ≡ None → any is_standby l ≡ false
    standby_none l =
        if_some_elim (λ (o : Option ℕ). o ≡ None → any is_standby l ≡ false) (first_in_rank is_standby l) _ _ (λ r g e. none_some (sym e))
        (λ g e. rank_none is_standby l g)

-- ---- Broadcast, refused

record NotSent (s : State) (f : Flow) : Type 0 where
  send : f.state.send ≡ s.send
  sends : f.sends ≡ []
  untried : (eqb f.code 24 || eqb f.code 25) ≡ true → f.state ≡ s

broadcast_unsent : (time size : ℕ) (s : State) → eqb (send_broadcast time size s).code 0 ≡ false → NotSent s (send_broadcast time size s)
unfolding send_broadcast
broadcast_unsent time size s =
    if_elim Refused _ _ _ (λ h refused. record { send = refl; sends = refl; untried = λ e. refl })
    (λ h.
    if_elim Refused _ _ _ (λ k refused. record { send = refl; sends = refl; untried = λ e. refl })
    (λ k.
    if_elim Refused _ _ _ (λ g refused. record { send = refl; sends = refl; untried = λ e. not_both e refl }) (λ g refused. not_both refl refused)))
  where
    Refused : Flow → Type 0
    Refused f = eqb f.code 0 ≡ false → NotSent s f

-- ---- the refresh

-- the base was set, if it was not: all else is as it was
record Based (s t : State) : Type 0 where
  rest : with_receive s.receive t ≡ s
  pending : t.receive.pending ≡ s.receive.pending
  skipped : t.receive.numbers.skipped ≡ s.receive.numbers.skipped
  base : (b : ℕ) → next_receive_sequence s.receive ≡ Some b → t.receive ≡ s.receive

set_base_based : (o : Option ℕ) (r : Run) → Based r.state (set_base o r).state
unfolding set_base
set_base_based o r =
    let same : Based r.state r.state = record { rest = refl; pending = refl; skipped = refl; base = λ b e. refl } in
    if_some_elim (λ (x : Run). Based r.state x.state) _ _ _ (λ b g. same)
    (λ g.
    if_some_elim (λ (x : Run). Based r.state x.state) _ _ _
    (λ b k. record { rest = refl; pending = refl; skipped = refl; base = λ c e. none_some (sym g ∙ e) })
    (λ k. same))

-- what a refresh and an addition move besides the base: the peer group, if the group was not bound, and the members
pub record Admits (s t : State) : Type 0 where
  pub rest : with_members s.members (with_peer s.peer (with_receive s.receive t)) ≡ s
  pub peer : eqb s.peer 0 ≡ false → t.peer ≡ s.peer
  pub base : (b : ℕ) → next_receive_sequence s.receive ≡ Some b → t.receive ≡ s.receive
  pub pending : t.receive.pending ≡ s.receive.pending
  pub skipped : t.receive.numbers.skipped ≡ s.receive.numbers.skipped

based_admits : (s t : State) (peer : ℕ) (ms : List Member) → Based s t → (eqb s.peer 0 ≡ false → peer ≡ s.peer) → Admits s (with_peer peer (with_members ms t))
based_admits s t peer ms h e =
    record {
      rest = ap (λ (x : State). with_members s.members (with_peer s.peer x)) h.rest;
      peer = e;
      base = h.base;
      pending = h.pending;
      skipped = h.skipped;
    }

peer_after_bound : (peer : ℕ) (ms : List Member) → eqb peer 0 ≡ false → peer_after peer ms ≡ peer
unfolding peer_after
peer_after_bound peer ms e = when_false (eqb peer 0) _ _ e

refresh_admits : (s : State) → Admits s (refresh_states (start s)).state
unfolding refresh_states refresh_pending_states admit_connected_peer_groups
refresh_admits s =
    based_admits s _ (peer_after s.peer s.members) (refresh_states (start s)).state.members
    (set_base_based (base_after None s.members) (start s)) (peer_after_bound s.peer s.members)

-- ---- what a refused call leaves

stays_same : (s : State) → Stays s s
stays_same s =
    record {
      making = refl;
      peer = λ e. refl;
      base = λ b e. refl;
      pending = refl;
      skipped = refl;
      send = only_same s.send;
      visit = refl;
      own = refl;
      waiting = refl;
    }

admits_stays : (s t : State) → Admits s t → Stays s t
admits_stays s t h =
    record {
      making = ap (λ (x : State). x.making) h.rest;
      peer = h.peer;
      base = h.base;
      pending = h.pending;
      skipped = h.skipped;
      send = subst (λ (x : State). OnlyTrimmed x.send t.send) h.rest (only_same t.send);
      visit = ap (λ (x : State). x.visit) h.rest;
      own = ap (λ (x : State). x.own) h.rest;
      waiting = ap (λ (x : State). x.waiting) h.rest;
    }

-- a send leaves receiving, and its sending side is only trimmed
leaves_stays : (s t : State) → LeavesReceiving s t → OnlyTrimmed s.send t.send → Stays s t
leaves_stays s t h k =
    record {
      making = h.making;
      peer = h.peer;
      base = h.base;
      pending = h.pending;
      skipped = h.skipped;
      send = k;
      visit = h.visit;
      own = h.own;
      waiting = h.waiting;
    }

-- ---- a refused send, both modes

record FlowRefused (s : State) (f : Flow) : Type 0 where
  send : OnlyTrimmed s.send f.state.send
  replays : All (Replays s.send.history) f.sends
  broadcast : is_backup s.making.mode ≡ false → (f.state.send ≡ s.send) × (f.sends ≡ [])
  untried : is_untried s.making.mode f.code ≡ true → (f.state ≡ (refresh_states (start s)).state) × (f.sends ≡ [])

flow_refused : (cell time : ℕ) (payload : List ℕ) (s : State) → eqb (send_flow cell time payload s (refresh_states (start s))).code 0 ≡ false
    → FlowRefused s (send_flow cell time payload s (refresh_states (start s)))
unfolding send_flow all any
flow_refused cell time payload s =
    let r = (refresh_states (start s)).state in
    let size = length payload in
    let refreshed = admits_stays s r (refresh_admits s) in
    let same : r.send ≡ s.send = ap (λ (x : State). x.send) (refresh_admits s).rest in
    let backup = send_backup time size cell r in
    let cast = send_broadcast time size r in
    if_elim Refused _ _ _
    (λ e n.
    record { send = refreshed.send; replays = tt; broadcast = λ b. (same, refl); untried = λ u. (refl, refl) })
    (λ e.
    if_elim Refused _ _ _
    (λ b n.
    let left = backup_left time size cell r n in
    record {
      send = only_then s.send r.send _ refreshed.send left.send;
      replays = subst (λ (x : Send). All (Replays x.history) backup.sends) same left.sends;
      broadcast = λ c. not_both b c;
      untried =
          λ u.
          or_cases (eqb backup.code 23) (eqb backup.code 24 || (eqb backup.code 25 && not (is_backup s.making.mode))) u
          (λ g. not_both g (not-true _ (among_passes (λ c. not (eqb c 23)) (0 ∷ backup_codes) refl backup.code (send_backup_ends time size cell r))))
          (λ g.
          or_cases (eqb backup.code 24) (eqb backup.code 25 && not (is_backup s.making.mode)) g
          (λ k.
          let ended = left.at_24 k in
          let mode = ap (λ (x : State). is_backup x.making.mode) (refresh_admits s).rest ∙ b in
          let members = none_readied r.making.mode time r.members mode ended.0 in (
            ap (λ (f : Flow). f.state) ended.1 ∙ ap (λ (ms : List Member). with_members ms r) members,
            ap (λ (f : Flow). f.sends) ended.1,
          ))
          (λ k. not_both b (not-true _ (and_right (eqb backup.code 25) _ k))));
    })
    (λ b n.
    let unsent = broadcast_unsent time size r n in
    record {
      send = only_then s.send r.send _ refreshed.send (subst (OnlyTrimmed r.send) (sym unsent.send) (only_same r.send));
      replays = subst (All (Replays s.send.history)) (sym unsent.sends) tt;
      broadcast = λ c. (unsent.send ∙ same, unsent.sends);
      untried =
          λ u.
          or_cases (eqb cast.code 23) (eqb cast.code 24 || (eqb cast.code 25 && not (is_backup s.making.mode))) u
          (λ g. not_both g (not-true _ (among_passes (λ c. not (eqb c 23)) (0 ∷ broadcast_codes) refl cast.code (send_broadcast_ends time size r))))
          (λ g. (
            unsent.untried
                (or_cases (eqb cast.code 24) (eqb cast.code 25 && not (is_backup s.making.mode)) g (λ k. or_yes_left (eqb cast.code 24) _ k)
                (λ k. or_yes_right (eqb cast.code 24) _ (and_left (eqb cast.code 25) _ k))),
            unsent.sends,
          ));
    }))
  where
    Refused : Flow → Type 0
    Refused f = eqb f.code 0 ≡ false → FlowRefused s f

-- ---- every call

abbrev RefusedStays : State → Step → Type 0
RefusedStays s step = (step.code ≡ 0 → ⊥) → Stays s step.state

add_stays : (id weight : ℕ) (l : Leg) (queue : List Event) (s : State) → RefusedStays s (add_member id weight l queue s)
unfolding add_member add_body
add_stays id weight l queue s =
    let m = new_member id weight (handed l) s in
    guard_elim (RefusedStays s) _ s _ (λ code h. stays_same s)
    (if_elim (RefusedStays s) _ _ _
    (λ e.
    if_some_elim (RefusedStays s) _ _ _ (λ ms g h. absurd (h refl))
    (λ g h. admits_stays s _ (based_admits s _ _ _ (set_base_based (base_after None (m ∷ [])) (start s)) (peer_after_bound s.peer (m ∷ [])))))
    (λ e h. absurd (h refl)))

only_trimmed_by : (store list time : ℕ) (payload : List ℕ) (s : State) → ((send store list time payload s).code ≡ 0 → ⊥)
    → OnlyTrimmed s.send (send store list time payload s).state.send
unfolding send send_body left_by_send
only_trimmed_by store list time payload s =
    guard_elim Trims _ s _ (λ code h. only_same s.send)
    (if_elim Trims _ _ _ (λ e h. absurd (h refl)) (λ e h. (flow_refused (taken_cell (cells_of store) s) time payload s e).send))
  where
    Trims : Step → Type 0
    Trims x = (x.code ≡ 0 → ⊥) → OnlyTrimmed s.send x.state.send

send_stays : (store list time : ℕ) (payload : List ℕ) (s : State) → RefusedStays s (send store list time payload s)
send_stays store list time payload s h =
    leaves_stays s _ (send_leaves_receiving store list time payload s) (only_trimmed_by store list time payload s h)

-- A call all of whose codes change nothing has changed nothing, wherever it is refused.
pub refused_unmoved : (c : Call) (lent : Lent) (s : State) → all changes_nothing (codes_of s.making.mode c) ≡ true → ((perform c lent s).code ≡ 0 → ⊥)
    → Unchanged lent s (perform c lent s)
unfolding any
refused_unmoved c lent s h refused =
    let code = (perform c lent s).code in
    or_cases (eqb 0 code) (is_among code (codes_of s.making.mode c)) (call_code c lent s) (λ e. absurd (refused (sym (eqb-true 0 code e))))
    (λ e. refusal_leaves_everything c lent s (among_passes changes_nothing (codes_of s.making.mode c) h code e))

unmoved_stays : (c : Call) (lent : Lent) (s : State) → all changes_nothing (codes_of s.making.mode c) ≡ true → ((perform c lent s).code ≡ 0 → ⊥)
    → Stays s (perform c lent s).state
unmoved_stays c lent s h refused = subst (Stays s) (sym (refused_unmoved c lent s h refused).state) (stays_same s)

look_codes_unmoving : (about : About) → all changes_nothing (look_codes about) ≡ true
unfolding all look_codes changes_nothing any
look_codes_unmoving about_group = refl
look_codes_unmoving (about_time time) = refl
look_codes_unmoving (about_member id) = refl

-- No call that ends in a code other than 0 moves any of these; nor does it write the store or the output (`refusal_writes_no_bytes`).
pub refused_stays : (c : Call) (lent : Lent) (s : State) → ((perform c lent s).code ≡ 0 → ⊥) → Stays s (perform c lent s).state
unfolding all codes_of changes_nothing any perform with_bytes step_of
refused_stays (call_add_member id weight l queue) lent s h = add_stays id weight l queue s h
refused_stays (call_send time payload) lent s h = send_stays _ _ time payload s h
refused_stays (call_look look) lent s h = unmoved_stays (call_look look) lent s (look_codes_unmoving (looking look).about) h
refused_stays (call_mark_member_broken id) lent s h = unmoved_stays (call_mark_member_broken id) lent s refl h
refused_stays (call_remove_member_connection id) lent s h = unmoved_stays (call_remove_member_connection id) lent s refl h
refused_stays call_refresh_member_states lent s h = unmoved_stays call_refresh_member_states lent s refl h
refused_stays (call_disconnect time) lent s h = unmoved_stays (call_disconnect time) lent s refl h
refused_stays (call_poll_event time) lent s h = unmoved_stays (call_poll_event time) lent s refl h
refused_stays (call_poll_data_bounded time max_events) lent s h = unmoved_stays (call_poll_data_bounded time max_events) lent s refl h
refused_stays call_can_send lent s h = unmoved_stays call_can_send lent s refl h
refused_stays (call_can_send_with_pacing time) lent s h = unmoved_stays (call_can_send_with_pacing time) lent s refl h
refused_stays (call_read_leg id field n) lent s h = unmoved_stays (call_read_leg id field n) lent s refl h
refused_stays (call_queue_data id d payload) lent s h = unmoved_stays (call_queue_data id d payload) lent s refl h
refused_stays (call_queue_event id kind reason) lent s h = unmoved_stays (call_queue_event id kind reason) lent s refl h

-- ---- 22 at an addition, and a refused send

-- through the guards, with a test that their codes pass
guard_elim_coded : (P : Step → Type 0) (test : ℕ → Bool) (cs : List Check) (s : State) (body : Step) → all (λ (c : Check). test c.code) cs ≡ true
    → ((code : ℕ) → test code ≡ true → P (refuse code s)) → P body → P (guard cs s body)
unfolding guard all
guard_elim_coded P test [] s body h k b = b
guard_elim_coded P test (c ∷ cs) s body h k b =
    if_elim P c.fails _ _ (λ e. k c.code (and_left (test c.code) _ h)) (λ e. guard_elim_coded P test cs s body (and_right (test c.code) _ h) k b)

pub addition_22 : (id weight : ℕ) (l : Leg) (queue : List Event) (lent : Lent) (s : State) → eqb (perform (call_add_member id weight l queue) lent s).code 22 ≡ true
    → AddedUnaligned id weight l lent s (perform (call_add_member id weight l queue) lent s)
unfolding perform with_bytes step_of add_member add_body all stored written_out delivered_by list_rows overwritten
addition_22 id weight l queue lent s =
    let m = new_member id weight (handed l) s in
    guard_elim_coded After (λ n. not (eqb n 22)) _ s _ refl (λ code passes h. not_both h (not-true _ passes))
    (if_elim After _ _ _
    (λ joined.
    if_some_elim After _ _ _ (λ ms g h. not_both h refl)
    (λ g h.
    record {
      members = refl;
      send = ap (λ (x : State). x.send) (set_base_based (base_after None (m ∷ [])) (start s)).rest;
      lent_same = refl;
      rows = refl;
    }))
    (λ joined h. not_both h refl))
  where
    After : Step → Type 0
    After x = eqb x.code 22 ≡ true → AddedUnaligned id weight l lent s (with_bytes lent x)

record Unsent (s : State) (step : Step) : Type 0 where
  replays : All (Replays s.send.history) step.sends
  broadcast : is_backup s.making.mode ≡ false → (step.state.send ≡ s.send) × (step.sends ≡ [])
  untried : is_untried s.making.mode step.code ≡ true → (step.state ≡ (refresh_states (start s)).state) × (step.sends ≡ [])

unsent_by : (store list time : ℕ) (payload : List ℕ) (s : State) → ((send store list time payload s).code ≡ 0 → ⊥) → Unsent s (send store list time payload s)
unfolding send send_body left_by_send all
unsent_by store list time payload s =
    guard_elim_coded After (λ n. not (is_untried s.making.mode n)) _ s _ refl
    (λ code passes h. record { replays = tt; broadcast = λ b. (refl, refl); untried = λ u. not_both u (not-true _ passes) })
    (if_elim After _ _ _ (λ e h. absurd (h refl))
    (λ e h.
    let refused = flow_refused (taken_cell (cells_of store) s) time payload s e in
    record { replays = refused.replays; broadcast = refused.broadcast; untried = refused.untried }))
  where
    After : Step → Type 0
    After x = (x.code ≡ 0 → ⊥) → Unsent s x

pub send_refused : (store list time : ℕ) (payload : List ℕ) (s : State) → ((send store list time payload s).code ≡ 0 → ⊥)
    → SendRefused s (send store list time payload s)
send_refused store list time payload s h =
    let left = unsent_by store list time payload s h in
    record {
      members = (send_leaves_receiving store list time payload s).members;
      replays = left.replays;
      broadcast = left.broadcast;
      untried = left.untried;
    }

-- ---- computed: a take-over of three sends from 50 on

-- leg 2 stands at 60, with this window; the group's next send number is this
taken_over_by : (window next : ℕ) → State
taken_over_by window next =
    with_send record { numbers = record { numbered = 1; next = next; carried = 1; carrier = 1; gap = 0 }; history = (taking_over window).send.history }
    (with_members
    (joined 2 0 active_state (on_sender (λ x. record { started = 1; next = 60; flight = 0; window = window; oldest = x.oldest; pace = x.pace }) (leg 0 window 0 0)) ∷ [])
    (taking_over window))

next_numbers : State → List ℕ
next_numbers s = each (λ m. m.leg.sender.next) s.members

-- 28 for want of room: the new leg is at 50 all the same, and nothing was sent
full_window_renumbered : ((send_backup 0 1 0 (taken_over_by 3 53)).code ≡ 28) × (next_numbers (send_backup 0 1 0 (taken_over_by 3 53)).state ≡ 50 ∷ [])
    × ((send_backup 0 1 0 (taken_over_by 3 53)).sends ≡ [])
unfolding definitions taken_over_by next_numbers leg joined entry taking_over
full_window_renumbered = (refl, refl, refl)

-- 25 in Backup needs a lent state whose send number is not the history's: after the replay the leg is at 53, and the number is 54
backup_25 : ((send_backup 0 1 0 (taken_over_by 8 54)).code ≡ 25) × (length (send_backup 0 1 0 (taken_over_by 8 54)).sends ≡ 3)
unfolding definitions taken_over_by leg joined entry taking_over
backup_25 = (refl, refl)
