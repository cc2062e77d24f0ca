-- A take-over leaves the end of the history, and numbers that are sequences.
use Rattle.std.specs.Prelude.{◌≡◌, ℕ, zero, suc, ◌-◌, ◌≤◌, length, drop, Option, Some}
use Rattle.std.proofs.Math.Path.{refl, subst}
use Rattle.std.proofs.Common.{ap, sym, ◌∙◌, arith}
use mathlib.Core.List.{List, [], ◌∷◌}
use Rattle.srt_group_model.specs.Tools.{All, if_true◌then◌else◌, is_set, at_place, change}
use Rattle.srt_group_model.specs.State.{Member, Send, State, next_send_sequence, with_send, with_members, with_leg, turned, active_state, unstable_state}
use Rattle.srt_group_model.specs.Legs.{has_sender, largest_64}
use Rattle.srt_group_model.specs.Members.{id_of, promote_backup_member, promote_if_none, align_member_sequence}
use Rattle.srt_group_model.specs.Sending.{Flow}
use Rattle.srt_group_model.specs.Backup.{trim_backup_history, trim_by_carrier, Replayed, replay_entries, replay_on, replay_flight, align_carrier, take_over_backup_flight, demote_stale_backup_carrier}
use Rattle.srt_group_model.specs.Calls.{new}
use Rattle.srt_group_model.specs.Sound.{LegFit, MemberFit, AllFit, EntryFit}
use Rattle.srt_group_model.specs.Laws.Reason.{if_elim, if_some_elim, by_test, all_at, none_some, some_inj}
use Rattle.srt_group_model.specs.Laws.Frame.{trim_members}
use Rattle.srt_group_model.specs.Laws.Ranges.{OptionFit, synchronize_fit, send_fit, align_leg_fit, turned_fit, with_leg_fit, at_change_fit, flagged_fit, source_fit}
use Rattle.srt_group_model.specs.declared.Entry.{Entry}
use Rattle.srt_group_model.specs.declared.Leg.{Leg}
use Rattle.srt_group_model.specs.declared.Sending.{Sending}
use Rattle.srt_connection_members.specs.Members.{members_of}
use Rattle.srt_group_members.specs.Scan.{Became}
use Rattle.srt_group_tables.specs.declared.history.HistoryRing.{HistoryRing}
use Rattle.srt_group_tables.specs.Ring.{Arrays, entries_of, send_of}
use Rattle.srt_group_sending.specs.SentList.{SendTables}
use Rattle.srt_group_sending.specs.declared.flown.Flown.{Flown}
use Rattle.srt_group_backup.specs.declared.trimming.SendHistory.{SendHistory}
use Rattle.srt_group_backup.specs.TakeOver.{TookOver}
use Rattle.srt_group_carrier.specs.Freeing.{TrimFollows, FrontFreed}
use Rattle.srt_group_carrier.specs.Lendable.{NumbersFit}
use Rattle.srt_group_carrier.specs.Laws.Freeing.{trim_as}
use Rattle.srt_group_carrier.specs.Laws.Recording.{Suffix, suffix_same, trim_suffix, ring_suffix}

-- ---- a trim

all_dropped : {A : Type 0} (P : A → Type 0) (n : ℕ) (l : List A) → All P l → All P (drop n l)
all_dropped P zero l h = h
all_dropped P (suc n) [] h = h
all_dropped P (suc n) (x ∷ l) h = all_dropped P n l h.1

-- what a step leaves of the sending side x
pub record Trimmed (x y : Send) : Type 0 where
  pub suffix : Suffix x.history y.history
  pub next : y.numbers.next ≡ x.numbers.next

trimmed_same : (x : Send) → Trimmed x x
trimmed_same x = record { suffix = suffix_same x.history; next = refl }

trimmed_fit : (x y : Send) (ms : List Member) → Trimmed x y → NumbersFit x ms → NumbersFit y ms
trimmed_fit x y ms trimmed h =
    record {
      members = h.members;
      history = subst (All EntryFit) (sym trimmed.suffix) (all_dropped EntryFit (length x.history - length y.history) x.history h.history);
      next = omega (arith, trimmed.next, h.next);
    }

trim_trimmed : (l : Leg) (x : Send) → Trimmed x (trim_backup_history l x)
unfolding trim_backup_history if_true◌then◌else◌
trim_trimmed l x =
    record {
      suffix = trim_suffix l x;
      next = by_test (has_sender l) (λ t. rw t) (λ t. rw t);
    }

pub trimmed_by_carrier : (s : State) → Trimmed s.send (trim_by_carrier s).send
unfolding trim_by_carrier
trimmed_by_carrier s =
    let Left : State → Type 0 = λ t. Trimmed s.send t.send in
    if_some_elim Left _ _ _
    (λ id e.
    if_some_elim Left _ _ _
    (λ i g. if_some_elim Left _ _ _ (λ m at. trim_trimmed m.leg s.send) (λ at. trimmed_same s.send))
    (λ g. trimmed_same s.send))
    (λ e. trimmed_same s.send)

-- ---- a take-over

-- what a step of a call at this time leaves
pub record Prepared (time : ℕ) (s t : State) : Type 0 where
  pub trimmed : Trimmed s.send t.send
  pub fit : time ≤ largest_64 → NumbersFit s.send s.members → NumbersFit t.send t.members

module _ (time : ℕ) where
  abbrev pub Prepares : State → Flow → Type 0
  Prepares s f = Prepared time s f.state

  same_prepared : (s : State) → Prepared time s s
  same_prepared s = record { trimmed = trimmed_same s.send; fit = λ small h. h }

  -- the member at a place gets another leg
  leg_prepared : (s : State) (i : ℕ) (m : Member) (l : Leg) → at_place i s.members ≡ Some m
      → (time ≤ largest_64 → NumbersFit s.send s.members → LegFit m.leg → LegFit l)
      → Prepared time s (with_members (change i (with_leg l) s.members) s)
  leg_prepared s i m l at keeps =
      record {
        trimmed = trimmed_same s.send;
        fit =
            λ small h.
            record {
              members =
                  at_change_fit i (with_leg l) s.members
                  (λ x there k. with_leg_fit l x (keeps small h (all_at MemberFit i m s.members at h.members).leg) k) h.members;
              history = h.history;
              next = h.next;
            };
      }

  replayed_fit : (id : ℕ) (es : List Entry) (l : Leg) → time ≤ largest_64 → LegFit l → LegFit (replay_entries time id es l).leg
  unfolding replay_entries
  replayed_fit id [] l small h = h
  replayed_fit id (e ∷ es) l small h =
      if_some_elim (λ (x : Replayed). LegFit x.leg) _ _ _
      (λ k g. replayed_fit id es k small (send_fit time e.length e.sequence l small h k g)) (λ g. h)

  module _ (s : State) (i : ℕ) (m : Member) (at : at_place i s.members ≡ Some m) where
    on_prepared : (l : Leg) → (time ≤ largest_64 → NumbersFit s.send s.members → LegFit m.leg → LegFit l) → Prepares s (replay_on time i m l s)
    unfolding replay_on
    on_prepared l keeps =
        if_elim (Prepares s) _ _ _ (λ e. leg_prepared s i m l at keeps)
        (λ e. leg_prepared s i m _ at (λ small h k. replayed_fit (id_of m) s.send.history l small (keeps small h k)))

    flight_prepared : (first : Entry) → at_place 0 s.send.history ≡ Some first → Prepares s (replay_flight time i m first s)
    unfolding replay_flight
    flight_prepared first there =
        if_elim (Prepares s) _ _ _ (λ e. same_prepared s)
        (λ e.
        if_elim (Prepares s) _ _ _ (λ g. on_prepared m.leg (λ small h k. k))
        (λ g.
        if_some_elim (Prepares s) _ _ _
        (λ l k.
        on_prepared l
        (λ small h fits. synchronize_fit first.sequence m.leg (all_at EntryFit 0 first s.send.history there h.history).sequence fits l k))
        (λ k. same_prepared s)))

  aligned_fit : (number : Option ℕ) (i : ℕ) (ms ns : List Member) → OptionFit number → align_member_sequence number i ms ≡ Some ns → AllFit ms
      → AllFit ns
  unfolding align_member_sequence
  aligned_fit number i ms ns fits is h =
      if_some_elim (λ (o : Option (List Member)). o ≡ Some ns → AllFit ns) _ _ _
      (λ m at.
      if_some_elim (λ (o : Option (List Member)). o ≡ Some ns → AllFit ns) _ _ _
      (λ sequence g.
      if_some_elim (λ (o : Option (List Member)). o ≡ Some ns → AllFit ns) _ _ _
      (λ l k e.
      subst AllFit (some_inj e)
      (at_change_fit i (with_leg l) ms
      (λ x there q.
      with_leg_fit l x
      (align_leg_fit sequence m.leg (source_fit number (id_of m) ms fits h sequence g) (all_at MemberFit i m ms at h).leg l k) q)
      h))
      (λ k e. none_some e))
      (λ g e. subst AllFit (some_inj e) h))
      (λ at e. none_some e) is

  align_prepared : (i : ℕ) (s : State) → Prepares s (align_carrier i s)
  unfolding align_carrier
  align_prepared i s =
      if_elim (Prepares s) _ _ _
      (λ e.
      if_some_elim (Prepares s) _ _ _
      (λ ms g.
      record {
        trimmed = trimmed_same s.send;
        fit =
            λ small h.
            record {
              members =
                  aligned_fit (next_send_sequence s.send) i s.members ms
                  (flagged_fit (is_set s.send.numbers.numbered) s.send.numbers.next h.next) g h.members;
              history = h.history;
              next = h.next;
            };
      })
      (λ g. same_prepared s))
      (λ e. same_prepared s)

  -- after a trim
  after_trim : (s : State) (f : Flow) → Prepares (trim_by_carrier s) f → f.state.send ≡ (trim_by_carrier s).send → Prepares s f
  after_trim s f h same =
      record {
        trimmed = subst (Trimmed s.send) (sym same) (trimmed_by_carrier s);
        fit =
            λ small k.
            h.fit small
            (subst (NumbersFit (trim_by_carrier s).send) (sym (trim_members s)) (trimmed_fit s.send _ s.members (trimmed_by_carrier s) k));
      }

  replay_on_send : (i : ℕ) (m : Member) (l : Leg) (s : State) → (replay_on time i m l s).state.send ≡ s.send
  unfolding replay_on
  replay_on_send i m l s = if_elim (λ (f : Flow). f.state.send ≡ s.send) _ _ _ (λ e. refl) (λ e. refl)

  flight_send : (i : ℕ) (m : Member) (first : Entry) (s : State) → (replay_flight time i m first s).state.send ≡ s.send
  unfolding replay_flight
  flight_send i m first s =
      let Same : Flow → Type 0 = λ f. f.state.send ≡ s.send in
      if_elim Same _ _ _ (λ e. refl)
      (λ e.
      if_elim Same _ _ _ (λ g. replay_on_send i m m.leg s)
      (λ g. if_some_elim Same _ _ _ (λ l k. replay_on_send i m l s) (λ k. refl)))

  align_send : (i : ℕ) (s : State) → (align_carrier i s).state.send ≡ s.send
  unfolding align_carrier
  align_send i s =
      let Same : Flow → Type 0 = λ f. f.state.send ≡ s.send in
      if_elim Same _ _ _ (λ e. if_some_elim Same _ _ _ (λ ms g. refl) (λ g. refl)) (λ e. refl)

  pub take_over_prepared : (i : ℕ) (s : State) → Prepares s (take_over_backup_flight time i s)
  unfolding take_over_backup_flight
  take_over_prepared i s =
      let t = trim_by_carrier s in
      if_some_elim (Prepares s) _ _ _
      (λ m at.
      if_elim (Prepares s) _ _ _
      (λ e.
      if_some_elim (Prepares s) _ _ _
      (λ first g.
      after_trim s (replay_flight time i m first t) (flight_prepared t i m (ap (at_place i) (trim_members s) ∙ at) first g) (flight_send i m first t))
      (λ g. after_trim s (align_carrier i t) (align_prepared i t) (align_send i t)))
      (λ e. align_prepared i s))
      (λ at. same_prepared s)

-- ---- a take-over of a state that is shown

-- a state with these members and this sending side
unfoldable pub showing : List Member → Send → State
showing ms x = with_send x (with_members ms (new record { id = 0; mode = 0; length = 0 }))

module _ (time i : ℕ) {n : ℕ} {x : Sending} {r : HistoryRing} {a : Arrays} {sent : ℕ} {before after : SendTables} {taken : Flown SendHistory}
    (took : TookOver (take_over_backup_flight time i) n x r a sent before taken after) where
  prepared : Prepared time (showing (members_of n before.members) (send_of x r a))
      (showing (members_of n after.members) (send_of taken.state.sending taken.state.ring a))
  unfolding showing
  prepared =
      subst (λ (f : Flow). Prepared time (showing (members_of n before.members) (send_of x r a)) f.state)
      (took.flow (showing (members_of n before.members) (send_of x r a)) refl refl)
      (take_over_prepared time i (showing (members_of n before.members) (send_of x r a)))

  pub taken_suffix : drop (r.length - taken.state.ring.length) (entries_of r a) ≡ entries_of taken.state.ring a
  unfolding showing
  taken_suffix = ring_suffix r taken.state.ring a prepared.trimmed.suffix

  pub taken_follows : {used used' : List ℕ} → FrontFreed r taken.state.ring.length a.history used used'
      → TrimFollows (entries_of r a) used (entries_of taken.state.ring a) used'
  taken_follows freed = trim_as taken_suffix (freed.follows a refl)

  pub taken_fit : time ≤ largest_64 → NumbersFit (send_of x r a) (members_of n before.members)
      → NumbersFit (send_of taken.state.sending taken.state.ring a) (members_of n after.members)
  unfolding showing
  taken_fit small h = prepared.fit small h

-- ---- before it

pub demoted_fit : (time : ℕ) (ms : List Member) → AllFit ms → AllFit (demote_stale_backup_carrier time ms)
unfolding demote_stale_backup_carrier
demoted_fit time ms h =
    if_some_elim AllFit _ _ _
    (λ i g.
    at_change_fit i _ ms
    (λ m at k. if_elim MemberFit _ _ _ (λ e. turned_fit unstable_state m (omega arith) k) (λ e. k)) h)
    (λ g. h)

promoted_fit : (ms : List Member) → AllFit ms → AllFit (promote_backup_member ms)
unfolding promote_backup_member
promoted_fit ms h =
    if_some_elim AllFit _ _ _
    (λ i g. at_change_fit i (turned active_state) ms (λ m at k. turned_fit active_state m (omega arith) k) h) (λ g. h)

pub readied_fit : (mode time : ℕ) (ms : List Member) → AllFit ms → AllFit (promote_if_none mode (demote_stale_backup_carrier time ms))
unfolding promote_if_none
readied_fit mode time ms h =
    let demoted = demoted_fit time ms h in
    if_elim AllFit _ _ _ (λ e. promoted_fit (demote_stale_backup_carrier time ms) demoted) (λ e. demoted)

-- once the members are ready
pub numbers_readied : (mode time n : ℕ) {x : Send} (t : List ℕ) {u : List ℕ} → Became n (promote_if_none mode (demote_stale_backup_carrier time (members_of n t))) t u
    → NumbersFit x (members_of n t) → NumbersFit x (members_of n u)
numbers_readied mode time n t readied fit =
    record {
      members = subst AllFit (sym readied.is) (readied_fit mode time (members_of n t) fit.members);
      history = fit.history;
      next = fit.next;
    }
