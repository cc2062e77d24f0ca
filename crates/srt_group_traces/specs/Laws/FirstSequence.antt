-- While no data is queued and every addition names one first sequence or none, the base is set to that sequence or not at all; and an
-- accepted addition of a connected leg that names it leaves the base set.
use Rattle.std.specs.Prelude.{◌≡◌, ◌⊎◌, Bool, not, ◌&&◌, ℕ, None, Option, Some}
use Rattle.std.proofs.Math.Path.{refl, sym, ap}
use Rattle.std.proofs.Common.{◌∙◌, subst, inl, inr, arith}
use Rattle.std.proofs.Math.Bool.{true, false}
use mathlib.Core.List.{List, [], ◌∷◌}
use Rattle.std.proofs.Math.Dec.{eqb}
use Rattle.srt_group_model.specs.Tools.{if_true◌then◌else◌, if_some◌give◌otherwise◌, flagged, or_else, each, such_that, first_such, first_given, All}
use Rattle.srt_group_model.specs.State.{Member, State, next_receive_sequence, Making, is_backup, broken_state, with_receive, with_base}
use Rattle.srt_group_model.specs.Legs.{no_sequence, is_connected, handed}
use Rattle.srt_group_model.specs.Members.{arrives, sequence_brought, base_after}
use Rattle.srt_group_model.specs.Nearest.{nearest, lowest, held_at}
use Rattle.srt_group_model.specs.Run.{Mark, Run, start, set_base}
use Rattle.srt_group_model.specs.Removal.{retire, take_out}
use Rattle.srt_group_model.specs.Guards.{Step, guard}
use Rattle.srt_group_model.specs.Calls.{new, new_member, state_at_addition, add_member, add_body}
use Rattle.srt_group_model.specs.Lent.{Lent, Call, call_add_member, call_queue_data, with_bytes, step_of, perform}
use Rattle.srt_group_model.specs.Laws.Reason.{if_elim, if_some_elim, not_both, none_some, some_inj, all_append}
use Rattle.srt_group_model.specs.Laws.Queues.{pop}
use Rattle.srt_group_model.specs.Laws.CallLaw.{Calling, BaseSource, first_of, nearest_held, InFront, RefreshLaw, CollectLaw, PollLaw, CallLaw}
use Rattle.srt_group_model.specs.Laws.EveryCall.{call_keeps}
use Rattle.srt_group_model.specs.Laws.MemberMoves.{SameAccount, moved_accounts}
use Rattle.srt_group_model.specs.declared.Data.{Data}
use Rattle.srt_group_model.specs.declared.Event.{Event}
use Rattle.srt_group_model.specs.declared.Leg.{Leg}
use Rattle.srt_group_model.specs.declared.Packet.{Packet}
use Rattle.srt_group_traces.specs.Statement.{Asked, do_call, state_after}
use Rattle.srt_group_traces.specs.ShortSchedule.{QueuesNone}
use Rattle.srt_group_traces.specs.Laws.Cases.{Each, each_at, each_at_place, all_change, all_drop, all_without_place, each_to_all}

-- ---- what is known while no data is queued

module _ (first : ℕ) where
  -- this first sequence, or none
  abbrev Named : ℕ → Type 0
  Named n = (n ≡ first) ⊎ (n ≡ no_sequence)

  abbrev pub AddsNamed : Call → Type 0
  AddsNamed call = (id weight : ℕ) (l : Leg) (queue : List Event) → call ≡ call_add_member id weight l queue → Named l.receiver.first

  -- a member that names it and has no data queued
  abbrev Idle : Member → Type 0
  Idle m = Named m.leg.receiver.first × All (λ (e : Event). eqb e.kind 0 ≡ false) m.queue

  -- nothing is queued or held, and the base is that sequence, if it is set
  abbrev QuietStart : Option ℕ → State → List Mark → Type 0
  QuietStart hand s log = All Idle s.members × (s.receive.pending ≡ []) × Each (λ (b : ℕ). b ≡ first) (next_receive_sequence s.receive)

  none_nearest : (p : Packet) (ps : List Packet) → ps ≡ [] → nearest ps ≡ Some p → ⊥
  unfolding nearest lowest if_some◌give◌otherwise◌
  none_nearest p ps e h = none_some (sym (ap nearest e) ∙ h)

  none_held : (base : ℕ) (p : Packet) (ps : List Packet) → ps ≡ [] → held_at base ps ≡ Some p → ⊥
  unfolding first_such
  none_held base p ps e h = none_some (sym (ap (held_at base) e) ∙ h)

  flagged_is : (t : Bool) (n b : ℕ) → flagged t n ≡ Some b → n ≡ b
  unfolding flagged
  flagged_is true n b e = some_inj e
  flagged_is false n b e = none_some e

  -- what a member brings is the sequence that it names
  brought : (n b : ℕ) → Named n → flagged (not (eqb n no_sequence)) n ≡ Some b → b ≡ first
  unfolding flagged
  brought n b (inl e) h = sym (flagged_is (not (eqb n no_sequence)) n b h) ∙ e
  brought n b (inr e) h = none_some (sym (ap (λ (k : ℕ). flagged (not (eqb k no_sequence)) k) e) ∙ h)

  source_is_first : (s : State) (b : ℕ) → All Idle s.members → s.receive.pending ≡ [] → BaseSource s b → b ≡ first
  source_is_first s b idle empty (first_of i m at a e) = brought m.leg.receiver.first b (each_at Idle _ m at (each_at_place Idle i s.members idle)).0 e
  source_is_first s b idle empty (nearest_held p e is) = absurd (none_nearest p s.receive.pending empty e)

  -- no data is in front
  none_in_front : (s : State) (i : ℕ) (m : Member) (e : Event) → InFront s i m e → eqb e.kind 0 ≡ true → All Idle s.members → ⊥
  none_in_front s i m e f is_packet idle =
      not_both is_packet
      (each_at (λ (e : Event). eqb e.kind 0 ≡ false) _ e f.first
      (each_at_place (λ (e : Event). eqb e.kind 0 ≡ false) 0 m.queue (each_at Idle _ m f.stands (each_at_place Idle i s.members idle)).1))

  idle_moved : (a b : Member) → SameAccount a b → Idle a → Idle b
  idle_moved a b same h =
      (subst Named (sym same.first) h.0, subst (All (λ (e : Event). eqb e.kind 0 ≡ false)) (sym same.queue) h.1)

  quiet_refreshes : RefreshLaw QuietStart
  unfolding flagged
  quiet_refreshes =
      record {
        moves = λ s i m f at move h. (each_to_all SameAccount Idle idle_moved s.members _ (moved_accounts i m f s.members at move) h.0, h.1, h.2);
        binds = λ s i m at a unbound h. h;
        sets_base = λ s b e source h. (h.0, h.1, source_is_first s b h.0 h.1 source);
      }

  quiet_collects : CollectLaw QuietStart
  quiet_collects =
      record {
        continues = λ s b h. h;
        turns = λ s i m at h. h;
        discards = λ s i m e f d g h. absurd (none_in_front s i m e f d h.0);
        holds = λ s i m e f d g h. absurd (none_in_front s i m e f d h.0);
        reports =
            λ s i m e f d few h. (
              all_change Idle i pop s.members (λ x idle. (idle.0, all_drop (λ (e : Event). eqb e.kind 0 ≡ false) 1 x.queue idle.1)) h.0,
              h.1,
              h.2,
            );
      }

  quiet_polls : PollLaw QuietStart
  quiet_polls =
      record {
        gives = λ s h. h;
        skips = λ s base p tested time b n near h. absurd (none_nearest p s.receive.pending h.1 near);
        delivers = λ s base p b there h. absurd (none_held base p s.receive.pending h.1 there);
      }

  quiet_law : (k : Calling) → AddsNamed k.call → ((id : ℕ) (d : Data) (payload : List ℕ) → k.call ≡ call_queue_data id d payload → ⊥) → CallLaw k QuietStart
  unfolding take_out retire new_member each such_that
  quiet_law k named no_data =
      record {
        refreshing = quiet_refreshes;
        collecting = λ poll. quiet_collects;
        polling = λ poll. quiet_polls;
        joins = λ s id weight l queue is j h. (all_append Idle s.members _ h.0 ((named id weight l queue is, tt), tt), h.1, h.2);
        leaves = λ s i m is at h. (all_without_place Idle i s.members h.0, ap (each _) h.1, h.2);
        retires = λ s id base p is e h. (h.0, ap (such_that _) h.1, h.2);
        takes = λ payload takes free h. h;
        puts = λ s cell payload takes accepted short unused h. h;
        lets_go = λ s cell h. h;
        queues_data = λ s i m cell d payload is accepted at full unfit short h. absurd (no_data _ d payload is);
        queues_event =
            λ s i m id kind reason is at full some_kind known fits h.
            (all_change Idle i _ s.members (λ x idle. (idle.0, all_append (λ (e : Event). eqb e.kind 0 ≡ false) x.queue _ idle.1 (some_kind, tt))) h.0, h.1, h.2);
        numbers = λ s sequence h. h;
        remembers = λ s i m e at next short fits h. h;
        trims = λ s l h. h;
      }

  -- ---- a list of calls

  pub calls_quiet : (calls : List Asked) (s : State) → All (λ (asked : Asked). AddsNamed asked.call) calls → All QueuesNone calls → QuietStart None s []
      → QuietStart None (state_after calls s) []
  unfolding state_after do_call
  calls_quiet [] s named no_data h = h
  calls_quiet (asked ∷ calls) s named no_data h =
      calls_quiet calls (do_call asked s).state named.1 no_data.1
      (call_keeps QuietStart asked.call asked.lent s (quiet_law _ named.0 no_data.0) h)

  new_quiet : (g : Making) → QuietStart None (new g) []
  unfolding new flagged
  new_quiet g = (tt, refl, tt)

  pub base_is_first : (g : Making) (calls : List Asked) (base : ℕ) → All (λ (asked : Asked). AddsNamed asked.call) calls → All QueuesNone calls
      → next_receive_sequence (state_after calls (new g)).receive ≡ Some base
      → base ≡ first
  base_is_first g calls base named no_data e = each_at (λ (b : ℕ). b ≡ first) _ base e (calls_quiet calls (new g) named no_data (new_quiet g)).2

-- ---- an accepted addition of a connected leg

abbrev IsSet : State → Type 0
IsSet s = next_receive_sequence s.receive ≡ None → ⊥

based_is_set : (b : ℕ) (s : State) → IsSet (with_receive (with_base b s.receive) s)
unfolding flagged
based_is_set b s e = none_some (sym e)

sets_base_to : (base : Option ℕ) (r : Run) (b : ℕ) → base ≡ Some b → IsSet (set_base base r).state
unfolding set_base
sets_base_to base r b e =
    if_some_elim (λ (x : Run). IsSet x.state) (next_receive_sequence r.state.receive) _ _ (λ old f unset. none_some (sym unset ∙ f))
    (λ f. if_some_elim (λ (x : Run). IsSet x.state) base _ _ (λ c g. based_is_set c r.state) (λ g. none_some (sym g ∙ e)))

-- a member joins in no state but these, so not Broken
joins_whole : (mode : ℕ) (l : Leg) (ms : List Member) → eqb (state_at_addition mode l ms) broken_state ≡ false
unfolding state_at_addition
joins_whole mode l ms =
    if_elim (λ (n : ℕ). eqb n broken_state ≡ false) (is_backup mode) _ _
    (λ e. if_elim (λ (n : ℕ). eqb n broken_state ≡ false) _ _ _ (λ f. refl) (λ f. refl))
    (λ e. if_elim (λ (n : ℕ). eqb n broken_state ≡ false) _ _ _ (λ f. refl) (λ f. refl))

-- what a new connected member brings
new_brings : (id weight : ℕ) (l : Leg) (s : State) → is_connected l ≡ true → eqb l.receiver.first no_sequence ≡ false
    → base_after None (new_member id weight (handed l) s ∷ []) ≡ Some l.receiver.first
unfolding new_member arrives sequence_brought base_after or_else first_given flagged if_true◌then◌else◌
new_brings id weight l s connects named =
    let here : arrives (new_member id weight (handed l) s) ≡ true =
    λ i. not (joins_whole s.making.mode (handed l) s.members i) && connects i
    in
    (λ i.
    or_else (if_true here i then flagged (not (named i)) l.receiver.first else None) None)

body_sets_base : (id weight : ℕ) (l : Leg) (s : State) → is_connected l ≡ true → eqb l.receiver.first no_sequence ≡ false → IsSet (add_body id weight l s).state
unfolding add_body
body_sets_base id weight l s connects named =
    let set : IsSet (set_base (base_after None (new_member id weight (handed l) s ∷ [])) (start s)).state =
    sets_base_to (base_after None (new_member id weight (handed l) s ∷ [])) (start s) l.receiver.first (new_brings id weight l s connects named)
    in
    if_elim (λ (x : Step). IsSet x.state) _ _ _
    (λ e. if_some_elim (λ (x : Step). IsSet x.state) _ _ _ (λ ms f. set) (λ f. set)) (λ e. set)

pub addition_sets_base : (lent : Lent) (id weight : ℕ) (l : Leg) (queue : List Event) (s : State) → is_connected l ≡ true
    → eqb l.receiver.first no_sequence ≡ false
    → (perform (call_add_member id weight l queue) lent s).code ≡ 0
    → IsSet (perform (call_add_member id weight l queue) lent s).state
unfolding perform with_bytes step_of add_member guard
addition_sets_base lent id weight l queue s connects named =
    if_elim AcceptedSets _ _ _ (λ e h. absurd (omega (arith, h)))
    (λ e.
    if_elim AcceptedSets _ _ _ (λ e h. absurd (omega (arith, h)))
    (λ e.
    if_elim AcceptedSets _ _ _ (λ e h. absurd (omega (arith, h)))
    (λ e. if_elim AcceptedSets _ _ _ (λ e h. absurd (omega (arith, h))) (λ e h. body_sets_base id weight l s connects named))))
  where
    AcceptedSets : Step → Type 0
    AcceptedSets x = x.code ≡ 0 → IsSet x.state
