-- The readiness tests are document 01's.
use Rattle.std.specs.Prelude.{◌≡◌, Bool, true, false, ℕ, zero, suc, ◌-◌, ◌≤◌, length, drop, None, Option, Some}
use Rattle.std.proofs.Math.Path.{refl, ap, sym, subst}
use Rattle.std.proofs.Common.{◌∙◌, arith, le-ltb}
use mathlib.Core.List.{List, [], ◌∷◌, ◌++◌, append_assoc}
use Rattle.srt_group_model.specs.Tools.{any, such_that, each, change}
use Rattle.srt_group_model.specs.Laws.Reason.{if_elim, if_some_elim, when_true, when_false}
use Rattle.srt_group_model.specs.State.{Member, State, is_backup, with_send, with_members, turned, active_state}
use Rattle.srt_group_model.specs.Legs.{largest_64}
use Rattle.srt_group_model.specs.Members.{promote_backup_member, promote_if_none}
use Rattle.srt_group_model.specs.Cells.{is_data, queue_cells, queued_cells, used_cells}
use Rattle.srt_group_model.specs.Sound.{Fit, AllFit, pending_cells, history_cells}
use Rattle.srt_group_model.specs.Run.{Mark, Run, start, refresh_states}
use Rattle.srt_group_model.specs.Validity.{above}
use Rattle.srt_group_model.specs.Backup.{demote_stale_backup_carrier, trim_by_carrier, backup_send_ready}
use Rattle.srt_group_model.specs.Guards.{Answer, shown, truth, Step, ◌when◌, guard}
use Rattle.srt_group_model.specs.Calls.{breaks_rule, can_send_body, can_send_call, can_send_with_pacing_body, can_send_with_pacing_call}
use Rattle.srt_group_model.specs.Lent.{Call, call_can_send, call_can_send_with_pacing, delivered_by, step_of}
use Rattle.srt_group_model.specs.Laws.Refusals.{guard_goes_on}
use Rattle.srt_group_model.specs.Laws.Frame.{trim_members}
use Rattle.srt_group_model.specs.Laws.CellsMoved.{refresh_keeps}
use Rattle.srt_protocol.specs.Cells.{cells_of}
use Rattle.srt_group_model.specs.Laws.Sound.{sound_of_valid}
use Rattle.srt_group_model.specs.Laws.Steps.{refresh_has}
use Rattle.srt_group_model.specs.Laws.RangesCalls.{fit_law}
use Rattle.srt_group_model.specs.declared.Core.{Core}
use Rattle.srt_group_model.specs.declared.Event.{Event}
use Rattle.srt_group_model.specs.declared.Identity.{Identity}
use Rattle.srt_connection_members.specs.Members.{members_of}
use Rattle.srt_group_members.specs.Scan.{Became}
use Rattle.srt_group_tables.specs.Ring.{Arrays, arrays, entries_of, send_of}
use Rattle.srt_group_sending.specs.Readiness.{sends_now}
use Rattle.srt_group_sending.specs.BackupReadiness.{BackupReady}
use Rattle.srt_group_backup.specs.declared.trimming.SendHistory.{SendHistory}
use Rattle.srt_group_backup.specs.Trimming.{TrimmedByCarrier}
use Rattle.srt_group_carrier.specs.Freeing.{TrimFollows, FrontFreed}
use Rattle.srt_group_carrier.specs.Laws.Freeing.{trim_as}
use Rattle.srt_group_carrier.specs.Laws.Recording.{Suffix, ring_suffix}
use Rattle.srt_group_carrier.specs.Laws.Prepared.{showing, trimmed_by_carrier}
use Rattle.srt_group.specs.declared.Group.{Group}
use Rattle.srt_group.specs.Made.{parts_of}
use Rattle.srt_group_collecting.specs.Leaves.{sends}
use Rattle.srt_group_polls.specs.Refresh.{Refreshes}
use Rattle.srt_group_shown.specs.Shown.{rest}
use Rattle.srt_group_shown.specs.Tables.{parts, tables, state_of, Long}
use Rattle.srt_group_shown.specs.Ready.{Ready, storing, Performs}
use Rattle.srt_group_shown.specs.Steps.{Unbroken, Left, Steps}
use Rattle.srt_group_shown.specs.Laws.Steps.{rows_there, unbroken_of, performs_steps}
use Rattle.cell_set.specs.Sets.{ShowsCells}
use Rattle.cell_set.specs.Shows.{Shows}
use Rattle.cell_set.specs.Laws.Shows.{shows_kept}
use Rattle.srt_group_send.specs.declared.readiness.Readiness.{Readiness}
use Rattle.srt_group_send.specs.Readiness.{call_paced, InWord, TrimmedReady, Testable, with_identity, Tests}

-- a step that is another
left_by_step : {a b : Step} {number : ℕ} {given : Answer} {s : State} → a ≡ b → Left b number given s → Left a number given s
left_by_step {number = number} {given} {s} is left = subst (λ (z : Step). Left z number given s) (sym is) left

-- ---- the trim and the test

module _ (time : Option ℕ) (g : Group) (members history used used' : List ℕ) {trimmed : SendHistory}
    (by_carrier : TrimmedByCarrier (members_of g.core.counts.members members) history g.sending g.ring trimmed) where
  suffix : (a : Arrays) → a.history ≡ history
      → drop (g.ring.length - trimmed.ring.length) (entries_of g.ring a) ≡ entries_of trimmed.ring a
  unfolding showing
  suffix a is =
      let s : State = showing (members_of g.core.counts.members members) (send_of g.sending g.ring a) in
      let left : trim_by_carrier s ≡ with_send (send_of trimmed.sending trimmed.ring a) s = by_carrier.is s a refl is refl in
      ring_suffix g.ring trimmed.ring a
      (subst (λ (t : State). Suffix (entries_of g.ring a) t.send.history) left (trimmed_by_carrier s).suffix)

  pub trimmed_ready : {ready : Bool} → FrontFreed g.ring trimmed.ring.length history used used'
      → BackupReady time trimmed.sending trimmed.ring history (members_of g.core.counts.members members) ready
      → TrimmedReady time g members history used
      record { ready = ready; «record» = record { identity = g.identity; core = g.core; sending = trimmed.sending; ring = trimmed.ring } } used'
  trimmed_ready {ready} freed tested =
      record {
        same = refl;
        fits = by_carrier.fits;
        follows = λ a is. trim_as (suffix a is) (freed.follows a is);
        trims = λ s a ms is sent. by_carrier.is s a ms is sent;
        tests =
            λ s a ms is sent.
            tested.is (trim_by_carrier s) a is (trim_members s ∙ ms) (ap (λ (t : State). t.send) (by_carrier.is s a ms is sent));
      }

-- ---- the cells

-- where the members' queues and what is held stay, the set of used cells follows the history
shows_trimmed : {s t : State} {used used' : List ℕ} → Shows used s → queued_cells s.members ≡ queued_cells t.members → s.receive ≡ t.receive
    → TrimFollows s.send.history used t.send.history used' → Shows used' t
unfolding used_cells
shows_trimmed {s} {t} {used} {used'} shows queues held follows =
    record {
      cells =
          subst (ShowsCells used')
          (append_assoc (queued_cells s.members) (pending_cells s.receive.pending) (history_cells t.send.history)
          ∙ (λ i. queues i ++ (pending_cells (held i).pending ++ history_cells t.send.history)))
          (follows.shows (queued_cells s.members ++ pending_cells s.receive.pending)
          (subst (ShowsCells used)
          (sym (append_assoc (queued_cells s.members) (pending_cells s.receive.pending) (history_cells s.send.history)))
          shows.cells));
    }

shows_queues : (s : State) (ms : List Member) {used : List ℕ} → queued_cells s.members ≡ queued_cells ms → Shows used s → Shows used (with_members ms s)
unfolding used_cells
shows_queues s ms {used} queues shows =
    record {
      cells =
          subst (λ (l : List ℕ). ShowsCells used (l ++ (pending_cells s.receive.pending ++ history_cells s.send.history))) queues shows.cells;
    }

changed_cells : (i : ℕ) (f : Member → Member) (ms : List Member) → ((m : Member) → (f m).queue ≡ m.queue)
    → queued_cells (change i f ms) ≡ queued_cells ms
unfolding queued_cells queue_cells change
changed_cells i f [] h = refl
changed_cells zero f (m ∷ ms) h =
    ap (λ (q : List Event). each (λ (e : Event). e.content.cell) (such_that is_data q) ++ queued_cells ms) (h m)
changed_cells (suc i) f (m ∷ ms) h = ap (λ (l : List ℕ). queue_cells m ++ l) (changed_cells i f ms h)

promoted_cells : (ms : List Member) → queued_cells (promote_backup_member ms) ≡ queued_cells ms
unfolding promote_backup_member
promoted_cells ms =
    if_some_elim (λ (ns : List Member). queued_cells ns ≡ queued_cells ms) _ _ _
    (λ i g. changed_cells i (turned active_state) ms (λ m. refl)) (λ g. refl)

demoted_cells : (time : ℕ) (ms : List Member) → queued_cells (demote_stale_backup_carrier time ms) ≡ queued_cells ms
unfolding demote_stale_backup_carrier
demoted_cells time ms =
    if_some_elim (λ (ns : List Member). queued_cells ns ≡ queued_cells ms) _ _ _
    (λ i g. changed_cells i _ ms (λ m. if_elim (λ (n : Member). n.queue ≡ m.queue) _ _ _ (λ e. refl) (λ e. refl))) (λ g. refl)

readied_cells : (mode time : ℕ) (ms : List Member)
    → queued_cells (promote_if_none mode (demote_stale_backup_carrier time ms)) ≡ queued_cells ms
unfolding promote_if_none
readied_cells mode time ms =
    if_elim (λ (ns : List Member). queued_cells ns ≡ queued_cells ms) _ _ _
    (λ e. promoted_cells (demote_stale_backup_carrier time ms) ∙ demoted_cells time ms) (λ e. demoted_cells time ms)

-- ---- the calls

-- `Tests` of the identity that stands in the record
record TestsHere (call : Call) (g : Group) (members history used : List ℕ) (answer : Readiness) (members' used' : List ℕ) : Type 0 where
  steps : (pending waiting sources : List ℕ)
      → Unbroken (parts_of g) (tables members pending waiting history sources)
      → Steps call (parts_of g) (tables members pending waiting history sources) 0 (shown (truth answer.ready))
      (parts_of answer.«record») (tables members' pending waiting history sources)
  shows : (pending waiting sources : List ℕ)
      → Shows used (state_of (parts_of g) (tables members pending waiting history sources))
      → Shows used' (state_of (parts_of answer.«record») (tables members' pending waiting history sources))

-- a call of a state that is shown: what no test touches is given
module _ (g : Group) (members history used : List ℕ) (after : Core) (mid : List ℕ)
    (refreshes : Refreshes (sends g.sending) refresh_states g.core members after mid) where
  abbrev h : Group
  h = record { identity = g.identity; core = after; sending = g.sending; ring = g.ring }

  module _ (pending waiting sources : List ℕ) where
    abbrev s : State
    s = state_of (parts_of g) (tables members pending waiting history sources)

    run : Run
    run = refresh_states (start s)

    refreshed : run.state ≡ state_of (parts_of h) (tables mid pending waiting history sources)
    unfolding run
    refreshed = (refreshes.run pending waiting (rest g.identity g.sending (entries_of g.ring (arrays history sources))) refl [] 0).state

    shows_refreshed : Shows used s → Shows used (state_of (parts_of h) (tables mid pending waiting history sources))
    unfolding run
    shows_refreshed shows = subst (Shows used) refreshed (shows_kept shows (refresh_keeps (start s)))

  long_refreshed : (pending waiting sources members' : List ℕ) → length members' ≡ length mid
      → Unbroken (parts_of g) (tables members pending waiting history sources) → Long (tables members' pending waiting history sources)
  long_refreshed pending waiting sources members' same unbroken =
      record {
        members = omega (arith, unbroken.long.members, refreshes.members_long, same);
        pending = unbroken.long.pending;
        waiting = unbroken.long.waiting;
        history = unbroken.long.history;
        sources = unbroken.long.sources;
      }

  -- every number of the members is still in its range
  pub members_refreshed : Testable g members history → AllFit (members_of after.counts.members mid)
  unfolding run
  members_refreshed testable =
      (subst Fit (refreshed testable.pending testable.waiting testable.sources)
      (refresh_has Fit fit_law (start (s testable.pending testable.waiting testable.sources)) testable.fit)
      ).members

  -- Backup: the trim and the test, of a state that is shown over these members
  module _ (time : Option ℕ) (members' : List ℕ) {answer : Readiness} {used' : List ℕ} (tested : TrimmedReady time h members' history used answer used')
      (pending waiting sources : List ℕ) where
    abbrev before_trim : State
    before_trim = state_of (parts_of h) (tables members' pending waiting history sources)

    abbrev after_trim : State
    after_trim = state_of (parts_of answer.«record») (tables members' pending waiting history sources)

    trims_to : trim_by_carrier before_trim ≡ after_trim
    trims_to =
        tested.trims before_trim (arrays history sources) refl refl refl
        ∙ ap (λ (k : Group). state_of (parts_of k) (tables members' pending waiting history sources)) (sym tested.same)

    left_trimmed : (u : State) (log : List Mark) → u ≡ before_trim
        → Left
        record { state = trim_by_carrier u; code = 0; answer = shown (truth (backup_send_ready time (trim_by_carrier u))); put = None; sends = []; log = log }
        0 (shown (truth answer.ready)) after_trim
    left_trimmed u log is =
        record {
          code = refl;
          answer =
              ap (λ (q : Bool). shown (truth q))
              (ap (λ (t : State). backup_send_ready time (trim_by_carrier t)) is ∙ sym (tested.tests before_trim (arrays history sources) refl refl refl));
          state = ap trim_by_carrier is ∙ trims_to;
          put = refl;
          sends = refl;
        }

    shows_after : Shows used before_trim → Shows used' after_trim
    shows_after shows =
        subst (Shows used')
        (ap (λ (k : Group). state_of (parts_of k) (tables members' pending waiting history sources)) (sym tested.same))
        (shows_trimmed {t = state_of (parts g.identity after answer.«record».sending answer.«record».ring) (tables members' pending waiting history sources)} shows refl refl
        (tested.follows (arrays history sources) refl))

  backup_can_send_here : {b : Bool} {answer : Readiness} {used' : List ℕ} → b ≡ is_backup g.core.mode → b ≡ true
      → TrimmedReady None h mid history used answer used' → TestsHere call_can_send g members history used answer mid used'
  unfolding step_of can_send_call can_send_body guard run
  backup_can_send_here {answer = answer} InMode in_backup tested =
      record {
        steps =
            λ pending waiting sources unbroken.
            let z = s pending waiting sources in
            record {
              step =
                  λ store output list.
                  left_by_step
                  (guard_goes_on (6 when breaks_rule z) [] z (can_send_body z) unbroken.valid
                  ∙ when_true (is_backup g.core.mode) _ _ (sym InMode ∙ in_backup))
                  (left_trimmed None mid tested pending waiting sources (run pending waiting sources).state _ (refreshed pending waiting sources));
              long = long_refreshed pending waiting sources mid refl unbroken;
            };
        shows =
            λ pending waiting sources shows.
            shows_after None mid tested pending waiting sources (shows_refreshed pending waiting sources shows);
      }

  -- Broadcast
  broadcast_can_send_here : {b ready : Bool} → b ≡ is_backup g.core.mode → b ≡ false
      → ready ≡ any (sends_now None) (members_of after.counts.members mid)
      → TestsHere call_can_send g members history used record { ready = ready; «record» = h } mid used
  unfolding step_of can_send_call can_send_body guard run
  broadcast_can_send_here {b} {ready} tested in_broadcast is =
      record {
        steps =
            λ pending waiting sources unbroken.
            let z = s pending waiting sources in
            record {
              step =
                  λ store output list.
                  left_by_step
                  (guard_goes_on (6 when breaks_rule z) [] z (can_send_body z) unbroken.valid
                  ∙ when_false (is_backup g.core.mode) _ _ (sym tested ∙ in_broadcast))
                  record {
                    code = refl;
                    answer =
                        ap (λ (q : Bool). shown (truth q))
                        (ap (λ (t : State). any (sends_now None) t.members) (refreshed pending waiting sources) ∙ sym is);
                    state = refreshed pending waiting sources;
                    put = refl;
                    sends = refl;
                  };
              long = long_refreshed pending waiting sources mid refl unbroken;
            };
        shows = λ pending waiting sources shows. shows_refreshed pending waiting sources shows;
      }

  module _ (time : ℕ) (small : time ≤ largest_64) where
    checked : (z : State) → breaks_rule z ≡ false → can_send_with_pacing_call time z ≡ can_send_with_pacing_body time z
    unfolding can_send_with_pacing_call guard
    checked z unbroken =
        guard_goes_on (6 when breaks_rule z) ((2 when above largest_64 time) ∷ []) z (can_send_with_pacing_body time z) unbroken
        ∙ guard_goes_on (2 when above largest_64 time) [] z (can_send_with_pacing_body time z) (le-ltb largest_64 time small)

    broadcast_with_pacing_here : {b ready : Bool} → b ≡ is_backup g.core.mode → b ≡ false
        → ready ≡ any (sends_now (Some time)) (members_of after.counts.members mid)
        → TestsHere (call_can_send_with_pacing time) g members history used record { ready = ready; «record» = h } mid used
    unfolding step_of can_send_with_pacing_body run
    broadcast_with_pacing_here {b} {ready} tested in_broadcast is =
        record {
          steps =
              λ pending waiting sources unbroken.
              let z = s pending waiting sources in
              record {
                step =
                    λ store output list.
                    left_by_step (checked z unbroken.valid ∙ when_false (is_backup g.core.mode) _ _ (sym tested ∙ in_broadcast))
                    record {
                      code = refl;
                      answer =
                          ap (λ (q : Bool). shown (truth q))
                          (ap (λ (t : State). any (sends_now (Some time)) t.members) (refreshed pending waiting sources) ∙ sym is);
                      state = refreshed pending waiting sources;
                      put = refl;
                      sends = refl;
                    };
                long = long_refreshed pending waiting sources mid refl unbroken;
              };
          shows = λ pending waiting sources shows. shows_refreshed pending waiting sources shows;
        }

    backup_with_pacing_here : {b : Bool} {answer : Readiness} {used' members' : List ℕ} → b ≡ is_backup g.core.mode → b ≡ true
        → Became after.counts.members (promote_if_none g.core.mode (demote_stale_backup_carrier time (members_of after.counts.members mid))) mid members'
        → TrimmedReady (Some time) h members' history used answer used'
        → TestsHere (call_can_send_with_pacing time) g members history used answer members' used'
    unfolding step_of can_send_with_pacing_body run
    backup_with_pacing_here {members' = members'} InMode in_backup readied tested =
        record {
          steps =
              λ pending waiting sources unbroken.
              let z = s pending waiting sources in
              let t = (run pending waiting sources).state in
              record {
                step =
                    λ store output list.
                    left_by_step (checked z unbroken.valid ∙ when_true (is_backup g.core.mode) _ _ (sym InMode ∙ in_backup))
                    (left_trimmed (Some time) members' tested pending waiting sources
                    (with_members (promote_if_none g.core.mode (demote_stale_backup_carrier time t.members)) t) _
                    (ap (λ (u : State). with_members (promote_if_none g.core.mode (demote_stale_backup_carrier time u.members)) u)
                    (refreshed pending waiting sources)
                    ∙ ap
                    (λ (l : List Member).
                    with_members l (state_of (parts_of h) (tables mid pending waiting history sources)))
                    (sym readied.is)));
                long = long_refreshed pending waiting sources members' readied.long unbroken;
              };
          shows =
              λ pending waiting sources shows.
              shows_after (Some time) members' tested pending waiting sources
              (shows_queues (state_of (parts_of h) (tables mid pending waiting history sources)) (members_of after.counts.members members')
              (sym (ap queued_cells readied.is ∙ readied_cells g.core.mode time (members_of after.counts.members mid)))
              (shows_refreshed pending waiting sources shows));
        }

-- what holds with any identity in the record
every_identity : {call : Call} {g : Group} {members history used : List ℕ} {answer : Readiness} {members' used' : List ℕ}
    → answer.«record».identity ≡ g.identity
    → ((i : Identity) → TestsHere call (with_identity i g) members history used
    record { ready = answer.ready; «record» = with_identity i answer.«record» } members' used')
    → Tests call g members history used answer members' used'
every_identity same here = record { same = same; steps = λ i. (here i).steps; shows = λ i. (here i).shows }

trimmed_with : {time : Option ℕ} {g : Group} {members history used : List ℕ} {answer : Readiness} {used' : List ℕ} (i : Identity)
    → TrimmedReady time g members history used answer used'
    → TrimmedReady time (with_identity i g) members history used record { ready = answer.ready; «record» = with_identity i answer.«record» } used'
trimmed_with i tested =
    record { same = ap (with_identity i) tested.same; fits = tested.fits; follows = tested.follows; trims = tested.trims; tests = tested.tests }

module _ (g : Group) (members history used : List ℕ) (after : Core) (mid : List ℕ)
    (refreshes : Refreshes (sends g.sending) refresh_states g.core members after mid) where
  abbrev refreshed_group : Group
  refreshed_group = record { identity = g.identity; core = after; sending = g.sending; ring = g.ring }

  pub backup_can_send : {b : Bool} {answer : Readiness} {used' : List ℕ} → b ≡ is_backup g.core.mode → b ≡ true
      → TrimmedReady None refreshed_group mid history used answer used' → Tests call_can_send g members history used answer mid used'
  backup_can_send InMode in_backup tested =
      every_identity (ap (λ (k : Group). k.identity) tested.same)
      (λ i. backup_can_send_here (with_identity i g) members history used after mid refreshes InMode in_backup (trimmed_with i tested))

  -- Broadcast
  pub broadcast_can_send : {b ready : Bool} → b ≡ is_backup g.core.mode → b ≡ false
      → ready ≡ any (sends_now None) (members_of after.counts.members mid)
      → Tests call_can_send g members history used record { ready = ready; «record» = refreshed_group } mid used
  broadcast_can_send tested in_broadcast is =
      every_identity refl (λ i. broadcast_can_send_here (with_identity i g) members history used after mid refreshes tested in_broadcast is)

  module _ (time : ℕ) (small : time ≤ largest_64) where
    pub broadcast_with_pacing : {b ready : Bool} → b ≡ is_backup g.core.mode → b ≡ false
        → ready ≡ any (sends_now (Some time)) (members_of after.counts.members mid)
        → Tests (call_can_send_with_pacing time) g members history used record { ready = ready; «record» = refreshed_group } mid used
    broadcast_with_pacing tested in_broadcast is =
        every_identity refl
        (λ i. broadcast_with_pacing_here (with_identity i g) members history used after mid refreshes time small tested in_broadcast is)

    pub backup_with_pacing : {b : Bool} {answer : Readiness} {used' members' : List ℕ} → b ≡ is_backup g.core.mode → b ≡ true
        → Became after.counts.members (promote_if_none g.core.mode (demote_stale_backup_carrier time (members_of after.counts.members mid))) mid members'
        → TrimmedReady (Some time) refreshed_group members' history used answer used'
        → Tests (call_can_send_with_pacing time) g members history used answer members' used'
    backup_with_pacing InMode in_backup readied tested =
        every_identity (ap (λ (k : Group). k.identity) tested.same)
        (λ i.
        backup_with_pacing_here (with_identity i g) members history used after mid refreshes time small InMode in_backup readied (trimmed_with i tested))

  -- Broadcast, with a time or without one
  pub broadcast_tested : (pacing : Option ℕ) {b ready : Bool} → InWord pacing → b ≡ is_backup g.core.mode → b ≡ false
      → ready ≡ any (sends_now pacing) (members_of after.counts.members mid)
      → Tests (call_paced pacing) g members history used record { ready = ready; «record» = refreshed_group } mid used
  broadcast_tested None small = broadcast_can_send
  broadcast_tested (Some time) small = broadcast_with_pacing time small

-- with the identity that stands: the record after it is the answer's
module _ {call : Call} {g : Group} {members history used : List ℕ} {answer : Readiness} {members' used' : List ℕ}
    (tests : Tests call g members history used answer members' used') (pending waiting sources : List ℕ) where
  pub tests_steps : Unbroken (parts_of g) (tables members pending waiting history sources)
      → Steps call (parts_of g) (tables members pending waiting history sources) 0 (shown (truth answer.ready))
      (parts_of answer.«record») (tables members' pending waiting history sources)
  tests_steps unbroken =
      subst
      (λ (i : Identity).
      Steps call (parts_of g) (tables members pending waiting history sources) 0 (shown (truth answer.ready))
      (parts_of (with_identity i answer.«record»)) (tables members' pending waiting history sources))
      (sym tests.same) (tests.steps g.identity pending waiting sources unbroken)

  pub tests_shows : Shows used (state_of (parts_of g) (tables members pending waiting history sources))
      → Shows used' (state_of (parts_of answer.«record») (tables members' pending waiting history sources))
  tests_shows shows =
      subst (λ (i : Identity). Shows used' (state_of (parts_of (with_identity i answer.«record»)) (tables members' pending waiting history sources)))
      (sym tests.same) (tests.shows g.identity pending waiting sources shows)

-- ---- for a valid state

module _ {g : Group} {members pending waiting history sources used : List ℕ} (store : List ℕ)
    (ready : Ready (parts_of g) (tables members pending waiting history sources) (length store) used) where
  pub testable_of : Testable g members history
  testable_of =
      let fit = (sound_of_valid (cells_of (length store)) (state_of (parts_of g) (tables members pending waiting history sources)) (omega arith) ready.valid).fit in
      record {
        rows = rows_there ready;
        history_long = ready.long.history;
        pending = pending;
        waiting = waiting;
        sources = sources;
        fit = fit;
      }

  pub tests_performed : {call : Call} {answer : Readiness} {members' used' : List ℕ} → Tests call g members history used answer members' used'
      → Performs call (parts_of g) (tables members pending waiting history sources) (storing store) 0 (shown (truth answer.ready))
      (parts_of answer.«record») (tables members' pending waiting history sources) (storing store) used'
  unfolding delivered_by
  tests_performed {used' = used'} tests =
      performs_steps ready refl used' (tests_steps tests pending waiting sources (unbroken_of ready))
      (tests_shows tests pending waiting sources ready.shows)
