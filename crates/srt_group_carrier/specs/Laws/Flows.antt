-- What a part of a Backup send leaves is the flow of the model.
use Rattle.srt_protocol.specs.Errors.{Outcome}
use Rattle.std.specs.Prelude.{◌≡◌, Bool, true, false, length, Err, None, Ok, Option, Some}
use Rattle.std.specs.Result.{is_err}
use Rattle.std.proofs.Math.Path.{refl, ap, ap₂, sym, subst}
use Rattle.std.proofs.Common.{◌∙◌, arith}
use mathlib.Core.List.{List, [], ◌∷◌, ◌++◌}
use Prim.Native.Nat.{ℕ, ◌-◌, ◌≤◌, ◌<◌}
use borrow.Author.Tests.{ne_eqb}
use Rattle.std.proofs.Math.Dec.{eqb}
use Rattle.srt_protocol.specs.Errors.{error_number, outcome_number}
use Rattle.srt_protocol.specs.Laws.Errors.{refused_not_0}
use Rattle.srt_protocol.specs.declared.error.Error.{Error}
use Rattle.srt_protocol.specs.declared.error.Error.TheVariants.{AllBackupFailed}
use Rattle.srt_group_model.specs.Tools.{if_true◌then◌else◌, if_some◌give◌otherwise◌, change}
use Rattle.srt_group_model.specs.State.{Member, Send, State, with_send, with_members}
use Rattle.srt_group_model.specs.Legs.{send_shared_with_sequence}
use Rattle.srt_group_model.specs.Members.{id_of, first_active, promote_backup_member}
use Rattle.srt_group_model.specs.Sending.{max_sent, list_size, Sent, own_send, Flow, ends_with, ◌and_then◌, mark_send_failure}
use Rattle.srt_group_model.specs.Backup.{max_history, send_own, send_after_promotion}
use Rattle.srt_group_model.specs.Laws.Reason.{if_some_elim}
use Rattle.srt_group_model.specs.Laws.Places.{change_nothing}
use Rattle.srt_group_model.specs.declared.Sending.{Sending}
use Rattle.srt_connection_members.specs.Members.{member_at, members_of}
use Rattle.srt_connection_members.specs.Laws.Members.{found_some, found_none, changed_by}
use Rattle.srt_group_members.specs.Scan.{Became}
use Rattle.srt_group_tables.specs.declared.history.HistoryRing.{HistoryRing}
use Rattle.srt_group_tables.specs.Ring.{arrays, Long, entries_of, send_of}
use Rattle.srt_group_sending.specs.SentList.{SendTables, send_tables, Wrote}
use Rattle.srt_group_sending.specs.Laws.SentList.{wrote_nothing, wrote_length, wrote_then}
use Rattle.srt_group_sending.specs.declared.flown.Flown.{Flown}
use Rattle.srt_group_backup.specs.declared.trimming.SendHistory.{SendHistory}
use Rattle.srt_group_backup.specs.TakeOver.{TookOver}
use Rattle.srt_group_sending.specs.OwnSend.{SentOn}
use Rattle.srt_group_sending.specs.Laws.OwnSend.{not_some}
use Rattle.srt_group_backup.specs.Laws.OwnSend.{send_own_failed, send_own_met}
use Rattle.srt_group_carrier.specs.Freeing.{TrimFollows}
use Rattle.srt_group_carrier.specs.Lendable.{BackupTables, backup_tables, arrays_in, Lendable}
use Rattle.srt_group_carrier.specs.Recording.{Kept}
use Rattle.srt_group_carrier.specs.Laws.Freeing.{trim_same, trim_then_send, trim_sends}
use Rattle.srt_group_carrier.specs.Laws.Recording.{recorded_long}
use Rattle.srt_group_carrier.specs.Flows.{on_promoted, every, BackupFlows}

-- ---- one flow after another

flow_of : State → List Sent → ℕ → Flow
flow_of s sends code = record { state = s; sends = sends; code = code }

and_stops : (x : Flow) (g : State → Flow) → eqb x.code 0 ≡ false → (x and_then g) ≡ x
unfolding ◌and_then◌ if_true◌then◌else◌
and_stops x g refused = rw refused

and_goes_on : (s : State) (sends : List Sent) (g : State → Flow) (y : Flow) → g s ≡ y
    → (flow_of s sends 0 and_then g) ≡ flow_of y.state (sends ++ y.sends) y.code
unfolding ◌and_then◌ if_true◌then◌else◌ flow_of
and_goes_on s sends g y is = ap (λ (z : Flow). flow_of z.state (sends ++ z.sends) z.code) is

-- ---- an outcome

refused_code : (o : Outcome) → is_err o ≡ true → eqb (outcome_number o) 0 ≡ false
refused_code (Ok tt) is = cc is
refused_code (Err e) is = ne_eqb (error_number e) 0 (refused_not_0 e)

pub accepted : (o : Outcome) → is_err o ≡ false → o ≡ Ok tt
accepted (Ok tt) is = refl
accepted (Err e) is = cc is

-- ---- a flow after a take-over

module _ (f : State → Flow) (cell n : ℕ) (x : Sending) (r : HistoryRing) (sent : ℕ) (before : BackupTables) (members list used : List ℕ)
    {taken : Flown SendHistory} (few : sent ≤ max_sent - max_history) (arrays_long : Long (arrays_in before))
    (took : TookOver f n x r (arrays_in before) sent (send_tables before.members before.list) taken (send_tables members list))
    (follows : TrimFollows (entries_of r (arrays_in before)) before.used (entries_of taken.state.ring (arrays_in before)) used) where
  abbrev mid : BackupTables
  mid = backup_tables members before.history before.sources list used

  left_taken : State → State
  left_taken s = with_send (send_of taken.state.sending taken.state.ring (arrays_in before)) (with_members (members_of n members) s)

  pub flows_stopped : (g : State → Flow) → is_err taken.outcome ≡ true
      → BackupFlows every (λ s. f s and_then g) cell n x r sent before taken mid
  unfolding flow_of left_taken
  flows_stopped g is =
      record {
        members_long = took.long;
        arrays_long = arrays_long;
        fits = took.fits;
        few = omega (arith, took.few);
        sends = took.sends;
        written = took.written;
        follows = trim_sends cell follows;
        flow =
            λ s among ms sends.
            ap (λ (y : Flow). y and_then g) (took.flow s ms sends)
            ∙ and_stops (flow_of (left_taken s) took.sends (outcome_number taken.outcome)) g (refused_code taken.outcome is);
      }

  pub flows_then : (g : State → Flow) {answer : Flown SendHistory} {after : BackupTables} → taken.outcome ≡ Ok tt → list_size ≤ length before.list
      → BackupFlows every g cell n taken.state.sending taken.state.ring taken.sent mid answer after
      → BackupFlows every (λ s. f s and_then g) cell n x r sent before answer after
  unfolding flow_of left_taken
  flows_then g {answer} {after} is list_long second =
      record {
        members_long = second.members_long ∙ took.long;
        arrays_long = second.arrays_long;
        fits = second.fits;
        few = second.few;
        sends = took.sends ++ second.sends;
        written = wrote_then took.written (omega (arith, took.few)) second.written;
        follows = trim_then_send follows second.follows;
        flow =
            λ s among ms sends.
            ap (λ (y : Flow). y and_then g)
            (took.flow s ms sends ∙ ap (λ (o : Outcome). flow_of (left_taken s) took.sends (outcome_number o)) is)
            ∙ and_goes_on (left_taken s) took.sends g _ (second.flow (left_taken s) tt refl refl);
      }

-- ---- a flow on the first active member

module _ (among : State → Type 0) (f : State → Flow) (ready : State → List Member) (g : ℕ → State → Flow) (error : Error)
    (shape : (s : State) → f s
    ≡ (if_some first_active (ready s)
    give (λ j. g j (with_members (ready s) s))
    otherwise ends_with (error_number error) (with_members (ready s) s)))
    (cell n : ℕ) (x : Sending) (r : HistoryRing) (sent : ℕ) (before : BackupTables) (members : List ℕ)
    (readied : (s : State) → among s → s.members ≡ members_of n before.members → ready s ≡ members_of n members)
    (long : length members ≡ length before.members) where
  abbrev with_ready : BackupTables
  with_ready = backup_tables members before.history before.sources before.list before.used

  pub none_active : None ≡ first_active (members_of n members) → Lendable n r before → sent ≤ max_sent
      → BackupFlows among f cell n x r sent before record { outcome = Err error; state = record { sending = x; ring = r }; sent = sent } with_ready
  unfolding if_some◌give◌otherwise◌
  none_active nowhere lent few =
      record {
        members_long = long;
        arrays_long = lent.arrays_long;
        fits = lent.fits;
        few = few;
        sends = [];
        written = wrote_nothing sent before.list;
        follows = trim_sends cell (trim_same (entries_of r (arrays_in before)) before.used lent.used_long);
        flow =
            λ s is ms sends.
            let same = readied s is ms in
            shape s
            ∙ ap
            (λ (o : Option ℕ).
            if_some o
            give (λ j. g j (with_members (ready s) s))
            otherwise ends_with (error_number error) (with_members (ready s) s))
            (ap first_active same ∙ found_none (first_active (members_of n members)) nowhere)
            ∙ ap (λ (l : List Member). ends_with (error_number error) (with_members l s)) same
            ∙ ap (λ (y : Send). ends_with (error_number error) (with_send y (with_members (members_of n members) s))) sends;
      }

  pub first_flows : (j : ℕ) {answer : Flown SendHistory} {after : BackupTables} → Some j ≡ first_active (members_of n members)
      → BackupFlows every (g j) cell n x r sent with_ready answer after → BackupFlows among f cell n x r sent before answer after
  unfolding if_some◌give◌otherwise◌
  first_flows j {answer} {after} found flows =
      record {
        members_long = flows.members_long ∙ long;
        arrays_long = flows.arrays_long;
        fits = flows.fits;
        few = flows.few;
        sends = flows.sends;
        written = flows.written;
        follows = flows.follows;
        flow =
            λ s is ms sends.
            let same = readied s is ms in
            shape s
            ∙ ap
            (λ (o : Option ℕ).
            if_some o
            give (λ j. g j (with_members (ready s) s))
            otherwise ends_with (error_number error) (with_members (ready s) s))
            (ap first_active same ∙ found_some (first_active (members_of n members)) j found)
            ∙ ap (λ (l : List Member). g j (with_members l s)) same
            ∙ flows.flow (with_members (members_of n members) s) tt refl sends;
      }

-- ---- the call's own payload

-- its answer, once it is known
pub sent_as : {time size sequence i sent : ℕ} {before after : SendTables} {answer b : Bool} → answer ≡ b
    → SentOn time size sequence i sent before answer after → SentOn time size sequence i sent before b after
sent_as {time} {size} {sequence} {i} {sent} {before} {after} is on = subst (λ (c : Bool). SentOn time size sequence i sent before c after) is on

module _ (time size cell sequence i n : ℕ) (x : Sending) (r : HistoryRing) (sent : ℕ) (before : BackupTables) (members list : List ℕ)
    (below : i < n) where
  abbrev m : Member
  m = member_at before.members i

  abbrev own : (Member → State → Flow) → State → Flow
  own failed = send_own time size cell sequence i failed

  -- it was sent, and is kept
  module _ (on : SentOn time size sequence i sent (send_tables before.members before.list) true (send_tables members list)) where
    same_id : id_of (member_at before.members i) ≡ id_of (member_at members i)
    unfolding if_some◌give◌otherwise◌
    same_id =
        sym
        (ap id_of on.changed.here
        ∙ if_some_elim (λ (k : Member). id_of k ≡ id_of m) (send_shared_with_sequence time size sequence m.leg) _ _ (λ l e. refl) (λ e. refl))

    pub own_sent : {history sources used : List ℕ} {answer : Flown SendHistory} (failed : Member → State → Flow) → Long (arrays_in before) → sent < max_sent
        → Kept time size cell sequence (member_at members i) x r sent (arrays_in before) before.used answer (arrays history sources) used
        → BackupFlows every (own failed) cell n x r sent before answer (backup_tables members history sources list used)
    unfolding if_true◌then◌else◌
    own_sent {history} {sources} {used} {answer} failed long few kept =
        record {
          members_long = on.changed.long;
          arrays_long = recorded_long long kept.recorded;
          fits = kept.recorded.fits;
          few = omega (arith, kept.rows);
          sends = own_send time sequence m ∷ [];
          written =
              subst (λ (k : ℕ). Wrote sent (own_send time sequence m ∷ []) before.list k list) (sym kept.rows) on.written;
          follows = kept.follows;
          flow =
              λ s among ms sends.
              send_own_met time size cell sequence i n (send_tables before.members before.list) (send_tables members list) below failed s ms
              x r (arrays_in before) (arrays history sources) sent sends on refl same_id kept.recorded
              ∙ ap
              (λ (o : Outcome).
              flow_made (send_of answer.state.sending answer.state.ring (arrays history sources)) s (outcome_number o))
              (sym kept.outcome);
        }
      where
        flow_made : Send → State → ℕ → Flow
        flow_made y s code =
            record { state = with_send y (with_members (members_of n members) s); sends = own_send time sequence m ∷ []; code = code }

  -- it was not
  module _ (on : SentOn time size sequence i sent (send_tables before.members before.list) false (send_tables members list)) where
    none_sent : send_shared_with_sequence time size sequence m.leg ≡ None
    none_sent = not_some (send_shared_with_sequence time size sequence m.leg) on.succeeded

    members_same : members_of n members ≡ members_of n before.members
    unfolding if_some◌give◌otherwise◌
    members_same =
        (changed_by i before.members members (λ k. k) on.changed (rw none_sent)).members n
        ∙ change_nothing i (members_of n before.members)

    abbrev unsent : BackupTables
    unsent = backup_tables members before.history before.sources list before.used

    pub own_refused : (error : Error) → Lendable n r before → sent < max_sent
        → BackupFlows every (own (λ k. ends_with (error_number error))) cell n x r sent before
        record { outcome = Err error; state = record { sending = x; ring = r }; sent = sent } unsent
    unfolding if_true◌then◌else◌
    own_refused error lent few =
        record {
          members_long = on.changed.long;
          arrays_long = lent.arrays_long;
          fits = lent.fits;
          few = omega arith;
          sends = [];
          written = on.written;
          follows = trim_sends cell (trim_same (entries_of r (arrays_in before)) before.used lent.used_long);
          flow =
              λ s among ms sends.
              send_own_failed time size cell sequence i n before.members below (λ k. ends_with (error_number error)) s ms none_sent
              ∙ ap₂ (λ (l : List Member) (y : Send). ends_with (error_number error) (with_send y (with_members l s))) (ms ∙ sym members_same) sends;
        }

    pub own_failed : {answer : Flown SendHistory} {after : BackupTables} (failed : Member → State → Flow) → list_size ≤ length before.list → sent < max_sent
        → BackupFlows every (failed m) cell n x r sent unsent answer after
        → BackupFlows every (own failed) cell n x r sent before answer after
    unfolding if_true◌then◌else◌
    own_failed {answer} {after} failed list_long few flows =
        record {
          members_long = flows.members_long ∙ on.changed.long;
          arrays_long = flows.arrays_long;
          fits = flows.fits;
          few = flows.few;
          sends = flows.sends;
          written = wrote_then on.written (omega arith) flows.written;
          follows = flows.follows;
          flow =
              λ s among ms sends.
              send_own_failed time size cell sequence i n before.members below failed s ms none_sent
              ∙ flows.flow s tt (ms ∙ sym members_same) sends;
        }

-- ---- the tables stay long enough

pub lendable_with : {n : ℕ} {r : HistoryRing} {before : BackupTables} (members : List ℕ) → Lendable n r before → length members ≡ length before.members
    → Lendable n r (backup_tables members before.history before.sources before.list before.used)
lendable_with members lent long =
    record {
      rows = omega (arith, lent.rows);
      fits = lent.fits;
      arrays_long = lent.arrays_long;
      list_long = lent.list_long;
      used_long = lent.used_long;
    }

pub lendable_taken : {f : State → Flow} {n : ℕ} {x : Sending} {r : HistoryRing} {sent : ℕ} {before : BackupTables} {members list used : List ℕ}
    {taken : Flown SendHistory} → sent ≤ max_sent - max_history → Lendable n r before
    → TookOver f n x r (arrays_in before) sent (send_tables before.members before.list) taken (send_tables members list)
    → TrimFollows (entries_of r (arrays_in before)) before.used (entries_of taken.state.ring (arrays_in before)) used
    → Lendable n taken.state.ring (backup_tables members before.history before.sources list used)
lendable_taken {before = before} few lent took follows =
    record {
      rows = omega (arith, lent.rows, took.long);
      fits = took.fits;
      arrays_long = lent.arrays_long;
      list_long = omega (arith, lent.list_long, wrote_length took.written (omega (arith, lent.list_long, took.few)));
      used_long = follows.long;
    }

-- after a send that failed
pub lendable_unsent : {time size sequence i sent n : ℕ} {r : HistoryRing} {before : BackupTables} {members list : List ℕ}
    → sent < max_sent → Lendable n r before
    → SentOn time size sequence i sent (send_tables before.members before.list) false (send_tables members list)
    → Lendable n r (backup_tables members before.history before.sources list before.used)
unfolding if_true◌then◌else◌
lendable_unsent few lent on =
    record {
      rows = omega (arith, lent.rows, on.changed.long);
      fits = lent.fits;
      arrays_long = lent.arrays_long;
      list_long = omega (arith, lent.list_long, wrote_length on.written (omega (arith, lent.list_long)));
      used_long = lent.used_long;
    }

-- ---- after a failed send

module _ (time size cell sequence i n : ℕ) (failed : Member) where
  pub promotion_shape : (s : State) → send_after_promotion time size cell sequence i failed s
      ≡ (if_some first_active (promote_backup_member (change i mark_send_failure s.members))
      give (λ j. on_promoted time size cell sequence j (with_members (promote_backup_member (change i mark_send_failure s.members)) s))
      otherwise
      ends_with (error_number AllBackupFailed) (with_members (promote_backup_member (change i mark_send_failure s.members)) s))
  unfolding send_after_promotion
  promotion_shape s = refl

  -- it is the place that failed, not the member
  pub promoted_whoever : (other : Member) {x : Sending} {r : HistoryRing} {sent : ℕ} {before after : BackupTables} {answer : Flown SendHistory}
      → BackupFlows every (send_after_promotion time size cell sequence i failed) cell n x r sent before answer after
      → BackupFlows every (send_after_promotion time size cell sequence i other) cell n x r sent before answer after
  unfolding send_after_promotion
  promoted_whoever other flows = flows

module _ (time size cell sequence i n : ℕ) (failed : Member) (x : Sending) (r : HistoryRing) (sent : ℕ) (before : BackupTables) {members : List ℕ}
    (promoted : Became n (promote_backup_member (change i mark_send_failure (members_of n before.members))) before.members members) where
  abbrev after_promotion : BackupTables
  after_promotion = backup_tables members before.history before.sources before.list before.used

  ready_promoted : (s : State) → every s → s.members ≡ members_of n before.members
      → promote_backup_member (change i mark_send_failure s.members) ≡ members_of n members
  ready_promoted s among ms = ap (λ (l : List Member). promote_backup_member (change i mark_send_failure l)) ms ∙ sym promoted.is

  pub none_promoted : None ≡ first_active (members_of n members) → Lendable n r before → sent ≤ max_sent
      → BackupFlows every (send_after_promotion time size cell sequence i failed) cell n x r sent before
      record { outcome = Err AllBackupFailed; state = record { sending = x; ring = r }; sent = sent } after_promotion
  none_promoted =
      none_active every (send_after_promotion time size cell sequence i failed) _ (on_promoted time size cell sequence) AllBackupFailed
      (promotion_shape time size cell sequence i n failed) cell n x r sent before members ready_promoted promoted.long

  pub promoted_flows : (j : ℕ) {answer : Flown SendHistory} {after : BackupTables} → Some j ≡ first_active (members_of n members)
      → BackupFlows every (on_promoted time size cell sequence j) cell n x r sent after_promotion answer after
      → BackupFlows every (send_after_promotion time size cell sequence i failed) cell n x r sent before answer after
  promoted_flows =
      first_flows every (send_after_promotion time size cell sequence i failed) _ (on_promoted time size cell sequence) AllBackupFailed
      (promotion_shape time size cell sequence i n failed) cell n x r sent before members ready_promoted promoted.long
