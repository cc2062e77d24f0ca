-- What is proved of the definitions in specs/Sends.antt, with what the proofs need.
use Rattle.std.specs.Prelude.{◌≡◌, refl, Bool, List, [], Ok, Err, Result, IfOk}
use Rattle.std.specs.Result.{result_and}
use Rattle.std.proofs.Math.Path.{ap, sym}
use Rattle.std.proofs.Common.{ap₂, subst, ◌∙◌, arith}
use Rattle.std.proofs.Math.Bool.{true, false}
use Prim.Native.Nat.{ℕ, ◌≤◌}
use Rattle.std.proofs.Math.ListN.{length}
use Rattle.srt_protocol.specs.declared.error.Error.{Error}
use Rattle.srt_protocol.specs.declared.error.Error.TheVariants.{PayloadAboveLimit}
use Rattle.srt_protocol.specs.Errors.{Outcome, outcome_number}
use Rattle.srt_group_model.specs.Tools.{if_true◌then◌else◌}
use Rattle.srt_group_model.specs.Laws.Reason.{when_true, when_false}
use Rattle.srt_group_model.specs.State.{Send, State, is_backup, with_send, with_members, with_sending}
use Rattle.srt_group_model.specs.Run.{start, refresh_states}
use Rattle.srt_group_model.specs.Sending.{Flow, ends_with, above_limit, send_broadcast}
use Rattle.srt_group_model.specs.Backup.{send_backup}
use Rattle.srt_group_model.specs.Calls.{send_flow}
use Rattle.srt_group_model.specs.Validity.{max_members}
use Rattle.srt_group_model.specs.Sound.{Fit}
use Rattle.srt_group_model.specs.Laws.Steps.{refresh_has}
use Rattle.srt_group_model.specs.Laws.EveryCall.{refresh_mode}
use Rattle.srt_group_model.specs.Laws.RangesCalls.{fit_law}
use Rattle.srt_group_model.specs.declared.Core.{Core}
use Rattle.srt_group_model.specs.declared.Counts.{Counts}
use Rattle.srt_group_model.specs.declared.Sending.{Sending}
use Rattle.srt_connection_members.specs.Members.{members_of}
use Rattle.srt_group_tables.specs.declared.history.HistoryRing.{HistoryRing}
use Rattle.srt_group_tables.specs.Ring.{entries_of, send_of}
use Rattle.srt_group_sending.specs.SentList.{send_tables, sent_rows}
use Rattle.srt_group_sending.specs.Laws.SentList.{wrote_nothing}
use Rattle.srt_group_sending.specs.Broadcast.{SentBroadcast}
use Rattle.srt_group_sending.specs.declared.flown.Flown.{Flown}
use Rattle.srt_group.specs.declared.Group.{Group}
use Rattle.srt_group_collecting.specs.Leaves.{sends}
use Rattle.srt_group_polls.specs.Refresh.{Refreshes}
use Rattle.srt_group_shown.specs.Shown.{rest}
use Rattle.srt_group_backup.specs.declared.trimming.SendHistory.{SendHistory}
use Rattle.srt_group_carrier.specs.Lendable.{BackupTables, backup_tables, arrays_in, Lendable, NumbersFit}
use Rattle.srt_group_carrier.specs.Flows.{InMode, BackupFlows}
use Rattle.srt_group_carrier.specs.Laws.Freeing.{trim_same, trim_sends}
use Rattle.srt_group_send.specs.Answers.{send_number}
use Rattle.srt_group_send.specs.Sends.{by_mode, sending_state, FitShown, FlowMade}

-- ---- the send of the mode

module _ (mode time size cell n : ℕ) (x : Sending) (r : HistoryRing) (before : BackupTables) where
  pub backup_by_mode : {answer : Flown SendHistory} {after : BackupTables} {b : Bool} → b ≡ is_backup mode → b ≡ true
      → BackupFlows (InMode mode) (send_backup time size cell) cell n x r 0 before answer after
      → BackupFlows (InMode mode) (by_mode mode time size cell) cell n x r 0 before answer after
  backup_by_mode tested in_backup flows =
      record {
        members_long = flows.members_long;
        arrays_long = flows.arrays_long;
        fits = flows.fits;
        few = flows.few;
        sends = flows.sends;
        written = flows.written;
        follows = flows.follows;
        flow =
            λ s is ms sends.
            when_true (is_backup mode) (send_backup time size cell s) (send_broadcast time size s) (sym tested ∙ in_backup)
            ∙ flows.flow s is ms sends;
      }

  pub broadcast_by_mode : {sent : Flown Sending} {members list : List ℕ} {b : Bool} → b ≡ is_backup mode → b ≡ false → n ≤ max_members → Lendable n r before
      → SentBroadcast n time size x (send_tables before.members before.list) sent (send_tables members list)
      → BackupFlows (InMode mode) (by_mode mode time size cell) cell n x r 0 before
      record { outcome = sent.outcome; state = record { sending = sent.state; ring = r }; sent = sent.sent }
      (backup_tables members before.history before.sources list before.used)
  broadcast_by_mode {sent} {members} {list} tested in_broadcast few lent cast =
      record {
        members_long = cast.long;
        arrays_long = lent.arrays_long;
        fits = lent.fits;
        few = omega (arith, cast.few);
        sends = sent_rows sent.sent list;
        written = cast.wrote;
        follows = trim_sends cell (trim_same (entries_of r (arrays_in before)) before.used lent.used_long);
        flow =
            λ s is ms sends.
            when_false (is_backup mode) (send_backup time size cell s) (send_broadcast time size s) (sym tested ∙ in_broadcast)
            ∙ cast.is s ms (ap (λ (y : Send). y.numbers) sends)
            ∙ ap (λ (y : Send). made (with_sending sent.state y) s) sends;
      }
    where
      made : Send → State → Flow
      made y s =
          record { state = with_send y (with_members (members_of n members) s); sends = sent_rows sent.sent list; code = outcome_number sent.outcome }

-- ---- the answer

-- an outcome with the count of legs has the outcome's number
number_on : (o : Outcome) (legs : ℕ) → send_number (result_and o (Ok legs)) ≡ outcome_number o
number_on (Ok tt) legs = refl
number_on (Err e) legs = refl

legs_on : (o : Outcome) {n m : ℕ} → n ≡ m → IfOk (result_and o (Ok n)) (λ k. k ≡ m)
legs_on (Ok tt) same = same
legs_on (Err e) same = tt

-- ---- after the refresh

pub few_refreshed : {x : Sending} {core after : Core} {ms ms' : List ℕ} → Refreshes (sends x) refresh_states core ms after ms'
    → core.counts.members ≤ max_members → after.counts.members ≤ max_members
few_refreshed refreshes few = omega (arith, few, ap (λ (k : Counts). k.members) refreshes.counts_same)

module _ (g : Group) (before : BackupTables) (after : Core) (members : List ℕ)
    (refreshes : Refreshes (sends g.sending) refresh_states g.core before.members after members) where
  abbrev refreshed_record : Group
  refreshed_record = record { identity = g.identity; core = after; sending = g.sending; ring = g.ring }

  abbrev mid : BackupTables
  mid = backup_tables members before.history before.sources before.list before.used

  pub refreshed : (pending waiting : List ℕ)
      → (refresh_states (start (sending_state g before pending waiting))).state ≡ sending_state refreshed_record mid pending waiting
  refreshed pending waiting =
      (refreshes.run pending waiting (rest g.identity g.sending (entries_of g.ring (arrays_in before))) refl [] 0).state

  pub numbers_refreshed : FitShown g before → NumbersFit (send_of g.sending g.ring (arrays_in before)) (members_of after.counts.members members)
  numbers_refreshed shown =
      let fit : Fit (sending_state refreshed_record mid shown.pending shown.waiting) =
      subst Fit (refreshed shown.pending shown.waiting)
      (refresh_has Fit fit_law (start (sending_state g before shown.pending shown.waiting)) shown.fit)
      in
      record { members = fit.members; history = fit.history; next = fit.sending.next }

  pub lendable_refreshed : Lendable g.core.counts.members g.ring before → Lendable after.counts.members g.ring mid
  lendable_refreshed lent =
      record {
        rows = omega (arith, lent.rows, refreshes.members_long, ap (λ (k : Counts). k.members) refreshes.counts_same);
        fits = lent.fits;
        arrays_long = lent.arrays_long;
        list_long = lent.list_long;
        used_long = lent.used_long;
      }

  module _ (cell time size : ℕ) {b : Bool} (tested : b ≡ above_limit size (members_of after.counts.members members)) where
    above : (c : Bool) → b ≡ c → (pending waiting payload : List ℕ) → length payload ≡ size
        → above_limit (length payload) (refresh_states (start (sending_state g before pending waiting))).state.members ≡ c
    above c is pending waiting payload long =
        ap₂ (λ (k : ℕ) (s : State). above_limit k s.members) long (refreshed pending waiting) ∙ sym tested ∙ is

    pub limit_made : b ≡ true → Lendable g.core.counts.members g.ring before
        → FlowMade cell time size g before record { «record» = refreshed_record; answer = Err PayloadAboveLimit; rows = 0 } mid
    unfolding send_flow
    limit_made is lent =
        record {
          members_long = refreshes.members_long;
          arrays_long = lent.arrays_long;
          few = omega arith;
          sends = [];
          written = wrote_nothing 0 before.list;
          legs = tt;
          follows = trim_sends cell (trim_same (entries_of g.ring (arrays_in before)) before.used lent.used_long);
          flow =
              λ pending waiting payload long.
              when_true _ _ _ (above true is pending waiting payload long) ∙ ap (ends_with 23) (refreshed pending waiting);
        }

    pub mode_made : {sent : Flown SendHistory} {end : BackupTables} {answer : Result ℕ Error} → b ≡ false
        → BackupFlows (InMode g.core.mode) (by_mode g.core.mode time size cell) cell after.counts.members g.sending g.ring 0 mid sent end
        → answer ≡ result_and sent.outcome (Ok (if_true is_backup g.core.mode then 1 else sent.sent))
        → FlowMade cell time size g before
        record {
          «record» = record { identity = g.identity; core = after; sending = sent.state.sending; ring = sent.state.ring };
          answer = answer;
          rows = sent.sent;
        } end
    unfolding send_flow
    mode_made {sent} {end} {answer} is flows answers =
        record {
          members_long = flows.members_long ∙ refreshes.members_long;
          arrays_long = flows.arrays_long;
          few = flows.few;
          sends = flows.sends;
          written = flows.written;
          legs =
              let filled : sent.sent ≡ length flows.sends = omega (arith, flows.written.count) in
              subst (λ (a : Result ℕ Error). IfOk a (λ n. n ≡ (if_true is_backup g.core.mode then 1 else length flows.sends))) (sym answers)
              (legs_on sent.outcome (ap (λ (k : ℕ). if_true is_backup g.core.mode then 1 else k) filled));
          follows = flows.follows;
          flow =
              λ pending waiting payload long.
              let run = refresh_states (start (sending_state g before pending waiting)) in
              let same = refreshed pending waiting in
              when_false _ _ _ (above false is pending waiting payload long)
              ∙ ap (λ (k : ℕ). by_mode g.core.mode time k cell run.state) long
              ∙ flows.flow run.state (refresh_mode (start (sending_state g before pending waiting)))
              (ap (λ (s : State). s.members) same) (ap (λ (s : State). s.send) same)
              ∙ ap (made (outcome_number sent.outcome)) same
              ∙ ap (λ (k : ℕ). made k (sending_state refreshed_record mid pending waiting)) (sym (ap send_number answers ∙ number_on sent.outcome _));
        }
      where
        made : ℕ → State → Flow
        made k s =
            record {
              state = with_send (send_of sent.state.sending sent.state.ring (arrays_in end)) (with_members (members_of after.counts.members end.members) s);
              sends = flows.sends;
              code = k;
            }
