-- The send at a place and the whole send make the model's flows.
use Rattle.std.specs.Prelude.{◌≡◌, Bool, List, [], ◌∷◌, ℕ, ◌≤◌, ◌<◌, eqb, Err, None, Some}
use Rattle.std.proofs.Math.Path.{refl, ap, sym}
use Rattle.std.proofs.Common.{ap₂, ◌∙◌, eq-eqb, ne_eqb}
use Rattle.std.proofs.Math.Bool.{true, false, not}
use Rattle.srt_protocol.specs.Errors.{error_number}
use Rattle.srt_protocol.specs.declared.error.Error.TheVariants.{NoActiveMember, SequenceMismatch}
use Rattle.srt_group_model.specs.Tools.{if_true◌then◌else◌, if_some◌give◌otherwise◌, any, at_place}
use Rattle.srt_group_model.specs.State.{Member, Send, State, with_send, with_members}
use Rattle.srt_group_model.specs.Legs.{largest_sequence}
use Rattle.srt_group_model.specs.Members.{first_active, promote_if_none}
use Rattle.srt_group_model.specs.Sending.{max_sent, ends_with, sequence_for_send, sequence_mismatch}
use Rattle.srt_group_model.specs.Backup.{demote_stale_backup_carrier, send_own, send_after_promotion, send_at_place, send_backup}
use Rattle.srt_group_model.specs.Sound.{MemberFit}
use Rattle.srt_group_model.specs.Laws.Reason.{if_elim, all_at, or_no}
use Rattle.srt_group_model.specs.declared.Sender.{Sender}
use Rattle.srt_group_model.specs.declared.Sending.{Sending}
use Rattle.srt_connection_members.specs.Members.{member_at, members_of}
use Rattle.srt_connection_members.specs.Laws.Members.{members_place}
use Rattle.srt_group_members.specs.Scan.{Became}
use Rattle.srt_group_tables.specs.declared.history.HistoryRing.{HistoryRing}
use Rattle.srt_group_tables.specs.Ring.{entries_of, send_of}
use Rattle.srt_group_sending.specs.Laws.SentList.{wrote_nothing}
use Rattle.srt_group_sending.specs.Broadcast.{number_for_send}
use Rattle.srt_group_sending.specs.Laws.Broadcast.{number_of_first}
use Rattle.srt_group_sending.specs.declared.flown.Flown.{Flown}
use Rattle.srt_group_backup.specs.declared.trimming.SendHistory.{SendHistory}
use Rattle.srt_group_carrier.specs.Lendable.{BackupTables, backup_tables, arrays_in, Lendable, NumbersFit}
use Rattle.srt_group_carrier.specs.Laws.Freeing.{trim_same, trim_sends}
use Rattle.srt_group_carrier.specs.Flows.{every, InMode, BackupFlows}
use Rattle.srt_group_carrier.specs.Laws.Flows.{none_active, first_flows}
use Rattle.srt_group_backup_send.specs.BackupSend.{on_carrier}

-- ---- the call's own sequence

pub number_fits : (i n : ℕ) (x : Send) (t : List ℕ) → i < n → NumbersFit x (members_of n t)
    → number_for_send x.numbers (member_at t i) ≤ largest_sequence
unfolding number_for_send
number_fits i n x t below h =
    if_elim (λ (k : ℕ). k ≤ largest_sequence) _ _ _ (λ e. h.next)
    (λ e. (all_at MemberFit i (member_at t i) (members_of n t) (members_place n t i below) h.members).leg.next)

-- ---- at a place

module _ (time size cell i n : ℕ) (x : Sending) (r : HistoryRing) (sent : ℕ) (before : BackupTables) (below : i < n) {sequence : ℕ} {sender : Sender}
    (is_sequence : sequence ≡ number_for_send x (member_at before.members i)) (is_sender : sender ≡ (member_at before.members i).leg.sender) where
  abbrev at_i : Member
  at_i = member_at before.members i

  -- of a state that is shown
  module _ (s : State) (ms : s.members ≡ members_of n before.members) (sends : s.send ≡ send_of x r (arrays_in before)) where
    here : at_place i s.members ≡ Some at_i
    here = ap (at_place i) ms ∙ members_place n before.members i below

    own_sequence : sequence_for_send s.send (at_i ∷ []) ≡ sequence
    unfolding at_place
    own_sequence =
        number_of_first s.send (at_i ∷ []) at_i refl ∙ ap (λ (y : Send). number_for_send y.numbers at_i) sends ∙ sym is_sequence

    mismatched : (b : Bool) → eqb sender.next sequence ≡ b → sequence_mismatch sequence (at_i ∷ []) ≡ not b
    unfolding sequence_mismatch any
    mismatched b is = or_no (not (eqb at_i.leg.sender.next sequence)) ∙ ap (λ (y : Sender). not (eqb y.next sequence)) (sym is_sender) ∙ ap not is

    at_25 : (sender.next ≡ sequence → ⊥) → send_at_place time size cell i s ≡ ends_with 25 s
    unfolding send_at_place if_true◌then◌else◌ if_some◌give◌otherwise◌
    at_25 other = rw (here, own_sequence, mismatched false (ne_eqb sender.next sequence other))

    at_own : sender.next ≡ sequence
        → send_at_place time size cell i s ≡ send_own time size cell sequence i (send_after_promotion time size cell sequence i) s
    unfolding send_at_place if_true◌then◌else◌ if_some◌give◌otherwise◌
    at_own same = rw (here, own_sequence, mismatched true (eq-eqb sender.next sequence same))

  pub place_mismatched : (sender.next ≡ sequence → ⊥) → Lendable n r before → sent ≤ max_sent
      → BackupFlows every (send_at_place time size cell i) cell n x r sent before
      record { outcome = Err SequenceMismatch; state = record { sending = x; ring = r }; sent = sent } before
  place_mismatched other lent few =
      record {
        members_long = refl;
        arrays_long = lent.arrays_long;
        fits = lent.fits;
        few = few;
        sends = [];
        written = wrote_nothing sent before.list;
        follows = trim_sends cell (trim_same (entries_of r (arrays_in before)) before.used lent.used_long);
        flow =
            λ s among ms sends.
            at_25 s ms sends other
            ∙ ap₂ (λ (l : List Member) (y : Send). ends_with 25 (with_send y (with_members l s))) ms sends;
      }

  pub place_flows : {answer : Flown SendHistory} {after : BackupTables} → sender.next ≡ sequence
      → BackupFlows every (send_own time size cell sequence i (send_after_promotion time size cell sequence i)) cell n x r sent before answer after
      → BackupFlows every (send_at_place time size cell i) cell n x r sent before answer after
  place_flows same flows =
      record {
        members_long = flows.members_long;
        arrays_long = flows.arrays_long;
        fits = flows.fits;
        few = flows.few;
        sends = flows.sends;
        written = flows.written;
        follows = flows.follows;
        flow = λ s among ms sends. at_own s ms sends same ∙ flows.flow s tt ms sends;
      }

-- ---- on the first active member

pub backup_shape : (time size cell : ℕ) (s : State) → send_backup time size cell s
    ≡ (if_some first_active (promote_if_none s.making.mode (demote_stale_backup_carrier time s.members))
    give (λ j. on_carrier time size cell j (with_members (promote_if_none s.making.mode (demote_stale_backup_carrier time s.members)) s))
    otherwise
    ends_with (error_number NoActiveMember)
    (with_members (promote_if_none s.making.mode (demote_stale_backup_carrier time s.members)) s))
unfolding send_backup
backup_shape time size cell s = refl

module _ (mode time size cell n : ℕ) (x : Sending) (r : HistoryRing) (sent : ℕ) (before : BackupTables) {members : List ℕ}
    (readied : Became n (promote_if_none mode (demote_stale_backup_carrier time (members_of n before.members))) before.members members) where
  abbrev after_readying : BackupTables
  after_readying = backup_tables members before.history before.sources before.list before.used

  ready_in_mode : (s : State) → InMode mode s → s.members ≡ members_of n before.members
      → promote_if_none s.making.mode (demote_stale_backup_carrier time s.members) ≡ members_of n members
  ready_in_mode s is ms =
      ap₂ (λ (k : ℕ) (l : List Member). promote_if_none k (demote_stale_backup_carrier time l)) is ms ∙ sym readied.is

  pub none_readied : None ≡ first_active (members_of n members) → Lendable n r before → sent ≤ max_sent
      → BackupFlows (InMode mode) (send_backup time size cell) cell n x r sent before
      record { outcome = Err NoActiveMember; state = record { sending = x; ring = r }; sent = sent } after_readying
  none_readied =
      none_active (InMode mode) (send_backup time size cell) _ (on_carrier time size cell) NoActiveMember (backup_shape time size cell) cell n x r sent before
      members ready_in_mode readied.long

  pub readied_flows : (j : ℕ) {answer : Flown SendHistory} {after : BackupTables} → Some j ≡ first_active (members_of n members)
      → BackupFlows every (on_carrier time size cell j) cell n x r sent after_readying answer after
      → BackupFlows (InMode mode) (send_backup time size cell) cell n x r sent before answer after
  readied_flows =
      first_flows (InMode mode) (send_backup time size cell) _ (on_carrier time size cell) NoActiveMember (backup_shape time size cell) cell n x r sent before
      members ready_in_mode readied.long
