-- What is proved of the definitions in specs/OwnSend.antt, with what the proofs need.
use Rattle.std.specs.Prelude.{◌≡◌, true, ℕ, ◌≤◌, ◌<◌, None, Some}
use Rattle.std.proofs.Math.Path.{refl, ap, sym}
use Rattle.std.proofs.Common.{◌∙◌, arith}
use mathlib.Core.List.{List, [], ◌∷◌}
use Rattle.srt_protocol.specs.Sequence.{sequence_further}
use Rattle.srt_group_model.specs.Tools.{if_some◌give◌otherwise◌, at_place, change}
use Rattle.srt_group_model.specs.State.{Member, Send, State, with_send, with_members, with_leg, send_side, with_sending, with_number, with_carrier, entry_of}
use Rattle.srt_group_model.specs.Legs.{send_shared_with_sequence}
use Rattle.srt_group_model.specs.Members.{id_of}
use Rattle.srt_group_model.specs.Sending.{Flow, own_send}
use Rattle.srt_group_model.specs.Backup.{max_history, trim_backup_history, append_history, record_backup_send, send_own}
use Rattle.srt_group_model.specs.declared.Entry.{Entry}
use Rattle.srt_group_model.specs.declared.Leg.{Leg}
use Rattle.srt_group_model.specs.declared.Sending.{Sending}
use Rattle.srt_connection_members.specs.Members.{member_at, members_of, Changed}
use Rattle.srt_connection_members.specs.Laws.Members.{members_place, changed_by}
use Rattle.srt_group_tables.specs.Ring.{Arrays, Long, Packs, with_entry, next_place, after_push, send_of}
use Rattle.srt_group_tables.specs.Laws.Ring.{with_newest, pushed, push_fits}
use Rattle.srt_group_tables.specs.declared.history.HistoryRing.{HistoryRing}
use Rattle.srt_group_sending.specs.SentList.{SendTables}
use Rattle.srt_group_backup.specs.declared.trimming.SendHistory.{SendHistory}
use Rattle.srt_group_backup.specs.Trimming.{SendTrimmed}
use Rattle.srt_group_sending.specs.OwnSend.{SentOn}
use Rattle.srt_group_sending.specs.Laws.OwnSend.{with_some}
use Rattle.srt_group_backup.specs.OwnSend.{SendRecorded}

-- ---- definitions

-- the numbers of sending once a send at a sequence was the last, and who carried it
abbrev pub carried_by : (carrier sequence : ℕ) → Sending → Sending
carried_by carrier sequence x = with_carrier carrier (with_number (sequence_further sequence 1) x)

-- ---- what is recorded

module _ (l : Leg) (carrier : ℕ) (e : Entry) (x : Sending) (r : HistoryRing) (before after : Arrays) (long : Long before)
    (packs : Packs e.sequence e.cell e.length) (fits : r.length ≤ max_history) where
  abbrev numbers : Sending
  numbers = carried_by carrier e.sequence x

  abbrev numbered : Send
  numbered = send_of (with_number (sequence_further e.sequence 1) x) r before

  with_entries : List Entry → Send
  with_entries h = send_side numbers h

  pub send_recorded : {y : Sending} {ring : HistoryRing} {answer : SendHistory} → after ≡ with_entry (next_place r) e before
      → y ≡ with_number (sequence_further e.sequence 1) x → ring ≡ after_push r
      → SendTrimmed (trim_backup_history l) after.history (with_carrier carrier y) ring answer
      → SendRecorded l carrier e x r before answer after
  unfolding record_backup_send append_history with_newest with_entries
  send_recorded {y} {ring} {answer} stored numbers_are ring_is trimmed =
      record {
        fits = omega (arith, trimmed.fits, push_fits r fits, ap (λ (q : HistoryRing). q.length) ring_is);
        stored = stored;
        is =
            λ m leg id.
            trimmed.is after refl
            ∙ ap (λ (z : Sending). trim_backup_history l (send_of (with_carrier carrier z) ring after)) numbers_are
            ∙ ap (λ (q : HistoryRing). trim_backup_history l (send_of numbers q after)) ring_is
            ∙ ap (λ (b : Arrays). trim_backup_history l (send_of numbers (after_push r) b)) stored
            ∙ ap (λ (h : List Entry). trim_backup_history l (with_entries h)) (pushed r before e long packs fits)
            ∙ ap (λ (c : ℕ). trim_backup_history l (append_history c e numbered)) (sym id)
            ∙ ap (λ (k : Leg). trim_backup_history k (append_history (id_of m) e numbered)) (sym leg);
      }

-- ---- the model's send

module _ (time size cell sequence i n : ℕ) (t : List ℕ) (below : i < n) (failed : Member → State → Flow) (s : State)
    (ms : s.members ≡ members_of n t) where
  own_place : at_place i s.members ≡ Some (member_at t i)
  own_place = ap (at_place i) ms ∙ members_place n t i below

  -- the send failed: it ends as `failed` says
  pub send_own_failed : send_shared_with_sequence time size sequence (member_at t i).leg ≡ None
      → send_own time size cell sequence i failed s ≡ failed (member_at t i) s
  unfolding send_own if_some◌give◌otherwise◌
  send_own_failed none_sent = rw (own_place, none_sent)

  -- it succeeded: with the entry recorded, the state shown is the model's
  pub send_own_succeeded : {u : List ℕ} (l : Leg) (y : Send)
      → send_shared_with_sequence time size sequence (member_at t i).leg ≡ Some l → Changed i (with_leg l) t u
      → y
      ≡ record_backup_send (with_leg l (member_at t i)) (entry_of sequence cell size time)
      (with_sending (with_number (sequence_further sequence 1) s.send.numbers) s.send)
      → send_own time size cell sequence i failed s
      ≡ record { state = with_send y (with_members (members_of n u) s); sends = own_send time sequence (member_at t i) ∷ []; code = 0 }
  unfolding send_own if_some◌give◌otherwise◌
  send_own_succeeded {u} l y succeeds c recorded =
      rw (own_place, succeeds)
      (ap (λ (z : Send). flow z (change i (with_leg l) s.members)) (sym recorded)
      ∙ ap (flow y) (ap (change i (with_leg l)) ms ∙ sym (c.members n)))
    where
      flow : Send → List Member → Flow
      flow z ns = record { state = with_send z (with_members ns s); sends = own_send time sequence (member_at t i) ∷ []; code = 0 }

-- a `send_on` that succeeded and `record_backup_send` make the model's `send_own`
module _ (time size cell sequence i n : ℕ) (before after : SendTables) (below : i < n) (failed : Member → State → Flow) (s : State)
    (ms : s.members ≡ members_of n before.members) where
  abbrev own_entry : Entry
  own_entry = entry_of sequence cell size time

  pub send_own_met : (x : Sending) (r : HistoryRing) (a b : Arrays) {l : Leg} {carrier : ℕ} {answer : SendHistory} (sent : ℕ)
      → s.send ≡ send_of x r a → SentOn time size sequence i sent before true after
      → l ≡ (member_at after.members i).leg → id_of (member_at before.members i) ≡ carrier
      → SendRecorded l carrier own_entry x r a answer b
      → send_own time size cell sequence i failed s
      ≡ record {
        state = with_send (send_of answer.sending answer.ring b) (with_members (members_of n after.members) s);
        sends = own_send time sequence (member_at before.members i) ∷ [];
        code = 0;
      }
  unfolding if_some◌give◌otherwise◌
  send_own_met x r a b {l} {carrier} {answer} sent sends on leg id recorded =
      with_some (send_shared_with_sequence time size sequence m.leg) on.succeeded
      (λ k succeeds.
      send_own_succeeded time size cell sequence i n before.members below failed s ms k
      (send_of answer.sending answer.ring b) succeeds
      (changed_by i before.members after.members (with_leg k) on.changed (rw succeeds)) (all_recorded k succeeds))
    where
      m : Member
      m = member_at before.members i

      sent_leg : (k : Leg) → send_shared_with_sequence time size sequence m.leg ≡ Some k → k ≡ l
      sent_leg k succeeds = sym (leg ∙ ap (λ (z : Member). z.leg) on.changed.here ∙ rw succeeds)

      all_recorded : (k : Leg) → send_shared_with_sequence time size sequence m.leg ≡ Some k
          → send_of answer.sending answer.ring b
          ≡ record_backup_send (with_leg k m) own_entry
          (with_sending (with_number (sequence_further sequence 1) s.send.numbers) s.send)
      all_recorded k succeeds =
          recorded.is (with_leg k m) (sent_leg k succeeds) id
          ∙ ap
          (λ (y : Send).
          record_backup_send (with_leg k m) own_entry
          (with_sending (with_number (sequence_further sequence 1) y.numbers) y))
          (sym sends)
