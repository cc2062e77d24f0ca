-- What is proved of the definitions in specs/Trimming.antt, with what the proofs need.
use Rattle.std.specs.Prelude.{◌≡◌, Bool, true, ◌<◌, length, get_or, None, Option, Some}
use Rattle.std.proofs.Math.Path.{refl, ap, sym}
use Rattle.std.proofs.Common.{◌∙◌, arith, eq-eqb, ne_eqb}
use Rattle.std.proofs.Math.Bool.{false}
use mathlib.Core.List.{List}
use Prim.Native.Nat.{ℕ, zero, suc, ◌+◌, ◌%◌}
use Rattle.std.proofs.Math.Dec.{eqb}
use Rattle.word_rows.specs.Tab.{tab}
use Rattle.srt_protocol.specs.Sequence.{sequence_before}
use Rattle.srt_group_model.specs.Tools.{if_true◌then◌else◌, if_some◌give◌otherwise◌, is_set, flagged, bit, at_place}
use Rattle.srt_group_model.specs.Laws.Flag.{unset_none, set_some}
use Rattle.srt_group_model.specs.Laws.Reason.{none_some, some_inj}
use Rattle.srt_group_model.specs.State.{Send, backup_carrier, with_send, send_side, with_gap}
use Rattle.srt_group_model.specs.Legs.{has_sender, oldest_unacked_sequence}
use Rattle.srt_group_model.specs.Members.{has_id, find}
use Rattle.srt_group_model.specs.Backup.{max_history, starts_after, drop_before, trim_backup_history, trim_by_carrier}
use Rattle.srt_group_model.specs.declared.Entry.{Entry}
use Rattle.srt_group_model.specs.declared.Leg.{Leg}
use Rattle.srt_group_model.specs.declared.Sending.{Sending}
use Rattle.srt_connection_members.specs.Members.{members_in}
use Rattle.srt_connection_members.specs.Laws.Members.{found_some, found_none}
use Rattle.srt_group_members.specs.Rank.{shown}
use Rattle.srt_group_sending.specs.Laws.Rows.{row_there, row_found}
use Rattle.srt_group_tables.specs.Ring.{Arrays, word_sequence, entry_at, entries_of, Trimmed, send_of}
use Rattle.srt_group_tables.specs.declared.history.HistoryRing.{HistoryRing}
use Rattle.srt_group_backup.specs.declared.trimming.SendHistory.{SendHistory}
use Rattle.srt_group_backup.specs.Trimming.{front_after, SendTrimmed, TrimmedByCarrier}

-- ---- the gap

module _ (sequence : ℕ) (history : List ℕ) (r : HistoryRing) where
  pub none_after : r.length ≡ 0 → 0 ≡ bit (front_after sequence history r)
  unfolding front_after if_true◌then◌else◌ bit
  none_after empty = sym (rw (eq-eqb r.length 0 empty))

  module _ {first : ℕ} {before : Bool} (some_there : r.length ≡ 0 → ⊥)
      (is_first : first ≡ word_sequence (get_or history ((r.start + 0) % max_history) 0)) (is : before ≡ sequence_before sequence first) where
    front_before : before ≡ front_after sequence history r
    unfolding front_after if_true◌then◌else◌
    front_before = is ∙ ap (sequence_before sequence) is_first ∙ sym (rw (ne_eqb r.length 0 some_there))

    pub first_after : before ≡ true → 1 ≡ bit (front_after sequence history r)
    unfolding bit
    first_after after = sym (rw (← front_before, after))

    pub first_not_after : before ≡ false → 0 ≡ bit (front_after sequence history r)
    unfolding bit
    first_not_after no_after = sym (rw (← front_before, no_after))

  pub front_is_front : (a : Arrays) → a.history ≡ history → front_after sequence history r ≡ starts_after sequence (entries_of r a)
  unfolding front_after starts_after if_true◌then◌else◌ if_some◌give◌otherwise◌ at_place tab
  front_is_front a is = go r.length
    where
      go : (n : ℕ)
          → (if_true eqb n 0
          then false
          else sequence_before sequence (word_sequence (get_or history ((r.start + 0) % max_history) 0)))
          ≡ (if_some at_place 0 (tab n (entry_at r a)) give (λ e. sequence_before sequence e.sequence) otherwise false)
      go zero = refl
      go (suc n) =
          rw (ne_eqb (suc n) 0 (λ e. omega arith))
          (sym (ap (λ (l : List ℕ). sequence_before sequence (word_sequence (get_or l ((r.start + 0) % max_history) 0))) is))

-- ---- one trim

module _ (l : Leg) (history : List ℕ) (x : Sending) (r : HistoryRing) where
  pub no_sender_none_trimmed : {answer : Bool} → answer ≡ has_sender l → answer ≡ false
      → SendTrimmed (trim_backup_history l) history x r record { sending = x; ring = r }
  unfolding trim_backup_history if_true◌then◌else◌
  no_sender_none_trimmed is none_there = record { fits = omega arith; is = λ a e. sym (rw (← is, none_there)) }

  pub acknowledged_trimmed : {answer : Bool} {gap oldest : ℕ} {left : HistoryRing} → answer ≡ has_sender l → answer ≡ true
      → oldest ≡ oldest_unacked_sequence l → Trimmed oldest history r left → gap ≡ bit (front_after oldest history left)
      → SendTrimmed (trim_backup_history l) history x r record { sending = with_gap gap x; ring = left }
  unfolding trim_backup_history if_true◌then◌else◌
  acknowledged_trimmed {answer} {gap} {oldest} {left} is there oldest_is trimmed gap_is =
      record { fits = trimmed.fits; is = λ a e. shown a e ∙ sym (rw (← is, there, ← oldest_is)) }
    where
      shown : (a : Arrays) → a.history ≡ history
          → send_of (with_gap gap x) left a
          ≡ send_side (with_gap (bit (starts_after oldest (drop_before oldest (entries_of r a)))) x) (drop_before oldest (entries_of r a))
      shown a e =
          ap (λ (g : ℕ). send_of (with_gap g x) left a) (gap_is ∙ ap bit (front_is_front oldest history left a e))
          ∙ ap (λ (h : List Entry). send_side (with_gap (bit (starts_after oldest h)) x) h) (trimmed.is a e)

-- ---- by the carrier

-- the carrier as an option
none_flagged : (n k : ℕ) → None ≡ flagged (is_set n) k → n ≡ 0
unfolding flagged
none_flagged zero k e = refl
none_flagged (suc n) k e = none_some e

module _ (x : Sending) {carrier : Option ℕ} (is : carrier ≡ flagged (is_set x.carried) x.carrier) where
  pub nobody_carries : carrier ≡ None → x.carried ≡ 0
  nobody_carries none = none_flagged x.carried x.carrier (sym none ∙ is)

  pub some_carry : (id : ℕ) → carrier ≡ Some id → x.carried ≡ 0 → ⊥
  some_carry id some unset = none_some (sym (unset_none x.carried x.carrier unset) ∙ (sym is ∙ some))

  pub the_carrier : (id : ℕ) → carrier ≡ Some id → id ≡ x.carrier
  the_carrier id some = some_inj (sym some ∙ (is ∙ set_some x.carried x.carrier (some_carry id some)))

pub carrier_there : (id : ℕ) (rows : List (List ℕ)) (i : ℕ) → Some i ≡ find id (members_in rows) → i < length rows
carrier_there id rows i e = row_found (has_id id) rows i e

module _ (x : Sending) (h : List Entry) (y : Send) (is : y ≡ send_side x h) where
  no_carrier : x.carried ≡ 0 → backup_carrier y ≡ None
  no_carrier none_there = rw is (unset_none x.carried x.carrier none_there)

  its_carrier : (x.carried ≡ 0 → ⊥) → backup_carrier y ≡ Some x.carrier
  its_carrier there = rw is (set_some x.carried x.carrier there)

module _ (rows : List (List ℕ)) (history : List ℕ) (x : Sending) (r : HistoryRing) where
  pub no_carrier_none_trimmed : x.carried ≡ 0
      → TrimmedByCarrier (members_in rows) history x r record { sending = x; ring = r }
  unfolding trim_by_carrier if_some◌give◌otherwise◌
  no_carrier_none_trimmed none_there =
      record {
        fits = omega arith;
        is =
            λ s a ms e sent.
            rw (no_carrier x (entries_of r a) s.send sent none_there) (ap (λ (y : Send). with_send y s) sent);
      }

  module _ (carried : x.carried ≡ 0 → ⊥) where
    pub carrier_gone_none_trimmed : None ≡ find x.carrier (members_in rows)
        → TrimmedByCarrier (members_in rows) history x r record { sending = x; ring = r }
    unfolding trim_by_carrier if_some◌give◌otherwise◌
    carrier_gone_none_trimmed gone =
        record {
          fits = omega arith;
          is =
              λ s a ms e sent.
              rw (
                its_carrier x (entries_of r a) s.send sent carried,
                ap (find x.carrier) ms ∙ found_none (find x.carrier (members_in rows)) gone,
              )
              (ap (λ (y : Send). with_send y s) sent);
        }

    pub carrier_trimmed : {l : Leg} {answer : SendHistory} (i : ℕ) → Some i ≡ find x.carrier (members_in rows)
        → l ≡ (shown rows i).leg → SendTrimmed (trim_backup_history l) history x r answer
        → TrimmedByCarrier (members_in rows) history x r answer
    unfolding trim_by_carrier if_some◌give◌otherwise◌
    carrier_trimmed {l} {answer} i found leg trimmed =
        record {
          fits = trimmed.fits;
          is =
              λ s a ms e sent.
              rw (
                its_carrier x (entries_of r a) s.send sent carried,
                ap (find x.carrier) ms ∙ found_some (find x.carrier (members_in rows)) i found,
                ap (at_place i) ms ∙ row_there i rows (carrier_there x.carrier rows i found),
              )
              (ap (λ (y : Send). with_send y s)
              (ap (trim_backup_history (shown rows i).leg) sent
              ∙ ap (λ (k : Leg). trim_backup_history k (send_of x r a)) (sym leg)
              ∙ sym (trimmed.is a e)));
        }
