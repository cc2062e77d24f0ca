-- Readiness in Backup: of the history only its length and the sequence of its oldest entry are read.
use Rattle.std.specs.Prelude.{◌≡◌, Bool, true, false, not, ◌&&◌, ◌||◌, List, ℕ, ◌+◌, ◌%◌, eqb, ltb, get_or, None, Option, Some}
use Rattle.srt_group_model.specs.Tools.{if_true◌then◌else◌, if_some◌give◌otherwise◌, or_else, is_set, flagged}
use Rattle.srt_group_model.specs.State.{Member, State}
use Rattle.srt_group_model.specs.Legs.{remaining_window_packets}
use Rattle.srt_group_model.specs.Backup.{max_history, backup_member_ready, backup_send_ready}
use Rattle.srt_group_model.specs.declared.Leg.{Leg}
use Rattle.srt_group_model.specs.declared.Sending.{Sending}
use Rattle.srt_group_tables.specs.Ring.{Arrays, word_sequence, send_of}
use Rattle.srt_group_tables.specs.declared.history.HistoryRing.{HistoryRing}

-- ---- definitions

-- another member carried the last send
unfoldable pub is_other_carrier : ℕ → Sending → Bool
is_other_carrier id x = if_some flagged (is_set x.carried) x.carrier give (λ carrier. not (eqb carrier id)) otherwise false

abbrev pub send_number : Sending → Option ℕ
send_number x = flagged (is_set x.numbered) x.next

-- the sequence of the history's oldest entry
unfoldable pub front_sequence : HistoryRing → List ℕ → Option ℕ
front_sequence r history =
    if_true eqb r.length 0 then None else Some (word_sequence (get_or history ((r.start + 0) % max_history) 0))

unfoldable pub replay_length : Bool → HistoryRing → ℕ
replay_length takes r = if_true takes then r.length else 0

unfoldable pub replay_sequence : Bool → Sending → HistoryRing → List ℕ → Option ℕ
replay_sequence takes x r history = or_else (if_true takes then front_sequence r history else None) (send_number x)

unfoldable pub gap_allows : (takes : Bool) (replay gap : ℕ) → Bool
gap_allows takes replay gap = not takes || (eqb replay 0 || not (is_set gap))

unfoldable pub stands_at : Option ℕ → Leg → Bool
stands_at sequence l = if_some sequence give (λ n. eqb l.sender.next n || eqb l.sender.flight 0) otherwise true

unfoldable pub could_take_over : ℕ → Sending → HistoryRing → List ℕ → Leg → Bool
could_take_over id x r history l =
    let takes = is_other_carrier id x in
    gap_allows takes (replay_length takes r) x.gap
    && (ltb (replay_length takes r) (remaining_window_packets l) && stands_at (replay_sequence takes x r history) l)

-- the model's answer for a member, whatever else the history's arrays hold
pub record MemberReady (time : Option ℕ) (x : Sending) (r : HistoryRing) (history : List ℕ) (m : Member) (answer : Bool) : Type 0 where
  pub is : (a : Arrays) → a.history ≡ history
      → answer ≡ backup_member_ready time (send_of x r a) m

-- the model's answer for every state with these members, these numbers and this history
pub record BackupReady (time : Option ℕ) (x : Sending) (r : HistoryRing) (history : List ℕ) (ms : List Member) (answer : Bool) : Type 0 where
  pub is : (s : State) (a : Arrays) → a.history ≡ history → s.members ≡ ms
      → s.send ≡ send_of x r a → answer ≡ backup_send_ready time s
