-- What is proved of the definitions in specs/Collect.antt, with what the proofs need.
use Rattle.std.specs.Prelude.{◌≡◌, refl, Bool, true, false, ◌||◌, List, [], ◌∷◌, ◌++◌, ℕ, ◌+◌, ◌≤◌, ◌<◌, length, None, Option, Some, MatchOption}
use Rattle.std.proofs.Common.{ap, ap₂, ◌∙◌, le-leb}
use Rattle.std.proofs.Math.Path.{sym}
use Rattle.std.proofs.lemmas.Bool.{lt-leb}
use Rattle.srt_protocol.specs.Sequence.{sequence_before}
use Rattle.srt_group_model.specs.declared.Core.{Core}
use Rattle.srt_group_model.specs.declared.Packet.{Packet}
use Rattle.srt_group_model.specs.declared.Waiting.{Waiting}
use Rattle.srt_group_model.specs.Tools.{if_true◌then◌else◌, if_some◌give◌otherwise◌, is_set, flagged, change}
use Rattle.srt_group_model.specs.Laws.Flag.{other_set}
use Rattle.srt_group_model.specs.Laws.Reason.{not_both, or_right, or_yes_left}
use Rattle.srt_group_model.specs.State.{Member, State, on_leg, with_members, with_receive, with_pending, with_waiting, is_backup, turned, broken_state, on_account}
use Rattle.srt_group_model.specs.Accounts.{reserve}
use Rattle.srt_group_model.specs.Core.{with_held, with_waiting_count}
use Rattle.srt_group_model.specs.Legs.{release_data_reservation}
use Rattle.srt_group_model.specs.Members.{promote_backup_member}
use Rattle.srt_group_model.specs.Nearest.{sequence_of, is_held, insert}
use Rattle.srt_group_model.specs.Collecting.{is_late, is_discarded, retain_group_packet, report_event}
use Rattle.srt_connection_members.specs.Members.{members_of, Changed}
use Rattle.srt_group_members.specs.Scan.{Became}
use Rattle.srt_group_members.specs.Laws.Scan.{became_changed, became_same, became_then}
use Rattle.srt_group_tables.specs.Packets.{packets, Holds}
use Rattle.srt_group_tables.specs.Waitings.{waitings, HoldsWaiting}
use Rattle.srt_group_shown.specs.Shown.{shown}
use Rattle.srt_group_collecting.specs.Collect.{Retained, receive_of, broken_by, Reported}

-- ---- a packet is held or discarded

discards : (i : ℕ) (p : Packet) (s : State) → is_discarded p s.receive ≡ true
    → retain_group_packet i p s ≡ with_members (change i (on_leg (release_data_reservation p.content.count)) s.members) s
unfolding retain_group_packet if_true◌then◌else◌
discards i p s yes_discarded = rw yes_discarded

holds : (i : ℕ) (p : Packet) (s : State) → is_discarded p s.receive ≡ false
    → retain_group_packet i p s
    ≡ with_receive (with_pending (insert p s.receive.pending) s.receive)
    (with_members (change i (on_account (reserve p.content.count)) s.members) s)
unfolding retain_group_packet if_true◌then◌else◌
holds i p s not_discarded = rw not_discarded

module _ (core : Core) (ms ps : List ℕ) (i : ℕ) (p : Packet) where
  pub discarded : (ms' : List ℕ) → is_discarded p (receive_of core ps) ≡ true
      → Changed i (on_leg (release_data_reservation p.content.count)) ms ms' → Retained i p core ms ps core ms' ps
  discarded ms' is changed =
      record {
        waiting_same = refl;
        leaves =
            λ ws.
            record {
              members_long = changed.long;
              pending_long = refl;
              waiting_long = refl;
              members_same = refl;
              state =
                  λ others.
                  discards i p (shown core others ms ps ws) is
                  ∙ ap (λ (x : List Member). with_members x (shown core others ms ps ws)) (sym (changed.members core.counts.members));
            };
      }

  pub held : (ms' ps' : List ℕ) → is_discarded p (receive_of core ps) ≡ false
      → Holds (length ps) ps' (core.counts.pending + 1) (insert p (packets core.counts.pending ps))
      → Changed i (on_account (reserve p.content.count)) ms ms'
      → Retained i p core ms ps (with_held (core.counts.pending + 1) core) ms' ps'
  held ms' ps' is inserted changed =
      record {
        waiting_same = refl;
        leaves =
            λ ws.
            record {
              members_long = changed.long;
              pending_long = inserted.length_kept;
              waiting_long = refl;
              members_same = refl;
              state =
                  λ others.
                  holds i p (shown core others ms ps ws) is
                  ∙ ap₂
                  (λ (l : List Packet) (x : List Member).
                  with_receive (with_pending l (receive_of core ps)) (with_members x (shown core others ms ps ws)))
                  (sym inserted.is) (sym (changed.members core.counts.members));
            };
      }

-- ---- the tests of a discarded packet

or_second : (a b : Bool) → a ≡ false → (a || b) ≡ b
or_second true b e = not_both refl e
or_second false b e = refl

-- a sequence is late only if there is a base
module _ (based base sequence : ℕ) where
  pub late_based : {answer : Bool} → (based ≡ 0 → ⊥) → answer ≡ sequence_before sequence base
      → answer ≡ (if_some flagged (is_set based) base give (λ base. sequence_before sequence base) otherwise false)
  unfolding flagged if_some◌give◌otherwise◌
  late_based with_base is = rw (other_set based with_base) is

  -- the answer by the base that is shown, if there is one
  pub late_after : {o : Option ℕ} {answer : Bool} → o ≡ flagged (is_set based) base → MatchOption o (answer ≡ false) (λ b. answer ≡ sequence_before sequence b)
      → answer ≡ (if_some flagged (is_set based) base give (λ b. sequence_before sequence b) otherwise false)
  unfolding if_some◌give◌otherwise◌
  late_after {o} {answer} is given = rw (← is) (go o given)
    where
      go : (o : Option ℕ) → MatchOption o (answer ≡ false) (λ b. answer ≡ sequence_before sequence b)
          → answer ≡ (if_some o give (λ b. sequence_before sequence b) otherwise false)
      go None g = g
      go (Some b) g = g

  pub late_unbased : based ≡ 0 → false ≡ (if_some flagged (is_set based) base give (λ base. sequence_before sequence base) otherwise false)
  unfolding flagged if_some◌give◌otherwise◌
  late_unbased no_base = rw no_base

module _ (p : Packet) (core : Core) (ps : List ℕ) where
  abbrev late : Bool
  late = if_some flagged (is_set core.receiving.based) core.receiving.base give (λ base. sequence_before (sequence_of p) base) otherwise false

  abbrev held_already : Bool
  held_already = is_held (sequence_of p) (packets core.counts.pending ps)

  pub discarded_late : {answer : Bool} → answer ≡ late → answer ≡ true → true ≡ is_discarded p (receive_of core ps)
  unfolding is_discarded is_late
  discarded_late is yes_late = sym (or_yes_left late held_already (sym is ∙ yes_late))

  pub discarded_if_held : {answer known : Bool} → answer ≡ late → answer ≡ false → known ≡ held_already
      → known ≡ is_discarded p (receive_of core ps)
  unfolding is_discarded is_late
  discarded_if_held is not_late known = known ∙ sym (or_second late held_already (sym is ∙ not_late))

  pub not_held : {answer : Bool} → answer ≡ is_discarded p (receive_of core ps) → answer ≡ false → held_already ≡ false
  unfolding is_discarded is_late
  not_held tested keeps = or_right late held_already (sym tested ∙ keeps)

-- ---- an event is reported

module _ (n mode kind i : ℕ) (t : List ℕ) where
  pub not_broken : kind < 2 → Became n (broken_by mode kind i (members_of n t)) t t
  unfolding if_true◌then◌else◌
  not_broken low = rw (lt-leb 2 kind low) (became_same n t (members_of n t) refl)

  pub broken_alone : {backup : Bool} {u : List ℕ} → 2 ≤ kind → backup ≡ is_backup mode → backup ≡ false
      → Changed i (turned broken_state) t u → Became n (broken_by mode kind i (members_of n t)) t u
  unfolding if_true◌then◌else◌
  broken_alone {backup} {u} high is other changed = rw (le-leb 2 kind high, ← is, other) (became_changed n i t u changed)

  pub broken_promoted : {backup : Bool} {u v : List ℕ} → 2 ≤ kind → backup ≡ is_backup mode → backup ≡ true
      → Changed i (turned broken_state) t u → Became n (promote_backup_member (members_of n u)) u v
      → Became n (broken_by mode kind i (members_of n t)) t v
  unfolding if_true◌then◌else◌
  broken_promoted {backup} {u} {v} high is in_backup changed became =
      rw (le-leb 2 kind high, ← is, in_backup)
      (became_then n promote_backup_member t u v (became_changed n i t u changed) became)

pub reported : (i : ℕ) (w : Waiting) (core : Core) (ms ws ms' ws' : List ℕ)
    → Became core.counts.members (broken_by core.mode w.kind i (members_of core.counts.members ms)) ms ms'
    → HoldsWaiting (length ws) ws' (core.counts.waiting + 1) (waitings core.counts.waiting ws ++ (w ∷ []))
    → Reported i w core ms ws (with_waiting_count (core.counts.waiting + 1) core) ms' ws'
unfolding report_event
reported i w core ms ws ms' ws' became pushed =
    record {
      waiting_more = refl;
      leaves =
          λ ps.
          record {
            members_long = became.long;
            pending_long = refl;
            waiting_long = pushed.length_kept;
            members_same = refl;
            state =
                λ others.
                ap₂
                (λ (l : List Waiting) (x : List Member). with_waiting l (with_members x (shown core others ms ps ws)))
                (sym pushed.is) (sym became.is);
          };
    }
