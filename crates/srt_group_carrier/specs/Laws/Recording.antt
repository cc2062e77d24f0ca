-- A trim leaves the end of the history; and what is recorded of a send takes and frees the cells that it should.
use Rattle.std.specs.Prelude.{◌≡◌, ℕ, suc, ◌-◌, ◌≤◌, ◌<◌}
use Rattle.std.proofs.Math.Path.{refl, ap, sym, subst}
use Rattle.std.proofs.Common.{ap₂, ◌∙◌, arith, le-leb, length-set}
use mathlib.Core.List.{List, [], ◌∷◌}
use Rattle.std.proofs.Math.Decide.{dec_lt}
use Rattle.std.proofs.lemmas.Bool.{lt-leb}
use Rattle.std.proofs.Math.Dec.{leb}
use Rattle.std.proofs.Math.ListN.{length, drop}
use Rattle.srt_protocol.specs.Sequence.{sequence_before, sequence_further}
use Rattle.srt_group_model.specs.Tools.{if_true◌then◌else◌}
use Rattle.srt_group_model.specs.State.{Member, Send, with_number}
use Rattle.srt_group_model.specs.Legs.{has_sender, oldest_unacked_sequence}
use Rattle.srt_group_model.specs.Accounts.{no_packets}
use Rattle.srt_group_model.specs.Backup.{max_history, drop_before, trim_backup_history, append_history, record_backup_send}
use Rattle.srt_group_model.specs.Laws.Reason.{by_test}
use Rattle.srt_group_model.specs.declared.Entry.{Entry}
use Rattle.srt_group_model.specs.declared.Leg.{Leg}
use Rattle.srt_group_model.specs.declared.Sending.{Sending}
use Rattle.word_rows.specs.Laws.Tab.{tab_length}
use Rattle.srt_group_tables.specs.declared.history.HistoryRing.{HistoryRing}
use Rattle.srt_group_tables.specs.Ring.{Arrays, Long, Packs, entry_word, entry_at, entries_of, send_of, next_place, after_push}
use Rattle.srt_group_tables.specs.Laws.Ring.{with_newest, pushed}
use Rattle.cell_set.specs.Sets.{Taken}
use Rattle.srt_group_backup.specs.declared.trimming.SendHistory.{SendHistory}
use Rattle.srt_group_backup.specs.OwnSend.{SendRecorded}
use Rattle.srt_group_carrier.specs.Freeing.{TrimFollows, SendFollows, FrontFreed}
use Rattle.srt_group_carrier.specs.Laws.Freeing.{trim_as, trim_then_send, send_then_trim, newest_taken}

-- ---- the end of a history

-- t is what is left of h once its oldest entries have left
abbrev pub Suffix : List Entry → List Entry → Type 0
Suffix h t = t ≡ drop (length h - length t) h

pub suffix_same : (h : List Entry) → Suffix h h
suffix_same h = let none : length h - length h ≡ 0 = omega arith in sym (ap (λ (n : ℕ). drop n h) none)

-- of what a shorter ring shows of the same arrays
pub ring_suffix : (r left : HistoryRing) (a : Arrays) → Suffix (entries_of r a) (entries_of left a)
    → drop (r.length - left.length) (entries_of r a) ≡ entries_of left a
ring_suffix r left a suffix =
    sym
    (suffix
    ∙ ap₂ (λ (k l : ℕ). drop (k - l) (entries_of r a)) (tab_length r.length (entry_at r a)) (tab_length left.length (entry_at left a)))

record Shorter (h t : List Entry) : Type 0 where
  suffix : Suffix h t
  short : length t ≤ length h

before_dropped : (sequence : ℕ) (h : List Entry) → Shorter h (drop_before sequence h)
unfolding drop_before if_true◌then◌else◌
before_dropped sequence [] = record { suffix = refl; short = omega arith }
before_dropped sequence (e ∷ es) =
    by_test (sequence_before e.sequence sequence)
    (λ t.
    let rest = before_dropped sequence es in
    let one_more : suc (length es) - length (drop_before sequence es) ≡ suc (length es - length (drop_before sequence es)) =
    omega (arith, rest.short)
    in
    rw t
    record {
      suffix = rest.suffix ∙ sym (ap (λ (n : ℕ). drop n (e ∷ es)) one_more);
      short = omega (arith, rest.short);
    })
    (λ t. rw t record { suffix = suffix_same (e ∷ es); short = omega arith })

pub trim_suffix : (l : Leg) (x : Send) → Suffix x.history (trim_backup_history l x).history
unfolding trim_backup_history if_true◌then◌else◌
trim_suffix l x =
    by_test (has_sender l) (λ t. rw t (before_dropped (oldest_unacked_sequence l) x.history).suffix) (λ t. rw t (suffix_same x.history))

-- ---- what is recorded

-- a member with this leg and this id
carrying : ℕ → Leg → Member
carrying id l =
    record {
      membership =
          record {
            id = id;
            weight = 0;
            state = 0;
            admitted = 0;
            account = no_packets;
            collision = record { expected = 0; actual = 0 };
          };
      leg = l;
      queue = [];
    }

-- the arrays are as long as before
pub recorded_long : {l : Leg} {carrier : ℕ} {e : Entry} {x : Sending} {r : HistoryRing} {before after : Arrays} {answer : SendHistory}
    → Long before → SendRecorded l carrier e x r before answer after → Long after
recorded_long {e = e} {r = r} {before = before} long recorded =
    record {
      history =
          ap (λ (a : Arrays). length a.history) recorded.stored
          ∙ length-set before.history (next_place r) (entry_word e.sequence e.cell e.length) ∙ long.history;
      sources =
          ap (λ (a : Arrays). length a.sources) recorded.stored
          ∙ length-set before.sources (next_place r) e.source.0 ∙ long.sources;
    }

-- the leg and the id, written otherwise
pub recorded_by : {l k : Leg} {id carrier : ℕ} {e : Entry} {x : Sending} {r : HistoryRing} {before after : Arrays} {answer : SendHistory}
    → l ≡ k → id ≡ carrier → SendRecorded l id e x r before answer after → SendRecorded k carrier e x r before answer after
recorded_by leg id recorded =
    record {
      fits = recorded.fits;
      stored = recorded.stored;
      is = λ m is_leg is_id. recorded.is m (is_leg ∙ sym leg) (is_id ∙ sym id);
    }

-- a history with room for one more: a full one without its oldest entry
room_made : (h : List Entry) → length h ≤ max_history
    → drop (length h - (max_history - 1)) h ≡ (if_true leb max_history (length h) then drop 1 h else h)
unfolding if_true◌then◌else◌
room_made h few = by (dec_lt (length h) max_history)
  where
    by : Dec (length h < max_history) → drop (length h - (max_history - 1)) h ≡ (if_true leb max_history (length h) then drop 1 h else h)
    by (yes room) =
        let none : length h - (max_history - 1) ≡ 0 = omega arith in
        rw (lt-leb max_history (length h) room) (ap (λ (n : ℕ). drop n h) none)
    by (no full) =
        let one : length h - (max_history - 1) ≡ 1 = omega arith in
        rw (le-leb max_history (length h) (omega arith)) (ap (λ (n : ℕ). drop n h) one)

module _ (l : Leg) (carrier : ℕ) (e : Entry) (x : Sending) (r : HistoryRing) (before after : Arrays) (long : Long before)
    (packs : Packs e.sequence e.cell e.length) (fits : r.length ≤ max_history) {answer : SendHistory}
    (recorded : SendRecorded l carrier e x r before answer after) where
  newest : entries_of (after_push r) after ≡ with_newest e (entries_of r before)
  newest = ap (entries_of (after_push r)) recorded.stored ∙ pushed r before e long packs fits

  -- what is left is the end of the history with the entry
  left_of_newest : entries_of answer.ring after
      ≡ drop ((after_push r).length - answer.ring.length) (entries_of (after_push r) after)
  unfolding record_backup_send append_history with_newest carrying
  left_of_newest =
      let numbered : Send = send_of (with_number (sequence_further e.sequence 1) x) r before in
      let is : entries_of answer.ring after ≡ (trim_backup_history l (append_history carrier e numbered)).history =
      ap (λ (y : Send). y.history) (recorded.is (carrying carrier l) refl refl)
      in
      let suffix : Suffix (entries_of (after_push r) after) (entries_of answer.ring after) =
      subst (Suffix (entries_of (after_push r) after)) (sym is)
      (subst (λ (h : List Entry). Suffix h (trim_backup_history l (append_history carrier e numbered)).history) (sym newest)
      (trim_suffix l (append_history carrier e numbered)))
      in
      sym (ring_suffix (after_push r) answer.ring after suffix)

  pub send_remembered : {used u v w : List ℕ} (ring : HistoryRing) → ring ≡ after_push r → FrontFreed r (max_history - 1) before.history used u
      → Taken e.cell u v → FrontFreed ring answer.ring.length after.history v w
      → SendFollows e.cell (entries_of r before) used (entries_of answer.ring after) w
  unfolding with_newest
  send_remembered {used} {u} {v} {w} ring is evicted taken trimmed =
      let h : List Entry = entries_of r before in
      let size : length h ≡ r.length = tab_length r.length (entry_at r before) in
      let room : List Entry = if_true leb max_history (length h) then drop 1 h else h in
      let same : drop (r.length - (max_history - 1)) h ≡ room =
      ap (λ (n : ℕ). drop (n - (max_history - 1)) h) (sym size) ∙ room_made h (omega arith)
      in
      let gone : TrimFollows (entries_of (after_push r) after) v (entries_of answer.ring after) w =
      trim_as (sym left_of_newest)
      (subst
      (λ (q : HistoryRing).
      TrimFollows (entries_of q after) v (drop (q.length - answer.ring.length) (entries_of q after)) w)
      is (trimmed.follows after refl))
      in
      let joined : SendFollows e.cell room u (entries_of (after_push r) after) v =
      subst (λ (k : List Entry). SendFollows e.cell room u k v) (sym newest) (newest_taken e room u v taken)
      in
      trim_then_send (trim_as same (evicted.follows before refl)) (send_then_trim joined gone)
