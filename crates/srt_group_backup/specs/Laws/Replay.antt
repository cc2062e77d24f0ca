-- What is proved of the definitions in specs/Replay.antt, with what the proofs need.
use Rattle.std.specs.Prelude.{◌≡◌, refl, Bool, ℕ, ◌+◌, ◌*◌, ◌≤◌, ◌<◌, length, drop, Err, None, Ok, Option, Some}
use Rattle.std.proofs.Math.Path.{ap, sym}
use Rattle.srt_protocol.specs.Errors.{Outcome, outcome_number}
use Rattle.srt_protocol.specs.declared.error.Error.TheVariants.{ReplayRefused}
use Rattle.std.proofs.Common.{◌∙◌, add-one, arith}
use Rattle.std.proofs.Math.Bool.{true, false}
use mathlib.Core.List.{List, [], ◌∷◌, ◌++◌, append_assoc, append-nil}
use Rattle.srt_group_model.specs.Tools.{if_true◌then◌else◌, if_some◌give◌otherwise◌}
use Rattle.srt_group_model.specs.Sending.{sent_row_size, Sent}
use Rattle.srt_group_model.specs.Backup.{max_history, replay_entries}
use Rattle.srt_group_model.specs.Backup as backup
use Rattle.srt_group_model.specs.declared.Entry.{Entry}
use Rattle.srt_group_model.specs.declared.Leg.{Leg}
use Rattle.srt_connection.specs.Laws.Answers.{result_ok, result_err}
use Rattle.srt_group_members.specs.Laws.Scan.{tab_next, tab_ended}
use Rattle.srt_group_tables.specs.Ring.{Arrays, entry_at, entries_of}
use Rattle.srt_group_tables.specs.declared.history.HistoryRing.{HistoryRing}
use Rattle.srt_group_sending.specs.SentList.{Wrote}
use Rattle.srt_group_sending.specs.Laws.SentList.{wrote_nothing, wrote_length, wrote_then}
use Rattle.srt_group_backup.specs.Replay.{replayed_sent, entry_send, EntryReplayed, EntriesReplayed}

-- ---- one entry

module _ (time id : ℕ) (e : Entry) (l : Leg) (sent : ℕ) (before : List ℕ) {result : Option Leg} (is : result ≡ entry_send time e l) where
  pub entry_failed : result ≡ None → EntryReplayed time id e l sent before None before
  unfolding if_some◌give◌otherwise◌
  entry_failed err = record { outcome = sym err ∙ is; list = sym (rw (result_err (entry_send time e l) (sym err ∙ is))) }

  pub entry_sent : {after : List ℕ} (k : Leg) → result ≡ Some k
      → Wrote sent (replayed_sent time id e ∷ []) before (sent + 1) after → EntryReplayed time id e l sent before (Some k) after
  unfolding if_some◌give◌otherwise◌
  entry_sent k ok wrote = record { outcome = sym ok ∙ is; list = wrote.is ∙ sym (rw (result_ok (entry_send time e l) k (sym ok ∙ is))) }

-- ---- the loop

-- these sends, and then those of the rest of a replay
abbrev with_sends : List Sent → backup.Replayed → backup.Replayed
with_sends sends r = record { leg = r.leg; sends = sends; whole = r.whole }

abbrev pub sends_before : List Sent → backup.Replayed → backup.Replayed
sends_before sends r = with_sends (sends ++ r.sends) r

module _ (time id : ℕ) (e : Entry) (es : List Entry) (l : Leg) where
  replay_goes_on : (k : Leg) → entry_send time e l ≡ Some k
      → replay_entries time id (e ∷ es) l ≡ sends_before (replayed_sent time id e ∷ []) (replay_entries time id es k)
  unfolding replay_entries if_some◌give◌otherwise◌
  replay_goes_on k succeeds = rw succeeds

  replay_ends : entry_send time e l ≡ None → replay_entries time id (e ∷ es) l ≡ record { leg = l; sends = []; whole = false }
  unfolding replay_entries if_some◌give◌otherwise◌
  replay_ends failed = rw failed

replay_of_none : (time id : ℕ) (l : Leg) → replay_entries time id [] l ≡ record { leg = l; sends = []; whole = true }
unfolding replay_entries
replay_of_none time id l = refl

-- no sends are left
no_more : (sends : List Sent) (l : Leg) (whole : Bool)
    → sends_before sends record { leg = l; sends = []; whole = whole } ≡ record { leg = l; sends = sends; whole = whole }
no_more sends l whole = ap (λ (ss : List Sent). with_sends ss record { leg = l; sends = []; whole = whole }) (append-nil sends)

replay_as : (time id : ℕ) (es : List Entry) (l : Leg) (sent : ℕ) (before : List ℕ) (here : Leg) (whole : Bool) (sends : List Sent)
    (n : ℕ) (after : List ℕ) (outcome : Outcome) → outcome_number outcome ≡ (if_true whole then 0 else 28)
    → replay_entries time id es l ≡ record { leg = here; sends = sends; whole = whole } → Wrote sent sends before n after → n ≤ sent + max_history
    → EntriesReplayed time id es l sent before record { outcome = outcome; state = here; sent = n } after
replay_as time id es l sent before here whole sends n after outcome code same written few =
    record {
      outcome = code ∙ sym (ap (λ (x : backup.Replayed). if_true x.whole then 0 else 28) same);
      leg = sym (ap (λ (x : backup.Replayed). x.leg) same);
      written = rw same written;
      few = few;
    }

-- so many entries were sent: what is left of them, on the leg as it is now, gives with their sends what all give
pub record Replaying (time id : ℕ) (es : List Entry) (l : Leg) (sent : ℕ) (before : List ℕ) (here : Leg) (index : ℕ) (list : List ℕ) : Type 0 where
  pub sends : List Sent
  pub same : replay_entries time id es l ≡ sends_before sends (replay_entries time id (drop index es) here)
  pub long : length list ≡ length before
  pub written : Wrote sent sends before (sent + index) list

pub replaying_start : (time id : ℕ) (es : List Entry) (l : Leg) (sent : ℕ) (before : List ℕ) → Replaying time id es l sent before l 0 before
replaying_start time id es l sent before =
    record {
      sends = [];
      same = refl;
      long = refl;
      written = let none_more : sent + 0 ≡ sent = omega arith in rw none_more (wrote_nothing sent before);
    }

module _ (time id : ℕ) (r : HistoryRing) (a : Arrays) (l : Leg) (sent : ℕ) (before : List ℕ) (here : Leg) (index : ℕ) (list : List ℕ)
    (so_far : Replaying time id (entries_of r a) l sent before here index list) where
  rest_next : index < r.length → drop index (entries_of r a) ≡ entry_at r a index ∷ drop (index + 1) (entries_of r a)
  rest_next more =
      tab_next index r.length (entry_at r a) more
      ∙ ap (λ (j : ℕ). entry_at r a index ∷ drop j (entries_of r a)) (sym (add-one index))

  module _ {e : Entry} {result : Option Leg} {after : List ℕ} (entry : e ≡ entry_at r a index)
      (replayed : EntryReplayed time id e here (sent + index) list result after) where
    pub replaying_on : (k : Leg) → index < r.length → (sent + index) * sent_row_size + sent_row_size ≤ length list → result ≡ Some k
        → Replaying time id (entries_of r a) l sent before k (index + 1) after
    unfolding if_some◌give◌otherwise◌
    replaying_on k more room ok =
        record {
          sends = so_far.sends ++ (replayed_sent time id e ∷ []);
          same = whole_same;
          long = wrote_length row_written (omega arith) ∙ so_far.long;
          written = wrote_then so_far.written (omega (arith, so_far.long)) row_written;
        }
      where
        succeeds : entry_send time e here ≡ Some k
        succeeds = result_ok (entry_send time e here) k (sym ok ∙ replayed.outcome)

        row_written : Wrote (sent + index) (replayed_sent time id e ∷ []) list (sent + (index + 1)) after
        row_written =
            record { count = omega arith; is = replayed.list ∙ rw succeeds }

        whole_same : replay_entries time id (entries_of r a) l
            ≡ sends_before (so_far.sends ++ (replayed_sent time id e ∷ [])) (replay_entries time id (drop (index + 1) (entries_of r a)) k)
        whole_same =
            so_far.same
            ∙ ap (λ (es : List Entry). sends_before so_far.sends (replay_entries time id es here))
            (rest_next more ∙ ap (λ (x : Entry). x ∷ drop (index + 1) (entries_of r a)) (sym entry))
            ∙ ap (sends_before so_far.sends) (replay_goes_on time id e (drop (index + 1) (entries_of r a)) here k succeeds)
            ∙ ap (λ (ss : List Sent). with_sends ss (replay_entries time id (drop (index + 1) (entries_of r a)) k))
            (sym
            (append_assoc so_far.sends (replayed_sent time id e ∷ [])
            (replay_entries time id (drop (index + 1) (entries_of r a)) k).sends))

    pub replay_stopped : index < r.length → r.length ≤ max_history → result ≡ None
        → EntriesReplayed time id (entries_of r a) l sent before record { outcome = Err ReplayRefused; state = here; sent = sent + index } after
    unfolding if_some◌give◌otherwise◌ if_true◌then◌else◌
    replay_stopped more fits err =
        rw same_list
        (replay_as time id (entries_of r a) l sent before here false so_far.sends (sent + index) list (Err ReplayRefused) refl whole_same
        so_far.written (omega arith))
      where
        failed : entry_send time e here ≡ None
        failed = result_err (entry_send time e here) (sym err ∙ replayed.outcome)

        same_list : after ≡ list
        same_list = replayed.list ∙ rw failed

        whole_same : replay_entries time id (entries_of r a) l ≡ record { leg = here; sends = so_far.sends; whole = false }
        whole_same =
            so_far.same
            ∙ ap (λ (es : List Entry). sends_before so_far.sends (replay_entries time id es here))
            (rest_next more ∙ ap (λ (x : Entry). x ∷ drop (index + 1) (entries_of r a)) (sym entry))
            ∙ ap (sends_before so_far.sends) (replay_ends time id e (drop (index + 1) (entries_of r a)) here failed)
            ∙ no_more so_far.sends here false

  pub replay_done : r.length ≤ index → index ≤ max_history
      → EntriesReplayed time id (entries_of r a) l sent before record { outcome = Ok tt; state = here; sent = sent + index } list
  unfolding if_true◌then◌else◌
  replay_done all fits =
      replay_as time id (entries_of r a) l sent before here true so_far.sends (sent + index) list (Ok tt) refl whole_same so_far.written (omega arith)
    where
      whole_same : replay_entries time id (entries_of r a) l ≡ record { leg = here; sends = so_far.sends; whole = true }
      whole_same =
          so_far.same
          ∙ ap (λ (es : List Entry). sends_before so_far.sends (replay_entries time id es here))
          (tab_ended index r.length (entry_at r a) all)
          ∙ ap (sends_before so_far.sends) (replay_of_none time id here)
          ∙ no_more so_far.sends here true
