-- A group's rows and its calls, row by row: the row of a call prints what the call gives, the others are refused. From that: the clerk is
-- told the same by the printed lines as by the calls, the packets printed are those delivered, and the store is one.
use Rattle.std.specs.Prelude.{◌≡◌, refl, Bool, ◌&&◌, ℕ, ◌-◌, ◌≤◌, eqb, length, None, Option, Some}
use Rattle.std.proofs.Math.Path.{sym, ap, subst}
use Rattle.std.proofs.Common.{◌∙◌, inl, inr, ⊎_elim, arith}
use Rattle.std.proofs.Math.Bool.{true, false, not}
use mathlib.Core.List.{List, [], ◌∷◌, ◌++◌}
use Rattle.srt_group_model.specs.Tools.{if_true◌then◌else◌, if_some◌give◌otherwise◌, each, All}
use Rattle.srt_group_model.specs.State.{State}
use Rattle.srt_group_model.specs.Run.{Mark}
use Rattle.srt_group_model.specs.Removal.{retire, take_out}
use Rattle.srt_group_model.specs.Guards.{Answer, data_polled}
use Rattle.srt_group_model.specs.Lent.{Call, call_poll_data, delivered_by, perform, with_bytes}
use Rattle.srt_group_model.specs.Answers.{CallAnswers}
use Rattle.srt_group_model.specs.Listing.{Line, column, store_length, columns, tell, replay_from, Told as ToldLine}
use Rattle.srt_group_model.specs.Laws.Reason.{if_elim, when_true, when_false, by_test, not_both, and_yes}
use Rattle.srt_group_model.specs.Laws.CallLaw.{Calling, Polls, CallLaw}
use Rattle.srt_group_model.specs.Laws.EveryCall.{call_keeps}
use Rattle.srt_group_model.specs.Laws.Answers.{call_answers}
use Rattle.srt_group_model.specs.Laws.Midway.{refused_stays}
use Rattle.srt_group_model.specs.Laws.Refusals.{call_ends}
use Rattle.srt_group_model.specs.declared.Packet.{Packet}
use Rattle.srt_group_traces.specs.Statement.{Asked, do_call, is_poll, Delivery, delivery_of, given_by, state_after, deliveries, skipped_in, Told, told_by, clerk, give_next, pass_to, OneStore, store_left}
use Rattle.srt_group_traces.specs.ShortSchedule.{Scheduled, QueuesNone, QueuesScheduled, AllScheduled}
use Rattle.srt_group_traces.specs.Listings.{Row, beside, is_accepted, Heading, prints_packet, packets_of, told_of, last_told, heading, BringsScheduled, NamesFirst, call_of, lending, asking, calls_from, printed_by}
use Rattle.srt_group_traces.specs.Laws.Cases.{by_option, eq_of}
use Rattle.srt_group_traces.specs.Laws.Calls.{step, others_give_none, polls_is_poll}
use Rattle.srt_group_traces.specs.Laws.Bytes.{giving_is_accepted}
use Rattle.srt_group_traces.specs.Laws.StoreKept.{store_as_long, left_is_lent}
use Rattle.srt_group_traces.specs.Laws.FirstSequence.{AddsNamed}
use Rattle.srt_group_traces.specs.Laws.LineCalls.{Passes, QueuesLine, AddsLine, line_is_call, polls_by_verb, poll_of_verb, queues_by_verb, adds_by_verb, no_call_passes}

-- ---- a call that does not poll leaves the skipped count

abbrev SkippedIs : ℕ → Option ℕ → State → List Mark → Type 0
SkippedIs n hand s log = skipped_in s ≡ n

skipped_law : (k : Calling) (n : ℕ) → (Polls k.call → ⊥) → CallLaw k (SkippedIs n)
unfolding take_out retire
skipped_law k n no_poll =
    record {
      refreshing = record { moves = λ s i m f at move h. h; binds = λ s i m at a unbound h. h; sets_base = λ s b e source h. h };
      collecting = λ poll. absurd (no_poll poll);
      polling = λ poll. absurd (no_poll poll);
      joins = λ s id weight l queue is j h. h;
      leaves = λ s i m is at h. h;
      retires = λ s id base p is e h. h;
      takes = λ payload takes free h. h;
      puts = λ s cell payload takes accepted short unused h. h;
      lets_go = λ s cell h. h;
      queues_data = λ s i m cell d payload is accepted at full unfit short h. h;
      queues_event = λ s i m id kind reason is at full some_kind known fits h. h;
      numbers = λ s sequence h. h;
      remembers = λ s i m e at next short fits h. h;
      trims = λ s l h. h;
    }

unpolled_skips_nothing : (asked : Asked) (s : State) → is_poll asked.call ≡ false → skipped_in (do_call asked s).state ≡ skipped_in s
unfolding do_call
unpolled_skips_nothing asked s e =
    call_keeps (SkippedIs (skipped_in s)) asked.call asked.lent s
    (skipped_law _ (skipped_in s) (λ poll. not_both (polls_is_poll poll).0 e)) refl

-- ---- what the row of a call says

-- the columns of a packet, or of none
abbrev sequence_in : Option Packet → ℕ
sequence_in None = 0
sequence_in (Some p) = p.content.sequence

abbrev count_in : Option Packet → ℕ
count_in None = 0
count_in (Some p) = p.content.count

-- a row that tells the clerk nothing: its call gave no packet and left the skipped count; or the row of an accepted poll
data Says (asked : Asked) (s : State) (row : Row) : Type 0 where
  nothing_told : is_accepted 5 row ≡ false → delivered_by (do_call asked s).answer ≡ None → skipped_in (do_call asked s).state ≡ skipped_in s → Says asked s row
  poll_told : (o : Option Packet) → delivered_by (do_call asked s).answer ≡ o → is_accepted 5 row ≡ true → column 3 row.output ≡ sequence_in o
      → column 4 row.output ≡ count_in o
      → column 5 row.output ≡ skipped_in (do_call asked s).state
      → Says asked s row

and_no : (a b : Bool) → b ≡ false → a && b ≡ false
and_no true b e = e
and_no false b e = refl

not_left : (a b : Bool) → a ≡ false → a && b ≡ false
not_left true b e = not_both {t = true} refl e
not_left false b e = refl

-- of a printed result
module _ (verb : ℕ) (store : List ℕ) (call : Call) (s : State) where
  abbrev pub asked : Asked
  asked = asking store call

  abbrev pub row_of : Line → Row
  row_of line = record { input = line; output = printed_by verb (do_call asked s) }

  printed_verb : column 0 (printed_by verb (do_call asked s)) ≡ verb
  unfolding printed_by
  printed_verb = if_elim (λ (out : List ℕ). column 0 out ≡ verb) (eqb (do_call asked s).code 0) _ _ (λ e. refl) (λ e. refl)

  printed_code : column 1 (printed_by verb (do_call asked s)) ≡ (do_call asked s).code
  unfolding printed_by
  printed_code =
      if_elim (λ (out : List ℕ). column 1 out ≡ (do_call asked s).code) (eqb (do_call asked s).code 0) _ _ (λ e. sym (eq_of _ 0 e)) (λ e. refl)

  pub accepted_as : (n : ℕ) (line : Line) → is_accepted n (row_of line) ≡ (eqb verb n && eqb (do_call asked s).code 0)
  accepted_as n line = λ i. eqb (printed_verb i) n && eqb (printed_code i) 0

-- a refused call gives no packet, and leaves the skipped count
refused_gives_none : (asked : Asked) (s : State) → ((do_call asked s).code ≡ 0 → ⊥) → delivered_by (do_call asked s).answer ≡ None
unfolding do_call perform with_bytes
refused_gives_none asked s refused =
    by_option (delivered_by (step asked s).answer) (λ e. e)
    (λ p e. absurd (refused (giving_is_accepted s (step asked s) p (call_ends _ _ _ asked.call s) e)))

refused_skips_nothing : (asked : Asked) (s : State) → ((do_call asked s).code ≡ 0 → ⊥) → skipped_in (do_call asked s).state ≡ skipped_in s
unfolding do_call
refused_skips_nothing asked s refused = (refused_stays asked.call asked.lent s refused).skipped

not_zero : (n : ℕ) → eqb n 0 ≡ false → n ≡ 0 → ⊥
not_zero n e is = not_both (ap (λ (m : ℕ). eqb m 0) is) e

-- the answer of an accepted data poll, and its columns
poll_columns : (verb : ℕ) (store : List ℕ) (call : Call) (s : State) (line : Line) (o : Option Packet) (more : Bool)
    → is_accepted 5 (row_of verb store call s line) ≡ true
    → (do_call (asking store call) s).code ≡ 0 → (do_call (asking store call) s).answer ≡ data_polled o more
    → Says (asking store call) s (row_of verb store call s line)
unfolding printed_by delivered_by columns if_true◌then◌else◌
poll_columns verb store call s line None more accepted zero_code answer =
    let r = do_call (asking store call) s in
    let out : printed_by verb r ≡ verb ∷ 0 ∷ columns (data_polled None more) r.state =
    when_true (eqb r.code 0) _ _ (ap (λ (n : ℕ). eqb n 0) zero_code) ∙ ap (λ (a : Answer). verb ∷ 0 ∷ columns a r.state) answer in
    poll_told None (ap delivered_by answer) accepted (ap (column 3) out) (ap (column 4) out) (ap (column 5) out)
poll_columns verb store call s line (Some p) more accepted zero_code answer =
    let r = do_call (asking store call) s in
    let out : printed_by verb r ≡ verb ∷ 0 ∷ columns (data_polled (Some p) more) r.state =
    when_true (eqb r.code 0) _ _ (ap (λ (n : ℕ). eqb n 0) zero_code) ∙ ap (λ (a : Answer). verb ∷ 0 ∷ columns a r.state) answer in
    poll_told (Some p) (ap delivered_by answer) accepted (ap (column 3) out) (ap (column 4) out) (ap (column 5) out)

says_by : (line : Line) (store : List ℕ) (call : Call) (s : State) → call_of line ≡ Some call → (poll zero_code : Bool) → is_poll call ≡ poll
    → eqb (do_call (asking store call) s).code 0 ≡ zero_code
    → Says (asking store call) s (row_of (column 0 line) store call s line)
unfolding do_call perform with_bytes
says_by line store call s is false zero_code poll code =
    nothing_told
    (accepted_as (column 0 line) store call s 5 line ∙ not_left _ _ (sym (polls_by_verb line call is) ∙ poll))
    (others_give_none _ _ _ call s poll) (unpolled_skips_nothing (asking store call) s poll)
says_by line store call s is true false poll code =
    let refused : (do_call (asking store call) s).code ≡ 0 → ⊥ = not_zero _ code in
    nothing_told (accepted_as (column 0 line) store call s 5 line ∙ and_no (eqb (column 0 line) 5) _ code) (refused_gives_none (asking store call) s refused)
    (refused_skips_nothing (asking store call) s refused)
says_by line store call s is true true poll code =
    let accepted : (do_call (asking store call) s).code ≡ 0 = eq_of _ 0 code in
    let answered : CallAnswers (call_poll_data (column 1 line)) s (do_call (asking store call) s).answer =
    subst (λ (c : Call). CallAnswers c s (do_call (asking store call) s).answer) (poll_of_verb line call is poll)
    (call_answers call (asking store call).lent s accepted)
    in
    poll_columns (column 0 line) store call s line answered.0 answered.1
    (accepted_as (column 0 line) store call s 5 line ∙ λ i. (sym (polls_by_verb line call is) ∙ poll) i && code i) accepted answered.2

says : (line : Line) (store : List ℕ) (call : Call) (s : State) → call_of line ≡ Some call → Says (asking store call) s (row_of (column 0 line) store call s line)
says line store call s is = says_by line store call s is (is_poll call) _ refl refl

-- ---- rows and calls, one by one

-- The rows and the calls, from a store and a state on: a row is refused and no call, or prints what its call gives.
pub data Runs : List ℕ → State → List Row → List Asked → Type 0 where
  ends : {store : List ℕ} {s : State} → Runs store s [] []
  passes : {store : List ℕ} {s : State} {rows : List Row} {calls : List Asked} (row : Row) → eqb (column 1 row.output) 0 ≡ false
      → Runs store s rows calls
      → Runs store s (row ∷ rows) calls
  goes_on : {store : List ℕ} {s : State} {rows : List Row} {calls : List Asked} (line : Line) (call : Call) → call_of line ≡ Some call
      → Runs (do_call (asking store call) s).lent.store (do_call (asking store call) s).state rows calls
      → Runs store s (row_of (column 0 line) store call s line ∷ rows) (asking store call ∷ calls)

-- a listing's rows from a group on
abbrev pub rows_from : Option State → List Line → List Row
rows_from s lines = beside lines (replay_from s lines)

-- no row of these is an accepted verb 1
abbrev pub OneGroup : List Row → Type 0
OneGroup = All (λ (row : Row). is_accepted 1 row ≡ false)

-- the calls of a line, by what it is, and of those after it
abbrev calls_after : List ℕ → State → List Line → Option Call → List Asked
calls_after store s lines o =
    if_some o
    give
    (λ call. asking store call ∷ calls_from (do_call (asking store call) s).lent.store (do_call (asking store call) s).state lines)
    otherwise calls_from store s lines

-- the row of a line, by what is told of it, and those after it
abbrev rows_after : Line → List Line → ToldLine → List Row
rows_after line lines told = record { input = line; output = told.line } ∷ rows_from told.group lines

module _ (line : Line) (lines : List Line) (store : List ℕ) (s : State) where
  run_passed : call_of line ≡ None → OneGroup (rows_after line lines (tell (column 0 line) line (Some s)))
      → (OneGroup (rows_from (Some s) lines) → Runs store s (rows_from (Some s) lines) (calls_from store s lines))
      → Runs store s (rows_after line lines (tell (column 0 line) line (Some s))) (calls_after store s lines (call_of line))
  unfolding if_some◌give◌otherwise◌
  run_passed e one again =
      let told : ToldLine = tell (column 0 line) line (Some s) in
      let stays : Passes s told = no_call_passes line s e one.0 in
      subst (λ (o : Option Call). Runs store s (rows_after line lines told) (calls_after store s lines o)) (sym e)
      (passes _ stays.refused
      (subst (λ (g : Option State). Runs store s (rows_from g lines) (calls_from store s lines)) (sym stays.group)
      (again (subst (λ (g : Option State). OneGroup (rows_from g lines)) stays.group one.1))))

  run_called : (call : Call) → length store ≡ store_length → call_of line ≡ Some call → OneGroup (rows_after line lines (tell (column 0 line) line (Some s)))
      → (OneGroup (rows_from (Some (do_call (asking store call) s).state) lines)
      → Runs (do_call (asking store call) s).lent.store (do_call (asking store call) s).state (rows_from (Some (do_call (asking store call) s).state) lines)
      (calls_from (do_call (asking store call) s).lent.store (do_call (asking store call) s).state lines))
      → Runs store s (rows_after line lines (tell (column 0 line) line (Some s))) (calls_after store s lines (call_of line))
  unfolding if_some◌give◌otherwise◌
  run_called call long e one again =
      let is = line_is_call line call store s long e in
      subst (λ (o : Option Call). Runs store s (rows_after line lines (tell (column 0 line) line (Some s))) (calls_after store s lines o)) (sym e)
      (subst (λ (told : ToldLine). Runs store s (rows_after line lines told) (calls_after store s lines (Some call))) (sym is)
      (goes_on line call e (again (subst (λ (told : ToldLine). OneGroup (rows_after line lines told)) is one).1)))

lent_store : (store : List ℕ) → (lending store).store ≡ store
unfolding lending
lent_store store = refl

pub store_stays_long : (store : List ℕ) (call : Call) (s : State) → length store ≡ store_length → length (do_call (asking store call) s).lent.store ≡ store_length
store_stays_long store call s long = store_as_long (asking store call) s ∙ ap length (lent_store store) ∙ long

pub runs : (lines : List Line) (store : List ℕ) (s : State) → length store ≡ store_length → OneGroup (rows_from (Some s) lines)
    → Runs store s (rows_from (Some s) lines) (calls_from store s lines)
unfolding beside replay_from calls_from
runs [] store s long one = ends
runs (line ∷ lines) store s long one =
    by_option (call_of line) (λ e. run_passed line lines store s e one (runs lines store s long))
    (λ call e.
    run_called line lines store s call long e one
    (runs lines (do_call (asking store call) s).lent.store (do_call (asking store call) s).state (store_stays_long store call s long)))

-- ---- one store

pub runs_one_store : {store : List ℕ} {s : State} {rows : List Row} {calls : List Asked} → Runs store s rows calls → OneStore store calls s
runs_one_store ends = tt
runs_one_store (passes row refused more) = runs_one_store more
runs_one_store (goes_on {store = store} {s = s} {calls = calls} line call is more) = (
  (λ lent accepted. lent_store store),
  subst (λ (z : List ℕ). OneStore z calls (do_call (asking store call) s).state)
      (sym (ap (λ (z : List ℕ). store_left z (asking store call) s) (sym (lent_store store)) ∙ left_is_lent (asking store call) s)) (runs_one_store more),
)

-- ---- the clerk is told the same

-- every packet delivered has a count
abbrev pub Counted : List Delivery → Type 0
Counted = All (λ (x : Delivery). 1 ≤ x.count)

-- a row that tells nothing
told_nothing : (row : Row) (rows : List Row) → is_accepted 5 row ≡ false → told_of (row ∷ rows) ≡ told_of rows
unfolding told_of
told_nothing row rows e = when_false (is_accepted 5 row) _ _ e

prints_nothing : (row : Row) (rows : List Row) → prints_packet row ≡ false → packets_of (row ∷ rows) ≡ packets_of rows
unfolding packets_of
prints_nothing row rows e = when_false (prints_packet row) _ _ e

-- what a call tells by itself
abbrev told_after : Asked → State → Told
told_after asked s =
    record {
      skipped = skipped_in (do_call asked s).state;
      delivered = if_some delivered_by (do_call asked s).answer give (λ p. true) otherwise false;
    }

clerk_passes : (ahead : List Delivery) (known : ℕ) (told : Told) (more : List Told) → told.delivered ≡ false
    → clerk ahead known (told ∷ more) ≡ clerk ahead told.skipped more
unfolding clerk
clerk_passes ahead known told more e = when_false told.delivered _ _ e

clerk_same : (ahead : List Delivery) (known : ℕ) (told : Told) (x y : List Told)
    → ((ahead : List Delivery) → clerk ahead told.skipped x ≡ clerk ahead told.skipped y)
    → clerk ahead known (told ∷ x) ≡ clerk ahead known (told ∷ y)
unfolding clerk
clerk_same ahead known told x y h =
    λ i. if_true told.delivered then give_next (pass_to ahead (told.skipped - known)) (λ xs. h xs i) else h ahead i

-- The printed rows read as the calls: by the clerk, packet by packet, and the last skipped total.
pub record Reads (s : State) (rows : List Row) (calls : List Asked) : Type 0 where
  pub clerks : (ahead : List Delivery) → clerk ahead (skipped_in s) (told_of rows) ≡ clerk ahead (skipped_in s) (told_by calls s)
  pub packets : packets_of rows ≡ each heading (deliveries calls s)
  pub last : last_told (skipped_in s) (told_of rows) ≡ skipped_in (state_after calls s)

reads_refused : (s : State) (row : Row) (rows : List Row) (calls : List Asked) → is_accepted 5 row ≡ false → Reads s rows calls → Reads s (row ∷ rows) calls
reads_refused s row rows calls e h =
    record {
      clerks = λ ahead. ap (clerk ahead (skipped_in s)) (told_nothing row rows e) ∙ h.clerks ahead;
      packets = prints_nothing row rows (not_left (is_accepted 5 row) _ e) ∙ h.packets;
      last = ap (last_told (skipped_in s)) (told_nothing row rows e) ∙ h.last;
    }

counted_not_zero : (n : ℕ) → 1 ≤ n → not (eqb n 0) ≡ true
counted_not_zero n h = by_test (eqb n 0) (λ e. absurd (omega (arith, h, eq_of n 0 e))) (λ e. ap not e)

all_behind : (x y : List Delivery) → Counted (x ++ y) → Counted y
all_behind [] y h = h
all_behind (d ∷ x) y h = all_behind x y h.1

each_append : (x y : List Delivery) → each heading (x ++ y) ≡ each heading x ++ each heading y
unfolding each
each_append [] y = refl
each_append (d ∷ x) y = ap (λ (l : List Heading). heading d ∷ l) (each_append x y)

-- what a call delivers, by its packet
abbrev delivered_then : Asked → State → List Asked → Option Packet → List Delivery
delivered_then asked s calls o =
    (if_some o give (λ p. delivery_of p (do_call asked s).lent.output ∷ []) otherwise []) ++ deliveries calls (do_call asked s).state

module _ (asked : Asked) (s : State) (row : Row) (rows : List Row) (calls : List Asked) where
  abbrev after : State
  after = (do_call asked s).state

  reads_nothing : is_accepted 5 row ≡ false → delivered_by (do_call asked s).answer ≡ None → skipped_in after ≡ skipped_in s
      → (Counted (deliveries calls after) → Reads after rows calls)
      → Counted (deliveries (asked ∷ calls) s)
      → Reads s (row ∷ rows) (asked ∷ calls)
  unfolding deliveries given_by told_by state_after if_some◌give◌otherwise◌
  reads_nothing e none_given same again counted =
      let given : deliveries (asked ∷ calls) s ≡ deliveries calls after = ap (delivered_then asked s calls) none_given in
      let h : Reads after rows calls = again (subst Counted given counted) in
      record {
        clerks =
            λ ahead.
            ap (clerk ahead (skipped_in s)) (told_nothing row rows e)
            ∙ ap (λ (n : ℕ). clerk ahead n (told_of rows)) (sym same)
            ∙ h.clerks ahead
            ∙ sym (clerk_passes ahead (skipped_in s) (told_after asked s) (told_by calls after) (ap (λ (o : Option Packet). if_some o give (λ p. true) otherwise false) none_given));
        packets = prints_nothing row rows (not_left (is_accepted 5 row) _ e) ∙ h.packets ∙ ap (each heading) (sym given);
        last =
            ap (last_told (skipped_in s)) (told_nothing row rows e) ∙ ap (λ (n : ℕ). last_told n (told_of rows)) (sym same) ∙ h.last;
      }

  reads_poll : is_accepted 5 row ≡ true → column 5 row.output ≡ skipped_in after
      → prints_packet row ≡ (told_after asked s).delivered
      → packets_of (row ∷ rows) ≡ each heading (given_by (do_call asked s)) ++ packets_of rows
      → (Counted (deliveries calls after) → Reads after rows calls)
      → Counted (deliveries (asked ∷ calls) s)
      → Reads s (row ∷ rows) (asked ∷ calls)
  unfolding deliveries told_by told_of last_told state_after
  reads_poll e skipped gives printed again counted =
      let h : Reads after rows calls = again (all_behind (given_by (do_call asked s)) (deliveries calls after) counted) in
      let told : told_of (row ∷ rows) ≡ told_after asked s ∷ told_of rows =
      when_true (is_accepted 5 row) _ _ e ∙ (λ i. record { skipped = skipped i; delivered = gives i } ∷ told_of rows)
      in
      record {
        clerks =
            λ ahead.
            ap (clerk ahead (skipped_in s)) told
            ∙ clerk_same ahead (skipped_in s) (told_after asked s) (told_of rows) (told_by calls after) h.clerks;
        packets =
            printed ∙ ap (λ (l : List Heading). each heading (given_by (do_call asked s)) ++ l) h.packets
            ∙ sym (each_append (given_by (do_call asked s)) (deliveries calls after));
        last = ap (last_told (skipped_in s)) told ∙ h.last;
      }

  prints_none : is_accepted 5 row ≡ true → delivered_by (do_call asked s).answer ≡ None → column 4 row.output ≡ 0
      → (prints_packet row ≡ (told_after asked s).delivered) × (packets_of (row ∷ rows) ≡ each heading (given_by (do_call asked s)) ++ packets_of rows)
  unfolding given_by each if_some◌give◌otherwise◌
  prints_none e none_given no_count =
      let silent : prints_packet row ≡ false = and_no (is_accepted 5 row) _ (ap (λ (n : ℕ). not (eqb n 0)) no_count) in (
        silent ∙ sym (ap (λ (o : Option Packet). if_some o give (λ p. true) otherwise false) none_given),
        prints_nothing row rows silent
            ∙ sym
            (ap (λ (o : Option Packet). each heading (if_some o give (λ p. delivery_of p (do_call asked s).lent.output ∷ []) otherwise []) ++ packets_of rows) none_given),
      )

  prints_one : (p : Packet) → is_accepted 5 row ≡ true → delivered_by (do_call asked s).answer ≡ Some p → column 3 row.output ≡ p.content.sequence
      → column 4 row.output ≡ p.content.count
      → Counted (deliveries (asked ∷ calls) s)
      → (prints_packet row ≡ (told_after asked s).delivered) × (packets_of (row ∷ rows) ≡ each heading (given_by (do_call asked s)) ++ packets_of rows)
  unfolding deliveries given_by each packets_of if_some◌give◌otherwise◌
  prints_one p e given sequence count counted =
      let counts : 1 ≤ p.content.count = (subst Counted (ap (delivered_then asked s calls) given) counted).0 in
      let some_count : not (eqb (column 4 row.output) 0) ≡ true = ap (λ (n : ℕ). not (eqb n 0)) count ∙ counted_not_zero p.content.count counts in
      let prints : prints_packet row ≡ true = and_yes (is_accepted 5 row) _ e some_count in (
        prints ∙ sym (ap (λ (o : Option Packet). if_some o give (λ p. true) otherwise false) given),
        when_true (prints_packet row) _ _ prints ∙ (λ i. record { sequence = sequence i; count = count i } ∷ packets_of rows)
            ∙ sym
            (ap (λ (o : Option Packet). each heading (if_some o give (λ p. delivery_of p (do_call asked s).lent.output ∷ []) otherwise []) ++ packets_of rows) given),
      )

  reads_call : Says asked s row → (Counted (deliveries calls after) → Reads after rows calls) → Counted (deliveries (asked ∷ calls) s)
      → Reads s (row ∷ rows) (asked ∷ calls)
  reads_call (nothing_told e none_given same) again counted = reads_nothing e none_given same again counted
  reads_call (poll_told None given e sequence count skipped) again counted =
      let p = prints_none e given count in reads_poll e skipped p.0 p.1 again counted
  reads_call (poll_told (Some x) given e sequence count skipped) again counted =
      let p = prints_one x e given sequence count counted in reads_poll e skipped p.0 p.1 again counted

pub runs_read : {store : List ℕ} {s : State} {rows : List Row} {calls : List Asked} → Runs store s rows calls → Counted (deliveries calls s) → Reads s rows calls
unfolding told_of told_by packets_of deliveries last_told state_after each
runs_read ends counted = record { clerks = λ ahead. refl; packets = refl; last = refl }
runs_read (passes {s = s} {rows = rows} {calls = calls} row refused more) counted =
    reads_refused s row rows calls (and_no (eqb (column 0 row.output) 5) _ refused) (runs_read more counted)
runs_read (goes_on {store = store} {s = s} {rows = rows} {calls = calls} line call is more) counted =
    reads_call (asking store call) s (row_of (column 0 line) store call s line) rows calls (says line store call s is) (λ k. runs_read more k) counted

-- ---- what is queued

pub runs_scheduled : (schedule : List Delivery) {store : List ℕ} {s : State} {rows : List Row} {calls : List Asked} → Runs store s rows calls
    → All (BringsScheduled schedule) rows
    → AllScheduled schedule calls s
runs_scheduled schedule ends h = tt
runs_scheduled schedule (passes row refused more) h = runs_scheduled schedule more h.1
runs_scheduled schedule (goes_on {store = store} {s = s} line call is more) h = (queued, runs_scheduled schedule more h.1)
  where
    queued : QueuesScheduled schedule (asking store call) s
    queued id d payload queues accepted =
        let q : QueuesLine line d payload (column 0 line) = queues_by_verb line call is id d payload queues in
        subst (Scheduled schedule) (sym q.packet)
        (h.0
        (accepted_as (column 0 line) store call s 4 line
        ∙ and_yes (eqb (column 0 line) 4) _ (ap (λ (n : ℕ). eqb n 4) q.verb_is) (ap (λ (n : ℕ). eqb n 0) accepted)))

abbrev pub NoData : List Row → Type 0
NoData = All (λ (row : Row). eqb (column 0 row.input) 4 ≡ false)

pub runs_no_data : {store : List ℕ} {s : State} {rows : List Row} {calls : List Asked} → Runs store s rows calls → NoData rows → All QueuesNone calls
runs_no_data ends h = tt
runs_no_data (passes row refused more) h = runs_no_data more h.1
runs_no_data (goes_on line call is more) h = (
  (λ id d payload queues. not_both (ap (λ (n : ℕ). eqb n 4) (queues_by_verb line call is id d payload queues).verb_is) h.0),
  runs_no_data more h.1,
)

-- each addition names a first sequence, or none
pub runs_firsts : (first : ℕ) {store : List ℕ} {s : State} {rows : List Row} {calls : List Asked} → Runs store s rows calls → All (NamesFirst first) rows
    → All (λ (asked : Asked). AddsNamed first asked.call) calls
runs_firsts first ends h = tt
runs_firsts first (passes row refused more) h = runs_firsts first more h.1
runs_firsts first (goes_on line call is more) h = (named, runs_firsts first more h.1)
  where
    named : AddsNamed first call
    named id weight l queue adds =
        let a : AddsLine line l (column 0 line) = adds_by_verb line call is id weight l queue adds in
        ⊎_elim (λ e. inl (a.first ∙ e)) (λ e. inr (a.first ∙ e)) (h.0 a.verb_is)

-- ---- rows cut in two

pub record Cut (store : List ℕ) (s : State) (x y : List Row) (calls : List Asked) : Type 0 where
  pub front : List Asked
  pub back : List Asked
  pub left : List ℕ
  pub is : calls ≡ front ++ back
  pub first_part : Runs store s x front
  pub second_part : Runs left (state_after front s) y back

pub runs_cut : (x y : List Row) {store : List ℕ} {s : State} {calls : List Asked} → Runs store s (x ++ y) calls → Cut store s x y calls
unfolding state_after
runs_cut [] y {store} {s} {calls} r = record { front = []; back = calls; left = store; is = refl; first_part = ends; second_part = r }
runs_cut (row ∷ x) y {store} {s} {calls} r = go (λ a b calls' more. runs_cut x y {store = a} {s = b} {calls = calls'} more) store s row calls r
  where
    -- one row more, by what is cut of the rows behind it
    go : ((a : List ℕ) (b : State) (calls' : List Asked) → Runs a b (x ++ y) calls' → Cut a b x y calls') → (store : List ℕ) (s : State) (row : Row) (calls : List Asked) → Runs store s (row ∷ (x ++ y)) calls → Cut store s (row ∷ x) y calls
    go behind store s _ calls (passes row refused more) =
        let c = behind _ _ _ more in
        record { front = c.front; back = c.back; left = c.left; is = c.is; first_part = passes row refused c.first_part; second_part = c.second_part }
    go behind store s _ _ (goes_on line call is more) =
        let c = behind _ _ _ more in
        record {
          front = asking store call ∷ c.front;
          back = c.back;
          left = c.left;
          is = ap (λ (l : List Asked). asking store call ∷ l) c.is;
          first_part = goes_on line call is c.first_part;
          second_part = c.second_part;
        }
