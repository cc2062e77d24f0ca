-- Demand 3 on a listing: the proof of specs/Listings.antt's record. A group's rows in a listing are what its lines replay from a new
-- group; their calls and they go hand in hand (ListingRows); and demand 3 holds of the calls.
use Rattle.std.specs.Prelude.{◌≡◌, refl, ◌⊎◌, true, false, ◌&&◌, ℕ, zero, suc, ◌+◌, eqb, length, None, Option, Some}
use Rattle.std.proofs.Common.{sym, ◌∙◌, inl, inr, ⊎_elim, arith}
use Rattle.std.proofs.Math.Path.{ap, subst}
use mathlib.Core.List.{List, [], ◌∷◌, ◌++◌, append_assoc}
use Rattle.std.proofs.lemmas.List.{length-replicate}
use Rattle.srt_protocol.specs.Sequence.{half}
use Rattle.srt_group_model.specs.Tools.{if_some◌give◌otherwise◌, at_place, each, total, All}
use Rattle.srt_group_model.specs.State.{State, next_receive_sequence, Making}
use Rattle.srt_group_model.specs.Legs.{connected, no_sequence}
use Rattle.srt_group_model.specs.Guards.{Step}
use Rattle.srt_group_model.specs.Calls.{new, new_code}
use Rattle.srt_group_model.specs.Lent.{Call, call_add_member, perform}
use Rattle.srt_group_model.specs.Listing.{Line, column, store_length, leg_of_line, printed, verbs, tell, tell_new, tell_verb, replay, replay_from, Told as ToldLine}
use Rattle.srt_group_model.specs.Laws.Reason.{if_elim, if_some_elim, by_test, not_both, and_left, and_right, some_inj, all_append}
use Rattle.srt_group_traces.specs.Statement.{Asked, do_call, Delivery, counts_of, state_after, deliveries, reached, place_of_base, Consecutive, pass_to, told_by, clerk, Fair, OneStore}
use Rattle.srt_group_traces.specs.ShortSchedule.{AllScheduled, QueuesNone}
use Rattle.srt_group_traces.specs.Listings.{Row, beside, rows_of, is_accepted, Part, Heading, place_of, heading, ReadByClerk, FairRows, call_of, lending, asking, calls_from, group_after, blank_store, making_of, calls_of, FairPart, ListingTheorem}
use Rattle.srt_group_traces.specs.Laws.Cases.{by_option, eq_of}
use Rattle.srt_group_traces.specs.Laws.Schedule.{sequence_at_place}
use Rattle.srt_group_traces.specs.Laws.ScheduleClaim.{schedule_claim}
use Rattle.srt_group_traces.specs.Laws.Gateways.{state_after_both}
use Rattle.srt_group_traces.specs.Laws.Corollaries.{InOrder, delivered_in_order}
use Rattle.srt_group_traces.specs.Laws.ShortSchedule.{short_schedule_is_fair}
use Rattle.srt_group_traces.specs.Laws.LineCalls.{line_is_call, addition_of_verb, no_call_passes}
use Rattle.srt_group_traces.specs.Laws.FirstSequence.{AddsNamed, base_is_first, addition_sets_base}
use Rattle.srt_group_traces.specs.Laws.ListingRows.{accepted_as, Runs, ends, passes, goes_on, rows_from, OneGroup, store_stays_long, runs, runs_one_store, Counted, Reads, runs_read, runs_scheduled, runs_no_data, runs_firsts, Cut, runs_cut}

-- ---- rows of a listing

abbrev inputs : List Row → List Line
inputs = each (λ (row : Row). row.input)

-- Rows that are a listing's, cut in two: the first are what their lines replay, the second a listing's again.
record RowsCut (s : Option State) (x y : List Row) : Type 0 where
  lines : List Line
  group : Option State
  front : x ≡ rows_from s (inputs x)
  back : y ≡ rows_from group lines

cons_none : {A : Type 0} (a : A) (l : List A) → ◌≡◌ {A = List A} [] (a ∷ l) → ⊥
cons_none a l e = let z : ◌≡◌ {A = ℕ} 0 1 = cc in omega arith

cut_rows : (lines : List Line) (s : Option State) (x y : List Row) → rows_from s lines ≡ x ++ y → RowsCut s x y
unfolding beside replay_from each
cut_rows lines s [] y e = record { lines = lines; group = s; front = refl; back = sym e }
cut_rows [] s (row ∷ x) y e = absurd (cons_none row (x ++ y) e)
cut_rows (line ∷ lines) s (row ∷ x) y e =
    let told : ToldLine = tell (column 0 line) line s in
    let here : Row = record { input = line; output = told.line } in
    let same : here ≡ row = cc in
    let more : rows_from told.group lines ≡ x ++ y = cc in
    let c : RowsCut told.group x y = cut_rows lines told.group x y more in
    record {
      lines = c.lines;
      group = c.group;
      front = subst (λ (r : Row). r ∷ x ≡ rows_from s (r.input ∷ inputs x)) same (ap (λ (l : List Row). here ∷ l) c.front);
      back = c.back;
    }

-- ---- an accepted verb 1 makes a new group

abbrev making_by : Line → Making
making_by line = record { id = column 1 line; mode = column 2 line; length = store_length }

abbrev row_told : Line → ToldLine → Row
row_told line told = record { input = line; output = told.line }

-- what is told of a line, if it prints an accepted verb 1
abbrev Makes : Line → ToldLine → Type 0
Makes line told = is_accepted 1 (row_told line told) ≡ true → told.group ≡ Some (new (making_by line))

new_makes : (line : Line) (s : Option State) → Makes line (tell_new line s)
unfolding tell_new
new_makes line s = if_elim (Makes line) (eqb (new_code (making_by line)) 0) _ _ (λ e h. refl) (λ e h. not_both (and_right true _ h) e)

-- another verb prints itself, or is refused
printed_first : (verb : ℕ) (step : Step) → column 0 (printed verb step) ≡ verb
unfolding printed
printed_first verb step = if_elim (λ (out : List ℕ). column 0 out ≡ verb) (eqb step.code 0) _ _ (λ e. refl) (λ e. refl)

other_makes : (line : Line) (verb : ℕ) (f : Line → State → Step) (s : Option State) → column 0 line ≡ suc (suc verb) → Makes line (tell_verb f line s)
unfolding tell_verb
other_makes line verb f None e h = not_both (and_right (eqb (column 0 line) 1) _ h) refl
other_makes line verb f (Some s) e h =
    let first = column 0 (printed (column 0 line) (f line s)) in
    let is_one : first ≡ 1 = eq_of first 1 (and_left (eqb first 1) _ h) in
    absurd (omega (arith, e, printed_first (column 0 line) (f line s), is_one))

makes_by : (line : Line) (s : Option State) (verb : ℕ) → column 0 line ≡ verb → Makes line (tell verb line s)
unfolding tell
makes_by line s zero e = λ h. not_both {t = false} h refl
makes_by line s (suc zero) e = new_makes line s
makes_by line s (suc (suc verb)) e =
    if_some_elim (Makes line) (at_place verb verbs) _ _ (λ f g. other_makes line verb f s e) (λ g h. not_both {t = false} h refl)

-- ---- a group's rows and their calls

blank_long : length blank_store ≡ store_length
unfolding blank_store
blank_long = length-replicate {A = ℕ} store_length 0

-- the rows that follow a row which makes a group are replayed from it
from_new : (lines : List Line) (s : Option State) (making : Row) (rows after : List Row) → making ∷ (rows ++ after) ≡ rows_from s lines → is_accepted 1 making ≡ true
    → rows ≡ rows_from (Some (new (making_by making.input))) (inputs rows)
unfolding beside replay_from
from_new [] s making rows after e made = absurd (cons_none making (rows ++ after) (sym e))
from_new (line ∷ lines) s making rows after e made =
    let told : ToldLine = tell (column 0 line) line s in
    let same : row_told line told ≡ making = cc in
    let more : rows_from told.group lines ≡ rows ++ after = cc in
    let group : told.group ≡ Some (new (making_by line)) =
    makes_by line s (column 0 line) refl (ap (is_accepted 1) same ∙ made) in
    let here : rows ≡ rows_from told.group (inputs rows) = (cut_rows lines told.group rows after more).front in
    here
    ∙ ap (λ (g : Option State). rows_from g (inputs rows)) (group ∙ ap (λ (r : Row). Some (new (making_by r.input))) same)

module _ {listing : List Line} (part : Part listing) where
  rows_replayed : part.rows ≡ rows_from (Some (new (making_of part))) (inputs part.rows)
  unfolding replay
  rows_replayed =
      let c : RowsCut None part.before (part.making ∷ (part.rows ++ part.after)) =
      cut_rows listing None part.before (part.making ∷ (part.rows ++ part.after)) part.is in
      from_new c.lines c.group part.making part.rows part.after c.back part.made

  part_runs : Runs blank_store (new (making_of part)) part.rows (calls_of part)
  part_runs =
      subst (λ (rows : List Row). Runs blank_store (new (making_of part)) rows (calls_of part)) (sym rows_replayed)
      (runs (inputs part.rows) blank_store (new (making_of part)) blank_long (subst OneGroup rows_replayed part.one_group))

-- ---- under demand 3's premises

total_counts : (l : List Delivery) → total (λ (h : Heading). h.count) (each heading l) ≡ counts_of l
unfolding total each counts_of
total_counts [] = refl
total_counts (x ∷ l) = ap (λ (n : ℕ). x.count + n) (total_counts l)

-- what is in the schedule's order has counts
ordered_counted : (schedule : List Delivery) (first : ℕ) → Consecutive first schedule → (place : ℕ) (l : List Delivery) → InOrder schedule place l → Counted l
ordered_counted schedule first runs place [] h = tt
ordered_counted schedule first runs place (x ∷ l) h = (
  (sequence_at_place first 0 schedule h.0 x h.2.0 runs h.2.1).1,
  ordered_counted schedule first runs (h.0 + x.count) l h.3,
)

module _ (schedule : List Delivery) (first : ℕ) (runs_on : Consecutive first schedule) {listing : List Line} (part : Part listing) where
  -- the replay has one store
  fair_calls : FairPart schedule first part → Fair schedule first (making_of part) (calls_of part)
  fair_calls fair =
      record {
        set_before = fair.set_before;
        near = fair.near;
        below = fair.below;
        store = blank_store;
        one_store = runs_one_store (part_runs part);
      }

  by_clerk : FairPart schedule first part → ReadByClerk schedule part.rows
  unfolding new
  by_clerk fair =
      let g : Making = making_of part in
      let calls : List Asked = calls_of part in
      let claim : (left : List Delivery) × (pass_to schedule (place_of_base g calls) ≡ Some left)
      × (clerk schedule 0 (told_by calls (new g)) ≡ Some record { gave = deliveries calls (new g); left = left }) =
      schedule_claim schedule first runs_on g calls (fair_calls fair)
      in
      let reads : Reads (new g) part.rows calls =
      runs_read (part_runs part)
      (ordered_counted schedule first runs_on 0 (deliveries calls (new g)) (delivered_in_order schedule first runs_on g calls (fair_calls fair)))
      in
      let place : place_of part.rows ≡ place_of_base g calls =
      λ i. (ap (total (λ (h : Heading). h.count)) reads.packets ∙ total_counts (deliveries calls (new g))) i + reads.last i
      in
      record {
        went = record { gave = deliveries calls (new g); left = claim.0 };
        answers = reads.clerks schedule ∙ claim.2;
        packets = reads.packets;
        stands = ap (pass_to schedule) place ∙ claim.1;
      }

-- ---- under premises on the columns

no_rows : {store : List ℕ} {s : State} {calls : List Asked} → Runs store s [] calls → state_after calls s ≡ s
unfolding state_after
no_rows ends = refl

-- an accepted addition of a connected leg that names a first sequence leaves the base set
addition_sets : {store : List ℕ} {s : State} (addition : Row) {calls : List Asked} → Runs store s (addition ∷ []) calls → is_accepted 2 addition ≡ true
    → column 3 addition.input ≡ connected
    → eqb (column 5 addition.input) no_sequence ≡ false
    → next_receive_sequence (state_after calls s).receive ≡ None
    → ⊥
unfolding state_after do_call
addition_sets _ (passes row refused more) added connects named unset = not_both (and_right (eqb (column 0 row.output) 2) _ added) refused
addition_sets _ (goes_on {store = store} {s = s} line call is more) added connects named unset =
    let both : (eqb (column 0 line) 2 && eqb (do_call (asking store call) s).code 0) ≡ true = sym (accepted_as (column 0 line) store call s 2 line) ∙ added in
    let adds : call ≡ call_add_member (column 1 line) (column 2 line) (leg_of_line line) [] =
    some_inj (sym is ∙ addition_of_verb line (eq_of (column 0 line) 2 (and_left (eqb (column 0 line) 2) _ both))) in
    subst (λ (c : Call). (perform c (lending store) s).code ≡ 0 → next_receive_sequence (perform c (lending store) s).state.receive ≡ None → ⊥) (sym adds)
    (addition_sets_base (lending store) (column 1 line) (column 2 line) (leg_of_line line) [] s (ap (λ (n : ℕ). eqb n 1) connects) named)
    (eq_of (do_call (asking store call) s).code 0 (and_right (eqb (column 0 line) 2) _ both)) (ap (λ (t : State). next_receive_sequence t.receive) (sym (no_rows more)) ∙ unset)

addition_verb : {store : List ℕ} {s : State} (addition : Row) {calls : List Asked} → Runs store s (addition ∷ []) calls → is_accepted 2 addition ≡ true
    → column 0 addition.input ≡ 2
addition_verb _ (passes row refused more) added = not_both (and_right (eqb (column 0 row.output) 2) _ added) refused
addition_verb _ (goes_on {store = store} {s = s} line call is more) added =
    eq_of (column 0 line) 2 (and_left (eqb (column 0 line) 2) _ (sym (accepted_as (column 0 line) store call s 2 line) ∙ added))

module _ (schedule : List Delivery) (first : ℕ) (runs_on : Consecutive first schedule) {listing : List Line} (part : Part listing) (h : FairRows schedule first part.rows) where
  -- the rows up to the addition, with it
  abbrev opening : List Row
  opening = h.before ++ (h.addition ∷ [])

  opening_is : part.rows ≡ opening ++ h.after
  opening_is = h.is ∙ sym (append_assoc h.before (h.addition ∷ []) h.after)

  cut : Cut blank_store (new (making_of part)) opening h.after (calls_of part)
  cut = runs_cut opening h.after (subst (λ (rows : List Row). Runs blank_store (new (making_of part)) rows (calls_of part)) opening_is (part_runs part))

  -- the calls before the addition, and its own
  last_cut : Cut blank_store (new (making_of part)) h.before (h.addition ∷ []) cut.front
  last_cut = runs_cut h.before (h.addition ∷ []) cut.first_part

  no_data : All QueuesNone cut.front
  no_data =
      runs_no_data cut.first_part
      (all_append _ h.before _ h.no_data (ap (λ (n : ℕ). eqb n 4) (addition_verb h.addition last_cut.second_part h.added), tt))

  named : All (λ (asked : Asked). AddsNamed first asked.call) cut.front
  named = runs_firsts first cut.first_part (all_append _ h.before _ h.no_other ((λ e. inl h.starts), tt))

  is_sequence : eqb (column 5 h.addition.input) no_sequence ≡ false
  unfolding half
  is_sequence =
      by_test (eqb (column 5 h.addition.input) no_sequence)
      (λ e. absurd (omega (arith, h.fits, h.starts, eq_of (column 5 h.addition.input) no_sequence e))) (λ e. e)

  set : next_receive_sequence (state_after cut.front (new (making_of part))).receive ≡ Some first
  set =
      by_option (next_receive_sequence (state_after cut.front (new (making_of part))).receive)
      (λ e.
      absurd
      (addition_sets h.addition last_cut.second_part h.added h.connects is_sequence
      (ap (λ (t : State). next_receive_sequence t.receive)
      (sym (ap (λ (cs : List Asked). state_after cs (new (making_of part))) last_cut.is ∙ state_after_both last_cut.front last_cut.back (new (making_of part)))) ∙ e)))
      (λ base e. e ∙ ap {B = Option ℕ} Some (base_is_first first (making_of part) cut.front base named no_data e))

  pub short_is_fair : FairPart schedule first part
  short_is_fair =
      let fair : Fair schedule first (making_of part) (calls_of part) =
      subst (Fair schedule first (making_of part)) (sym cut.is)
      (short_schedule_is_fair schedule first runs_on (making_of part) cut.front cut.back
      record {
        short = h.short;
        none_queued = no_data;
        set = set;
        scheduled =
            subst (λ (cs : List Asked). AllScheduled schedule cs (new (making_of part))) cut.is (runs_scheduled schedule (part_runs part) h.scheduled);
        store = blank_store;
        one_store = subst (λ (cs : List Asked). OneStore blank_store cs (new (making_of part))) cut.is (runs_one_store (part_runs part));
      })
      in
      record { set_before = fair.set_before; near = fair.near; below = fair.below }

-- ---- the group that a group's rows leave

module _ (line : Line) (lines : List Line) (store : List ℕ) (s : State) where
  abbrev LeftBy : Option Call → Type 0
  LeftBy o =
      group_after (tell (column 0 line) line (Some s)).group lines
      ≡ Some
      (state_after
      (if_some o
      give
      (λ call. asking store call ∷ calls_from (do_call (asking store call) s).lent.store (do_call (asking store call) s).state lines)
      otherwise calls_from store s lines)
      s)

  left_passed : call_of line ≡ None → is_accepted 1 (row_told line (tell (column 0 line) line (Some s))) ≡ false
      → group_after (Some s) lines ≡ Some (state_after (calls_from store s lines) s)
      → LeftBy (call_of line)
  unfolding if_some◌give◌otherwise◌
  left_passed e made again =
      subst LeftBy (sym e) (ap (λ (g : Option State). group_after g lines) (no_call_passes line s e made).group ∙ again)

  left_called : (call : Call) → length store ≡ store_length → call_of line ≡ Some call
      → group_after (Some (do_call (asking store call) s).state) lines
      ≡ Some (state_after (calls_from (do_call (asking store call) s).lent.store (do_call (asking store call) s).state lines) (do_call (asking store call) s).state)
      → LeftBy (call_of line)
  unfolding if_some◌give◌otherwise◌ state_after
  left_called call long e again =
      subst LeftBy (sym e) (ap (λ (told : ToldLine). group_after told.group lines) (line_is_call line call store s long e) ∙ again)

lines_leave : (lines : List Line) (store : List ℕ) (s : State) → length store ≡ store_length → OneGroup (rows_from (Some s) lines)
    → group_after (Some s) lines ≡ Some (state_after (calls_from store s lines) s)
unfolding beside replay_from calls_from group_after state_after
lines_leave [] store s long one = refl
lines_leave (line ∷ lines) store s long one =
    by_option (call_of line)
    (λ e.
    left_passed line lines store s e one.0
    (lines_leave lines store s long (subst (λ (g : Option State). OneGroup (rows_from g lines)) (no_call_passes line s e one.0).group one.1)))
    (λ call e.
    left_called line lines store s call long e
    (lines_leave lines (do_call (asking store call) s).lent.store (do_call (asking store call) s).state (store_stays_long store call s long)
    (subst (λ (told : ToldLine). OneGroup (rows_from told.group lines)) (line_is_call line call store s long e) one.1)))

-- ---- every row behind an accepted verb 1 is in a part

record LastMade (x : List Row) : Type 0 where
  before : List Row
  making : Row
  rows : List Row
  is : x ≡ before ++ (making ∷ rows)
  made : is_accepted 1 making ≡ true
  one_group : OneGroup rows

last_made : (x : List Row) → OneGroup x ⊎ LastMade x
last_made [] = inl tt
last_made (row ∷ x) =
    ⊎_elim
    (λ all.
    by_test (is_accepted 1 row) (λ e. inr record { before = []; making = row; rows = x; is = refl; made = e; one_group = all })
    (λ e. inl (e, all)))
    (λ m.
    inr
    record {
      before = row ∷ m.before;
      making = m.making;
      rows = m.rows;
      is = ap (λ (l : List Row). row ∷ l) m.is;
      made = m.made;
      one_group = m.one_group;
    })
    (last_made x)

covers : (listing : List Line) (x y : List Row) → rows_of listing ≡ x ++ y → OneGroup x ⊎ ((part : Part listing) × (front : List Row) × (x ≡ front ++ part.rows))
covers listing x y e = ⊎_elim (λ all. inl all) (λ m. inr (part m, m.before ++ (m.making ∷ []), m.is ∙ sym (append_assoc m.before (m.making ∷ []) m.rows))) (last_made x)
  where
    part : LastMade x → Part listing
    part m =
        record {
          before = m.before;
          making = m.making;
          rows = m.rows;
          after = y;
          is = e ∙ ap (λ (l : List Row). l ++ y) m.is ∙ append_assoc m.before (m.making ∷ m.rows) y;
          made = m.made;
          one_group = m.one_group;
        }

rows_whole : (lines : List Line) (s : Option State) → (inputs (rows_from s lines) ≡ lines) × (each (λ (row : Row). row.output) (rows_from s lines) ≡ replay_from s lines)
unfolding beside replay_from each
rows_whole [] s = (refl, refl)
rows_whole (line ∷ lines) s =
    let told : ToldLine = tell (column 0 line) line s in
    let more = rows_whole lines told.group in
    (ap (λ (l : List Line). line ∷ l) more.0, ap (λ (l : List (List ℕ)). told.line ∷ l) more.1)

-- ---- the claims

rows_are_calls : (listing : List Line) (part : Part listing)
    → group_after (Some (new (making_of part))) (inputs part.rows) ≡ Some (reached (making_of part) (calls_of part))
rows_are_calls listing part =
    lines_leave (inputs part.rows) blank_store (new (making_of part)) blank_long (subst OneGroup (rows_replayed part) part.one_group)

pub listing_theorem : ListingTheorem
unfolding replay
listing_theorem =
    record {
      rows = λ listing. rows_whole listing None;
      covers = covers;
      line_is_call = line_is_call;
      rows_are_calls = rows_are_calls;
      clerk = λ schedule first runs_on listing part. by_clerk schedule first runs_on part;
      short = λ schedule first runs_on listing part fair. by_clerk schedule first runs_on part (short_is_fair schedule first runs_on part fair);
    }
