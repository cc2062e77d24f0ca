-- Demand 3 on a replay listing: what a planner can read off a listing and what it prints, line beside line. The clerk is told the
-- printed lines alone, and the packets that they print are those that he gives. The premises are asked of the lines that follow an
-- accepted verb 1, which starts a new list of calls: once as demand 3 asks them of calls, and once, where the schedule has less than
-- 2^30 packets in all, of the listing's columns alone. The proof is `listing_theorem` in laws.
use Rattle.std.specs.Prelude.{◌≡◌, ◌⊎◌, Bool, true, false, not, ◌&&◌, List, [], ◌∷◌, ◌++◌, ℕ, zero, suc, ◌+◌, ◌<◌, eqb, length, replicate, None, Option, Some}
use Rattle.srt_protocol.specs.Cells.{output_size}
use Rattle.srt_protocol.specs.Sequence.{half}
use Rattle.srt_group_model.specs.Tools.{if_true◌then◌else◌, if_some◌give◌otherwise◌, at_place, each, total, All}
use Rattle.srt_group_model.specs.State.{State, Making}
use Rattle.srt_group_model.specs.Legs.{connected, no_sequence, largest_64}
use Rattle.srt_group_model.specs.Sending.{list_size}
use Rattle.srt_group_model.specs.Validity.{above}
use Rattle.srt_group_model.specs.Calls.{new}
use Rattle.srt_group_model.specs.Lent.{Lent, Result, Call}
use Rattle.srt_group_model.specs.Listing.{Line, column, store_length, columns, refused_line, tell, replay}
use Rattle.srt_group_traces.specs.Statement.{Asked, do_call, Delivery, counts_of, skipped_in, reached, marks, Consecutive, pass_to, Told, Went, clerk, SetBefore, AllNear}
use Rattle.srt_group_traces.specs.ShortSchedule.{Scheduled}
use Rattle.srt_group_traces.specs.VerbCalls.{addition, reading, queueing, polling, sending, removing, breaking, event}

-- ---- a listing beside what it prints

-- a line, and what it prints
pub record Row : Type 0 where
  pub input : Line
  pub output : List ℕ

unfoldable pub beside : List Line → List (List ℕ) → List Row
beside [] printed = []
beside (line ∷ lines) [] = []
beside (line ∷ lines) (out ∷ printed) = record { input = line; output = out } ∷ beside lines printed

abbrev pub rows_of : List Line → List Row
rows_of listing = beside listing (replay listing)

-- it prints this verb and code 0
abbrev pub is_accepted : ℕ → Row → Bool
is_accepted verb row = eqb (column 0 row.output) verb && eqb (column 1 row.output) 0

-- A group's rows in a listing: they follow an accepted verb 1, and none of them is another.
pub record Part (listing : List Line) : Type 0 where
  pub before : List Row
  pub making : Row
  pub rows : List Row
  pub after : List Row
  pub is : rows_of listing ≡ before ++ (making ∷ (rows ++ after))
  pub made : is_accepted 1 making ≡ true
  pub one_group : All (λ (row : Row). is_accepted 1 row ≡ false) rows

-- ---- what is read off the printed lines

-- the sequence and the count that a poll prints; a count of 0 says that there is no packet
pub record Heading : Type 0 where
  pub sequence : ℕ
  pub count : ℕ

abbrev pub prints_packet : Row → Bool
prints_packet row = is_accepted 5 row && not (eqb (column 4 row.output) 0)

-- the packets that are printed, in order
unfoldable pub packets_of : List Row → List Heading
packets_of [] = []
packets_of (row ∷ rows) =
    let more = packets_of rows in
    if_true prints_packet row then record { sequence = column 3 row.output; count = column 4 row.output } ∷ more else more

-- What the clerk is told: by each accepted poll the skipped total, and whether it prints a packet; by other lines nothing.
unfoldable pub told_of : List Row → List Told
told_of [] = []
told_of (row ∷ rows) =
    let more = told_of rows in
    if_true is_accepted 5 row then record { skipped = column 5 row.output; delivered = prints_packet row } ∷ more else more

-- the skipped total told last
unfoldable pub last_told : ℕ → List Told → ℕ
last_told known [] = known
last_told known (told ∷ more) = last_told told.skipped more

-- the base's place: the counts printed, and the skipped total printed last
abbrev pub place_of : List Row → ℕ
place_of rows = total (λ (h : Heading). h.count) (packets_of rows) + last_told 0 (told_of rows)

abbrev pub heading : Delivery → Heading
heading x = record { sequence = x.sequence; count = x.count }

-- The clerk who is told the printed lines has an answer; the packets printed are those that he gives; and he stands at the base's place.
pub record ReadByClerk (schedule : List Delivery) (rows : List Row) : Type 0 where
  pub went : Went
  pub answers : clerk schedule 0 (told_of rows) ≡ Some went
  pub packets : packets_of rows ≡ each heading went.gave
  pub stands : pass_to schedule (place_of rows) ≡ Some went.left

-- ---- premises on the columns, for a short schedule

-- the packet that a data line queues
abbrev pub packet_in : Row → Delivery
packet_in row = record { sequence = column 2 row.input; count = column 3 row.input; payload = column 5 row.input ∷ [] }

-- an accepted data line has a packet of the schedule
abbrev pub BringsScheduled : List Delivery → Row → Type 0
BringsScheduled schedule row = is_accepted 4 row ≡ true → Scheduled schedule (packet_in row)

-- an addition names this first sequence of its peer, or none
abbrev pub NamesFirst : ℕ → Row → Type 0
NamesFirst first row = column 0 row.input ≡ 2 → (column 5 row.input ≡ first) ⊎ (column 5 row.input ≡ no_sequence)

-- A schedule of less than 2^30 packets in all, of which every accepted data line has one; and before the first data line stands an
-- accepted addition of a connected leg whose peer's first sequence is the schedule's, no addition before it naming another.
pub record FairRows (schedule : List Delivery) (first : ℕ) (rows : List Row) : Type 0 where
  pub short : counts_of schedule < half
  pub fits : first < half + half
  pub scheduled : All (BringsScheduled schedule) rows
  pub before : List Row
  pub addition : Row
  pub after : List Row
  pub is : rows ≡ before ++ (addition ∷ after)
  pub no_data : All (λ (row : Row). eqb (column 0 row.input) 4 ≡ false) before
  pub no_other : All (NamesFirst first) before
  pub added : is_accepted 2 addition ≡ true
  pub connects : column 3 addition.input ≡ connected
  pub starts : column 5 addition.input ≡ first

-- ---- the calls of a listing

-- a payload byte above 255 makes no call
abbrev pub with_byte : ℕ → Call → Option Call
with_byte byte call = if_true above 255 byte then None else Some call

-- verbs 2 to 9, in order
unfoldable pub verb_calls : List (Line → Option Call)
verb_calls =
    (λ line. Some (addition line))
    ∷ (λ line. Some (reading line))
    ∷ (λ line. with_byte (column 5 line) (queueing line))
    ∷ (λ line. Some (polling line))
    ∷ (λ line. with_byte (column 1 line) (sending line))
    ∷ (λ line. Some (removing line))
    ∷ (λ line. Some (breaking line))
    ∷ (λ line. Some (event line))
    ∷ []

-- verb 1 and an unknown verb are no call of a group
unfoldable pub call_of_verb : ℕ → Line → Option Call
call_of_verb zero line = None
call_of_verb (suc zero) line = None
call_of_verb (suc (suc verb)) line = if_some at_place verb verb_calls give (λ f. f line) otherwise None

abbrev pub call_of : Line → Option Call
call_of line = call_of_verb (column 0 line) line

-- What the replay lends: the store that stands, an output and a list of sends of their sizes. No call reads what stands in those two.
unfoldable pub lending : List ℕ → Lent
lending store = record { store = store; output = replicate output_size 0; list = replicate list_size 0 }

abbrev pub asking : List ℕ → Call → Asked
asking store call = record { call = call; lent = lending store }

-- the calls of lines, each lent the store that the last one left
unfoldable pub calls_from : (store : List ℕ) → State → List Line → List Asked
calls_from store s [] = []
calls_from store s (line ∷ lines) =
    if_some call_of line
    give
    (λ call. asking store call ∷ calls_from (do_call (asking store call) s).lent.store (do_call (asking store call) s).state lines)
    otherwise calls_from store s lines

-- the group that lines leave
unfoldable pub group_after : Option State → List Line → Option State
group_after s [] = s
group_after s (line ∷ lines) = group_after (tell (column 0 line) line s).group lines

-- what is printed of a call's result
unfoldable pub printed_by : ℕ → Result → List ℕ
printed_by verb r =
    if_true eqb r.code 0 then verb ∷ 0 ∷ columns r.answer r.state else refused_line verb r.code

-- 40 cells
unfoldable pub blank_store : List ℕ
blank_store = replicate store_length 0

module _ {listing : List Line} (part : Part listing) where
  abbrev pub making_of : Making
  making_of =
      record { id = column 1 part.making.input; mode = column 2 part.making.input; length = store_length }

  abbrev pub calls_of : List Asked
  calls_of = calls_from blank_store (new making_of) (each (λ (row : Row). row.input) part.rows)

-- Demand 3's premises, of the calls of a group's rows. The one on the store is met: the replay has one.
pub record FairPart (schedule : List Delivery) (first : ℕ) {listing : List Line} (part : Part listing) : Type 0 where
  pub set_before : SetBefore first (marks (making_of part) (calls_of part))
  pub near : AllNear schedule (marks (making_of part) (calls_of part))
  pub below : skipped_in (reached (making_of part) (calls_of part)) < largest_64

-- ---- the claims

pub record ListingTheorem : Type 0 where
  -- A listing prints one line for each of its lines.
  pub rows : (listing : List Line)
      → (each (λ (row : Row). row.input) (rows_of listing) ≡ listing) × (each (λ (row : Row). row.output) (rows_of listing) ≡ replay listing)
  -- However its rows are cut in two, the first have no accepted verb 1, or they end with a group's rows: no row behind one is left out.
  pub covers : (listing : List Line) (x y : List Row) → rows_of listing ≡ x ++ y
      → All (λ (row : Row). is_accepted 1 row ≡ false) x ⊎ ((part : Part listing) × (front : List Row) × (x ≡ front ++ part.rows))
  -- A line that is a call prints what the call gives and leaves the state that it leaves, whatever bytes stand in the store.
  pub line_is_call : (line : Line) (call : Call) (store : List ℕ) (s : State) → length store ≡ store_length → call_of line ≡ Some call
      → tell (column 0 line) line (Some s)
      ≡ record {
        group = Some (do_call (asking store call) s).state;
        line = printed_by (column 0 line) (do_call (asking store call) s);
      }
  -- A group's rows leave the state that their calls leave.
  pub rows_are_calls : (listing : List Line) (part : Part listing)
      → group_after (Some (new (making_of part))) (each (λ (row : Row). row.input) part.rows) ≡ Some (reached (making_of part) (calls_of part))
  -- Demand 3 on a listing: under its premises on the calls of a group's rows, the packets that they print are the clerk's.
  pub clerk : (schedule : List Delivery) (first : ℕ) → Consecutive first schedule → (listing : List Line) (part : Part listing)
      → FairPart schedule first part → ReadByClerk schedule part.rows
  -- The same for a short schedule, under premises on the listing's columns alone.
  pub short : (schedule : List Delivery) (first : ℕ) → Consecutive first schedule → (listing : List Line) (part : Part listing)
      → FairRows schedule first part.rows → ReadByClerk schedule part.rows
