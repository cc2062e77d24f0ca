-- The premises on the columns are met, and demand 3 on a listing is applied: a listing with two groups, the schedule of Example with one
-- byte a packet, two legs, one gap, and lines that are refused. The first group's printed packets are the clerk's. The Rust prints the
-- same (`two_groups_read_by_the_clerk` in oracle/listings).
use Rattle.std.specs.Prelude.{◌≡◌, refl, true, false, List, [], ◌∷◌, ◌++◌, ℕ}
use Rattle.std.proofs.Common.{sym, ◌∙◌, inr, arith, lit<, lit≤}
use Rattle.srt_protocol.specs.Sequence.{half}
use Rattle.srt_group_model.specs.Tools.{each, All}
use Rattle.srt_group_model.specs.Legs.{no_sequence}
use Rattle.srt_group_model.specs.Listing.{Line, column}
use Rattle.srt_group_model.specs.Laws.Computed.{definitions}
use Rattle.srt_group_model.specs.Laws.Examples.{new, add, packet_in, poll, done, refused, packet, no_packet}
use Rattle.srt_group_traces.specs.Statement.{Delivery, counts_of, Consecutive, pass_to}
use Rattle.srt_group_traces.specs.Listings.{Row, beside, Part, packets_of, told_of, last_told, place_of, heading, ReadByClerk, BringsScheduled, FairRows, FairPart}
use Rattle.srt_group_traces.specs.Laws.Example.{planned, never}
use Rattle.srt_group_traces.specs.Laws.Listings.{short_is_fair, listing_theorem}

-- ---- the schedule: from sequence 100 on, runs of 1, 2, 1 and 1

unfoldable pub schedule : List Delivery
schedule = planned 100 1 (64 ∷ []) ∷ planned 101 2 (65 ∷ []) ∷ planned 103 1 (67 ∷ []) ∷ planned 104 1 (68 ∷ []) ∷ []

runs : Consecutive 100 schedule
unfolding definitions schedule
runs = (refl, lit≤ tt, (refl, lit≤ tt, (refl, lit≤ tt, (refl, lit≤ tt, tt))))

-- ---- the listing, row by row

infix 40 ◌gives◌
abbrev ◌gives◌ : Line → List ℕ → Row
line gives out = record { input = line; output = column 0 line ∷ out }

abbrev pub making : Row
making = new 1073741825 0 gives done

-- leg 7 has not connected and names no first sequence; verb 1 without the mark is refused
abbrev pub before : List Row
before = (add 7 0 0 50 no_sequence 8 500 gives done) ∷ (new 1 0 gives refused 1) ∷ (poll 900 gives no_packet 0) ∷ []

abbrev pub addition : Row
addition = add 8 0 1 50 100 8 500 gives done

-- 103 never comes, and 104 gives up at 1,000 + 500; a byte of 300 and a leg that is not there are refused
abbrev pub later : List Row
later =
    (packet_in 7 101 2 1000 65 gives done) ∷ (packet_in 8 100 1 1000 64 gives done)
    ∷ (packet_in 8 104 1 1000 300 gives refused 2) ∷ (packet_in 9 777 1 1000 68 gives refused 3)
    ∷ (poll 1000 gives no_packet 0) ∷ (poll 1000 gives packet 8 100 1 0) ∷ (poll 1000 gives packet 7 101 2 0)
    ∷ (packet_in 8 104 1 1000 68 gives done) ∷ (poll 1499 gives no_packet 0) ∷ (poll 1500 gives packet 8 104 1 1) ∷ []

abbrev pub rows : List Row
rows = before ++ (addition ∷ later)

-- another group, of which nothing is said here
abbrev pub after : List Row
after = (new 1073741826 0 gives done) ∷ (add 1 0 1 50 7 8 500 gives done) ∷ (packet_in 1 7 1 0 65 gives done) ∷ (poll 0 gives packet 1 7 1 0) ∷ []

abbrev pub listing : List Line
listing = each (λ (row : Row). row.input) (making ∷ (rows ++ after))

unfoldable pub part : Part listing
unfolding definitions beside
part =
    record {
      before = [];
      making = making;
      rows = rows;
      after = after;
      is = refl;
      made = refl;
      one_group = (refl, (refl, (refl, (refl, (refl, (refl, (refl, (refl, (refl, (refl, (refl, (refl, (refl, (refl, tt))))))))))))));
    }

-- ---- the premises are met

-- the two accepted data lines before the skip at places 1 and 0 of the schedule, the last at 4
all_scheduled : All (BringsScheduled schedule) rows
unfolding schedule pass_to definitions
all_scheduled = (
  never,
  (
    never,
    (
      never,
      (
        never,
        (
          (λ e. (1, planned 103 1 (67 ∷ []) ∷ planned 104 1 (68 ∷ []) ∷ [], refl)),
          (
            (λ e. (0, planned 101 2 (65 ∷ []) ∷ planned 103 1 (67 ∷ []) ∷ planned 104 1 (68 ∷ []) ∷ [], refl)),
            (never, (never, (never, (never, (never, ((λ e. (4, [], refl)), (never, (never, tt)))))))),
          ),
        ),
      ),
    ),
  ),
)

fair : FairRows schedule 100 rows
unfolding schedule counts_of half
fair =
    record {
      short = lit< tt;
      fits = lit< tt;
      scheduled = all_scheduled;
      before = before;
      addition = addition;
      after = later;
      is = refl;
      no_data = (refl, (refl, (refl, tt)));
      no_other = ((λ e. inr refl), ((λ e. absurd (omega (arith, e))), ((λ e. absurd (omega (arith, e))), tt)));
      added = refl;
      connects = refl;
      starts = refl;
    }

-- those of demand 3 on the calls follow
pub fair_part : FairPart schedule 100 part
unfolding part
fair_part = short_is_fair schedule 100 runs part fair

-- ---- so the printed packets are the clerk's

pub read_by_clerk : ReadByClerk schedule rows
unfolding part
read_by_clerk = listing_theorem.short schedule 100 runs listing part fair

-- what is printed: 100, the run of two at 101, and 104
printed_packets : packets_of rows
    ≡ record { sequence = 100; count = 1 } ∷ record { sequence = 101; count = 2 } ∷ record { sequence = 104; count = 1 } ∷ []
unfolding packets_of definitions
printed_packets = refl

pub clerk_gives : each heading read_by_clerk.went.gave
    ≡ record { sequence = 100; count = 1 } ∷ record { sequence = 101; count = 2 } ∷ record { sequence = 104; count = 1 } ∷ []
clerk_gives = sym read_by_clerk.packets ∙ printed_packets

-- the clerk is told of six polls, the last with a rise of 1
told : told_of rows
    ≡ record { skipped = 0; delivered = false } ∷ record { skipped = 0; delivered = false } ∷ record { skipped = 0; delivered = true }
    ∷ record { skipped = 0; delivered = true } ∷ record { skipped = 0; delivered = false } ∷ record { skipped = 1; delivered = true } ∷ []
unfolding told_of definitions
told = refl

-- and stands behind 104, at place 5
stands_at_5 : place_of rows ≡ 5
unfolding packets_of told_of last_told definitions
stands_at_5 = refl
