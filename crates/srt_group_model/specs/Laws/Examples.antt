-- A dozen worked listings whose answers the Rust gave, computed over the definitions. `oracle replay` of this repository gives the same
-- over the same lines: oracle/listings has them (document 01's as `example`, `code_30` with two lines more), and all other cases, which
-- are run and not proved. `add` is verb 2 and so on; a row says what the line prints.
use Rattle.std.specs.Prelude.{◌≡◌, refl, List, [], ◌∷◌, ◌++◌, ℕ, zero, suc}
use Rattle.srt_group_model.specs.Tools.{each}
use Rattle.srt_group_model.specs.Listing.{Line, column, replay}
use Rattle.srt_group_model.specs.Laws.Computed.{definitions}

-- ---- lines and what they print

abbrev pub line : (verb a b c d e f g : ℕ) → Line
line verb a b c d e f g = verb ∷ a ∷ b ∷ c ∷ d ∷ e ∷ f ∷ g ∷ []

abbrev pub new : (id mode : ℕ) → Line
new id mode = line 1 id mode 0 0 0 0 0

abbrev pub add : (leg weight state next first window latency : ℕ) → Line
add = line 2

abbrev read : (leg field n : ℕ) → Line
read leg field n = line 3 leg field n 0 0 0 0

abbrev pub packet_in : (leg sequence count source byte : ℕ) → Line
packet_in leg sequence count source byte = line 4 leg sequence count source byte 0 0

abbrev pub poll : (time : ℕ) → Line
poll time = line 5 time 0 0 0 0 0 0

abbrev send_byte : (byte time : ℕ) → Line
send_byte byte time = line 6 byte time 0 0 0 0 0

abbrev remove : (leg : ℕ) → Line
remove leg = line 7 leg 0 0 0 0 0 0

abbrev event : (leg kind reason : ℕ) → Line
event leg kind reason = line 9 leg kind reason 0 0 0 0

-- what is printed after the verb
abbrev pub done : List ℕ
done = 0 ∷ 0 ∷ 0 ∷ 0 ∷ 0 ∷ []

abbrev pub refused : (code : ℕ) → List ℕ
refused code = code ∷ 0 ∷ 0 ∷ 0 ∷ 0 ∷ []

abbrev pub packet : (leg sequence count skipped : ℕ) → List ℕ
packet leg sequence count skipped = 0 ∷ leg ∷ sequence ∷ count ∷ skipped ∷ []

abbrev pub no_packet : (skipped : ℕ) → List ℕ
no_packet = packet 0 0 0

abbrev on_legs : (n : ℕ) → List ℕ
on_legs n = 0 ∷ n ∷ 0 ∷ 0 ∷ 0 ∷ []

record Row : Type 0 where
  input : Line
  output : List ℕ

infix 40 ◌gives◌
abbrev ◌gives◌ : Line → List ℕ → Row
l gives out = record { input = l; output = column 0 l ∷ out }

-- so many rows, numbered from `first` on
abbrev rows_from : (left first : ℕ) → (ℕ → Row) → List Row
rows_from zero first row = []
rows_from (suc left) first row = row first ∷ rows_from left (suc first) row

abbrev Agrees : List Row → Type 0
Agrees rows = replay (each (λ (r : Row). r.input) rows) ≡ each (λ (r : Row). r.output) rows

-- ---- the listings

-- Document 01's own listing: the packet gives up at 1,000 + 500.
document_01 : Agrees
    ((new 1073741825 0 gives done) ∷ (add 7 0 1 50 100 8 500 gives done) ∷ (packet_in 7 101 1 1000 65 gives done)
    ∷ (poll 1499 gives no_packet 0) ∷ (poll 1500 gives packet 7 101 1 1) ∷ [])
unfolding definitions
document_01 = refl

-- A skip over the wrap: from 2^31 - 2 to 1 are three sequences.
skip_over_wrap : Agrees
    ((new 1073741825 0 gives done) ∷ (add 7 0 1 50 2147483646 8 500 gives done)
    ∷ (packet_in 7 1 1 1000 65 gives done) ∷ (poll 1499 gives no_packet 0) ∷ (poll 1500 gives packet 7 1 1 3) ∷ [])
unfolding definitions
skip_over_wrap = refl

-- Not the lowest number: of 2^31 - 2 and 1 the first is nearest, and its own give-up time counts.
nearest_not_lowest : Agrees
    ((new 1073741825 0 gives done) ∷ (add 1 0 1 50 2147483645 8 100 gives done)
    ∷ (packet_in 1 1 1 500 65 gives done) ∷ (packet_in 1 2147483646 1 0 65 gives done) ∷ (poll 0 gives no_packet 0)
    ∷ (poll 99 gives no_packet 0) ∷ (poll 100 gives packet 1 2147483646 1 1) ∷ (poll 599 gives no_packet 1)
    ∷ (poll 600 gives packet 1 1 1 3) ∷ [])
unfolding definitions
nearest_not_lowest = refl

-- The give-up test is true of 105. Then 103 is collected, whose own time has not come, and is delivered: the test is not repeated.
give_up_not_repeated : Agrees
    ((new 1073741825 0 gives done) ∷ (add 1 0 1 50 100 8 100 gives done) ∷ (add 2 0 1 50 100 8 100 gives done)
    ∷ (packet_in 1 105 1 0 65 gives done) ∷ (packet_in 2 103 1 1000 65 gives done)
    ∷ (poll 100 gives packet 2 103 1 3) ∷ (poll 100 gives packet 1 105 1 4) ∷ [])
unfolding definitions
give_up_not_repeated = refl

-- A run over the wrap covers a held packet, which vanishes: P6 by calls.
run_covers_held_over_wrap : Agrees
    ((new 1073741825 0 gives done) ∷ (add 7 0 1 50 2147483647 8 500 gives done) ∷ (packet_in 7 0 1 0 65 gives done)
    ∷ (poll 0 gives no_packet 0) ∷ (packet_in 7 2147483647 2 0 65 gives done)
    ∷ (poll 0 gives packet 7 2147483647 2 0) ∷ (packet_in 7 1 1 0 65 gives done) ∷ (poll 0 gives packet 7 1 1 0)
    ∷ [])
unfolding definitions
run_covers_held_over_wrap = refl

-- A removed leg leaves three packets and the largest window takes two: the farthest is retired.
retirement : Agrees
    ((new 1073741825 0 gives done) ∷ (add 7 0 1 50 100 8 0 gives done) ∷ (add 8 0 1 50 100 8 0 gives done)
    ∷ (read 7 3 2 gives done) ∷ (read 8 3 2 gives done) ∷ (packet_in 7 105 1 0 65 gives done)
    ∷ (packet_in 7 103 1 0 65 gives done) ∷ (packet_in 7 104 1 0 65 gives done) ∷ (poll 0 gives no_packet 0)
    ∷ (poll 0 gives no_packet 0) ∷ (poll 0 gives no_packet 0) ∷ (remove 7 gives done)
    ∷ (packet_in 8 100 3 0 65 gives done) ∷ (poll 0 gives packet 8 100 3 0) ∷ (poll 0 gives packet 7 103 1 0)
    ∷ (poll 0 gives packet 7 104 1 0) ∷ (poll 0 gives no_packet 0) ∷ [])
unfolding definitions
retirement = refl

-- Promotion by weight, among equal weights by id: P7 by calls.
promotion_by_id : Agrees
    ((new 1073741825 1 gives done) ∷ (add 1 0 1 50 100 8 500 gives done) ∷ (add 4 10 1 50 100 8 500 gives done)
    ∷ (add 2 10 1 50 100 8 500 gives done) ∷ (add 9 5 1 50 100 8 500 gives done) ∷ (read 1 11 0 gives done)
    ∷ (read 4 11 0 gives done) ∷ (read 9 11 0 gives done) ∷ (send_byte 65 0 gives refused 23)
    ∷ (read 1 1 2 gives done) ∷ (send_byte 65 0 gives on_legs 1) ∷ [])
unfolding definitions
promotion_by_id = refl

-- An Error event promotes beside an Active leg: leg 5, first in order, is now Active too, and its limit counts.
error_promotes_beside_active : Agrees
    ((new 1073741825 1 gives done) ∷ (add 5 0 0 50 100 8 500 gives done) ∷ (add 6 0 1 50 100 8 500 gives done)
    ∷ (read 5 1 1 gives done) ∷ (add 7 0 1 50 100 8 500 gives done) ∷ (read 5 11 0 gives done)
    ∷ (send_byte 65 0 gives on_legs 1) ∷ (event 7 2 9 gives done) ∷ (poll 0 gives no_packet 0)
    ∷ (send_byte 65 0 gives refused 23) ∷ [])
unfolding definitions
error_promotes_beside_active = refl

-- A take-over replays what the old carrier has not had acknowledged: 51 and then 52 are outstanding on leg 2.
take_over_with_replay : Agrees
    ((new 1073741825 1 gives done) ∷ (add 1 0 1 50 100 8 500 gives done) ∷ (add 2 0 1 50 100 8 500 gives done)
    ∷ (send_byte 65 10 gives on_legs 1) ∷ (send_byte 65 20 gives on_legs 1) ∷ (read 1 5 51 gives done)
    ∷ (read 2 5 50 gives done) ∷ (read 1 1 2 gives done) ∷ (send_byte 65 30 gives on_legs 1)
    ∷ (read 2 5 50 gives refused 32) ∷ (read 2 5 51 gives done) ∷ (read 2 5 53 gives done)
    ∷ (read 2 5 54 gives refused 32) ∷ [])
unfolding definitions
take_over_with_replay = refl

-- 28: P9 by calls, a window of 3 and one of 4.
code_28 : Agrees
    ((new 1073741825 1 gives done) ∷ (add 1 0 1 50 100 8 500 gives done) ∷ (add 2 0 1 50 100 3 500 gives done)
    ∷ (send_byte 65 0 gives on_legs 1) ∷ (send_byte 65 0 gives on_legs 1) ∷ (send_byte 65 0 gives on_legs 1)
    ∷ (read 1 1 2 gives done) ∷ (send_byte 65 0 gives refused 28) ∷ (read 2 2 4 gives done)
    ∷ (send_byte 65 0 gives on_legs 1) ∷ (read 2 5 50 gives done) ∷ [])
unfolding definitions
code_28 = refl

-- 30 goes before 31 and behind 3; a packet that is collected and held keeps its cell.
code_30 : Agrees
    ((new 1073741825 0 gives done) ∷ (add 1 0 1 50 100 8 500 gives done) ∷ (add 2 0 1 50 100 8 500 gives done)
    ∷ (add 3 0 1 50 100 8 500 gives done) ∷ rows_from 16 101 (λ k. packet_in 1 k 1 0 65 gives done)
    ++ (rows_from 16 117 (λ k. packet_in 2 k 1 0 65 gives done)
    ++ (rows_from 8 133 (λ k. packet_in 3 k 1 0 65 gives done) ++ ((packet_in 3 99 1 0 65 gives refused 30)
    ∷ (packet_in 1 99 1 0 65 gives refused 30) ∷ (packet_in 4 99 1 0 65 gives refused 3)
    ∷ (poll 500 gives no_packet 0) ∷ (packet_in 1 99 1 0 65 gives refused 30) ∷ []))))
unfolding definitions
code_30 = refl

-- A visit's budget is 32 data events: of 31 late packets and one that is due all are collected in one poll; of 32 late ones and one that
-- is due the last is left for the next poll.
budget_of_32 : Agrees
    ((new 1073741825 0 gives done) ∷ rows_from 3 1 (λ k. add k 0 1 50 100 8 500 gives done)
    ++ (rows_from 11 0 (λ k. packet_in 1 99 1 0 65 gives done)
    ++ (rows_from 10 0 (λ k. packet_in 2 99 1 0 65 gives done)
    ++ (rows_from 10 0 (λ k. packet_in 3 99 1 0 65 gives done) ++ ((packet_in 2 100 1 0 65 gives done)
    ∷ (poll 0 gives packet 2 100 1 0) ∷ rows_from 11 0 (λ k. packet_in 1 99 1 0 65 gives done)
    ++ (rows_from 10 0 (λ k. packet_in 2 99 1 0 65 gives done)
    ++ (rows_from 11 0 (λ k. packet_in 3 99 1 0 65 gives done) ++ ((packet_in 2 101 1 0 65 gives done)
    ∷ (poll 0 gives no_packet 0) ∷ (poll 0 gives packet 2 101 1 0) ∷ []))))))))
unfolding definitions
budget_of_32 = refl
