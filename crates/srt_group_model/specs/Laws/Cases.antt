-- Document 01's cases P1 to P9 as rows of one table, proved by one computed test, and the law that turns the test into each
-- row.
use Rattle.std.specs.Prelude.{◌≡◌, refl, Bool, true, false, ◌&&◌, List, [], ◌∷◌, ℕ, ◌-◌, ◌^◌, eqb, length, Option}
use Rattle.srt_protocol.specs.Sequence.{sequence_before}
use Rattle.srt_group_model.specs.Tools.{if_some◌give◌otherwise◌, bit, at_place, each, All}
use Rattle.std.proofs.Common.{eqb-true}
use Rattle.srt_group_model.specs.Laws.Reason.{and_left, and_right, not_both}
use Rattle.srt_group_model.specs.State.{Member, State, with_receive, with_members, with_send, on_leg, active_state, standby_state, on_account}
use Rattle.srt_group_model.specs.Accounts.{no_packets, reserve}
use Rattle.srt_group_model.specs.Laws.State.{broadcast_mode, backup_mode, ordinary}
use Rattle.srt_group_model.specs.Legs.{moment, with_reservation}
use Rattle.srt_group_model.specs.Members.{id_of, promotion}
use Rattle.srt_group_model.specs.Nearest.{nearest}
use Rattle.srt_group_model.specs.Run.{start}
use Rattle.srt_group_model.specs.Delivery.{deliver_packet}
use Rattle.srt_group_model.specs.Polls.{deliver_next}
use Rattle.srt_group_model.specs.Backup.{stability_timeout, demote_stale_backup_carrier, take_over_backup_flight}
use Rattle.srt_group_model.specs.Calls.{new}
use Rattle.srt_group_model.specs.Laws.Computed.{definitions}
use Rattle.srt_group_model.specs.declared.Packet.{Packet}
use Rattle.srt_group_model.specs.declared.Leg.{Leg}
use Rattle.srt_group_model.specs.declared.Entry.{Entry}

-- ---- the things of the cases

unfoldable pub held : (sequence count : ℕ) → Packet
held sequence count =
    record {
      member = 1;
      owned = 0;
      content =
          record { sequence = sequence; count = count; message = 0; timestamp = 0; source = moment 0; cell = 0; length = 0 };
    }

unfoldable pub sequence_or_0 : Option Packet → ℕ
sequence_or_0 o = if_some o give (λ p. p.content.sequence) otherwise 0

-- a connected leg at send number 50
unfoldable pub leg : (flight window srtt rttvar : ℕ) → Leg
leg flight window srtt rttvar =
    record {
      link = record { state = 1; peer = 0; limit = 1456 };
      sender = record { started = 1; next = 50; flight = flight; window = window; oldest = moment 0; pace = moment 0 };
      receiver = record { first = 0; window = 8192; latency = 0; reserved = 0; advanced = 0 };
      trip = record { srtt = srtt; rttvar = rttvar; heard = moment 0 };
    }

unfoldable pub joined : (id weight state : ℕ) → Leg → Member
joined id weight state l =
    record {
      membership =
          record {
            id = id;
            weight = weight;
            state = state;
            admitted = 1;
            account = no_packets;
            collision = record { expected = 0; actual = 0 };
          };
      leg = l;
      queue = [];
    }

unfoldable pub promoted_id : List Member → ℕ
promoted_id ms =
    if_some promotion ms give (λ i. if_some at_place i ms give (λ m. id_of m) otherwise 0) otherwise 0

-- a group of these members with a base that holds these packets
unfoldable pub holding : (base : ℕ) → List Packet → List Member → State
holding base ps ms =
    with_members ms
    (with_receive record { numbers = record { based = 1; base = base; skipped = 0 }; pending = ps } (new (ordinary broadcast_mode 0)))

-- member 1, with so much reserved by it and on its leg
unfoldable pub reserving : (count : ℕ) → Member
reserving count = on_account (reserve count) (on_leg (with_reservation count) (joined 1 0 active_state (leg 0 8 0 0)))

-- what the members and their legs have reserved
unfoldable pub reserved_by : List Member → List ℕ
reserved_by [] = []
reserved_by (m ∷ ms) = m.membership.account.reserved ∷ m.leg.receiver.reserved ∷ reserved_by ms

-- the state of the carrier after a look at its silence, with a connected standby beside it
unfoldable pub carrier_after : (time srtt rttvar : ℕ) → ℕ
carrier_after time srtt rttvar =
    if_some at_place 0
    (demote_stale_backup_carrier time (joined 1 0 active_state (leg 1 8 srtt rttvar) ∷ joined 2 0 standby_state (leg 0 8 0 0) ∷ []))
    give (λ m. m.membership.state)
    otherwise 0

unfoldable pub entry : ℕ → Entry
entry sequence = record { sequence = sequence; cell = 0; length = 1; source = moment 0 }

-- leg 2, with this window, takes over three sends from leg 1, which is gone
unfoldable pub taking_over : (window : ℕ) → State
taking_over window =
    with_members (joined 2 0 active_state (leg 0 window 0 0) ∷ [])
    (with_send
    record {
      numbers = record { numbered = 1; next = 53; carried = 1; carrier = 1; gap = 0 };
      history = entry 50 ∷ entry 51 ∷ entry 52 ∷ [];
    }
    (new (ordinary backup_mode 0)))

-- ---- the table

-- what is computed, and what document 01 says
pub record Case : Type 0 where
  pub value : List ℕ
  pub should : List ℕ

unfoldable pub table : List Case
table =
    -- P1: 0 is not before 0
    record { value = bit (sequence_before 0 0) ∷ []; should = 0 ∷ [] }
    -- P2: 0 is before 2^30 - 1
    ∷ record { value = bit (sequence_before 0 (2 ^ 30 - 1)) ∷ []; should = 1 ∷ [] }
    -- P3: 0 and 2^30: neither before the other
    ∷ record { value = bit (sequence_before 0 (2 ^ 30)) ∷ bit (sequence_before (2 ^ 30) 0) ∷ []; should = 0 ∷ 0 ∷ [] }
    -- P4: 2^31 - 1 is before 0
    ∷ record { value = bit (sequence_before (2 ^ 31 - 1) 0) ∷ []; should = 1 ∷ [] }
    -- P5: from the base 2^31 - 3 the nearest of 2^31 - 2 and 1 is 2^31 - 2: with no members the gap of one is given up and it is delivered
    ∷ (let packets = held 1 1 ∷ held (2 ^ 31 - 2) 1 ∷ [] in
    let polled = (deliver_next 0 (start (holding (2 ^ 31 - 3) packets []))).run.state.receive in
    record {
      value =
          sequence_or_0 (nearest packets) ∷ polled.numbers.skipped ∷ polled.numbers.base
          ∷ each (λ p. p.content.sequence) polled.pending;
      should = (2 ^ 31 - 2) ∷ 1 ∷ (2 ^ 31 - 1) ∷ 1 ∷ [];
    })
    -- P6: a run at 2^31 - 1 of count 2: the base is 1, the held 0 vanishes, and what both had reserved, 2 and 1, is released
    ∷ (let run = held (2 ^ 31 - 1) 2 in
    let passed = deliver_packet (2 ^ 31 - 1) run (holding (2 ^ 31 - 1) (held 0 1 ∷ run ∷ []) (reserving 3 ∷ [])) in
    record {
      value = passed.receive.numbers.base ∷ length passed.receive.pending ∷ reserved_by passed.members;
      should = 1 ∷ 0 ∷ 0 ∷ 0 ∷ [];
    })
    -- P7: of Standby (id 4, weight 10), (2, 10), (9, 5) leg 2 is promoted
    ∷ record {
      value =
          promoted_id
          (joined 4 10 standby_state (leg 0 8 0 0) ∷ joined 2 10 standby_state (leg 0 8 0 0) ∷ joined 9 5 standby_state (leg 0 8 0 0) ∷ [])
          ∷ [];
      should = 2 ∷ [];
    }
    -- P8: the timeouts; a silence of 60,000 stays (1, Active), 60,001 turns Unstable (3)
    ∷ record {
      value =
          stability_timeout (leg 0 0 20000 5001) ∷ stability_timeout (leg 0 0 10000 5000) ∷ carrier_after 60000 10000 5000
          ∷ carrier_after 60001 10000 5000
          ∷ [];
      should = 60004 ∷ 60000 ∷ 1 ∷ 3 ∷ [];
    }
    -- P9: a history of 3: window left 3 gives 28, 4 replays
    ∷ record {
      value =
          (take_over_backup_flight 0 0 (taking_over 3)).code ∷ length (take_over_backup_flight 0 0 (taking_over 3)).sends
          ∷ (take_over_backup_flight 0 0 (taking_over 4)).code
          ∷ length (take_over_backup_flight 0 0 (taking_over 4)).sends
          ∷ [];
      should = 28 ∷ 0 ∷ 0 ∷ 3 ∷ [];
    }
    ∷ []

-- ---- the test and the law

same : List ℕ → List ℕ → Bool
same [] [] = true
same [] (n ∷ ns) = false
same (m ∷ ms) [] = false
same (m ∷ ms) (n ∷ ns) = eqb m n && same ms ns

all_hold : List Case → Bool
all_hold [] = true
all_hold (c ∷ cs) = same c.value c.should && all_hold cs

table_holds : all_hold table ≡ true
unfolding definitions table all_hold same held sequence_or_0 leg joined promoted_id holding reserving reserved_by carrier_after entry taking_over
table_holds = refl

same_is_equal : (ms ns : List ℕ) → same ms ns ≡ true → ms ≡ ns
unfolding same
same_is_equal [] [] e = refl
same_is_equal [] (n ∷ ns) e = not_both {t = false} e refl
same_is_equal (m ∷ ms) [] e = not_both {t = false} e refl
same_is_equal (m ∷ ms) (n ∷ ns) e =
    let head = eqb-true m n (and_left (eqb m n) (same ms ns) e) in
    let tail = same_is_equal ms ns (and_right (eqb m n) (same ms ns) e) in
    cc

each_holds : (cs : List Case) → all_hold cs ≡ true → All (λ (c : Case). c.value ≡ c.should) cs
unfolding all_hold
each_holds [] e = tt
each_holds (c ∷ cs) e = (
  same_is_equal c.value c.should (and_left (same c.value c.should) (all_hold cs) e),
  each_holds cs (and_right (same c.value c.should) (all_hold cs) e),
)

-- P1 to P9: in each row what is computed is what document 01 says
pub rows_hold : All (λ (c : Case). c.value ≡ c.should) table
rows_hold = each_holds table table_holds
