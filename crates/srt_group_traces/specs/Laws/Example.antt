-- The premises are met, and the theorem is applied: a list of calls over a schedule of four runs, with two legs, one gap, a
-- reading, sends, an event, a broken mark, a removal and refused calls.
use Rattle.std.specs.Prelude.{◌≡◌, refl, Bool, true, false, List, [], ◌∷◌, ℕ, suc, ◌+◌, ◌%◌, ◌<◌, take, replicate, Some}
use Rattle.std.proofs.Common.{sym, ap, ◌∙◌, arith, lit<, lit≤}
use Rattle.srt_protocol.specs.Cells.{overwritten, output_size, cell_size}
use Rattle.srt_protocol.specs.Sequence.{half, sequence_distance}
use Rattle.srt_group_model.specs.State.{State, next_receive_sequence, Making}
use Rattle.srt_group_model.specs.Laws.State.{broadcast_mode, ordinary}
use Rattle.srt_group_model.specs.Legs.{moment, no_sequence, largest_64}
use Rattle.srt_group_model.specs.Laws.Computed.{definitions}
use Rattle.srt_group_model.specs.Lent.{Call, call_add_member, call_mark_member_broken, call_remove_member_connection, call_poll_event, call_send, call_read_leg, call_queue_data, call_queue_event, call_poll_data, delivered_by}
use Rattle.srt_group_model.specs.declared.Data.{Data}
use Rattle.srt_group_model.specs.declared.Leg.{Leg}
use Rattle.srt_group_model.specs.Laws.Reason.{not_both, some_inj}
use Rattle.srt_group_model.specs.Sending.{list_size}
use Rattle.srt_group_model.specs.Run.{Mark, put, base_set, collected, gap_skipped, delivered}
use Rattle.srt_group_traces.specs.Statement.{first_base, total_skipped, total_delivered, last_put, Consecutive, pass_to, told_by, clerk, SetBefore, AllNear, OneStore, Fair, Raised, place_of_base, packets_collected, Asked, do_call, takes_store, Delivery, given_by, state_after, log_after, deliveries, counts_of, store_left, with_payload, Near, place_after, skipped_in}
use Rattle.srt_group_traces.specs.Laws.HistoryTheorem.{history_theorem}
use Rattle.srt_group_traces.specs.Laws.Marks.{EachCollected, each_collected_at}
use Rattle.srt_group_model.specs.Calls.{new}

-- ---- what is lent

unfoldable pub group : Making
group = ordinary broadcast_mode 4368

-- three cells
unfoldable pub store_0 : List ℕ
store_0 = replicate 4368 0

unfoldable pub output : List ℕ
output = replicate output_size 0

unfoldable pub sends : List ℕ
sends = replicate list_size 0

-- a call that is lent nothing, and one that is lent a store
abbrev pub plain : Call → Asked
plain call = record { call = call; lent = record { store = []; output = []; list = [] } }

abbrev pub over : List ℕ → Call → Asked
over store call = record { call = call; lent = record { store = store; output = output; list = sends } }

abbrev pub leg : (state first latency : ℕ) → Leg
leg state first latency =
    record {
      link = record { state = state; peer = 0; limit = 1456 };
      sender = record { started = 0; next = 50; flight = 0; window = 8; oldest = moment 0; pace = moment 0 };
      receiver = record { first = first; window = 8192; latency = latency; reserved = 0; advanced = 0 };
      trip = record { srtt = 0; rttvar = 0; heard = moment 0 };
    }

abbrev pub content : (sequence count source : ℕ) → Data
content sequence count source =
    record { sequence = sequence; count = count; message = 0; timestamp = 0; source = moment source; cell = 0; length = 0 }

-- ---- the schedule: from sequence 100 on, runs of 1, 2, 1 and 1

abbrev pub planned : (sequence count : ℕ) → List ℕ → Delivery
planned sequence count payload = record { sequence = sequence; count = count; payload = payload }

unfoldable pub schedule : List Delivery
schedule = planned 100 1 (64 ∷ []) ∷ planned 101 2 (65 ∷ 66 ∷ []) ∷ planned 103 1 (67 ∷ []) ∷ planned 104 1 (68 ∷ []) ∷ []

pub runs : Consecutive 100 schedule
unfolding definitions schedule
runs = (refl, lit≤ tt, (refl, lit≤ tt, (refl, lit≤ tt, (refl, lit≤ tt, tt))))

-- ---- the store, as the calls leave it

unfoldable pub store_1 : List ℕ
store_1 = overwritten 0 (64 ∷ []) store_0

unfoldable pub store_2 : List ℕ
store_2 = overwritten cell_size (65 ∷ 66 ∷ []) store_1

unfoldable pub store_3 : List ℕ
store_3 = overwritten 0 (68 ∷ []) store_2

-- ---- the calls: 103 never comes, and 104 gives up at 1,000 + 500

unfoldable pub calls : List Asked
calls =
    plain (call_add_member 7 0 (leg 1 100 500) []) ∷ plain (call_add_member 8 0 (leg 0 no_sequence 500) [])
    -- refused: 21, the id is there already; 3, no such leg; 5, a store below one cell
    ∷ plain (call_add_member 7 0 (leg 1 100 500) []) ∷ plain (call_read_leg 9 1 1) ∷ plain (call_poll_data 0)
    ∷ plain (call_read_leg 8 1 1)
    ∷ over store_0 (call_queue_data 7 (content 100 1 1000) (64 ∷ []))
    ∷ over store_1 (call_queue_data 8 (content 101 2 1000) (65 ∷ 66 ∷ []))
    ∷ over store_2 (call_poll_data 1000) ∷ over store_2 (call_poll_event 1000)
    ∷ over store_2 (call_send 1000 (1 ∷ []))
    ∷ over store_2 (call_queue_data 7 (content 104 1 1000) (68 ∷ []))
    ∷ plain (call_queue_event 8 1 0) ∷ plain (call_mark_member_broken 8)
    ∷ over store_3 (call_poll_data 1499) ∷ plain (call_remove_member_connection 8) ∷ over store_3 (call_poll_data 1500)
    ∷ []

-- What is delivered: the run of 103 is passed over, and is the one packet skipped.
pub delivered_list : deliveries calls (new group) ≡ planned 100 1 (64 ∷ []) ∷ planned 101 2 (65 ∷ 66 ∷ []) ∷ planned 104 1 (68 ∷ []) ∷ []
unfolding definitions group store_0 store_1 store_2 store_3 output sends calls do_call given_by deliveries
delivered_list = refl

-- the codes: the third is refused with 21, the fourth with 3, the fifth with 5
unfoldable pub codes_of : List Asked → State → List ℕ
codes_of [] s = []
codes_of (call ∷ more) s = (do_call call s).code ∷ codes_of more (do_call call s).state

pub codes : codes_of calls (new group) ≡ 0 ∷ 0 ∷ 21 ∷ 3 ∷ 5 ∷ 0 ∷ 0 ∷ 0 ∷ 0 ∷ 0 ∷ 0 ∷ 0 ∷ 0 ∷ 0 ∷ 0 ∷ 0 ∷ 0 ∷ []
unfolding definitions group store_0 store_1 store_2 store_3 output sends calls do_call codes_of
codes = refl

-- ---- the premises are met

each_based : EachCollected (λ log p. first_base log ≡ Some 100) (log_after calls (new group))
unfolding definitions group store_0 store_1 store_2 store_3 output sends calls do_call log_after first_base
each_based = (refl, (refl, (refl, tt)))

-- each packet at its place of the schedule, not far from the base's
each_near : EachCollected
    (λ log p. Near schedule (place_after log) (with_payload p.content (last_put log p.content.cell))) (log_after calls (new group))
unfolding definitions group store_0 store_1 store_2 store_3 output sends calls schedule do_call log_after total_skipped total_delivered last_put pass_to
each_near = (
  record {
    place = 4;
    rest = [];
    here = refl;
    not_far_ahead = lit< tt;
    not_far_behind = lit< tt;
  },
  (
    record {
      place = 1;
      rest = planned 103 1 (67 ∷ []) ∷ planned 104 1 (68 ∷ []) ∷ [];
      here = refl;
      not_far_ahead = lit< tt;
      not_far_behind = lit< tt;
    },
    (
      record {
        place = 0;
        rest = planned 101 2 (65 ∷ 66 ∷ []) ∷ planned 103 1 (67 ∷ []) ∷ planned 104 1 (68 ∷ []) ∷ [];
        here = refl;
        not_far_ahead = lit< tt;
        not_far_behind = lit< tt;
      },
      tt,
    ),
  ),
)

pub set_before : SetBefore 100 (log_after calls (new group))
set_before = each_collected_at _ (log_after calls (new group)) each_based

pub near : AllNear schedule (log_after calls (new group))
near = each_collected_at _ (log_after calls (new group)) each_near

pub never : {A : Type 0} → ◌≡◌ {A = Bool} false true → A
never e = not_both {t = true} refl (sym e)

-- a code that is not 0
never_accepted : {A : Type 0} (n : ℕ) → suc n ≡ 0 → A
never_accepted n e = absurd (omega arith)

pub one_store : OneStore store_0 calls (new group)
unfolding definitions group store_0 store_1 store_2 store_3 output sends calls do_call takes_store store_left
one_store = (
  (λ t e. never t),
  (
    (λ t e. never t),
    (
      (λ t e. never t),
      (
        (λ t e. never t),
        (
          (λ t e. never_accepted 4 e),
          (
            (λ t e. never t),
            (
              (λ t e. refl),
              (
                (λ t e. refl),
                (
                  (λ t e. refl),
                  (
                    (λ t e. refl),
                    (
                      (λ t e. refl),
                      (
                        (λ t e. refl),
                        (
                          (λ t e. never t),
                          (
                            (λ t e. never t),
                            (
                              (λ t e. refl),
                              (
                                (λ t e. never t),
                                (
                                  (λ t e. refl),
                                  tt,
                                ),
                              ),
                            ),
                          ),
                        ),
                      ),
                    ),
                  ),
                ),
              ),
            ),
          ),
        ),
      ),
    ),
  ),
)

pub fair : Fair schedule 100 group calls
unfolding definitions group store_0 store_1 store_2 store_3 output sends calls do_call state_after
fair = record { store = store_0; set_before = set_before; near = near; below = lit< tt; one_store = one_store }

-- ---- so the delivered list is the clerk's, and here it is

pub by_clerk : (left : List Delivery) × (pass_to schedule (place_of_base group calls) ≡ Some left)
    × (clerk schedule 0 (told_by calls (new group)) ≡ Some record { gave = deliveries calls (new group); left = left })
by_clerk = history_theorem.schedule schedule 100 runs group calls fair

pub clerk_list : clerk schedule 0 (told_by calls (new group))
    ≡ Some record { gave = planned 100 1 (64 ∷ []) ∷ planned 101 2 (65 ∷ 66 ∷ []) ∷ planned 104 1 (68 ∷ []) ∷ []; left = by_clerk.0 }
clerk_list = by_clerk.2 ∙ ap (λ (l : List Delivery). Some record { gave = l; left = by_clerk.0 }) delivered_list

-- ---- the log, newest first, each mark as its kind and numbers: 0 a payload put into a cell, 1 the base set, 2 a packet collected and
-- 4 delivered (leg, sequence, count), 3 a skip (time, distance)

unfoldable pub marked_as : List Mark → List (List ℕ)
marked_as [] = []
marked_as (put cell payload ∷ log) = (0 ∷ cell ∷ payload) ∷ marked_as log
marked_as (base_set base ∷ log) = (1 ∷ base ∷ []) ∷ marked_as log
marked_as (collected p ∷ log) = (2 ∷ p.member ∷ p.content.sequence ∷ p.content.count ∷ []) ∷ marked_as log
marked_as (gap_skipped tested time distance ∷ log) = (3 ∷ time ∷ distance ∷ []) ∷ marked_as log
marked_as (delivered p ∷ log) = (4 ∷ p.member ∷ p.content.sequence ∷ p.content.count ∷ []) ∷ marked_as log

pub marks : marked_as (log_after calls (new group))
    ≡ (4 ∷ 7 ∷ 104 ∷ 1 ∷ []) ∷ (3 ∷ 1500 ∷ 1 ∷ []) ∷ (2 ∷ 7 ∷ 104 ∷ 1 ∷ [])
    ∷ (0 ∷ 0 ∷ 68 ∷ []) ∷ (4 ∷ 8 ∷ 101 ∷ 2 ∷ []) ∷ (2 ∷ 8 ∷ 101 ∷ 2 ∷ []) ∷ (4 ∷ 7 ∷ 100 ∷ 1 ∷ []) ∷ (2 ∷ 7 ∷ 100 ∷ 1 ∷ [])
    ∷ (0 ∷ 1 ∷ 65 ∷ 66 ∷ []) ∷ (0 ∷ 0 ∷ 64 ∷ []) ∷ (1 ∷ 100 ∷ []) ∷ []
unfolding definitions group store_0 store_1 store_2 store_3 output sends calls do_call log_after marked_as
marks = refl

-- ---- the marks, added up: three packets collected, 1 + 2 + 1 delivered, one skipped

pub log_adds_up :
    (first_base (log_after calls (new group)) ≡ Some 100)
    × (packets_collected (log_after calls (new group)) ≡ 3)
    × (total_delivered (log_after calls (new group)) ≡ 4)
    × (total_skipped (log_after calls (new group)) ≡ 1)
unfolding definitions group store_0 store_1 store_2 store_3 output sends calls do_call log_after first_base packets_collected total_delivered total_skipped
log_adds_up = (refl, refl, refl, refl)

-- ---- the base stands at 105, five from its first value

pub based : next_receive_sequence (state_after calls (new group)).receive ≡ Some 105
unfolding definitions group store_0 store_1 store_2 store_3 output sends calls do_call state_after
based = refl

pub by_base : (first : ℕ) × (first_base (log_after calls (new group)) ≡ Some first)
    × (skipped_in (state_after calls (new group)) < largest_64 → sequence_distance first 105 ≡ place_of_base group calls % (half + half))
by_base = history_theorem.base group calls 105 based

pub first_is_100 : by_base.0 ≡ 100
first_is_100 = some_inj (sym by_base.1 ∙ log_adds_up.0)

pub stands_at_5 : place_of_base group calls ≡ 5
unfolding definitions group store_0 store_1 store_2 store_3 output sends calls do_call state_after given_by deliveries counts_of
stands_at_5 = refl

-- ---- the last poll, at 1,500, raises the skipped count, so it made a right skip

unfoldable pub before_last : List Asked
before_last = take 16 calls

pub raised : Raised (state_after before_last (new group)) (call_poll_data 1500)
    (delivered_by (do_call (over store_3 (call_poll_data 1500)) (state_after before_last (new group))).answer)
    (do_call (over store_3 (call_poll_data 1500)) (state_after before_last (new group))).state
unfolding definitions group store_0 store_1 store_2 store_3 output sends calls before_last do_call state_after
raised = history_theorem.rises group before_last (over store_3 (call_poll_data 1500)) (λ e. absurd (omega (arith, e)))
