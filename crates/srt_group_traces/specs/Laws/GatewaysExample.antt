-- Two gateways over the schedule of Example, and the fourth claim applied. Gateway a is the list of Example, after its first
-- delivery; gateway b is a Backup group of one leg, with other calls, a send whose payload takes a cell, and no gap. Both stand
-- at place 1. Up to its next skip a delivers one run, b three: one list is a prefix of the other.
use Rattle.std.specs.Prelude.{◌≡◌, refl, ◌⊎◌, List, [], ◌∷◌, ◌++◌, ℕ, replicate, take, drop, Some}
use Rattle.std.proofs.Common.{lit<}
use Rattle.srt_protocol.specs.Cells.{overwritten, cell_size}
use Rattle.srt_group_model.specs.Laws.State.{backup_mode, ordinary}
use Rattle.srt_group_model.specs.Laws.Computed.{definitions}
use Rattle.srt_group_model.specs.Lent.{call_add_member, call_send, call_queue_data, call_poll_data}
use Rattle.srt_group_traces.specs.Statement.{first_base, total_skipped, total_delivered, last_put, pass_to, SetBefore, AllNear, OneStore, Prefix, until_skip, Gateway, stands_at, delivers, Asked, do_call, takes_store, given_by, state_after, log_after, deliveries, counts_of, store_left, with_payload, Near, place_after}
use Rattle.srt_group_traces.specs.Laws.HistoryTheorem.{history_theorem}
use Rattle.srt_group_traces.specs.Laws.Example.{leg, content, plain, over, output, sends, planned, schedule, runs, never, store_0, store_1, store_2, store_3, group, calls, fair}
use Rattle.srt_group_traces.specs.Laws.Marks.{EachCollected, each_collected_at}
use Rattle.srt_group_model.specs.State.{Making}
use Rattle.srt_group_model.specs.Calls.{new}

-- ---- gateway a

pub gateway_a : Gateway schedule 100
unfolding calls
gateway_a = record { making = group; before = take 9 calls; after = drop 9 calls; fair = fair }

-- ---- gateway b

unfoldable pub backup_group : Making
backup_group = ordinary backup_mode 0

-- four cells, as the calls leave them
unfoldable pub cells_0 : List ℕ
cells_0 = replicate 5824 0

unfoldable pub cells_1 : List ℕ
cells_1 = overwritten 0 (64 ∷ []) cells_0

unfoldable pub cells_2 : List ℕ
cells_2 = overwritten 0 (9 ∷ []) cells_1

unfoldable pub cells_3 : List ℕ
cells_3 = overwritten cell_size (65 ∷ 66 ∷ []) cells_2

unfoldable pub cells_4 : List ℕ
cells_4 = overwritten 2912 (67 ∷ []) cells_3

unfoldable pub cells_5 : List ℕ
cells_5 = overwritten 4368 (68 ∷ []) cells_4

unfoldable pub before_b : List Asked
before_b =
    plain (call_add_member 3 0 (leg 1 100 500) []) ∷ over cells_0 (call_queue_data 3 (content 100 1 0) (64 ∷ [])) ∷ over cells_1
    (call_poll_data 0) ∷ []

-- the send's payload takes the cell that the first packet has freed, and keeps it
unfoldable pub after_b : List Asked
after_b =
    over cells_1 (call_send 0 (9 ∷ [])) ∷ over cells_2 (call_queue_data 3 (content 101 2 0) (65 ∷ 66 ∷ []))
    ∷ over cells_3 (call_queue_data 3 (content 103 1 0) (67 ∷ [])) ∷ over cells_4 (call_queue_data 3 (content 104 1 0) (68 ∷ []))
    ∷ over cells_5 (call_poll_data 0) ∷ over cells_5 (call_poll_data 0) ∷ over cells_5 (call_poll_data 0) ∷ []

each_based_b : EachCollected (λ log p. first_base log ≡ Some 100) (log_after (before_b ++ after_b) (new backup_group))
unfolding definitions backup_group cells_0 cells_1 cells_2 cells_3 cells_4 cells_5 output sends before_b after_b do_call log_after first_base
each_based_b = (refl, (refl, (refl, (refl, tt))))

-- each packet at its place of the schedule, not far from the base's
each_near_b : EachCollected
    (λ log p. Near schedule (place_after log) (with_payload p.content (last_put log p.content.cell))) (log_after (before_b ++ after_b) (new backup_group))
unfolding definitions backup_group cells_0 cells_1 cells_2 cells_3 cells_4 cells_5 output sends before_b after_b schedule do_call log_after total_skipped total_delivered last_put pass_to
each_near_b = (
  record {
    place = 4;
    rest = [];
    here = refl;
    not_far_ahead = lit< tt;
    not_far_behind = lit< tt;
  },
  (
    record {
      place = 3;
      rest = planned 104 1 (68 ∷ []) ∷ [];
      here = refl;
      not_far_ahead = lit< tt;
      not_far_behind = lit< tt;
    },
    (
      record {
        place = 1;
        rest = planned 103 1 (67 ∷ []) ∷ planned 104 1 (68 ∷ []) ∷ [];
        here = refl;
        not_far_ahead = lit< tt;
        not_far_behind = lit< tt;
      },
      (
        record {
          place = 0;
          rest = planned 101 2 (65 ∷ 66 ∷ []) ∷ planned 103 1 (67 ∷ []) ∷ planned 104 1 (68 ∷ []) ∷ [];
          here = refl;
          not_far_ahead = lit< tt;
          not_far_behind = lit< tt;
        },
        tt,
      ),
    ),
  ),
)

pub set_before_b : SetBefore 100 (log_after (before_b ++ after_b) (new backup_group))
set_before_b = each_collected_at _ (log_after (before_b ++ after_b) (new backup_group)) each_based_b

pub near_b : AllNear schedule (log_after (before_b ++ after_b) (new backup_group))
near_b = each_collected_at _ (log_after (before_b ++ after_b) (new backup_group)) each_near_b

pub one_store_b : OneStore cells_0 (before_b ++ after_b) (new backup_group)
unfolding definitions backup_group cells_0 cells_1 cells_2 cells_3 cells_4 cells_5 output sends before_b after_b do_call takes_store store_left
one_store_b = (
  (λ t e. never t),
  (
    (λ t e. refl),
    (
      (λ t e. refl),
      ((λ t e. refl), ((λ t e. refl), ((λ t e. refl), ((λ t e. refl), ((λ t e. refl), ((λ t e. refl), ((λ t e. refl), tt))))))),
    ),
  ),
)

pub gateway_b : Gateway schedule 100
unfolding definitions backup_group cells_0 cells_1 cells_2 cells_3 cells_4 cells_5 output sends before_b after_b do_call state_after
gateway_b =
    record {
      making = backup_group;
      before = before_b;
      after = after_b;
      fair = record { store = cells_0; set_before = set_before_b; near = near_b; below = lit< tt; one_store = one_store_b };
    }

-- ---- both stand at place 1

pub a_stands_at_1 : stands_at schedule 100 gateway_a ≡ 1
unfolding definitions group store_0 store_1 store_2 store_3 output sends calls do_call state_after given_by deliveries counts_of gateway_a
a_stands_at_1 = refl

pub b_stands_at_1 : stands_at schedule 100 gateway_b ≡ 1
unfolding definitions backup_group cells_0 cells_1 output sends before_b do_call state_after given_by deliveries counts_of gateway_b
b_stands_at_1 = refl

-- ---- so they agree, and here is what each delivers up to its next skip

pub agree : Prefix (delivers schedule 100 gateway_a) (delivers schedule 100 gateway_b) ⊎ Prefix (delivers schedule 100 gateway_b) (delivers schedule 100 gateway_a)
agree = history_theorem.gateways schedule 100 runs gateway_a gateway_b (cc (a_stands_at_1, b_stands_at_1))

pub a_delivers : delivers schedule 100 gateway_a ≡ planned 101 2 (65 ∷ 66 ∷ []) ∷ []
unfolding definitions group store_0 store_1 store_2 store_3 output sends calls do_call state_after given_by deliveries until_skip gateway_a
a_delivers = refl

pub b_delivers : delivers schedule 100 gateway_b ≡ planned 101 2 (65 ∷ 66 ∷ []) ∷ planned 103 1 (67 ∷ []) ∷ planned 104 1 (68 ∷ []) ∷ []
unfolding definitions backup_group cells_0 cells_1 cells_2 cells_3 cells_4 cells_5 output sends before_b after_b do_call state_after given_by deliveries until_skip gateway_b
b_delivers = refl
