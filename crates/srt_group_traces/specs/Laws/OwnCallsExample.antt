-- Hosts that keep to the premise of OwnCalls, with and without a store's length given at the start; and the two exceptions, which are
-- real: each gives 6, and the call after it finds the state as it was.
use Rattle.std.specs.Prelude.{◌≡◌, refl, List, [], ◌∷◌, ℕ, replicate}
use Rattle.std.proofs.Common.{sym, subst, inl, inr, arith}
use Rattle.srt_group_model.specs.Laws.State.{broadcast_mode, ordinary}
use Rattle.srt_group_model.specs.Laws.Computed.{definitions}
use Rattle.srt_group_model.specs.Calls.{new, new_code}
use Rattle.srt_group_model.specs.Lent.{call_add_member, call_queue_data, call_poll_data}
use Rattle.srt_group_model.specs.declared.Leg.{Leg}
use Rattle.srt_group_traces.specs.Statement.{Asked, do_call, takes_store}
use Rattle.srt_group_traces.specs.Port.{all_shown}
use Rattle.srt_group_traces.specs.OwnCalls.{brings_packets, Careful, NoneGives6, NoneShows6}
use Rattle.srt_group_traces.specs.Laws.OwnCalls.{own_calls}
use Rattle.srt_group_traces.specs.Laws.Example.{group, calls, codes_of, leg, content, plain, over, output, sends, never}
use Rattle.srt_group_traces.specs.Laws.PortExample.{steps, performed, same_calls}

-- ---- with a length given: the steps of PortExample, whatever they are lent; one poll of theirs is refused for its store, with 5

accepted : new_code group ≡ 0
unfolding definitions group
accepted = refl

pub careful : Careful group calls
unfolding definitions group calls brings_packets
careful = record { legs_empty = refl; one_length = inl (λ e. absurd (omega (arith, e))) }

pub none_shows_6 : NoneShows6 (all_shown steps)
none_shows_6 = own_calls.never_shown group steps accepted performed (subst (Careful group) (sym same_calls) careful)

-- ---- with none given: stores of two cells

unfoldable pub two_cells : List ℕ
two_cells = replicate 2912 0

unfoldable pub one_cell : List ℕ
one_cell = replicate 1456 0

-- a packet in each cell
unfoldable pub filled : List Asked
filled =
    plain (call_add_member 7 0 (leg 1 100 500) []) ∷ over two_cells (call_queue_data 7 (content 100 1 1000) (64 ∷ []))
    ∷ over two_cells (call_queue_data 7 (content 101 1 1000) (65 ∷ [])) ∷ []

pub filled_careful : Careful (ordinary broadcast_mode 0) filled
unfolding definitions filled two_cells brings_packets takes_store
filled_careful =
    record {
      legs_empty = refl;
      one_length = inr (2912, ((λ takes. never takes), ((λ takes. refl), ((λ takes. refl), tt))));
    }

pub none_gives_6 : NoneGives6 filled (new (ordinary broadcast_mode 0))
unfolding definitions
none_gives_6 = own_calls.never (ordinary broadcast_mode 0) filled refl filled_careful

-- ---- the two exceptions

-- a leg of which one packet is said to be reserved
abbrev reserved_leg : Leg
reserved_leg =
    record {
      link = (leg 1 100 500).link;
      sender = (leg 1 100 500).sender;
      receiver = record { first = 100; window = 8192; latency = 500; reserved = 1; advanced = 0 };
      trip = (leg 1 100 500).trip;
    }

-- the same calls, a poll over a store of one cell, the addition of that leg, and a poll over two cells
unfoldable pub careless : List Asked
careless =
    plain (call_add_member 7 0 (leg 1 100 500) []) ∷ over two_cells (call_queue_data 7 (content 100 1 1000) (64 ∷ []))
    ∷ over two_cells (call_queue_data 7 (content 101 1 1000) (65 ∷ [])) ∷ over one_cell (call_poll_data 1000)
    ∷ plain (call_add_member 8 0 reserved_leg []) ∷ over two_cells (call_poll_data 1000) ∷ []

pub exceptions_give_6 : codes_of careless (new (ordinary broadcast_mode 0)) ≡ 0 ∷ 0 ∷ 0 ∷ 6 ∷ 6 ∷ 0 ∷ []
unfolding definitions careless two_cells one_cell output sends do_call codes_of
exceptions_give_6 = refl

-- with the length given, the smaller store is 5
pub given_length_gives_5 : codes_of careless (new (ordinary broadcast_mode 2912)) ≡ 0 ∷ 0 ∷ 0 ∷ 5 ∷ 6 ∷ 0 ∷ []
unfolding definitions careless two_cells one_cell output sends do_call codes_of
given_length_gives_5 = refl
