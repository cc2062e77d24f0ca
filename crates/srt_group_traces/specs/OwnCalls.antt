-- While nobody else writes the state, our own calls never give 6, "the lent state breaks a rule". For every list of calls from an
-- accepted `new`, refused ones included, whatever each is lent: a call that gives 6 was handed or lent what does not fit the state,
-- in one of two ways (`Excepted`). A host that keeps to `Careful` never sees 6. The proof is `own_calls` in laws.
use Rattle.std.specs.Prelude.{◌≡◌, Bool, true, false, not, ◌||◌, ◌⊎◌, List, [], ◌∷◌, ℕ, eqb, length}
use Rattle.srt_protocol.specs.Cells.{cells_of}
use Rattle.srt_group_model.specs.Tools.{All, any, is_empty}
use Rattle.srt_group_model.specs.State.{State, Making}
use Rattle.srt_group_model.specs.Validity.{cell_beyond_store}
use Rattle.srt_group_model.specs.Calls.{new, new_code}
use Rattle.srt_group_model.specs.Lent.{Call, call_add_member, call_mark_member_broken, call_remove_member_connection, call_refresh_member_states, call_disconnect, call_poll_event, call_poll_data_bounded, call_send, call_can_send, call_can_send_with_pacing, call_look, call_read_leg, call_queue_data, call_queue_event}
use Rattle.srt_group_traces.specs.Statement.{Asked, do_call, takes_store, reached}
use Rattle.srt_group_traces.specs.Port.{Shown, Taken, did, refused_short, shown_of, all_shown, calls_of, Performed}

-- ---- the two exceptions

-- an addition is handed a leg that has a queue or a reservation
unfoldable pub brings_packets : Call → Bool
brings_packets (call_add_member id weight leg queue) = not (is_empty queue) || not (eqb leg.receiver.reserved 0)
brings_packets (call_mark_member_broken id) = false
brings_packets (call_remove_member_connection id) = false
brings_packets call_refresh_member_states = false
brings_packets (call_disconnect time) = false
brings_packets (call_poll_event time) = false
brings_packets (call_poll_data_bounded time max_events) = false
brings_packets (call_send time payload) = false
brings_packets call_can_send = false
brings_packets (call_can_send_with_pacing time) = false
brings_packets (call_look look) = false
brings_packets (call_read_leg id field n) = false
brings_packets (call_queue_data id d payload) = false
brings_packets (call_queue_event id kind reason) = false

-- why a call from the state s gives 6: its leg is not empty; or no store's length was given at the start, and a cell in use lies beyond the
-- store that it is lent
pub data Excepted (asked : Asked) (s : State) : Type 0 where
  leg_not_empty : brings_packets asked.call ≡ true → Excepted asked s
  store_too_small : s.making.length ≡ 0 → takes_store asked.call ≡ true
      → cell_beyond_store (cells_of (length asked.lent.store)) s ≡ true
      → Excepted asked s

-- ---- no 6

-- no call of a list gives 6, each from the state that the last one left
abbrev pub NoneGives6 : List Asked → State → Type 0
NoneGives6 [] s = Unit {0}
NoneGives6 (call ∷ more) s = ((do_call call s).code ≡ 6 → ⊥) × NoneGives6 more (do_call call s).state

-- no step shows 6
abbrev pub NoneShows6 : List Shown → Type 0
NoneShows6 xs = All (λ (x : Shown). x.code ≡ 6 → ⊥) xs

-- a call that is lent a store, accepted or refused, is lent one of n bytes
abbrev pub LentBytes : ℕ → Asked → Type 0
LentBytes n asked = takes_store asked.call ≡ true → length asked.lent.store ≡ n

-- THE PREMISE on the host: legs are handed over empty; the store's length was given at the start, or stores have one length
pub record Careful (g : Making) (calls : List Asked) : Type 0 where
  pub legs_empty : any (λ (asked : Asked). brings_packets asked.call) calls ≡ false
  pub one_length : (g.length ≡ 0 → ⊥) ⊎ ((n : ℕ) × All (LentBytes n) calls)

-- ---- the same of what code shows

-- a step from s that shows 6; one refused for a short table shows 5
abbrev pub SixExcepted : State → Taken → Type 0
SixExcepted s (did call x) = x.code ≡ 6 → Excepted call s
SixExcepted s (refused_short call x) = x.code ≡ 6 → ⊥

-- each step of a list
abbrev pub SixesExcepted : State → List Taken → Type 0
SixesExcepted s [] = Unit {0}
SixesExcepted s (t ∷ steps) = SixExcepted s t × SixesExcepted (shown_of t).state steps

-- ---- the claims

pub record OwnCalls : Type 0 where
  -- whatever the calls before it and whatever they were lent
  pub only_excepted : (g : Making) (calls : List Asked) (call : Asked) → new_code g ≡ 0
      → (do_call call (reached g calls)).code ≡ 6 → Excepted call (reached g calls)
  pub never : (g : Making) (calls : List Asked) → new_code g ≡ 0 → Careful g calls → NoneGives6 calls (new g)
  -- over a list of steps, each of which keeps the promise of its call (Port, `Promise`; PortTheorem, `grows`)
  pub shown_only_excepted : (g : Making) (steps : List Taken) → new_code g ≡ 0 → Performed (new g) steps → SixesExcepted (new g) steps
  pub never_shown : (g : Making) (steps : List Taken) → new_code g ≡ 0 → Performed (new g) steps → Careful g (calls_of steps)
      → NoneShows6 (all_shown steps)
