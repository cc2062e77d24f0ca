-- The theorem speaks about the port. What a port shows of a call is its state, the bytes and rows lent, its code and its answer; it
-- has no log. Each call of a list shows what the model's call gives, from the state that the last one left, or was refused
-- because a lent table is too short, which is no call of the model and changes nothing. The four claims are here about what is
-- shown: the base and its first value, the clerk's list, the skips, two ports. The list that the theorem is applied to is that
-- of the calls without those refusals. So once the code is proved equal to the model, call by call, the claims are about the
-- code.
use Rattle.std.specs.Prelude.{◌≡◌, Bool, true, false, List, [], ◌∷◌, ◌++◌, ℕ, ◌+◌, eqb, None, Option, Some}
use Rattle.srt_protocol.specs.Sequence.{sequence_distance}
use Rattle.srt_group_model.specs.Tools.{if_true◌then◌else◌, if_some◌give◌otherwise◌}
use Rattle.srt_group_model.specs.State.{State, next_receive_sequence, Making}
use Rattle.srt_group_model.specs.Guards.{Answer, no_answer}
use Rattle.srt_group_model.specs.Lent.{Lent, Result, delivered_by}
use Rattle.srt_group_model.specs.Calls.{new_code, new}
use Rattle.srt_group_traces.specs.Statement.{Told, Fair, Raised, Asked, do_call, Delivery, delivery_of, counts_of, skipped_in}

-- ---- what a port shows of a call

pub record Shown : Type 0 where
  pub state : State
  pub lent : Lent
  pub code : ℕ
  pub answer : Answer
  pub rows : ℕ

abbrev pub shows : Result → Shown
shows r = record { state = r.state; lent = r.lent; code = r.code; answer = r.answer; rows = r.rows }

-- of a call that is lent a table too short for its rows: code 5, and all else as it was
abbrev pub shows_short : Asked → State → Shown
shows_short call s = record { state = s; lent = call.lent; code = 5; answer = no_answer; rows = 0 }

-- A step: a call, and what the port shows of it. It did what the model does, or refused the call for a short table.
pub data Taken : Type 0 where
  did : Asked → Shown → Taken
  refused_short : Asked → Shown → Taken

abbrev pub shown_of : Taken → Shown
shown_of (did call x) = x
shown_of (refused_short call x) = x

-- what the steps of a list show
unfoldable pub all_shown : List Taken → List Shown
all_shown [] = []
all_shown (t ∷ steps) = shown_of t ∷ all_shown steps

-- the calls of a list, without those refusals: what the theorem is applied to
unfoldable pub calls_of : List Taken → List Asked
calls_of [] = []
calls_of (did call x ∷ steps) = call ∷ calls_of steps
calls_of (refused_short call x ∷ steps) = calls_of steps

-- what a step shows from a state
abbrev pub TakenFrom : State → Taken → Type 0
TakenFrom s (did call x) = x ≡ shows (do_call call s)
TakenFrom s (refused_short call x) = x ≡ shows_short call s

-- each step of a list from the state that the last one left
abbrev pub Performed : State → List Taken → Type 0
Performed s [] = Unit {0}
Performed s (t ∷ steps) = TakenFrom s t × Performed (shown_of t).state steps

-- ---- what the promise of a public call says

-- what a call shows is what its definition gives: code, answer, state, bytes and the rows filled
pub record Does (asked : Asked) (s : State) (x : Shown) : Type 0 where
  pub code : x.code ≡ (do_call asked s).code
  pub answer : x.answer ≡ (do_call asked s).answer
  pub state : x.state ≡ (do_call asked s).state
  pub lent : x.lent ≡ (do_call asked s).lent
  pub rows : x.rows ≡ (do_call asked s).rows

-- THE PROMISE of every public call but `new`, from the state s that stands. `short`: a lent table is too short for its rows, which is
-- tested before all else; the call is refused with 5 and nothing changes. Else it does what its definition says.
abbrev pub Promise : (short : Bool) → Asked → State → Shown → Type 0
Promise true asked s x = x ≡ shows_short asked s
Promise false asked s x = Does asked s x

-- the step that it makes
abbrev pub step_made : (short : Bool) → Asked → Shown → Taken
step_made true asked x = refused_short asked x
step_made false asked x = did asked x

-- THE PROMISE of `new`: accepted, a fresh group; refused, with 2 or 1, what stood in its place stays
abbrev pub shows_new : Making → Lent → State → Shown
shows_new g lent s =
    record {
      state = if_true eqb (new_code g) 0 then new g else s;
      lent = lent;
      code = new_code g;
      answer = no_answer;
      rows = 0;
    }

-- ---- what the customer sees of that

unfoldable pub shown_delivery : Shown → List Delivery
shown_delivery x = if_some delivered_by x.answer give (λ p. delivery_of p x.lent.output ∷ []) otherwise []

unfoldable pub shown_deliveries : List Shown → List Delivery
shown_deliveries [] = []
shown_deliveries (x ∷ xs) = shown_delivery x ++ shown_deliveries xs

-- what the clerk is told of a step, a refused one too
abbrev pub told_of : Shown → Told
told_of x =
    record {
      skipped = skipped_in x.state;
      delivered = if_some delivered_by x.answer give (λ p. true) otherwise false;
    }

unfoldable pub shown_told : List Shown → List Told
shown_told [] = []
shown_told (x ∷ xs) = told_of x ∷ shown_told xs

-- the state that a port shows last
unfoldable pub last_shown : State → List Shown → State
last_shown s [] = s
last_shown s (x ∷ xs) = last_shown x.state xs

-- the place at which it then shows the base: the counts that it has shown as delivered, and the skipped count that it shows
abbrev pub place_shown : Making → List Taken → ℕ
place_shown g steps = counts_of (shown_deliveries (all_shown steps)) + skipped_in (last_shown (new g) (all_shown steps))

-- ---- the base

-- a base that a step shows, less what the step shows as delivered and skipped
abbrev pub less_moved : Shown → ℕ → ℕ
less_moved x base = sequence_distance (counts_of (shown_delivery x) + skipped_in x.state) base

-- The first value of the base, by what is shown: of the first step that shows a base. Before the base is set nothing is delivered
-- and nothing skipped, so what that step shows is all that the base has moved.
unfoldable pub first_shown : List Shown → Option ℕ
first_shown [] = None
first_shown (x ∷ xs) =
    if_some next_receive_sequence x.state.receive
    give (λ base. Some (less_moved x base))
    otherwise first_shown xs

-- ---- skips

-- a step that raises the skipped count made a right skip; a refusal raises nothing
abbrev pub SkipShown : State → Taken → Type 0
SkipShown s (did call x) = (skipped_in x.state ≡ skipped_in s → ⊥) → Raised s call.call (delivered_by x.answer) x.state
SkipShown s (refused_short call x) = skipped_in x.state ≡ skipped_in s

-- each step of a list
abbrev pub SkipsShown : State → List Taken → Type 0
SkipsShown s [] = Unit {0}
SkipsShown s (t ∷ steps) = SkipShown s t × SkipsShown (shown_of t).state steps

-- ---- two ports

-- what is shown up to the next skip: up to the first step that shows another skipped count, without it
unfoldable pub shown_until_skip : ℕ → List Shown → List Shown
shown_until_skip known [] = []
shown_until_skip known (x ∷ xs) =
    if_true eqb (skipped_in x.state) known then x ∷ shown_until_skip known xs else []

-- A port over a schedule: a group, its steps up to some time and those after it, from new; the calls meet the premises.
pub record Port (schedule : List Delivery) (first : ℕ) : Type 0 where
  pub making : Making
  pub before : List Taken
  pub after : List Taken
  pub performed : Performed (new making) (before ++ after)
  pub fair : Fair schedule first making (calls_of (before ++ after))

module _ (schedule : List Delivery) (first : ℕ) where
  -- the state that it shows then
  abbrev pub port_state : Port schedule first → State
  port_state w = last_shown (new w.making) (all_shown w.before)

  -- the place at which it stands then
  abbrev pub port_place : Port schedule first → ℕ
  port_place w = place_shown w.making w.before

  -- what it shows as delivered from then on, up to its next skip
  abbrev pub port_delivers : Port schedule first → List Delivery
  port_delivers w = shown_deliveries (shown_until_skip (skipped_in (port_state w)) (all_shown w.after))
