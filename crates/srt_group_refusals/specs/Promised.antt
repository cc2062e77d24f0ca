-- THE PROMISE of a public call (srt_group_traces, `Promise`), over the record and the lent tables before and after it.
use Rattle.srt_protocol.specs.Errors.{Outcome}
use Rattle.std.specs.Prelude.{◌≡◌, Bool, ◌||◌, List, [], ℕ, ltb, length, Err, Ok}
use Rattle.srt_group_model.specs.Guards.{Answer, no_answer}
use Rattle.srt_group_model.specs.Lent.{Lent, Call}
use Rattle.srt_connection_queue.specs.Rows.{row_size}
use Rattle.srt_group_traces.specs.Statement.{Asked}
use Rattle.srt_group_traces.specs.Port.{Shown, Promise}
use Rattle.srt_group_shown.specs.Tables.{Parts, Tables, state_of}
use Rattle.srt_group_shown.specs.Ready.{storing}
use Rattle.srt_group_refusals.specs.Begins.{are_short}

-- beside the tables nothing is lent
abbrev pub nothing_lent : Lent
nothing_lent = storing []

-- the answer of a call: none where it is refused
abbrev pub answered : Outcome → Answer → Answer
answered (Ok tt) given = given
answered (Err e) given = no_answer

-- an answer of one form says what another does: the same code, and the same is given
pub record Answers (code : ℕ) (given : Answer) (number : ℕ) (answer : Answer) : Type 0 where
  pub same_code : number ≡ code
  pub same_answer : answer ≡ given

-- the call, and what it is lent beside the tables
abbrev pub asking : Call → Lent → Asked
asking call bytes = record { call = call; lent = bytes }

-- what is shown of it: the state of the record and the tables, the bytes lent, the code, the answer, the rows of the list that it filled
unfoldable pub showing : Parts → Tables → Lent → (code : ℕ) → Answer → (rows : ℕ) → Shown
showing p t bytes code answer rows =
    record { state = state_of p t; lent = bytes; code = code; answer = answer; rows = rows }

-- the same, with a code and an answer of another form
abbrev pub answering : (code : ℕ) → Answer → Shown → Shown
answering code answer x = record { state = x.state; lent = x.lent; code = code; answer = answer; rows = x.rows }

-- with a table too short: 5, and nothing has changed. Else code, answer, state and bytes are those of the call's definition.
pub record Promised (call : Call) (p : Parts) (t : Tables) (bytes : Lent) (x : Shown) : Type 0 where
  pub holds : Promise (are_short t) (asking call bytes) (state_of p t) x

-- ---- a call that is lent a row of the members' table too: the leg that it is handed, or that it gives back

-- the row has fewer words than it takes
abbrev pub row_short : List ℕ → Bool
row_short row = ltb (length row) row_size

-- with the row or a table too short: 5, and nothing has changed. Else the same promise.
pub record PromisedRow (call : Call) (p : Parts) (t : Tables) (row : List ℕ) (x : Shown) : Type 0 where
  pub holds : Promise (row_short row || are_short t) (asking call nothing_lent) (state_of p t) x
