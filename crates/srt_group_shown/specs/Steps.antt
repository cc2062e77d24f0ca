-- A call that is lent no store, after 5 and 6: what it rests on, and what it promises.
use Rattle.std.specs.Prelude.{◌≡◌, false, List, [], ℕ, None}
use Rattle.srt_group_model.specs.declared.Core.{Core}
use Rattle.srt_group_model.specs.declared.Identity.{Identity}
use Rattle.srt_group_model.specs.declared.Sending.{Sending}
use Rattle.srt_group_model.specs.State.{State}
use Rattle.srt_group_model.specs.Guards.{Answer, no_answer, Step}
use Rattle.srt_group_model.specs.Calls.{breaks_rule}
use Rattle.srt_group_model.specs.Lent.{Call, step_of}
use Rattle.srt_group_model.specs.Laws.CellsMoved.{Keeps}
use Rattle.srt_group_tables.specs.declared.history.HistoryRing.{HistoryRing}
use Rattle.srt_group_shown.specs.Tables.{Parts, parts, Tables, tables, state_of, Long}

-- the tables are long enough, and 6 would not be given by a call that is lent no store
pub record Unbroken (p : Parts) (t : Tables) : Type 0 where
  pub long : Long t
  pub valid : breaks_rule (state_of p t) ≡ false

-- what is left by a step that puts no payload and sends nothing; its log is in no state
pub record Left (x : Step) (number : ℕ) (given : Answer) (s : State) : Type 0 where
  pub code : x.code ≡ number
  pub answer : x.answer ≡ given
  pub state : x.state ≡ s
  pub put : x.put ≡ None
  pub sends : x.sends ≡ []

-- the call is its definition, whatever is lent beside the tables
pub record Steps (call : Call) (p : Parts) (t : Tables) (number : ℕ) (given : Answer) (p' : Parts) (t' : Tables) : Type 0 where
  pub step : (store output list : ℕ) → Left (step_of store output list call (state_of p t)) number given (state_of p' t')
  pub long : Long t'

-- the same, and the same cells are in use
pub record StepsKeeping (call : Call) (p : Parts) (t : Tables) (number : ℕ) (given : Answer) (p' : Parts) (t' : Tables) : Type 0 where
  pub steps : Steps call p t number given p' t'
  pub keeps : Keeps (state_of p t) (state_of p' t')

-- a call that touches the members alone and answers nothing: the same, over whatever it does not touch
pub record StepsOver (call : Call) (core : Core) (members : List ℕ) (number : ℕ) (members' : List ℕ) : Type 0 where
  pub over : (identity : Identity) (sending : Sending) (ring : HistoryRing) (pending waiting history sources : List ℕ)
      → Unbroken (parts identity core sending ring) (tables members pending waiting history sources)
      → StepsKeeping call (parts identity core sending ring) (tables members pending waiting history sources) number no_answer
      (parts identity core sending ring) (tables members' pending waiting history sources)
