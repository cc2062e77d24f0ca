-- THE PROMISE of a public call that is lent its record as a row of words and puts its answer into another, and that of its form for a
-- valid state. The words of an answer are document 01's values (srt_group_model Answers, `values_of`).
use Rattle.std.specs.Prelude.{◌≡◌, Bool, true, false, not, ◌||◌, List, [], ◌∷◌, ◌++◌, ℕ, zero, suc, ◌-◌, ◌≤◌, eqb, ltb, length, drop}
use Rattle.srt_protocol.specs.Errors.{outcome_number}
use Rattle.srt_protocol.specs.Cells.{overwritten}
use Rattle.srt_group_model.specs.Tools.{if_true◌then◌else◌}
use Rattle.srt_group_model.specs.State.{State, Making}
use Rattle.srt_group_model.specs.Guards.{Answer, no_answer}
use Rattle.srt_group_model.specs.Lent.{Lent, Call, perform}
use Rattle.srt_group_model.specs.Answers.{values_of}
use Rattle.cell_set.specs.Bits.{set_size}
use Rattle.srt_group_traces.specs.Port.{Promise, shows_new}
use Rattle.srt_group_shown.specs.Tables.{Parts, Tables, state_of}
use Rattle.srt_group_shown.specs.Ready.{Ready, Performs}
use Rattle.srt_group.specs.Made.{parts_of}
use Rattle.srt_group.specs.declared.Group.{Group}
use Rattle.srt_group_refusals.specs.Begins.{are_short, begun_stored}
use Rattle.srt_group_refusals.specs.Promised.{asking, showing}
use Rattle.srt_group_words.specs.Record.{record_size, group_of, group_words}

-- ---- the words of an answer

unfoldable pub zeros : ℕ → List ℕ
zeros zero = []
zeros (suc n) = 0 ∷ zeros n

-- what a call says of its answer and of the rows of the list that it filled
abbrev pub Says : Type 0
Says = Answer → (rows : ℕ) → List ℕ

-- nothing: its code is all, or its answer stands in a lent row or list
abbrev pub silent : Says
silent given rows = []

-- the answer's values, and 0 behind them; all of them 0 where the call is refused
unfoldable pub in_words : (size : ℕ) → Says
in_words size given rows = values_of given ++ zeros (size - length (values_of given))

-- a send: on how many legs, and how many rows of the list it filled
unfoldable pub sent_words : Says
sent_words given rows = in_words 1 given rows ++ (rows ∷ [])

-- ---- what a call is lent, in words

-- the record, the tables, the bytes and the answer's row
pub record Words : Type 0 where
  pub group : List ℕ
  pub tables : Tables
  pub bytes : Lent
  pub answer : List ℕ

abbrev pub words : (group : List ℕ) → Tables → Lent → (answer : List ℕ) → Words
words group t bytes answer = record { group = group; tables = t; bytes = bytes; answer = answer }

abbrev pub parts_in : Words → Parts
parts_in w = parts_of (group_of w.group)

abbrev pub state_in : Words → State
state_in w = state_of (parts_in w) w.tables

-- the record has fewer words than it takes, or the answer's row fewer than the call says
abbrev pub are_few : Says → Words → Bool
are_few says w = ltb (length w.group) record_size || ltb (length w.answer) (length (says no_answer 0))

-- ---- a public call

-- With the record, the answer's row, another lent row (`other`) or a table too short: 5, and nothing has changed. Else code, answer, state and
-- bytes are those of the call's definition, and the answer's row says the answer; words behind these stay as they were.
pub record PromisedWords (call : Call) (says : Says) (other : Bool) (before : Words) (code : ℕ) (after : Words) : Type 0 where
  pub given : Answer
  pub rows : ℕ
  pub holds : Promise ((are_few says before || other) || are_short before.tables) (asking call before.bytes) (state_in before)
      (showing (parts_in after) after.tables after.bytes code given rows)
  pub said : after.answer ≡ (if_true are_few says before then before.answer else overwritten 0 (says given rows) before.answer)
  pub behind : drop record_size after.group ≡ drop record_size before.group

-- the same with the answer, of a call whose answer stands in a lent row
pub record Gives (call : Call) (says : Says) (other : Bool) (before : Words) (code : ℕ) (after : Words) (given : Answer) : Type 0 where
  pub promised : PromisedWords call says other before code after
  pub is : promised.given ≡ given

-- the code of an answer, and its words over the first ones of the row
pub record Said (number : ℕ) (values : List ℕ) (code : ℕ) (answer answer' : List ℕ) : Type 0 where
  pub same : code ≡ number
  pub said : answer' ≡ overwritten 0 values answer

-- the same, and the record that the call leaves is put back
pub record PutSaid (g : Group) (number : ℕ) (values : List ℕ) (group answer : List ℕ) (code : ℕ) (group' answer' : List ℕ) : Type 0 where
  pub put : group' ≡ overwritten 0 (group_words g) group
  pub same : code ≡ number
  pub said : answer' ≡ overwritten 0 values answer

-- the same of a call that answers by its code alone
pub record PutBack (g : Group) (number : ℕ) (group : List ℕ) (code : ℕ) (group' : List ℕ) : Type 0 where
  pub put : group' ≡ overwritten 0 (group_words g) group
  pub same : code ≡ number

-- ---- its form for a valid state

-- the record has its words, and the form may be called
pub record ReadyWords (group : List ℕ) (t : Tables) (store : ℕ) (used : List ℕ) : Type 0 where
  pub long : record_size ≤ length group
  pub ready : Ready (parts_of (group_of group)) t store used

-- The call is its definition, with the bytes and the rows; the answer's row says the answer; and what it rests on holds again.
pub record PerformsWords (call : Call) (says : Says) (before : Words) (code : ℕ) (after : Words) (used' : List ℕ) : Type 0 where
  pub given : Answer
  pub rows : ℕ
  pub performs : Performs call (parts_in before) before.tables before.bytes code given (parts_in after) after.tables after.bytes used'
  pub filled : rows ≡ (perform call before.bytes (state_in before)).rows
  pub said : after.answer ≡ overwritten 0 (says given rows) before.answer
  pub behind : drop record_size after.group ≡ drop record_size before.group
  pub ready : ReadyWords after.group after.tables (length after.bytes.store) used'

pub record PerformsGives (call : Call) (says : Says) (before : Words) (code : ℕ) (after : Words) (used' : List ℕ) (given : Answer) : Type 0 where
  pub performs : PerformsWords call says before code after used'
  pub is : performs.given ≡ given

-- ---- `new`

-- over any tables and bytes: accepted, the words show a fresh group; refused, with 2 or 1, what they showed
pub record MadeWords (making : Making) (group : List ℕ) (code : ℕ) (group' : List ℕ) : Type 0 where
  pub holds : (t : Tables) (bytes : Lent)
      → record { state = state_of (parts_of (group_of group')) t; lent = bytes; code = code; answer = no_answer; rows = 0 }
      ≡ shows_new making bytes (state_of (parts_of (group_of group)) t)
  pub behind : drop record_size group' ≡ drop record_size group

-- a record too short: 5, and it stays as it was
pub record NotMade (group : List ℕ) (code : ℕ) (group' : List ℕ) : Type 0 where
  pub refused : code ≡ 5
  pub same : group' ≡ group

abbrev pub NewBy : (short : Bool) → Making → (group : List ℕ) → (code : ℕ) → (group' : List ℕ) → Type 0
NewBy true making group code group' = NotMade group code group'
NewBy false making group code group' = MadeWords making group code group'

abbrev pub PromisedNewWords : Making → (group : List ℕ) → (code : ℕ) → (group' : List ℕ) → Type 0
PromisedNewWords making group code group' = NewBy (ltb (length group) record_size) making group code group'

-- ---- how a call begins

-- How a host that is the only writer begins: 5 and 6 are tested once, and the set of used cells is filled. A record too short or a set of
-- another length than 32 words is 5.
abbrev pub set_unfit : (group used : List ℕ) → Bool
set_unfit group used = ltb (length group) record_size || not (eqb (length used) set_size)

pub record BeginsValid (group : List ℕ) (t : Tables) (store : ℕ) (used : List ℕ) (code : ℕ) (used' : List ℕ) : Type 0 where
  pub is : code ≡ (if_true set_unfit group used then 5 else outcome_number (begun_stored (parts_of (group_of group)) t store))
  pub ready : code ≡ 0 → ReadyWords group t store used'
