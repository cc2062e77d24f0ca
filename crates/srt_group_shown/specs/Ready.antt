-- The forms of the calls for a valid state: what each rests on, and what each promises.
use Rattle.std.specs.Prelude.{◌≡◌, false, List, [], ℕ, length}
use Rattle.srt_protocol.specs.Cells.{cells_of}
use Rattle.srt_group_model.specs.Validity.{is_invalid}
use Rattle.srt_group_model.specs.Guards.{Answer}
use Rattle.srt_group_model.specs.Calls.{store_unfit}
use Rattle.srt_group_model.specs.Lent.{Lent, Call, perform}
use Rattle.cell_set.specs.Shows.{Shows}
use Rattle.srt_group_shown.specs.Tables.{Parts, Tables, state_of, Long}

-- the tables are long enough, codes 5 (of a store of this length) and 6 would not be given, and the words show the cells in use
pub record Ready (p : Parts) (t : Tables) (store : ℕ) (used : List ℕ) : Type 0 where
  pub long : Long t
  pub fits : store_unfit store (state_of p t) ≡ false
  pub valid : is_invalid (cells_of store) (state_of p t) ≡ false
  pub shows : Shows used (state_of p t)

-- what a form is lent beside the tables: a store, and an output too
abbrev pub storing : (store : List ℕ) → Lent
storing store = record { store = store; output = []; list = [] }

abbrev pub lending : (store output : List ℕ) → Lent
lending store output = record { store = store; output = output; list = [] }

-- a store and the list of sends
abbrev pub sending_into : (store list : List ℕ) → Lent
sending_into store list = record { store = store; output = []; list = list }

-- The call is its definition, with the bytes, and what it rests on holds again.
pub record Performs (call : Call) (p : Parts) (t : Tables) (bytes : Lent) (number : ℕ) (given : Answer) (p' : Parts) (t' : Tables) (bytes' : Lent) (used' : List ℕ) : Type 0 where
  pub code : number ≡ (perform call bytes (state_of p t)).code
  pub answer : given ≡ (perform call bytes (state_of p t)).answer
  pub state : state_of p' t' ≡ (perform call bytes (state_of p t)).state
  pub lent : bytes' ≡ (perform call bytes (state_of p t)).lent
  pub ready : Ready p' t' (length bytes'.store) used'
