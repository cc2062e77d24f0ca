-- The promise of a look, and document 01's code and values for each of its answers.
use Rattle.srt_protocol.specs.declared.error.Error.{Error}
use Rattle.std.specs.Prelude.{◌≡◌, Bool, true, false, List, ℕ, ◌*◌, ltb, length, Err, Ok, Result, Some}
use Rattle.srt_protocol.specs.Errors.{error_number}
use Rattle.srt_protocol.specs.Cells.{overwritten}
use Rattle.srt_group_model.specs.Tools.{first_such}
use Rattle.srt_group_model.specs.Members.{has_id}
use Rattle.srt_group_model.specs.Validity.{max_members}
use Rattle.srt_group_model.specs.Guards.{Answer, no_answer, shown, truth, about_member}
use Rattle.srt_group_model.specs.Lent.{Look, look_members, looking, call_look}
use Rattle.srt_group_model.specs.Answers.{values_of}
use Rattle.srt_connection_queue.specs.Rows.{member_of}
use Rattle.srt_group_shown.specs.Tables.{Parts, Tables, state_of}
use Rattle.srt_group_backup.specs.Stale.{TripFit}
use Rattle.srt_group_refusals.specs.Promised.{nothing_lent, showing, Promised}

-- with a table too short 5; else code and answer are those of the look's definition. The record, the tables stay as they were.
abbrev pub Looked : Look → Parts → Tables → (code : ℕ) → Answer → Type 0
Looked look p t code answer = Promised (call_look look) p t nothing_lent (showing p t nothing_lent code answer 0)

-- ---- what a look gives: code, and what is shown of the value

abbrev pub given_code : {A : Type 0} → Result A Error → ℕ
given_code (Ok x) = 0
given_code (Err e) = error_number e

abbrev pub given_answer : {A : Type 0} → (A → Answer) → Result A Error → Answer
given_answer says (Ok x) = says x
given_answer says (Err e) = no_answer

abbrev pub LookGives : {A : Type 0} → (A → Answer) → Look → Parts → Tables → Result A Error → Type 0
LookGives says look p t r = Looked look p t (given_code r) (given_answer says r)

-- a flag
abbrev pub truth_code : Result Bool Error → ℕ
truth_code r = given_code r

abbrev pub truth_answer : Result Bool Error → Answer
truth_answer r = given_answer (λ b. shown (truth b)) r

-- ---- a look at one member: the row that shows it, or the refusal of every such look

pub record RowFound (id : ℕ) (p : Parts) (t : Tables) (row : List ℕ) : Type 0 where
  pub looks : (look : Look) → (looking look).about ≡ about_member id → Looked look p t 0 (shown ((looking look).shows (state_of p t)))
  pub is : first_such (has_id id) (state_of p t).members ≡ Some (member_of row)
  pub trip : TripFit (member_of row).leg

pub record LooksRefused (id : ℕ) (p : Parts) (t : Tables) (e : Error) : Type 0 where
  pub looks : (look : Look) → (looking look).about ≡ about_member id → Looked look p t (error_number e) no_answer

-- ---- `members`: its answer stands in the lent list

-- the words of a row (Answers `member_values`), and of the list
abbrev pub member_row_size : ℕ
member_row_size = 8

abbrev pub members_list_size : ℕ
members_list_size = max_members * member_row_size

abbrev pub rows_filled : Result ℕ Error → ℕ
rows_filled (Ok n) = n
rows_filled (Err e) = 0

-- the answer of the definition is written over the list's first words, a row for each member, and the others stay
pub record Listed (p : Parts) (t : Tables) (list : List ℕ) (r : Result ℕ Error) (list' : List ℕ) : Type 0 where
  pub answer : Answer
  pub looked : Looked look_members p t (given_code r) answer
  pub is : list' ≡ overwritten 0 (values_of answer) list
  pub rows : length (values_of answer) ≡ rows_filled r * member_row_size

-- a list shorter than 64 rows: 5, and the list stays as it was
pub record TooShort (list : List ℕ) (r : Result ℕ Error) (list' : List ℕ) : Type 0 where
  pub code : given_code r ≡ 5
  pub same : list' ≡ list

abbrev pub ListsBy : Bool → Parts → Tables → (list : List ℕ) → Result ℕ Error → (list' : List ℕ) → Type 0
ListsBy true p t list r list' = TooShort list r list'
ListsBy false p t list r list' = Listed p t list r list'

abbrev pub ListsMembers : Parts → Tables → (list : List ℕ) → Result ℕ Error → (list' : List ℕ) → Type 0
ListsMembers p t list r list' = ListsBy (ltb (length list) members_list_size) p t list r list'
