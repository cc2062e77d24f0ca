-- What is read of the legs' rows: the state of the leg with an id, and which rows the words of a list are.
use Rattle.std.specs.Prelude.{List, [], ◌∷◌, ℕ, zero, suc, eqb, get_or, drop}
use Rattle.srt_group_model.specs.Tools.{if_true◌then◌else◌, if_some◌give◌otherwise◌, first_such}
use Rattle.srt_group_model.specs.State.{State}
use Rattle.srt_group_model.specs.Members.{has_id}
use Rattle.srt_group_looks.specs.Looks.{member_row_size}
use Rattle.srt_group_leg_rows.specs.declared.LegRow.{LegRow}

-- document 01's code for an unknown leg, which is no state of a leg
abbrev pub unknown_leg : ℕ
unknown_leg = 3

-- the state in the first row that has the id
unfoldable pub state_among : (id : ℕ) → List LegRow → ℕ
state_among id [] = unknown_leg
state_among id (row ∷ rows) = if_true eqb row.id id then row.state else state_among id rows

-- the model's answer: the state of the leg with that id
unfoldable pub leg_state : (id : ℕ) → State → ℕ
leg_state id s = if_some first_such (has_id id) s.members give (λ m. m.leg.link.state) otherwise unknown_leg

-- ---- the rows in the words of a list

-- the words at its front as a row
abbrev pub front_row : List ℕ → LegRow
front_row words =
    record {
      id = get_or words 0 0;
      weight = get_or words 1 0;
      label = get_or words 2 0;
      state = get_or words 3 0;
      admitted = get_or words 4 0;
      reserved = get_or words 5 0;
      expected = get_or words 6 0;
      actual = get_or words 7 0;
    }

-- the first n rows
unfoldable pub rows_in : (n : ℕ) → List ℕ → List LegRow
rows_in zero words = []
rows_in (suc n) words = front_row words ∷ rows_in n (drop member_row_size words)
