-- What is proved of the definitions in specs/Legs.antt: over a list that `members` filled, the state among its rows is the model's.
use Rattle.srt_protocol.specs.declared.error.Error.{Error}
use Rattle.std.specs.Prelude.{◌≡◌, refl, Bool, ℕ, ◌+◌, ◌*◌, eqb, cond, drop, None, Option, Result, Some, MatchOption}
use Rattle.std.specs.List.{find}
use Rattle.std.specs.Option.{option_map}
use denote.Ref.{Bor}
use Rattle.std.proofs.Common.{sym, ◌∙◌, arith, length-append}
use Rattle.std.proofs.Math.Path.{ap}
use Rattle.std.proofs.Math.Bool.{true, false}
use mathlib.Core.List.{List, [], ◌∷◌, ◌++◌}
use Rattle.std.proofs.Math.ListN.{length}
use Rattle.srt_protocol.specs.Cells.{overwritten}
use Rattle.srt_group_model.specs.Tools.{if_true◌then◌else◌, if_some◌give◌otherwise◌, first_such, each}
use Rattle.srt_group_model.specs.State.{Member}
use Rattle.srt_group_model.specs.Members.{has_id}
use Rattle.srt_group_model.specs.Guards.{Answer, shown, all_members}
use Rattle.srt_group_model.specs.Calls.{member_shown, members_call}
use Rattle.srt_group_model.specs.Lent.{look_members, looking, call_look}
use Rattle.srt_group_model.specs.Answers.{member_values, all_values, shown_values, values_of}
use Rattle.srt_group_model.specs.Laws.Answers.{call_answers}
use Rattle.srt_group_traces.specs.Statement.{do_call}
use Rattle.srt_group_traces.specs.Port.{Shown, Promise}
use Rattle.srt_group_shown.specs.Tables.{Parts, Tables, state_of}
use Rattle.srt_group_refusals.specs.Begins.{are_short}
use Rattle.srt_group_refusals.specs.Promised.{nothing_lent, asking, showing}
use Rattle.srt_group_looks.specs.Looks.{member_row_size, given_code, rows_filled, Listed}
use Rattle.srt_group_looks.specs.Laws.Members.{eight_words}
use Rattle.srt_group_leg_rows.specs.declared.LegRow.{LegRow}
use Rattle.srt_group_leg_rows.specs.Legs.{unknown_leg, state_among, leg_state, front_row, rows_in}

-- ---- the row that is found

-- the state of a row, if one is given
abbrev pub state_or : Option LegRow → ℕ
state_or None = unknown_leg
state_or (Some row) = row.state

pub found_state : (id : ℕ) (rows : List LegRow) → state_or (find (λ row. eqb row.id id) rows) ≡ state_among id rows
unfolding state_among if_true◌then◌else◌
found_state id [] = refl
found_state id (row ∷ rows) = go (eqb row.id id) (found_state id rows)
  where
    go : (b : Bool) → state_or (find (λ row. eqb row.id id) rows) ≡ state_among id rows
        → state_or (cond b (Some row) (find (λ row. eqb row.id id) rows)) ≡ (if_true b then row.state else state_among id rows)
    go true later = refl
    go false later = later

pub state_mapped : (o : Option (Bor LegRow)) (answer : ℕ) → MatchOption o (answer ≡ unknown_leg) (λ row. answer ≡ row.now.state)
    → answer ≡ state_or (option_map (λ row. row.now) o)
state_mapped None answer is = is
state_mapped (Some row) answer is = is

-- ---- rows of members

-- the row of a member
abbrev row_of : Member → LegRow
row_of m = front_row (member_values (member_shown m))

-- the state among the rows of members is that of the first member with the id
state_of_members : (id : ℕ) (ms : List Member)
    → state_among id (each row_of ms) ≡ (if_some first_such (has_id id) ms give (λ m. m.leg.link.state) otherwise unknown_leg)
unfolding state_among each first_such if_true◌then◌else◌ if_some◌give◌otherwise◌
state_of_members id [] = refl
state_of_members id (m ∷ ms) = by_test (eqb m.membership.id id) (first_such (has_id id) ms) (state_of_members id ms)
  where
    by_test : (b : Bool) (found : Option Member) {later : ℕ} → later ≡ (if_some found give (λ x. x.leg.link.state) otherwise unknown_leg)
        → (if_true b then m.leg.link.state else later) ≡ (if_some (if_true b then Some m else found) give (λ x. x.leg.link.state) otherwise unknown_leg)
    by_test true found same = refl
    by_test false found same = same

-- the rows in the words of members, whatever stands behind them
rows_of_members : (ms : List Member) (behind : List ℕ) → rows_in (length ms) (all_values (each member_shown ms) ++ behind) ≡ each row_of ms
unfolding rows_in each all_values
rows_of_members [] behind = refl
rows_of_members (m ∷ ms) behind = ap (λ (rows : List LegRow). row_of m ∷ rows) (rows_of_members ms behind)

values_length : (ms : List Member) → length (all_values (each member_shown ms)) ≡ length ms * member_row_size
unfolding all_values each
values_length [] = refl
values_length (m ∷ ms) =
    omega (arith, values_length ms, length-append (member_values (member_shown m)) (all_values (each member_shown ms)), eight_words (member_shown m))

-- ---- a list that `members` filled

module _ (p : Parts) (t : Tables) where
  abbrev members : List Member
  members = (state_of p t).members

  -- what `members` answers where it is accepted
  answered : (short : Bool) {code : ℕ} {answer : Answer} → Promise short (asking (call_look look_members) nothing_lent) (state_of p t) (showing p t nothing_lent code answer 0)
      → code ≡ 0 → answer ≡ shown (all_members (each member_shown members))
  unfolding showing do_call looking members_call
  answered true is accepted = absurd (omega (arith, accepted, ap (λ (x : Shown). x.code) is))
  answered false does accepted = does.answer ∙ call_answers (call_look look_members) nothing_lent (state_of p t) (sym does.code ∙ accepted)

  -- over the rows that an accepted `members` filled the state is the model's
  pub state_in_list : {list list' : List ℕ} {r : Result ℕ Error} → Listed p t list r list' → given_code r ≡ 0
      → (id : ℕ) → state_among id (rows_in (rows_filled r) list') ≡ leg_state id (state_of p t)
  unfolding leg_state overwritten values_of shown_values
  state_in_list {list} {list'} {r} listed accepted id =
      let is = answered (are_short t) listed.looked.holds accepted in
      let filled : rows_filled r ≡ length members = omega (arith, listed.rows, ap (λ (a : Answer). length (values_of a)) is, values_length members) in
      ap (λ (words : List ℕ). state_among id (rows_in (rows_filled r) words)) (listed.is ∙ ap (λ (a : Answer). overwritten 0 (values_of a) list) is)
      ∙ ap (λ (n : ℕ). state_among id (rows_in n (overwritten 0 (all_values (each member_shown members)) list))) filled
      ∙ ap (state_among id) (rows_of_members members (drop (0 + length (all_values (each member_shown members))) list))
      ∙ state_of_members id members
