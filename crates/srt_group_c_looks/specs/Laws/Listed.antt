-- `members` in words.
use Rattle.srt_protocol.specs.declared.error.Error.{Error}
use Rattle.std.specs.Prelude.{◌≡◌, refl, Bool, ◌||◌, List, [], ◌∷◌, ℕ, ◌*◌, ◌/◌, ◌≤◌, ◌<◌, ltb, length, Err, Ok, Result}
use Rattle.std.proofs.Common.{sym, subst, ◌∙◌, arith}
use Rattle.std.proofs.Math.Path.{ap}
use Rattle.std.proofs.Math.Bool.{true, false}
use Rattle.srt_protocol.specs.Cells.{overwritten}
use Rattle.srt_group_model.specs.Guards.{Answer, no_answer, shown, number}
use Rattle.srt_group_model.specs.Answers.{values_of, shown_values}
use Rattle.srt_group_model.specs.Lent.{look_members, call_look}
use Rattle.srt_group_traces.specs.Port.{Promise}
use Rattle.srt_group_sending.specs.Laws.SentList.{overwritten_by_nothing}
use Rattle.srt_group_shown.specs.Tables.{Tables, state_of}
use Rattle.srt_group.specs.Made.{parts_of}
use Rattle.srt_group.specs.declared.Group.{Group}
use Rattle.srt_group_refusals.specs.Begins.{are_short}
use Rattle.srt_group_refusals.specs.Promised.{nothing_lent, asking, showing}
use Rattle.srt_group_looks.specs.Looks.{given_code, given_answer, member_row_size, members_list_size, rows_filled, ListsBy, ListsMembers}
use Rattle.srt_group_words.specs.Record.{record_size, group_of}
use Rattle.srt_group_words.specs.Words.{zeros, in_words, words, Gives, Said}
use Rattle.srt_group_words.specs.Laws.Words.{record_gives, answer_gives, kept_gives}
use Rattle.srt_group_c_looks.specs.Listed.{listed_words, ListsWords}

nothing_listed : (list : List ℕ) → list ≡ overwritten 0 (values_of no_answer) list
unfolding values_of
nothing_listed list = sym (overwritten_by_nothing 0 list)

one_word : length (listed_words no_answer 0) ≡ 1
unfolding listed_words
one_word = refl

none_filled : (r : Result ℕ Error) → given_code r ≡ 5 → rows_filled r ≡ 0
none_filled (Ok n) h = absurd (omega (arith, h))
none_filled (Err e) h = refl

-- the word of how many rows were filled
pub listed_said : (r : Result ℕ Error) {code : ℕ} {a a' : List ℕ}
    → Said (given_code r) (in_words 1 (given_answer (λ n. shown (number n)) r) 0) code a a' → Said (given_code r) (rows_filled r ∷ []) code a a'
unfolding in_words values_of shown_values zeros
listed_said (Ok n) said = said
listed_said (Err e) said = said

filled : (n rows : ℕ) → n ≡ rows * member_row_size → rows ≡ n / member_row_size
filled n rows is = omega (arith, is)

module _ (w : List ℕ) (t : Tables) (answer list : List ℕ) where
  abbrev Lists : (code : ℕ) → (answer' list' : List ℕ) → Type 0
  Lists code answer' list' = ListsWords (words w t nothing_lent answer) code (words w t nothing_lent answer') list list'

  -- what is given is what is listed
  by_gives : {code : ℕ} {answer' list' : List ℕ} {given : Answer}
      → Gives (call_look look_members) listed_words (ltb (length list) members_list_size) (words w t nothing_lent answer) code
      (words w t nothing_lent answer') given
      → list' ≡ overwritten 0 (values_of given) list → Lists code answer' list'
  by_gives gives is =
      record { promised = gives.promised; listed = is ∙ ap (λ (g : Answer). overwritten 0 (values_of g) list) (sym gives.is) }

  pub listed_few : length w < record_size → Lists 5 answer list
  listed_few short = by_gives (record_gives short) (nothing_listed list)

  pub listed_no_room : length answer < 1 → Lists 5 answer list
  listed_no_room short = by_gives (answer_gives (omega (arith, one_word))) (nothing_listed list)

  module _ (long : record_size ≤ length w) (room : 1 ≤ length answer) {g : Group} (read : g ≡ group_of w) (r : Result ℕ Error) {list' : List ℕ} {code : ℕ}
      {answer' : List ℕ} (said : Said (given_code r) (rows_filled r ∷ []) code answer answer') where
    lists_by : (b : Bool) → ltb (length list) members_list_size ≡ b → ListsBy b (parts_of g) t list r list' → Lists code answer' list'
    unfolding showing listed_words values_of
    lists_by true short too_short =
        by_gives
        (kept_gives (call_look look_members) listed_words (ltb (length list) members_list_size) w t nothing_lent answer long (omega (arith, one_word)) read
        no_answer 0
        (subst (λ (b : Bool). Promise (b || are_short t) (asking (call_look look_members) nothing_lent) (state_of (parts_of g) t)
        (showing (parts_of g) t nothing_lent 5 no_answer 0)) (sym short) refl)
        (said.same ∙ too_short.code)
        (said.said ∙ ap (λ (n : ℕ). overwritten 0 (n ∷ []) answer) (none_filled r too_short.code)))
        (too_short.same ∙ nothing_listed list)
    lists_by false fits listed =
        by_gives
        (kept_gives (call_look look_members) listed_words (ltb (length list) members_list_size) w t nothing_lent answer long (omega (arith, one_word)) read
        listed.answer 0
        (subst (λ (b : Bool). Promise (b || are_short t) (asking (call_look look_members) nothing_lent) (state_of (parts_of g) t)
        (showing (parts_of g) t nothing_lent (given_code r) listed.answer 0)) (sym fits) listed.looked.holds)
        said.same
        (said.said ∙ ap (λ (n : ℕ). overwritten 0 (n ∷ []) answer) (filled (length (values_of listed.answer)) (rows_filled r) listed.rows)))
        listed.is

    pub lists_words : ListsMembers (parts_of g) t list r list' → Lists code answer' list'
    lists_words lists = lists_by (ltb (length list) members_list_size) refl lists
