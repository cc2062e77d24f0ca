-- What is proved of the definitions in specs/Look.antt: a look in words keeps the promise of the look by value.
use Rattle.std.specs.Prelude.{◌≡◌, refl, Bool, false, List, [], ◌∷◌, ℕ, zero, suc, ◌-◌, ◌≤◌, ◌<◌, length, replicate, Err, None, Ok, Option, Result, Some}
use Rattle.std.specs.Option.{unwrap_or}
use Rattle.std.proofs.Common.{sym, ap, subst, ◌∙◌, inl, inr, arith}
use Rattle.std.proofs.lemmas.Bool.{cases_lt}
use denote.Bor.{Bor}
use Rattle.srt_protocol.specs.declared.error.Error.{Error}
use Rattle.srt_protocol.specs.Errors.{error_number}
use Rattle.srt_protocol.specs.Cells.{overwritten}
use Rattle.srt_group_model.specs.Guards.{Answer, no_answer, shown, optional, truth}
use Rattle.srt_group_model.specs.Lent.{Look, call_look}
use Rattle.srt_group_model.specs.Answers.{shown_values, values_of}
use Rattle.srt_group_shown.specs.Tables.{Parts, Tables}
use Rattle.srt_group.specs.Made.{parts_of}
use Rattle.srt_group.specs.declared.Group.{Group}
use Rattle.srt_group_refusals.specs.declared.refusals.LentGroup.{LentGroup}
use Rattle.srt_group_refusals.specs.LentGroup.{tables_of}
use Rattle.srt_group_refusals.specs.Promised.{nothing_lent}
use Rattle.srt_group_looks.specs.Looks.{given_code, given_answer, Looked, LookGives, truth_code, truth_answer}
use Rattle.srt_group_words.specs.Record.{record_size, group_of}
use Rattle.srt_group_words.specs.Words.{zeros, in_words, words, PromisedWords, Said}
use Rattle.srt_group_words.specs.Laws.Words.{record_refused, answer_refused, said_kept}
use Rattle.srt_group_c_looks.specs.Look.{Shows, SaysNothing}

pub optional_word : (o : Option ℕ) → unwrap_or o 0 ∷ [] ≡ in_words 1 (shown (optional o)) 0
unfolding in_words zeros values_of shown_values
optional_word (Some n) = refl
optional_word None = refl

zeros_replicated : (n : ℕ) → replicate n 0 ≡ zeros n
unfolding zeros
zeros_replicated zero = refl
zeros_replicated (suc n) = ap (λ (l : List ℕ). 0 ∷ l) (zeros_replicated n)

all_zeros : (size : ℕ) → replicate size 0 ≡ in_words size no_answer 0
unfolding in_words values_of
all_zeros size =
    let all : size - 0 ≡ size = omega arith in
    zeros_replicated size ∙ sym (ap zeros all)

-- ---- what is put

module _ {A : Type 0} (size : ℕ) (says : A → Answer) {given : Result A Error} {a a' : List ℕ} where
  pub says_given : {x : A} → given ≡ Ok x → {numbers : List ℕ} → numbers ≡ in_words size (says x) 0 → a' ≡ overwritten 0 numbers a
      → Said (given_code given) (in_words size (given_answer says given) 0) 0 a a'
  says_given is numbers put =
      subst (λ (r : Result A Error). Said (given_code r) (in_words size (given_answer says r) 0) 0 a a') (sym is)
      record { same = refl; said = put ∙ ap (λ (n : List ℕ). overwritten 0 n a) numbers }

  pub says_refused : {e : Error} → given ≡ Err e → {n : ℕ} → n ≡ error_number e → a' ≡ overwritten 0 (replicate size 0) a
      → Said (given_code given) (in_words size (given_answer says given) 0) n a a'
  says_refused is {n} same put =
      subst (λ (r : Result A Error). Said (given_code r) (in_words size (given_answer says r) 0) n a a') (sym is)
      record { same = same; said = put ∙ ap (λ (l : List ℕ). overwritten 0 l a) (all_zeros size) }

-- ---- a look in words

module _ {A : Type 0} (size : ℕ) (says : A → Answer) (gives : LentGroup → Result A Error → Type 0) (w : List ℕ) (t : Tables) (answer : List ℕ)
    (look : Look) where
  abbrev Promises : (code : ℕ) → (answer' : List ℕ) → Type 0
  Promises code answer' = PromisedWords (call_look look) (in_words size) false (words w t nothing_lent answer) code (words w t nothing_lent answer')

  said_nothing : {code : ℕ} {answer' : List ℕ} → Promises 5 answer → SaysNothing answer code answer' → Promises code answer'
  said_nothing {code} {answer'} refused nothing =
      subst (λ (n : ℕ). Promises n answer') (sym nothing.refused) (subst (λ (a : List ℕ). Promises 5 a) (sym nothing.same) refused)

  pub look_promised : {code : ℕ} {answer' : List ℕ} → (length w < record_size → SaysNothing answer code answer') → (length answer < size → SaysNothing answer code answer')
      → (record_size ≤ length w → size ≤ length answer → Shows size says gives w t answer code answer')
      → ((lent : LentGroup) (r : Result A Error) → gives lent r
      → LookGives says look (parts_of lent.group) (tables_of lent) r)
      → Promises code answer'
  look_promised {code} {answer'} few no_room shows keeps =
      elim (cases_lt (length w) record_size) [
        | inl short ↦ said_nothing (record_refused short) (few short)
        | inr long ↦
            elim (cases_lt (length answer) size) [
              | inl short ↦ said_nothing (answer_refused short) (no_room short)
              | inr room ↦
                  let x : Shows size says gives w t answer code answer' = shows long room in
                  said_kept (call_look look) w t nothing_lent long x.group size answer room t nothing_lent (given_answer says x.given)
                  (subst (λ (u : Tables). LookGives says look (parts_of x.lent.group) u x.given) x.tables
                  (keeps x.lent x.given x.gave))
                  x.said
            ]
      ]

-- ---- the looks by value, whatever they give

-- what a look promises of the group that it was lent
pub looked_at : (look : Look) (code : ℕ) (answer : Answer) {lent : LentGroup}
    → (x : Bor LentGroup) × (Looked look (parts_of x.now.group) (tables_of x.now) code answer) × (x.now ≡ lent)
    → Looked look (parts_of lent.group) (tables_of lent) code answer
looked_at look code answer {lent} (x, looked, is) =
    subst (λ (l : LentGroup). Looked look (parts_of l.group) (tables_of l) code answer) is looked

-- a flag, as a readiness test answers too
pub said_truth : (r : Result Bool Error) {code : ℕ} {a a' : List ℕ}
    → Said (given_code r) (in_words 1 (given_answer (λ b. shown (truth b)) r) 0) code a a'
    → Said (truth_code r) (in_words 1 (truth_answer r) 0) code a a'
said_truth r said = said
