-- The word that a readiness test puts is that of its answer, and the row's own identity is that of the record that it leaves.
use Rattle.std.specs.Prelude.{◌≡◌, refl, Bool, List, [], ◌∷◌, ℕ, Option}
use Rattle.std.proofs.Common.{ap, sym, subst, ◌∙◌}
use Rattle.srt_protocol.specs.Cells.{overwritten}
use Rattle.srt_group_model.specs.Tools.{bit}
use Rattle.srt_group_model.specs.Guards.{Answer, shown, truth}
use Rattle.srt_group_model.specs.Answers.{values_of, shown_values}
use Rattle.srt_group_model.specs.Lent.{Lent}
use Rattle.srt_group_model.specs.declared.Identity.{Identity}
use Rattle.srt_group_shown.specs.Tables.{Tables}
use Rattle.srt_group_shown.specs.Ready.{Performs}
use Rattle.srt_group.specs.Made.{parts_of}
use Rattle.srt_group.specs.declared.Group.{Group}
use Rattle.srt_group_send.specs.Readiness.{call_paced}
use Rattle.srt_group_send_calls.specs.Laws.Making.{tests_identity}
use Rattle.srt_group_words.specs.Record.{group_words, group_of, with_sent}
use Rattle.srt_group_words.specs.Words.{zeros, in_words, PutSaid}

pub says_ready : {g : Group} (ready : Bool) {n : ℕ} → n ≡ bit ready → (w a : List ℕ) {w' a' : List ℕ} → w' ≡ overwritten 0 (group_words g) w
    → a' ≡ overwritten 0 (n ∷ []) a → PutSaid g 0 (in_words 1 (shown (truth ready)) 0) w a 0 w' a'
unfolding in_words values_of shown_values zeros
says_ready ready flag w a put said =
    record { put = put; same = refl; said = said ∙ ap (λ (n : ℕ). overwritten 0 (n ∷ []) a) flag }

-- what a test moves is put into a row, whose identity is the record's that the test was made of
pub tested_whole : (pacing : Option ℕ) {w w' : List ℕ} {g g' : Group} {t t' : Tables} {bytes bytes' : Lent} {used' : List ℕ} {number : ℕ} {given : Answer}
    → g ≡ group_of w → Performs (call_paced pacing) (parts_of g) t bytes number given (parts_of g') t' bytes' used'
    → {said : ℕ} {values a a' : List ℕ} {code : ℕ} → PutSaid (with_sent g'.core g'.sending g'.ring (group_of w)) said values w a code w' a'
    → PutSaid g' said values w a code w' a'
tested_whole pacing {w} {w'} {g' = g'} read done {said} {values} {a} {a'} {code} put =
    subst (λ (i : Identity). PutSaid record { identity = i; core = g'.core; sending = g'.sending; ring = g'.ring } said values w a code w' a')
    (sym (tests_identity pacing done ∙ ap (λ (x : Group). x.identity) read)) put
