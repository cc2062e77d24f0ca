-- `drop_before` meets its contract: the walk ends at the first entry that stays (`trimmed_found`), or behind the last; where that is the first, nothing
-- was dropped (`trimmed_nothing`).
use Rattle.std.proofs.Common.{◌≡◌, ◌∙◌, sym, true, false, ◌+◌, ◌%◌, ℕ, get_or, rules}
use Rattle.std.proofs.lemmas.Iterator.{first_from_Range}
use Rattle.srt_protocol.specs.Sequence.{sequence_before}
use Rattle.srt_group_model.specs.Backup.{max_history}
use Rattle.srt_group_tables.specs.Ring.{word_sequence}
use Rattle.srt_group_tables.specs.Laws.Ring.{ends_within, trimmed_found, trimmed_nothing}
use Rattle.srt_group_tables.proofs.history.HistoryWords.drop_before.Goals as goal

pub overflow_sub-result : goal.overflow_sub-result
overflow_sub-result c =
    let words = c.args.self.now in
    let goes = λ (k : ℕ). sequence_before (word_sequence (get_or words.history.now ((words.ring.start + k) % max_history) 0)) c.args.oldest in
    rw c.unwrap_or-dropped.ensures
    (ends_within c.args.oldest words.history.now words.ring c.find.result
    (first_from_Range _ _ _ _ (λ k. goes k ≡ false) (λ k. goes k ≡ true) c.find.ensures.ran (λ k q h. search rules) (λ k q h. search rules)))

pub returns : goal.returns
returns c =
    let words = c.args.self.now in
    let goes = λ (k : ℕ). sequence_before (word_sequence (get_or words.history.now ((words.ring.start + k) % max_history) 0)) c.args.oldest in
    rw (c.place.ensures.0, c.unwrap_or-dropped.ensures)
    (trimmed_found c.args.oldest words.history.now words.ring c.find.result
    (first_from_Range _ _ _ _ (λ k. goes k ≡ false) (λ k. goes k ≡ true) c.find.ensures.ran (λ k q h. search rules) (λ k q h. search rules)))

pub returns-then-dropped-eq0 : goal.returns-then-dropped-eq0
returns-then-dropped-eq0 c =
    let words = c.args.self.now in
    let goes = λ (k : ℕ). sequence_before (word_sequence (get_or words.history.now ((words.ring.start + k) % max_history) 0)) c.args.oldest in
    trimmed_nothing c.args.oldest words.history.now words.ring c.find.result
    (first_from_Range _ _ _ _ (λ k. goes k ≡ false) (λ k. goes k ≡ true) c.find.ensures.ran (λ k q h. search rules) (λ k q h. search rules))
    (sym c.unwrap_or-dropped.ensures ∙ c.if-dropped-eq0.true)
