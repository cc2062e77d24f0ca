-- What is proved of the definitions in specs/Record.antt.
use Rattle.std.specs.Prelude.{◌≡◌, refl, Bool, true, false, not, eqb, ℕ, zero, suc, ◌+◌, ◌≤◌, length, drop, get_or}
use Rattle.std.proofs.Common.{◌∙◌, arith, drop-cons}
use Rattle.std.proofs.Math.Path.{ap, sym}
use mir.Val.{bool_byte}
use mathlib.Core.List.{List, [], ◌∷◌, ◌++◌}
use Rattle.std.proofs.Math.Seq.{sets}
use Rattle.srt_protocol.specs.Cells.{overwritten}
use Rattle.srt_protocol.specs.Laws.CellLaws.{overwritten_length}
use Rattle.srt_group_model.specs.Tools.{is_set, bit}
use Rattle.srt_group_model.specs.Laws.Flag.{set_is_not_zero}
use Rattle.srt_group_model.specs.declared.Core.{Core}
use Rattle.srt_group_model.specs.declared.Identity.{Identity}
use Rattle.srt_group_model.specs.declared.Sending.{Sending}
use Rattle.srt_group_tables.specs.declared.history.HistoryRing.{HistoryRing}
use Rattle.srt_group.specs.declared.Group.{Group}
use Rattle.srt_group_words.specs.Record.{record_size, group_of, identity_of, core_of, sending_of, ring_of, group_words, identity_words, core_words, sending_words, ring_words, with_core, with_sent}

-- numbers over the first words of a row, which is lent in two parts
pub put_front : (whole front behind : List ℕ) (n : ℕ) → length front ≡ n → behind ≡ drop n whole → front ++ behind ≡ overwritten 0 front whole
unfolding overwritten
put_front whole front behind n size last =
    let same : n ≡ 0 + length front = omega (arith, size) in
    ap (λ (l : List ℕ). front ++ l) (last ∙ ap (λ (k : ℕ). drop k whole) same)

-- a word tested against 0, as 0 or 1
word_of : (set : Bool) → bool_byte set ≡ bit set
unfolding bit
word_of true = refl
word_of false = refl

pub word_of_test : (word : ℕ) → bool_byte (not (eqb word 0)) ≡ bit (is_set word)
word_of_test word = word_of (not (eqb word 0)) ∙ ap bit (sym (set_is_not_zero word))

-- a group of parts that were read
pub group_read : (w : List ℕ) {identity : Identity} {core : Core} {sending : Sending} {ring : HistoryRing} → identity ≡ identity_of w
    → core ≡ core_of w → sending ≡ sending_of w → ring ≡ ring_of w
    → record { identity = identity; core = core; sending = sending; ring = ring } ≡ group_of w
group_read w one two three four = λ i. record { identity = one i; core = two i; sending = three i; ring = four i }

-- what is put is what is shown
pub group_put : (g : Group) (w : List ℕ) → group_of (overwritten 0 (group_words g) w) ≡ g
unfolding overwritten identity_of core_of sending_of ring_of group_words identity_words core_words sending_words ring_words
group_put g w = refl

pub put_length : (g : Group) (w : List ℕ) → record_size ≤ length w → length (overwritten 0 (group_words g) w) ≡ length w
unfolding group_words identity_words core_words sending_words ring_words
put_length g w long = overwritten_length 0 (group_words g) w (omega arith)

-- what stands behind the record stays
pub put_behind : (g : Group) (w : List ℕ) → drop record_size (overwritten 0 (group_words g) w) ≡ drop record_size w
unfolding overwritten group_words identity_words core_words sending_words ring_words
put_behind g w = refl

-- ---- a record of which a part is stored

words_from : ℕ → ℕ → List ℕ → List ℕ
words_from k zero w = []
words_from k (suc n) w = get_or w k 0 ∷ words_from (suc k) n w

split_from : (n k : ℕ) (w : List ℕ) → k + n ≤ length w → drop k w ≡ words_from k n w ++ drop (k + n) w
unfolding words_from
split_from zero k w long =
    let same : k ≡ k + 0 = omega arith in
    ap (λ (i : ℕ). drop i w) same
split_from (suc n) k w long =
    let next : suc k + n ≡ k + suc n = omega arith in
    drop-cons w k 0 (omega arith)
    ∙ ap (λ (l : List ℕ). get_or w k 0 ∷ l) (split_from n (suc k) w (omega arith) ∙ ap (λ (i : ℕ). words_from (suc k) n w ++ drop i w) next)

-- a row that has the record is the record's words and what stands behind it
record_split : (w : List ℕ) → record_size ≤ length w → w ≡ group_words (group_of w) ++ drop record_size w
unfolding words_from identity_of core_of sending_of ring_of group_words identity_words core_words sending_words ring_words
record_split w long = split_from 20 0 w (omega arith)

module _ (w : List ℕ) (long : record_size ≤ length w) where
  pub core_stored : (core : Core) → sets w 2 (core_words core) ≡ overwritten 0 (group_words (with_core core (group_of w))) w
  unfolding overwritten group_words identity_words core_words sending_words ring_words
  core_stored core = ap (λ (l : List ℕ). sets l 2 (core_words core)) (record_split w long)

  pub sent_stored : (core : Core) (sending : Sending) (ring : HistoryRing)
      → sets w 2 (core_words core ++ (sending_words sending ++ ring_words ring))
      ≡ overwritten 0 (group_words (with_sent core sending ring (group_of w))) w
  unfolding overwritten group_words identity_words core_words sending_words ring_words
  sent_stored core sending ring = ap (λ (l : List ℕ). sets l 2 (core_words core ++ (sending_words sending ++ ring_words ring))) (record_split w long)
