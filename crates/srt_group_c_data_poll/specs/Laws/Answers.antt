-- The words that a data poll puts are those of its answer.
use Rattle.std.specs.Prelude.{◌≡◌, List, ◌∷◌, ℕ, None, Option, Some}
use Rattle.std.proofs.Common.{sym, ◌∙◌}
use Rattle.std.proofs.Math.Path.{ap}
use Rattle.srt_protocol.specs.Cells.{overwritten}
use Rattle.srt_group_model.specs.Tools.{is_set, bit}
use Rattle.srt_group_model.specs.Guards.{data_polled}
use Rattle.srt_group_model.specs.Answers.{packet_values, values_of}
use Rattle.srt_group_model.specs.declared.Packet.{Packet}
use Rattle.srt_group_words.specs.Words.{zeros, in_words}

abbrev data_said : (k : ℕ) → List ℕ → Option Packet → List ℕ
data_said k a gave = overwritten 0 (in_words 8 (data_polled gave (is_set k)) 0) a

module _ (gave : Option Packet) (k : ℕ) {again : ℕ} (a : List ℕ) {a' : List ℕ} (flag : again ≡ bit (is_set k)) where
  pub says_none : gave ≡ None → a' ≡ overwritten 0 (again ∷ packet_values None) a → a' ≡ data_said k a gave
  unfolding in_words values_of zeros
  says_none is put = put ∙ ap (λ (n : ℕ). overwritten 0 (n ∷ packet_values None) a) flag ∙ ap (data_said k a) (sym is)

  pub says_some : (p : Packet) → gave ≡ Some p → a' ≡ overwritten 0 (again ∷ packet_values (Some p)) a → a' ≡ data_said k a gave
  unfolding in_words values_of zeros
  says_some p is put = put ∙ ap (λ (n : ℕ). overwritten 0 (n ∷ packet_values (Some p)) a) flag ∙ ap (data_said k a) (sym is)
