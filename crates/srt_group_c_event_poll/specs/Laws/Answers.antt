-- The words that an event poll puts are those of its answer.
use Rattle.srt_group_delivery.specs.declared.delivery.GroupEvent.TheVariants.{Event, Packet as GivenPacket}
use Rattle.srt_group_delivery.specs.declared.delivery.GroupEvent.{GroupEvent}
use Rattle.std.specs.Prelude.{◌≡◌, List, [], ◌∷◌, ℕ, None, Option, Some}
use Rattle.std.proofs.Common.{sym, ◌∙◌}
use Rattle.std.proofs.Math.Path.{ap}
use Rattle.srt_protocol.specs.Cells.{overwritten}
use Rattle.srt_group_model.specs.Guards.{polled}
use Rattle.srt_group_model.specs.Answers.{packet_values, values_of}
use Rattle.srt_group_model.specs.declared.Packet.{Packet}
use Rattle.srt_group_model.specs.declared.Waiting.{Waiting}
use Rattle.srt_group_delivery.specs.Poll.{polled_of}
use Rattle.srt_group_words.specs.Words.{zeros, in_words}

abbrev polled_said : List ℕ → Option GroupEvent → List ℕ
polled_said a gave = overwritten 0 (in_words 8 (polled (polled_of gave)) 0) a

module _ (gave : Option GroupEvent) (a : List ℕ) {a' : List ℕ} where
  pub says_nothing : gave ≡ None → a' ≡ overwritten 0 (0 ∷ packet_values None) a → a' ≡ polled_said a gave
  unfolding in_words values_of zeros
  says_nothing is put = put ∙ ap (polled_said a) (sym is)

  pub says_event : (w : Waiting) → gave ≡ Some (Event w)
      → a' ≡ overwritten 0 (w.kind ∷ w.member ∷ w.reason ∷ 0 ∷ 0 ∷ 0 ∷ 0 ∷ 0 ∷ []) a → a' ≡ polled_said a gave
  unfolding in_words values_of zeros
  says_event w is put = put ∙ ap (polled_said a) (sym is)

  pub says_packet : (p : Packet) → gave ≡ Some (GivenPacket p) → a' ≡ overwritten 0 (0 ∷ packet_values (Some p)) a → a' ≡ polled_said a gave
  unfolding in_words values_of zeros
  says_packet p is put = put ∙ ap (polled_said a) (sym is)
