-- `acknowledges` meets its contract: with a sender, what is asked is how far the number lies behind the oldest.
use Rattle.std.specs.Prelude.{◌≡◌, refl, true, ℕ}
use mathlib.Core.Path.{ap, sym, ◌∙◌}
use Rattle.srt_protocol.specs.Sequence.{sequence_distance}
use Rattle.srt_group_model.specs.Legs.{has_sender, oldest_unacked_sequence}
use Rattle.srt_connection.specs.Readings.{acknowledges}
use Rattle.srt_connection.proofs.readings.acknowledges.Goals as goal

pub returns-then-has_sender : goal.returns-then-has_sender
unfolding acknowledges
returns-then-has_sender c =
    let behind : c.word_distance.result ≡ sequence_distance (oldest_unacked_sequence c.args.leg) c.args.number =
    c.word_distance.ensures ∙ ap (λ (n : ℕ). sequence_distance n c.args.number) c.oldest_unacked_sequence.ensures
    in
    let has : has_sender c.args.leg ≡ true = sym c.has_sender.ensures ∙ c.if-has_sender.true in
    rw (behind, has) refl
