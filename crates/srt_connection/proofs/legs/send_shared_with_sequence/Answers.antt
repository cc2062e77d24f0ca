-- `send_shared_with_sequence` meets its contract: it is sent where the leg can send, the sequence is its next and the payload within its limit.
use Rattle.std.specs.Prelude.{◌≡◌, refl, true}
use Rattle.std.proofs.Common.{eq-eqb, le-leb}
use mathlib.Core.Path.{sym, ◌∙◌}
use Rattle.srt_group_model.specs.Legs.{can_send, send_shared_with_sequence}
use Rattle.srt_group_model.specs.Tools.{if_true◌then◌else◌}
use Rattle.srt_connection.proofs.legs.send_shared_with_sequence.Goals as goal

pub returns : goal.returns
unfolding send_shared_with_sequence if_true◌then◌else◌
returns c =
    let can : can_send c.args.leg ≡ true = sym c.can_send.ensures ∙ c.if-not-can_send.false in
    rw (can, eq-eqb _ _ c.if-sequence-leg.false, le-leb _ _ c.if-leg-size.false, c.after_send-leg.ensures) refl
