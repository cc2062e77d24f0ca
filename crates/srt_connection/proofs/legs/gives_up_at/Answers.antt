-- `gives_up_at` meets its contract: a moment only where the latency is not 0.
use Rattle.std.specs.Prelude.{◌≡◌, refl, Bool, true, false, not, ℕ, eqb, Some}
use Rattle.std.specs.Bool.{then_some}
use mathlib.Core.Path.{ap, ◌∙◌}
use Rattle.srt_protocol.specs.declared.time.Timestamp.{Timestamp}
use Rattle.srt_group_model.specs.Legs.{gives_up_at, moment}
use Rattle.srt_group_model.specs.Tools.{flagged}
use Rattle.srt_connection.specs.Answers.{deadline_of}
use Rattle.srt_connection.proofs.legs.gives_up_at.Goals as goal

shown : (b : Bool) (t : Timestamp) (n : ℕ) → t.0 ≡ n → then_some b t ≡ deadline_of (flagged b n)
unfolding flagged
shown true t n is = ap (λ (m : ℕ). Some (moment m)) is
shown false t n is = refl

pub returns : goal.returns
unfolding gives_up_at
returns c = c.then_some.ensures ∙ shown (not (eqb c.args.leg.receiver.latency 0)) c.add_micros.result _ c.add_micros.ensures
