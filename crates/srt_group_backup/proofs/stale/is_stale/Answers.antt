-- `is_stale` meets its contract: silence since the later moment is compared.
use Rattle.std.proofs.Common.{rules}
use Rattle.srt_protocol.specs.contracts.time.TimestampOrd.TheImpl.{cmp-value}
use Rattle.srt_group_backup.specs.Laws.Stale.{later_moment, stale_by_silence}
use Rattle.srt_group_backup.proofs.stale.is_stale.Goals as goal

pub returns-then-leg-ne0 : goal.returns-then-leg-ne0
returns-then-leg-ne0 c =
    stale_by_silence _ _ c.has_sender.ensures c.if-leg-ne0.true.0 c.if-leg-ne0.true.1 c.stability_timeout.ensures
    (later_moment cmp-value.it c.args.leg.trip.heard c.args.leg.sender.oldest c.max-since.ensures (λ x y. search rules)) c.saturating_sub-silence.ensures
