-- `nearest` meets its contract: the first packet half a space above the lowest is nearest (`nearest_wraps`).
use Rattle.std.proofs.Common.{sym, ap, ◌+◌, ℕ, arith}
use Rattle.srt_protocol.specs.Sequence.{half}
use Rattle.srt_group_tables.specs.Laws.PacketLaws.{nearest_wraps}
use Rattle.srt_group_tables.proofs.pending.nearest.Goals as goal

pub returns-then-wrapped-count : goal.returns-then-wrapped-count
unfolding half
returns-then-wrapped-count c =
    record {
      within = c.if-wrapped-count.true;
      is =
          sym
          (nearest_wraps c.args.pending.now c.args.count _ c.place-wrapped.result (omega arith) c.requires.pending_value
          (ap (λ (n : ℕ). n + half) c.sequence_at-lowest.ensures) c.place-wrapped.ensures c.if-wrapped-count.true);
    }
