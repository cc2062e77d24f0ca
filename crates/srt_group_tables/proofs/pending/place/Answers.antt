-- `place` meets its contract. The loop's invariant: the place is between `low` and `high`.
use Prim.Native.Nat.{◌-◌}
use native.Mathlib.Omega.{arith}
use Rattle.srt_group_tables.specs.Laws.PacketLaws.{between_above, between_below, placed_behind, placed_first}
use Rattle.srt_group_tables.proofs.pending.place.Goals as goal

pub returns-then-sequence_at-sequence : goal.returns-then-sequence_at-sequence
returns-then-sequence_at-sequence c =
    placed_behind c.args.pending.now c.args.count c.args.sequence c.requires.pending_value (c.args.count - 1) (omega arith) (omega arith)
    (omega (arith, c.sequence_at.ensures, c.if-sequence_at-sequence.true))

pub returns-then-sequence-sequence_at : goal.returns-then-sequence-sequence_at
returns-then-sequence-sequence_at c =
    placed_first c.args.pending.now c.args.count c.args.sequence c.requires.pending_value
    (omega (arith, c.sequence_at-2.ensures, c.if-sequence-sequence_at.true))

pub loop-low-preserved-then-sequence_at-sequence-2 : goal.loop-low-preserved-then-sequence_at-sequence-2
loop-low-preserved-then-sequence_at-sequence-2 c =
    between_above c.args.pending.now c.args.count c.args.sequence c.requires.pending_value
    c.loop-low.invariant _ (omega arith) (omega (arith, c.sequence_at-in-loop-low.ensures, c.if-sequence_at-sequence-2.true))

pub loop-low-preserved : goal.loop-low-preserved
loop-low-preserved c =
    between_below c.args.pending.now c.args.count c.args.sequence c.requires.pending_value
    c.loop-low.invariant _ (omega arith) (omega arith) (omega (arith, c.sequence_at-in-loop-low.ensures, c.if-sequence_at-sequence-2.false))
