-- `remove_range` meets its contract: the packets on the shorter side moved.
use mathlib.Core.Path.{refl}
use native.Mathlib.Omega.{arith}
use Rattle.srt_group_tables.specs.Laws.PacketLaws.{removed_below, removed_above}
use Rattle.srt_group_tables.proofs.pending.remove_range.Goals as goal

pub returns-then-from-count : goal.returns-then-from-count
returns-then-from-count c =
    let args = c.args in
    let start = c.ring_start-start in
    removed_below args.pending.now _ start.result args.count args.from args.end (omega arith) start.ensures.0 (omega arith) (omega arith)
    (omega arith) (omega arith) _ refl c.move_up.ensures

pub returns : goal.returns
returns c =
    let args = c.args in
    let start = c.ring_start-start in
    removed_above args.pending.now _ start.result args.count args.from args.end (omega arith) start.ensures.0 (omega arith) (omega arith)
    (omega arith) (omega arith) c.move_down.ensures
