-- `open_place` meets its contract: the packets on the shorter side moved.
use mathlib.Core.Path.{refl}
use native.Mathlib.Omega.{arith}
use Rattle.srt_group_tables.specs.Laws.PacketLaws.{room_below, room_above}
use Rattle.srt_group_tables.proofs.pending.open_place.Goals as goal

pub returns-then-at-count : goal.returns-then-at-count
returns-then-at-count c =
    let args = c.args in
    let start = c.ring_start-start in
    room_below args.pending.now _ start.result args.count args.at (omega arith) start.ensures.0 (omega arith) (omega arith) (omega arith) _ refl
    c.move_down.ensures

pub returns : goal.returns
returns c =
    let args = c.args in
    let start = c.ring_start-start in
    room_above args.pending.now _ start.result args.count args.at (omega arith) start.ensures.0 (omega arith) (omega arith) (omega arith)
    c.move_up.ensures
