-- `insert` meets its contract: room is made at its place, and the packet's index word and row are written.
use native.Mathlib.Omega.{arith}
use Rattle.srt_group_tables.specs.Laws.PacketLaws.{inserted_at}
use Rattle.srt_group_tables.proofs.pending.insert.Goals as goal

pub returns : goal.returns
returns c =
    inserted_at c.args.pending.now _ _ c.args.count _ _ c.args.packet (omega arith) (omega arith) c.place-at.ensures
    c.open_place.ensures c.requires.pending_value c.requires.pending_value_2 (omega arith) c.requires.pending_value_3 c.slot-word.ensures.0 c.put_row.ensures
