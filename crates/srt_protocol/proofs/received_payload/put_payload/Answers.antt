-- `put_payload` meets its contract: the part that was lent on is what `overwritten` says (`part_back`).
use Rattle.std.proofs.Common.{◌*◌, length, ap, ◌∙◌}
use Rattle.srt_protocol.specs.Cells.{cell_size, overwritten}
use Rattle.srt_protocol.specs.Laws.CellLaws.{part_back}
use Rattle.srt_protocol.proofs.received_payload.put_payload.Goals as goal

pub returns : goal.returns
returns c =
    let start = c.args.cell * cell_size in
    record {
      outcome = c.in_ok-check_cell.ensures;
      stored =
          part_back start _ c.copy_from_slice.new.self c.args.store.now (ap length c.copy_from_slice.ensures.after)
          ∙ ap (λ part. overwritten start part c.args.store.now) c.copy_from_slice.ensures.after;
    }
