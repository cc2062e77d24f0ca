-- `copy_payload` meets its contract: the part that was lent on is what `cell_bytes` and `overwritten` say (`part_back`).
use Rattle.std.proofs.Common.{◌≡◌, ◌+◌, ◌-◌, ◌*◌, ℕ, length, take, drop, sym, refl, ap, ◌∙◌, arith, length-take, length-drop}
use Rattle.srt_protocol.specs.Cells.{cell_size, head_size, cell_bytes, overwritten}
use Rattle.srt_protocol.specs.Laws.CellLaws.{cell_within, output_enough, part_back}
use Rattle.srt_protocol.proofs.received_payload.copy_payload.Goals as goal

pub returns : goal.returns
returns c =
    let args = c.args in
    let start = args.cell * cell_size in
    let size_is : start + args.size - start ≡ args.size = omega arith in
    let copied : c.copy_from_slice.new.self ≡ cell_bytes args.cell args.size args.store.now =
    c.copy_from_slice.ensures.after ∙ ap (λ (n : ℕ). take n (drop start args.store.now)) size_is
    in
    let within = cell_within _ _ _ _ c.in_ok-check_cell.ensures refl in
    let long : length c.copy_from_slice.new.self ≡ args.size =
    ap length copied ∙ omega (arith, length-take {A = ℕ}, length-drop {A = ℕ}, within.0)
    in
    record {
      outcome =
          c.in_ok-check_cell.ensures
          ∙ sym (output_enough (length args.store.now) args.cell args.size (length args.output.now) (omega (arith, c.if-output-lt-OUTPUT.false)));
      copied =
          part_back head_size args.size c.copy_from_slice.new.self args.output.now long
          ∙ ap (λ part. overwritten head_size part args.output.now) copied;
    }
