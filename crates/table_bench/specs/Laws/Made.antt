-- What is proved of the definitions in specs/Made.antt, with what the proofs need.
use Rattle.std.specs.Prelude.{◌≡◌, true, false, List, ℕ, ◌≤◌, ◌<◌, length}
use Rattle.std.proofs.Common.{sym, subst}
use Rattle.srt_group_model.specs.Cells.{is_among}
use Rattle.srt_group_model.specs.Sound.{pending_cells}
use Rattle.srt_group_model.specs.Nearest.{is_held}
use Rattle.srt_group_model.specs.Validity.{max_pending, ascends}
use Rattle.srt_group_model.specs.Legs.{largest_sequence}
use Rattle.srt_group_model.specs.Backup.{max_history}
use Rattle.srt_protocol.specs.Cells.{max_cells}
use Rattle.srt_group_model.specs.declared.Data.{Data}
use Rattle.srt_group_tables.specs.Packets.{pending_size, packets}
use Rattle.srt_group_tables.specs.Ring.{after_push}
use Rattle.srt_group_tables.specs.Laws.Ring.{push_fits}
use Rattle.srt_group_tables.specs.declared.history.HistoryRing.{HistoryRing}
use Rattle.bench_made.specs.Made.{data_of}

-- what the table asks of a packet that is put in
abbrev pub Insertable : List ℕ → ℕ → Data → Type 0
Insertable pending count d =
    ((pending_size ≤ length pending) × (count < max_pending))
    × ((ascends (packets count pending) ≡ true)
    × ((is_held d.sequence (packets count pending) ≡ false)
    × (((d.sequence ≤ largest_sequence) × (d.cell < max_cells))
    × (is_among d.cell (pending_cells (packets count pending)) ≡ false))))

pub insertable_made : (pending : List ℕ) (count sequence cell length : ℕ) (d : Data) → d ≡ data_of sequence cell length
    → Insertable pending count (data_of sequence cell length) → Insertable pending count d
insertable_made pending count sequence cell length d is made = subst (Insertable pending count) (sym is) made

pub pushed_fits : (r longer : HistoryRing) → longer ≡ after_push r → r.length ≤ max_history → longer.length ≤ max_history
pushed_fits r longer is fits = subst (λ (x : HistoryRing). x.length ≤ max_history) (sym is) (push_fits r fits)
