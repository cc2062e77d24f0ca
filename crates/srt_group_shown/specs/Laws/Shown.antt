-- What is proved of the definitions in specs/Shown.antt, with what the proofs need.
use Rattle.std.specs.Prelude.{List, ℕ, ◌≤◌}
use Rattle.std.proofs.Common.{arith}
use Rattle.srt_protocol.specs.Cells.{max_cells}
use Rattle.srt_group_model.specs.declared.Core.{Core}
use Rattle.srt_group_model.specs.Validity.{max_pending}
use Rattle.srt_group_model.specs.Laws.CellsKept.{uses_used}
use Rattle.srt_group_model.specs.Laws.Counts.{pending_few}
use Rattle.srt_group_model.specs.Sound.{Sound}
use Rattle.word_rows.specs.Laws.Tab.{tab_length}
use Rattle.srt_group_tables.specs.Packets.{packet_at}
use Rattle.srt_group_shown.specs.Shown.{Rest, shown}

-- ---- law

-- no more packets are held than a store has cells
pub held_few : (core : Core) (others : Rest) (ms ps ws : List ℕ) → Sound (shown core others ms ps ws) → core.counts.pending ≤ max_pending
held_few core others ms ps ws sound =
    omega (
      arith,
      pending_few max_cells (shown core others ms ps ws) (λ n. omega (arith, sound.cells n, uses_used n (shown core others ms ps ws))),
      tab_length core.counts.pending (packet_at ps),
    )
