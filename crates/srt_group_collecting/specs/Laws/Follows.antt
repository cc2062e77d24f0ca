-- What is proved of the definitions in specs/Follows.antt, with what the proofs need.
use Rattle.std.specs.Prelude.{◌≡◌, refl, ℕ, length}
use Rattle.std.proofs.Common.{sym, ap, ap₂, subst}
use mathlib.Core.List.{List, [], ◌++◌}
use Rattle.srt_group_model.specs.declared.Core.{Core}
use Rattle.srt_group_model.specs.declared.Counts.{Counts}
use Rattle.srt_group_model.specs.declared.Sending.{Sending}
use Rattle.srt_group_model.specs.State.{Member, State}
use Rattle.srt_group_model.specs.Cells.{queued_cells, used_cells}
use Rattle.srt_group_model.specs.Sound.{pending_cells, history_cells}
use Rattle.srt_group_model.specs.Laws.CellsMoved.{Moves, Keeps}
use Rattle.srt_connection_members.specs.Members.{members_of}
use Rattle.srt_group_tables.specs.Packets.{packets}
use Rattle.srt_group_shown.specs.Shown.{Rest, shown, remembering}
use Rattle.cell_set.specs.Sets.{ShowsCells, Freed}
use Rattle.cell_set.specs.Laws.Shows.{shows_freed, none_freed}
use Rattle.cell_set.specs.Bits.{set_size}
use Rattle.srt_group_collecting.specs.Leaves.{sends}
use Rattle.srt_group_collecting.specs.Follows.{Follows}

-- ---- one after another

pub follows_then : {core core₁ core₂ : Core} {ms ps used ms₁ ps₁ used₁ ms₂ ps₂ used₂ : List ℕ} → Follows core ms ps used core₁ ms₁ ps₁ used₁
    → Follows core₁ ms₁ ps₁ used₁ core₂ ms₂ ps₂ used₂ → Follows core ms ps used core₂ ms₂ ps₂ used₂
follows_then first second = record { long = second.long; shows = λ history h. second.shows history (first.shows history h) }

-- ---- a step that names the same cells

pub follows_same : (core : Core) (ms ps used : List ℕ) → length used ≡ set_size → Follows core ms ps used core ms ps used
follows_same core ms ps used long = record { long = long; shows = λ history h. h }

-- as many are held, and the members are the same
pub follows_as : (core after : Core) (ms ms' ps used : List ℕ) → length used ≡ set_size
    → members_of core.counts.members ms ≡ members_of after.counts.members ms' → core.counts.pending ≡ after.counts.pending
    → Follows core ms ps used after ms' ps used
follows_as core after ms ms' ps used long members pending =
    record {
      long = long;
      shows =
          λ history.
          subst (ShowsCells used)
          (ap₂ (λ (l : List Member) (n : ℕ). queued_cells l ++ (pending_cells (packets n ps) ++ history_cells history)) members pending);
    }

pub follows_counted : (core after : Core) (ms ps used : List ℕ) → length used ≡ set_size → after.counts ≡ core.counts
    → Follows core ms ps used after ms ps used
follows_counted core after ms ps used long same =
    follows_as core after ms ms ps used long (ap (λ (n : Counts). members_of n.members ms) (sym same)) (ap (λ (n : Counts). n.pending) (sym same))

-- ---- a step of the model that frees these cells, and their bits: from where it is promised, the history is any

module _ (core after : Core) (ms ps ws ms' ps' ws' used used' : List ℕ) (sending : Sending) (t : Rest → State)
    (is : (others : Rest) → sends sending others → t others ≡ shown after others ms' ps' ws') where
  pub follows_freed : {cells : List ℕ} → Freed cells used used' → ((others : Rest) → Moves [] cells (shown core others ms ps ws) (t others))
      → Follows core ms ps used after ms' ps' used'
  unfolding used_cells
  follows_freed {cells} freed moves =
      record {
        long = freed.long;
        shows =
            λ history h.
            let others = remembering sending history in
            (shows_freed {s = shown core others ms ps ws} {t = shown after others ms' ps' ws'} record { cells = h } freed
            (subst (Moves [] cells (shown core others ms ps ws)) (is others refl) (moves others))
            ).cells;
      }

pub follows_kept : (core after : Core) (ms ps ws ms' ps' ws' used : List ℕ) (sending : Sending) (t : Rest → State)
    → ((others : Rest) → sends sending others → t others ≡ shown after others ms' ps' ws') → length used ≡ set_size
    → ((others : Rest) → Keeps (shown core others ms ps ws) (t others)) → Follows core ms ps used after ms' ps' used
follows_kept core after ms ps ws ms' ps' ws' used sending t is long keeps =
    follows_freed core after ms ps ws ms' ps' ws' used used sending t is (none_freed used long) keeps
