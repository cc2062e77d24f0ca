-- Which cells of the store are in use, and the free cell that a call takes. Document 01, "Receiving": a cell is free as soon
-- as no queued, held or history payload uses it, and the lowest free number is taken.
use Rattle.std.specs.Prelude.{Bool, List, [], ◌∷◌, ◌++◌, ℕ, zero, suc, eqb, None, Option, Some}
use Rattle.srt_group_model.specs.Tools.{if_true◌then◌else◌, any, such_that, each}
use Rattle.srt_group_model.specs.State.{Member, State}
use Rattle.srt_group_model.specs.declared.Event.{Event}

abbrev pub is_data : Event → Bool
is_data e = eqb e.kind 0

unfoldable pub queue_cells : Member → List ℕ
queue_cells m = each (λ e. e.content.cell) (such_that is_data m.queue)

unfoldable pub queued_cells : List Member → List ℕ
queued_cells [] = []
queued_cells (m ∷ ms) = queue_cells m ++ queued_cells ms

-- the cells of queued, held and history payloads
unfoldable pub used_cells : State → List ℕ
used_cells s =
    queued_cells s.members
    ++ (each (λ p. p.content.cell) s.receive.pending ++ each (λ e. e.cell) s.send.history)

abbrev pub is_among : ℕ → List ℕ → Bool
is_among n = any (λ m. eqb m n)

-- the lowest number from `first` on, of so many, that is not among these
unfoldable pub lowest_free : (left first : ℕ) → List ℕ → Option ℕ
lowest_free zero first used = None
lowest_free (suc left) first used =
    let later = lowest_free left (suc first) used in if_true is_among first used then later else Some first

-- the free cell of a store of so many cells
unfoldable pub free_cell : ℕ → State → Option ℕ
free_cell cells s = lowest_free cells 0 (used_cells s)
