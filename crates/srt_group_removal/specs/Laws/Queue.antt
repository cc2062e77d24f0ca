-- The cells of a member's queue are freed event by event: what the loop's proof needs.
use Rattle.std.specs.Prelude.{◌≡◌, Bool, true, false, List, [], ◌∷◌, ℕ, ◌+◌, ◌≤◌, ◌<◌, length, Some}
use Rattle.std.proofs.Common.{ap, sym, subst, ◌∙◌, add-one, arith}
use Rattle.srt_group_model.specs.Tools.{if_true◌then◌else◌, at_place}
use Rattle.srt_group_model.specs.State.{Member}
use Rattle.srt_group_model.specs.Cells.{is_data, queue_cells}
use Rattle.srt_group_model.specs.declared.Event.{Event}
use Rattle.cell_set.specs.Sets.{Freed}
use Rattle.cell_set.specs.Laws.Shows.{none_freed, freed_then}
use Rattle.cell_set.specs.Bits.{set_size}
use Rattle.srt_group_state.specs.Cells.{event_cells}
use Rattle.srt_group_state.specs.Laws.Cells.{joined, joined_next, queue_names, queue_is, event_names}

pub freed_as : {l m used used' : List ℕ} → l ≡ m → Freed l used used' → Freed m used used'
freed_as {l} {m} {used} {used'} same freed = subst (λ (k : List ℕ). Freed k used used') same freed

module _ (e : Event) (used : List ℕ) where
  pub data_freed : {b : Bool} (used' : List ℕ) → b ≡ is_data e → b ≡ true → Freed (e.content.cell ∷ []) used used' → Freed (event_cells e) used used'
  unfolding event_cells if_true◌then◌else◌
  data_freed used' tested is freed = rw (sym tested ∙ is) freed

  pub no_data_kept : {b : Bool} → length used ≡ set_size → b ≡ is_data e → b ≡ false → Freed (event_cells e) used used
  unfolding event_cells if_true◌then◌else◌
  no_data_kept long tested is = rw (sym tested ∙ is) (none_freed used long)

-- the cells of the events passed are freed
pub record FreedTo (m : Member) (used : List ℕ) (at : ℕ) (here : List ℕ) : Type 0 where
  pub passed : at ≤ length m.queue
  pub freed : Freed (joined at (queue_names m.queue)) used here

module _ (m : Member) (used : List ℕ) where
  pub freeing_start : length used ≡ set_size → FreedTo m used 0 used
  unfolding joined
  freeing_start long = record { passed = omega arith; freed = none_freed used long }

  pub freeing_on : (at : ℕ) (here : List ℕ) (e : Event) (next : List ℕ) → FreedTo m used at here → at < length m.queue
      → at_place at m.queue ≡ Some e → Freed (event_cells e) here next → FreedTo m used (at + 1) next
  freeing_on at here e next so_far more there one =
      record {
        passed = omega arith;
        freed =
            freed_as (sym (joined_next at (queue_names m.queue)) ∙ ap (λ (n : ℕ). joined n (queue_names m.queue)) (sym (add-one at)))
            (freed_then so_far.freed (freed_as (event_names m.queue at e there) one));
      }

  pub freeing_done : (at : ℕ) (here : List ℕ) → FreedTo m used at here → length m.queue ≤ at → Freed (queue_cells m) used here
  freeing_done at here so_far through =
      freed_as (ap (λ (n : ℕ). joined n (queue_names m.queue)) same ∙ queue_is m) so_far.freed
    where
      same : at ≡ length m.queue
      same = omega (arith, so_far.passed)
