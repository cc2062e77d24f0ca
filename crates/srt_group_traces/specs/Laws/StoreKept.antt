-- The store that a call leaves, whatever it was lent: as long as before, and the same where the call is refused or is lent none.
use Rattle.std.specs.Prelude.{◌≡◌, refl, ◌&&◌, List, [], ◌∷◌, ℕ, ◌+◌, ◌*◌, ◌≤◌, eqb, length, Option}
use Rattle.std.proofs.Common.{sym, ap, ◌∙◌, subst, arith}
use Rattle.srt_protocol.specs.Cells.{cell_size}
use Rattle.srt_protocol.specs.Laws.CellLaws.{overwritten_length}
use Rattle.srt_group_model.specs.Tools.{All}
use Rattle.srt_group_model.specs.State.{State}
use Rattle.srt_group_model.specs.Run.{Mark, put, base_set, collected, gap_skipped, delivered}
use Rattle.srt_group_model.specs.Guards.{Put}
use Rattle.srt_group_model.specs.Lent.{Call, Lent, stored, with_bytes, perform}
use Rattle.srt_group_model.specs.declared.Data.{Data}
use Rattle.srt_group_model.specs.Laws.Reason.{if_elim, by_test}
use Rattle.srt_group_model.specs.Laws.Refusals.{call_ends}
use Rattle.srt_group_model.specs.Laws.CallLaw.{called}
use Rattle.srt_group_traces.specs.Statement.{Asked, do_call, takes_store, store_left}
use Rattle.srt_group_traces.specs.Laws.Cases.{and_true_left}
use Rattle.srt_group_traces.specs.Laws.Calls.{step, kind_of, unlent_puts_nothing}
use Rattle.srt_group_traces.specs.Laws.Law.{LiveAt}
use Rattle.srt_group_traces.specs.Laws.FreeCells.{taken_cell_within}
use Rattle.srt_group_traces.specs.Laws.Alive.{Known, LiveLaw, call_lives}
use Rattle.srt_group_traces.specs.Laws.Bytes.{stored_by, marked_by, refused_puts_nothing}

-- ---- its length

-- a payload is put into a cell of a store of this length
abbrev PutWithin : ℕ → Mark → Type 0
PutWithin size (put cell payload) = (cell * cell_size + cell_size ≤ size) × (length payload ≤ cell_size)
PutWithin size (base_set base) = Unit {0}
PutWithin size (collected p) = Unit {0}
PutWithin size (gap_skipped tested time distance) = Unit {0}
PutWithin size (delivered p) = Unit {0}

-- nothing is asked of what is alive
abbrev Anything : List Mark → ℕ → Data → Type 0
Anything m leg d = Unit {0}

within_law : (c : Call) (lent : Lent) (s : State) → LiveLaw (called c lent s) Anything (All (PutWithin (length lent.store)))
within_law c lent s =
    record {
      marks = marks;
      stays = λ m mark other leg d h. tt;
      puts = λ m cell payload puts x leg d elsewhere h. tt;
      queues = λ m cell leg d payload is puts x. tt;
    }
  where
    marks : (m : List Mark) (mark : Mark) → Known (called c lent s) Anything (All (PutWithin (length lent.store))) m mark
        → All (PutWithin (length lent.store)) m
        → All (PutWithin (length lent.store)) (mark ∷ m)
    marks m (put cell payload) known h = (
      (
        subst (λ (x : ℕ). x * cell_size + cell_size ≤ length lent.store) (sym known.is)
            (taken_cell_within (length lent.store) s known.free),
        known.short,
      ),
      h,
    )
    marks m (base_set base) known h = (tt, h)
    marks m (collected p) known h = (tt, h)
    marks m (gap_skipped tested time distance) known h = (tt, h)
    marks m (delivered p) known h = (tt, h)

all_of : {A : Type 0} (P : A → Type 0) → ((a : A) → P a) → (l : List A) → All P l
all_of P f [] = tt
all_of P f (x ∷ xs) = (f x, all_of P f xs)

any_alive : (s : State) → LiveAt (Anything []) s
any_alive s = (all_of _ (λ m. all_of _ (λ e t. tt) m.queue) s.members, all_of _ (λ p. tt) s.receive.pending)

stored_length : (m : List Mark) (store : List ℕ) (size : ℕ) → length store ≡ size → All (PutWithin size) m → length (stored_by m store) ≡ size
unfolding stored_by
stored_length [] store size e h = e
stored_length (put cell payload ∷ m) store size e h =
    let same = stored_length m store size e h.1 in
    overwritten_length (cell * cell_size) payload (stored_by m store) (omega (arith, same, h.0.0, h.0.1)) ∙ same
stored_length (base_set base ∷ m) store size e h = stored_length m store size e h.1
stored_length (collected p ∷ m) store size e h = stored_length m store size e h.1
stored_length (gap_skipped tested time distance ∷ m) store size e h = stored_length m store size e h.1
stored_length (delivered p ∷ m) store size e h = stored_length m store size e h.1

pub store_as_long : (asked : Asked) (s : State) → length (do_call asked s).lent.store ≡ length asked.lent.store
unfolding do_call perform with_bytes
store_as_long asked s =
    let within = call_lives asked.call asked.lent s Anything (All (PutWithin (length asked.lent.store))) (within_law asked.call asked.lent s) (any_alive s) tt in
    ap length (marked_by asked.lent.store _ _ _ s (kind_of asked.call))
    ∙ stored_length (step asked s).log asked.lent.store _ refl within.1

-- ---- the one store that stands is the one that the last call left

pub left_is_lent : (asked : Asked) (s : State) → store_left asked.lent.store asked s ≡ (do_call asked s).lent.store
unfolding store_left do_call perform with_bytes stored
left_is_lent asked s =
    if_elim (λ (z : List ℕ). z ≡ stored (step asked s).put asked.lent.store) (takes_store asked.call && eqb (step asked s).code 0) _ _ (λ e. refl)
    (λ e.
    sym
    (ap (λ (o : Option Put). stored o asked.lent.store)
    (by_test (takes_store asked.call)
    (λ t. refused_puts_nothing s (step asked s) (call_ends _ _ _ asked.call s) (and_true_left (takes_store asked.call) (eqb (step asked s).code 0) t e))
    (λ t. unlent_puts_nothing _ _ _ asked.call s t))))
