-- Counts stay at their limits: at most 64 events wait, since none is collected while one waits, and held packets are at most as
-- many as there are cells.
use Rattle.std.specs.Prelude.{◌≡◌, refl, false, List, [], ◌∷◌, ℕ, zero, suc, ◌+◌, ◌≤◌, ◌<◌, leb, eqb, length}
use Rattle.std.proofs.Common.{sym, ap, ◌∙◌, arith, eqb-true, leb-false, length-append}
use Rattle.std.proofs.lemmas.Bool.{eqb-false}
use Rattle.srt_group_model.specs.Tools.{any, each}
use Rattle.srt_group_model.specs.Laws.Reason.{by_test, or_left, or_right}
use Rattle.srt_group_model.specs.State.{State}
use Rattle.srt_group_model.specs.Removal.{retire, take_out}
use Rattle.srt_group_model.specs.Cells.{used_cells}
use Rattle.srt_group_model.specs.Validity.{max_waiting}
use Rattle.srt_group_model.specs.Lent.{Lent, Call, perform}
use Rattle.srt_group_model.specs.Laws.CallLaw.{PollLaw, CallLaw, Calling, RefreshLaw, CollectLaw}
use Rattle.srt_group_model.specs.Laws.EveryCall.{call_keeps}
use Rattle.srt_group_model.specs.Laws.Released.{deliver_released}
use Rattle.srt_group_model.specs.Sound.{one, occurs, pending_cells}
use Rattle.srt_group_model.specs.Laws.CellsKept.{one_same, one_other, room_most, Apart, inside_of_apart, uses_used}
use Rattle.srt_group_model.specs.Laws.RangesKept.{drop_short}
use Rattle.srt_group_model.specs.declared.Packet.{Packet}
use Rattle.srt_group_model.specs.declared.Waiting.{Waiting}
use Rattle.srt_group_model.specs.Laws.Queues.{waiting_of}

-- ---- held packets and cells

-- how many of the numbers below `cells` occur, counted with their times
spread : ℕ → List ℕ → ℕ
spread zero l = 0
spread (suc c) l = occurs c l + spread c l

spread_one : (c m : ℕ) (l : List ℕ) → m < c → spread c (m ∷ l) ≡ suc (spread c l)
unfolding spread occurs
spread_one zero m l h = absurd (omega arith)
spread_one (suc c) m l h =
    by_test (eqb m c)
    (λ e. omega (arith, ap (λ (k : ℕ). one m k) (sym (eqb-true m c e)) ∙ one_same m, spread_other c m l (omega (arith, eqb-true m c e))))
    (λ e. omega (arith, one_other m c e, spread_one c m l (strictly m c (eqb-false m c e) (omega arith))))
  where
    strictly : (a b : ℕ) → (a ≡ b → ⊥) → a ≤ b → a < b
    strictly a b n k = omega arith

    spread_other : (c m : ℕ) (l : List ℕ) → c ≤ m → spread c (m ∷ l) ≡ spread c l
    spread_other zero m l k = refl
    spread_other (suc c) m l k = omega (arith, one_other m c (not_equal m c k), spread_other c m l (omega arith))
      where
        not_equal : (m c : ℕ) → suc c ≤ m → eqb m c ≡ false
        not_equal m c k = by_test (eqb m c) (λ e. absurd (omega (arith, eqb-true m c e))) (λ e. e)

spread_all : (c : ℕ) (l : List ℕ) → any (leb c) l ≡ false → length l ≤ spread c l
unfolding any
spread_all c [] h = omega arith
spread_all c (m ∷ l) h =
    omega (arith, spread_one c m l (leb-false c m (or_left (leb c m) _ h)), spread_all c l (or_right (leb c m) _ h))

spread_most : (c : ℕ) (l : List ℕ) → ((n : ℕ) → occurs n l ≤ 1) → spread c l ≤ c
unfolding spread
spread_most zero l h = omega arith
spread_most (suc c) l h = omega (arith, h c, spread_most c l h)

-- a list of cells that are apart is no longer than there are cells
pub apart_few : (cells : ℕ) (l : List ℕ) → Apart cells l → length l ≤ cells
apart_few cells l h =
    omega (arith, spread_all cells l (inside_of_apart cells l h), spread_most cells l (λ n. omega (arith, h n, room_most cells n)))

pub pending_length : (ps : List Packet) → length (pending_cells ps) ≡ length ps
unfolding each
pending_length [] = refl
pending_length (p ∷ ps) = ap suc (pending_length ps)

pub pending_few : (cells : ℕ) (s : State) → Apart cells (used_cells s) → length s.receive.pending ≤ cells
pending_few cells s h =
    let apart : Apart cells (pending_cells s.receive.pending) = λ n. omega (arith, h n, uses_used n s) in
    omega (arith, apart_few cells (pending_cells s.receive.pending) apart, pending_length s.receive.pending)

-- ---- waiting events

abbrev Few : State → Type 0
Few s = length s.waiting ≤ max_waiting

waiting_refreshes : RefreshLaw (λ hand s log. Few s)
waiting_refreshes =
    record {
      moves = λ s i m f at move h. h;
      binds = λ s i m at a unbound h. h;
      sets_base = λ s b e source h. h;
    }

waiting_collects : CollectLaw (λ hand s log. Few s)
waiting_collects =
    record {
      continues = λ s b h. h;
      turns = λ s i m at h. h;
      discards = λ s i m e f d g h. h;
      holds = λ s i m e f d g h. h;
      reports = λ s i m e f d few h. omega (arith, few, length-append s.waiting (waiting_of m e ∷ []));
    }

waiting_polls : PollLaw (λ hand s log. Few s)
waiting_polls =
    record {
      gives = λ s h. omega (arith, h, drop_short s.waiting);
      skips = λ s base p tested time b n near h. h;
      delivers = λ s base p b e h. omega (arith, h, ap (λ (l : List Waiting). length l) (deliver_released base p s).waiting);
    }

waiting_moves : (k : Calling) → CallLaw k (λ hand s log. Few s)
unfolding take_out retire
waiting_moves k =
    record {
      refreshing = waiting_refreshes;
      collecting = λ poll. waiting_collects;
      polling = λ poll. waiting_polls;
      joins = λ s id weight l queue is j h. h;
      leaves = λ s i m is at h. h;
      retires = λ s id base p is e h. h;
      takes = λ payload takes free h. h;
      puts = λ s cell payload takes accepted short unused h. h;
      lets_go = λ s cell h. h;
      queues_data = λ s i m cell d payload is accepted at full unfit short h. h;
      queues_event = λ s i m id kind reason is at full some_kind known fits h. h;
      numbers = λ s sequence h. h;
      remembers = λ s i m e at next short fits h. h;
      trims = λ s l h. h;
    }

pub waiting_kept : (c : Call) (lent : Lent) (s : State) → length s.waiting ≤ max_waiting → length (perform c lent s).state.waiting ≤ max_waiting
waiting_kept c lent s h = call_keeps (λ hand s log. Few s) c lent s (waiting_moves _) h
