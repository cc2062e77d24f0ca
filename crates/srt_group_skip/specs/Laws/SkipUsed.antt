-- The set of used cells follows the steps of a skip, and a waiting event that is given: none of them frees a cell by itself.
use Rattle.std.specs.Prelude.{◌≡◌, refl, ℕ, length, Option}
use Rattle.std.proofs.Common.{ap, arith}
use mathlib.Core.List.{List, []}
use Rattle.srt_group_model.specs.declared.Core.{Core}
use Rattle.srt_group_model.specs.Tools.{at_place}
use Rattle.srt_group_model.specs.Laws.Reason.{if_some_elim}
use Rattle.srt_group_model.specs.State.{State, with_receive}
use Rattle.srt_group_model.specs.Sound.{occurs}
use Rattle.srt_group_model.specs.Laws.CellsMoved.{Keeps}
use Rattle.srt_group_model.specs.Cells.{used_cells}
use Rattle.srt_group_model.specs.Run.{Run}
use Rattle.srt_group_model.specs.Delivery.{skip_to, give_waiting}
use Rattle.srt_group_model.specs.Delivery as model
use Rattle.cell_set.specs.Bits.{set_size}
use Rattle.srt_group_shown.specs.Shown.{shown, nothing_sent}
use Rattle.srt_group_shown.specs.Tables.{receive_tables}
use Rattle.srt_group_delivery.specs.declared.delivery.Poll.{Poll}
use Rattle.srt_group_collecting.specs.Leaves.{under_way}
use Rattle.srt_group_delivery.specs.Poll.{Polls, Skips, Bases}
use Rattle.srt_group_collecting.specs.Follows.{Follows}
use Rattle.srt_group_collecting.specs.Laws.Follows.{follows_counted, follows_kept}

same_keeps : (s t : State) → used_cells t ≡ used_cells s → Keeps s t
unfolding occurs
same_keeps s t same = record { cells = λ n. omega (arith, ap (occurs n) same) }

-- what follows once the base was skipped ahead or set follows from before
module _ (core after last : Core) (ms ps used ms' ps' used' : List ℕ) where
  pub follows_skipped : (base next : ℕ) → Skips base next core after → Follows after ms ps used last ms' ps' used' → Follows core ms ps used last ms' ps' used'
  unfolding used_cells skip_to
  follows_skipped base next skips then =
      record {
        long = then.long;
        shows =
            λ history h.
            then.shows history
            ((follows_kept core after ms ps [] ms ps [] used nothing_sent
            (λ others. with_receive (skip_to base next (shown core others ms ps []).receive) (shown core others ms ps []))
            (λ others same. (skips.leaves (receive_tables ms ps [])).state others) h.long
            (λ others. same_keeps (shown core others ms ps []) _ refl)).shows history h);
      }

  pub follows_based : (option : Option ℕ) → Bases option core after → Follows after ms ps used last ms' ps' used' → Follows core ms ps used last ms' ps' used'
  follows_based option bases then =
      record {
        long = then.long;
        shows = λ history h. then.shows history ((follows_counted core after ms ps used h.long bases.counts_same).shows history h);
      }

waiting_keeps : (r : Run) → used_cells (give_waiting r).run.state ≡ used_cells r.state
unfolding give_waiting used_cells
waiting_keeps r =
    if_some_elim (λ (p : model.Poll). used_cells p.run.state ≡ used_cells r.state) (at_place 0 r.state.waiting) _ _ (λ w e. refl) (λ e. refl)

pub follows_given : (core : Core) (ms ps ws ws' used : List ℕ) (answer : Poll) → length used ≡ set_size → Polls give_waiting core (receive_tables ms ps ws) answer (receive_tables ms ps ws')
    → Follows core ms ps used answer.core ms ps used
follows_given core ms ps ws ws' used answer long polls =
    follows_kept core answer.core ms ps ws ms ps ws' used nothing_sent
    (λ others. (give_waiting (under_way core others (receive_tables ms ps ws) [] 0)).run.state)
    (λ others same. (polls.run others [] 0).run.state) long
    (λ others. same_keeps (shown core others ms ps ws) _ (waiting_keeps (under_way core others (receive_tables ms ps ws) [] 0)))
