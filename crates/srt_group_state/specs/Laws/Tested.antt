-- What is proved of the definitions in specs/Tested.antt, with what the proofs need.
use Rattle.std.specs.Prelude.{◌≡◌, refl, Bool, true, false, ◌||◌, List, [], ◌++◌, ℕ, leb}
use Rattle.std.proofs.Math.Path.{sym, ap}
use Rattle.std.proofs.Common.{◌∙◌}
use native.Mathlib.Omega.{arith}
use Rattle.srt_protocol.specs.Cells.{cells_of}
use Rattle.srt_group_model.specs.Laws.Reason.{by_test, not_both}
use Rattle.srt_group_model.specs.Laws.CellsKept.{occurs_append}
use Rattle.srt_group_model.specs.State.{Member, State}
use Rattle.srt_group_model.specs.Tools.{any}
use Rattle.srt_group_model.specs.Cells.{queued_cells, used_cells}
use Rattle.srt_group_model.specs.Sound.{occurs, pending_cells, history_cells}
use Rattle.srt_group_model.specs.Validity.{one_twice, cell_twice, cell_beyond_store, is_invalid, waiting_out_of_range}
use Rattle.srt_group_model.specs.Calls.{store_unfit}
use Rattle.srt_group_model.specs.declared.Entry.{Entry}
use Rattle.srt_group_model.specs.declared.Packet.{Packet}
use Rattle.cell_set.specs.Sets.{ShowsCells}
use Rattle.cell_set.specs.Laws.Marks.{marks_show}
use Rattle.srt_connection_members.specs.Members.{members_of}
use Rattle.srt_group_tables.specs.Packets.{packets}
use Rattle.srt_group_tables.specs.Waitings.{waitings}
use Rattle.srt_group_tables.specs.Ring.{arrays, entries_of}
use Rattle.srt_group_rules.specs.Rules.{history_breaks_rule}
use Rattle.srt_group_shown.specs.Tables.{Parts, Tables, state_of, Long}
use Rattle.srt_group_shown.specs.Ready.{Ready}
use Rattle.srt_group_state.specs.Outside.{breaks_rule_outside_cells, numbers_break_rule}
use Rattle.srt_group_state.specs.Laws.Outside.{invalid_is, outside_none, tables_good, history_right}
use Rattle.srt_group_state.specs.Passes.{Passes, TablesGood}
use Rattle.srt_group_state.specs.Laws.Passes.{first_stops, passes_then, passes_named}
use Rattle.srt_group_state.specs.Laws.Cells.{marks_answer}
use Rattle.srt_group_state.specs.Tested.{Tested}

module _ (p : Parts) (t : Tables) where
  abbrev state : State
  state = state_of p t

  abbrev ms : List Member
  ms = members_of p.core.counts.members t.members

  abbrev ps : List Packet
  ps = packets p.core.counts.pending t.pending

  abbrev es : List Entry
  es = entries_of p.ring (arrays t.history t.sources)

  -- the cells, as the passes go and as the model lists them
  model_order : (n : ℕ) → occurs n ((pending_cells ps ++ queued_cells ms) ++ history_cells es) ≡ occurs n (used_cells state)
  unfolding used_cells
  model_order n =
      omega (
        arith,
        occurs_append n (pending_cells ps ++ queued_cells ms) (history_cells es),
        occurs_append n (pending_cells ps) (queued_cells ms),
        occurs_append n (queued_cells ms) (pending_cells ps ++ history_cells es),
        occurs_append n (pending_cells ps) (history_cells es),
      )

  module _ (cells : ℕ) where
    pub tested_broken : (used : List ℕ) → breaks_rule_outside_cells state ≡ true → Tested cells state true used
    tested_broken used broken =
        record {
          is =
              sym
              (invalid_is cells state
              ∙ ap (λ (b : Bool). b || (cell_twice state || cell_beyond_store cells state)) broken);
          shows = λ no. not_both refl no;
        }

    rules_are : breaks_rule_outside_cells state ≡ false → (one_twice (used_cells state) || any (leb cells) (used_cells state)) ≡ is_invalid cells state
    unfolding cell_twice cell_beyond_store
    rules_are fine =
        ap (λ (b : Bool). b || (cell_twice state || cell_beyond_store cells state)) (sym fine) ∙ sym (invalid_is cells state)

    -- a pass that began with no cell marked
    passes_tested : (before : List ℕ) (r : Bool) (used : List ℕ) → ShowsCells before []
        → Passes cells (breaks_rule_outside_cells state ≡ false) (used_cells state) before r used → Tested cells state r used
    passes_tested before true used fresh passes =
        by_test (breaks_rule_outside_cells state) (tested_broken used)
        (λ fine.
        record {
          is =
              marks_answer cells (used_cells state) before false used fresh
              record { marked = λ e. not_both e refl; kept = λ e. not_both e refl; broken = λ e fits. passes.broken refl fine fits }
              ∙ rules_are fine;
          shows = λ no. not_both refl no;
        })
    passes_tested before false used fresh passes =
        record {
          is = marks_answer cells (used_cells state) before true used fresh (passes.marks refl) ∙ rules_are (passes.clean refl);
          shows = λ no. record { cells = marks_show cells (used_cells state) before used fresh (passes.marks refl) };
        }

    module _ (b w : Bool) (b_is : b ≡ numbers_break_rule p.identity p.core p.sending) (b_no : b ≡ false)
        (w_is : w ≡ any waiting_out_of_range (waitings p.core.counts.waiting t.waiting)) (w_no : w ≡ false) (before : List ℕ) (fresh : ShowsCells before [])
      where
        pub tested_tables : (used : List ℕ) → Passes cells (TablesGood ms ps p.core.own) (pending_cells ps ++ queued_cells ms) before true used
            → Tested cells state true used
        tested_tables used first =
            passes_tested before true used fresh
            (passes_named model_order (first_stops first (tables_good _ _ _ es _ _ _) (history_cells es)))

        pub tested_history : (here : List ℕ) (r : Bool) (used : List ℕ)
            → Passes cells (TablesGood ms ps p.core.own) (pending_cells ps ++ queued_cells ms) before false here
            → Passes cells (history_breaks_rule es ≡ false) (history_cells es) here r used → Tested cells state r used
        tested_history here r used first second =
            passes_tested before r used fresh
            (passes_named model_order
            (passes_then (first.marks refl) second (outside_none _ _ _ es _ _ _ b w b_is b_no w_is w_no (first.clean refl)) (history_right _ _ _ es _ _ _)))

-- a call that gives neither 5 nor 6 may go on with the form for a valid state
pub ready_of_tested : {p : Parts} {t : Tables} {store : ℕ} {r : Bool} {used : List ℕ} → Long t → store_unfit store (state_of p t) ≡ false
    → Tested (cells_of store) (state_of p t) r used → r ≡ false → Ready p t store used
ready_of_tested long fits tested is_no =
    record { long = long; fits = fits; valid = sym tested.is ∙ is_no; shows = tested.shows is_no }
