-- The cells in use, move by move: no move makes a cell used more often, but that the cell in hand is named where the call queues or
-- remembers its payload. So what fewer uses keep is kept by every move, and while a cell is in hand nothing uses it.
use Rattle.std.specs.Prelude.{◌≡◌, refl, Bool, true, false, List, [], ◌∷◌, ◌++◌, ℕ, zero, suc, ◌+◌, ◌≤◌, leb, eqb, length, drop, None, Option, Some}
use Rattle.std.proofs.Common.{sym, ◌∙◌, arith}
use Rattle.std.proofs.Math.Path.{ap}
use Rattle.std.proofs.Math.Bool.{not}
use Rattle.srt_group_model.specs.Tools.{if_true◌then◌else◌, such_that, change, each, without_place}
use Rattle.srt_group_model.specs.Laws.Reason.{if_elim, if_some_elim, by_test, not_both, none_some}
use Rattle.srt_group_model.specs.State.{Member, Send, State, on_leg, on_account}
use Rattle.srt_group_model.specs.Accounts.{reserve}
use Rattle.srt_group_model.specs.Legs.{handed, release_data_reservation, add_reservation}
use Rattle.srt_group_model.specs.Members.{id_of}
use Rattle.srt_group_model.specs.Nearest.{sequence_of, has_sequence, is_covered}
use Rattle.srt_group_model.specs.Delivery.{deliver_packet, pass_run, skip_to}
use Rattle.srt_group_model.specs.Removal.{retire, take_out}
use Rattle.srt_group_model.specs.Backup.{max_history, drop_before, trim_backup_history, append_history}
use Rattle.srt_group_model.specs.Run.{Mark}
use Rattle.srt_group_model.specs.Cells.{is_data, queue_cells, queued_cells, used_cells, is_among, free_cell}
use Rattle.srt_group_model.specs.Calls.{new_member, enqueue, no_data, data_event, no_free_cell, taken_cell}
use Rattle.srt_group_model.specs.Laws.CellLaws.{Lowest, free_cell_is_lowest}
use Rattle.srt_group_model.specs.Laws.Queues.{pop, packet_of}
use Rattle.srt_group_model.specs.Laws.CallLaw.{Calling, RefreshLaw, CollectLaw, PollLaw, CallLaw}
use Rattle.srt_group_model.specs.Laws.MemberMoves.{moved_relabelled}
use Rattle.srt_group_model.specs.Laws.Released.{deliver_released, deliver_relabelled}
use Rattle.srt_group_model.specs.Sound.{uses, one, occurs, history_cells}
use Rattle.srt_group_model.specs.Laws.CellsKept.{uses_used, occurs_append, absent, present, relabelled_cells, popped_data, popped_event, inserted, fewer_held, own_cells}
use Rattle.srt_group_model.specs.declared.Event.{Event}
use Rattle.srt_group_model.specs.declared.Data.{Data}
use Rattle.srt_group_model.specs.declared.Packet.{Packet}
use Rattle.srt_group_model.specs.declared.Leg.{Leg}
use Rattle.srt_group_model.specs.declared.Entry.{Entry}

-- ---- the history's cells in a send

abbrev kept_in : ℕ → Send → ℕ
kept_in n x = occurs n (history_cells x.history)

drop_before_fewer : (n sequence : ℕ) (h : List Entry) → occurs n (history_cells (drop_before sequence h)) ≤ occurs n (history_cells h)
unfolding drop_before each occurs
drop_before_fewer n sequence [] = omega arith
drop_before_fewer n sequence (e ∷ es) =
    if_elim (λ (l : List Entry). occurs n (history_cells l) ≤ one e.cell n + occurs n (history_cells es)) _ _ _
    (λ g. omega (arith, drop_before_fewer n sequence es)) (λ g. omega arith)

trim_fewer : (n : ℕ) (l : Leg) (x : Send) → kept_in n (trim_backup_history l x) ≤ kept_in n x
unfolding trim_backup_history
trim_fewer n l x =
    if_elim (λ (y : Send). kept_in n y ≤ kept_in n x) _ _ _ (λ e. drop_before_fewer n _ x.history) (λ e. omega arith)

drop_one_fewer : (n : ℕ) (h : List Entry) → occurs n (history_cells (drop 1 h)) ≤ occurs n (history_cells h)
unfolding each occurs
drop_one_fewer n [] = omega arith
drop_one_fewer n (e ∷ es) = omega arith

pub history_append : (n : ℕ) (h : List Entry) (e : Entry) → occurs n (history_cells (h ++ (e ∷ []))) ≡ occurs n (history_cells h) + one e.cell n
unfolding each occurs
history_append n [] e = omega arith
history_append n (x ∷ h) e = omega (arith, history_append n h e)

append_bounded : (n carrier : ℕ) (e : Entry) (x : Send) → kept_in n (append_history carrier e x) ≤ kept_in n x + one e.cell n
unfolding append_history
append_bounded n carrier e x =
    let kept : List Entry = if_true leb max_history (length x.history) then drop 1 x.history else x.history in
    let shorter : occurs n (history_cells kept) ≤ kept_in n x =
    if_elim (λ (l : List Entry). occurs n (history_cells l) ≤ kept_in n x) _ _ _ (λ g. drop_one_fewer n x.history) (λ g. omega arith)
    in
    omega (arith, history_append n kept e, shorter)

-- ---- queues

change_queued : (n more i : ℕ) (f : Member → Member) (ms : List Member) → ((m : Member) → occurs n (queue_cells (f m)) ≤ occurs n (queue_cells m) + more)
    → occurs n (queued_cells (change i f ms)) ≤ occurs n (queued_cells ms) + more
unfolding queued_cells change
change_queued n more zero f [] h = omega arith
change_queued n more (suc i) f [] h = omega arith
change_queued n more zero f (m ∷ ms) h =
    omega (arith, h m, occurs_append n (queue_cells (f m)) (queued_cells ms), occurs_append n (queue_cells m) (queued_cells ms))
change_queued n more (suc i) f (m ∷ ms) h =
    omega (arith, change_queued n more i f ms h, occurs_append n (queue_cells m) (queued_cells (change i f ms)), occurs_append n (queue_cells m) (queued_cells ms))

chosen_append : (t : Bool) (x : Event) (p q r : List Event) → p ≡ q ++ r → (if_true t then x ∷ p else p) ≡ (if_true t then x ∷ q else q) ++ r
unfolding if_true◌then◌else◌
chosen_append true x p q r e = ap (λ (l : List Event). x ∷ l) e
chosen_append false x p q r e = e

pub data_append : (q r : List Event) → such_that is_data (q ++ r) ≡ such_that is_data q ++ such_that is_data r
unfolding such_that
data_append [] r = refl
data_append (x ∷ q) r = chosen_append (is_data x) x _ _ _ (data_append q r)

cells_append : (q r : List Event) → each (λ (x : Event). x.content.cell) (q ++ r) ≡ each (λ (x : Event). x.content.cell) q ++ each (λ (x : Event). x.content.cell) r
unfolding each
cells_append [] r = refl
cells_append (x ∷ q) r = ap (λ (l : List ℕ). x.content.cell ∷ l) (cells_append q r)

-- an event at the end of a queue
pub enqueued : (n : ℕ) (e : Event) (m : Member) → occurs n (queue_cells (enqueue e m)) ≡ occurs n (queue_cells m) + occurs n (each (λ (x : Event). x.content.cell) (such_that is_data (e ∷ [])))
unfolding queue_cells
enqueued n e m =
    ap (λ (l : List Event). occurs n (each (λ (x : Event). x.content.cell) l)) (data_append m.queue (e ∷ []))
    ∙ ap (occurs n) (cells_append (such_that is_data m.queue) (such_that is_data (e ∷ [])))
    ∙ occurs_append n (each (λ (x : Event). x.content.cell) (such_that is_data m.queue)) (each (λ (x : Event). x.content.cell) (such_that is_data (e ∷ [])))

queued_append : (n : ℕ) (ms ns : List Member) → occurs n (queued_cells (ms ++ ns)) ≡ occurs n (queued_cells ms) + occurs n (queued_cells ns)
unfolding queued_cells occurs
queued_append n [] ns = omega arith
queued_append n (m ∷ ms) ns =
    omega (arith, occurs_append n (queue_cells m) (queued_cells (ms ++ ns)), occurs_append n (queue_cells m) (queued_cells ms), queued_append n ms ns)

without_fewer : (n i : ℕ) (ms : List Member) → occurs n (queued_cells (without_place i ms)) ≤ occurs n (queued_cells ms)
unfolding queued_cells without_place
without_fewer n zero [] = omega arith
without_fewer n (suc i) [] = omega arith
without_fewer n zero (m ∷ ms) = omega (arith, occurs_append n (queue_cells m) (queued_cells ms))
without_fewer n (suc i) (m ∷ ms) =
    omega (arith, without_fewer n i ms, occurs_append n (queue_cells m) (queued_cells (without_place i ms)), occurs_append n (queue_cells m) (queued_cells ms))

-- ---- the free cell

-- the cell that is taken is the lowest free one, once there is one
pub taken_lowest : (cells : ℕ) (s : State) → no_free_cell cells s ≡ false → Lowest cells 0 (used_cells s) (taken_cell cells s)
taken_lowest cells s e =
    if_some_elim (λ (b : Bool). b ≡ false → Lowest cells 0 (used_cells s) (taken_cell cells s)) (free_cell cells s) _ _
    (λ cell g k. if_some_elim (λ (c : ℕ). Lowest cells 0 (used_cells s) c) (free_cell cells s) _ _ (λ c f. free_cell_is_lowest cells s c f) (λ f. none_some (sym f ∙ g)))
    (λ g k. not_both refl k) e

abbrev pub used : ℕ → State → ℕ
used n s = uses n s.members s.receive.pending s.send.history

-- one member is changed, and its queue as by another change
changed_cells : (i : ℕ) (f g : Member → Member) (ms : List Member) → ((m : Member) → (f m).queue ≡ (g m).queue) → queued_cells (change i f ms) ≡ queued_cells (change i g ms)
unfolding queued_cells queue_cells change
changed_cells zero f g [] h = refl
changed_cells (suc i) f g [] h = refl
changed_cells zero f g (m ∷ ms) h = ap (λ (q : List Event). each (λ (e : Event). e.content.cell) (such_that is_data q) ++ queued_cells ms) (h m)
changed_cells (suc i) f g (m ∷ ms) h = ap (λ (l : List ℕ). queue_cells m ++ l) (changed_cells i f g ms h)

pub deliver_cells : (n : ℕ) (s : State) (base : ℕ) (p : Packet) → used n (deliver_packet base p s) ≤ used n s
unfolding deliver_packet pass_run
deliver_cells n s base p =
    omega (
      arith,
      ap (occurs n) (relabelled_cells s.members _ (deliver_relabelled base p s)),
      ap (kept_in n) (deliver_released base p s).send,
      fewer_held n (λ q. not (is_covered base p.content.count q)) s.receive.pending,
    )

none_queued : (n kind reason : ℕ) → eqb kind 0 ≡ false → occurs n (each (λ (x : Event). x.content.cell) (such_that is_data (record { kind = kind; reason = reason; content = no_data } ∷ []))) ≡ 0
unfolding such_that each occurs
none_queued n kind reason h =
    if_elim (λ (l : List Event). occurs n (each (λ (x : Event). x.content.cell) l) ≡ 0) (eqb kind 0) (record { kind = kind; reason = reason; content = no_data } ∷ []) [] (λ e. not_both e h) (λ e. refl)

one_queued : (n cell size : ℕ) (d : Data) → occurs n (each (λ (x : Event). x.content.cell) (such_that is_data (data_event cell size d ∷ []))) ≡ one cell n
unfolding such_that each occurs if_true◌then◌else◌
one_queued n cell size d = omega arith

new_member_cells : (n id weight : ℕ) (l : Leg) (s : State) → occurs n (queued_cells (new_member id weight l s ∷ [])) ≡ 0
unfolding new_member queued_cells queue_cells such_that each occurs
new_member_cells n id weight l s = refl

-- ---- the moves

-- what fewer uses keep, whatever else moves
module _ (P : Option ℕ → State → List Mark → Type 0)
    (fewer : (hand : Option ℕ) (log later : List Mark) (s t : State) → ((n : ℕ) → used n t ≤ used n s) → P hand s log → P hand t later) where
  pub fewer_refreshes : RefreshLaw P
  fewer_refreshes =
      record {
        moves = λ s i m f at move. fewer _ _ _ s _ (λ n. omega (arith, ap (occurs n) (relabelled_cells s.members _ (moved_relabelled i m f s.members at move))));
        binds = λ s i m at a unbound. fewer _ _ _ s _ (λ n. omega arith);
        sets_base = λ s b e source. fewer _ _ _ s _ (λ n. omega arith);
      }

  pub fewer_collects : CollectLaw P
  fewer_collects =
      record {
        continues = λ s b. fewer _ _ _ s _ (λ n. omega arith);
        turns = λ s i m at. fewer _ _ _ s _ (λ n. omega arith);
        discards =
            λ s i m e f d g.
            fewer _ _ _ s _
            (λ n. omega (arith, popped_data n i m e s.members f.stands f.first d, ap (occurs n) (changed_cells i (λ x. on_leg (release_data_reservation e.content.count) (pop x)) pop s.members (λ x. refl))));
        holds =
            λ s i m e f d g.
            fewer _ _ _ s _
            (λ n.
            omega (
              arith,
              popped_data n i m e s.members f.stands f.first d,
              inserted n (packet_of m e) s.receive.pending,
              ap (occurs n) (changed_cells i (λ x. on_account (reserve e.content.count) (pop x)) pop s.members (λ x. refl)),
            ));
        reports = λ s i m e f d few. fewer _ _ _ s _ (λ n. omega (arith, ap (occurs n) (popped_event i m e s.members f.stands f.first d)));
      }

  pub fewer_polls : PollLaw P
  unfolding skip_to
  fewer_polls =
      record {
        gives = λ s. fewer _ _ _ s _ (λ n. omega arith);
        skips = λ s base p tested time b n near. fewer _ _ _ s _ (λ n. omega arith);
        delivers = λ s base p b e. fewer _ _ _ s _ (λ n. deliver_cells n s base p);
      }

  -- and what naming the cell in hand keeps
  pub fewer_moves : (k : Calling) → (no_free_cell k.cells k.from ≡ false → P None k.from [] → P (Some (taken_cell k.cells k.from)) k.from [])
      → ((log : List Mark) (s t : State) (cell : ℕ) → ((n : ℕ) → used n t ≤ used n s + one cell n) → P (Some cell) s log → P None t log)
      → CallLaw k P
  unfolding take_out retire queue_cells
  fewer_moves k takes names =
      record {
        refreshing = fewer_refreshes;
        collecting = λ poll. fewer_collects;
        polling = λ poll. fewer_polls;
        joins =
            λ s id weight l queue is j.
            fewer _ _ _ s _ (λ n. omega (arith, queued_append n s.members (new_member id weight (handed l) s ∷ []), new_member_cells n id weight (handed l) s));
        leaves = λ s i m is at. fewer _ _ _ s _ (λ n. omega (arith, without_fewer n i s.members, ap (occurs n) (own_cells (id_of m) s.receive.pending)));
        retires = λ s id base p is e. fewer _ _ _ s _ (λ n. omega (arith, fewer_held n (λ q. not (has_sequence (sequence_of p) q)) s.receive.pending));
        takes = λ payload is free. takes free;
        puts = λ s cell payload is accepted short unused. fewer _ _ _ s s (λ n. omega arith);
        lets_go = λ s cell. names _ s s cell (λ n. omega arith);
        queues_data =
            λ s i m cell d payload is accepted at full unfit short.
            names _ s _ cell
            (λ n. omega (arith, change_queued n (one cell n) i (λ x. on_leg (add_reservation d.count) (enqueue (data_event cell (length payload) d) x)) s.members (λ x. omega (arith, enqueued n (data_event cell (length payload) d) x, one_queued n cell (length payload) d))));
        queues_event =
            λ s i m id kind reason is at full some_kind known fits.
            fewer _ _ _ s _
            (λ n. omega (arith, change_queued n 0 i (enqueue record { kind = kind; reason = reason; content = no_data }) s.members (λ x. omega (arith, enqueued n record { kind = kind; reason = reason; content = no_data } x, none_queued n kind reason some_kind))));
        numbers = λ s sequence. fewer _ _ _ s _ (λ n. omega arith);
        remembers = λ s i m e at next short fits. names _ s _ e.cell (λ n. omega (arith, append_bounded n (id_of m) e s.send));
        trims = λ s l. fewer _ _ _ s _ (λ n. omega (arith, trim_fewer n l s.send));
      }

-- ---- nothing uses the cell in hand

abbrev pub Unnamed : Option ℕ → State → List Mark → Type 0
Unnamed None s log = Unit {0}
Unnamed (Some cell) s log = used cell s ≡ 0

fewer_unnamed : (hand : Option ℕ) (log later : List Mark) (s t : State) → ((n : ℕ) → used n t ≤ used n s) → Unnamed hand s log → Unnamed hand t later
fewer_unnamed None log later s t fewer h = tt
fewer_unnamed (Some cell) log later s t fewer h = omega (arith, fewer cell, h)

pub unnamed_moves : (k : Calling) → CallLaw k Unnamed
unnamed_moves k =
    fewer_moves Unnamed fewer_unnamed k
    (λ free h. omega (arith, uses_used (taken_cell k.cells k.from) k.from, absent _ (used_cells k.from) (taken_lowest k.cells k.from free).unused))
    (λ log s t cell more h. tt)

pub unnamed_unused : (s : State) (cell : ℕ) → used cell s ≡ 0 → is_among cell (used_cells s) ≡ false
unnamed_unused s cell h =
    by_test (is_among cell (used_cells s)) (λ e. absurd (omega (arith, h, uses_used cell s, present cell (used_cells s) e))) (λ e. e)
