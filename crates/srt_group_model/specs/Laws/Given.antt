-- The packet that a poll gives was held when it was delivered. So in a poll of a valid state its cell lies in the store, and its
-- payload in the cell. A walk beside Steps, for what is given.
use Rattle.std.specs.Prelude.{◌≡◌, Bool, true, List, [], ◌∷◌, eqb, Option, Some}
use Rattle.std.proofs.Math.Path.{subst}
use Rattle.std.proofs.Math.Bool.{false}
use Prim.Native.Nat.{ℕ, zero, suc, ◌≤◌, min}
use Rattle.std.proofs.Common.{arith}
use Rattle.srt_protocol.specs.Cells.{cell_size}
use Rattle.srt_group_model.specs.Tools.{if_true◌then◌else◌, first_such, each, All}
use Rattle.srt_group_model.specs.Laws.Reason.{if_elim, if_some_elim, some_inj, none_some, or_right}
use Rattle.srt_group_model.specs.State.{State, with_receive, with_base}
use Rattle.srt_group_model.specs.Nearest.{sequence_of, has_sequence, held_at}
use Rattle.srt_group_model.specs.Run.{Run, start, set_base}
use Rattle.srt_group_model.specs.Delivery.{Polled, nothing, event, packet, Poll, deliver, give_waiting, skip_after, skip_given_up_gap, max_visits}
use Rattle.srt_group_model.specs.Polls.{deliver_next, poll_event, DataPoll, pass_events, poll_until_data, poll_data_bounded}
use Rattle.srt_group_model.specs.Cells.{used_cells}
use Rattle.srt_group_model.specs.Sound.{Within, room, occurs, pending_cells, PacketFit, Fit}
use Rattle.srt_group_model.specs.Laws.CellsKept.{room_inside, one_same, apart_of_rules, uses_used}
use Rattle.srt_group_model.specs.Laws.CellsCalls.{within_law}
use Rattle.srt_group_model.specs.Validity.{cell_twice, cell_beyond_store, data_out_of_range, is_invalid}
use Rattle.srt_group_model.specs.Laws.InRange.{in_range_of}
use Rattle.srt_group_model.specs.Laws.RangesCalls.{fit_law}
use Rattle.srt_group_model.specs.Laws.Valid.{valid_of}
use Rattle.srt_group_model.specs.Laws.Steps.{StateLaw, both_laws, refresh_has, refresh_pending_has, until_held_has, until_empty_has, poll_event_has}
use Rattle.srt_group_model.specs.declared.Data.{Data}
use Rattle.srt_group_model.specs.declared.Packet.{Packet}
use Rattle.srt_group_model.specs.Given.{GaveData, InStore}

-- ---- the walk

-- of the packet that is given, if one is
abbrev pub Gave : (Packet → Type 0) → Polled → Type 0
Gave Q nothing = Unit {0}
Gave Q (event w) = Unit {0}
Gave Q (packet p) = Q p

module _ (Good : State → Type 0) (law : StateLaw Good) (Q : Packet → Type 0)
    (held : (s : State) (base : ℕ) (p : Packet) → Good s → held_at base s.receive.pending ≡ Some p → Q p) where
  abbrev Ok : Poll → Type 0
  Ok q = Gave Q q.gave

  deliver_gives : (base : ℕ) (r : Run) → Good r.state → Ok (deliver base r)
  unfolding deliver
  deliver_gives base r h = if_some_elim Ok (held_at base r.state.receive.pending) _ _ (λ p e. held r.state base p h e) (λ e. tt)

  waiting_gives : (r : Run) → Ok (give_waiting r)
  unfolding give_waiting
  waiting_gives r = if_some_elim Ok _ _ _ (λ w e. tt) (λ e. tt)

  skip_gives : (time base : ℕ) (r : Run) → Good r.state → Ok (skip_given_up_gap time base r)
  unfolding skip_given_up_gap skip_after
  skip_gives time base r h =
      let emptied = until_empty_has Good law max_visits base r h in
      if_elim Ok _ _ _ (λ e. deliver_gives base r h)
      (λ e.
      if_elim Ok _ _ _ (λ g. waiting_gives _)
      (λ g.
      if_elim Ok _ _ _ (λ k. if_some_elim Ok _ _ _ (λ p m. deliver_gives _ _ (law.skips _ base p m emptied)) (λ m. tt))
      (λ k. deliver_gives base _ emptied)))

  next_gives : (time : ℕ) (r : Run) → Good r.state → Ok (deliver_next time r)
  unfolding deliver_next set_base
  next_gives time r h =
      if_some_elim Ok _ _ _ (λ base b. skip_gives time base r h)
      (λ b.
      if_some_elim Ok _ _ _
      (λ p g.
      deliver_gives _ _
      (if_some_elim (λ (q : Run). Good q.state) _ _ _ (λ n k. h)
      (λ k. if_some_elim (λ (q : Run). Good q.state) (Some (sequence_of p)) _ _ (λ n e. subst (λ (x : ℕ). Good (with_receive (with_base x r.state.receive) r.state)) (some_inj e) (law.bases _ p g h)) (λ e. h))))
      (λ g. tt))

  event_gives : (time : ℕ) (r : Run) → Good r.state → Ok (poll_event time r)
  unfolding poll_event
  event_gives time r h =
      let gathered = until_held_has Good law max_visits _ (refresh_pending_has Good law _ (law.continues _ false h)) in
      if_elim Ok _ _ _ (λ e. waiting_gives _) (λ e. next_gives time _ (refresh_has Good law _ gathered))

  passes : (gave : Polled) (r : Run) (later : DataPoll) → Gave Q gave → GaveData Q later.gave → GaveData Q (pass_events gave r later).gave
  unfolding pass_events
  passes nothing r later h k = tt
  passes (event w) r later h k = k
  passes (packet p) r later h k = h

  until_gives : (time n : ℕ) (r : Run) → Good r.state → GaveData Q (poll_until_data time n r).gave
  unfolding poll_until_data
  until_gives time zero r h = tt
  until_gives time (suc n) r h =
      passes (poll_event time r).gave (poll_event time r).run (poll_until_data time n (poll_event time r).run) (event_gives time r h)
      (until_gives time n (poll_event time r).run (poll_event_has Good law time r h))

  pub data_gives : (time max_events : ℕ) (r : Run) → Good r.state → GaveData Q (poll_data_bounded time max_events r).gave
  unfolding poll_data_bounded
  data_gives time max_events r h =
      if_elim (λ (q : DataPoll). GaveData Q q.gave) _ _ _ (λ e. tt) (λ e. until_gives time (min max_events max_visits) r h)

-- ---- a held packet's cell and payload

abbrev There : Packet → List Packet → Type 0
There p ps = PacketFit p × (1 ≤ occurs p.content.cell (pending_cells ps))

there_first : (b : Bool) (q p : Packet) (qs : List Packet) (o : Option Packet) → (if_true b then Some q else o) ≡ Some p → PacketFit q
    → (o ≡ Some p → There p qs) → There p (q ∷ qs)
unfolding each occurs if_true◌then◌else◌
there_first true q p qs o is fit later =
    subst (λ (x : Packet). There x (q ∷ qs)) (some_inj is) (fit, omega (arith, one_same q.content.cell))
there_first false q p qs o is fit later = let found = later is in (found.0, omega (arith, found.1))

first_there : (test : Packet → Bool) (ps : List Packet) (p : Packet) → first_such test ps ≡ Some p → All PacketFit ps → There p ps
unfolding first_such
first_there test [] p e fit = none_some e
first_there test (q ∷ qs) p e fit =
    there_first (test q) q p qs (first_such test qs) e fit.0 (λ is. first_there test qs p is fit.1)

size_small : (d : Data) → data_out_of_range d ≡ false → d.length ≤ cell_size
unfolding data_out_of_range
size_small d h = (in_range_of _ (or_right (eqb d.count 0) _ h)).0

module _ (cells : ℕ) where
  abbrev Lying : State → Type 0
  Lying s = Within (room cells) s × Fit s

  lying_law : StateLaw Lying
  lying_law = both_laws (Within (room cells)) Fit (within_law cells) fit_law

  held_lies : (s : State) (base : ℕ) (p : Packet) → Lying s → held_at base s.receive.pending ≡ Some p → InStore cells p
  held_lies s base p h is =
      let there = first_there (has_sequence base) s.receive.pending p is h.1.pending in
      record {
        cell = room_inside cells p.content.cell (omega (arith, there.1, h.0 p.content.cell));
        size = size_small p.content there.0.fields;
      }

  -- what a data poll gives lies in the store, if all that is queued and held does
  pub given_in_store : (time max_events : ℕ) (s : State) → Within (room cells) s → Fit s
      → GaveData (InStore cells) (poll_data_bounded time max_events (start s)).gave
  given_in_store time max_events s within fit =
      data_gives Lying lying_law (InStore cells) held_lies time max_events (start s) (within, fit)

  -- as in a valid state
  pub valid_within : (s : State) → is_invalid cells s ≡ false → Within (room cells) s
  unfolding cell_twice cell_beyond_store
  valid_within s fine n =
      let h = valid_of cells s fine in
      omega (arith, apart_of_rules cells (used_cells s) h.cells_once h.cells_inside n, uses_used n s)
