-- A send that is not accepted names no cell that was not named before, whatever store it was lent: where it ends with 22 to 29 the history
-- has lost entries and gained none, and the queues and the held packets are as they were. So only accepted calls need be lent
-- stores of one length for the state to stay valid.
use Rattle.std.specs.Prelude.{◌≡◌, ℕ, leb, length, None, Option}
use Rattle.std.proofs.Math.Path.{refl, subst}
use Rattle.std.proofs.Common.{sym}
use Rattle.std.proofs.Math.Bool.{false}
use mathlib.Core.List.{List, [], ◌∷◌, ◌++◌}
use Rattle.std.proofs.Math.Dec.{eqb}
use Rattle.srt_protocol.specs.Cells.{cells_of}
use Rattle.srt_group_model.specs.Tools.{All, each}
use Rattle.srt_group_model.specs.State.{Member, State, Send}
use Rattle.srt_group_model.specs.Members.{base_after}
use Rattle.srt_group_model.specs.Run.{Run, start, set_base, admit_connected_peer_groups, refresh_pending_states, refresh_states}
use Rattle.srt_group_model.specs.Cells.{queued_cells, used_cells}
use Rattle.srt_group_model.specs.Validity.{cell_beyond_store}
use Rattle.srt_group_model.specs.Sending.{Flow, ◌and_then◌, send_broadcast}
use Rattle.srt_group_model.specs.Backup.{drop_before, trim_backup_history, trim_by_carrier, replay_on, replay_flight, align_carrier, take_over_backup_flight, send_own, send_after_promotion, send_at_place, send_backup}
use Rattle.srt_group_model.specs.Guards.{Step}
use Rattle.srt_group_model.specs.Calls.{left_by_send, send_flow, send_body, send, taken_cell}
use Rattle.srt_group_model.specs.Laws.Reason.{if_elim, if_some_elim, not_both, all_append, none_of, each_to_map, of_none}
use Rattle.srt_group_model.specs.Laws.Refusals.{guard_elim}
use Rattle.srt_group_model.specs.Laws.MemberMoves.{SameAccount, account_relabelled}
use Rattle.srt_group_model.specs.Laws.SendLeaves.{send_leaves_receiving}
use Rattle.srt_group_model.specs.Laws.Queues.{Relabelled}
use Rattle.srt_group_model.specs.Lent.{Lent}
use Rattle.srt_group_model.specs.Laws.CellsKept.{relabelled_cells}
use Rattle.srt_group_model.specs.declared.Leg.{Leg}
use Rattle.srt_group_model.specs.declared.Entry.{Entry}
use Rattle.srt_group_model.specs.declared.Packet.{Packet}

-- ---- lists

all_front : {A : Type 0} (P : A → Type 0) (l m : List A) → All P (l ++ m) → All P l
all_front P [] m h = tt
all_front P (x ∷ l) m h = (h.0, all_front P l m h.1)

all_back : {A : Type 0} (P : A → Type 0) (l m : List A) → All P (l ++ m) → All P m
all_back P [] m h = h
all_back P (x ∷ l) m h = all_back P l m h.1

all_of_each : {A : Type 0} (P : ℕ → Type 0) (f : A → ℕ) (l : List A) → All (λ (a : A). P (f a)) l → All P (each f l)
unfolding each
all_of_each P f [] h = tt
all_of_each P f (x ∷ l) h = (h.0, all_of_each P f l h.1)

each_of_all : {A : Type 0} (P : ℕ → Type 0) (f : A → ℕ) (l : List A) → All P (each f l) → All (λ (a : A). P (f a)) l
unfolding each
each_of_all P f [] h = tt
each_of_all P f (x ∷ l) h = (h.0, each_of_all P f l h.1)

-- ---- the refresh leaves the history

set_base_send : (base : Option ℕ) (r : Run) → (set_base base r).state.send ≡ r.state.send
unfolding set_base
set_base_send base r =
    let Leaves : Run → Type 0 = λ q. q.state.send ≡ r.state.send in
    if_some_elim Leaves _ _ _ (λ b e. refl) (λ e. if_some_elim Leaves base _ _ (λ b is. refl) (λ e. refl))

refresh_send : (s : State) → (refresh_states (start s)).state.send ≡ s.send
unfolding refresh_states refresh_pending_states admit_connected_peer_groups
refresh_send s = set_base_send (base_after None s.members) (start s)

-- ---- the history of a send that fails, over a store of c cells

module _ (c : ℕ) where
  abbrev Fits : Entry → Type 0
  Fits e = leb c e.cell ≡ false

  abbrev Inside : State → Type 0
  Inside s = All Fits s.send.history

  drop_before_inside : (sequence : ℕ) (h : List Entry) → All Fits h → All Fits (drop_before sequence h)
  unfolding drop_before
  drop_before_inside sequence [] h = tt
  drop_before_inside sequence (e ∷ es) h =
      if_elim (All Fits) _ _ _ (λ g. drop_before_inside sequence es h.1) (λ g. h)

  trim_inside : (l : Leg) (x : Send) → All Fits x.history → All Fits (trim_backup_history l x).history
  unfolding trim_backup_history
  trim_inside l x h = if_elim (λ (y : Send). All Fits y.history) _ _ _ (λ g. drop_before_inside _ x.history h) (λ g. h)

  trim_by_carrier_inside : (s : State) → Inside s → Inside (trim_by_carrier s)
  unfolding trim_by_carrier
  trim_by_carrier_inside s h =
      if_some_elim Inside _ _ _
      (λ id e.
      if_some_elim Inside _ _ _
      (λ i g. if_some_elim Inside _ _ _ (λ m at. trim_inside m.leg s.send h) (λ at. h))
      (λ g. h))
      (λ e. h)

  abbrev Ends : Flow → Type 0
  Ends f = Inside f.state

  replay_on_inside : (time i : ℕ) (m : Member) (l : Leg) (s : State) → Inside s → Ends (replay_on time i m l s)
  unfolding replay_on
  replay_on_inside time i m l s h = if_elim Ends _ _ _ (λ e. h) (λ e. h)

  replay_flight_inside : (time i : ℕ) (m : Member) (first : Entry) (s : State) → Inside s → Ends (replay_flight time i m first s)
  unfolding replay_flight
  replay_flight_inside time i m first s h =
      if_elim Ends _ _ _ (λ e. h)
      (λ e.
      if_elim Ends _ _ _ (λ g. replay_on_inside time i m m.leg s h)
      (λ g. if_some_elim Ends _ _ _ (λ l k. replay_on_inside time i m l s h) (λ k. h)))

  align_carrier_inside : (i : ℕ) (s : State) → Inside s → Ends (align_carrier i s)
  unfolding align_carrier
  align_carrier_inside i s h = if_elim Ends _ _ _ (λ e. if_some_elim Ends _ _ _ (λ ms g. h) (λ g. h)) (λ e. h)

  take_over_inside : (time i : ℕ) (s : State) → Inside s → Ends (take_over_backup_flight time i s)
  unfolding take_over_backup_flight
  take_over_inside time i s h =
      let trimmed = trim_by_carrier_inside s h in
      if_some_elim Ends _ _ _
      (λ m at.
      if_elim Ends _ _ _
      (λ e.
      if_some_elim Ends _ _ _ (λ first g. replay_flight_inside time i m first (trim_by_carrier s) trimmed)
      (λ g. align_carrier_inside i (trim_by_carrier s) trimmed))
      (λ e. align_carrier_inside i s h))
      (λ at. h)

  -- if it fails
  abbrev Fails : Flow → Type 0
  Fails f = eqb f.code 0 ≡ false → Inside f.state

  then_fails : (x : Flow) (f : State → Flow) → Inside x.state → Fails (f x.state) → Fails (x and_then f)
  unfolding ◌and_then◌
  then_fails x f h k = if_elim Fails (eqb x.code 0) _ x (λ e g. k g) (λ e g. h)

  send_own_fails : (time size cell sequence i : ℕ) (failed : Member → State → Flow) (s : State) → ((m : Member) → Fails (failed m s))
      → Inside s → Fails (send_own time size cell sequence i failed s)
  unfolding send_own
  send_own_fails time size cell sequence i failed s g h =
      if_some_elim Fails _ _ _ (λ m at. if_some_elim Fails _ _ _ (λ l k e. not_both refl e) (λ k. g m)) (λ at e. h)

  send_after_promotion_fails : (time size cell sequence i : ℕ) (failed : Member) (s : State) → Inside s
      → Fails (send_after_promotion time size cell sequence i failed s)
  unfolding send_after_promotion
  send_after_promotion_fails time size cell sequence i failed s h =
      if_some_elim Fails _ _ _
      (λ j g.
      let taken = take_over_inside time j _ h in
      then_fails _ _ taken (send_own_fails time size cell sequence j _ _ (λ m e. taken) taken))
      (λ g e. h)

  send_at_place_fails : (time size cell i : ℕ) (s : State) → Inside s → Fails (send_at_place time size cell i s)
  unfolding send_at_place
  send_at_place_fails time size cell i s h =
      if_some_elim Fails _ _ _
      (λ m at.
      if_elim Fails _ _ _ (λ e g. h)
      (λ e. send_own_fails time size cell _ i _ s (λ n. send_after_promotion_fails time size cell _ i n s h) h))
      (λ at e. h)

  send_backup_fails : (time size cell : ℕ) (s : State) → Inside s → Fails (send_backup time size cell s)
  unfolding send_backup
  send_backup_fails time size cell s h =
      if_some_elim Fails _ _ _
      (λ i g. let taken = take_over_inside time i _ h in then_fails _ _ taken (send_at_place_fails time size cell i _ taken)) (λ g e. h)

  send_broadcast_inside : (time size : ℕ) (s : State) → Inside s → Ends (send_broadcast time size s)
  unfolding send_broadcast
  send_broadcast_inside time size s h =
      if_elim Ends _ _ _ (λ e. h) (λ e. if_elim Ends _ _ _ (λ g. h) (λ g. if_elim Ends _ _ _ (λ k. h) (λ k. h)))

  send_flow_fails : (cell time : ℕ) (payload : List ℕ) (s : State) (r : Run) → Inside r.state → Fails (send_flow cell time payload s r)
  unfolding send_flow
  send_flow_fails cell time payload s r h =
      if_elim Fails _ _ _ (λ e g. h)
      (λ e. if_elim Fails _ _ _ (λ b. send_backup_fails time _ cell r.state h) (λ b g. send_broadcast_inside time _ r.state h))

  -- ---- all cells in use

  abbrev In : ℕ → Type 0
  In n = leb c n ≡ false

  abbrev held_cells : State → List ℕ
  held_cells s = each (λ (p : Packet). p.content.cell) s.receive.pending

  abbrev sent_cells : State → List ℕ
  sent_cells s = each (λ (e : Entry). e.cell) s.send.history

  -- queues and held packets are as they were, and the history is inside
  inside_of : (s t : State) → queued_cells t.members ≡ queued_cells s.members → t.receive.pending ≡ s.receive.pending
      → (Inside s → Inside t) → cell_beyond_store c s ≡ false
      → cell_beyond_store c t ≡ false
  unfolding cell_beyond_store used_cells
  inside_of s t queues held history h =
      let whole : All In (queued_cells s.members ++ (held_cells s ++ sent_cells s)) = none_of (leb c) _ h in
      let rest : All In (held_cells s ++ sent_cells s) = all_back In (queued_cells s.members) _ whole in
      of_none (leb c) _
      (all_append In (queued_cells t.members) _ (subst (All In) (sym queues) (all_front In (queued_cells s.members) _ whole))
      (all_append In (held_cells t) _
      (subst (λ (ps : List Packet). All In (each (λ (p : Packet). p.content.cell) ps)) (sym held) (all_front In (held_cells s) _ rest))
      (all_of_each In (λ (e : Entry). e.cell) t.send.history
      (history (each_of_all In (λ (e : Entry). e.cell) s.send.history (all_back In (held_cells s) _ rest))))))

  abbrev StaysInside : Step → Type 0
  StaysInside step = eqb step.code 0 ≡ false → cell_beyond_store c step.state ≡ false

  -- what the history is, if the send fails
  history_inside : (store list time : ℕ) (payload : List ℕ) (s : State) → Inside s → (step : Step) → step ≡ send store list time payload s
      → eqb step.code 0 ≡ false → Inside step.state
  unfolding send send_body left_by_send
  history_inside store list time payload s h step is =
      subst (λ (x : Step). eqb x.code 0 ≡ false → Inside x.state) (sym is)
      (guard_elim (λ (x : Step). eqb x.code 0 ≡ false → Inside x.state) _ s _ (λ code e. h)
      (if_elim (λ (x : Step). eqb x.code 0 ≡ false → Inside x.state) _ _ _ (λ e g. not_both refl g)
      (λ e g.
      let r : Run = refresh_states (start s) in
      send_flow_fails (taken_cell (cells_of store) s) time payload s r (subst (λ (x : Send). All Fits x.history) (sym (refresh_send s)) h) e)))

  pub failed_send_stays_inside : (lent : Lent) (time : ℕ) (payload : List ℕ) (s : State) → cell_beyond_store c s ≡ false
      → StaysInside (send (length lent.store) (length lent.list) time payload s)
  failed_send_stays_inside lent time payload s h e =
      let step = send (length lent.store) (length lent.list) time payload s in
      let left = send_leaves_receiving (length lent.store) (length lent.list) time payload s in
      inside_of s step.state
      (relabelled_cells s.members step.state.members (each_to_map SameAccount Relabelled account_relabelled s.members step.state.members left.members))
      left.pending (λ k. history_inside (length lent.store) (length lent.list) time payload s k step refl e) h
