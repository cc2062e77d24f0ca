-- `send` is document 01's: its codes before anything is done, and what is left by the flow that was made.
use Rattle.srt_protocol.specs.Errors.{Outcome}
use Rattle.std.specs.Prelude.{◌≡◌, Bool, ◌||◌, ℕ, ◌*◌, ◌≤◌, ◌<◌, eqb, None, Option, Some, Err, Ok, Result, MatchOption, is_ok}
use Rattle.std.proofs.Math.Path.{refl, ap, sym, subst}
use Rattle.std.proofs.Common.{ap₂, ◌∙◌, arith, ne_eqb, lt-ltb, le-ltb}
use Rattle.std.proofs.lemmas.Result.{IfOk-at_ok}
use Rattle.std.proofs.Math.Bool.{true, false, ◌&&◌}
use mathlib.Core.List.{List, [], ◌∷◌, ◌++◌, append_assoc}
use Rattle.std.proofs.Math.ListN.{length}
use Rattle.srt_protocol.specs.Cells.{cell_size, cells_of, max_cells, overwritten}
use Rattle.srt_protocol.specs.declared.error.Error.{Error}
use Rattle.srt_protocol.specs.declared.error.Error.TheVariants.{PayloadTooLong, NoFreeCell}
use Rattle.srt_protocol.specs.Errors.{if_accepted, error_number}
use Rattle.srt_protocol.specs.Laws.Errors.{refused_not_0}
use Rattle.srt_protocol.specs.Cells.{Put}
use Rattle.srt_protocol.specs.Laws.CellLaws.{cell_accepted}
use Rattle.srt_group_model.specs.Tools.{if_true◌then◌else◌, if_some◌give◌otherwise◌}
use Rattle.srt_group_model.specs.Laws.Reason.{when_true, when_false, each_to_map}
use Rattle.srt_group_model.specs.State.{State, is_backup}
use Rattle.srt_group_model.specs.Legs.{largest_64}
use Rattle.srt_group_model.specs.Cells.{queued_cells, used_cells, free_cell}
use Rattle.srt_group_model.specs.Sound.{pending_cells, history_cells}
use Rattle.srt_group_model.specs.Run.{Mark, put, Run, start, refresh_states}
use Rattle.srt_group_model.specs.Sending.{list_size, Flow, ends_with, above_limit}
use Rattle.srt_group_model.specs.Validity.{above, is_invalid, max_members}
use Rattle.srt_group_model.specs.Guards.{Answer, no_answer, shown, number, Put as PutStep, Step, refuse, Check, ◌when◌, guard}
use Rattle.srt_group_model.specs.Laws.Refusals.{guard_stops, guard_goes_on}
use Rattle.srt_group_model.specs.Calls.{store_unfit, list_unfit, no_free_cell, taken_cell, left_by_send, send_flow, send_body, send}
use Rattle.srt_group_model.specs.Lent.{Call, call_send, stored, delivered_by, written_out, with_bytes, step_of, perform}
use Rattle.srt_group_model.specs.Laws.CellsKept.{relabelled_cells}
use Rattle.srt_group_model.specs.Laws.EveryCall.{refresh_mode}
use Rattle.srt_group_model.specs.Laws.MemberMoves.{SameAccount, account_relabelled}
use Rattle.srt_group_model.specs.Laws.Queues.{Relabelled}
use Rattle.srt_group_model.specs.Laws.SendLeaves.{LeavesReceiving, send_leaves_receiving}
use Rattle.srt_group_model.specs.Laws.Sound.{sound_of_valid}
use Rattle.srt_group_model.specs.Laws.Valid.{valid_of, counted_of}
use Rattle.srt_group_model.specs.declared.Packet.{Packet}
use Rattle.srt_connection_members.specs.Laws.Members.{members_length}
use Rattle.srt_group_tables.specs.Ring.{arrays, entry_at}
use Rattle.word_rows.specs.Laws.Tab.{tab_length}
use Rattle.cell_set.specs.Bits.{bit_at}
use Rattle.cell_set.specs.Sets.{ShowsCells, CanTake, LowestFree}
use Rattle.cell_set.specs.Shows.{Shows}
use Rattle.cell_set.specs.Laws.Shows.{lowest_found, none_found}
use Rattle.cell_set.specs.Laws.Sets.{beyond}
use Rattle.srt_group.specs.declared.Group.{Group}
use Rattle.srt_group.specs.Made.{parts_of}
use Rattle.srt_group_shown.specs.Tables.{Parts, Tables, tables, state_of, Long}
use Rattle.srt_group_shown.specs.Ready.{Ready, sending_into}
use Rattle.srt_group_shown.specs.Laws.Ready.{one_cell, performs_refused, performs_accepted}
use Rattle.srt_group_shown.specs.Laws.Steps.{rows_there}
use Rattle.srt_group_carrier.specs.Freeing.{SendFollows}
use Rattle.srt_group_carrier.specs.Lendable.{BackupTables, backup_tables, Lendable}
use Rattle.srt_group_send.specs.Answers.{send_number, send_answer}
use Rattle.srt_group_send.specs.declared.sending.GroupSent.{GroupSent}
use Rattle.srt_group_send.specs.Sends.{cell_or_none, CellByMode, FitShown, FlowMade, Storable, Sends}

-- ---- the cells

-- a step that leaves receiving alone: the set of used cells follows the history
pub shows_sent : {s t : State} {used used' : List ℕ} (cell : ℕ) → Shows used s → bit_at used cell ≡ 0 → LeavesReceiving s t
    → SendFollows cell s.send.history used t.send.history used' → Shows used' t
unfolding used_cells
shows_sent {s} {t} {used} {used'} cell shows free left follows =
    record {
      cells =
          subst (ShowsCells used')
          (append_assoc (queued_cells s.members) (pending_cells s.receive.pending) (history_cells t.send.history)
          ∙ (λ i. queues i ++ (held i ++ history_cells t.send.history)))
          (follows.shows (queued_cells s.members ++ pending_cells s.receive.pending) free
          (subst (ShowsCells used)
          (sym (append_assoc (queued_cells s.members) (pending_cells s.receive.pending) (history_cells s.send.history)))
          shows.cells));
    }
  where
    queues : queued_cells s.members ≡ queued_cells t.members
    queues =
        sym
        (relabelled_cells s.members t.members
        (each_to_map SameAccount Relabelled account_relabelled s.members t.members left.members))

    held : pending_cells s.receive.pending ≡ pending_cells t.receive.pending
    held = ap pending_cells (sym left.pending)

-- ---- an answer

by_answer : {B : Type 0} (r : Result ℕ Error) → ((n : ℕ) → r ≡ Ok n → B) → ((e : Error) → r ≡ Err e → B) → B
by_answer (Ok n) sent refused = sent n refl
by_answer (Err e) sent refused = refused e refl

-- ---- what the parts may rely on

module _ {g : Group} {t : Tables} {store : ℕ} {used : List ℕ} (ready : Ready (parts_of g) t store used) (list : List ℕ) (list_long : list_size ≤ length list) where
  abbrev lent_tables : BackupTables
  lent_tables = backup_tables t.members t.history t.sources list used

  pub send_lendable : Lendable g.core.counts.members g.ring lent_tables
  send_lendable =
      record {
        rows = rows_there ready;
        fits = omega (arith, (sound_of_valid (cells_of store) (state_of (parts_of g) t) (omega arith) ready.valid).fit.remembered, tab_length g.ring.length (entry_at g.ring (arrays t.history t.sources)));
        arrays_long = record { history = ready.long.history; sources = ready.long.sources };
        list_long = list_long;
        used_long = ready.shows.cells.long;
      }

  pub send_fit : FitShown g lent_tables
  send_fit =
      record {
        pending = t.pending;
        waiting = t.waiting;
        fit = (sound_of_valid (cells_of store) (state_of (parts_of g) t) (omega arith) ready.valid).fit;
      }

  pub few_members : g.core.counts.members ≤ max_members
  few_members =
      let counted = counted_of (state_of (parts_of g) t) (valid_of (cells_of store) (state_of (parts_of g) t) ready.valid).counts in
      omega (arith, counted.members, members_length g.core.counts.members t.members)

-- ---- the codes before anything is done

module _ (time : ℕ) (payload : List ℕ) (g : Group) (t : Tables) (store list used : List ℕ) (ready : Ready (parts_of g) t (length store) used)
    (list_long : list_size ≤ length list) (small : time ≤ largest_64) where
  abbrev p : Parts
  p = parts_of g

  abbrev s : State
  s = state_of p t

  abbrev call : Call
  call = call_send time payload

  abbrev room : ℕ
  room = cells_of (length store)

  abbrev body : Step
  body = send_body (taken_cell room s) time payload s

  abbrev 30_on : List Check
  30_on = (30 when (is_backup p.core.mode && no_free_cell room s)) ∷ []

  abbrev 4_on : List Check
  4_on = (4 when above cell_size (length payload)) ∷ 30_on

  abbrev step : Step
  step = step_of (length store) 0 (length list) call s

  no_5 : (store_unfit (length store) s || list_unfit (length list)) ≡ false
  no_5 = rw ready.fits (le-ltb (length list) list_size list_long)

  starts : step ≡ guard 4_on s body
  unfolding step_of send
  starts =
      guard_goes_on (5 when (store_unfit (length store) s || list_unfit (length list)))
      ((6 when is_invalid room s) ∷ (2 when above largest_64 time) ∷ 4_on) s body no_5
      ∙ guard_goes_on (6 when is_invalid room s) ((2 when above largest_64 time) ∷ 4_on) s body ready.valid
      ∙ guard_goes_on (2 when above largest_64 time) 4_on s body (le-ltb largest_64 time small)

  -- refused: what is left is what was there
  refused_with : (e : Error) → step ≡ refuse (error_number e) s
      → Sends time payload p t (sending_into store list) record { «record» = g; answer = Err e; rows = 0 } t
      (sending_into store list) used
  unfolding perform with_bytes
  refused_with e is =
      record {
        performs = performs_refused call p t (sending_into store list) used ready (error_number e) is;
        rows = sym (ap (λ (x : Step). length x.sends) is);
      }

  pub long_refused : cell_size < length payload
      → Sends time payload p t (sending_into store list) record { «record» = g; answer = Err PayloadTooLong; rows = 0 } t
      (sending_into store list) used
  long_refused long =
      refused_with PayloadTooLong
      (starts ∙ guard_stops (4 when above cell_size (length payload)) 30_on s body (lt-ltb cell_size (length payload) long))

  module _ (short : length payload ≤ cell_size) where
    after_4 : step ≡ guard 30_on s body
    after_4 = starts ∙ guard_goes_on (4 when above cell_size (length payload)) 30_on s body (le-ltb cell_size (length payload) short)

    pub full_refused : {r : Option ℕ} → is_backup p.core.mode ≡ true → LowestFree used room r → r ≡ None
        → Sends time payload p t (sending_into store list) record { «record» = g; answer = Err NoFreeCell; rows = 0 } t
        (sending_into store list) used
    unfolding if_some◌give◌otherwise◌
    full_refused in_backup lowest is =
        refused_with NoFreeCell
        (after_4
        ∙ guard_stops (30 when (is_backup p.core.mode && no_free_cell room s)) [] s body
        (ap₂ ◌&&◌ in_backup
        (ap (λ (o : Option ℕ). if_some o give (λ c. false) otherwise true) (none_found ready.shows lowest is))))

    -- no cell is taken in Broadcast
    pub no_cell_taken : is_backup p.core.mode ≡ false → step ≡ body
    unfolding guard
    no_cell_taken in_broadcast =
        after_4
        ∙ guard_goes_on (30 when (is_backup p.core.mode && no_free_cell room s)) [] s body
        (ap (λ (b : Bool). b && no_free_cell room s) in_broadcast)

    pub cell_taken : {r : Option ℕ} (cell : ℕ) → is_backup p.core.mode ≡ true → LowestFree used room r → r ≡ Some cell
        → step ≡ send_body cell time payload s
    unfolding guard if_some◌give◌otherwise◌
    cell_taken cell in_backup lowest is =
        let there : free_cell room s ≡ Some cell = lowest_found ready.shows lowest is in
        after_4
        ∙ guard_goes_on (30 when (is_backup p.core.mode && no_free_cell room s)) [] s body
        (ap₂ ◌&&◌ in_backup (ap (λ (o : Option ℕ). if_some o give (λ c. false) otherwise true) there))
        ∙ ap (λ (o : Option ℕ). send_body (if_some o give (λ c. c) otherwise 0) time payload s) there

  -- ---- what the flow leaves

  -- The model's send takes cell c, the code's flow was made with cell d: the same, but that in Broadcast neither is taken.
  module _ (c d : ℕ) (answer : GroupSent) (end : BackupTables) (store' : List ℕ) (is : step ≡ send_body c time payload s)
      (made : FlowMade d time (length payload) g (lent_tables ready list list_long) answer end)
      (same_flow : send_flow c time payload s (refresh_states (start s)) ≡ send_flow d time payload s (refresh_states (start s)))
      (free : bit_at used d ≡ 0) (size : length store' ≡ length store) where
    abbrev p' : Parts
    p' = parts_of answer.«record»

    abbrev t' : Tables
    t' = tables end.members t.pending t.waiting end.history end.sources

    abbrev SentSo : Type 0
    SentSo = Sends time payload p t (sending_into store list) answer t' (sending_into store' end.list) end.used

    long_after : Long t'
    long_after =
        record {
          members = omega (arith, ready.long.members, made.members_long);
          pending = ready.long.pending;
          waiting = ready.long.waiting;
          history = made.arrays_long.history;
          sources = made.arrays_long.sources;
        }

    -- a step that leaves this state and these sends
    step_with : ℕ → Answer → Option PutStep → List Mark → Step
    step_with code given o log =
        record { state = state_of p' t'; code = code; answer = given; put = o; sends = made.sends; log = log }

    performed : (given : Answer) (o : Option PutStep) (log : List Mark) → step ≡ step_with (send_number answer.answer) given o log
        → send_answer answer.answer ≡ given → delivered_by given ≡ None → store' ≡ stored o store → SentSo
    unfolding step_with step_of perform with_bytes written_out
    performed given o log step_is answers none_delivered bytes =
        record {
          performs =
              performs_accepted call p t (sending_into store list) used ready (step_with (send_number answer.answer) given o log) p' t'
              (sending_into store' end.list) end.used step_is refl answers refl
              (λ i.
              record {
                store = bytes i;
                output = ap (λ (q : Option Packet). written_out q store []) (sym none_delivered) i;
                list = made.written.is i;
              })
              size long_after
              (shows_sent d ready.shows free
              (subst (λ (x : Step). LeavesReceiving s x.state) step_is (send_leaves_receiving (length store) (length list) time payload s))
              made.follows);
          rows =
              let filled : answer.rows ≡ length made.sends = omega (arith, made.written.count) in
              filled ∙ sym (ap (λ (x : Step). length x.sends) step_is);
        }

    run : Run
    run = refresh_states (start s)

    -- what is left by the flow: of a send that succeeded, and of one that did not
    left_is : step ≡ left_by_send c payload run record { state = state_of p' t'; sends = made.sends; code = send_number answer.answer }
    unfolding send_body run
    left_is =
        is ∙ ap (left_by_send c payload (refresh_states (start s))) (same_flow ∙ made.flow t.pending t.waiting payload refl)

    module _ (b : Bool) (mode : is_backup p.core.mode ≡ b) where
      run_mode : is_backup run.state.making.mode ≡ b
      unfolding run
      run_mode = ap is_backup (refresh_mode (start s)) ∙ mode

      pub sent_performed : (legs : ℕ) → answer.answer ≡ Ok legs → store' ≡ (if_true b then overwritten (c * cell_size) payload store else store) → SentSo
      unfolding step_with left_by_send stored delivered_by if_true◌then◌else◌
      sent_performed legs sent bytes =
          performed (shown (number (if_true b then 1 else length made.sends))) (if_true b then Some record { cell = c; payload = payload } else None)
          (if_true b then put c payload ∷ run.log else run.log)
          (left_is
          ∙ when_true (eqb (send_number answer.answer) 0) _ _ (ap (λ (a : Result ℕ Error). eqb (send_number a) 0) sent)
          ∙ (λ i.
          record {
            state = state_of p' t';
            code = zero_back i;
            answer = shown (number (if_true run_mode i then 1 else length made.sends));
            put = if_true run_mode i then Some record { cell = c; payload = payload } else None;
            sends = made.sends;
            log = if_true run_mode i then put c payload ∷ run.log else run.log;
          }))
          (ap send_answer sent
          ∙ ap (λ (k : ℕ). shown (number k))
          (IfOk-at_ok (λ n. n ≡ (if_true is_backup p.core.mode then 1 else length made.sends)) sent made.legs
          ∙ ap (λ (x : Bool). if_true x then 1 else length made.sends) mode))
          refl (bytes ∙ stored_if b)
        where
          zero_back : 0 ≡ send_number answer.answer
          zero_back = sym (ap send_number sent)

          stored_if : (x : Bool) → (if_true x then overwritten (c * cell_size) payload store else store) ≡ stored (if_true x then Some record { cell = c; payload = payload } else None) store
          stored_if true = refl
          stored_if false = refl

      pub refused_performed : (e : Error) → answer.answer ≡ Err e → store' ≡ store → SentSo
      unfolding step_with left_by_send stored delivered_by
      refused_performed e refused bytes =
          performed no_answer None run.log
          (left_is
          ∙ when_false (eqb (send_number answer.answer) 0) _ _
          (ap (λ (a : Result ℕ Error). eqb (send_number a) 0) refused ∙ ne_eqb (error_number e) 0 (refused_not_0 e)))
          (ap send_answer refused) refl bytes

  -- ---- in each mode

  -- in Broadcast the flow is the same for every cell
  any_cell : (c d : ℕ) → is_backup p.core.mode ≡ false
      → send_flow c time payload s (refresh_states (start s)) ≡ send_flow d time payload s (refresh_states (start s))
  unfolding send_flow
  any_cell c d in_broadcast =
      let run = refresh_states (start s) in
      ap (λ (f : Flow). if_true above_limit (length payload) run.state.members then ends_with 23 run.state else f)
      (when_false (is_backup p.core.mode) _ _ in_broadcast ∙ sym (when_false (is_backup p.core.mode) _ _ in_broadcast))

  pub broadcast_performed : {answer : GroupSent} {end : BackupTables} → is_backup p.core.mode ≡ false → length payload ≤ cell_size
      → FlowMade max_cells time (length payload) g (lent_tables ready list list_long) answer end
      → Sends time payload p t (sending_into store list) answer (tables end.members t.pending t.waiting end.history end.sources)
      (sending_into store end.list) end.used
  unfolding if_true◌then◌else◌
  broadcast_performed {answer} {end} in_broadcast short made =
      let is = no_cell_taken short in_broadcast in
      let same = any_cell (taken_cell room s) max_cells in_broadcast in
      let free = beyond used max_cells ready.shows.cells.long (omega arith) in
      by_answer answer.answer
      (λ n sent. sent_performed (taken_cell room s) max_cells answer end store is made same free refl false in_broadcast n sent refl)
      (λ e refused. refused_performed (taken_cell room s) max_cells answer end store is made same free refl false in_broadcast e refused refl)

  module _ {r : Option ℕ} (cell : ℕ) (in_backup : is_backup p.core.mode ≡ true) (short : length payload ≤ cell_size) (lowest : LowestFree used room r)
      (found : r ≡ Some cell) where
    can : CanTake used room (Some cell)
    can = subst (CanTake used room) found lowest.free

    pub cell_there : cell < room
    cell_there = can.0

    pub cell_storable : Storable cell (length payload) (length store)
    cell_storable = record { one_cell = one_cell ready; there = cell_there; short = short }

    pub backup_performed : {answer : GroupSent} {end : BackupTables} {store' : List ℕ}
        → FlowMade cell time (length payload) g (lent_tables ready list list_long) answer end
        → store' ≡ (if_true is_ok answer.answer then overwritten (cell * cell_size) payload store else store) → length store' ≡ length store
        → Sends time payload p t (sending_into store list) answer (tables end.members t.pending t.waiting end.history end.sources)
        (sending_into store' end.list) end.used
    unfolding if_true◌then◌else◌
    backup_performed {answer} {end} {store'} made bytes size =
        let is = cell_taken short cell in_backup lowest found in
        by_answer answer.answer
        (λ n sent.
        sent_performed cell cell answer end store' is made refl can.1 size true in_backup n sent
        (bytes ∙ when_true (is_ok answer.answer) (overwritten (cell * cell_size) payload store) store (ap is_ok sent)))
        (λ e refused.
        refused_performed cell cell answer end store' is made refl can.1 size true in_backup e refused
        (bytes ∙ when_false (is_ok answer.answer) (overwritten (cell * cell_size) payload store) store (ap is_ok refused)))

-- ---- the cell that was looked for

abbrev InBroadcast : ℕ → Type 0
InBroadcast mode = is_backup mode ≡ false

abbrev LowestInBackup : ℕ → List ℕ → ℕ → ℕ → Type 0
LowestInBackup mode used cells k = (is_backup mode ≡ true) × LowestFree used cells (Some k)

-- the send is in the mode that takes it
pub cell_by_mode : (mode cells : ℕ) (used : List ℕ) (o : Option ℕ) → cells ≤ max_cells
    → MatchOption o (InBroadcast mode) (LowestInBackup mode used cells) → CellByMode mode o
cell_by_mode mode cells used None few h = h
cell_by_mode mode cells used (Some k) few h = let there = h.1.free.0 in (h.0, omega (arith, there))

module _ (time : ℕ) (payload : List ℕ) (g : Group) (t : Tables) (store list used : List ℕ) (ready : Ready (parts_of g) t (length store) used)
    (list_long : list_size ≤ length list) (small : time ≤ largest_64) (cells : ℕ) (counted : cells ≡ cells_of (length store)) (o : Option ℕ)
    (looked : MatchOption o (InBroadcast g.core.mode) (LowestInBackup g.core.mode used cells)) (short : length payload ≤ cell_size)
  where
    abbrev Looked : Option ℕ → Type 0
    Looked cell = MatchOption cell (InBroadcast g.core.mode) (LowestInBackup g.core.mode used cells)

    abbrev Made : Option ℕ → GroupSent → BackupTables → Type 0
    Made cell = FlowMade (cell_or_none cell) time (length payload) g (lent_tables ready list list_long)

    pub without_cell : {answer : GroupSent} {end : BackupTables} → o ≡ None → Made o answer end
        → Sends time payload (parts_of g) t (sending_into store list) answer (tables end.members t.pending t.waiting end.history end.sources)
        (sending_into store end.list) end.used
    without_cell {answer} {end} is made =
        broadcast_performed time payload g t store list used ready list_long small (subst Looked is looked) short
        (subst (λ (o : Option ℕ). Made o answer end) is made)

    module _ (cell : ℕ) (is : o ≡ Some cell) where
      in_backup : is_backup g.core.mode ≡ true
      in_backup = (subst Looked is looked).0

      lowest : LowestFree used (cells_of (length store)) (Some cell)
      lowest = subst (λ (n : ℕ). LowestFree used n (Some cell)) counted (subst Looked is looked).1

      pub taken_storable : Storable cell (length payload) (length store)
      taken_storable = cell_storable time payload g t store list used ready list_long small cell in_backup short lowest refl

      pub with_cell : {answer : GroupSent} {end : BackupTables} {store' : List ℕ} → Made o answer end
          → store' ≡ (if_true is_ok answer.answer then overwritten (cell * cell_size) payload store else store) → length store' ≡ length store
          → Sends time payload (parts_of g) t (sending_into store list) answer (tables end.members t.pending t.waiting end.history end.sources)
          (sending_into store' end.list) end.used
      with_cell {answer} {end} made =
          backup_performed time payload g t store list used ready list_long small cell in_backup short lowest refl
          (subst (λ (o : Option ℕ). Made o answer end) is made)

-- ---- the payload in its cell

module _ (cell : ℕ) (payload store : List ℕ) (answer : Result ℕ Error) where
  pub stored_sent : {r : Outcome} {store' : List ℕ} → Storable cell (length payload) (length store) → is_ok answer ≡ true → Put store cell payload r store'
      → store' ≡ (if_true is_ok answer then overwritten (cell * cell_size) payload store else store)
  stored_sent storable is stores =
      stores.stored
      ∙ ap (λ (o : Outcome). if_accepted o (overwritten (cell * cell_size) payload store) store)
      (stores.outcome ∙ cell_accepted (length store) cell (length payload) storable.one_cell storable.there storable.short)
      ∙ sym (when_true (is_ok answer) (overwritten (cell * cell_size) payload store) store is)

  pub not_stored : is_ok answer ≡ false → store ≡ (if_true is_ok answer then overwritten (cell * cell_size) payload store else store)
  not_stored other = sym (when_false (is_ok answer) (overwritten (cell * cell_size) payload store) store other)
