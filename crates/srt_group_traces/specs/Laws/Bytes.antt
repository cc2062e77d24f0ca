-- Byte for byte. Where each accepted call that is lent a store is lent the one that the last such call left, and nobody else
-- writes it, every queued and held payload stands in its cell as it was queued: a payload is put only into a cell that no
-- queued and no held packet has. So the payload that a poll copies to byte 12 of the output is the payload as it was queued.
use Rattle.std.specs.Prelude.{◌≡◌, Bool, ◌&&◌, ◌⊎◌, ℕ, ◌+◌, ◌*◌, ◌≤◌, ◌<◌, eqb, take, drop, None, Option, Some}
use Rattle.std.proofs.Math.Path.{refl, sym, ap, subst}
use Rattle.std.proofs.Common.{◌∙◌, inl, inr, arith, length-take, length-drop}
use Rattle.std.proofs.Math.Bool.{true, false}
use mathlib.Core.List.{List, [], ◌∷◌, ◌++◌, append_assoc}
use Rattle.std.proofs.Math.Decide.{dec_lt}
use Rattle.std.proofs.Math.ListN.{length}
use Rattle.srt_protocol.specs.Cells.{cell_size, head_size, cells_of, overwritten, cell_bytes}
use Rattle.srt_protocol.specs.Laws.CellLaws.{overwritten_length, overwritten_there, overwritten_run}
use Rattle.srt_group_model.specs.Tools.{if_true◌then◌else◌, if_some◌give◌otherwise◌, All}
use Rattle.srt_group_model.specs.State.{State, is_backup, Making}
use Rattle.srt_group_model.specs.Run.{Mark, put, base_set, collected, gap_skipped, delivered, start, refresh_states}
use Rattle.srt_group_model.specs.Guards.{Put, Step}
use Rattle.srt_group_model.specs.Calls.{new, event_poll_body, poll_event_call, data_poll_body, poll_data_call, left_by_send, send_body, send, taken_cell, store_unfit, output_unfit, queue_data_body, queue_data}
use Rattle.srt_group_model.specs.Lent.{Call, call_poll_event, call_poll_data_bounded, Lent, stored, delivered_by, written_out, with_bytes, step_of, perform}
use Rattle.srt_group_model.specs.declared.Data.{Data}
use Rattle.srt_group_model.specs.declared.Packet.{Packet}
use Rattle.srt_group_model.specs.Laws.Reason.{if_elim, by_test, not_both, or_right, and_left, and_right, none_some, all_map}
use Rattle.srt_group_model.specs.Laws.Refusals.{Ends, untouched, accepted, midway, call_ends, guard_elim, guard_passed}
use Rattle.srt_group_model.specs.Laws.CallLaw.{Calling, calling, called, Polls, polls_events, polls_packets, TakesCell}
use Rattle.srt_group_model.specs.Laws.EveryCall.{refreshes}
use Rattle.srt_group_traces.specs.Statement.{last_put, LendsThis, OneStore, when_of, Asked, do_call, takes_store, is_poll, store_left, Delivery, delivery_of, given_by, deliveries, state_after, log_after}
use Rattle.srt_group_traces.specs.Laws.Cases.{ge_of, and_true_left, eqb_yes, eq_of}
use Rattle.srt_group_traces.specs.Laws.Calls.{step, Kind, event_poll, data_poll, sending, queueing_data, lent_no_store, kind_of, unlent_puts_nothing, polls_of, polls_is_poll, takes_cell_lent, others_give_none}
use Rattle.srt_group_traces.specs.Laws.Marks.{last_put_elsewhere, last_put_there}
use Rattle.srt_group_traces.specs.Laws.Law.{ElsewhereThan, LiveAt}
use Rattle.srt_group_traces.specs.Laws.CallMarks.{Only, only_refreshes, Putting, step_marks}
use Rattle.srt_group_traces.specs.Laws.FreeCells.{taken_cell_within}
use Rattle.srt_group_traces.specs.Laws.Shape.{Shape, call_shape}
use Rattle.srt_group_traces.specs.Laws.Alive.{PutsIn, Known, LiveLaw, call_lives}
use Rattle.srt_group_traces.specs.Laws.ClerkClaim.{given_as_queued, delivered_as_queued}

-- ---- a payload in its cell

-- the cell lies within the store, and its bytes are what `payloads` has for it
pub record InCell (store : List ℕ) (payloads : ℕ → List ℕ) (d : Data) : Type 0 where
  pub within : d.cell * cell_size + cell_size ≤ length store
  pub small : d.length ≤ cell_size
  pub is : cell_bytes d.cell d.length store ≡ payloads d.cell

-- a payload put into one cell leaves the bytes of another
bytes_elsewhere : (store payload : List ℕ) (cell other size : ℕ) → (other ≡ cell → ⊥) → length payload ≤ cell_size
    → size ≤ cell_size
    → cell * cell_size + cell_size ≤ length store
    → cell_bytes other size (overwritten (cell * cell_size) payload store) ≡ cell_bytes other size store
bytes_elsewhere store payload cell other size different small room within =
    overwritten_run (cell * cell_size) payload store (omega arith) 0 (other * cell_size) size (apart (dec_lt other cell))
  where
    apart : Dec (other < cell)
        → (other * cell_size + size ≤ cell * cell_size) ⊎ (cell * cell_size + length payload ≤ other * cell_size)
    apart (yes lower) = inl (omega arith)
    apart (no lower) = inr (omega (arith, different))

in_cell_after_put : (store payload : List ℕ) (cell : ℕ) (log : List Mark) → length payload ≤ cell_size
    → cell * cell_size + cell_size ≤ length store
    → (d : Data) → ElsewhereThan cell d → InCell store (last_put log) d
    → InCell (overwritten (cell * cell_size) payload store) (last_put (put cell payload ∷ log)) d
in_cell_after_put store payload cell log small within d elsewhere h =
    record {
      within = omega (arith, h.within, overwritten_length (cell * cell_size) payload store (omega arith));
      small = h.small;
      is =
          bytes_elsewhere store payload cell d.cell d.length elsewhere small h.small within ∙ h.is
          ∙ sym (last_put_elsewhere cell d.cell payload log (λ e. elsewhere (sym e)));
    }

-- what was put stands there
put_in_cell : (store payload : List ℕ) (d : Data) (log : List Mark) → d.length ≡ length payload → length payload ≤ cell_size
    → d.cell * cell_size + cell_size ≤ length store
    → InCell (overwritten (d.cell * cell_size) payload store) (last_put (put d.cell payload ∷ log)) d
put_in_cell store payload d log e small within =
    record {
      within = omega (arith, overwritten_length (d.cell * cell_size) payload store (omega arith));
      small = omega (arith, e);
      is =
          ap (λ (n : ℕ). cell_bytes d.cell n (overwritten (d.cell * cell_size) payload store)) e
          ∙ overwritten_there (d.cell * cell_size) payload store (omega arith) ∙ sym (last_put_there d.cell payload log);
    }

-- a payload copied to byte 12 of an output is read there
copied_payload : (store output : List ℕ) (payloads : ℕ → List ℕ) (d : Data) → InCell store payloads d
    → head_size + cell_size ≤ length output
    → take d.length (drop head_size (overwritten head_size (cell_bytes d.cell d.length store) output)) ≡ payloads d.cell
copied_payload store output payloads d h room =
    ap (λ (n : ℕ). take n (drop head_size (overwritten head_size (cell_bytes d.cell d.length store) output))) (sym size)
    ∙ overwritten_there head_size (cell_bytes d.cell d.length store) output (omega (arith, size, h.small)) ∙ h.is
  where
    size : length (cell_bytes d.cell d.length store) ≡ d.length
    size =
        length-take d.length (drop (d.cell * cell_size) store)
        ∙ omega (arith, length-drop (d.cell * cell_size) store, h.within, h.small)

-- ---- one call

-- what is alive: queued and held packets
abbrev pub Live : (Data → Type 0) → State → Type 0
Live P = LiveAt (λ (leg : ℕ). P)

-- the store with the payloads that the marks put
unfoldable pub stored_by : List Mark → List ℕ → List ℕ
stored_by [] store = store
stored_by (put cell payload ∷ m) store = overwritten (cell * cell_size) payload (stored_by m store)
stored_by (base_set base ∷ m) store = stored_by m store
stored_by (collected p ∷ m) store = stored_by m store
stored_by (gap_skipped tested time distance ∷ m) store = stored_by m store
stored_by (delivered p ∷ m) store = stored_by m store

-- `store` is the store and `log` are the marks before the call
module _ (store : List ℕ) (log : List Mark) where
  abbrev InStore : List Mark → Data → Type 0
  InStore m = InCell (stored_by m store) (last_put (m ++ log))

  -- each payload was put into a cell of the store, and each packet delivered stood in its cell
  abbrev Within : List Mark → Type 0
  Within [] = Unit {0}
  Within (put cell payload ∷ m) = (cell * cell_size + cell_size ≤ length store) × (length payload ≤ cell_size) × Within m
  Within (base_set base ∷ m) = Within m
  Within (collected p ∷ m) = Within m
  Within (gap_skipped tested time distance ∷ m) = Within m
  Within (delivered p ∷ m) = InStore m p.content × Within m

  stored_length : (m : List Mark) → Within m → length (stored_by m store) ≡ length store
  unfolding stored_by
  stored_length [] h = refl
  stored_length (put cell payload ∷ m) h =
      let same = stored_length m h.2 in overwritten_length (cell * cell_size) payload (stored_by m store) (omega (arith, same, h.0, h.1)) ∙ same
  stored_length (base_set base ∷ m) h = stored_length m h
  stored_length (collected p ∷ m) h = stored_length m h
  stored_length (gap_skipped tested time distance ∷ m) h = stored_length m h
  stored_length (delivered p ∷ m) h = stored_length m h.1

  module _ (c : Call) (lent : Lent) (s : State) (lends : takes_store c ≡ true → (perform c lent s).code ≡ 0 → lent.store ≡ store) where
    abbrev now : Calling
    now = called c lent s

    puts_within : (cell : ℕ) (payload : List ℕ) → PutsIn now cell payload → cell * cell_size + cell_size ≤ length store
    unfolding perform with_bytes
    puts_within cell payload h =
        subst (λ (x : ℕ). x * cell_size + cell_size ≤ length store) (sym h.is)
        (subst (λ (z : List ℕ). taken_cell (cells_of (length lent.store)) s * cell_size + cell_size ≤ length z) (lends (takes_cell_lent h.takes).0 h.accepted)
        (taken_cell_within (length lent.store) s h.free))

    within_marks : (m : List Mark) (mark : Mark) → Known now (λ m leg. InStore m) Within m mark → Within m → Within (mark ∷ m)
    within_marks m (put cell payload) known h = (puts_within cell payload known, known.short, h)
    within_marks m (base_set base) known h = h
    within_marks m (collected p) known h = h
    within_marks m (gap_skipped tested time distance) known h = h
    within_marks m (delivered p) known h = (known, h)

    stands_on : (m : List Mark) (mark : Mark) → Only ⊥ (Unit {0}) mark → (leg : ℕ) (d : Data) → InStore m d → InStore (mark ∷ m) d
    unfolding stored_by last_put
    stands_on m (put cell payload) other leg d h = absurd other
    stands_on m (base_set base) other leg d h = record { within = h.within; small = h.small; is = h.is }
    stands_on m (collected p) other leg d h = record { within = h.within; small = h.small; is = h.is }
    stands_on m (gap_skipped tested time distance) other leg d h = record { within = h.within; small = h.small; is = h.is }
    stands_on m (delivered p) other leg d h = record { within = h.within; small = h.small; is = h.is }

    store_law : LiveLaw now (λ m leg. InStore m) Within
    unfolding stored_by
    store_law =
        record {
          marks = within_marks;
          stays = stands_on;
          puts =
              λ m cell payload puts x leg d elsewhere h.
              in_cell_after_put (stored_by m store) payload cell (m ++ log) puts.short (omega (arith, stored_length m x, puts_within cell payload puts)) d elsewhere h;
          queues =
              λ m cell leg d payload is puts x.
              put_in_cell (stored_by m store) payload _ (m ++ log) refl puts.short (omega (arith, stored_length m x.2, puts_within cell payload puts));
        }

-- ---- what a call puts is what it marks

unput : (m : List Mark) (store : List ℕ) → All (Only ⊥ (Unit {0})) m → stored_by m store ≡ store
unfolding stored_by
unput [] store h = refl
unput (put cell payload ∷ m) store h = absurd h.0
unput (base_set base ∷ m) store h = unput m store h.1
unput (collected p ∷ m) store h = unput m store h.1
unput (gap_skipped tested time distance ∷ m) store h = unput m store h.1
unput (delivered p ∷ m) store h = unput m store h.1

unput_marks : (store output list : ℕ) (c : Call) (s : State) → ((payload : List ℕ) → TakesCell c payload → ⊥) → All (Only ⊥ (Unit {0})) (step_of store output list c s).log
unput_marks store output list c s none_taken = all_map _ (Only ⊥ (Unit {0})) unput_mark (step_of store output list c s).log (step_marks store output list c s)
  where
    unput_mark : (mark : Mark) → Only (Putting (calling store output list c s)) (Polls c) mark → Only ⊥ (Unit {0}) mark
    unput_mark (put cell payload) h = none_taken h.0 h.1
    unput_mark (base_set base) h = tt
    unput_mark (collected p) h = tt
    unput_mark (gap_skipped tested time distance) h = tt
    unput_mark (delivered p) h = tt

module _ (bytes : List ℕ) where
  abbrev pub PutsAsMarked : Step → Type 0
  PutsAsMarked x = stored x.put bytes ≡ stored_by x.log bytes

  puts_nothing : (store output list : ℕ) (c : Call) (s : State) → ((payload : List ℕ) → TakesCell c payload → ⊥) → (step_of store output list c s).put ≡ None → PutsAsMarked (step_of store output list c s)
  unfolding stored
  puts_nothing store output list c s none_taken e =
      ap (λ (o : Option Put). stored o bytes) e ∙ sym (unput (step_of store output list c s).log bytes (unput_marks store output list c s none_taken))

  sent_as_marked : (backup : Bool) (cell : ℕ) (payload : List ℕ) (m : List Mark) → All (Only ⊥ (Unit {0})) m
      → stored (if_true backup then Some record { cell = cell; payload = payload } else None) bytes ≡ stored_by (if_true backup then put cell payload ∷ m else m) bytes
  unfolding if_true◌then◌else◌ stored stored_by
  sent_as_marked true cell payload m h = ap (overwritten (cell * cell_size) payload) (sym (unput m bytes h))
  sent_as_marked false cell payload m h = sym (unput m bytes h)

  pub marked_by : {c : Call} (store output list : ℕ) (s : State) → Kind c → PutsAsMarked (step_of store output list c s)
  unfolding step_of takes_store is_poll poll_event_call event_poll_body poll_data_call data_poll_body send send_body left_by_send queue_data queue_data_body stored stored_by
  marked_by store output list s (event_poll time) =
      puts_nothing store output list (call_poll_event time) s (λ payload takes. not_both {t = true} refl (takes_cell_lent takes).1) (guard_elim (λ (x : Step). x.put ≡ None) _ s _ (λ code. refl) refl)
  marked_by store output list s (data_poll time max_events) =
      puts_nothing store output list (call_poll_data_bounded time max_events) s (λ payload takes. not_both {t = true} refl (takes_cell_lent takes).1) (guard_elim (λ (x : Step). x.put ≡ None) _ s _ (λ code. refl) refl)
  marked_by store output list s (sending time payload) =
      let fresh = refreshes (λ hand t m. All (Only ⊥ (Unit {0})) m) (only_refreshes ⊥ (Unit {0})) None (start s) tt in
      guard_elim PutsAsMarked _ s _ (λ code. refl)
      (if_elim PutsAsMarked _ _ _ (λ e. sent_as_marked (is_backup (refresh_states (start s)).state.making.mode) _ payload (refresh_states (start s)).log fresh)
      (λ e. sym (unput (refresh_states (start s)).log bytes fresh)))
  marked_by store output list s (queueing_data id d payload) = guard_elim PutsAsMarked _ s _ (λ code. refl) refl
  marked_by store output list s (lent_no_store c lent poll h) =
      puts_nothing store output list c s (λ payload takes. not_both (takes_cell_lent takes).0 lent) (unlent_puts_nothing store output list c s lent)

-- ---- what is refused puts and gives nothing

pub refused_puts_nothing : (s : State) (x : Step) → Ends s x → eqb x.code 0 ≡ false → x.put ≡ None
refused_puts_nothing s x (untouched code e) refused = ap (λ (y : Step). y.put) e
refused_puts_nothing s x (accepted e) refused = not_both (ap (λ (n : ℕ). eqb n 0) e ∙ eqb_yes 0) refused
refused_puts_nothing s x (midway e a p) refused = p

pub giving_is_accepted : (s : State) (x : Step) (p : Packet) → Ends s x → delivered_by x.answer ≡ Some p → x.code ≡ 0
unfolding delivered_by
giving_is_accepted s x p (untouched code e) gives = none_some (sym (ap (λ (y : Step). delivered_by y.answer) e) ∙ gives)
giving_is_accepted s x p (accepted e) gives = e
giving_is_accepted s x p (midway e a q) gives = none_some (sym (ap delivered_by a) ∙ gives)

-- ---- only a poll delivers, into an output that has room

pub only_polls_deliver : (call : Asked) (s : State) (p : Packet) → delivered_by (do_call call s).answer ≡ Some p
    → is_poll call.call ≡ true
unfolding do_call perform with_bytes
only_polls_deliver call s p e =
    by_test (is_poll call.call) (λ t. t) (λ t. none_some (sym (others_give_none _ _ _ call.call s t) ∙ e))

output_has_room : (store output list : ℕ) (c : Call) (s : State) (p : Packet) → Polls c → delivered_by (step_of store output list c s).answer ≡ Some p → head_size + cell_size ≤ output
unfolding step_of poll_event_call poll_data_call delivered_by
output_has_room store output list c s p (polls_events time is) gives =
    guard_passed (λ (x : Step). delivered_by x.answer ≡ Some p → head_size + cell_size ≤ output) _ s _ (λ code e. none_some e)
    (λ g e. ge_of output (head_size + cell_size) (or_right (store_unfit store s) (output_unfit output) g.0))
    (ap (λ (x : Call). delivered_by (step_of store output list x s).answer) (sym is) ∙ gives)
output_has_room store output list c s p (polls_packets time max_events is) gives =
    guard_passed (λ (x : Step). delivered_by x.answer ≡ Some p → head_size + cell_size ≤ output) _ s _ (λ code e. none_some e)
    (λ g e. ge_of output (head_size + cell_size) (or_right (store_unfit store s) (output_unfit output) g.0))
    (ap (λ (x : Call). delivered_by (step_of store output list x s).answer) (sym is) ∙ gives)

-- ---- lists of calls

-- the one store, after a call, is that with the payload that the call marks
store_left_is_stored : (store : List ℕ) (call : Asked) (s : State) → LendsThis store call s → store_left store call s ≡ stored_by (do_call call s).log store
unfolding store_left do_call perform with_bytes stored
store_left_is_stored store call s lends =
    let marked : (bytes : List ℕ) → stored (step call s).put bytes ≡ stored_by (step call s).log bytes = λ bytes. marked_by bytes _ _ _ s (kind_of call.call) in
    if_elim (λ (z : List ℕ). z ≡ stored_by (step call s).log store) (takes_store call.call && eqb (step call s).code 0) _ _
    (λ e.
    ap (stored (step call s).put)
    (lends (and_left (takes_store call.call) (eqb (step call s).code 0) e)
    (eq_of (step call s).code 0 (and_right (takes_store call.call) (eqb (step call s).code 0) e)))
    ∙ marked store)
    (λ e.
    sym
    (ap (λ (o : Option Put). stored o store)
    (by_test (takes_store call.call)
    (λ t. refused_puts_nothing s (step call s) (call_ends _ _ _ call.call s) (and_true_left (takes_store call.call) (eqb (step call s).code 0) t e))
    (λ t. unlent_puts_nothing _ _ _ call.call s t)))
    ∙ marked store)

-- after a call, in the words of what it does
pub record AfterCall (store : List ℕ) (log : List Mark) (call : Asked) (s : State) : Type 0 where
  pub alive : Live (InCell (store_left store call s) (last_put ((do_call call s).log ++ log))) (do_call call s).state
  pub given : given_by (do_call call s) ≡ given_as_queued ((do_call call s).log ++ log) (delivered_by (do_call call s).answer)

-- the packet that a poll gives
gives_as_queued : (call : Asked) (s : State) (store : List ℕ) (log : List Mark) → LendsThis store call s → Within store log (do_call call s).log → (o : Option Packet)
    → delivered_by (do_call call s).answer ≡ o → Shape (when_of call.call s) o (do_call call s).state (do_call call s).log
    → given_by (do_call call s) ≡ given_as_queued ((do_call call s).log ++ log) (delivered_by (do_call call s).answer)
unfolding given_by do_call perform with_bytes written_out given_as_queued if_some◌give◌otherwise◌ last_put
gives_as_queued call s store log lends sound None is shape =
    ap (λ (o : Option Packet). if_some o give (λ p. delivery_of p (written_out o call.lent.store call.lent.output) ∷ []) otherwise []) is
    ∙ sym (ap (given_as_queued ((step call s).log ++ log)) is)
gives_as_queued call s store log lends sound (Some p) is shape =
    ap (λ (o : Option Packet). if_some o give (λ p. delivery_of p (written_out o call.lent.store call.lent.output) ∷ []) otherwise []) is
    ∙ ap (λ (payload : List ℕ). record { sequence = p.content.sequence; count = p.content.count; payload = payload } ∷ []) bytes
    ∙ sym (ap (given_as_queued ((step call s).log ++ log)) is)
  where
    poll : Polls call.call
    poll = polls_of call.call (only_polls_deliver call s p is)

    same : call.lent.store ≡ store
    same = lends (polls_is_poll poll).1 (giving_is_accepted s (step call s) p (call_ends _ _ _ call.call s) is)

    unput_before : stored_by shape.before store ≡ store
    unput_before =
        unput shape.before store
        (subst (All (Only ⊥ (Unit {0}))) shape.is
        (unput_marks _ _ _ call.call s (λ payload takes. not_both (polls_is_poll poll).0 (takes_cell_lent takes).1))).1

    there : InCell call.lent.store (last_put (shape.before ++ log)) p.content
    there =
        subst (λ (z : List ℕ). InCell z (last_put (shape.before ++ log)) p.content) (unput_before ∙ sym same)
        (subst (Within store log) shape.is sound).0

    bytes : take p.content.length (drop head_size (overwritten head_size (cell_bytes p.content.cell p.content.length call.lent.store) call.lent.output))
        ≡ last_put ((step call s).log ++ log) p.content.cell
    bytes =
        copied_payload call.lent.store call.lent.output (last_put (shape.before ++ log)) p.content there (output_has_room _ _ _ call.call s p poll is)
        ∙ sym (ap (λ (m : List Mark). last_put (m ++ log) p.content.cell) shape.is)

pub call_after : (call : Asked) (s : State) (store : List ℕ) (log : List Mark) → Live (InCell store (last_put log)) s
    → LendsThis store call s → AfterCall store log call s
unfolding do_call stored_by
call_after call s store log alive lends =
    let after = call_lives call.call call.lent s (λ m leg. InStore store log m) (Within store log) (store_law store log call.call call.lent s lends) alive tt in
    record {
      alive =
          subst (λ (z : List ℕ). Live (InCell z (last_put ((do_call call s).log ++ log))) (do_call call s).state)
          (sym (store_left_is_stored store call s lends)) after.0;
      given = gives_as_queued call s store log lends after.1 (delivered_by (do_call call s).answer) refl (call_shape call s);
    }

pub delivered_is_as_queued : (calls : List Asked) (s : State) (store : List ℕ) (log : List Mark)
    → Live (InCell store (last_put log)) s → OneStore store calls s
    → deliveries calls s ≡ delivered_as_queued log calls s
unfolding deliveries delivered_as_queued
delivered_is_as_queued [] s store log alive one = refl
delivered_is_as_queued (call ∷ more) s store log alive one =
    let a : AfterCall store log call s = call_after call s store log alive one.0 in
    ap (λ (z : List Delivery). z ++ deliveries more (do_call call s).state) a.given
    ∙ ap (λ (z : List Delivery). given_as_queued ((do_call call s).log ++ log) (delivered_by (do_call call s).answer) ++ z)
    (delivered_is_as_queued more (do_call call s).state (store_left store call s) ((do_call call s).log ++ log) a.alive one.1)

-- after the calls of a list, for those that come after them
pub one_store_after : (calls more : List Asked) (s : State) (store : List ℕ) (log : List Mark)
    → Live (InCell store (last_put log)) s → OneStore store (calls ++ more) s
    → (left : List ℕ) × Live (InCell left (last_put (log_after calls s ++ log))) (state_after calls s) × OneStore left more (state_after calls s)
unfolding state_after log_after
one_store_after [] more s store log alive one = (store, alive, one)
one_store_after (call ∷ calls) more s store log alive one =
    rw append_assoc
    (one_store_after calls more (do_call call s).state (store_left store call s) ((do_call call s).log ++ log)
    (call_after call s store log alive one.0).alive one.1)

-- the premise on the store is that of a beginning
pub one_store_begins : (calls more : List Asked) (s : State) (store : List ℕ) → OneStore store (calls ++ more) s
    → OneStore store calls s
one_store_begins [] more s store h = tt
one_store_begins (call ∷ calls) more s store h =
    (h.0, one_store_begins calls more (do_call call s).state (store_left store call s) h.1)

pub new_alive : (g : Making) (store : List ℕ) → Live (InCell store (last_put [])) (new g)
unfolding new
new_alive g store = (tt, tt)
