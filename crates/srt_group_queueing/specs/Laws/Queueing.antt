-- What is proved of the definitions in specs/Queueing.antt, with what the proofs need.
use Rattle.srt_protocol.specs.Errors.{Outcome}
use Rattle.std.specs.Prelude.{◌≡◌, Bool, true, false, ℕ, ◌+◌, ◌*◌, ◌^◌, ◌≤◌, ◌<◌, eqb, Err, Ok, Option, Result, Some}
use Rattle.std.specs.Option.{ok_or}
use Rattle.std.proofs.Math.Path.{refl, sym, ap, subst}
use Rattle.std.proofs.Common.{◌∙◌, lt-ltb, le-ltb}
use mathlib.Core.List.{List, [], ◌∷◌}
use native.Mathlib.Omega.{arith}
use Rattle.std.proofs.Math.ListN.{length}
use Rattle.srt_protocol.specs.declared.error.Error.{Error}
use Rattle.srt_protocol.specs.declared.error.Error.TheVariants.{OutOfRange, UnknownMember, PayloadTooLong, NoFreeCell, QueueFull}
use Rattle.srt_protocol.specs.Errors.{error_number, outcome_number, refuse_if, if_accepted}
use Rattle.srt_protocol.specs.Cells.{cell_size, cells_of, overwritten, Put}
use Rattle.srt_protocol.specs.Laws.CellLaws.{overwritten_length, cell_accepted}
use Rattle.srt_group_model.specs.Tools.{if_some◌give◌otherwise◌, change}
use Rattle.srt_group_model.specs.Laws.Reason.{by_test, or_right}
use Rattle.srt_group_model.specs.State.{Member, State, with_members, on_leg}
use Rattle.srt_group_model.specs.Legs.{add_reservation, largest_16}
use Rattle.srt_group_model.specs.Members.{find}
use Rattle.srt_group_model.specs.Cells.{free_cell}
use Rattle.srt_group_model.specs.Validity.{above, data_words, is_invalid}
use Rattle.srt_group_model.specs.Guards.{no_answer, Step, Check, ◌when◌, guard}
use Rattle.srt_group_model.specs.Laws.InRange.{in_range_of}
use Rattle.srt_group_model.specs.Laws.Refusals.{guard_stops, guard_goes_on}
use Rattle.srt_group_model.specs.Laws.Places.{change_nothing}
use Rattle.srt_group_model.specs.Laws.Sound.{sound_of_valid, reservation_most}
use Rattle.srt_group_model.specs.Laws.CellsMoved.{Moves, enqueue_takes}
use Rattle.srt_group_model.specs.Calls.{store_unfit, data_unfit, is_unknown, no_free_cell, taken_cell, of_member, queue_full, enqueue, data_event, queue_data_body, queue_data}
use Rattle.srt_group_model.specs.Lent.{Call, call_queue_data, stored, delivered_by, written_out, list_rows, with_bytes, step_of}
use Rattle.srt_group_model.specs.declared.Data.{Data}
use Rattle.srt_group_model.specs.declared.Event.{Event}
use Rattle.srt_connection_members.specs.Members.{member_at, Changed, PushedAt}
use Rattle.srt_connection_members.specs.Laws.Members.{changed_by, changed_twice}
use Rattle.cell_set.specs.Sets.{Taken, CanTake, LowestFree}
use Rattle.cell_set.specs.Laws.Shows.{shows_taken, lowest_found, none_found}
use Rattle.srt_group_shown.specs.Tables.{Parts, Tables, state_of, Long}
use Rattle.srt_group_shown.specs.Ready.{Ready, storing, Performs}
use Rattle.srt_group_shown.specs.Laws.Ready.{one_cell, performs_refused, performs_refused_over, performs_accepted}
use Rattle.srt_group_queueing.specs.Queueing.{Enqueueable, with_data, Enqueues}
use Rattle.srt_group_queueing.specs.Laws.OneMember.{which_error, was_none}
use Rattle.srt_group_refusals.specs.Laws.Begins.{never_accepted}
use Rattle.srt_group_shown.specs.Laws.Found.{with_table, long_with, is_nowhere, place, is_known, of_found, change_found, found_row, shown_changed}

-- ---- the member at an index, once a cell is found

module _ (index cell : ℕ) (d : Data) (payload members store used : List ℕ) where
  pub enqueue_refused : {r : Outcome} (e : Error) (members' : List ℕ) (event : Event) → PushedAt index event members r members' → r ≡ Err e
      → Enqueues index cell d payload members store used (Err e) members' store used
  enqueue_refused e members' event pushed is =
      record {
        outcome = sym is ∙ pushed.outcome;
        queued =
            changed_by index members members' (λ m. m) pushed.changed
            (ap (λ (o : Outcome). if_accepted o (enqueue event (member_at members index)) (member_at members index)) is);
        stored_there = refl;
        taken = λ never. never_accepted never;
        kept = λ f g. refl;
      }

  module _ (fits : Enqueueable index cell d (length payload) members (length store)) where
    accepted_changed : {r : Outcome} (event : Event) (u v : List ℕ) → event ≡ data_event cell (length payload) d
        → PushedAt index event members r u → r ≡ Ok tt → Changed index (on_leg (add_reservation d.count)) u v
        → Changed index (with_data cell (length payload) d) members v
    accepted_changed event u v made pushed is reserved =
        changed_twice index members u v
        (changed_by index members u (enqueue (data_event cell (length payload) d)) pushed.changed
        (ap (λ (o : Outcome). if_accepted o (enqueue event (member_at members index)) (member_at members index)) is
        ∙ ap (λ (e : Event). enqueue e (member_at members index)) made))
        reserved

    pub enqueue_accepted : {r put : Outcome} (event : Event) (u members' store' used' : List ℕ) → event ≡ data_event cell (length payload) d
        → PushedAt index event members r u → r ≡ Ok tt → Changed index (on_leg (add_reservation d.count)) u members'
        → Put store cell payload put store' → Taken cell used used'
        → Enqueues index cell d payload members store used (Ok tt) members' store' used'
    enqueue_accepted {r} {put} event u members' store' used' made pushed is reserved stores takes =
        record {
          outcome = sym is ∙ pushed.outcome;
          queued = accepted_changed event u members' made pushed is reserved;
          stored_there =
              stores.stored
              ∙ ap (λ (o : Outcome). if_accepted o (overwritten (cell * cell_size) payload store) store)
              (stores.outcome ∙ cell_accepted (length store) cell (length payload) fits.one_cell fits.cell_there fits.payload);
          taken = λ a. takes;
          kept = λ e never. never_accepted (sym never);
        }

    -- the room for the reservation is still there once the event is pushed
    pub room_left : {r : Outcome} (event : Event) (u : List ℕ) → PushedAt index event members r u → r ≡ Ok tt
        → (member_at u index).leg.receiver.reserved + d.count < 2 ^ 64
    room_left event u pushed is =
        subst (λ (m : Member). m.leg.receiver.reserved + d.count < 2 ^ 64)
        (sym (pushed.changed.here ∙ ap (λ (o : Outcome). if_accepted o (enqueue event (member_at members index)) (member_at members index)) is))
        fits.room

-- ---- the call

module _ (id : ℕ) (d : Data) (payload : List ℕ) (p : Parts) (t : Tables) (store used : List ℕ) (ready : Ready p t (length store) used) where
  abbrev s : State
  s = state_of p t

  abbrev call : Call
  call = call_queue_data id d payload

  -- what is left to show: the call with an outcome, over the members, the store and the words after it
  abbrev pub Queues : Outcome → (members' store' used' : List ℕ) → Type 0
  Queues o members' store' used' =
      Performs call p t (storing store) (outcome_number o) no_answer p (with_table members' t) (storing store') used'

  abbrev room : ℕ
  room = cells_of (length store)

  abbrev body : Step
  body = queue_data_body id (taken_cell room s) d payload s

  abbrev 31_on : List Check
  31_on = (31 when of_member id queue_full s) ∷ []

  abbrev 30_on : List Check
  30_on = (30 when no_free_cell room s) ∷ 31_on

  abbrev 4_on : List Check
  4_on = (4 when above cell_size (length payload)) ∷ 30_on

  abbrev 3_on : List Check
  3_on = (3 when is_unknown id s) ∷ 4_on

  abbrev 2_on : List Check
  2_on = (2 when data_unfit id d) ∷ 3_on

  abbrev step : Step
  step = step_of (length store) 0 0 call s

  starts : step ≡ guard 2_on s body
  unfolding step_of queue_data
  starts =
      guard_goes_on (5 when store_unfit (length store) s) ((6 when is_invalid room s) ∷ 2_on) s body ready.fits
      ∙ guard_goes_on (6 when is_invalid room s) 2_on s body ready.valid

  pub data_refused : data_unfit id d ≡ true → Queues (Err OutOfRange) t.members store used
  data_refused unfit = performs_refused call p t (storing store) used ready (error_number OutOfRange) (starts ∙ guard_stops (2 when data_unfit id d) 3_on s body unfit)

  module _ (fit : data_unfit id d ≡ false) where
    after_2 : step ≡ guard 3_on s body
    after_2 = starts ∙ guard_goes_on (2 when data_unfit id d) 3_on s body fit

    pub unknown_refused : (o : Option ℕ) {r : Result ℕ Error} {e : Error} → o ≡ find id s.members → r ≡ ok_or o UnknownMember → r ≡ Err e
        → Queues (Err e) t.members store used
    unknown_refused o found is nowhere =
        subst (λ (x : Error). Queues (Err x) t.members store used) (which_error o UnknownMember is nowhere)
        (performs_refused call p t (storing store) used ready (error_number UnknownMember)
        (after_2 ∙ guard_stops (3 when is_unknown id s) 4_on s body (is_nowhere id p t (was_none o UnknownMember is nowhere ∙ found))))

    module _ (i : ℕ) (at : Some i ≡ find id s.members) where
      after_3 : step ≡ guard 4_on s body
      after_3 = after_2 ∙ guard_goes_on (3 when is_unknown id s) 4_on s body (is_known id p t i at)

      pub long_refused : cell_size < length payload → Queues (Err PayloadTooLong) t.members store used
      long_refused long =
          performs_refused call p t (storing store) used ready (error_number PayloadTooLong)
          (after_3 ∙ guard_stops (4 when above cell_size (length payload)) 30_on s body (lt-ltb cell_size (length payload) long))

      module _ (short : length payload ≤ cell_size) where
        after_4 : step ≡ guard 30_on s body
        after_4 = after_3 ∙ guard_goes_on (4 when above cell_size (length payload)) 30_on s body (le-ltb cell_size (length payload) short)

        pub full_refused : (o : Option ℕ) {r : Result ℕ Error} {e : Error} → LowestFree used room o → r ≡ ok_or o NoFreeCell → r ≡ Err e
            → Queues (Err e) t.members store used
        unfolding if_some◌give◌otherwise◌
        full_refused o lowest is none_left =
            subst (λ (x : Error). Queues (Err x) t.members store used) (which_error o NoFreeCell is none_left)
            (performs_refused call p t (storing store) used ready (error_number NoFreeCell)
            (after_4
            ∙ guard_stops (30 when no_free_cell room s) 31_on s body
            (ap (λ (o : Option ℕ). if_some o give (λ c. false) otherwise true)
            (none_found ready.shows lowest (sym (was_none o NoFreeCell is none_left))))))

        module _ {r : Option ℕ} (cell : ℕ) (lowest : LowestFree used room r) (is : r ≡ Some cell) where
          free_there : free_cell room s ≡ Some cell
          free_there = lowest_found ready.shows lowest is

          can : CanTake used room (Some cell)
          can = subst (CanTake used room) is lowest.free

          after_30 : step ≡ guard 31_on s (queue_data_body id cell d payload s)
          unfolding if_some◌give◌otherwise◌
          after_30 =
              after_4
              ∙ guard_goes_on (30 when no_free_cell room s) 31_on s body
              (ap (λ (o : Option ℕ). if_some o give (λ c. false) otherwise true) free_there)
              ∙ ap (λ (o : Option ℕ). guard 31_on s (queue_data_body id (if_some o give (λ c. c) otherwise 0) d payload s)) free_there

          full_is : of_member id queue_full s ≡ queue_full (member_at t.members i)
          full_is = of_found id p t i at queue_full

          pub enqueueable : Enqueueable i cell d (length payload) t.members (length store)
          unfolding data_unfit data_words
          enqueueable =
              record {
                there = found_row ready id i at;
                room =
                    omega (
                      arith,
                      reservation_most s i (member_at t.members i) (sound_of_valid room s (omega arith) ready.valid) (place id p t i at),
                      count_fits,
                    );
                one_cell = one_cell ready;
                cell_there = can.0;
                payload = short;
              }
            where
              count_fits : d.count ≤ largest_16
              count_fits =
                  (in_range_of _ (or_right (eqb d.count 0) _ fit)).1.1.0

          module _ (o : Outcome) (members' store' used' : List ℕ) (done : Enqueues i cell d payload t.members store used o members' store' used') where
            abbrev t' : Tables
            t' = with_table members' t

            long_after : Long t'
            long_after = long_with ready.long members' done.queued.long

            -- the same members, or the packet in the queue of the one at the index
            queued_by : (f : Member → Member) → if_accepted o (with_data cell (length payload) d (member_at t.members i)) (member_at t.members i) ≡ f (member_at t.members i)
                → state_of p t' ≡ with_members (change i f s.members) s
            queued_by f same = shown_changed p t i f members' (changed_by i t.members members' f done.queued same)

            refused_31 : queue_full (member_at t.members i) ≡ true → Queues o members' store' used'
            refused_31 full =
                let is : o ≡ Err QueueFull = done.outcome ∙ ap (λ (b : Bool). refuse_if b QueueFull (Ok tt)) full in
                let same : state_of p t' ≡ s =
                queued_by (λ m. m) (ap (λ (x : Outcome). if_accepted x (with_data cell (length payload) d (member_at t.members i)) (member_at t.members i)) is)
                ∙ ap (λ (ms : List Member). with_members ms s) (change_nothing i s.members)
                in
                let refused = performs_refused_over call p t (storing store) used ready (error_number QueueFull)
                (after_30 ∙ guard_stops (31 when of_member id queue_full s) [] s (queue_data_body id cell d payload s) (full_is ∙ full)) t' same long_after
                in
                subst (λ (x : Outcome). Queues x members' store' used') (sym is)
                (subst (λ (x : List ℕ). Queues (Err QueueFull) members' x used')
                (sym (done.stored_there ∙ ap (λ (x : Outcome). if_accepted x (overwritten (cell * cell_size) payload store) store) is))
                (subst (λ (x : List ℕ). Queues (Err QueueFull) members' store x) (sym (done.kept QueueFull is)) refused))

            body_state : (queue_data_body id cell d payload s).state ≡ with_members (change i (with_data cell (length payload) d) s.members) s
            unfolding queue_data_body
            body_state = change_found id p t i at (with_data cell (length payload) d)

            accepted : queue_full (member_at t.members i) ≡ false → Queues o members' store' used'
            unfolding queue_data_body guard with_bytes stored delivered_by written_out list_rows overwritten
            accepted room_left =
                let is : o ≡ (Ok tt) = done.outcome ∙ ap (λ (b : Bool). refuse_if b QueueFull (Ok tt)) room_left in
                let same : state_of p t' ≡ (queue_data_body id cell d payload s).state =
                queued_by (with_data cell (length payload) d) (ap (λ (x : Outcome). if_accepted x (with_data cell (length payload) d (member_at t.members i)) (member_at t.members i)) is)
                ∙ sym body_state
                in
                let bytes : store' ≡ overwritten (cell * cell_size) payload store =
                done.stored_there ∙ ap (λ (x : Outcome). if_accepted x (overwritten (cell * cell_size) payload store) store) is
                in
                let moves : Moves (cell ∷ []) [] s (queue_data_body id cell d payload s).state =
                subst (Moves (cell ∷ []) [] s) (sym body_state) (enqueue_takes i cell (length payload) d (member_at t.members i) s (place id p t i at))
                in
                subst (λ (x : Outcome). Queues x members' store' used') (sym is)
                (performs_accepted call p t (storing store) used ready (queue_data_body id cell d payload s) p t' (storing store') used'
                (after_30 ∙ guard_goes_on (31 when of_member id queue_full s) [] s (queue_data_body id cell d payload s) (full_is ∙ room_left))
                refl refl same (ap storing bytes)
                (ap length bytes ∙ overwritten_length (cell * cell_size) payload store (omega (arith, enqueueable.cell_there, short)))
                long_after (shows_taken ready.shows can.1 (done.taken is) moves))

            pub performed : Queues o members' store' used'
            performed = by_test (queue_full (member_at t.members i)) refused_31 accepted
