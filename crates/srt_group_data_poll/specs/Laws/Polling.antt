-- What is proved of the definitions in specs/Polling.antt, with what the proofs need.
use Rattle.srt_protocol.specs.Errors.{Outcome}
use Rattle.std.specs.Prelude.{◌≡◌, Bool, false, ◌||◌, ℕ, ◌+◌, ◌≤◌, length, None, Ok, Option, Some}
use Rattle.std.proofs.Math.Path.{refl, ap}
use Rattle.std.proofs.Common.{sym, ap₂, subst, ◌∙◌, arith, le-ltb}
use mathlib.Core.List.{List, [], ◌∷◌}
use Rattle.srt_protocol.specs.declared.error.Error.TheVariants.{InsufficientBuffer}
use Rattle.srt_protocol.specs.Errors.{if_accepted, refuse_if}
use Rattle.srt_protocol.specs.Cells.{output_size, cell_size, head_size, cells_of, overwritten, cell_bytes, cell_outcome, copy_outcome, Copied}
use Rattle.srt_protocol.specs.Laws.CellLaws.{cell_accepted}
use Rattle.srt_group_model.specs.State.{State}
use Rattle.srt_group_model.specs.Legs.{largest_64}
use Rattle.srt_group_model.specs.Cells.{used_cells}
use Rattle.srt_group_model.specs.Run.{Run, start}
use Rattle.srt_group_model.specs.Validity.{above, is_invalid}
use Rattle.srt_group_model.specs.Guards.{Answer, data_polled, Step, Check, ◌when◌, guard}
use Rattle.srt_group_model.specs.Laws.Refusals.{guard_goes_on}
use Rattle.srt_group_model.specs.Polls.{poll_data_bounded}
use Rattle.srt_group_model.specs.Calls.{store_unfit, output_unfit, left_by, data_poll_body, poll_data_call}
use Rattle.srt_group_model.specs.Lent.{Call, call_poll_data_bounded, stored, delivered_by, written_out, list_rows, with_bytes, step_of}
use Rattle.srt_group_model.specs.Sound.{SendingFit, Sound}
use Rattle.srt_group_model.specs.Laws.Valid.{counted_of, valid_of}
use Rattle.srt_group_model.specs.Laws.Sound.{sound_of_valid}
use Rattle.srt_group_model.specs.Given.{GaveData, InStore}
use Rattle.srt_group_model.specs.Laws.Given.{given_in_store, valid_within}
use Rattle.srt_group_model.specs.declared.Core.{Core}
use Rattle.srt_group_model.specs.declared.Packet.{Packet}
use Rattle.word_rows.specs.Laws.Tab.{tab_length}
use Rattle.srt_connection_members.specs.Laws.Members.{members_length}
use Rattle.srt_group_tables.specs.Waitings.{waiting_at}
use Rattle.srt_group_tables.specs.Ring.{arrays, entries_of}
use Rattle.cell_set.specs.Shows.{Shows}
use Rattle.srt_group_shown.specs.Tables.{Parts, parts, Tables, ReceiveTables, receive_tables, rest_of, state_of, Long}
use Rattle.srt_group_shown.specs.Ready.{Ready, lending, Performs}
use Rattle.srt_group_shown.specs.Laws.Ready.{one_cell, performs_accepted}
use Rattle.srt_group_collecting.specs.Leaves.{Usable, sends}
use Rattle.srt_group_collecting.specs.Laws.Leaves.{sound_blank}
use Rattle.srt_group_collecting.specs.Follows.{Follows}
use Rattle.srt_group_polls.specs.declared.polls.DataPoll.{DataPoll}
use Rattle.srt_group_polls.specs.DataPoll.{GivesData, PollsData}
use Rattle.srt_group_data_poll.specs.Polling.{answer_of, Writable}

-- ---- the payload

pub wrote : (p : Packet) (store output after : List ℕ) {r : Outcome} → Writable (Some p) (length store) (length output)
    → Copied store p.content.cell p.content.length output r after → after ≡ written_out (Some p) store output
unfolding written_out
wrote p store output after {r} fits copied =
    copied.copied ∙ ap (λ (x : Outcome). if_accepted x (overwritten head_size (cell_bytes p.content.cell p.content.length store) output) output)
    (copied.outcome ∙ accepted)
  where
    accepted : copy_outcome (length store) p.content.cell p.content.length (length output) ≡ Ok tt
    accepted =
        ap (λ (b : Bool). refuse_if b InsufficientBuffer (cell_outcome (length store) p.content.cell p.content.length))
        (le-ltb (length output) (head_size + cell_size) fits.room)
        ∙ cell_accepted (length store) p.content.cell p.content.length fits.one_cell fits.given.cell fits.given.size

pub wrote_some : (gave : Option Packet) (p : Packet) (store output after : List ℕ) {r : Outcome} → gave ≡ Some p
    → Writable gave (length store) (length output) → Copied store p.content.cell p.content.length output r after
    → after ≡ written_out gave store output
wrote_some gave p store output after is fits copied =
    wrote p store output after (subst (λ (x : Option Packet). Writable x (length store) (length output)) is fits) copied
    ∙ ap (λ (x : Option Packet). written_out x store output) (sym is)

pub wrote_none : (gave : Option Packet) (store output : List ℕ) → gave ≡ None → output ≡ written_out gave store output
unfolding written_out
wrote_none gave store output is = ap (λ (x : Option Packet). written_out x store output) (sym is)

-- ---- a poll of a valid state

-- the tables that receiving moves, and the five with those moved
abbrev pub moved_of : Tables → ReceiveTables
moved_of t = receive_tables t.members t.pending t.waiting

abbrev pub with_moved : ReceiveTables → Tables → Tables
with_moved u t =
    record { members = u.members; pending = u.pending; waiting = u.waiting; history = t.history; sources = t.sources }

-- what the inner poll is given
module _ {p : Parts} {t : Tables} {store : ℕ} {used : List ℕ} (ready : Ready p t store used) where
  sound : Sound (state_of p t)
  sound = sound_of_valid (cells_of store) (state_of p t) (omega arith) ready.valid

  pub usable : Usable p.core (moved_of t)
  usable =
      let counted = counted_of (state_of p t) (valid_of (cells_of store) (state_of p t) ready.valid).counts in
      record {
        members_long = ready.long.members;
        pending_long = ready.long.pending;
        waiting_long = ready.long.waiting;
        members_few = omega (arith, counted.members, members_length p.core.counts.members t.members);
        waiting_few = omega (arith, counted.waiting, tab_length p.core.counts.waiting (waiting_at t.waiting));
        sound = sound_blank p.core (rest_of p t) (moved_of t) sound;
      }

  pub sending_fits : SendingFit p.sending
  sending_fits = sound.fit.sending

  -- what a data poll gives can be written to an output that is long enough
  pub writable_given : {output : ℕ} (time max_events : ℕ) (gave : Option Packet)
      → (poll_data_bounded time max_events (start (state_of p t))).gave ≡ gave → output_size ≤ output → Writable gave store output
  writable_given time max_events gave is room_there =
      record {
        given =
            subst (GaveData (InStore (cells_of store))) is
            (given_in_store (cells_of store) time max_events (state_of p t) (valid_within (cells_of store) (state_of p t) ready.valid) sound.fit);
        one_cell = one_cell ready;
        room = room_there;
      }

-- What either poll promises, of the record, the tables and the words that the inner poll leaves: no test refuses it, so it is its
-- body, which leaves the state that they show, and an answer.
module _ (time : ℕ) (p : Parts) (t : Tables) (store output used : List ℕ) (ready : Ready p t (length store) used)
    (room_there : output_size ≤ length output) (small : time ≤ largest_64) where
  abbrev before : State
  before = state_of p t

  abbrev checks : List Check
  checks =
      (5 when (store_unfit (length store) before || output_unfit (length output))) ∷ (6 when is_invalid (cells_of (length store)) before)
      ∷ (2 when above largest_64 time) ∷ []

  no_5 : (store_unfit (length store) before || output_unfit (length output)) ≡ false
  no_5 = rw ready.fits (le-ltb (length output) (head_size + cell_size) room_there)

  none_refuses : (body : Step) → guard checks before body ≡ body
  unfolding guard
  none_refuses body =
      guard_goes_on (5 when (store_unfit (length store) before || output_unfit (length output)))
      ((6 when is_invalid (cells_of (length store)) before) ∷ (2 when above largest_64 time) ∷ []) before body no_5
      ∙ guard_goes_on (6 when is_invalid (cells_of (length store)) before) ((2 when above largest_64 time) ∷ []) before body ready.valid
      ∙ guard_goes_on (2 when above largest_64 time) [] before body (le-ltb largest_64 time small)

  module _ (core : Core) (u : ReceiveTables) (used' output' : List ℕ) (members_long : length u.members ≡ length t.members)
      (pending_long : length u.pending ≡ length t.pending) (waiting_long : length u.waiting ≡ length t.waiting)
      (follows : Follows p.core t.members t.pending used core u.members u.pending used') where
    abbrev p' : Parts
    p' = parts p.identity core p.sending p.ring

    abbrev t' : Tables
    t' = with_moved u t

    long_after : Long t'
    long_after =
        record {
          members = omega (arith, ready.long.members, members_long);
          pending = omega (arith, ready.long.pending, pending_long);
          waiting = omega (arith, ready.long.waiting, waiting_long);
          history = ready.long.history;
          sources = ready.long.sources;
        }

    shows_after : Shows used' (state_of p' t')
    unfolding used_cells
    shows_after = record { cells = follows.shows (entries_of p.ring (arrays t.history t.sources)) ready.shows.cells }

    pub poll_performed : (call : Call) (run : Run) (answer given : Answer)
        → step_of (length store) (length output) 0 call before ≡ guard checks before (left_by run answer) → given ≡ answer
        → run.state ≡ state_of p' t' → output' ≡ written_out (delivered_by given) store output
        → Performs call p t (lending store output) 0 given p' t' (lending store output') used'
    unfolding with_bytes stored overwritten list_rows
    poll_performed call run answer given is is_answer is_state wrote_out =
        performs_accepted call p t (lending store output) used ready (left_by run answer) p' t' (lending store output') used'
        (is ∙ none_refuses (left_by run answer)) refl is_answer (sym is_state)
        (ap (lending store) (wrote_out ∙ ap (λ (x : Answer). written_out (delivered_by x) store output) is_answer))
        refl long_after (subst (Shows used') (sym is_state) shows_after)

-- ---- the data poll

module _ (time max_events : ℕ) (p : Parts) (t : Tables) (r : DataPoll) (u : ReceiveTables)
    (polls : PollsData (sends p.sending) (poll_data_bounded time max_events) p.core (moved_of t) r u) where
  gives : GivesData (poll_data_bounded time max_events (start (state_of p t))) r (rest_of p t) u
  gives = polls.run (rest_of p t) refl [] 0

  pub writable : {store output : ℕ} {used : List ℕ} → Ready p t store used → output_size ≤ output → Writable r.gave store output
  writable ready room_there = writable_given ready time max_events r.gave gives.gave room_there

  pub performed : (store output used : List ℕ) → Ready p t (length store) used → output_size ≤ length output → (used' output' : List ℕ)
      → time ≤ largest_64 → Follows p.core t.members t.pending used r.core u.members u.pending used'
      → output' ≡ written_out r.gave store output
      → Performs (call_poll_data_bounded time max_events) p t (lending store output) 0 (answer_of r)
      (parts p.identity r.core p.sending p.ring) (with_moved u t) (lending store output') used'
  unfolding step_of poll_data_call data_poll_body delivered_by
  performed store output used ready room_there used' output' small follows wrote_out =
      poll_performed time p t store output used ready room_there small r.core u used' output' polls.members_long
      polls.pending_long polls.waiting_long follows (call_poll_data_bounded time max_events)
      (poll_data_bounded time max_events (start (state_of p t))).run _ (answer_of r) refl
      (ap₂ (λ (o : Option Packet) (b : Bool). data_polled o b) (sym gives.gave) (sym gives.continuation)) gives.state wrote_out
