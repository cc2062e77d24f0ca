-- A law of the steps: a valid state is sound, and stays so between the steps of a poll. And what soundness says of the event in
-- front of a queue.
use Rattle.std.specs.Prelude.{◌≡◌, refl, Bool, true, false, ◌&&◌, List, [], ◌∷◌, ℕ, suc, ◌+◌, ◌*◌, ◌≤◌, ◌<◌, ltb, eqb, length, Some}
use Rattle.std.proofs.Common.{sym, subst, arith, ltb-false, ltb-true}
use Rattle.std.proofs.lemmas.Bool.{not-false}
use Rattle.srt_protocol.specs.Cells.{max_cells}
use Rattle.srt_group_model.specs.Tools.{at_place, total, All}
use Rattle.srt_group_model.specs.Laws.Reason.{if_elim, by_test, not_both, or_right, all_at, all_map}
use Rattle.srt_group_model.specs.State.{Member, State}
use Rattle.srt_group_model.specs.Accounts.{reserve, Fits}
use Rattle.srt_group_model.specs.Legs.{largest_sequence, largest_16, largest_32}
use Rattle.srt_group_model.specs.Members.{id_of}
use Rattle.srt_group_model.specs.Collecting.{front}
use Rattle.srt_group_model.specs.Cells.{is_data, is_among, used_cells}
use Rattle.srt_group_model.specs.Validity.{any_above, event_words, ascends, data_words, data_out_of_range, event_out_of_range, held_sequence_twice, id_twice, cell_twice, cell_beyond_store, is_invalid, queued_count, max_queued, max_pending, is_held_for}
use Rattle.srt_group_model.specs.Laws.Steps.{StateLaw, both_laws, law_as}
use Rattle.srt_group_model.specs.Sound.{Within, room, one, occurs, pending_cells, InRound, EventFit, MemberFit, PacketFit, Fit, Sound}
use Rattle.srt_group_model.specs.Laws.CellsKept.{room_inside, room_most, one_same, present, popped_data, apart_of_rules, uses_used}
use Rattle.srt_group_model.specs.Laws.CellsCalls.{within_law}
use Rattle.srt_group_model.specs.Laws.Counts.{apart_few, pending_length}
use Rattle.srt_group_model.specs.Laws.Rounds.{round_law}
use Rattle.srt_group_model.specs.Laws.RangesKept.{front_fit}
use Rattle.srt_group_model.specs.Laws.InRange.{in_range_of}
use Rattle.srt_group_model.specs.Laws.RangesCalls.{fit_law}
use Rattle.srt_group_model.specs.Laws.SumsKept.{sums_of_rule, right_law, Right}
use Rattle.srt_group_model.specs.Laws.Valid.{valid_of, counted_of, fit_of}
use Rattle.srt_group_model.specs.Laws.Accounts.{Small, few_account, few_room}
use Rattle.srt_group_model.specs.declared.Account.{Account}
use Rattle.srt_group_model.specs.declared.Data.{Data}
use Rattle.srt_group_model.specs.declared.Event.{Event}
use Rattle.srt_group_model.specs.declared.Packet.{Packet}
use Rattle.srt_group_model.specs.Laws.Weights.{counted_most}

-- ---- the steps keep it

-- its parts, each with a law of its own
Parts : State → Type 0
Parts s = Right s × (Within (room max_cells) s × (Fit s × InRound s))

parts_law : StateLaw Parts
unfolding Parts
parts_law =
    both_laws _ _ right_law (both_laws _ _ (within_law max_cells) (both_laws _ _ fit_law round_law))

parts_of : (s : State) → Sound s → Parts s
unfolding Parts
parts_of s h = (record { accounts = h.sums; ascending = h.ascending }, (h.cells, (h.fit, h.round)))

of_parts : (s : State) → Parts s → Sound s
unfolding Parts
of_parts s h = record { ascending = h.0.ascending; cells = h.1.0; fit = h.1.1.0; sums = h.0.accounts; round = h.1.1.1 }

pub sound_law : StateLaw Sound
sound_law = law_as Parts Sound parts_of of_parts parts_law

-- ---- a valid state has it

room_wider : (cells n : ℕ) → cells ≤ max_cells → room cells n ≤ room max_cells n
room_wider cells n wide =
    if_elim (λ (a : ℕ). a ≤ room max_cells n) (ltb n cells) 1 0
    (λ e.
    if_elim (λ (b : ℕ). 1 ≤ b) (ltb n max_cells) 1 0 (λ g. omega arith)
    (λ g. absurd (omega (arith, wide, ltb-true n cells e, ltb-false n max_cells g))))
    (λ e. omega arith)

pub sound_of_valid : (cells : ℕ) (s : State) → cells ≤ max_cells → is_invalid cells s ≡ false → Sound s
unfolding held_sequence_twice cell_twice cell_beyond_store id_twice
sound_of_valid cells s wide fine =
    let h = valid_of cells s fine in
    let apart = apart_of_rules cells (used_cells s) h.cells_once h.cells_inside in
    record {
      ascending = not-false (ascends s.receive.pending) h.ascending;
      cells = λ n. omega (arith, apart n, uses_used n s, room_wider cells n wide);
      fit = fit_of cells s h;
      sums = sums_of_rule s h.ids_once h.sums;
      round = (counted_of s h.counts).round;
    }

-- ---- the event in front of a queue

-- what the code needs to know of a data event in front of the queue of the member at a place, to hold its packet
pub record FrontData (s : State) (m : Member) (e : Event) : Type 0 where
  pub sequence : e.content.sequence ≤ largest_sequence
  pub count : e.content.count ≤ largest_16
  pub cell : e.content.cell < max_cells
  pub apart : is_among e.content.cell (pending_cells s.receive.pending) ≡ false
  pub held : length s.receive.pending < max_pending
  pub room : Fits (reserve e.content.count m.membership.account)
  pub id : id_of m ≤ largest_32

right_of : (a b : Bool) → a ≡ true → a && b ≡ false → b ≡ false
right_of true b t e = e
right_of false b t e = not_both t refl

pub count_fits : (d : Data) → data_out_of_range d ≡ false → d.count ≤ largest_16
unfolding data_out_of_range data_words
count_fits d h = (in_range_of _ (or_right (eqb d.count 0) _ h)).1.0

pub small_packets : (ps : List Packet) → All PacketFit ps → All Small ps
small_packets = all_map PacketFit Small (λ p h. count_fits p.content h.fields)

module _ (s : State) (i : ℕ) (m : Member) (e : Event) (sound : Sound s) (at : at_place i s.members ≡ Some m)
    (in_front : front m.queue ≡ Some e) (is_packet : eqb e.kind 0 ≡ true) where
  member_fits : MemberFit m
  member_fits = all_at MemberFit i m s.members at sound.fit.members

  event_fits : EventFit e
  event_fits = front_fit m.queue e in_front member_fits.queue

  -- its cell is used once more than by the held packets
  used_once : (n : ℕ) → one e.content.cell n + occurs n (pending_cells s.receive.pending) ≤ room max_cells n
  used_once n = omega (arith, sound.cells n, popped_data n i m e s.members at in_front is_packet)

  few : suc (length (pending_cells s.receive.pending)) ≤ max_cells
  unfolding occurs
  few = apart_few max_cells (e.content.cell ∷ pending_cells s.receive.pending) used_once

  fields_fit : data_out_of_range e.content ≡ false
  unfolding event_out_of_range
  fields_fit =
      right_of (is_data e) _ is_packet (or_right (any_above (event_words e)) _ event_fits.fields)

  pub front_data : FrontData s m e
  front_data =
      record {
        sequence = ltb-false largest_sequence e.content.sequence (right_of (is_data e) _ is_packet event_fits.sequence);
        count = count_fits e.content fields_fit;
        cell =
            room_inside max_cells e.content.cell
            (omega (arith, used_once e.content.cell, one_same e.content.cell));
        apart =
            by_test (is_among e.content.cell (pending_cells s.receive.pending))
            (λ among.
            absurd
            (omega (
              arith,
              present e.content.cell (pending_cells s.receive.pending) among,
              used_once e.content.cell,
              one_same e.content.cell,
              room_most max_cells e.content.cell,
            )))
            (λ g. g);
        held = omega (arith, few, pending_length s.receive.pending);
        room =
            subst (λ (a : Account). Fits (reserve e.content.count a)) (sym (all_at _ i m s.members at sound.sums.members).account)
            (few_room (omega (arith, few, pending_length s.receive.pending)) (count_fits e.content fields_fit)
            (few_account (is_held_for (id_of m)) s.receive.pending (small_packets s.receive.pending sound.fit.pending)));
        id = member_fits.id;
      }

-- ---- a leg's reservation

queued_most : (q : List Event) → All EventFit q → queued_count q ≤ largest_16 * length q
unfolding total event_out_of_range
queued_most [] h = omega arith
queued_most (e ∷ q) h =
    let fields = or_right (any_above (event_words e)) _ h.0.fields in
    omega (arith, counted_most largest_16 is_data (λ x. x.content.count) e (λ d. count_fits e.content (right_of (is_data e) _ d fields)), queued_most q h.1)

-- it is the counts of at most 2,048 held packets and 16 queued ones
pub reservation_most : (s : State) (i : ℕ) (m : Member) → Sound s → at_place i s.members ≡ Some m
    → m.leg.receiver.reserved ≤ largest_16 * (max_pending + max_queued)
reservation_most s i m sound at =
    let fits = all_at MemberFit i m s.members at sound.fit.members in
    omega (
      arith,
      (all_at _ i m s.members at sound.sums.members).reservation,
      (few_account (is_held_for (id_of m)) s.receive.pending (small_packets s.receive.pending sound.fit.pending)).reserved,
      apart_few max_cells (pending_cells s.receive.pending) (λ n. omega (arith, sound.cells n)),
      pending_length s.receive.pending,
      queued_most m.queue fits.queue,
      fits.short,
    )
