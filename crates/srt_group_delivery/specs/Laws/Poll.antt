-- What is proved of the definitions in specs/Poll.antt, with what the proofs need.
use Rattle.srt_group_delivery.specs.declared.delivery.GroupEvent.TheVariants.{Event as AnEvent, Packet as APacket}
use Rattle.std.specs.Prelude.{◌≡◌, Bool, true, false, ℕ, ◌+◌, ◌-◌, ◌≤◌, ◌<◌, min, length, drop, None, Option, Some, is_some}
use Rattle.std.proofs.Math.Path.{refl, ap}
use Rattle.std.proofs.Common.{sym, ◌∙◌, arith, eqb-true}
use mathlib.Core.List.{List}
use Rattle.srt_protocol.specs.Sequence.{sequence_distance}
use Rattle.word_rows.specs.Tab.{tab}
use Rattle.word_rows.specs.Laws.Tab.{tab_length}
use Rattle.srt_group_model.specs.Legs.{largest_64, largest_sequence}
use Rattle.srt_group_model.specs.Sound.{PacketFit}
use Rattle.srt_group_model.specs.declared.Core.{Core}
use Rattle.srt_group_model.specs.declared.Packet.{Packet}
use Rattle.srt_group_model.specs.declared.Receiving.{Receiving}
use Rattle.srt_group_model.specs.declared.Waiting.{Waiting}
use Rattle.srt_group_model.specs.Tools.{All, if_some◌give◌otherwise◌, flagged, is_set, place_of, at_place}
use Rattle.srt_group_model.specs.State.{with_waiting, based_at}
use Rattle.srt_group_model.specs.Core.{with_receiving, with_waiting_count}
use Rattle.srt_group_model.specs.Nearest.{sequence_of, has_sequence, held_at}
use Rattle.srt_group_model.specs.Run.{Mark, Run, set_base}
use Rattle.srt_group_model.specs.Validity.{max_pending, ascends}
use Rattle.srt_group_model.specs.Delivery.{nothing, deliver, skip_to, give_waiting}
use Rattle.srt_connection_queue.specs.Laws.Tab.{tab_place, place_below, tab_passes, all_tab}
use Rattle.srt_group_tables.specs.Packets.{packet_at, packets, place_found}
use Rattle.srt_group_tables.specs.Laws.PacketLaws.{ascends_up, ascends_le}
use Rattle.srt_group_tables.specs.Waitings.{waiting_at, waitings, HoldsWaiting}
use Rattle.srt_group_shown.specs.Shown.{Rest, shown}
use Rattle.srt_group_shown.specs.Tables.{receive_tables, shown_by}
use Rattle.srt_group_delivery.specs.declared.delivery.Poll.{Poll}
use Rattle.srt_group_collecting.specs.Leaves.{under_way}
use Rattle.srt_group_delivery.specs.Delivery.{HeldAt, Delivered}
use Rattle.srt_group_delivery.specs.Laws.Delivery.{first_place}
use Rattle.srt_group_delivery.specs.Poll.{Polls, Skips, Bases}
use Rattle.srt_group_model.specs.Delivery as model

-- ---- what a poll gives

abbrev pub nothing_given : Core → Poll
nothing_given core = record { gave = None; core = core }

-- a step that gives nothing and does nothing
pub gives_nothing : (f : Run → model.Poll) (core : Core) (ms ps ws : List ℕ)
    → ((others : Rest) (log : List Mark) (budget : ℕ)
    → f (under_way core others (receive_tables ms ps ws) log budget) ≡ record { gave = nothing; run = under_way core others (receive_tables ms ps ws) log budget })
    → Polls f core (receive_tables ms ps ws) (nothing_given core) (receive_tables ms ps ws)
gives_nothing f core ms ps ws is =
    record {
      members_long = refl;
      pending_long = refl;
      waiting_long = refl;
      members_same = refl;
      waiting_most = omega arith;
      run =
          λ others log budget.
          record {
            gave = ap (λ (p : model.Poll). p.gave) (is others log budget);
            run =
                record {
                  state = ap (λ (p : model.Poll). p.run.state) (is others log budget);
                  budget = ap (λ (p : model.Poll). p.run.budget) (is others log budget);
                };
          };
    }

-- ---- the packet at the base

found_some : (o : Option ℕ) (i : ℕ) → Some i ≡ o → o ≡ Some i
found_some None i e = cc e
found_some (Some j) i e = cc e

found_none : (o : Option ℕ) → None ≡ o → o ≡ None
found_none None e = refl
found_none (Some j) e = cc e

module _ (n sequence : ℕ) (words : List ℕ) where
  held_below : (i : ℕ) → Some i ≡ place_found sequence (packets n words) → i < n
  held_below i e =
      omega (
        arith,
        place_below (has_sequence sequence) (packets n words) i (found_some (place_of (has_sequence sequence) (packets n words)) i e),
        tab_length n (packet_at words),
      )

  pub found_in_table : {r : Option ℕ} (i : ℕ) → r ≡ Some i → r ≡ place_found sequence (packets n words) → n ≤ max_pending → i < max_pending
  found_in_table i there is few = omega (arith, held_below i (sym there ∙ is))

  -- it stands at the sequence's place, and the sequence is one of the circle, as the packet's is
  pub found_held : {r : Option ℕ} (i : ℕ) → r ≡ Some i → r ≡ place_found sequence (packets n words) → ascends (packets n words) ≡ true
      → All PacketFit (packets n words) → HeldAt words n sequence i
  found_held i there is up fit =
      record {
        placed =
            record {
              within = omega (arith, inside);
              below = λ k lower. omega (arith, same, ascends_up n (packet_at words) up k i lower inside);
              above = λ k higher below. omega (arith, same, ascends_le n (packet_at words) up i k higher below);
            };
        small = record { run = omega (arith, same, fits i inside); held = fits };
      }
    where
      inside : i < n
      inside = held_below i (sym there ∙ is)

      same : sequence_of (packet_at words i) ≡ sequence
      same =
          eqb-true (sequence_of (packet_at words i)) sequence
          (tab_passes (has_sequence sequence) n (packet_at words) i (found_some (place_of (has_sequence sequence) (packets n words)) i (sym there ∙ is)))

      fits : (k : ℕ) → k < n → sequence_of (packet_at words k) ≤ largest_sequence
      fits k below = (all_tab PacketFit n (packet_at words) fit k below).sequence

  held_there : (i : ℕ) → Some i ≡ place_found sequence (packets n words) → held_at sequence (packets n words) ≡ Some (packet_at words i)
  unfolding if_some◌give◌otherwise◌
  held_there i e =
      rw (
        first_place (has_sequence sequence) (packets n words),
        found_some (place_of (has_sequence sequence) (packets n words)) i e,
      )
      (tab_place n (packet_at words) i (held_below i e))

  held_nowhere : None ≡ place_found sequence (packets n words) → held_at sequence (packets n words) ≡ None
  unfolding if_some◌give◌otherwise◌
  held_nowhere e =
      rw (
        first_place (has_sequence sequence) (packets n words),
        found_none (place_of (has_sequence sequence) (packets n words)) e,
      )

module _ (base : ℕ) (core : Core) (ms ps ws : List ℕ) where
  pub base_not_held : {r : Option ℕ} → r ≡ None → r ≡ place_found base (packets core.counts.pending ps)
      → Polls (deliver base) core (receive_tables ms ps ws) (nothing_given core) (receive_tables ms ps ws)
  unfolding deliver if_some◌give◌otherwise◌
  base_not_held none_found is =
      gives_nothing (deliver base) core ms ps ws (λ others log budget. rw (held_nowhere core.counts.pending base ps (sym none_found ∙ is)))

  pub base_delivered : {p : Packet} {r : Option ℕ} (i : ℕ) (after : Core) (ms' ps' : List ℕ) → r ≡ Some i
      → r ≡ place_found base (packets core.counts.pending ps) → p ≡ packet_at ps i
      → Delivered base p core ms ps after ms' ps'
      → Polls (deliver base) core (receive_tables ms ps ws) record { gave = Some (APacket p); core = after } (receive_tables ms' ps' ws)
  unfolding deliver if_some◌give◌otherwise◌
  base_delivered {p} i after ms' ps' found_there there is delivered =
      let at : held_at base (packets core.counts.pending ps) ≡ Some p =
      held_there core.counts.pending base ps i (sym found_there ∙ there) ∙ ap (λ (q : Packet). Some q) (sym is) in
      let left = delivered.leaves ws in
      record {
        members_long = left.members_long;
        pending_long = left.pending_long;
        waiting_long = refl;
        members_same = left.members_same;
        waiting_most = omega (arith, delivered.waiting_same);
        run = λ others log budget. rw at record { gave = refl; run = record { state = left.state others; budget = refl } };
      }

-- ---- the first waiting event

module _ (core : Core) (ms ps ws : List ℕ) where
  none_there : core.counts.waiting ≡ 0 → at_place 0 (waitings core.counts.waiting ws) ≡ None
  unfolding at_place tab
  none_there e = rw e

  pub none_waits : core.counts.waiting ≡ 0 → Polls give_waiting core (receive_tables ms ps ws) (nothing_given core) (receive_tables ms ps ws)
  unfolding give_waiting if_some◌give◌otherwise◌
  none_waits e = gives_nothing give_waiting core ms ps ws (λ others log budget. rw (none_there e))

  pub first_waits : {w : Waiting} (ws' : List ℕ) → (core.counts.waiting ≡ 0 → ⊥) → w ≡ waiting_at ws 0
      → HoldsWaiting (length ws) ws' (core.counts.waiting - 1) (drop 1 (waitings core.counts.waiting ws))
      → Polls give_waiting core (receive_tables ms ps ws) record { gave = Some (AnEvent w); core = with_waiting_count (core.counts.waiting - 1) core } (receive_tables ms ps ws')
  unfolding give_waiting if_some◌give◌otherwise◌
  first_waits {w} ws' some_waits is popped =
      let at : at_place 0 (waitings core.counts.waiting ws) ≡ Some w =
      tab_place core.counts.waiting (waiting_at ws) 0 (omega (arith, some_waits)) ∙ ap (λ (x : Waiting). Some x) (sym is) in
      record {
        members_long = refl;
        pending_long = refl;
        waiting_long = popped.length_kept;
        members_same = refl;
        waiting_most = omega arith;
        run =
            λ others log budget.
            rw at
            record {
              gave = refl;
              run =
                  record {
                    state = ap (λ (l : List Waiting). with_waiting l (shown core others ms ps ws)) (sym popped.is);
                    budget = refl;
                  };
            };
      }

-- ---- the base is skipped ahead, or first set

abbrev pub with_numbers : (base skipped : ℕ) → Core → Core
with_numbers base skipped = with_receiving (based_at base skipped)

pub skips : {skipped : ℕ} (base next : ℕ) (core : Core) → skipped ≡ min (core.receiving.skipped + sequence_distance base next) largest_64
    → Skips base next core (with_numbers next skipped core)
unfolding skip_to
skips base next core is =
    record {
      waiting_same = refl;
      leaves =
          λ t.
          record {
            members_long = refl;
            pending_long = refl;
            waiting_long = refl;
            members_same = refl;
            state =
                λ others.
                ap (λ (n : ℕ). shown_by (with_numbers next n core) others t) (sym is);
          };
    }

module _ (core : Core) where
  -- the base's option says whether it is set
  module _ {was : Option ℕ} {set : Bool} (here : was ≡ flagged (is_set core.receiving.based) core.receiving.base) (told : set ≡ is_some was) where
    is_told : set ≡ is_set core.receiving.based
    unfolding flagged
    is_told = told ∙ ap is_some here ∙ go (is_set core.receiving.based)
      where
        go : (b : Bool) → is_some (flagged b core.receiving.base) ≡ b
        go true = refl
        go false = refl

    pub base_was_set : (option : Option ℕ) → set ≡ true → Bases option core core
    unfolding set_base flagged if_some◌give◌otherwise◌
    base_was_set option there =
        record { counts_same = refl; run = λ others t log budget. rw (sym is_told ∙ there) record { state = refl; budget = refl } }

    pub base_not_given : {option : Option ℕ} → set ≡ false → option ≡ None → Bases option core core
    unfolding set_base flagged if_some◌give◌otherwise◌
    base_not_given unset not_given =
        record { counts_same = refl; run = λ others t log budget. rw (sym is_told ∙ unset, not_given) record { state = refl; budget = refl } }

    pub base_given : {option : Option ℕ} (base : ℕ) {put : Receiving} → set ≡ false → option ≡ Some base → put ≡ based_at base core.receiving.skipped
        → Bases option core (with_receiving put core)
    unfolding set_base flagged if_some◌give◌otherwise◌
    base_given base unset given is =
        rw is record { counts_same = refl; run = λ others t log budget. rw (sym is_told ∙ unset, given) record { state = refl; budget = refl } }
