-- What is proved of the definitions in specs/Straight.antt, over the record and the lent tables: a packet that is given straight is what the definition's poll
-- gives.
use Rattle.srt_group_delivery.specs.declared.delivery.GroupEvent.TheVariants.{Packet as APacket}
use Rattle.std.specs.Prelude.{◌≡◌, refl, Bool, true, ◌&&◌, List, [], ◌∷◌, ℕ, suc, ◌+◌, ◌%◌, ◌≤◌, ◌<◌, eqb, length, None, Option, Some}
use Rattle.std.proofs.Math.Path.{ap, sym}
use Rattle.std.proofs.Common.{ap₂, subst, ◌∙◌, add-one, arith, eqb-true}
use Rattle.std.proofs.Math.Bool.{false}
use Rattle.std.proofs.lemmas.Bool.{not-false}
use Rattle.srt_protocol.specs.Sequence.{sequence_further}
use Rattle.srt_group_model.specs.declared.Event.{Event}
use Rattle.srt_group_model.specs.declared.Packet.{Packet}
use Rattle.srt_group_model.specs.Tools.{is_set, bit, flagged, at_place, change, each}
use Rattle.srt_group_model.specs.Laws.Reason.{and_left, and_right, some_inj, none_some}
use Rattle.srt_group_model.specs.State.{with_receive, with_base, with_members, with_continuation, with_round, on_leg, based_at}
use Rattle.srt_group_model.specs.Legs.{release_data_reservation, advance_receive_sequence, largest_sequence}
use Rattle.srt_group_model.specs.Sound.{Sound}
use Rattle.srt_group_model.specs.Nearest.{sequence_of, is_held}
use Rattle.srt_group_model.specs.Run.{Mark}
use Rattle.srt_group_model.specs.Collecting.{in_turn}
use Rattle.srt_group_model.specs.Delivery.{advance_legs}
use Rattle.srt_group_model.specs.Polls.{poll_event}
use Rattle.srt_group_model.specs.declared.Core.{Core}
use Rattle.srt_group_model.specs.declared.Counts.{Counts}
use Rattle.srt_group_model.specs.declared.Sending.{Sending}
use Rattle.srt_group_model.specs.Laws.Steps.{poll_event_has}
use Rattle.srt_group_model.specs.Laws.Sound.{sound_law}
use Rattle.srt_group_model.specs.Core.{with_receiving, with_visit}
use Rattle.srt_group_model.specs.Members.{id_of}
use Rattle.srt_connection_members.specs.Members.{member_at, members_of, HasRow, Changed, ChangedAll}
use Rattle.srt_connection_members.specs.Laws.Members.{members_place, members_length, found_some, changed_twice}
use Rattle.srt_connection_queue.specs.Queue.{popped as queue_popped}
use Rattle.srt_group_tables.specs.Packets.{packets}
use Rattle.srt_group_tables.specs.Waitings.{waiting_at}
use Rattle.srt_group_shown.specs.Shown.{Rest, shown, blank, nothing_sent}
use Rattle.srt_group_shown.specs.Tables.{receive_tables}
use Rattle.cell_set.specs.Sets.{Freed}
use Rattle.srt_group_collecting.specs.Leaves.{Usable, sends, under_way}
use Rattle.srt_group_collecting.specs.Follows.{Follows}
use Rattle.srt_group_collecting.specs.Laws.Follows.{follows_freed}
use Rattle.srt_group_collecting.specs.Laws.Turn.{in_turn_inside}
use Rattle.srt_group_collecting.specs.Laws.Gather.{tab_spent}
use Rattle.srt_group_delivery.specs.declared.delivery.Poll.{Poll as PollAnswer}
use Rattle.srt_group_delivery.specs.Poll.{polled_of}
use Rattle.srt_group_delivery.specs.Delivery.{Deliverable}
use Rattle.srt_group_skip.specs.Skip.{PollsFrom}
use Rattle.srt_group_polls.specs.declared.straight.Straight.{Straight as Answer}
use Rattle.srt_group_polls.specs.Straight.{given_from, given_straight, Goes, goes, Given}
use Rattle.srt_group_polls.specs.Refresh.{Known}
use Rattle.srt_group_polls.specs.Laws.Straight.{PolledSo, goes_straight}

-- ---- over the record and the lent tables

flagged_is : (b : Bool) (n k : ℕ) → flagged b n ≡ Some k → n ≡ k
unfolding flagged
flagged_is true n k e = some_inj e
flagged_is false n k e = none_some e

module _ (core : Core) (ms ps ws : List ℕ) (usable : Usable core (receive_tables ms ps ws)) (i : ℕ) (p : Packet) (at_base : Goes i p core ms ps) where
  in_circle : sequence_of p ≤ largest_sequence
  in_circle =
      subst (λ (n : ℕ). n ≤ largest_sequence)
      (flagged_is (is_set core.receiving.based) core.receiving.base (sequence_of p) (at_base.straight blank ws).based) usable.sound.fit.receiving.base

  polled : (time : ℕ) (others : Rest) (log : List Mark) (budget : ℕ) → PolledSo time i p (under_way core others (receive_tables ms ps ws) log budget)
  polled time others log budget =
      goes_straight time (under_way core others (receive_tables ms ps ws) log budget) i p (at_base.straight others ws) usable.sound.sums.unique
      usable.sound.fit.pending in_circle

  module _ (answer : PollAnswer) (ms' : List ℕ) (given : Given i p core ms answer ms') where
    usable_given : Usable answer.core (receive_tables ms' ps ws)
    usable_given =
        record {
          members_long = omega (arith, usable.members_long, given.members_long);
          pending_long = usable.pending_long;
          waiting_long = usable.waiting_long;
          members_few = omega (arith, usable.members_few, ap (λ (n : Counts). n.members) given.counts_same);
          waiting_few = omega (arith, usable.waiting_few, ap (λ (n : Counts). n.waiting) given.counts_same);
          sound =
              subst Sound ((polled 0 blank [] 0).state ∙ given.state blank ps ws)
              (poll_event_has Sound sound_law 0 (under_way core blank (receive_tables ms ps ws) [] 0) usable.sound);
        }

    -- it is the definition's poll
    pub polls_straight : (sending : Sending) (time budget : ℕ)
        → PollsFrom (sends sending) (poll_event time) core budget (receive_tables ms ps ws) answer (receive_tables ms' ps ws)
    polls_straight sending time budget =
        record {
          members_long = given.members_long;
          pending_long = refl;
          waiting_long = refl;
          members_same = ap (λ (n : Counts). n.members) given.counts_same;
          usable = usable_given;
          run =
              λ others among log.
              record {
                gave = (polled time others log budget).gave ∙ ap polled_of (sym given.gave);
                state = (polled time others log budget).state ∙ given.state others ps ws;
              };
        }

    pub follows_straight : (used used' : List ℕ) → Freed (p.content.cell ∷ []) used used' → Follows core ms ps used answer.core ms' ps used'
    follows_straight used used' freed =
        follows_freed core answer.core ms ps ws ms' ps ws used used' nothing_sent (λ others. given_straight i p (shown core others ms ps ws))
        (λ others same. given.state others ps ws) freed (λ others. (polled 0 others [] 0).cells)

-- ---- the search for it

module _ {found : Option ℕ} (core : Core) (ms ps : List ℕ) (i : ℕ) (there : found ≡ Some i)
    (turn : found ≡ in_turn core.visit.round (members_of core.counts.members ms)) where
  inside : i < core.counts.members
  inside = in_turn_inside core.counts.members core.visit.round i ms there turn

  pub turn_has_row : Deliverable core ms ps → HasRow i ms
  turn_has_row d = omega (arith, inside, d.members_long, d.members_few)

  -- each test of it was passed
  pub all_passed : {quiet alone held : Bool} {first : Option Event} {id : ℕ} {o : Option ℕ} (base : ℕ) (e : Event) → Known quiet core ms → quiet ≡ true
      → core.counts.waiting ≤ 0 → o ≡ Some base → o ≡ flagged (is_set core.receiving.based) core.receiving.base → first ≡ Some e → first ≡ at_place 0 (member_at ms i).queue → alone ≡ true
      → alone ≡ (eqb e.kind 0 && (eqb e.content.sequence base && eqb e.content.count 1)) → held ≡ false
      → held ≡ is_held base (packets core.counts.pending ps) → id ≡ id_of (member_at ms i)
      → Goes i record { member = id; owned = 0; content = e.content } core ms ps
  all_passed base e known quiet none_waits some_base is_base some_first is_first yes_alone is_alone not_held is_held' named =
      let tests = sym is_alone ∙ yes_alone in
      let at = eqb e.content.sequence base in
      let one = eqb e.content.count 1 in
      let later = and_right (eqb e.kind 0) (at && one) tests in
      let sequence : e.content.sequence ≡ base = eqb-true _ _ (and_left at one later) in
      record {
        inside = inside;
        straight =
            λ others ws.
            record {
              quiet = known quiet;
              none_waits = not-false _ (tab_spent core.counts.waiting (waiting_at ws) none_waits);
              based = sym is_base ∙ some_base ∙ ap (λ (n : ℕ). Some n) (sym sequence);
              turn = found_some (in_turn core.visit.round (members_of core.counts.members ms)) i (sym there ∙ turn);
              member = member_at ms i;
              there = members_place core.counts.members ms i inside;
              event = e;
              first = event_some (at_place 0 (member_at ms i).queue) (sym some_first ∙ is_first);
              is_data = eqb-true _ _ (and_left (eqb e.kind 0) (at && one) tests);
              packet = ap (λ (n : ℕ). record { member = n; owned = 0; content = e.content }) named;
              alone = eqb-true _ _ (and_right at one later);
              free =
                  ap (λ (n : ℕ). is_held n (packets core.counts.pending ps)) sequence ∙ sym is_held' ∙ not_held;
            };
      }
    where
      event_some : (o : Option Event) → Some e ≡ o → o ≡ Some e
      event_some None k = cc k
      event_some (Some x) k = cc k

-- ---- it is given

module _ (core : Core) (ms ms₁ ms₂ ms₃ : List ℕ) (i : ℕ) (p : Packet) where
  -- the record after it
  abbrev given_core : ℕ → Core
  given_core next =
      with_receiving (based_at next core.receiving.skipped) (with_visit record { continuation = 0; round = (i + 1) % core.counts.members } core)

  pub given_all : {next : ℕ} → next ≡ sequence_further (sequence_of p) p.content.count → Changed i queue_popped ms ms₁
      → Changed i (on_leg (release_data_reservation p.content.count)) ms₁ ms₂
      → ChangedAll core.counts.members (on_leg (advance_receive_sequence next)) ms₂ ms₃
      → Given i p core ms record { gave = Some (APacket p); core = given_core next } ms₃
  unfolding given_straight advance_legs bit
  given_all {next} is_next off_queue off_leg advanced =
      record {
        gave = refl;
        counts_same = refl;
        members_long = advanced.long ∙ off_leg.long ∙ off_queue.long;
        state =
            λ others ps ws k.
            with_receive (with_base (sym is_next k) (shown core others ms ps ws).receive)
            (with_members (members_now k) (with_round (round_now k) (with_continuation false (shown core others ms ps ws))));
      }
    where
      members_now : each (on_leg (advance_receive_sequence (sequence_further (sequence_of p) p.content.count))) (change i (given_from p.content.count) (members_of core.counts.members ms))
          ≡ members_of core.counts.members ms₃
      members_now =
          ap (λ (k : ℕ). each (on_leg (advance_receive_sequence k)) (change i (given_from p.content.count) (members_of core.counts.members ms))) (sym is_next)
          ∙ sym
          (advanced.members
          ∙ ap (each (on_leg (advance_receive_sequence next))) ((changed_twice i ms ms₁ ms₂ off_queue off_leg).members core.counts.members))

      round_now : suc i % length (members_of core.counts.members ms) ≡ (i + 1) % core.counts.members
      round_now = ap₂ (λ (a b : ℕ). a % b) (sym (add-one i)) (members_length core.counts.members ms)

pub goes_at : {answer : Option Answer} (core : Core) (ms ps : List ℕ) (a : Answer) → answer ≡ Some a → goes answer core ms ps → Goes a.index a.packet core ms ps
goes_at core ms ps a is = subst (λ (x : Option Answer). goes x core ms ps) is
