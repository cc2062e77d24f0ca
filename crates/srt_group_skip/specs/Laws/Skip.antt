-- What is proved of the definitions in specs/Skip.antt, with what the proofs need.
use Rattle.std.specs.Prelude.{◌≡◌, refl, Bool, true, false, List, [], ◌∷◌, ℕ, ◌≤◌, ◌<◌, length, None, Option, Some}
use Rattle.std.proofs.Math.Path.{ap, sym}
use Rattle.std.proofs.Common.{subst, ◌∙◌, arith}
use Rattle.std.proofs.Math.Bool.{not}
use Rattle.srt_protocol.specs.Sequence.{sequence_distance}
use Rattle.word_rows.specs.Laws.Tab.{tab_length}
use Rattle.srt_group_model.specs.declared.Core.{Core}
use Rattle.srt_group_model.specs.declared.Counts.{Counts}
use Rattle.srt_group_model.specs.declared.Packet.{Packet}
use Rattle.srt_group_model.specs.Tools.{if_true◌then◌else◌, if_some◌give◌otherwise◌, is_set, flagged, is_empty}
use Rattle.srt_group_model.specs.Laws.Flag.{zero_unset, other_set}
use Rattle.srt_group_model.specs.State.{State, with_receive, next_receive_sequence}
use Rattle.srt_group_model.specs.Nearest.{sequence_of, is_held, nearest}
use Rattle.srt_group_model.specs.Run.{Mark, gap_skipped, Run, on_state, marking, set_base}
use Rattle.srt_group_model.specs.Collecting.{Emptied as EmptiedRun, collect_until_empty}
use Rattle.srt_group_model.specs.Delivery.{deliver, skip_to, give_waiting, gap_given_up, skip_nearest, skip_after, max_visits, base_stays, skip_given_up_gap}
use Rattle.srt_group_model.specs.Delivery as model
use Rattle.srt_group_model.specs.Polls.{deliver_nearest, deliver_next}
use Rattle.srt_group_model.specs.Laws.Steps.{skip_has, deliver_next_has}
use Rattle.srt_group_model.specs.Sound.{Sound}
use Rattle.srt_group_model.specs.Laws.Sound.{sound_law}
use Rattle.srt_group_model.specs.Validity.{max_waiting}
use Rattle.srt_group_tables.specs.Packets.{packet_at, packets, packet_found, FoundPacket}
use Rattle.srt_group_tables.specs.Waitings.{waiting_at}
use Rattle.srt_group_shown.specs.Shown.{Rest, shown, blank}
use Rattle.srt_group_shown.specs.Tables.{ReceiveTables, receive_tables}
use Rattle.srt_group_collecting.specs.declared.collecting.Emptied.{Emptied}
use Rattle.srt_group_delivery.specs.declared.delivery.Poll.{Poll}
use Rattle.srt_group_collecting.specs.Leaves.{every, Usable, under_way}
use Rattle.srt_group_collecting.specs.Gather.{Empties}
use Rattle.srt_group_collecting.specs.Laws.Gather.{tab_full, tab_spent, neither, run_is}
use Rattle.srt_group_delivery.specs.Delivery.{Deliverable}
use Rattle.srt_group_delivery.specs.Poll.{Gives, Polls, Skips, Bases}
use Rattle.srt_group_delivery.specs.Laws.Poll.{nothing_given, gives_nothing}
use Rattle.srt_group_skip.specs.Skip.{GivesState, PollsFrom}

-- ---- what a delivery may rely on, after a step that leaves the tables alone

-- the base may be another
as_many : (core after : Core) (ms ps : List ℕ) → after.counts.members ≡ core.counts.members → after.counts.pending ≡ core.counts.pending
    → Deliverable core ms ps → Deliverable after ms ps
as_many core after ms ps same_members same_pending d =
    record {
      members_long = d.members_long;
      pending_long = d.pending_long;
      members_few = omega (arith, d.members_few, same_members);
      held_few = omega (arith, d.held_few, same_pending);
      ascending = rw same_pending d.ascending;
      fitting = rw same_pending d.fitting;
    }

pub deliverable_skipped : (base next : ℕ) (core after : Core) (ms ps : List ℕ) → Skips base next core after → Deliverable core ms ps
    → Deliverable after ms ps
unfolding skip_to
deliverable_skipped base next core after ms ps skip =
    let left = skip.leaves (receive_tables ms ps []) in
    let same : length (packets core.counts.pending ps) ≡ length (packets after.counts.pending ps) =
    ap (λ (s : State). length s.receive.pending) (left.state blank) in
    as_many core after ms ps left.members_same
    (omega (arith, same, tab_length core.counts.pending (packet_at ps), tab_length after.counts.pending (packet_at ps)))

pub deliverable_based : (option : Option ℕ) (core after : Core) (ms ps : List ℕ) → Bases option core after → Deliverable core ms ps
    → Deliverable after ms ps
deliverable_based option core after ms ps bases =
    as_many core after ms ps (ap (λ (n : Counts). n.members) bases.counts_same) (ap (λ (n : Counts). n.pending) bases.counts_same)

-- ---- a poll that goes on from another record and other tables

polls_on : (f g : Run → model.Poll) (core after : Core) (ms ps ws : List ℕ) (answer : Poll) (ms' ps' ws' : List ℕ)
    → after.counts.members ≡ core.counts.members → after.counts.waiting ≡ core.counts.waiting
    → (marks : Rest → List Mark → ℕ → List Mark)
    → ((others : Rest) (log : List Mark) (budget : ℕ)
    → f (under_way core others (receive_tables ms ps ws) log budget) ≡ g (under_way after others (receive_tables ms ps ws) (marks others log budget) budget))
    → Polls g after (receive_tables ms ps ws) answer (receive_tables ms' ps' ws') → Polls f core (receive_tables ms ps ws) answer (receive_tables ms' ps' ws')
polls_on f g core after ms ps ws answer ms' ps' ws' same_members same_waiting marks is polls =
    record {
      members_long = polls.members_long;
      pending_long = polls.pending_long;
      waiting_long = polls.waiting_long;
      members_same = polls.members_same ∙ same_members;
      waiting_most = omega (arith, polls.waiting_most, same_waiting);
      run =
          λ others log budget.
          subst (λ (q : model.Poll). Gives q answer others (receive_tables ms' ps' ws') budget) (sym (is others log budget))
          (polls.run others (marks others log budget) budget);
    }

-- from the same record
polls_as : (f g : Run → model.Poll) (core : Core) (ms ps ws : List ℕ) (answer : Poll) (ms' ps' ws' : List ℕ)
    → ((others : Rest) (log : List Mark) (budget : ℕ)
    → f (under_way core others (receive_tables ms ps ws) log budget) ≡ g (under_way core others (receive_tables ms ps ws) log budget))
    → Polls g core (receive_tables ms ps ws) answer (receive_tables ms' ps' ws') → Polls f core (receive_tables ms ps ws) answer (receive_tables ms' ps' ws')
polls_as f g core ms ps ws answer ms' ps' ws' is =
    polls_on f g core core ms ps ws answer ms' ps' ws' refl refl (λ others log budget. log) is

-- ---- the nearest packet

module _ (r : Run) (p : Packet) (near : nearest r.state.receive.pending ≡ Some p) where
  nearest_skipped_to : (tested : State) (time base : ℕ) → skip_nearest tested time base r
      ≡ deliver (sequence_of p)
      (marking (gap_skipped tested time (sequence_distance base (sequence_of p)))
      (on_state (λ s. with_receive (skip_to base (sequence_of p) s.receive) s) r))
  unfolding if_some◌give◌otherwise◌
  nearest_skipped_to tested time base = rw near

  nearest_delivered : deliver_nearest r ≡ deliver (sequence_of p) (set_base (Some (sequence_of p)) r)
  unfolding if_some◌give◌otherwise◌
  nearest_delivered = rw near

module _ (core : Core) (ms ps ws : List ℕ) {r : Option ℕ} (near : FoundPacket ps core.counts.pending r (nearest (packets core.counts.pending ps))) where
  module _ (e : r ≡ None) where
    none_near : nearest (packets core.counts.pending ps) ≡ None
    none_near = sym near.is ∙ ap (packet_found ps) e

    pub none_to_skip_to : (tested : State) (time base : ℕ) → Polls (skip_nearest tested time base) core (receive_tables ms ps ws) (nothing_given core) (receive_tables ms ps ws)
    unfolding if_some◌give◌otherwise◌
    none_to_skip_to tested time base =
        gives_nothing (skip_nearest tested time base) core ms ps ws (λ others log budget. rw none_near)

    pub none_to_deliver : Polls deliver_nearest core (receive_tables ms ps ws) (nothing_given core) (receive_tables ms ps ws)
    unfolding if_some◌give◌otherwise◌
    none_to_deliver = gives_nothing deliver_nearest core ms ps ws (λ others log budget. rw none_near)

  module _ (i : ℕ) (e : r ≡ Some i) {p : Packet} (is : p ≡ packet_at ps i) (after : Core) (answer : Poll) (ms' ps' : List ℕ) where
    near_is : nearest (packets core.counts.pending ps) ≡ Some p
    near_is = sym near.is ∙ ap (packet_found ps) e ∙ ap (λ (q : Packet). Some q) (sym is)

    packet_skipped_to : (tested : State) (time base : ℕ) → Skips base (sequence_of p) core after
        → Polls (deliver (sequence_of p)) after (receive_tables ms ps ws) answer (receive_tables ms' ps' ws)
        → Polls (skip_nearest tested time base) core (receive_tables ms ps ws) answer (receive_tables ms' ps' ws)
    packet_skipped_to tested time base skip =
        polls_on (skip_nearest tested time base) (deliver (sequence_of p)) core after ms ps ws answer ms' ps' ws
        (skip.leaves (receive_tables ms ps ws)).members_same skip.waiting_same
        (λ others log budget. gap_skipped tested time (sequence_distance base (sequence_of p)) ∷ log) goes_on
      where
        goes_on : (others : Rest) (log : List Mark) (budget : ℕ)
            → skip_nearest tested time base (under_way core others (receive_tables ms ps ws) log budget)
            ≡ deliver (sequence_of p)
            (under_way after others (receive_tables ms ps ws) (gap_skipped tested time (sequence_distance base (sequence_of p)) ∷ log) budget)
        goes_on others log budget =
            nearest_skipped_to (under_way core others (receive_tables ms ps ws) log budget) p near_is tested time base
            ∙ ap
            (λ (s : State).
            deliver (sequence_of p)
            record { state = s; log = gap_skipped tested time (sequence_distance base (sequence_of p)) ∷ log; budget = budget })
            ((skip.leaves (receive_tables ms ps ws)).state others)

    delivered_based : Bases (Some (sequence_of p)) core after → Polls (deliver (sequence_of p)) after (receive_tables ms ps ws) answer (receive_tables ms' ps' ws)
        → Polls deliver_nearest core (receive_tables ms ps ws) answer (receive_tables ms' ps' ws)
    delivered_based bases =
        polls_on deliver_nearest (deliver (sequence_of p)) core after ms ps ws answer ms' ps' ws
        (ap (λ (n : Counts). n.members) bases.counts_same) (ap (λ (n : Counts). n.waiting) bases.counts_same)
        (λ others log budget. (set_base (Some (sequence_of p)) (under_way core others (receive_tables ms ps ws) log budget)).log) goes_on
      where
        goes_on : (others : Rest) (log : List Mark) (budget : ℕ)
            → deliver_nearest (under_way core others (receive_tables ms ps ws) log budget)
            ≡ deliver (sequence_of p)
            (under_way after others (receive_tables ms ps ws) (set_base (Some (sequence_of p)) (under_way core others (receive_tables ms ps ws) log budget)).log budget)
        goes_on others log budget =
            let based = set_base (Some (sequence_of p)) (under_way core others (receive_tables ms ps ws) log budget) in
            let at = bases.run others (receive_tables ms ps ws) log budget in
            nearest_delivered (under_way core others (receive_tables ms ps ws) log budget) p near_is
            ∙ ap (deliver (sequence_of p)) (run_is based (shown after others ms ps ws) budget at.state at.budget)

  -- the packet's sequence is all that is read of it
  module _ (i : ℕ) (e : r ≡ Some i) {next : ℕ} (is : next ≡ sequence_of (packet_at ps i)) (after : Core) (answer : Poll) (ms' ps' : List ℕ) where
    pub skipped_to : (tested : State) (time base : ℕ) → Skips base next core after
        → Polls (deliver next) after (receive_tables ms ps ws) answer (receive_tables ms' ps' ws)
        → Polls (skip_nearest tested time base) core (receive_tables ms ps ws) answer (receive_tables ms' ps' ws)
    skipped_to tested time base skip polls =
        packet_skipped_to i e refl after answer ms' ps' tested time base (rw is at skip) (rw is at polls)

    pub delivered_first : Bases (Some next) core after → Polls (deliver next) after (receive_tables ms ps ws) answer (receive_tables ms' ps' ws)
        → Polls deliver_nearest core (receive_tables ms ps ws) answer (receive_tables ms' ps' ws)
    delivered_first bases polls = delivered_based i e refl after answer ms' ps' (rw is at bases) (rw is at polls)

-- ---- after the queues were collected

-- the rest of a skip, once the visits have gone so
abbrev pub skip_from : (emptied : Bool) (tested : State) (time base : ℕ) → Run → model.Poll
skip_from emptied tested time base r = skip_after time tested base record { emptied = emptied; run = r }

module _ (emptied : Bool) (tested : State) (time base : ℕ) (r : Run) where
  waiting_first : not (is_empty r.state.waiting) ≡ true → skip_from emptied tested time base r ≡ give_waiting r
  unfolding skip_after if_true◌then◌else◌
  waiting_first waits = rw waits

  module _ (none_waits : not (is_empty r.state.waiting) ≡ false) where
    ended_empty : emptied ≡ true → skip_from emptied tested time base r ≡ skip_nearest tested time base r
    unfolding skip_after if_true◌then◌else◌
    ended_empty yes_emptied = rw (none_waits, yes_emptied)

    not_ended : emptied ≡ false → skip_from emptied tested time base r ≡ deliver base r
    unfolding skip_after if_true◌then◌else◌
    not_ended not_emptied = rw (none_waits, not_emptied)

module _ (emptied : Bool) (base : ℕ) (core : Core) (ms ps ws : List ℕ) (answer : Poll) (ms' ps' ws' : List ℕ) (tested : State) (time : ℕ) where
  pub event_first : 0 < core.counts.waiting → Polls give_waiting core (receive_tables ms ps ws) answer (receive_tables ms' ps' ws')
      → Polls (skip_from emptied tested time base) core (receive_tables ms ps ws) answer (receive_tables ms' ps' ws')
  event_first waits =
      polls_as (skip_from emptied tested time base) give_waiting core ms ps ws answer ms' ps' ws'
      (λ others log budget.
      waiting_first emptied tested time base (under_way core others (receive_tables ms ps ws) log budget) (tab_full core.counts.waiting (waiting_at ws) waits))

  pub skipped_if_empty : core.counts.waiting ≤ 0 → emptied ≡ true → Polls (skip_nearest tested time base) core (receive_tables ms ps ws) answer (receive_tables ms' ps' ws')
      → Polls (skip_from emptied tested time base) core (receive_tables ms ps ws) answer (receive_tables ms' ps' ws')
  skipped_if_empty none_waits yes_emptied =
      polls_as (skip_from emptied tested time base) (skip_nearest tested time base) core ms ps ws answer ms' ps' ws'
      (λ others log budget.
      ended_empty emptied tested time base (under_way core others (receive_tables ms ps ws) log budget) (tab_spent core.counts.waiting (waiting_at ws) none_waits)
      yes_emptied)

  pub stays_if_not_empty : core.counts.waiting ≤ 0 → emptied ≡ false → Polls (deliver base) core (receive_tables ms ps ws) answer (receive_tables ms' ps' ws')
      → Polls (skip_from emptied tested time base) core (receive_tables ms ps ws) answer (receive_tables ms' ps' ws')
  stays_if_not_empty none_waits not_emptied =
      polls_as (skip_from emptied tested time base) (deliver base) core ms ps ws answer ms' ps' ws'
      (λ others log budget.
      not_ended emptied tested time base (under_way core others (receive_tables ms ps ws) log budget) (tab_spent core.counts.waiting (waiting_at ws) none_waits)
      not_emptied)

-- ---- whether the base stays

module _ (time base : ℕ) (core : Core) (ms ps : List ℕ) {held : Bool} (is : held ≡ is_held base (packets core.counts.pending ps))
    (others : Rest) (ws : List ℕ) where
  pub stays_held : held ≡ true → true ≡ base_stays time base (shown core others ms ps ws)
  unfolding base_stays
  stays_held yes_held = rw (← is, yes_held)

  module _ (not_held : held ≡ false) where
    pub stays_continuing : (core.visit.continuation ≡ 0 → ⊥) → true ≡ base_stays time base (shown core others ms ps ws)
    unfolding base_stays
    stays_continuing asked = rw (← is, not_held, other_set core.visit.continuation asked)

    pub stays_until_given_up : {b r : Bool} → core.visit.continuation ≡ 0 → b ≡ gap_given_up time (shown core others ms ps ws) → r ≡ not b
        → r ≡ base_stays time base (shown core others ms ps ws)
    unfolding base_stays
    stays_until_given_up not_asked given_up answers =
        answers
        ∙ ap not given_up
        ∙ sym
        (neither (is_held base (packets core.counts.pending ps)) (is_set core.visit.continuation)
        (not (gap_given_up time (shown core others ms ps ws))) (sym is ∙ not_held) (zero_unset core.visit.continuation not_asked))

-- ---- a poll from a budget on

-- what is promised over every rest is promised over some
pub polled_among : {f : Run → model.Poll} {core : Core} {budget : ℕ} {t t' : ReceiveTables} {answer : Poll} (among : Rest → Type 0)
    → PollsFrom every f core budget t answer t' → PollsFrom among f core budget t answer t'
polled_among among p =
    record {
      members_long = p.members_long;
      pending_long = p.pending_long;
      waiting_long = p.waiting_long;
      members_same = p.members_same;
      usable = p.usable;
      run = λ others is_among log. p.run others tt log;
    }

-- a step that keeps soundness
abbrev pub KeepsSound : (Run → model.Poll) → Type 0
KeepsSound f = (r : Run) → Sound r.state → Sound (f r).run.state

module _ (f : Run → model.Poll) (sound : KeepsSound f) (core : Core) (budget : ℕ) (ms ps ws : List ℕ) (usable : Usable core (receive_tables ms ps ws))
    (answer : Poll) (ms' ps' ws' : List ℕ) where
  -- the parts of a poll
  polled_from : length ms' ≡ length ms → length ps' ≡ length ps → length ws' ≡ length ws
      → answer.core.counts.members ≡ core.counts.members → answer.core.counts.waiting ≤ max_waiting
      → ((others : Rest) (log : List Mark) → GivesState (f (under_way core others (receive_tables ms ps ws) log budget)) answer others (receive_tables ms' ps' ws'))
      → PollsFrom every f core budget (receive_tables ms ps ws) answer (receive_tables ms' ps' ws')
  polled_from lm lp lw same few run =
      record {
        members_long = lm;
        pending_long = lp;
        waiting_long = lw;
        members_same = same;
        usable =
            record {
              members_long = omega (arith, usable.members_long, lm);
              pending_long = omega (arith, usable.pending_long, lp);
              waiting_long = omega (arith, usable.waiting_long, lw);
              members_few = omega (arith, usable.members_few, same);
              waiting_few = few;
              sound = subst Sound (run blank []).state (sound (under_way core blank (receive_tables ms ps ws) [] budget) usable.sound);
            };
        run = λ others is_among log. run others log;
      }

  -- it is another step from here on, that collects nothing
  pub polled_as : (g : Run → model.Poll)
      → ((others : Rest) (log : List Mark)
      → f (under_way core others (receive_tables ms ps ws) log budget) ≡ g (under_way core others (receive_tables ms ps ws) log budget))
      → Polls g core (receive_tables ms ps ws) answer (receive_tables ms' ps' ws') → PollsFrom every f core budget (receive_tables ms ps ws) answer (receive_tables ms' ps' ws')
  polled_as g is polls =
      polled_from polls.members_long polls.pending_long polls.waiting_long polls.members_same
      (omega (arith, usable.waiting_few, polls.waiting_most))
      (λ others log.
      let given = polls.run others log budget in
      record {
        gave = ap (λ (q : model.Poll). q.gave) (is others log) ∙ given.gave;
        state = ap (λ (q : model.Poll). q.run.state) (is others log) ∙ given.run.state;
      })

-- ---- a gap that is given up

module _ (time base : ℕ) (r : Run) where
  gap_kept : base_stays time base r.state ≡ true → skip_given_up_gap time base r ≡ deliver base r
  unfolding skip_given_up_gap if_true◌then◌else◌
  gap_kept stays = rw stays

  gap_tested : base_stays time base r.state ≡ false
      → skip_given_up_gap time base r ≡ skip_after time r.state base (collect_until_empty max_visits base r)
  unfolding skip_given_up_gap if_true◌then◌else◌
  gap_tested goes = rw goes

emptied_is : (x : EmptiedRun) (w : Bool) (s : State) (b : ℕ) → x.emptied ≡ w → x.run.state ≡ s → x.run.budget ≡ b
    → x ≡ record { emptied = w; run = record { state = s; log = x.run.log; budget = b } }
emptied_is x w s b p q l = λ i. record { emptied = p i; run = record { state = q i; log = x.run.log; budget = l i } }

module _ (time base : ℕ) (core : Core) (budget : ℕ) (ms ps ws : List ℕ) (usable : Usable core (receive_tables ms ps ws)) {stays : Bool}
    (is : (others : Rest) (ws : List ℕ) → stays ≡ base_stays time base (shown core others ms ps ws)) where
  pub gap_stays : (answer : Poll) (ms' ps' : List ℕ) → stays ≡ true → Polls (deliver base) core (receive_tables ms ps ws) answer (receive_tables ms' ps' ws)
      → PollsFrom every (skip_given_up_gap time base) core budget (receive_tables ms ps ws) answer (receive_tables ms' ps' ws)
  gap_stays answer ms' ps' yes_stays =
      polled_as (skip_given_up_gap time base) (skip_has Sound sound_law time base) core budget ms ps ws usable answer ms' ps' ws (deliver base)
      (λ others log. gap_kept time base (under_way core others (receive_tables ms ps ws) log budget) (sym (is others ws) ∙ yes_stays))

  module _ (goes : stays ≡ false) (v : Emptied) (ms₁ ps₁ ws₁ : List ℕ)
      (collects : Empties base core budget (receive_tables ms ps ws) v (receive_tables ms₁ ps₁ ws₁)) where
    abbrev ended : Rest → List Mark → EmptiedRun
    ended others log = collect_until_empty max_visits base (under_way core others (receive_tables ms ps ws) log budget)

    collected_is : (others : Rest) (log : List Mark)
        → ended others log
        ≡ record { emptied = v.emptied; run = under_way v.core others (receive_tables ms₁ ps₁ ws₁) (ended others log).run.log v.budget }
    collected_is others log =
        emptied_is (ended others log) v.emptied (shown v.core others ms₁ ps₁ ws₁) v.budget (collects.emptied others log)
        (collects.run others log).state (collects.run others log).budget

    skip_is : (others : Rest) (log : List Mark)
        → skip_given_up_gap time base (under_way core others (receive_tables ms ps ws) log budget)
        ≡ skip_from v.emptied (shown core others ms ps ws) time base
        (under_way v.core others (receive_tables ms₁ ps₁ ws₁) (ended others log).run.log v.budget)
    skip_is others log =
        gap_tested time base (under_way core others (receive_tables ms ps ws) log budget) (sym (is others ws) ∙ goes)
        ∙ ap (skip_after time (shown core others ms ps ws) base) (collected_is others log)

    pub gap_passed : (answer : Poll) (ms' ps' ws' : List ℕ)
        → ((tested : State) (time : ℕ) → Polls (skip_from v.emptied tested time base) v.core (receive_tables ms₁ ps₁ ws₁) answer (receive_tables ms' ps' ws'))
        → PollsFrom every (skip_given_up_gap time base) core budget (receive_tables ms ps ws) answer (receive_tables ms' ps' ws')
    gap_passed answer ms' ps' ws' after =
        let one = after (shown core blank ms ps ws) time in
        polled_from (skip_given_up_gap time base) (skip_has Sound sound_law time base) core budget ms ps ws usable answer ms' ps' ws'
        (one.members_long ∙ collects.members_long) (one.pending_long ∙ collects.pending_long)
        (one.waiting_long ∙ collects.waiting_long) (one.members_same ∙ collects.members_same)
        (omega (arith, one.waiting_most, collects.usable.waiting_few))
        (λ others log.
        let given = (after (shown core others ms ps ws) time).run others (ended others log).run.log v.budget in
        record {
          gave = ap (λ (q : model.Poll). q.gave) (skip_is others log) ∙ given.gave;
          state = ap (λ (q : model.Poll). q.run.state) (skip_is others log) ∙ given.run.state;
        })

-- ---- the next packet

module _ (time : ℕ) (r : Run) where
  from_base : (base : ℕ) → next_receive_sequence r.state.receive ≡ Some base → deliver_next time r ≡ skip_given_up_gap time base r
  unfolding deliver_next if_some◌give◌otherwise◌
  from_base base is = rw is

  from_nearest : next_receive_sequence r.state.receive ≡ None → deliver_next time r ≡ deliver_nearest r
  unfolding deliver_next if_some◌give◌otherwise◌
  from_nearest is = rw is

module _ (time : ℕ) (core : Core) (budget : ℕ) (ms ps ws : List ℕ) (answer : Poll) {o : Option ℕ}
    (shown_base : o ≡ flagged (is_set core.receiving.based) core.receiving.base) where
  pub next_at_base : (base : ℕ) (ms' ps' ws' : List ℕ) → o ≡ Some base
      → PollsFrom every (skip_given_up_gap time base) core budget (receive_tables ms ps ws) answer (receive_tables ms' ps' ws')
      → PollsFrom every (deliver_next time) core budget (receive_tables ms ps ws) answer (receive_tables ms' ps' ws')
  next_at_base base ms' ps' ws' set polls =
      record {
        members_long = polls.members_long;
        pending_long = polls.pending_long;
        waiting_long = polls.waiting_long;
        members_same = polls.members_same;
        usable = polls.usable;
        run =
            λ others is_among log.
            subst (λ (q : model.Poll). GivesState q answer others (receive_tables ms' ps' ws'))
            (sym (from_base time (under_way core others (receive_tables ms ps ws) log budget) base (sym shown_base ∙ set))) (polls.run others is_among log);
      }

  pub next_nearest : (ms' ps' : List ℕ) → Usable core (receive_tables ms ps ws) → o ≡ None
      → Polls deliver_nearest core (receive_tables ms ps ws) answer (receive_tables ms' ps' ws) → PollsFrom every (deliver_next time) core budget (receive_tables ms ps ws) answer (receive_tables ms' ps' ws)
  next_nearest ms' ps' usable unset =
      polled_as (deliver_next time) (deliver_next_has Sound sound_law time) core budget ms ps ws usable answer ms' ps' ws deliver_nearest
      (λ others log. from_nearest time (under_way core others (receive_tables ms ps ws) log budget) (sym shown_base ∙ unset))
