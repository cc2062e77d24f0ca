-- What is proved of the definitions in specs/Visit.antt, with what the proofs need.
use Rattle.std.specs.Prelude.{◌≡◌, refl, Bool, false, ℕ, suc, ◌+◌, ◌%◌, ◌<◌, eqb, length, drop, None, Option, Some}
use Rattle.std.proofs.Math.Path.{ap, ap₂}
use Rattle.std.proofs.Common.{sym, subst, ◌∙◌, arith}
use Rattle.std.proofs.Math.Bool.{true}
use mathlib.Core.List.{List, [], ◌∷◌}
use Rattle.word_rows.specs.Laws.Tab.{tab_length}
use Rattle.srt_group_model.specs.declared.Core.{Core}
use Rattle.srt_group_model.specs.declared.Event.{Event}
use Rattle.srt_group_model.specs.Tools.{if_true◌then◌else◌, if_some◌give◌otherwise◌, bit, at_place, change}
use Rattle.srt_group_model.specs.Accounts.{reserve, Fits}
use Rattle.srt_group_model.specs.Cells.{is_data}
use Rattle.srt_group_model.specs.State.{Member, State, with_members, with_round, with_continuation, with_queue}
use Rattle.srt_group_model.specs.Core.{with_next, continued}
use Rattle.srt_group_model.specs.Members.{id_of}
use Rattle.srt_group_model.specs.Run.{Run}
use Rattle.srt_group_model.specs.Laws.Queues.{pop}
use Rattle.srt_group_model.specs.Collecting.{retain_group_packet, report_event, collect_member_event, in_turn, Visited as VisitedRun, take_front, collect_one_event, packet_from, waiting_from}
use Rattle.srt_group_model.specs.Sound.{Sound}
use Rattle.srt_group_model.specs.Laws.Sound.{sound_law, FrontData, front_data}
use Rattle.srt_group_model.specs.Laws.Steps.{collect_one_has}
use Rattle.srt_group_model.specs.Validity.{max_waiting}
use Rattle.srt_connection_members.specs.Members.{member_at, members_of, HasRow, Changed}
use Rattle.srt_connection_members.specs.Laws.Members.{members_length, members_place, changed_by, unchanged, found_some, found_none}
use Rattle.srt_connection_queue.specs.Queue.{leg_poll, queue_after, budget_after}
use Rattle.srt_connection_queue.specs.Laws.Queue.{nothing_goes}
use Rattle.srt_group_collecting.specs.Laws.Turn.{in_turn_inside}
use Rattle.srt_connection_queue.specs.declared.queue.LegPoll.{LegPoll}
use Rattle.srt_connection_queue.specs.declared.queue.LegPoll.TheVariants.{Nothing, Continuation, Event as PolledEvent}
use Rattle.srt_group_tables.specs.Packets.{packet_at}
use Rattle.srt_group_shown.specs.Shown.{shown, blank}
use Rattle.srt_group_shown.specs.Tables.{receive_tables}
use Rattle.srt_group_collecting.specs.declared.collecting.Visited.{Visited}
use Rattle.srt_group_collecting.specs.Leaves.{Usable, under_way}
use Rattle.srt_group_collecting.specs.Collect.{Retained, Reported}
use Rattle.srt_group_collecting.specs.Visit.{collect_event, Collectable, Collected, Visits, Collects}

-- ---- an event of a member

data_collected : (i id : ℕ) (e : Event) (s : State) → eqb e.kind 0 ≡ true
    → collect_event i id e s ≡ retain_group_packet i (packet_from id e) s
unfolding collect_event if_true◌then◌else◌
data_collected i id e s is = rw is

other_collected : (i id : ℕ) (e : Event) (s : State) → eqb e.kind 0 ≡ false
    → collect_event i id e s ≡ report_event i (waiting_from id e) s
unfolding collect_event if_true◌then◌else◌
other_collected i id e s is = rw is

module _ (i id : ℕ) (e : Event) (core : Core) (ms ps ws : List ℕ) {after : Core} {ms' : List ℕ} where
  pub collected_data : {b : Bool} {ps' : List ℕ} → b ≡ is_data e → b ≡ true → Retained i (packet_from id e) core ms ps after ms' ps'
      → Collected i id e core (receive_tables ms ps ws) after (receive_tables ms' ps' ws)
  collected_data tested is h =
      let left = h.leaves ws in
      record {
        waiting_more = omega (arith, h.waiting_same);
        leaves =
            record {
              members_long = left.members_long;
              pending_long = left.pending_long;
              waiting_long = left.waiting_long;
              members_same = left.members_same;
              state =
                  λ others.
                  data_collected i id e (shown core others ms ps ws) (sym tested ∙ is) ∙ left.state others;
            };
      }

  pub collected_other : {b : Bool} {ws' : List ℕ} → b ≡ is_data e → b ≡ false → Reported i (waiting_from id e) core ms ws after ms' ws'
      → Collected i id e core (receive_tables ms ps ws) after (receive_tables ms' ps ws')
  collected_other tested is h =
      let left = h.leaves ps in
      record {
        waiting_more = omega (arith, h.waiting_more);
        leaves =
            record {
              members_long = left.members_long;
              pending_long = left.pending_long;
              waiting_long = left.waiting_long;
              members_same = left.members_same;
              state =
                  λ others.
                  other_collected i id e (shown core others ms ps ws) (sym tested ∙ is) ∙ left.state others;
            };
      }

-- ---- what a leg gives

pub record Gave (budget : ℕ) (q : List Event) (e : Event) (left : ℕ) : Type 0 where
  pub front : at_place 0 q ≡ Some e
  pub unspent : eqb budget 0 ≡ false
  pub lowered : left ≡ budget_after e budget

pub gave_nothing : (budget : ℕ) (q : List Event) → Nothing ≡ leg_poll budget q → q ≡ []
unfolding leg_poll if_true◌then◌else◌
gave_nothing budget [] is = refl
gave_nothing budget (e ∷ q) is = go (eqb budget 0) is
  where
    go : (b : Bool) → Nothing ≡ (if_true b then Continuation else PolledEvent e (budget_after e budget)) → e ∷ q ≡ []
    go true h = cc h
    go false h = cc h

-- the continuation is asked for if the budget is spent and an event is in front
pub record Spent (budget : ℕ) (q : List Event) : Type 0 where
  pub event : Event
  pub front : at_place 0 q ≡ Some event
  pub spent : eqb budget 0 ≡ true

pub gave_continuation : (budget : ℕ) (q : List Event) → Continuation ≡ leg_poll budget q → Spent budget q
unfolding leg_poll if_true◌then◌else◌ at_place
gave_continuation budget [] is = absurd (let z : ◌≡◌ {A = ℕ} 0 1 = cc is in omega (arith, z))
gave_continuation budget (e ∷ q) is = go (eqb budget 0) refl is
  where
    go : (b : Bool) → eqb budget 0 ≡ b → Continuation ≡ (if_true b then Continuation else PolledEvent e (budget_after e budget)) → Spent budget (e ∷ q)
    go true s h = record { event = e; front = refl; spent = s }
    go false s h = absurd (let z : ◌≡◌ {A = ℕ} 0 1 = cc h in omega (arith, z))

pub gave_event : (budget : ℕ) (q : List Event) (e : Event) (left : ℕ) → PolledEvent e left ≡ leg_poll budget q → Gave budget q e left
unfolding leg_poll if_true◌then◌else◌ at_place
gave_event budget [] e left is = absurd (let z : ◌≡◌ {A = ℕ} 0 1 = cc is in omega (arith, z))
gave_event budget (x ∷ q) e left is = go (eqb budget 0) refl is
  where
    go : (b : Bool) → eqb budget 0 ≡ b → PolledEvent e left ≡ (if_true b then Continuation else PolledEvent x (budget_after x budget))
        → Gave budget (x ∷ q) e left
    go true s h = absurd (let z : ◌≡◌ {A = ℕ} 0 1 = cc h in omega (arith, z))
    go false s h =
        let same : x ≡ e = cc h in
        let lowered : left ≡ budget_after x budget = cc h in
        record { front = ap {B = Option Event} (λ (y : Event). Some y) same; unspent = s; lowered = lowered ∙ ap (λ (y : Event). budget_after y budget) same }

-- ---- the front event is taken

module _ (i : ℕ) (m : Member) (r : Run) where
  none_taken : m.queue ≡ [] → take_front i m r ≡ record { took = false; run = r }
  unfolding take_front at_place if_some◌give◌otherwise◌
  none_taken empty = rw empty

  abbrev next_state : State
  next_state = with_round (suc i % length r.state.members) r.state

  spent_taken : (e : Event) → at_place 0 m.queue ≡ Some e → eqb r.budget 0 ≡ true
      → take_front i m r ≡ record { took = false; run = record { state = with_continuation true next_state; log = r.log; budget = 0 } }
  unfolding take_front if_some◌give◌otherwise◌ if_true◌then◌else◌
  spent_taken e in_front spent = rw (in_front, spent)

  event_taken : (e : Event) → at_place 0 m.queue ≡ Some e → eqb r.budget 0 ≡ false
      → take_front i m r
      ≡ record {
        took = true;
        run =
            collect_member_event i (id_of m) e
            record { state = with_members (change i pop r.state.members) next_state; log = r.log; budget = r.budget };
      }
  unfolding take_front if_some◌give◌otherwise◌ if_true◌then◌else◌
  event_taken e in_front unspent = rw (in_front, unspent)

if_ap : {A B : Type 0} (f : A → B) (t : Bool) (a b : A) → f (if_true t then a else b) ≡ (if_true t then f a else f b)
unfolding if_true◌then◌else◌
if_ap f true a b = refl
if_ap f false a b = refl

member_state : (i id : ℕ) (e : Event) (r : Run) → (collect_member_event i id e r).state ≡ collect_event i id e r.state
unfolding collect_member_event collect_event
member_state i id e r = if_ap (λ (x : Run). x.state) (eqb e.kind 0) _ _

member_budget : (i id : ℕ) (e : Event) (r : Run) → (collect_member_event i id e r).budget ≡ budget_after e r.budget
unfolding collect_member_event
member_budget i id e r = if_ap (λ (x : Run). x.budget) (eqb e.kind 0) _ _

pub queue_goes : (budget : ℕ) (q : List Event) → eqb budget 0 ≡ false → queue_after budget q ≡ drop 1 q
unfolding queue_after if_true◌then◌else◌
queue_goes budget q unspent = rw unspent

pub queue_stays : (budget : ℕ) (q : List Event) → eqb budget 0 ≡ true → queue_after budget q ≡ q
unfolding queue_after if_true◌then◌else◌
queue_stays budget q spent = rw spent

next_round : (i n : ℕ) (ms : List ℕ) → suc i % length (members_of n ms) ≡ (i + 1) % n
next_round i n ms = ap₂ (λ (a b : ℕ). a % b) (omega arith) (members_length n ms)

module _ (core : Core) (budget : ℕ) (ms ps ws : List ℕ) (i : ℕ) (ms₁ : List ℕ)
    (changed : Changed i (λ m. with_queue (queue_after budget m.queue) m) ms ms₁) where
  -- a leg that keeps its queue leaves the members as they are
  pub members_stay : queue_after budget (member_at ms i).queue ≡ (member_at ms i).queue
      → members_of core.counts.members ms ≡ members_of core.counts.members ms₁
  members_stay same =
      (unchanged i ms).members core.counts.members
      ∙ sym
      ((changed_by i ms ms₁ (λ m. m) changed
      (ap (λ (q : List Event). with_queue q (member_at ms i)) same)
      ).members core.counts.members)

  pub visits_nothing : {r : LegPoll} → r ≡ Nothing → r ≡ leg_poll budget (member_at ms i).queue
      → Visits (core.counts.waiting + 1) (take_front i (member_at ms i)) core budget (receive_tables ms ps ws)
      record { more = false; core = core; budget = budget } (receive_tables ms₁ ps ws)
  visits_nothing gave is =
      let empty = gave_nothing budget (member_at ms i).queue (sym gave ∙ is) in
      let taken : (r : Run) → take_front i (member_at ms i) r ≡ record { took = false; run = r } = λ r. none_taken i (member_at ms i) r empty in
      let stay = members_stay (ap (queue_after budget) empty ∙ nothing_goes budget ∙ sym empty) in
      record {
        members_long = changed.long;
        pending_long = refl;
        waiting_long = refl;
        members_same = refl;
        waiting_most = omega arith;
        more = λ others log. ap (λ (v : VisitedRun). v.took) (taken (under_way core others (receive_tables ms ps ws) log budget));
        state =
            λ others log.
            ap (λ (v : VisitedRun). v.run.state) (taken (under_way core others (receive_tables ms ps ws) log budget))
            ∙ ap (λ (l : List Member). with_members l (shown core others ms ps ws)) stay;
        left = λ others log. ap (λ (v : VisitedRun). v.run.budget) (taken (under_way core others (receive_tables ms ps ws) log budget));
      }

  visits_spent_at : Continuation ≡ leg_poll budget (member_at ms i).queue
      → Visits (core.counts.waiting + 1) (take_front i (member_at ms i)) core budget (receive_tables ms ps ws)
      record { more = false; core = continued 1 (with_next ((i + 1) % core.counts.members) core); budget = 0 } (receive_tables ms₁ ps ws)
  unfolding bit
  visits_spent_at is =
      let s = gave_continuation budget (member_at ms i).queue is in
      let stay = members_stay (queue_stays budget (member_at ms i).queue s.spent) in
      record {
        members_long = changed.long;
        pending_long = refl;
        waiting_long = refl;
        members_same = refl;
        waiting_most = omega arith;
        more =
            λ others log.
            ap (λ (v : VisitedRun). v.took)
            (spent_taken i (member_at ms i) (under_way core others (receive_tables ms ps ws) log budget) s.event s.front s.spent);
        state =
            λ others log.
            ap (λ (v : VisitedRun). v.run.state)
            (spent_taken i (member_at ms i) (under_way core others (receive_tables ms ps ws) log budget) s.event s.front s.spent)
            ∙ ap₂
            (λ (k : ℕ) (l : List Member). with_members l (with_continuation true (with_round k (shown core others ms ps ws))))
            (next_round i core.counts.members ms) stay;
        left =
            λ others log.
            ap (λ (v : VisitedRun). v.run.budget)
            (spent_taken i (member_at ms i) (under_way core others (receive_tables ms ps ws) log budget) s.event s.front s.spent);
      }

  pub visits_spent : {r : LegPoll} (turned next : Core) → turned ≡ with_next ((i + 1) % core.counts.members) core → next ≡ continued 1 turned
      → r ≡ Continuation → r ≡ leg_poll budget (member_at ms i).queue
      → Visits (core.counts.waiting + 1) (take_front i (member_at ms i)) core budget (receive_tables ms ps ws)
      record { more = false; core = next; budget = 0 } (receive_tables ms₁ ps ws)
  visits_spent turned next t c gave is =
      subst
      (λ (x : Core).
      Visits (core.counts.waiting + 1) (take_front i (member_at ms i)) core budget (receive_tables ms ps ws)
      record { more = false; core = x; budget = 0 } (receive_tables ms₁ ps ws))
      (sym (c ∙ ap (continued 1) t)) (visits_spent_at (sym gave ∙ is))

  visits_event_at : (e : Event) (left id : ℕ) (after : Core) (ms' ps' ws' : List ℕ) → PolledEvent e left ≡ leg_poll budget (member_at ms i).queue
      → id ≡ (member_at ms i).membership.id
      → Collected i id e (with_next ((i + 1) % core.counts.members) core) (receive_tables ms₁ ps ws) after (receive_tables ms' ps' ws')
      → Visits (core.counts.waiting + 1) (take_front i (member_at ms i)) core budget (receive_tables ms ps ws)
      record { more = true; core = after; budget = left } (receive_tables ms' ps' ws')
  visits_event_at e left id after ms' ps' ws' is named h =
      let g = gave_event budget (member_at ms i).queue e left is in
      let popped = changed_by i ms ms₁ pop changed (ap (λ (q : List Event). with_queue q (member_at ms i)) (queue_goes budget (member_at ms i).queue g.unspent)) in
      record {
        members_long = h.leaves.members_long ∙ changed.long;
        pending_long = h.leaves.pending_long;
        waiting_long = h.leaves.waiting_long;
        members_same = h.leaves.members_same;
        waiting_most = h.waiting_more;
        more = λ others log. ap (λ (v : VisitedRun). v.took) (event_taken i (member_at ms i) (under_way core others (receive_tables ms ps ws) log budget) e g.front g.unspent);
        state =
            λ others log.
            ap (λ (v : VisitedRun). v.run.state) (event_taken i (member_at ms i) (under_way core others (receive_tables ms ps ws) log budget) e g.front g.unspent)
            ∙ member_state i (member_at ms i).membership.id e _
            ∙ ap₂ (λ (x : ℕ) (s : State). collect_event i x e s) (sym named)
            (ap₂
            (λ (k : ℕ) (l : List Member). with_members l (with_round k (shown core others ms ps ws)))
            (next_round i core.counts.members ms) (sym (popped.members core.counts.members)))
            ∙ h.leaves.state others;
        left =
            λ others log.
            ap (λ (v : VisitedRun). v.run.budget) (event_taken i (member_at ms i) (under_way core others (receive_tables ms ps ws) log budget) e g.front g.unspent)
            ∙ member_budget i (member_at ms i).membership.id e _ ∙ sym g.lowered;
      }

  pub visits_event : {r : LegPoll} {id : ℕ} (turned : Core) (e : Event) (left : ℕ) (after : Core) (ms' ps' ws' : List ℕ)
      → turned ≡ with_next ((i + 1) % core.counts.members) core → r ≡ PolledEvent e left → r ≡ leg_poll budget (member_at ms i).queue
      → id ≡ (member_at ms i).membership.id → Collected i id e turned (receive_tables ms₁ ps ws) after (receive_tables ms' ps' ws')
      → Visits (core.counts.waiting + 1) (take_front i (member_at ms i)) core budget (receive_tables ms ps ws)
      record { more = true; core = after; budget = left } (receive_tables ms' ps' ws')
  visits_event {id = id} turned e left after ms' ps' ws' t gave is named h =
      visits_event_at e left id after ms' ps' ws' (sym gave ∙ is) named
      (subst (λ (x : Core). Collected i id e x (receive_tables ms₁ ps ws) after (receive_tables ms' ps' ws')) t h)

-- ---- the event in front can be collected

module _ (core : Core) (ms ps ws : List ℕ) (usable : Usable core (receive_tables ms ps ws)) (i : ℕ) (inside : i < core.counts.members) where
  pub row_there : HasRow i ms
  row_there = omega (arith, usable.members_long, usable.members_few, inside)

  data_front : (e : Event) → at_place 0 (member_at ms i).queue ≡ Some e → is_data e ≡ true → FrontData (shown core blank ms ps ws) (member_at ms i) e
  data_front e in_front is =
      front_data (shown core blank ms ps ws) i (member_at ms i) e usable.sound (members_place core.counts.members ms i inside) in_front
      is

  collectable_past : (budget left k id : ℕ) (ms₁ : List ℕ) (e : Event)
      → Changed i (λ m. with_queue (queue_after budget m.queue) m) ms ms₁
      → PolledEvent e left ≡ leg_poll budget (member_at ms i).queue → core.counts.waiting < max_waiting
      → Collectable i id e (with_next k core) (receive_tables ms₁ ps ws)
  collectable_past budget left k id ms₁ e changed gave few =
      let g = gave_event budget (member_at ms i).queue e left gave in
      record {
        there = omega (arith, row_there, changed.long);
        members_long = omega (arith, usable.members_long, usable.members_few, changed.long);
        waiting_long = usable.waiting_long;
        waiting_few = few;
        holdable =
            λ is.
            let f = data_front e g.front is in
            record {
              long = usable.pending_long;
              few = omega (arith, f.held, tab_length core.counts.pending (packet_at ps));
              ascending = usable.sound.ascending;
              sequence = f.sequence;
              cell = f.cell;
              apart = f.apart;
              room = subst (λ (m : Member). Fits (reserve e.content.count m.membership.account)) (sym changed.here) f.room;
            };
      }

  pub collectable : {r : LegPoll} (budget left k id : ℕ) (ms₁ : List ℕ) (e : Event) (next : Core) → next ≡ with_next k core
      → Changed i (λ m. with_queue (queue_after budget m.queue) m) ms ms₁
      → r ≡ PolledEvent e left → r ≡ leg_poll budget (member_at ms i).queue → core.counts.waiting < max_waiting → Collectable i id e next (receive_tables ms₁ ps ws)
  collectable budget left k id ms₁ e next turned changed gave is few =
      subst (λ (x : Core). Collectable i id e x (receive_tables ms₁ ps ws)) (sym turned) (collectable_past budget left k id ms₁ e changed (sym gave ∙ is) few)

-- ---- one event, in turn

module _ (r : Run) where
  none_in_turn : in_turn r.state.visit.round r.state.members ≡ None → collect_one_event r ≡ record { took = false; run = r }
  unfolding collect_one_event if_some◌give◌otherwise◌
  none_in_turn is = rw is

  one_in_turn : (i : ℕ) (m : Member) → in_turn r.state.visit.round r.state.members ≡ Some i → at_place i r.state.members ≡ Some m
      → collect_one_event r ≡ take_front i m r
  unfolding collect_one_event if_some◌give◌otherwise◌
  one_in_turn i m is there = rw (is, there)

-- what is left of a sound state is sound, and may be relied on
usable_after : (core : Core) (budget : ℕ) (ms ps ws : List ℕ) (r : Visited) (ms' ps' ws' : List ℕ) → Usable core (receive_tables ms ps ws) → core.counts.waiting < max_waiting
    → Visits (core.counts.waiting + 1) collect_one_event core budget (receive_tables ms ps ws) r (receive_tables ms' ps' ws') → Usable r.core (receive_tables ms' ps' ws')
usable_after core budget ms ps ws r ms' ps' ws' u few v =
    record {
      members_long = omega (arith, u.members_long, v.members_long);
      pending_long = omega (arith, u.pending_long, v.pending_long);
      waiting_long = omega (arith, u.waiting_long, v.waiting_long);
      members_few = omega (arith, u.members_few, v.members_same);
      waiting_few = omega (arith, v.waiting_most, few);
      sound = subst Sound (v.state blank []) (collect_one_has Sound sound_law (under_way core blank (receive_tables ms ps ws) [] budget) u.sound);
    }

module _ (core : Core) (budget : ℕ) (ms ps ws : List ℕ) (usable : Usable core (receive_tables ms ps ws)) (few : core.counts.waiting < max_waiting) where
  pub collects_none : {r : Option ℕ} → r ≡ None → r ≡ in_turn core.visit.round (members_of core.counts.members ms)
      → Collects (core.counts.waiting + 1) collect_one_event core budget (receive_tables ms ps ws) record { more = false; core = core; budget = budget } (receive_tables ms ps ws)
  collects_none nowhere found =
      let none_there = found_none (in_turn core.visit.round (members_of core.counts.members ms)) (sym nowhere ∙ found) in
      record {
        visits =
            record {
              members_long = refl;
              pending_long = refl;
              waiting_long = refl;
              members_same = refl;
              waiting_most = omega arith;
              more = λ others log. ap (λ (v : VisitedRun). v.took) (none_in_turn (under_way core others (receive_tables ms ps ws) log budget) none_there);
              state = λ others log. ap (λ (v : VisitedRun). v.run.state) (none_in_turn (under_way core others (receive_tables ms ps ws) log budget) none_there);
              left = λ others log. ap (λ (v : VisitedRun). v.run.budget) (none_in_turn (under_way core others (receive_tables ms ps ws) log budget) none_there);
            };
        usable = usable;
      }

  pub collects_one : {at : Option ℕ} (i : ℕ) (r : Visited) (ms' ps' ws' : List ℕ) → at ≡ Some i
      → at ≡ in_turn core.visit.round (members_of core.counts.members ms)
      → Visits (core.counts.waiting + 1) (take_front i (member_at ms i)) core budget (receive_tables ms ps ws) r (receive_tables ms' ps' ws')
      → Collects (core.counts.waiting + 1) collect_one_event core budget (receive_tables ms ps ws) r (receive_tables ms' ps' ws')
  collects_one i r ms' ps' ws' here found v =
      let there = found_some (in_turn core.visit.round (members_of core.counts.members ms)) i (sym here ∙ found) in
      let at = members_place core.counts.members ms i (in_turn_inside core.counts.members core.visit.round i ms here found) in
      let visits : Visits (core.counts.waiting + 1) collect_one_event core budget (receive_tables ms ps ws) r (receive_tables ms' ps' ws') =
      record {
        members_long = v.members_long;
        pending_long = v.pending_long;
        waiting_long = v.waiting_long;
        members_same = v.members_same;
        waiting_most = v.waiting_most;
        more =
            λ others log.
            ap (λ (x : VisitedRun). x.took) (one_in_turn (under_way core others (receive_tables ms ps ws) log budget) i (member_at ms i) there at)
            ∙ v.more others log;
        state =
            λ others log.
            ap (λ (x : VisitedRun). x.run.state) (one_in_turn (under_way core others (receive_tables ms ps ws) log budget) i (member_at ms i) there at)
            ∙ v.state others log;
        left =
            λ others log.
            ap (λ (x : VisitedRun). x.run.budget) (one_in_turn (under_way core others (receive_tables ms ps ws) log budget) i (member_at ms i) there at)
            ∙ v.left others log;
      }
      in
      record { visits = visits; usable = usable_after core budget ms ps ws r ms' ps' ws' usable few visits }
