-- What is proved of the definitions in specs/Gather.antt, with what the proofs need.
use Rattle.std.specs.Prelude.{◌≡◌, Bool, true, false, not, ◌&&◌, ◌||◌, List, eqb, length}
use Rattle.std.proofs.Math.Path.{refl, ap, sym}
use Rattle.std.proofs.Common.{subst, ◌∙◌, arith, ne_eqb}
use mir.Val.{bool_byte}
use Prim.Native.Nat.{ℕ, zero, suc, ◌+◌, ◌-◌, ◌≤◌, ◌<◌}
use Rattle.word_rows.specs.Tab.{tab}
use Rattle.srt_group_model.specs.declared.Core.{Core}
use Rattle.srt_group_model.specs.Tools.{if_true◌then◌else◌, is_set, bit, is_empty}
use Rattle.srt_group_model.specs.Laws.Flag.{other_set, set_is_not_zero, set_bit}
use Rattle.srt_group_model.specs.Laws.Reason.{or_yes_left, or_yes_right, when_true, when_false}
use Rattle.srt_group_model.specs.State.{State}
use Rattle.srt_group_model.specs.Core.{continued}
use Rattle.srt_group_model.specs.Nearest.{is_held}
use Rattle.srt_group_model.specs.Run.{Mark, Run}
use Rattle.srt_group_model.specs.Collecting.{collect_one_event, or_continue, has_pending_data, collect_until_held, Emptied as EmptiedRun, collect_until_empty}
use Rattle.srt_group_model.specs.Delivery.{max_visits}
use Rattle.srt_group_model.specs.Laws.Sound.{sound_law}
use Rattle.srt_group_model.specs.Validity.{max_waiting, max_pending}
use Rattle.srt_group_tables.specs.Packets.{packets, packet_at}
use Rattle.srt_group_tables.specs.Waitings.{waiting_at}
use Rattle.srt_group_shown.specs.Shown.{Rest, shown, blank}
use Rattle.srt_group_shown.specs.Tables.{ReceiveTables, receive_tables}
use Rattle.srt_group_shown.specs.Laws.Shown.{held_few}
use Rattle.srt_group_collecting.specs.declared.collecting.Visited.{Visited}
use Rattle.srt_group_collecting.specs.declared.collecting.Emptied.{Emptied}
use Rattle.srt_group_collecting.specs.Leaves.{Usable, under_way}
use Rattle.srt_group_collecting.specs.Visit.{Collects}
use Rattle.srt_group_collecting.specs.Gather.{Shows, run_of, HeldVisit, Gathers, Empties}

-- ---- a flag's word

pub word_of_flag : (set : Bool) → bool_byte set ≡ bit set
unfolding bit
word_of_flag true = refl
word_of_flag false = refl

-- ---- tests of a state that is shown

module _ {A : Type 0} where
  tab_empty : (n : ℕ) (f : ℕ → A) → is_empty (tab n f) ≡ eqb n 0
  unfolding tab is_empty
  tab_empty zero f = refl
  tab_empty (suc n) f = sym (ne_eqb (suc n) 0 (λ h. omega arith))

  pub tab_full : (n : ℕ) (f : ℕ → A) → 0 < n → not (is_empty (tab n f)) ≡ true
  unfolding tab is_empty
  tab_full zero f h = absurd (omega arith)
  tab_full (suc n) f h = refl

  pub tab_spent : (n : ℕ) (f : ℕ → A) → n ≤ 0 → not (is_empty (tab n f)) ≡ false
  unfolding tab is_empty
  tab_spent zero f h = refl
  tab_spent (suc n) f h = absurd (omega arith)

pub neither : (a b c : Bool) → a ≡ false → b ≡ false → (a || (b || c)) ≡ c
neither a b c e g = rw (e, g)

or_false : (a b : Bool) → b ≡ false → (a || b) ≡ a
or_false true b e = refl
or_false false b e = e

module _ (core : Core) where
  abbrev holds : List ℕ → Bool
  holds ps = not (is_empty (tab core.counts.pending (packet_at ps)))

  abbrev waits : List ℕ → Bool
  waits ws = not (is_empty (tab core.counts.waiting (waiting_at ws)))

  pub pends_held : 0 < core.counts.pending → Shows has_pending_data core true
  unfolding has_pending_data
  pends_held h =
      record {
        is =
            λ others t.
            sym
            (or_yes_left (holds t.pending) (waits t.waiting || is_set core.visit.continuation) (tab_full core.counts.pending (packet_at t.pending) h));
      }

  pub pends_waiting : 0 < core.counts.waiting → Shows has_pending_data core true
  unfolding has_pending_data
  pends_waiting h =
      record {
        is =
            λ others t.
            sym
            (or_yes_right (holds t.pending) (waits t.waiting || is_set core.visit.continuation)
            (or_yes_left (waits t.waiting) (is_set core.visit.continuation) (tab_full core.counts.waiting (waiting_at t.waiting) h)));
      }

  pub pends_continuing : core.counts.pending ≤ 0 → core.counts.waiting ≤ 0 → Shows has_pending_data core (not (eqb core.visit.continuation 0))
  unfolding has_pending_data
  pends_continuing h k =
      record {
        is =
            λ others t.
            sym
            (neither (holds t.pending) (waits t.waiting) (is_set core.visit.continuation) (tab_spent core.counts.pending (packet_at t.pending) h)
            (tab_spent core.counts.waiting (waiting_at t.waiting) k)
            ∙ set_is_not_zero core.visit.continuation);
      }

  -- the continuation is asked for as well
  pub asked_as_well : {r : Core} (asked : Bool) → asked ≡ true → r ≡ continued 1 core
      → r ≡ continued (bit (is_set core.visit.continuation || asked)) core
  unfolding bit
  asked_as_well asked yes_asked is =
      is ∙ ap (λ (b : Bool). continued (bit b) core) (sym (or_yes_right (is_set core.visit.continuation) asked yes_asked))

  pub not_asked : (asked : Bool) → asked ≡ false → core.visit.continuation ≤ 1
      → core ≡ continued (bit (is_set core.visit.continuation || asked)) core
  not_asked asked no_asked fits =
      ap (λ (n : ℕ). continued n core)
      (sym (ap bit (or_false (is_set core.visit.continuation) asked no_asked) ∙ set_bit core.visit.continuation fits))

-- ---- what is held in a sound state

pub held_most : (core : Core) (ms ps ws : List ℕ) → Usable core (receive_tables ms ps ws) → core.counts.pending ≤ max_pending
held_most core ms ps ws u = held_few core blank ms ps ws u.sound

pub usable_continued : (core : Core) (ms ps ws : List ℕ) (b : Bool) → Usable core (receive_tables ms ps ws)
    → Usable (continued (bit b) core) (receive_tables ms ps ws)
usable_continued core ms ps ws b u =
    record {
      members_long = u.members_long;
      pending_long = u.pending_long;
      waiting_long = u.waiting_long;
      members_few = u.members_few;
      waiting_few = u.waiting_few;
      sound = sound_law.continues (shown core blank ms ps ws) b u.sound;
    }

-- ---- choices

if_not : {A : Type 0} (t : Bool) (a b : A) → (if_true t then a else b) ≡ (if_true not t then b else a)
unfolding if_true◌then◌else◌
if_not true a b = refl
if_not false a b = refl

-- a run, by its state and its budget
pub run_is : (x : Run) (s : State) (b : ℕ) → x.state ≡ s → x.budget ≡ b → x ≡ record { state = s; log = x.log; budget = b }
run_is x s b p q = λ i. record { state = p i; log = x.log; budget = q i }

-- ---- a visit until something is held

-- with something to give the visits end
abbrev or_later : ℕ → Run → Run
or_later visits more = if_true has_pending_data more.state then more else collect_until_held visits more

module _ (visits : ℕ) (r : Run) where
  event_waits : not (is_empty r.state.waiting) ≡ true → collect_until_held (suc visits) r ≡ r
  unfolding collect_until_held if_true◌then◌else◌
  event_waits waits = rw waits

  no_event_left : not (is_empty r.state.waiting) ≡ false → (collect_one_event r).took ≡ false
      → collect_until_held (suc visits) r ≡ (collect_one_event r).run
  unfolding collect_until_held if_true◌then◌else◌
  no_event_left none_waits stays = rw (none_waits, stays)

  event_collected : not (is_empty r.state.waiting) ≡ false → (collect_one_event r).took ≡ true
      → collect_until_held (suc visits) r
      ≡ or_later visits (or_continue (eqb visits 0 && is_empty (collect_one_event r).run.state.receive.pending) (collect_one_event r).run)
  unfolding collect_until_held if_true◌then◌else◌
  event_collected none_waits goes = rw (none_waits, goes)

module _ (visits : ℕ) (before : Visited) (ms ps ws : List ℕ) (usable : Usable before.core (receive_tables ms ps ws)) where
  pub held_waits : 0 < before.core.counts.waiting
      → HeldVisit visits before (receive_tables ms ps ws) record { more = false; core = before.core; budget = before.budget } (receive_tables ms ps ws)
  unfolding if_true◌then◌else◌
  held_waits waits =
      record {
        members_long = refl;
        pending_long = refl;
        waiting_long = refl;
        members_same = refl;
        usable = usable;
        marks = λ others log. log;
        is =
            λ others log.
            event_waits visits (run_of before others (receive_tables ms ps ws) log) (tab_full before.core.counts.waiting (waiting_at ws) waits);
      }

  module _ (v : Visited) (ms' ps' ws' : List ℕ) (none_waits : before.core.counts.waiting ≤ 0)
      (one : Collects (before.core.counts.waiting + 1) collect_one_event before.core before.budget (receive_tables ms ps ws) v (receive_tables ms' ps' ws')) where
    -- the run after the visit
    abbrev visited_run : Rest → List Mark → Run
    visited_run others log = (collect_one_event (run_of before others (receive_tables ms ps ws) log)).run

    run_after : (others : Rest) (log : List Mark)
        → visited_run others log ≡ under_way v.core others (receive_tables ms' ps' ws') (visited_run others log).log v.budget
    run_after others log =
        run_is (visited_run others log) (shown v.core others ms' ps' ws') v.budget (one.visits.state others log)
        (one.visits.left others log)

    pub held_none : v.more ≡ false → HeldVisit visits before (receive_tables ms ps ws) v (receive_tables ms' ps' ws')
    held_none stays =
        record {
          members_long = one.visits.members_long;
          pending_long = one.visits.pending_long;
          waiting_long = one.visits.waiting_long;
          members_same = one.visits.members_same;
          usable = one.usable;
          marks = λ others log. (visited_run others log).log;
          is =
              λ others log.
              no_event_left visits (run_of before others (receive_tables ms ps ws) log) (tab_spent before.core.counts.waiting (waiting_at ws) none_waits)
              (one.visits.more others log ∙ stays)
              ∙ run_after others log
              ∙ sym (when_false v.more _ _ stays);
        }

    pub held_one : (asked pends : Bool) (after : Core) (more : Bool) → v.more ≡ true
        → asked ≡ (eqb visits 0 && eqb v.core.counts.pending 0)
        → after ≡ continued (bit (is_set v.core.visit.continuation || asked)) v.core → Shows has_pending_data after pends
        → more ≡ not pends
        → HeldVisit visits before (receive_tables ms ps ws) record { more = more; core = after; budget = v.budget } (receive_tables ms' ps' ws')
    held_one asked pends after more goes asks is_after shows is_more =
        record {
          members_long = one.visits.members_long;
          pending_long = one.visits.pending_long;
          waiting_long = one.visits.waiting_long;
          members_same = ap (λ (c : Core). c.counts.members) is_after ∙ one.visits.members_same;
          usable = subst (λ (c : Core). Usable c (receive_tables ms' ps' ws')) (sym is_after) (usable_continued v.core ms' ps' ws' (is_set v.core.visit.continuation || asked) one.usable);
          marks = λ others log. (visited_run others log).log;
          is =
              λ others log.
              let log' = (visited_run others log).log in
              let here = under_way after others (receive_tables ms' ps' ws') log' v.budget in
              event_collected visits (run_of before others (receive_tables ms ps ws) log) (tab_spent before.core.counts.waiting (waiting_at ws) none_waits)
              (one.visits.more others log ∙ goes)
              ∙ ap (λ (x : Run). or_later visits (or_continue (eqb visits 0 && is_empty x.state.receive.pending) x)) (run_after others log)
              ∙ ap (λ (b : Bool). or_later visits (or_continue b (under_way v.core others (receive_tables ms' ps' ws') log' v.budget)))
              (ap (λ (b : Bool). eqb visits 0 && b) (tab_empty v.core.counts.pending (packet_at ps')) ∙ sym asks)
              ∙ ap (λ (c : Core). or_later visits (under_way c others (receive_tables ms' ps' ws') log' v.budget)) (sym is_after)
              ∙ ap (λ (t : Bool). if_true t then here else collect_until_held visits here) (sym (shows.is others (receive_tables ms' ps' ws')))
              ∙ if_not pends here (collect_until_held visits here)
              ∙ ap (λ (t : Bool). if_true t then collect_until_held visits here else here) (sym is_more);
        }

-- ---- the loop until something is held

-- so many visits are left
pub record Holding (left : ℕ) (core : Core) (budget : ℕ) (t : ReceiveTables) (v : Visited) (t' : ReceiveTables) : Type 0 where
  pub members_long : length t'.members ≡ length t.members
  pub pending_long : length t'.pending ≡ length t.pending
  pub waiting_long : length t'.waiting ≡ length t.waiting
  pub members_same : v.core.counts.members ≡ core.counts.members
  pub usable : Usable v.core t'
  pub marks : Rest → List Mark → List Mark
  pub is : (others : Rest) (log : List Mark)
      → collect_until_held max_visits (under_way core others t log budget)
      ≡ collect_until_held left (run_of v others t' (marks others log))

module _ (core : Core) (budget : ℕ) (ms ps ws : List ℕ) where
  pub holding_start : Usable core (receive_tables ms ps ws)
      → Holding max_visits core budget (receive_tables ms ps ws) record { more = true; core = core; budget = budget } (receive_tables ms ps ws)
  holding_start u =
      record {
        members_long = refl;
        pending_long = refl;
        waiting_long = refl;
        members_same = refl;
        usable = u;
        marks = λ others log. log;
        is = λ others log. refl;
      }

  module _ (left : ℕ) (v v' : Visited) (ms₁ ps₁ ws₁ ms' ps' ws' : List ℕ) (some_left : 0 < left)
      (h : Holding left core budget (receive_tables ms ps ws) v (receive_tables ms₁ ps₁ ws₁)) (x : HeldVisit (left - 1) v (receive_tables ms₁ ps₁ ws₁) v' (receive_tables ms' ps' ws')) where
    -- the visits so far, and this one
    one_more : (others : Rest) (log : List Mark)
        → collect_until_held max_visits (under_way core others (receive_tables ms ps ws) log budget)
        ≡ (if_true v'.more then collect_until_held (left - 1) (run_of v' others (receive_tables ms' ps' ws') (x.marks others (h.marks others log)))
        else run_of v' others (receive_tables ms' ps' ws') (x.marks others (h.marks others log)))
    one_more others log =
        h.is others log
        ∙ ap (λ (n : ℕ). collect_until_held n (run_of v others (receive_tables ms₁ ps₁ ws₁) (h.marks others log))) (omega (arith, some_left))
        ∙ x.is others (h.marks others log)

    pub holding_on : v'.more ≡ true → Holding (left - 1) core budget (receive_tables ms ps ws) v' (receive_tables ms' ps' ws')
    holding_on goes =
        record {
          members_long = x.members_long ∙ h.members_long;
          pending_long = x.pending_long ∙ h.pending_long;
          waiting_long = x.waiting_long ∙ h.waiting_long;
          members_same = x.members_same ∙ h.members_same;
          usable = x.usable;
          marks = λ others log. x.marks others (h.marks others log);
          is = λ others log. one_more others log ∙ when_true (v'.more) _ _ goes;
        }

    pub holding_ended : v'.more ≡ false
        → Gathers core budget (receive_tables ms ps ws) record { core = v'.core; budget = v'.budget } (receive_tables ms' ps' ws')
    holding_ended stays =
        record {
          members_long = x.members_long ∙ h.members_long;
          pending_long = x.pending_long ∙ h.pending_long;
          waiting_long = x.waiting_long ∙ h.waiting_long;
          members_same = x.members_same ∙ h.members_same;
          usable = x.usable;
          run =
              λ others log.
              let e = one_more others log ∙ when_false (v'.more) _ _ stays in
              record { state = ap (λ (y : Run). y.state) e; budget = ap (λ (y : Run). y.budget) e };
        }

  none_left : (left : ℕ) (r : Run) → left ≤ 0 → collect_until_held left r ≡ r
  unfolding collect_until_held
  none_left zero r h = refl
  none_left (suc n) r h = absurd (omega arith)

  pub holding_done : (left : ℕ) (v : Visited) (ms' ps' ws' : List ℕ) → left ≤ 0 → Holding left core budget (receive_tables ms ps ws) v (receive_tables ms' ps' ws')
      → Gathers core budget (receive_tables ms ps ws) record { core = v.core; budget = v.budget } (receive_tables ms' ps' ws')
  holding_done left v ms' ps' ws' none_more h =
      record {
        members_long = h.members_long;
        pending_long = h.pending_long;
        waiting_long = h.waiting_long;
        members_same = h.members_same;
        usable = h.usable;
        run =
            λ others log.
            let e = h.is others log ∙ none_left left (run_of v others (receive_tables ms' ps' ws') (h.marks others log)) none_more in
            record { state = ap (λ (y : Run). y.state) e; budget = ap (λ (y : Run). y.budget) e };
      }

-- ---- the loop until a sequence is held or every queue is empty

-- a call under way, after a visit
abbrev after_visit : Visited → Rest → ReceiveTables → List Mark → Run
after_visit v others t log = under_way v.core others t log v.budget

-- so many visits are left; an event waits for each that was made, at most
pub record Emptying (left : ℕ) (sequence : ℕ) (core : Core) (budget : ℕ) (t : ReceiveTables) (v : Visited) (t' : ReceiveTables) : Type 0 where
  pub members_long : length t'.members ≡ length t.members
  pub pending_long : length t'.pending ≡ length t.pending
  pub waiting_long : length t'.waiting ≡ length t.waiting
  pub members_same : v.core.counts.members ≡ core.counts.members
  pub waiting_few : v.core.counts.waiting + left ≤ max_waiting
  pub usable : Usable v.core t'
  pub marks : Rest → List Mark → List Mark
  pub is : (others : Rest) (log : List Mark)
      → collect_until_empty max_visits sequence (under_way core others t log budget)
      ≡ collect_until_empty left sequence (after_visit v others t' (marks others log))

module _ (visits sequence : ℕ) (r : Run) where
  is_settled : (is_set r.state.visit.continuation || is_held sequence r.state.receive.pending) ≡ true
      → collect_until_empty (suc visits) sequence r ≡ record { emptied = false; run = r }
  unfolding collect_until_empty if_true◌then◌else◌
  is_settled settled = rw settled

  event_taken : (is_set r.state.visit.continuation || is_held sequence r.state.receive.pending) ≡ false → (collect_one_event r).took ≡ true
      → collect_until_empty (suc visits) sequence r ≡ collect_until_empty visits sequence (collect_one_event r).run
  unfolding collect_until_empty if_true◌then◌else◌
  event_taken unsettled goes = rw (unsettled, goes)

  all_empty : (is_set r.state.visit.continuation || is_held sequence r.state.receive.pending) ≡ false → (collect_one_event r).took ≡ false
      → collect_until_empty (suc visits) sequence r
      ≡ record { emptied = not (is_set (collect_one_event r).run.state.visit.continuation); run = (collect_one_event r).run }
  unfolding collect_until_empty if_true◌then◌else◌
  all_empty unsettled stays = rw (unsettled, stays)

visits_spent : (left sequence : ℕ) (r : Run) → left ≤ 0
    → collect_until_empty left sequence r
    ≡ record { emptied = false; run = or_continue (not (is_held sequence r.state.receive.pending)) r }
unfolding collect_until_empty
visits_spent zero sequence r h = refl
visits_spent (suc n) sequence r h = absurd (omega arith)

module _ (sequence : ℕ) (core : Core) (budget : ℕ) (ms ps ws : List ℕ) where
  pub emptying_start : Usable core (receive_tables ms ps ws) → core.counts.waiting ≡ 0
      → Emptying max_visits sequence core budget (receive_tables ms ps ws) record { more = false; core = core; budget = budget } (receive_tables ms ps ws)
  emptying_start u none_waits =
      record {
        members_long = refl;
        pending_long = refl;
        waiting_long = refl;
        members_same = refl;
        waiting_few = omega (arith, none_waits);
        usable = u;
        marks = λ others log. log;
        is = λ others log. refl;
      }

  module _ (left : ℕ) (v : Visited) (ms₁ ps₁ ws₁ : List ℕ) (h : Emptying left sequence core budget (receive_tables ms ps ws) v (receive_tables ms₁ ps₁ ws₁)) where
    -- an answer of the definition, where it stands now, is the answer of the whole
    answers : (r : Emptied) (ms' ps' ws' : List ℕ) → length ms' ≡ length ms₁ → length ps' ≡ length ps₁ → length ws' ≡ length ws₁
        → r.core.counts.members ≡ v.core.counts.members → Usable r.core (receive_tables ms' ps' ws')
        → ((others : Rest) (log : List Mark)
        → (collect_until_empty left sequence (after_visit v others (receive_tables ms₁ ps₁ ws₁) log)).emptied ≡ r.emptied)
        → ((others : Rest) (log : List Mark)
        → (collect_until_empty left sequence (after_visit v others (receive_tables ms₁ ps₁ ws₁) log)).run.state ≡ shown r.core others ms' ps' ws')
        → ((others : Rest) (log : List Mark)
        → (collect_until_empty left sequence (after_visit v others (receive_tables ms₁ ps₁ ws₁) log)).run.budget ≡ r.budget)
        → Empties sequence core budget (receive_tables ms ps ws) r (receive_tables ms' ps' ws')
    answers r ms' ps' ws' lm lp lw same u emptied state budget_left =
        record {
          members_long = lm ∙ h.members_long;
          pending_long = lp ∙ h.pending_long;
          waiting_long = lw ∙ h.waiting_long;
          members_same = same ∙ h.members_same;
          usable = u;
          emptied = λ others log. ap (λ (x : EmptiedRun). x.emptied) (h.is others log) ∙ emptied others (h.marks others log);
          run =
              λ others log.
              record {
                state = ap (λ (x : EmptiedRun). x.run.state) (h.is others log) ∙ state others (h.marks others log);
                budget = ap (λ (x : EmptiedRun). x.run.budget) (h.is others log) ∙ budget_left others (h.marks others log);
              };
        }

    -- a flag that is not set is 0
    zero_is_unset : (n : ℕ) → not (is_set n) ≡ eqb n 0
    zero_is_unset zero = refl
    zero_is_unset (suc n) = sym (ne_eqb (suc n) 0 (λ h. omega arith))

    -- one visit less, and one more
    one_less : 0 < left → left ≡ suc (left - 1)
    one_less some_left = omega arith

    settled_now : {answer : Bool} → 0 < left → answer ≡ (is_set v.core.visit.continuation || is_held sequence (packets v.core.counts.pending ps₁)) → answer ≡ true
        → (others : Rest) (log : List Mark)
        → collect_until_empty left sequence (after_visit v others (receive_tables ms₁ ps₁ ws₁) log) ≡ record { emptied = false; run = after_visit v others (receive_tables ms₁ ps₁ ws₁) log }
    settled_now some_left is settled others log =
        ap (λ (n : ℕ). collect_until_empty n sequence (after_visit v others (receive_tables ms₁ ps₁ ws₁) log)) (one_less some_left)
        ∙ is_settled (left - 1) sequence (after_visit v others (receive_tables ms₁ ps₁ ws₁) log) (sym is ∙ settled)

    pub emptying_settled : {answer : Bool} → 0 < left
        → answer ≡ (is_set v.core.visit.continuation || is_held sequence (packets v.core.counts.pending ps₁)) → answer ≡ true
        → Empties sequence core budget (receive_tables ms ps ws)
        record { emptied = false; core = v.core; budget = v.budget } (receive_tables ms₁ ps₁ ws₁)
    emptying_settled some_left is settled =
        answers record { emptied = false; core = v.core; budget = v.budget } ms₁ ps₁ ws₁ refl refl refl refl h.usable
        (λ others log. ap (λ (x : EmptiedRun). x.emptied) (settled_now some_left is settled others log))
        (λ others log. ap (λ (x : EmptiedRun). x.run.state) (settled_now some_left is settled others log))
        (λ others log. ap (λ (x : EmptiedRun). x.run.budget) (settled_now some_left is settled others log))

    pub emptying_spent : {held : Bool} {after : Core} → left ≤ 0
        → held ≡ is_held sequence (packets v.core.counts.pending ps₁)
        → after ≡ continued (bit (is_set v.core.visit.continuation || not held)) v.core
        → Empties sequence core budget (receive_tables ms ps ws)
        record { emptied = false; core = after; budget = v.budget } (receive_tables ms₁ ps₁ ws₁)
    emptying_spent {held} {after} none_left is is_after =
        answers record { emptied = false; core = after; budget = v.budget } ms₁ ps₁ ws₁ refl refl refl
        (ap (λ (c : Core). c.counts.members) is_after)
        (subst (λ (c : Core). Usable c (receive_tables ms₁ ps₁ ws₁)) (sym is_after) (usable_continued v.core ms₁ ps₁ ws₁ (is_set v.core.visit.continuation || not held) h.usable))
        (λ others log. ap (λ (x : EmptiedRun). x.emptied) (visits_spent left sequence (after_visit v others (receive_tables ms₁ ps₁ ws₁) log) none_left))
        (λ others log.
        ap (λ (x : EmptiedRun). x.run.state) (visits_spent left sequence (after_visit v others (receive_tables ms₁ ps₁ ws₁) log) none_left)
        ∙ ap (λ (b : Bool). shown (continued (bit (is_set v.core.visit.continuation || not b)) v.core) others ms₁ ps₁ ws₁) (sym is)
        ∙ ap (λ (c : Core). shown c others ms₁ ps₁ ws₁) (sym is_after))
        (λ others log. ap (λ (x : EmptiedRun). x.run.budget) (visits_spent left sequence (after_visit v others (receive_tables ms₁ ps₁ ws₁) log) none_left))

    module _ {answer : Bool} (some_left : 0 < left)
        (is : answer ≡ (is_set v.core.visit.continuation || is_held sequence (packets v.core.counts.pending ps₁))) (unsettled : answer ≡ false)
        (v' : Visited) (ms' ps' ws' : List ℕ)
        (one : Collects (v.core.counts.waiting + 1) collect_one_event v.core v.budget (receive_tables ms₁ ps₁ ws₁) v' (receive_tables ms' ps' ws')) where
      abbrev next_run : Rest → List Mark → Run
      next_run others log = (collect_one_event (after_visit v others (receive_tables ms₁ ps₁ ws₁) log)).run

      next_is : (others : Rest) (log : List Mark) → next_run others log ≡ after_visit v' others (receive_tables ms' ps' ws') (next_run others log).log
      next_is others log =
          run_is (next_run others log) (shown v'.core others ms' ps' ws') v'.budget (one.visits.state others log)
          (one.visits.left others log)

      pub emptying_on : v'.more ≡ true → Emptying (left - 1) sequence core budget (receive_tables ms ps ws) v' (receive_tables ms' ps' ws')
      emptying_on goes =
          record {
            members_long = one.visits.members_long ∙ h.members_long;
            pending_long = one.visits.pending_long ∙ h.pending_long;
            waiting_long = one.visits.waiting_long ∙ h.waiting_long;
            members_same = one.visits.members_same ∙ h.members_same;
            waiting_few = omega (arith, one.visits.waiting_most, h.waiting_few, some_left);
            usable = one.usable;
            marks = λ others log. (next_run others (h.marks others log)).log;
            is =
                λ others log.
                let log₁ = h.marks others log in
                h.is others log
                ∙ ap (λ (n : ℕ). collect_until_empty n sequence (after_visit v others (receive_tables ms₁ ps₁ ws₁) log₁)) (one_less some_left)
                ∙ event_taken (left - 1) sequence (after_visit v others (receive_tables ms₁ ps₁ ws₁) log₁) (sym is ∙ unsettled) (one.visits.more others log₁ ∙ goes)
                ∙ ap (λ (x : Run). collect_until_empty (left - 1) sequence x) (next_is others log₁);
          }

      empty_now : v'.more ≡ false → (others : Rest) (log : List Mark)
          → collect_until_empty left sequence (after_visit v others (receive_tables ms₁ ps₁ ws₁) log)
          ≡ record { emptied = not (is_set (next_run others log).state.visit.continuation); run = next_run others log }
      empty_now stays others log =
          ap (λ (n : ℕ). collect_until_empty n sequence (after_visit v others (receive_tables ms₁ ps₁ ws₁) log)) (one_less some_left)
          ∙ all_empty (left - 1) sequence (after_visit v others (receive_tables ms₁ ps₁ ws₁) log) (sym is ∙ unsettled) (one.visits.more others log ∙ stays)

      pub emptying_ended : (emptied : Bool) → v'.more ≡ false → emptied ≡ eqb v'.core.visit.continuation 0
          → Empties sequence core budget (receive_tables ms ps ws)
          record { emptied = emptied; core = v'.core; budget = v'.budget } (receive_tables ms' ps' ws')
      emptying_ended emptied stays is_emptied =
          answers record { emptied = emptied; core = v'.core; budget = v'.budget } ms' ps' ws'
          one.visits.members_long one.visits.pending_long one.visits.waiting_long one.visits.members_same one.usable
          (λ others log.
          ap (λ (x : EmptiedRun). x.emptied) (empty_now stays others log)
          ∙ ap (λ (s : State). not (is_set s.visit.continuation)) (one.visits.state others log)
          ∙ zero_is_unset v'.core.visit.continuation
          ∙ sym is_emptied)
          (λ others log. ap (λ (x : EmptiedRun). x.run.state) (empty_now stays others log) ∙ one.visits.state others log)
          (λ others log. ap (λ (x : EmptiedRun). x.run.budget) (empty_now stays others log) ∙ one.visits.left others log)

module _ (continuation : ℕ) (held : Bool) where
  pub settled_or_held : {answer : Bool} → continuation ≡ 0 → answer ≡ held → answer ≡ (is_set continuation || held)
  settled_or_held none_asked is = rw none_asked is

  pub settled_asked : (continuation ≡ 0 → ⊥) → true ≡ (is_set continuation || held)
  settled_asked asked = sym (or_yes_left (is_set continuation) held (other_set continuation asked))
