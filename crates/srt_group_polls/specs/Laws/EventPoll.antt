-- What is proved of the definitions in specs/EventPoll.antt, with what the proofs need.
use Rattle.std.specs.Prelude.{◌≡◌, true, false, not, List, ℕ, ◌≤◌, ◌<◌, length}
use Rattle.std.proofs.Math.Path.{refl, ap}
use Rattle.std.proofs.Common.{sym, subst, ◌∙◌, arith}
use Rattle.srt_group_model.specs.declared.Core.{Core}
use Rattle.srt_group_model.specs.declared.Counts.{Counts}
use Rattle.srt_group_model.specs.declared.Sending.{Sending}
use Rattle.srt_group_model.specs.Tools.{if_true◌then◌else◌, bit, is_empty}
use Rattle.srt_group_model.specs.Laws.Reason.{if_elim}
use Rattle.srt_group_model.specs.State.{with_continuation}
use Rattle.srt_group_model.specs.Core.{continued}
use Rattle.srt_group_model.specs.Sound.{SendingFit, Sound}
use Rattle.srt_group_model.specs.Run.{Mark, Run, refresh_pending_states, refresh_states}
use Rattle.srt_group_model.specs.Collecting.{collect_until_held}
use Rattle.srt_group_model.specs.Delivery.{give_waiting, max_visits}
use Rattle.srt_group_model.specs.Delivery as model
use Rattle.srt_group_model.specs.Polls.{delivery_budget, deliver_next, poll_event}
use Rattle.srt_group_model.specs.Laws.Steps.{refresh_has, give_waiting_has, deliver_next_has}
use Rattle.srt_group_model.specs.Laws.Sound.{sound_law}
use Rattle.srt_group_tables.specs.Waitings.{waiting_at}
use Rattle.srt_group_shown.specs.Shown.{Rest, shown}
use Rattle.srt_group_shown.specs.Tables.{receive_tables}
use Rattle.srt_group_collecting.specs.declared.collecting.Gathered.{Gathered}
use Rattle.srt_group_delivery.specs.declared.delivery.Poll.{Poll}
use Rattle.srt_group_collecting.specs.Leaves.{every, sends, Usable, under_way, At}
use Rattle.srt_group_collecting.specs.Gather.{Gathers}
use Rattle.srt_group_collecting.specs.Laws.Gather.{tab_full, tab_spent, run_is, usable_continued}
use Rattle.srt_group_delivery.specs.Poll.{Polls}
use Rattle.srt_group_polls.specs.Refresh.{Refreshes}
use Rattle.srt_group_polls.specs.Laws.Refresh.{usable_refreshed_pending}
use Rattle.srt_group_skip.specs.Skip.{GivesState, PollsFrom}
use Rattle.srt_group_skip.specs.Laws.Skip.{polled_among, polled_as}
use Rattle.srt_group_polls.specs.EventPoll.{give_next}

-- ---- a poll that goes on from where another step stands

polls_from_there : {among : Rest → Type 0} (f g : Run → model.Poll) (core after : Core) (budget left : ℕ) (ms ps ws ms₁ ps₁ ws₁ : List ℕ)
    (answer : Poll) (ms' ps' ws' : List ℕ) → length ms₁ ≡ length ms → length ps₁ ≡ length ps → length ws₁ ≡ length ws
    → after.counts.members ≡ core.counts.members → (marks : Rest → List Mark → List Mark)
    → ((others : Rest) → among others → (log : List Mark)
    → f (under_way core others (receive_tables ms ps ws) log budget)
    ≡ g (under_way after others (receive_tables ms₁ ps₁ ws₁) (marks others log) left))
    → PollsFrom among g after left (receive_tables ms₁ ps₁ ws₁) answer (receive_tables ms' ps' ws')
    → PollsFrom among f core budget (receive_tables ms ps ws) answer (receive_tables ms' ps' ws')
polls_from_there f g core after budget left ms ps ws ms₁ ps₁ ws₁ answer ms' ps' ws' lm lp lw same marks is p =
    record {
      members_long = p.members_long ∙ lm;
      pending_long = p.pending_long ∙ lp;
      waiting_long = p.waiting_long ∙ lw;
      members_same = p.members_same ∙ same;
      usable = p.usable;
      run =
          λ others is_among log.
          subst (λ (q : model.Poll). GivesState q answer others (receive_tables ms' ps' ws')) (sym (is others is_among log))
          (p.run others is_among (marks others log));
    }

run_stands : (x : Run) (core : Core) (others : Rest) (ms ps ws : List ℕ) (left : ℕ) → At x core others (receive_tables ms ps ws) left
    → x ≡ under_way core others (receive_tables ms ps ws) x.log left
run_stands x core others ms ps ws left at = run_is x (shown core others ms ps ws) left at.state at.budget

-- ---- what is given once the legs were visited

give_next_has : (time : ℕ) (r : Run) → Sound r.state → Sound (give_next time r).run.state
unfolding give_next
give_next_has time r h =
    if_elim (λ (q : model.Poll). Sound q.run.state) _ _ _ (λ e. give_waiting_has Sound sound_law r h)
    (λ e. deliver_next_has Sound sound_law time _ (refresh_has Sound sound_law r h))

module _ (time : ℕ) (r : Run) where
  event_given : not (is_empty r.state.waiting) ≡ true → give_next time r ≡ give_waiting r
  unfolding give_next if_true◌then◌else◌
  event_given waits = rw waits

  pub packet_given : not (is_empty r.state.waiting) ≡ false → give_next time r ≡ deliver_next time (refresh_states r)
  unfolding give_next if_true◌then◌else◌
  packet_given none_waits = rw none_waits

  pub event_polled : poll_event time r
      ≡ give_next time
      (collect_until_held max_visits
      (refresh_pending_states record { state = with_continuation false r.state; log = r.log; budget = delivery_budget }))
  unfolding poll_event give_next
  event_polled = refl

module _ (sending : Sending) (time : ℕ) (core : Core) (budget : ℕ) (ms ps ws : List ℕ) (answer : Poll) where
  pub event_next : (ws' : List ℕ) → Usable core (receive_tables ms ps ws) → 0 < core.counts.waiting
      → Polls give_waiting core (receive_tables ms ps ws) answer (receive_tables ms ps ws')
      → PollsFrom (sends sending) (give_next time) core budget (receive_tables ms ps ws) answer (receive_tables ms ps ws')
  event_next ws' usable waits polls =
      polled_among (sends sending)
      (polled_as (give_next time) (give_next_has time) core budget ms ps ws usable answer ms ps ws' give_waiting
      (λ others log.
      event_given time (under_way core others (receive_tables ms ps ws) log budget) (tab_full core.counts.waiting (waiting_at ws) waits))
      polls)

  pub packet_next : (after : Core) (ms₁ ms' ps' ws' : List ℕ) → core.counts.waiting ≤ 0 → Refreshes (sends sending) refresh_states core ms after ms₁
      → PollsFrom every (deliver_next time) after budget (receive_tables ms₁ ps ws) answer (receive_tables ms' ps' ws')
      → PollsFrom (sends sending) (give_next time) core budget (receive_tables ms ps ws) answer (receive_tables ms' ps' ws')
  packet_next after ms₁ ms' ps' ws' none_waits refreshed polls =
      polls_from_there (give_next time) (deliver_next time) core after budget budget ms ps ws ms₁ ps ws answer ms' ps' ws'
      refreshed.members_long refl refl (ap (λ (n : Counts). n.members) refreshed.counts_same)
      (λ others log. (refresh_states (under_way core others (receive_tables ms ps ws) log budget)).log)
      (λ others same log.
      packet_given time (under_way core others (receive_tables ms ps ws) log budget)
      (tab_spent core.counts.waiting (waiting_at ws) none_waits)
      ∙ ap (deliver_next time)
      (run_stands (refresh_states (under_way core others (receive_tables ms ps ws) log budget)) after others ms₁ ps ws budget
      (refreshed.run ps ws others same log budget)))
      (polled_among (sends sending) polls)

-- ---- an event poll

module _ (sending : Sending) (time : ℕ) (core : Core) (ms ps ws : List ℕ) (begun : Core) (ms₁ : List ℕ)
    (refreshed : Refreshes (sends sending) refresh_pending_states (continued 0 core) ms begun ms₁) (gathered : Gathered) (ms₂ ps₂ ws₂ : List ℕ)
    (gathers : Gathers begun delivery_budget (receive_tables ms₁ ps ws) gathered (receive_tables ms₂ ps₂ ws₂)) where
  -- the call after the refresh, and after the visits
  abbrev begins : Rest → List Mark → Run
  begins others log = refresh_pending_states (under_way (continued 0 core) others (receive_tables ms ps ws) log delivery_budget)

  abbrev visits : Rest → List Mark → Run
  visits others log =
      collect_until_held max_visits (under_way begun others (receive_tables ms₁ ps ws) (begins others log).log delivery_budget)

  poll_is : (others : Rest) → sends sending others → (log : List Mark) (budget : ℕ)
      → poll_event time (under_way core others (receive_tables ms ps ws) log budget)
      ≡ give_next time (under_way gathered.core others (receive_tables ms₂ ps₂ ws₂) (visits others log).log gathered.budget)
  unfolding bit
  poll_is others same log budget =
      event_polled time (under_way core others (receive_tables ms ps ws) log budget)
      ∙ ap (λ (x : Run). give_next time (collect_until_held max_visits x))
      (run_stands (begins others log) begun others ms₁ ps ws delivery_budget (refreshed.run ps ws others same log delivery_budget))
      ∙ ap (give_next time)
      (run_stands (visits others log) gathered.core others ms₂ ps₂ ws₂ gathered.budget (gathers.run others (begins others log).log))

  pub polls_event : (answer : Poll) (ms' ps' ws' : List ℕ)
      → PollsFrom (sends sending) (give_next time) gathered.core gathered.budget (receive_tables ms₂ ps₂ ws₂) answer
      (receive_tables ms' ps' ws')
      → (budget : ℕ) → PollsFrom (sends sending) (poll_event time) core budget (receive_tables ms ps ws) answer (receive_tables ms' ps' ws')
  polls_event answer ms' ps' ws' given budget =
      polls_from_there (poll_event time) (give_next time) core gathered.core budget gathered.budget ms ps ws ms₂ ps₂ ws₂ answer ms' ps' ws'
      (gathers.members_long ∙ refreshed.members_long) gathers.pending_long gathers.waiting_long
      (gathers.members_same ∙ ap (λ (n : Counts). n.members) refreshed.counts_same)
      (λ others log. (visits others log).log) (λ others same log. poll_is others same log budget) given

-- ---- what each step of an event poll may rely on

-- the continuation is no longer asked for
usable_afresh : (core : Core) (ms ps ws : List ℕ) → Usable core (receive_tables ms ps ws) → Usable (continued 0 core) (receive_tables ms ps ws)
unfolding bit
usable_afresh core ms ps ws = usable_continued core ms ps ws false

pub usable_begun : (sending : Sending) → SendingFit sending → (core : Core) (ms ps ws : List ℕ) → Usable core (receive_tables ms ps ws)
    → (begun : Core) (ms₁ : List ℕ) → Refreshes (sends sending) refresh_pending_states (continued 0 core) ms begun ms₁
    → Usable begun (receive_tables ms₁ ps ws)
usable_begun sending fits core ms ps ws usable begun ms₁ =
    usable_refreshed_pending sending fits (continued 0 core) ms ps ws (usable_afresh core ms ps ws usable) begun ms₁

pub still_none_waits : {among : Rest → Type 0} {f : Run → Run} {core after : Core} {ms ms' : List ℕ} → core.counts.waiting ≤ 0
    → Refreshes among f core ms after ms' → after.counts.waiting ≡ 0
still_none_waits none_waits refreshes = omega (arith, none_waits, ap (λ (n : Counts). n.waiting) refreshes.counts_same)
