-- What is proved of the definitions in specs/DataPoll.antt, with what the proofs need.
use Rattle.srt_group_delivery.specs.declared.delivery.GroupEvent.TheVariants.{Event as AnEvent, Packet as APacket}
use Rattle.std.specs.Prelude.{◌≡◌, Bool, true, List, ℕ, zero, suc, ◌-◌, ◌≤◌, ◌<◌, min, length, None, Some}
use Rattle.std.proofs.Math.Path.{refl}
use Rattle.std.proofs.Common.{ap, sym, subst, ◌∙◌, arith, eq-eqb, ne_eqb}
use Rattle.srt_group_model.specs.declared.Core.{Core}
use Rattle.srt_group_model.specs.declared.Packet.{Packet}
use Rattle.srt_group_model.specs.declared.Waiting.{Waiting}
use Rattle.srt_group_model.specs.Tools.{if_true◌then◌else◌, is_set, bit}
use Rattle.srt_group_model.specs.Laws.Flag.{bit_set}
use Rattle.srt_group_model.specs.State.{State}
use Rattle.srt_group_model.specs.Run.{Mark, Run}
use Rattle.srt_group_model.specs.Collecting.{has_pending_data}
use Rattle.srt_group_model.specs.Delivery.{Polled, max_visits}
use Rattle.srt_group_model.specs.Polls.{poll_event, pass_events, poll_until_data, poll_data_bounded}
use Rattle.srt_group_model.specs.Polls as model_polls
use Rattle.srt_group_shown.specs.Shown.{Rest, shown}
use Rattle.srt_group_shown.specs.Tables.{ReceiveTables, receive_tables}
use Rattle.srt_group_delivery.specs.declared.delivery.Poll.{Poll}
use Rattle.srt_group_polls.specs.declared.polls.DataPoll.{DataPoll}
use Rattle.srt_group_collecting.specs.Leaves.{Usable, under_way}
use Rattle.srt_group_collecting.specs.Gather.{Shows}
use Rattle.srt_group_delivery.specs.Poll.{polled_of}
use Rattle.srt_group_skip.specs.Skip.{PollsFrom}
use Rattle.srt_group_polls.specs.DataPoll.{GivesData, PollsData, spent_at, Ends, Passes}

-- ---- an event is passed over

module _ (poll : Poll) where
  pub ends_with_nothing : poll.gave ≡ None
      → Ends poll record { gave = None; continuation = poll.core.visit.continuation; core = poll.core }
  unfolding pass_events
  ends_with_nothing is =
      record {
        core_same = refl;
        ended = λ run rest same. rw is (ap (λ (n : ℕ). record { gave = None; continuation = is_set n; run = run }) same);
      }

  pub event_passed : (w : Waiting) → poll.gave ≡ Some (AnEvent w) → Passes poll None
  unfolding pass_events
  event_passed w is = λ run rest. rw is

  pub ends_with_packet : (p : Packet) → poll.gave ≡ Some (APacket p) → Ends poll record { gave = Some p; continuation = 0; core = poll.core }
  unfolding pass_events
  ends_with_packet p is = record { core_same = refl; ended = λ run rest same. rw is }

-- ---- the event polls of a data poll

-- so many event polls are left, and each so far gave an event
pub record Passing (among : Rest → Type 0) (left time visits : ℕ) (core : Core) (t : ReceiveTables) (here : Core) (t' : ReceiveTables) : Type 0 where
  pub members_long : length t'.members ≡ length t.members
  pub pending_long : length t'.pending ≡ length t.pending
  pub waiting_long : length t'.waiting ≡ length t.waiting
  pub members_same : here.counts.members ≡ core.counts.members
  pub usable : Usable here t'
  pub marks : Rest → List Mark → ℕ → List Mark
  pub budgets : Rest → List Mark → ℕ → ℕ
  pub is : (others : Rest) → among others → (log : List Mark) (budget : ℕ)
      → poll_until_data time visits (under_way core others t log budget)
      ≡ poll_until_data time left (under_way here others t' (marks others log budget) (budgets others log budget))

one_poll : (time left : ℕ) (r : Run) → 0 < left
    → poll_until_data time left r
    ≡ pass_events (poll_event time r).gave (poll_event time r).run (poll_until_data time (left - 1) (poll_event time r).run)
unfolding poll_until_data
one_poll time zero r h = absurd (omega arith)
one_poll time (suc n) r h =
    let less : n ≡ suc n - 1 = omega arith in
    ap
    (λ (k : ℕ). pass_events (poll_event time r).gave (poll_event time r).run (poll_until_data time k (poll_event time r).run))
    less

none_left : (time left : ℕ) (r : Run) → left ≤ 0 → poll_until_data time left r ≡ record { gave = None; continuation = true; run = r }
unfolding poll_until_data
none_left time zero r h = refl
none_left time (suc n) r h = absurd (omega arith)

state_is : (x : Run) (s : State) → x.state ≡ s → x ≡ record { state = s; log = x.log; budget = x.budget }
state_is x s p = λ i. record { state = p i; log = x.log; budget = x.budget }

module _ (among : Rest → Type 0) (time visits : ℕ) (core : Core) (ms ps ws : List ℕ) where
  pub passing_start : Usable core (receive_tables ms ps ws) → Passing among visits time visits core (receive_tables ms ps ws) core (receive_tables ms ps ws)
  passing_start u =
      record {
        members_long = refl;
        pending_long = refl;
        waiting_long = refl;
        members_same = refl;
        usable = u;
        marks = λ others log budget. log;
        budgets = λ others log budget. budget;
        is = λ others is_among log budget. refl;
      }

  module _ (left : ℕ) (here : Core) (ms₁ ps₁ ws₁ : List ℕ) (h : Passing among left time visits core (receive_tables ms ps ws) here (receive_tables ms₁ ps₁ ws₁)) where
    pub passing_spent : left ≤ 0 → PollsData among (poll_until_data time visits) core (receive_tables ms ps ws) (spent_at here) (receive_tables ms₁ ps₁ ws₁)
    passing_spent none_more =
        record {
          members_long = h.members_long;
          pending_long = h.pending_long;
          waiting_long = h.waiting_long;
          members_same = h.members_same;
          usable = h.usable;
          run =
              λ others is_among log budget.
              let e = h.is others is_among log budget ∙ none_left time left (under_way here others (receive_tables ms₁ ps₁ ws₁) (h.marks others log budget) (h.budgets others log budget)) none_more in
              record {
                gave = ap (λ (q : model_polls.DataPoll). q.gave) e;
                continuation = ap (λ (q : model_polls.DataPoll). q.continuation) e;
                state = ap (λ (q : model_polls.DataPoll). q.run.state) e;
              };
        }

    module _ (some_left : 0 < left) (poll : Poll) (ms' ps' ws' : List ℕ)
        (polled : (budget : ℕ) → PollsFrom among (poll_event time) here budget (receive_tables ms₁ ps₁ ws₁) poll (receive_tables ms' ps' ws')) where
      -- where the call stands before this event poll, and after it
      abbrev before : Rest → List Mark → ℕ → Run
      before others log budget =
          under_way here others (receive_tables ms₁ ps₁ ws₁) (h.marks others log budget) (h.budgets others log budget)

      abbrev next : Rest → List Mark → ℕ → Run
      next others log budget = (poll_event time (before others log budget)).run

      next_state : (others : Rest) → among others → (log : List Mark) (budget : ℕ) → (next others log budget).state ≡ shown poll.core others ms' ps' ws'
      next_state others is_among log budget = ((polled (h.budgets others log budget)).run others is_among (h.marks others log budget)).state

      -- the event polls so far, and this one
      one_more : (others : Rest) → among others → (log : List Mark) (budget : ℕ)
          → poll_until_data time visits (under_way core others (receive_tables ms ps ws) log budget)
          ≡ pass_events (polled_of poll.gave) (next others log budget) (poll_until_data time (left - 1) (next others log budget))
      one_more others is_among log budget =
          h.is others is_among log budget ∙ one_poll time left (before others log budget) some_left
          ∙ ap (λ (x : Polled). pass_events x (next others log budget) (poll_until_data time (left - 1) (next others log budget)))
          ((polled (h.budgets others log budget)).run others is_among (h.marks others log budget)).gave

      pub passing_on : Passes poll None → Passing among (left - 1) time visits core (receive_tables ms ps ws) poll.core (receive_tables ms' ps' ws')
      passing_on passes =
          record {
            members_long = (polled 0).members_long ∙ h.members_long;
            pending_long = (polled 0).pending_long ∙ h.pending_long;
            waiting_long = (polled 0).waiting_long ∙ h.waiting_long;
            members_same = (polled 0).members_same ∙ h.members_same;
            usable = (polled 0).usable;
            marks = λ others log budget. (next others log budget).log;
            budgets = λ others log budget. (next others log budget).budget;
            is =
                λ others is_among log budget.
                one_more others is_among log budget ∙ passes (next others log budget) (poll_until_data time (left - 1) (next others log budget))
                ∙ ap (poll_until_data time (left - 1))
                (state_is (next others log budget) (shown poll.core others ms' ps' ws') (next_state others is_among log budget));
          }

      pub passing_ended : (answer : DataPoll) → Ends poll answer → PollsData among (poll_until_data time visits) core (receive_tables ms ps ws) answer (receive_tables ms' ps' ws')
      passing_ended answer ends =
          record {
            members_long = (polled 0).members_long ∙ h.members_long;
            pending_long = (polled 0).pending_long ∙ h.pending_long;
            waiting_long = (polled 0).waiting_long ∙ h.waiting_long;
            members_same = ap (λ (c : Core). c.counts.members) ends.core_same ∙ (polled 0).members_same ∙ h.members_same;
            usable = subst (λ (c : Core). Usable c (receive_tables ms' ps' ws')) (sym ends.core_same) (polled 0).usable;
            run =
                λ others is_among log budget.
                let e =
                one_more others is_among log budget
                ∙ ends.ended (next others log budget) (poll_until_data time (left - 1) (next others log budget))
                (ap (λ (s : State). s.visit.continuation) (next_state others is_among log budget)) in
                record {
                  gave = ap (λ (q : model_polls.DataPoll). q.gave) e;
                  continuation = ap (λ (q : model_polls.DataPoll). q.continuation) e;
                  state =
                      ap (λ (q : model_polls.DataPoll). q.run.state) e ∙ next_state others is_among log budget
                      ∙ ap (λ (c : Core). shown c others ms' ps' ws') (sym ends.core_same);
                };
          }

-- ---- a data poll

module _ (time max_events : ℕ) (r : Run) where
  no_event_polls : max_events ≡ 0
      → poll_data_bounded time max_events r ≡ record { gave = None; continuation = has_pending_data r.state; run = r }
  unfolding poll_data_bounded if_true◌then◌else◌
  no_event_polls is = rw (eq-eqb max_events 0 is)

  some_event_polls : (max_events ≡ 0 → ⊥) → poll_data_bounded time max_events r ≡ poll_until_data time (min max_events max_visits) r
  unfolding poll_data_bounded if_true◌then◌else◌
  some_event_polls some_allowed = rw (ne_eqb max_events 0 some_allowed)

module _ (among : Rest → Type 0) (time max_events : ℕ) (core : Core) (ms ps ws : List ℕ) where
  pub none_allowed : {pends : Bool} {word : ℕ} → Usable core (receive_tables ms ps ws) → max_events ≡ 0 → Shows has_pending_data core pends
      → word ≡ bit pends
      → PollsData among (poll_data_bounded time max_events) core (receive_tables ms ps ws)
      record { gave = None; continuation = word; core = core } (receive_tables ms ps ws)
  none_allowed {pends} {word} u is shows is_word =
      record {
        members_long = refl;
        pending_long = refl;
        waiting_long = refl;
        members_same = refl;
        usable = u;
        run =
            λ others is_among log budget.
            let e = no_event_polls time max_events (under_way core others (receive_tables ms ps ws) log budget) is in
            record {
              gave = ap (λ (q : model_polls.DataPoll). q.gave) e;
              continuation =
                  ap (λ (q : model_polls.DataPoll). q.continuation) e ∙ sym (shows.is others (receive_tables ms ps ws))
                  ∙ sym (ap is_set is_word ∙ bit_set pends);
              state = ap (λ (q : model_polls.DataPoll). q.run.state) e;
            };
      }

  pub some_allowed : (visits : ℕ) (answer : DataPoll) (ms' ps' ws' : List ℕ) → (max_events ≡ 0 → ⊥) → visits ≡ min max_events max_visits
      → PollsData among (poll_until_data time visits) core (receive_tables ms ps ws) answer (receive_tables ms' ps' ws')
      → PollsData among (poll_data_bounded time max_events) core (receive_tables ms ps ws) answer (receive_tables ms' ps' ws')
  some_allowed visits answer ms' ps' ws' some_polls is p =
      record {
        members_long = p.members_long;
        pending_long = p.pending_long;
        waiting_long = p.waiting_long;
        members_same = p.members_same;
        usable = p.usable;
        run =
            λ others is_among log budget.
            subst (λ (q : model_polls.DataPoll). GivesData q answer others (receive_tables ms' ps' ws'))
            (sym
            (some_event_polls time max_events (under_way core others (receive_tables ms ps ws) log budget) some_polls
            ∙ ap (λ (n : ℕ). poll_until_data time n (under_way core others (receive_tables ms ps ws) log budget)) (sym is)))
            (p.run others is_among log budget);
      }
