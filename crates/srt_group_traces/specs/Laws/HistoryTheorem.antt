-- Demand 3 holds: the proof of specs/Statement.antt's record, claim by claim.
use Rattle.srt_group_traces.specs.Laws.Base.{base_claim}
use Rattle.srt_group_traces.specs.Laws.ScheduleClaim.{schedule_claim}
use Rattle.srt_group_traces.specs.Laws.Corollaries.{unbased_is_still, rise_is_right_skip}
use Rattle.srt_group_traces.specs.Laws.Skips.{skips_claim}
use Rattle.srt_group_traces.specs.Laws.Gateways.{gateways_claim}
use Rattle.srt_group_traces.specs.Laws.CollectedAsQueued.{collected_off_queues, collected_as_queued}
use Rattle.srt_group_traces.specs.Laws.Budget.{budget_is_what_is_left}
use Rattle.srt_group_traces.specs.Statement.{HistoryTheorem, state_after}
use Rattle.srt_group_model.specs.Calls.{new}

pub history_theorem : HistoryTheorem
history_theorem =
    record {
      base = base_claim;
      unset = unbased_is_still;
      schedule = schedule_claim;
      rises = rise_is_right_skip;
      skips = λ g calls call. skips_claim call (state_after calls (new g));
      gateways = gateways_claim;
      by_polling = collected_off_queues;
      as_queued = collected_as_queued;
      budget = budget_is_what_is_left;
    }
