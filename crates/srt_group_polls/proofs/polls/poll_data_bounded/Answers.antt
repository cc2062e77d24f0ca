-- `poll_data_bounded` meets its contract: none is allowed, or as many as are allowed.
use Rattle.srt_group_polls.specs.Laws.DataPoll.{none_allowed, some_allowed}
use Rattle.srt_group_polls.proofs.polls.poll_data_bounded.Goals as goal

pub returns-then-max_events-eq0-clause-polls_data : goal.returns-then-max_events-eq0-clause-polls_data
returns-then-max_events-eq0-clause-polls_data c = search none_allowed

pub returns-clause-polls_data : goal.returns-clause-polls_data
returns-clause-polls_data c = search some_allowed
