-- `settle_unless_quiet` meets its contract: a quiet group is left as it is.
use Rattle.srt_group_polls.specs.Laws.Refresh.{settling_left_out}
use Rattle.srt_group_polls.proofs.polls.settle_unless_quiet.Goals as goal

pub returns-then-quiet : goal.returns-then-quiet
returns-then-quiet c = settling_left_out _ _ _ c.requires.known c.if-quiet.true
