-- `pop_front` meets its contract: the rows behind the first move down by one.
use native.Mathlib.Omega.{arith}
use Rattle.srt_group_tables.specs.Laws.Waitings.{waiting_popped}
use Rattle.srt_group_tables.proofs.waiting.pop_front.Goals as goal

pub returns : goal.returns
returns c = waiting_popped _ _ _ (omega arith) (omega arith) (omega arith) c.close_gap.ensures
