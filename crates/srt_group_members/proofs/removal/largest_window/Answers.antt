-- `largest_window` meets its contract: the fold goes through the rows that `largest_window` goes through from behind.
use Rattle.std.proofs.Common.{rules}
use Rattle.srt_group_members.specs.Laws.Turns.{window_folded}
use Rattle.srt_group_members.proofs.removal.largest_window.Goals as goal

pub returns : goal.returns
returns c = rw (← window_folded c.args.window c.args.rows.now) (search rules)
