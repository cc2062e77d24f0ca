-- `tell_lines` meets its contract: each turn tells one row more.
use Rattle.std.proofs.Common.{◌≡◌, take}
use Rattle.replay_rows.specs.Rows.{RowsTold}
use Rattle.replay_rows.proofs.rows.tell_lines.Given as goal

abbrev pub invariant-loop-index : goal.invariant-loop-index
invariant-loop-index g l =
    RowsTold (take l.index l.rows) (g.T.Teller.shown l.initial.replay) (g.T.Teller.shown l.replay) (take l.index l.answers)
    × (g.T.Teller.lent l.replay ≡ g.T.Teller.lent l.initial.replay)
