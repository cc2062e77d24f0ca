-- `tell_new` meets its contract: a fresh group, or the one before.
use Rattle.srt_group_replay.specs.Laws.Lines.{new_made, new_refused}
use mathlib.Core.Path.{refl}
use Rattle.srt_group_replay.proofs.telling.tell_new.Goals as goal

pub returns-in-Ok : goal.returns-in-Ok
returns-in-Ok c = new_made c.args.line.now c.new.ensures c.in-Ok.fresh c.in-Ok.is c.requires c.clear.ensures c.outcome_line.ensures

pub returns-in-Err : goal.returns-in-Err
returns-in-Err c =
    new_refused c.args.line.now c.new.ensures c.in-Err.error c.in-Err.is c.requires refl c.outcome_line-in-Err.ensures
