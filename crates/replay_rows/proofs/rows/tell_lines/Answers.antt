-- `tell_lines` meets its contract: each turn tells one row more.
use Rattle.std.proofs.Common.{arith, ◌∙◌, refl}
use Rattle.replay_rows.specs.Laws.Rows.{none_told, one_more_told}
use Rattle.replay_rows.proofs.rows.tell_lines.Goals as goal

pub loop-index-init : goal.loop-index-init
loop-index-init g c = (none_told (g.T.Teller.shown c.args.replay.now), refl)

pub loop-index-preserved : goal.loop-index-preserved
loop-index-preserved g c =
    let l = c.loop-index in (
      rw c.numbers.ensures
          (one_more_told c.args.rows.now l.answers l.index (omega arith) (omega arith) l.invariant.0 c.tell.result c.tell.ensures.told),
      c.tell.ensures.keeps ∙ l.invariant.1,
    )
