-- `Group::new` meets its contract: 2 comes first.
use Rattle.srt_group.specs.Laws.Made.{new_unfit}
use Rattle.srt_group.proofs.Group.new.Goals as goal

pub returns-then-making_out_of_range : goal.returns-then-making_out_of_range
returns-then-making_out_of_range c =
    let a = c.args in
    new_unfit record { id = a.id; mode = a.mode; length = a.length } c.making_out_of_range.ensures c.if-making_out_of_range.true
