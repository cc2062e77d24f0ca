-- `leg_in_use` meets its contract: written out so that another test is refused by the equation that fails, not by a search that ends.
use Rattle.std.proofs.Common.{ap, ◌||◌, not, eqb, Bool}
use Rattle.srt_group_addition.proofs.handed.leg_in_use.Goals as goal

pub returns : goal.returns
returns c = ap (λ (b : Bool). not b || not (eqb c.args.leg.receiver.reserved 0)) c.queue_is_empty.ensures
