-- `outranks` meets its contract: written out so that another order is refused by the equation that fails, not by a search that ends.
use Rattle.std.proofs.Common.{refl}
use Rattle.srt_group_model.specs.Members.{outranks}
use Rattle.srt_group_members.proofs.promotion.outranks.Goals as goal

pub returns : goal.returns
unfolding outranks
returns c = rw (c.membership-first.ensures, c.membership-second.ensures) refl
