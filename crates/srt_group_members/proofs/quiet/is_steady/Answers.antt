-- `is_steady` meets its contract: written out so that another test is refused by the equation that fails, not by a search that ends.
use Rattle.std.proofs.Common.{refl}
use Rattle.srt_group_members.specs.Quiet.{is_steady}
use Rattle.srt_group_members.proofs.quiet.is_steady.Goals as goal

pub returns : goal.returns
unfolding is_steady
returns c = rw (c.member_state-state.ensures, c.link_state-link.ensures, c.admitted-admitted.ensures) refl
