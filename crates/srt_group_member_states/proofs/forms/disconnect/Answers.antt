-- `disconnect` meets its contract: what follows 5 and 6, in a state that is ready.
use native.Mathlib.Omega.{arith}
use Rattle.srt_group_shown.specs.Laws.Steps.{rows_there, unbroken_of, nothing_delivered, performs_keeping}
use Rattle.srt_group_member_states.specs.Laws.States.{disconnected}
use Rattle.srt_group_member_states.proofs.forms.disconnect.Goals as goal

pub disconnect_all-requires : goal.disconnect_all-requires
disconnect_all-requires c = rows_there c.requires

pub returns : goal.returns
returns c =
    performs_keeping c.requires nothing_delivered
    (disconnected _ _ _ (unbroken_of c.requires) (omega (arith, c.well_formed.1.1.1.1.1.1.1.1)) _ c.disconnect_all.ensures)
