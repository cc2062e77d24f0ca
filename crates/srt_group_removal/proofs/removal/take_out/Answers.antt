-- `take_out` meets its contract: the held packets owned and the row removed are its parts.
use mathlib.Core.Path.{refl, ap}
use Rattle.srt_group_model.specs.Cells.{queue_cells}
use Rattle.srt_group_removal.specs.Laws.Queue.{freed_as}
use Rattle.srt_group_removal.specs.Laws.Removal.{taken_all, taken_and_freed}
use Rattle.srt_group_removal.proofs.removal.take_out.Goals as goal

pub returns-clause-follows : goal.returns-clause-follows
returns-clause-follows c = let whole = taken_and_freed c.requires.there
    (taken_all _ _ _ _ _ _ c.requires.there c.membership_at-membership.ensures c.own_packets.ensures c.remove_member.ensures
    refl c.lowered-core.ensures c.add_account-core.ensures)
    (freed_as (ap queue_cells c.row.ensures) c.free_queue.ensures) in whole.1
