-- `bound_group_owned_pending` meets its contract: a walk below the base, and one over all.
use Rattle.srt_group_removal.specs.Laws.Retire.{second_reachable, bounded_downward, held_follows_then}
use Rattle.srt_group_removal.proofs.retirement.bound_group_owned_pending.Goals as goal

pub retire_downward-requires-clause-reachable : goal.retire_downward-requires-clause-reachable
retire_downward-requires-clause-reachable c = second_reachable c.retire_downward-wrapped.ensures.retires_downward c.requires.base_le_largest_sequence

pub returns : goal.returns
returns c = record { retires = bounded_downward c.retire_downward-wrapped.ensures.retires_downward c.retire_downward.ensures.retires_downward; follows_held = held_follows_then c.retire_downward-wrapped.ensures.follows_held c.retire_downward.ensures.follows_held }
