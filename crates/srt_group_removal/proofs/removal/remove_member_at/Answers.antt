-- `remove_member_at` meets its contract: the member taken out, the limit, the base and what is retired are its parts.
use mathlib.Core.Path.{ap, ◌∙◌}
use Rattle.srt_group_model.specs.Removal.{largest_window}
use Rattle.srt_group_removal.specs.Laws.Removal.{taken_held, removed_all, removed_and_followed}
use Rattle.srt_group_removal.proofs.removal.remove_member_at.Goals as goal

pub retirement_base-base-requires : goal.retirement_base-base-requires
retirement_base-base-requires c = search taken_held

pub bound_group_owned_pending-after-requires-clause-held : goal.bound_group_owned_pending-after-requires-clause-held
bound_group_owned_pending-after-requires-clause-held c = taken_held _ _ _ _ c.requires _ _ _ c.take_out-taken.ensures.takes_out

pub returns : goal.returns
returns c =
    let may = c.requires in let whole = removed_and_followed _ _ _ _ may _ _ _ c.take_out-taken.ensures.takes_out
    (removed_all _ _ _ _ may _ _ _ c.take_out-taken.ensures.takes_out _ _ c.leg_at-leg.ensures (c.largest_window-limit.ensures ∙ ap (largest_window c.leg_at-leg.result.receiver.window) c.rows.ensures.shows) c.retirement_base-base.ensures.value
    c.bound_group_owned_pending-after.ensures.retires)
    c.take_out-taken.ensures.follows c.bound_group_owned_pending-after.ensures.follows_held in record { removes = whole.0; follows = whole.1 }
