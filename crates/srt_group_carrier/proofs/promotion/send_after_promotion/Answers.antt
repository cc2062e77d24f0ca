-- `send_after_promotion` meets its contract: 27 with no active member, or what the promoted one gives.
use mathlib.Core.Path.{ap, sym, ◌∙◌}
use native.Mathlib.Omega.{arith}
use Rattle.srt_group_model.specs.Members.{is_active, first_active}
use Rattle.srt_group_members.specs.Laws.Scan.{found_row}
use Rattle.srt_group_carrier.specs.Laws.Flows.{lendable_with, none_promoted, promoted_flows}
use Rattle.srt_group_carrier.proofs.promotion.send_after_promotion.Goals as goal

pub returns-in_default : goal.returns-in_default
returns-in_default c =
    none_promoted _ _ _ _ _ _ _ _ _ _ _ c.promote_after_failure.ensures (cc) c.requires.sendable.lent (omega (arith, c.requires.sent_bound.0))

pub send_on_promoted-requires-clause-sendable : goal.send_on_promoted-requires-clause-sendable
send_on_promoted-requires-clause-sendable c = let found = sym c.in-Some.is ∙ (c.first_active-found.ensures ∙ ap first_active c.rows.ensures.shows) in record { below = found_row is_active _ _ _ found; lent = lendable_with _ c.requires.sendable.lent c.promote_after_failure.ensures.long }

pub returns : goal.returns
returns c =
    let found = sym c.in-Some.is ∙ (c.first_active-found.ensures ∙ ap first_active c.rows.ensures.shows) in
    promoted_flows _ _ _ _ _ _ _ _ _ _ _ c.promote_after_failure.ensures _ found c.send_on_promoted.ensures
