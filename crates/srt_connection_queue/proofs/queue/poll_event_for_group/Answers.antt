-- `poll_event_for_group` meets its contract: one law for each of document 01's three cases.
use mathlib.Core.Path.{sym, ◌∙◌}
use native.Mathlib.Omega.{arith}
use Rattle.srt_connection_queue.specs.Laws.Queue.{poll_empty, poll_spent, poll_given}
use Rattle.srt_connection_queue.proofs.queue.poll_event_for_group.Goals as goal

pub returns-in_default : goal.returns-in_default
returns-in_default c =
    poll_empty c.args.row.now c.told-row
    c.args.budget
    (sym c.in_default.is ∙ c.front-first.ensures)

pub returns-then-budget-eq0 : goal.returns-then-budget-eq0
returns-then-budget-eq0 c =
    poll_spent c.args.row.now
    c.told-row
    c.args.budget _
    (sym c.in-Some.is ∙ c.front-first.ensures) (omega arith)

pub returns : goal.returns
returns c =
    poll_given
    c.args.row.now
    c.args.budget _ _ _
    (sym c.in-Some.is ∙
    c.front-first.ensures)
    (λ e. omega (arith, c.if-budget-eq0.false)) c.budget_after.ensures
    c.pop.ensures
