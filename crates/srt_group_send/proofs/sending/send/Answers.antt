-- `send` meets its contract: 4, 30, or a send with the cell that was looked for, into which the payload goes.
use mathlib.Core.Path.{refl, subst}
use Prim.Native.Nat.{ℕ}
use native.Mathlib.Omega.{arith}
use Rattle.std.specs.Prelude.{None}
use Rattle.cell_set.specs.Sets.{LowestFree}
use Rattle.srt_group_send.specs.Laws.Performed.{send_lendable, send_fit, few_members, long_refused, full_refused, cell_by_mode, without_cell, taken_storable, with_cell}
use Rattle.srt_group_send.proofs.sending.send.Goals as goal

pub returns-then-payload-gt-CELL : goal.returns-then-payload-gt-CELL
returns-then-payload-gt-CELL c =
    rw c.refused.ensures (long_refused _ _ _ _ _ _ _ c.requires.ready c.requires.list_size_in_bounds (omega (arith, c.well_formed)) c.if-payload-gt-CELL.true)

pub returns-in-Err : goal.returns-in-Err
returns-in-Err c =
    let none = c.in-Err.ensures in
    rw (c.refused-in-Err.ensures, none.0)
    (full_refused _ _ _ _ _ _ _ c.requires.ready c.requires.list_size_in_bounds (omega (arith, c.well_formed)) c.if-payload-gt-CELL.false none.1.0
    (subst (λ (n : ℕ). LowestFree c.args.used.now n None) c.cells_of.ensures none.1.1) refl)

pub refresh_and_send-sent-requires : goal.refresh_and_send-sent-requires
refresh_and_send-sent-requires c =
    let ready = c.requires.ready in
    let taken = cell_by_mode c.args.group.now.core.mode c.cells_of.result c.args.used.now c.in-Ok.cell (omega (arith, c.cells_of.ensures)) c.in-Ok.ensures in
    record { lendable = send_lendable ready _ c.requires.list_size_in_bounds; fit_shown = send_fit ready _ c.requires.list_size_in_bounds; members_le_max_members = (few_members ready c.args.list.now c.requires.list_size_in_bounds, (taken, omega (arith, c.if-payload-gt-CELL.false))) }

pub returns-in_default : goal.returns-in_default
returns-in_default c =
    without_cell _ _ _ _ _ _ _ c.requires.ready c.requires.list_size_in_bounds (omega (arith, c.well_formed)) _ c.cells_of.ensures c.in-Ok.cell c.in-Ok.ensures
    c.if-payload-gt-CELL.false c.in_default.is c.refresh_and_send-sent.ensures

pub store_sent-requires : goal.store_sent-requires
store_sent-requires c =
    taken_storable c.args.time.0 _ _ _ _ c.args.list.now _ c.requires.ready c.requires.list_size_in_bounds (omega (arith, c.well_formed)) _ c.cells_of.ensures c.in-Ok.cell
    c.in-Ok.ensures c.if-payload-gt-CELL.false c.in-Some.taken c.in-Some.is

pub returns : goal.returns
returns c =
    with_cell _ _ _ _ _ _ _ c.requires.ready c.requires.list_size_in_bounds (omega (arith, c.well_formed)) _ c.cells_of.ensures c.in-Ok.cell c.in-Ok.ensures
    c.if-payload-gt-CELL.false c.in-Some.taken c.in-Some.is c.refresh_and_send-sent.ensures c.store_sent.ensures c.store_sent.auto.store
