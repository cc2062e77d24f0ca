-- `rows_break_rule` meets its contract. The first loop's invariant: the packets before `at` are good, their cells are marked, and the accounts
-- are theirs. The second's: so are the members before `index`.
use Rattle.std.proofs.Common.{refl, ap, length}
use Rattle.srt_connection_members.specs.Laws.Members.{members_tab}
use native.Mathlib.Omega.{arith}
use Rattle.srt_group_rules.specs.Laws.Sums.{adding_start, place_inside, account_fits, added_one}
use Rattle.srt_group_state.specs.Passes.{is_nothing}
use Rattle.srt_group_state.specs.Laws.Passes.{passing_start, passing_on, placed_is, placed_rules, lowest_start, lowest_on, packet_step, member_step, rows_packet_stopped, rows_own_wrong, rows_member_stopped, rows_passed}
use Rattle.srt_group_state.proofs.passes.rows_break_rule.Goals as goal

pub loop-at-init : goal.loop-at-init
loop-at-init c = (lowest_start _, (passing_start _ _ _ _ _ c.requires.marking, adding_start _ _ _ c.requires.few))

pub returns-in_default : goal.returns-in_default
returns-in_default c = rw (← members_tab c.args.rows.now) (rows_packet_stopped c.args.rows.now (length c.args.rows.now) c.args.pending.now c.args.held c.args.own c.loop-at.invariant.1.0 c.loop-at-test.true (packet_step c.args.rows.now (length c.args.rows.now) c.args.pending.now c.args.held _ c.packet-next.ensures c.loop-at.invariant.0 (rw (← members_tab c.args.rows.now) at c.place_packet-found.ensures)) c.in_default.is)

pub offset_bounds-accounts-place : goal.offset_bounds-accounts-place
offset_bounds-accounts-place c = omega (arith, place_inside c.args.rows.now (length c.args.rows.now) c.args.pending.now _ _ c.requires.few (rw (← members_tab c.args.rows.now) at c.requires.distinct) (λ k below. (c.loop-at.invariant.1.0.goods k below).rules) c.loop-at.invariant.1.1 _ _ _ c.in-Some.is (placed_is (rw (← members_tab c.args.rows.now) at c.place_packet-found.ensures) c.in-Some.is) c.packet-next.ensures)

pub bounds-accounts-place : goal.bounds-accounts-place
bounds-accounts-place c = place_inside c.args.rows.now (length c.args.rows.now) c.args.pending.now _ _ c.requires.few (rw (← members_tab c.args.rows.now) at c.requires.distinct) (λ k below. (c.loop-at.invariant.1.0.goods k below).rules) c.loop-at.invariant.1.1 _ _ _ c.in-Some.is (placed_is (rw (← members_tab c.args.rows.now) at c.place_packet-found.ensures) c.in-Some.is) c.packet-next.ensures

pub reserve_packet-requires : goal.reserve_packet-requires
reserve_packet-requires c = account_fits c.args.rows.now (length c.args.rows.now) c.args.pending.now _ _ c.requires.few (rw (← members_tab c.args.rows.now) at c.requires.distinct) (λ k below. (c.loop-at.invariant.1.0.goods k below).rules) c.loop-at.invariant.1.1 _ _ _ c.in-Some.is (placed_is (rw (← members_tab c.args.rows.now) at c.place_packet-found.ensures) c.in-Some.is) c.packet-next.ensures (placed_rules (rw (← members_tab c.args.rows.now) at c.place_packet-found.ensures) c.in-Some.is) (omega arith)

pub loop-at-preserved : goal.loop-at-preserved
loop-at-preserved c = (lowest_on _ _ _ c.packet-next.ensures, (passing_on c.loop-at.invariant.1.0 c.loop-at-test.true (packet_step c.args.rows.now (length c.args.rows.now) c.args.pending.now c.args.held _ c.packet-next.ensures c.loop-at.invariant.0 (rw (← members_tab c.args.rows.now) at c.place_packet-found.ensures)) (ap is_nothing c.in-Some.is), added_one c.args.rows.now (length c.args.rows.now) c.args.pending.now _ _ c.requires.few (rw (← members_tab c.args.rows.now) at c.requires.distinct) (λ k below. (c.loop-at.invariant.1.0.goods k below).rules) c.loop-at.invariant.1.1 _ _ _ c.in-Some.is (placed_is (rw (← members_tab c.args.rows.now) at c.place_packet-found.ensures) c.in-Some.is) c.packet-next.ensures _ c.reserve_packet.ensures))

pub returns-then-is_unlike : goal.returns-then-is_unlike
returns-then-is_unlike c = rw (← members_tab c.args.rows.now) (rows_own_wrong c.args.rows.now (length c.args.rows.now) c.args.pending.now c.args.held c.args.own c.loop-at.invariant.1.0 c.loop-at.accounts c.loop-at.invariant.1.1 c.loop-at-test.false _ c.is_unlike.ensures c.if-is_unlike.true)

pub loop-index-init : goal.loop-index-init
loop-index-init c = passing_start _ _ _ _ _ c.loop-at.invariant.1.0.marking

pub returns-then-member_breaks_rule : goal.returns-then-member_breaks_rule
returns-then-member_breaks_rule c = rw (← members_tab c.args.rows.now) (rows_member_stopped c.args.rows.now (length c.args.rows.now) c.args.pending.now c.args.held c.args.own c.loop-at.invariant.1.0 c.loop-at.accounts c.loop-at.invariant.1.1 c.loop-at-test.false _ c.is_unlike.ensures c.if-is_unlike.false c.loop-index.invariant c.loop-index-test.true (member_step c.args.rows.now c.loop-at.accounts c.loop-index.index refl c.member_breaks_rule.ensures) c.if-member_breaks_rule.true)

pub loop-index-preserved : goal.loop-index-preserved
loop-index-preserved c = passing_on c.loop-index.invariant c.loop-index-test.true (member_step c.args.rows.now c.loop-at.accounts c.loop-index.index refl c.member_breaks_rule.ensures) c.if-member_breaks_rule.false

pub returns : goal.returns
returns c = rw (← members_tab c.args.rows.now) (rows_passed c.args.rows.now (length c.args.rows.now) c.args.pending.now c.args.held c.args.own c.loop-at.invariant.1.0 c.loop-at.accounts c.loop-at.invariant.1.1 c.loop-at-test.false _ c.is_unlike.ensures c.if-is_unlike.false c.loop-index.invariant c.loop-index-test.false)
