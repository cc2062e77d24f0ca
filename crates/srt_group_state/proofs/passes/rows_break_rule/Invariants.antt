-- `rows_break_rule` meets its contract. The first loop's invariant: the packets before `at` are good, their cells are marked, and the accounts
-- are theirs. The second's: so are the members before `index`.
use Rattle.std.proofs.Common.{◌≡◌, length}
use Rattle.srt_group_tables.specs.Packets.{packet_at}
use Rattle.srt_group_rules.specs.Sums.{Adding}
use Rattle.srt_group_state.specs.Laws.Passes.{PassedTo, lowest_at, packet_good, packet_names, member_good, member_names}
use Rattle.srt_group_state.proofs.passes.rows_break_rule.Given as goal

abbrev pub invariant-loop-at : goal.invariant-loop-at
invariant-loop-at l = (l.lowest ≡ lowest_at (packet_at l.pending) l.at) × (PassedTo l.cells (packet_good l.rows (length l.rows) l.pending) (packet_names l.pending) l.held l.initial.used l.at l.used × Adding l.rows (length l.rows) l.pending l.at l.accounts)

abbrev pub invariant-loop-index : goal.invariant-loop-index
invariant-loop-index l = PassedTo l.cells (member_good l.rows l.accounts) (member_names l.rows) (length l.rows) l.initial.used l.index l.used
