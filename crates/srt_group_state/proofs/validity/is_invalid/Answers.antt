-- `is_invalid` meets its contract: the record's numbers, the waiting events, and then one pass over the members and the held packets and one
-- over the history.
use Rattle.srt_group_shown.specs.Tables.{parts, tables}
use Rattle.srt_group_tables.specs.Ring.{arrays, entries_of}
use Rattle.srt_group_state.specs.Laws.Cells.{fresh_marking}
use Rattle.srt_group_state.specs.Laws.Outside.{outside_numbers, outside_waiting}
use Rattle.srt_group_state.specs.Laws.Passes.{passes_answered}
use Rattle.srt_group_state.specs.Laws.Tested.{tested_broken, tested_tables, tested_history}
use Rattle.srt_group_state.proofs.validity.is_invalid.Goals as goal

pub returns-then-numbers_break_rule : goal.returns-then-numbers_break_rule
returns-then-numbers_break_rule c = tested_broken (parts c.args.group.identity c.args.group.core c.args.group.sending c.args.group.ring) (tables c.args.members.now c.args.pending.now c.args.waiting.now c.args.history.now c.args.sources.now) _ _ (outside_numbers c.args.group.identity c.args.group.core c.args.group.sending (entries_of c.args.group.ring (arrays c.args.history.now c.args.sources.now)) c.args.members.now c.args.pending.now c.args.waiting.now _ c.numbers_break_rule.ensures c.if-numbers_break_rule.true)

pub returns-then-waiting_breaks_rule : goal.returns-then-waiting_breaks_rule
returns-then-waiting_breaks_rule c = tested_broken (parts c.args.group.identity c.args.group.core c.args.group.sending c.args.group.ring) (tables c.args.members.now c.args.pending.now c.args.waiting.now c.args.history.now c.args.sources.now) _ _ (outside_waiting c.args.group.identity c.args.group.core c.args.group.sending (entries_of c.args.group.ring (arrays c.args.history.now c.args.sources.now)) c.args.members.now c.args.pending.now c.args.waiting.now _ c.waiting_breaks_rule.ensures c.if-waiting_breaks_rule.true)

pub tables_break_rule-requires-clause-marking : goal.tables_break_rule-requires-clause-marking
tables_break_rule-requires-clause-marking c = fresh_marking _ _ c.requires.cells_le_max_cells c.clear.ensures

pub returns-then-tables_break_rule : goal.returns-then-tables_break_rule
returns-then-tables_break_rule c = tested_tables (parts c.args.group.identity c.args.group.core c.args.group.sending c.args.group.ring) (tables c.args.members.now c.args.pending.now c.args.waiting.now c.args.history.now c.args.sources.now) _ _ _ c.numbers_break_rule.ensures c.if-numbers_break_rule.false c.waiting_breaks_rule.ensures c.if-waiting_breaks_rule.false _ c.clear.ensures _ (passes_answered c.if-tables_break_rule.true c.tables_break_rule.ensures)

pub returns : goal.returns
returns c = tested_history (parts c.args.group.identity c.args.group.core c.args.group.sending c.args.group.ring) (tables c.args.members.now c.args.pending.now c.args.waiting.now c.args.history.now c.args.sources.now) _ _ _ c.numbers_break_rule.ensures c.if-numbers_break_rule.false c.waiting_breaks_rule.ensures c.if-waiting_breaks_rule.false _ c.clear.ensures _ _ _ (passes_answered c.if-tables_break_rule.false c.tables_break_rule.ensures) c.history_breaks_rule.ensures
