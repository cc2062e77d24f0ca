-- `entries_break_rule` meets its contract. The loop's invariant: the entries before `index` are good, and their cells are marked.
use Rattle.srt_group_tables.specs.Ring.{arrays}
use Rattle.srt_group_state.specs.Laws.Passes.{PassedTo, entry_good, entry_names}
use Rattle.srt_group_state.proofs.passes.entries_break_rule.Given as goal

abbrev pub invariant-loop-index : goal.invariant-loop-index
invariant-loop-index l = PassedTo l.cells (entry_good l.entries.words.ring (arrays l.entries.words.history.now l.entries.sources.now)) (entry_names l.entries.words.ring (arrays l.entries.words.history.now l.entries.sources.now)) l.entries.words.ring.length l.initial.used l.index l.used
