-- `entries_break_rule` meets its contract. The loop's invariant: the entries before `index` are good, and their cells are marked.
use Rattle.std.proofs.Common.{ap, not}
use mathlib.Core.Path.{refl}
use Rattle.srt_group_tables.specs.Ring.{arrays}
use Rattle.srt_group_state.specs.Laws.Passes.{passing_start, passing_on, entry_passed}
use Rattle.srt_group_state.proofs.passes.entries_break_rule.Goals as goal

pub loop-index-init : goal.loop-index-init
loop-index-init c = passing_start _ _ _ _ _ c.requires

pub loop-index-preserved : goal.loop-index-preserved
loop-index-preserved c = passing_on c.loop-index.invariant c.loop-index-test.true (entry_passed c.args.entries.now.words.ring (arrays c.args.entries.now.words.history.now c.args.entries.now.sources.now) _ _ _ _ c.entry_at-entry.ensures _ c.entry_breaks_rule.ensures _ _ c.mark.ensures c.if-entry_breaks_rule.false (ap not c.if-not-mark.false)) refl
