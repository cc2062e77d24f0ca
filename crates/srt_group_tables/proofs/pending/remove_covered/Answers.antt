-- `remove_covered` meets its contract: written out so that another range is refused by the place that differs, not by a search that ends.
use Rattle.srt_group_tables.specs.Laws.Covered.{covered_removed}
use Rattle.srt_group_tables.proofs.pending.remove_covered.Goals as goal

pub returns : goal.returns
returns c = covered_removed _ _ _ c.args.count c.args.covered c.requires.within c.remove_range.ensures c.remove_range-2.ensures
