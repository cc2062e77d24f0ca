-- `is_covered` meets its contract: written out so that another comparison is refused by the equation that fails, not by a search that ends.
use Rattle.std.proofs.Common.{ap, ltb, ℕ}
use Rattle.srt_group_tables.proofs.pending.is_covered.Goals as goal

pub returns : goal.returns
returns c = ap (λ (n : ℕ). ltb n c.args.run) c.word_distance.ensures
