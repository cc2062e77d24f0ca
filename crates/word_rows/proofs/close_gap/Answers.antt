-- `close_gap` meets its contract: written out so that words moved otherwise are refused by the place that differs, not by a search that ends.
use Rattle.std.proofs.Common.{ap, ◌∙◌, ℕ, get_or, arith}
use Rattle.word_rows.proofs.close_gap.Goals as goal

pub returns : goal.returns
returns c =
    record {
      long = c.copy_within.ensures.len;
      low = λ k below. c.copy_within.ensures.by_index.1 k 0 below;
      high = λ k above below. c.copy_within.ensures.by_index.0 k 0 above (omega arith) ∙ ap (λ (n : ℕ). get_or c.args.words.now n 0) (omega arith);
    }
