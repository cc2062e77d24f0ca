-- `sent` keeps to the ring.
use Rattle.std.proofs.Common.{arith, rules}
use Rattle.table_bench.specs.Laws.Made.{pushed_fits}
use Rattle.table_bench.proofs.sent.Goals as goal

pub returns-then-sequence-kept : goal.returns-then-sequence-kept
returns-then-sequence-kept c = search (rules, pushed_fits)

pub returns : goal.returns
returns c =
    record {
      fits = omega (arith, c.drop_before.ensures.fits, pushed_fits _ _ c.push_back-longer.ensures c.requires.in_arrays.fits);
      long = search rules;
    }
