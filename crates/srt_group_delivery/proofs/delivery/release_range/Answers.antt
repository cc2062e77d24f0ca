-- `release_range` meets its contract. The loop's invariant: the packets before `at` are released, and their cells free.
use Rattle.srt_group_delivery.specs.Laws.Delivery.{released_start, released_on}
use Rattle.srt_group_delivery.specs.Laws.UsedByDelivery.{freed_start, freed_on}
use borrow.Author.Rules.{rules}
use Rattle.srt_group_delivery.proofs.delivery.release_range.Goals as goal

pub loop-at-init : goal.loop-at-init
loop-at-init c = let long = c.told-used in search (rules, released_start, freed_start)

pub loop-at-preserved : goal.loop-at-preserved
loop-at-preserved c = search (rules, released_on, freed_on)
