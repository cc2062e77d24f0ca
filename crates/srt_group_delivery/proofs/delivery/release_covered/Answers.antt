-- `release_covered` meets its contract: the packets beyond the wrap are released, then those from the base on.
use Rattle.srt_group_delivery.specs.Laws.Delivery.{released_then}
use Rattle.srt_group_delivery.specs.Laws.UsedByDelivery.{freed_packets}
use Rattle.srt_group_delivery.proofs.delivery.release_covered.Goals as goal

pub returns : goal.returns
returns c = record { released = released_then c.release_range-begun.ensures.released c.release_range.ensures.released; freed = freed_packets _ _ c.release_range-begun.ensures.freed c.release_range.ensures.freed }
