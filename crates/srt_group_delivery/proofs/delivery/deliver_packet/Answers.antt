-- `deliver_packet` meets its contract: what is released, advanced and removed are its parts.
use Rattle.srt_group_delivery.specs.Laws.Delivery.{delivered_all}
use Rattle.srt_group_delivery.specs.Laws.UsedByDelivery.{delivered_and_freed}
use Rattle.srt_group_delivery.proofs.delivery.deliver_packet.Goals as goal

pub returns : goal.returns
returns c =
    let covers = c.covered_places-covered.ensures in let whole = delivered_and_freed _ _ _ _ _ _ _ _ _ _ _ (search delivered_all) covers (search) in record { delivered = whole.0; follows = whole.1 }
