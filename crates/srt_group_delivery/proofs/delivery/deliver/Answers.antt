-- `deliver` meets its contract: the base is not held, or its packet is delivered.
use Rattle.srt_group_delivery.specs.Laws.Poll.{found_held, base_not_held, base_delivered}
use borrow.Author.Rules.{rules}
use Rattle.srt_group_delivery.proofs.delivery.deliver.Goals as goal

pub returns-in_default-clause-by_index : goal.returns-in_default-clause-by_index
returns-in_default-clause-by_index c = search base_not_held

pub deliver_packet-after-requires-clause-held_at : goal.deliver_packet-after-requires-clause-held_at
deliver_packet-after-requires-clause-held_at c = search (rules, found_held)

pub returns-clause-by_index : goal.returns-clause-by_index
returns-clause-by_index c = search base_delivered
