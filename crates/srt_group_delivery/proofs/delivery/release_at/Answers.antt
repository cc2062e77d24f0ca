-- `release_at` meets its contract: the account is put with less, then the leg is released.
use Rattle.srt_group_delivery.specs.Laws.Delivery.{member_released}
use Rattle.srt_group_delivery.proofs.delivery.release_at.Goals as goal

pub returns : goal.returns
returns c = search member_released
