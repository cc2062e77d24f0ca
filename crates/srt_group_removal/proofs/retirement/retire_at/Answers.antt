-- `retire_at` meets its contract: what is removed at the place is what the definition takes out by its sequence.
use Rattle.srt_group_removal.specs.Laws.Retire.{retired_one, retired_and_freed}
use Rattle.srt_group_removal.proofs.retirement.retire_at.Goals as goal

pub returns-clause-follows_held : goal.returns-clause-follows_held
returns-clause-follows_held c = let whole = retired_and_freed _ _ _ c.requires.held c.requires.at_lt_pending (search retired_one) c.packet-packet.ensures
    c.free.ensures in whole.1
