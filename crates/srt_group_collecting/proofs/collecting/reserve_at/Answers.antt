-- `reserve_at` meets its contract: the account that is put is the one that was there with the count added.
use mathlib.Core.Path.{ap, ◌∙◌}
use Rattle.srt_connection_members.specs.Laws.Members.{account_changed}
use Rattle.srt_group_model.specs.Accounts.{reserve}
use Rattle.srt_group_collecting.proofs.collecting.reserve_at.Goals as goal

pub returns : goal.returns
returns c =
    let count = c.args.count in
    account_changed (reserve count) c.put_account_at.ensures
    (c.reserve_packet-account.ensures ∙ ap (reserve count) c.account_at.ensures)
