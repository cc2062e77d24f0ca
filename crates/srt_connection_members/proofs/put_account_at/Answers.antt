-- `put_account_at` meets its contract: the row that is lent and comes back is changed, and no other (`changed_lent`).
use Rattle.std.proofs.Common.{rules}
use Rattle.srt_group_model.specs.State.{on_membership, with_account}
use Rattle.srt_connection_members.specs.Laws.Members.{changed_lent}
use Rattle.srt_connection_members.proofs.put_account_at.Goals as goal

pub returns : goal.returns
returns c = changed_lent c.args.index c.args.members.now _ c.requires c.with_row.ensures (on_membership (with_account c.args.account)) (λ row left called. search rules)
