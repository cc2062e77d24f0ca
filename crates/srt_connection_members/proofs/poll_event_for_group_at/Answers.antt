-- `poll_event_for_group_at` meets its contract: the row that is lent and comes back is changed, and no other (`polled_lent`).
use Rattle.std.proofs.Common.{rules}
use Rattle.srt_connection_members.specs.Laws.Members.{polled_lent}
use Rattle.srt_connection_members.proofs.poll_event_for_group_at.Goals as goal

pub returns : goal.returns
returns c = polled_lent c.args.index c.args.members.now _ c.requires c.with_row.ensures c.args.budget _ (λ row left called. search rules)
