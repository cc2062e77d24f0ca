-- `push_at` meets its contract: the row that is lent and comes back is changed, and no other (`pushed_lent`).
use Rattle.std.proofs.Common.{rules}
use Rattle.srt_connection_members.specs.Laws.Members.{pushed_lent}
use Rattle.srt_connection_members.proofs.push_at.Goals as goal

pub returns : goal.returns
returns c = pushed_lent c.args.index c.args.members.now _ c.requires c.with_row.ensures c.args.event _ (λ row left called. search rules)
