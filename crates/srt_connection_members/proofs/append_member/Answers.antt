-- `append_member` meets its contract: the row that is lent and comes back is changed, and no other (`appended_lent`).
use Rattle.std.proofs.Common.{rules}
use Rattle.srt_connection_members.specs.Members.{new_member}
use Rattle.srt_connection_members.specs.Laws.Members.{appended_lent}
use Rattle.srt_connection_members.proofs.append_member.Goals as goal

pub returns : goal.returns
returns c = appended_lent c.args.count c.args.members.now _ c.requires c.with_row.ensures (new_member c.args.membership c.args.leg) (λ row left called. search rules)
