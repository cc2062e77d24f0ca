-- `advance_receive_sequence_at` meets its contract: the row that is lent and comes back is changed, and no other (`changed_lent`).
use Rattle.std.proofs.Common.{rules}
use Rattle.srt_group_model.specs.State.{on_leg}
use Rattle.srt_group_model.specs.Legs.{advance_receive_sequence}
use Rattle.srt_connection_members.specs.Laws.Members.{changed_lent}
use Rattle.srt_connection_members.proofs.advance_receive_sequence_at.Goals as goal

pub returns : goal.returns
returns c = changed_lent c.args.index c.args.members.now _ c.requires c.with_row.ensures (on_leg (advance_receive_sequence c.args.sequence)) (λ row left called. search rules)
