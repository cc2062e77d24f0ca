-- `send_on` meets its contract.
use Rattle.std.proofs.Common.{◌∙◌, ap}
use Rattle.srt_group_model.specs.Members.{id_of}
use Rattle.srt_group_sending.specs.Laws.OwnSend.{own_not_sent, own_sent}
use Rattle.srt_group_sending.proofs.own.send_on.Goals as goal

pub returns-in_default : goal.returns-in_default
returns-in_default c = search own_not_sent

pub returns : goal.returns
returns c =
    own_sent _ _ _ _ _ _ _ c.leg_at.ensures c.send_shared_with_sequence-result.ensures _ c.in-Some.is (c.member_id-id.ensures ∙ ap id_of c.row.ensures)
    c.put_leg_at.ensures (rw c.own.ensures at c.write_sent.ensures)
