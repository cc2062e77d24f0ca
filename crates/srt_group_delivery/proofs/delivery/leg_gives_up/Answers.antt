-- `leg_gives_up` meets its contract: the row with the id, or else the first, is asked.
use Rattle.std.proofs.Common.{rules}
use Rattle.std.proofs.lemmas.Iterator.{YieldsList-from_slice}
use Rattle.srt_group_model.specs.Members.{has_id}
use Rattle.srt_group_members.specs.Laws.Scan.{found_in}
use Rattle.srt_group_delivery.specs.Laws.Delivery.{leg_asked}
use Rattle.srt_group_delivery.proofs.delivery.leg_gives_up.Goals as goal

pub returns : goal.returns
returns c =
    let a = c.args in
    leg_asked _ _ _ _ _ (found_in (has_id a.packet.member) _ _ _ c.find.ensures.ran (YieldsList-from_slice a.rows.now cc) (λ x b q h. search rules))
    c.first.ensures.value c.or.ensures (search rules)
