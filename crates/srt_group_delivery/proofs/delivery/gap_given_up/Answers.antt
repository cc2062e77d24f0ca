-- `gap_given_up` meets its contract where the nearest packet's leg is asked.
use Rattle.std.proofs.Common.{◌∙◌, ap}
use Rattle.srt_group_model.specs.Tools.{all}
use Rattle.srt_group_model.specs.State.{Member}
use Rattle.srt_group_model.specs.Legs.{is_disconnected}
use Rattle.srt_group_model.specs.Delivery.{leg_gives_up}
use Rattle.srt_group_delivery.specs.Laws.Delivery.{left_to_the_leg}
use Rattle.srt_group_delivery.proofs.delivery.gap_given_up.Goals as goal

pub returns : goal.returns
returns c =
    let shows = c.rows-rows.ensures.shows in
    let not_all = c.all_disconnected.ensures ∙ ap (all (λ (m : Member). is_disconnected m.leg)) shows in
    let asked = c.leg_gives_up.ensures ∙ ap (leg_gives_up c.args.time.0 c.packet-nearest_held.result) shows in search left_to_the_leg
