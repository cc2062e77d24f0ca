-- Document 01's rules of a valid state, row by row of the lent tables: the model's tests of one row, together.
use Rattle.std.specs.Prelude.{Bool, ◌||◌, List, eqb, length}
use Rattle.srt_group_model.specs.Tools.{if_true◌then◌else◌, any}
use Rattle.srt_group_model.specs.State.{Member}
use Rattle.srt_group_model.specs.Backup.{max_history}
use Rattle.srt_group_model.specs.Legs.{largest_16}
use Rattle.srt_group_model.specs.Validity.{above, max_queued, is_too_large, leg_sequence_too_large, event_sequence_too_large, event_out_of_range, leg_out_of_range, membership_out_of_range, packet_out_of_range, entry_out_of_range}
use Rattle.srt_group_model.specs.declared.Event.{Event}
use Rattle.srt_group_model.specs.declared.Leg.{Leg}
use Rattle.srt_group_model.specs.declared.Packet.{Packet}
use Rattle.srt_group_model.specs.declared.Sender.{Sender}
use Rattle.srt_group_model.specs.declared.Entry.{Entry}

-- ---- a part of a leg

unfoldable pub flight_out_of_range : Sender → Bool
flight_out_of_range x = above (if_true eqb x.started 1 then largest_16 else 0) x.flight

-- ---- a whole row

unfoldable pub event_breaks_rule : Event → Bool
event_breaks_rule e = event_sequence_too_large e || event_out_of_range e

unfoldable pub queue_breaks_rule : List Event → Bool
queue_breaks_rule q = above max_queued (length q) || any event_breaks_rule q

unfoldable pub leg_breaks_rule : Leg → Bool
leg_breaks_rule l = leg_sequence_too_large l || leg_out_of_range l

unfoldable pub member_breaks_rule : Member → Bool
member_breaks_rule m = membership_out_of_range m.membership || (leg_breaks_rule m.leg || queue_breaks_rule m.queue)

unfoldable pub packet_breaks_rule : Packet → Bool
packet_breaks_rule p = is_too_large p.content.sequence || packet_out_of_range p

unfoldable pub entry_breaks_rule : Entry → Bool
entry_breaks_rule e = is_too_large e.sequence || entry_out_of_range e

unfoldable pub history_breaks_rule : List Entry → Bool
history_breaks_rule es = above max_history (length es) || any entry_breaks_rule es
