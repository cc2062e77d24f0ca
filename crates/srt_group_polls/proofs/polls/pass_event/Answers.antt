-- `pass_event` meets its contract where it ends the data poll: nothing, or a packet.
use Rattle.std.proofs.Common.{◌∙◌, ap, Some}
use Rattle.srt_group_polls.specs.Laws.DataPoll.{ends_with_nothing, ends_with_packet}
use Rattle.srt_group_polls.proofs.polls.pass_event.Goals as goal

pub returns-in-None : goal.returns-in-None
returns-in-None c = ends_with_nothing _ c.in-None.is

pub returns-in-Some-Packet : goal.returns-in-Some-Packet
returns-in-Some-Packet c = ends_with_packet _ _ (c.in-Some-Packet.is ∙ ap Some (rw c.in-Some-Packet.is at c.in-Some-Packet.field-0-is))
