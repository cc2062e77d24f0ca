-- `packet_in` meets its contract: a packet is the one that is given.
use Rattle.std.proofs.Common.{◌∙◌, ap, Some}
use Rattle.srt_group_event_poll.specs.Laws.Polling.{one_in_packet}
use Rattle.srt_group_event_poll.proofs.polls.packet_in.Goals as goal

pub returns-in-Some-Packet : goal.returns-in-Some-Packet
returns-in-Some-Packet c = one_in_packet _ _ (c.in-Some-Packet.is ∙ ap Some (rw c.in-Some-Packet.is at c.in-Some-Packet.field-0-is))
