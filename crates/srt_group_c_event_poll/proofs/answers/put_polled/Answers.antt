-- `put_polled` meets its contract, for an event and for a packet; of nothing the check finds it.
use Rattle.std.proofs.Common.{◌∙◌, ap, Some}
use Rattle.srt_group_c_event_poll.specs.Laws.Answers.{says_event, says_packet}
use Rattle.srt_group_c_event_poll.proofs.answers.put_polled.Goals as goal

pub returns-in-Some-Event : goal.returns-in-Some-Event
returns-in-Some-Event c = says_event _ _ _ (c.in-Some-Event.is ∙ ap Some (rw c.in-Some-Event.is at c.in-Some-Event.field-0-is)) c.put-in-Some-Event.ensures

pub returns-in-Some-Packet : goal.returns-in-Some-Packet
returns-in-Some-Packet c = says_packet _ _ _ (c.in-Some-Packet.is ∙ ap Some (rw c.in-Some-Packet.is at c.in-Some-Packet.field-0-is)) c.put_packet.ensures
