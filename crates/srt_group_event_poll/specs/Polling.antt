-- The event poll of a valid state: its answer as document 01's, and the packet in it.
use Rattle.std.specs.Prelude.{Option}
use Rattle.srt_group_delivery.specs.declared.delivery.GroupEvent.{GroupEvent}
use Rattle.srt_group_model.specs.Guards.{Answer, polled}
use Rattle.srt_group_model.specs.Lent.{delivered_by}
use Rattle.srt_group_model.specs.declared.Packet.{Packet}
use Rattle.srt_group_delivery.specs.declared.delivery.Poll.{Poll}
use Rattle.srt_group_delivery.specs.Poll.{polled_of}

-- the answer of an event poll: nothing, an event or a packet
abbrev pub answer_of : Poll → Answer
answer_of r = polled (polled_of r.gave)

-- the packet whose payload is written; an event, or nothing, has none
abbrev pub packet_in : Option GroupEvent → Option Packet
packet_in gave = delivered_by (polled (polled_of gave))
