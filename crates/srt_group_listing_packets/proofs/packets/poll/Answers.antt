-- `poll` meets its contract.
use Rattle.srt_group_listing.specs.Laws.Telling.{tells_poll}
use Rattle.srt_group_listing_packets.proofs.packets.poll.Goals as goal

pub returns : goal.returns
returns c =
    tells_poll c.args.line.now c.requires.output_len c.packet_line.ensures c.poll_data_bounded-polled.ensures
