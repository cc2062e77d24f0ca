-- `send` meets its contract, for a byte above 255 too.
use Rattle.srt_group_traces.specs.VerbCalls.{sending}
use Rattle.srt_group_listing.specs.Laws.Telling.{tells_send}
use Rattle.srt_group_listing.specs.Laws.Verbs.{byte_fits, byte_refused}
use borrow.Author.Rules.{rules}
use Rattle.srt_group_listing_packets.proofs.packets.send.Goals as goal

pub returns-in_default : goal.returns-in_default
returns-in_default c = byte_refused (sending c.args.line.now) (search rules) c.requires.ready c.outcome_line.ensures

pub returns : goal.returns
returns c =
    byte_fits (sending c.args.line.now) (search rules)
    (tells_send c.args.line.now c.requires.list_len (search rules) (search rules) c.sent_line.ensures c.send-sent.ensures)
