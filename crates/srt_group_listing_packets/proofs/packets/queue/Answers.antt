-- `queue` meets its contract, for a byte above 255 too.
use native.Mathlib.Omega.{arith}
use Rattle.srt_group_traces.specs.VerbCalls.{queueing}
use Rattle.srt_group_listing.specs.Laws.Telling.{tells_queueing}
use Rattle.srt_group_listing.specs.Laws.Verbs.{byte_fits, byte_refused}
use borrow.Author.Rules.{rules}
use Rattle.srt_group_listing_packets.proofs.packets.queue.Goals as goal

pub returns-in_default : goal.returns-in_default
returns-in_default c = byte_refused (queueing c.args.line.now) (omega (arith, c.in_default.ensures)) c.requires c.outcome_line.ensures

pub returns : goal.returns
returns c =
    byte_fits (queueing c.args.line.now) (omega (arith, c.in-Ok.ensures.0))
    (tells_queueing c.args.line.now c.data_of_line.ensures (search rules) (search rules) c.outcome_line-2.ensures c.queue_data-outcome.ensures)
