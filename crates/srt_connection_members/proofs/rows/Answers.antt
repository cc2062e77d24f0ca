-- `rows` meets its contract: the law `rows_show`.
use Rattle.std.proofs.Common.{◌/◌, length, arith}
use Rattle.srt_connection_queue.specs.Rows.{row_size}
use Rattle.srt_connection_members.specs.Laws.Members.{rows_show}
use Rattle.srt_connection_members.proofs.rows.Goals as goal

pub returns-clause-shows : goal.returns-clause-shows
returns-clause-shows c =
    rw c.as_chunks.ensures.front (rows_show c.args.count (length c.args.members.now / row_size) c.args.members.now (omega arith))
