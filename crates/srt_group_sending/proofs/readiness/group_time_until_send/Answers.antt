-- `group_time_until_send` meets its contract: the least of the waits.
use Rattle.std.proofs.Common.{◌∙◌, rules}
use Rattle.std.proofs.lemmas.Iterator.{YieldsList-from_slice}
use Rattle.std.proofs.lemmas.Iterator.Consumers.{YieldsList-from_filter_map, min_from_yields_List}
use Rattle.srt_connection_queue.specs.Rows.{member_of}
use Rattle.srt_group_sending.specs.Readiness.{wait_of}
use Rattle.srt_group_sending.specs.Laws.Readiness.{least_wait}
use Rattle.srt_group_sending.proofs.readiness.group_time_until_send.Goals as goal

pub returns : goal.returns
returns c =
    c.unwrap_or.ensures ∙ least_wait _ _ _
    (min_from_yields_List _ _ c.min.ensures.ran
    (YieldsList-from_filter_map _ (λ row. wait_of c.args.time.0 (member_of row)) (YieldsList-from_slice c.args.rows.now cc)
    c.filter_map.ensures.closure (λ x r q k. search rules)))
