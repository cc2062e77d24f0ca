-- `take_over_backup_flight` meets its contract: each return is one of the three cases of a take-over.
use Rattle.srt_group_backup.specs.Laws.TakeOver.{took_over_nothing, took_over_flight}
use Rattle.std.proofs.Common.{◌∙◌, ap}
use Rattle.srt_group_model.specs.Members.{id_of}
use Rattle.srt_group_tables.specs.Ring.{arrays}
use Rattle.srt_group_backup.proofs.takeover.take_over_backup_flight.Goals as goal

pub returns-then-trimmed-eq0 : goal.returns-then-trimmed-eq0
returns-then-trimmed-eq0 c =
    let args = c.args in
    took_over_nothing _ _ _ _
    c.requires.index_lt_count.0
    args.sending args.history.now.words.ring
    (arrays args.history.now.words.history.now args.history.now.sources.now)
    _ _
    (c.member_id-id.ensures ∙ ap id_of c.row.ensures)
    c.takes_over.ensures
    c.args.history.now.ring_fits
    c.if-not-takes_over.false
    (rw c.rows.ensures.shows at c.trim_by_carrier-trimmed.ensures)
    c.if-trimmed-eq0.true c.align_carrier-outcome-then-trimmed-eq0.ensures

pub returns : goal.returns
returns c =
    let args = c.args in
    took_over_flight _ _ _ _
    c.requires.index_lt_count.0
    args.sending args.history.now.words.ring
    (arrays args.history.now.words.history.now args.history.now.sources.now)
    _ _
    (c.member_id-id.ensures ∙ ap id_of c.row.ensures)
    c.takes_over.ensures
    c.args.history.now.ring_fits
    c.if-not-takes_over.false
    (rw c.rows.ensures.shows at c.trim_by_carrier-trimmed.ensures)
    c.if-trimmed-eq0.false
    c.replay_flight-flight.ensures
