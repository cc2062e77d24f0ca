-- `refresh_and_send` meets its contract: 23, or the send of the mode.
use mathlib.Core.Path.{ap, ◌∙◌}
use Rattle.srt_group_model.specs.Sending.{above_limit}
use Rattle.srt_group_send.specs.Laws.Sends.{numbers_refreshed, limit_made, mode_made}
use Rattle.srt_group_send.proofs.sending.refresh_and_send.Goals as goal

pub returns-then-above_limit : goal.returns-then-above_limit
returns-then-above_limit c =
    rw c.refused.ensures
    (limit_made _ _ _ _ c.refresh_states-core.ensures _ _ _ (c.above_limit.ensures ∙ ap (above_limit c.args.size) c.rows.ensures.shows) c.if-above_limit.true c.requires.lendable)

pub send_mode-sent-requires-clause-numbers_fit : goal.send_mode-sent-requires-clause-numbers_fit
send_mode-sent-requires-clause-numbers_fit c = numbers_refreshed c.args.group.now _ _ _ c.refresh_states-core.ensures c.requires.fit_shown

pub returns : goal.returns
returns c =
    mode_made _ _ _ _ c.refresh_states-core.ensures _ _ _ (c.above_limit.ensures ∙ ap (above_limit c.args.size) c.rows.ensures.shows) c.if-above_limit.false c.send_mode-sent.ensures c.legs_sent.ensures
