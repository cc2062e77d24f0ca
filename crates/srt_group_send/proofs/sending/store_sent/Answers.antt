-- `store_sent` meets its contract.
use mathlib.Core.Path.{sym, ◌∙◌}
use Rattle.srt_group_send.specs.Laws.Performed.{stored_sent}
use Rattle.srt_group_send.proofs.sending.store_sent.Goals as goal

pub returns-then-is_ok : goal.returns-then-is_ok
returns-then-is_ok c =
    stored_sent _ _ _ _ c.requires (sym c.is_ok.ensures.value ∙ c.if-is_ok.true) c.put_payload.ensures
