-- `srt_group_raw_has_pending_data` meets its contract: that of the look by value.
use Rattle.srt_group_c_looks.specs.Laws.Look.{look_promised, looked_at}
use Rattle.srt_group_c_looks_c.proofs.looks.srt_group_raw_has_pending_data.Goals as goal

pub returns : goal.returns
returns c =
    look_promised _ _ _ _ _ _ _ c.look.ensures.few_words c.look.ensures.no_room c.look.ensures.shows
    (λ lent r gave. looked_at _ _ _ gave)
