-- `covered_places` meets its contract: behind the end of each walk nothing more is covered.
use Rattle.srt_group_tables.specs.Laws.Covered.{places_covered}
use Rattle.srt_group_tables.proofs.pending.covered_places.Goals as goal

pub returns : goal.returns
returns c =
    places_covered _ _ _ _ _ c.requires.pending_value c.requires.small c.requires.placed _ _ c.covered_until-low.ensures c.covered_until-end.ensures
