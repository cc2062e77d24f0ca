-- Whose queue is next.
use Rattle.std.specs.Prelude.{Bool, not}
use Rattle.srt_group_model.specs.Tools.{is_empty}
use Rattle.srt_group_model.specs.State.{Member}

-- ---- definitions

unfoldable pub has_event : Member → Bool
has_event m = not (is_empty m.queue)
