-- What the measurement keeps to.
use Rattle.std.specs.Prelude.{ℕ, ◌≤◌}
use Rattle.srt_group_model.specs.Backup.{max_history}
use Rattle.srt_group_tables.specs.Ring.{Arrays, Long}

-- so many entries fit a ring over arrays of max-history places
pub record InArrays (entries : ℕ) (a : Arrays) : Type 0 where
  pub fits : entries ≤ max_history
  pub long : Long a
