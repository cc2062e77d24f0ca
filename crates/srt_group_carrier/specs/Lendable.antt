-- The tables that a Backup send is lent, and what its parts may rely on.
use Rattle.std.specs.Prelude.{◌≡◌, List, ℕ, ◌*◌, ◌≤◌, ◌<◌, length}
use Rattle.srt_group_model.specs.Tools.{All}
use Rattle.srt_group_model.specs.State.{Member, Send}
use Rattle.srt_group_model.specs.Legs.{largest_sequence}
use Rattle.srt_group_model.specs.Sending.{list_size}
use Rattle.srt_group_model.specs.Backup.{max_history}
use Rattle.srt_group_model.specs.Sound.{AllFit, EntryFit}
use Rattle.srt_connection_queue.specs.Rows.{row_size}
use Rattle.srt_group_tables.specs.declared.history.HistoryRing.{HistoryRing}
use Rattle.srt_group_tables.specs.Ring.{Arrays, arrays, Long}
use Rattle.cell_set.specs.Bits.{set_size}

-- the tables that a Backup send moves
pub record BackupTables : Type 0 where
  pub members : List ℕ
  pub history : List ℕ
  pub sources : List ℕ
  pub list : List ℕ
  pub used : List ℕ

abbrev pub backup_tables : (members history sources list used : List ℕ) → BackupTables
backup_tables members history sources list used =
    record { members = members; history = history; sources = sources; list = list; used = used }

abbrev pub arrays_in : BackupTables → Arrays
arrays_in t = arrays t.history t.sources

-- ---- what a part may rely on

-- the tables are long enough, with n members
pub record Lendable (n : ℕ) (r : HistoryRing) (t : BackupTables) : Type 0 where
  pub rows : n * row_size ≤ length t.members
  pub fits : r.length ≤ max_history
  pub arrays_long : Long (arrays_in t)
  pub list_long : list_size ≤ length t.list
  pub used_long : length t.used ≡ set_size

-- and one of the members is at the index
pub record Sendable (n i : ℕ) (r : HistoryRing) (t : BackupTables) : Type 0 where
  pub below : i < n
  pub lent : Lendable n r t

-- every number from which the call's own sequence can come is a sequence
pub record NumbersFit (x : Send) (ms : List Member) : Type 0 where
  pub members : AllFit ms
  pub history : All EntryFit x.history
  pub next : x.numbers.next ≤ largest_sequence
