-- The first in rank among the connected Standby members, found from the last row to the first.
use Rattle.std.specs.Prelude.{not, ◌&&◌, List, [], ℕ, get_or, None, Option, Some}
use Rattle.srt_group_model.specs.Tools.{if_true◌then◌else◌}
use Rattle.srt_group_model.specs.State.{Member}
use Rattle.srt_group_model.specs.Members.{is_standby, outranks}
use Rattle.srt_connection_queue.specs.Rows.{member_of}

-- the member that the row at i shows
abbrev pub shown : List (List ℕ) → ℕ → Member
shown rows i = member_of (get_or rows i [])

-- the first in rank, once the member at i joins those behind it, of which `best` was the first
unfoldable pub first_with : List (List ℕ) → ℕ → Option ℕ → Option ℕ
first_with rows i None = if_true is_standby (shown rows i) then Some i else None
first_with rows i (Some b) =
    if_true is_standby (shown rows i) && not (outranks (shown rows b) (shown rows i)) then Some i else Some b
