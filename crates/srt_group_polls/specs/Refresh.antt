-- The refresh of the members' states: what it leaves, and that the next step may rely on the same.
use Rattle.std.specs.Prelude.{◌≡◌, Bool, true, List, ℕ, length}
use Rattle.srt_group_model.specs.declared.Core.{Core}
use Rattle.srt_group_model.specs.Run.{Mark, Run}
use Rattle.srt_connection_members.specs.Members.{members_of}
use Rattle.srt_group_members.specs.Quiet.{is_quiet}
use Rattle.srt_group_shown.specs.Shown.{Rest}
use Rattle.srt_group_shown.specs.Tables.{receive_tables}
use Rattle.srt_group_collecting.specs.Leaves.{under_way, At}

-- ---- what a refresh needs and leaves

-- over any held packets and waiting events, and whatever was logged; the budget stays
pub record Refreshes (among : Rest → Type 0) (f : Run → Run) (core : Core) (ms : List ℕ) (after : Core) (ms' : List ℕ) : Type 0 where
  pub members_long : length ms' ≡ length ms
  pub counts_same : after.counts ≡ core.counts
  pub run : (ps ws : List ℕ) (others : Rest) → among others → (log : List Mark) (budget : ℕ)
      → At (f (under_way core others (receive_tables ms ps ws) log budget)) after others (receive_tables ms' ps ws) budget

-- where `quiet` is true, a refresh would change nothing (`is_quiet`)
abbrev pub Known : Bool → Core → List ℕ → Type 0
Known quiet core ms = quiet ≡ true → is_quiet core.mode (members_of core.counts.members ms) ≡ true
