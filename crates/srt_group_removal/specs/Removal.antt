-- A member is taken out, what the group then holds itself beyond the largest receive window is retired, and the leg is given back:
-- over every rest of the group and all waiting events, since a removal reads none of them.
use Rattle.std.specs.Prelude.{◌≡◌, List, ℕ, suc, ◌≤◌, ◌<◌, length}
use Rattle.srt_group_model.specs.declared.Core.{Core}
use Rattle.srt_group_model.specs.declared.Account.{Account}
use Rattle.srt_group_model.specs.Accounts.{add_account, Fits}
use Rattle.srt_group_model.specs.Removal.{take_out, remove_member_at, leg_given_back}
use Rattle.srt_group_model.specs.Validity.{max_members}
use Rattle.srt_connection_members.specs.Members.{members_size, member_at}
use Rattle.srt_group_shown.specs.Shown.{Rest, shown}
use Rattle.srt_group_removal.specs.declared.removal.Removed.{Removed}
use Rattle.srt_group_removal.specs.Retire.{Held}
use Rattle.srt_group_model.specs.Core.{with_own_account, with_member_count, with_next}

-- ---- what a removal may rely on, and what it leaves

-- the tables are long enough, the counts within their limits, the member is there, and its account and the group's own add up in 64 bits
pub record Removable (i : ℕ) (core : Core) (members pending : List ℕ) : Type 0 where
  pub members_long : members_size ≤ length members
  pub members_few : core.counts.members ≤ max_members
  pub there : i < core.counts.members
  pub held : Held core pending
  pub sum : Fits (add_account (member_at members i).membership.account core.own)

-- a member less, the round's place and the group's own sum
abbrev pub taken_out : (left round : ℕ) → Account → Core → Core
taken_out left round own c = with_member_count left (with_next round (with_own_account own c))

pub record TakesOut (i : ℕ) (core : Core) (ms ps : List ℕ) (after : Core) (ms' ps' : List ℕ) : Type 0 where
  pub members_long : length ms' ≡ length ms
  pub pending_long : length ps' ≡ length ps
  pub one_less : suc after.counts.members ≡ core.counts.members
  pub rest : after ≡ taken_out after.counts.members after.visit.round after.own core
  pub state : (others : Rest) (ws : List ℕ)
      → take_out i (member_at ms i) (shown core others ms ps ws) ≡ shown after others ms' ps' ws

-- the member at the place is removed as defined, and its leg given back
pub record Removes (i : ℕ) (core : Core) (ms ps : List ℕ) (answer : Removed) (ms' ps' : List ℕ) : Type 0 where
  pub members_long : length ms' ≡ length ms
  pub pending_long : length ps' ≡ length ps
  pub one_less : suc answer.core.counts.members ≡ core.counts.members
  pub waiting_same : answer.core.counts.waiting ≡ core.counts.waiting
  pub leg : answer.leg ≡ leg_given_back (member_at ms i)
  pub state : (others : Rest) (ws : List ℕ)
      → remove_member_at i (member_at ms i) (shown core others ms ps ws) ≡ shown answer.core others ms' ps' ws
