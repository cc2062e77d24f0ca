-- The retirement of the group's own packets, over the record's numbers and the lent table: the state that they show afterwards is
-- the definition's, over every rest of the group, members and waiting events, since retirement reads none of them.
use Rattle.std.specs.Prelude.{◌≡◌, Bool, true, false, ◌&&◌, ◌||◌, List, ◌⊎◌, ℕ, suc, ◌≤◌, ltb, length}
use Rattle.srt_group_model.specs.declared.Core.{Core}
use Rattle.srt_group_model.specs.declared.Account.{Account}
use Rattle.srt_group_model.specs.declared.Packet.{Packet}
use Rattle.srt_group_model.specs.State.{State}
use Rattle.srt_group_model.specs.Core.{with_own_account, with_held}
use Rattle.srt_group_model.specs.Tools.{All}
use Rattle.srt_group_model.specs.Legs.{largest_sequence}
use Rattle.srt_group_model.specs.Nearest.{sequence_of}
use Rattle.srt_group_model.specs.Removal.{is_owned, retire, bound_group_owned_pending}
use Rattle.srt_group_model.specs.Validity.{max_pending, ascends}
use Rattle.srt_group_tables.specs.Packets.{pending_size, packets}
use Rattle.srt_group_shown.specs.Shown.{Rest, shown}
use Rattle.cell_set.specs.Bits.{set_size}
use Rattle.srt_group_collecting.specs.Follows.{Follows}

-- ---- what retirement may rely on, and what it leaves

-- a sequence is below 2^31
abbrev pub Low : Packet → Type 0
Low p = sequence_of p ≤ largest_sequence

-- the held packets are few, and ascend; their sequences and the base are below 2^31
pub record Held (core : Core) (pending : List ℕ) : Type 0 where
  pub pending_long : pending_size ≤ length pending
  pub held_few : core.counts.pending ≤ max_pending
  pub ascending : ascends (packets core.counts.pending pending) ≡ true
  pub low : All Low (packets core.counts.pending pending)
  pub base_low : core.receiving.base ≤ largest_sequence

-- so many packets are held, and the group's own sum is this
abbrev pub holding : (held : ℕ) → Account → Core → Core
holding held own c = with_held held (with_own_account own c)

-- only the held packets and the group's own sum change, over any rest of the group, members and waiting events
pub record Retires (f : State → State) (core : Core) (ps : List ℕ) (after : Core) (ps' : List ℕ) : Type 0 where
  pub pending_long : length ps' ≡ length ps
  pub rest : after ≡ holding after.counts.pending after.own core
  pub state : (others : Rest) (ms ws : List ℕ) → f (shown core others ms ps ws) ≡ shown after others ms ps' ws

-- one packet is retired
pub record Retired (p : Packet) (core : Core) (ps : List ℕ) (after : Core) (ps' : List ℕ) : Type 0 where
  pub one_less : suc after.counts.pending ≡ core.counts.pending
  pub retires : Retires (retire p) core ps after ps'

-- the set of used cells follows, over any members: a retirement touches none
pub record FollowsHeld (core : Core) (ps used : List ℕ) (after : Core) (ps' used' : List ℕ) : Type 0 where
  pub used_long : length used' ≡ set_size
  pub over : (members : List ℕ) → Follows core members ps used after members ps' used'

-- ---- a walk from the highest held packet down

-- bounding from here on gives what bounding from the start gives
pub record Bounding (limit base : ℕ) (core : Core) (ps : List ℕ) (here : Core) (ps₁ : List ℕ) : Type 0 where
  pub held : Held here ps₁
  pub pending_long : length ps₁ ≡ length ps
  pub rest : here ≡ holding here.counts.pending here.own core
  pub state : (others : Rest) (ms ws : List ℕ)
      → bound_group_owned_pending core.counts.pending limit base (shown core others ms ps ws)
      ≡ bound_group_owned_pending here.counts.pending limit base (shown here others ms ps₁ ws)

-- the group's own, of all packets or of those below the base
unfoldable pub is_reached : (base : ℕ) (all : Bool) → Packet → Bool
is_reached base all p = is_owned p && (all || ltb (sequence_of p) base)

abbrev pub Unreached : (base : ℕ) (all : Bool) → Packet → Type 0
Unreached base all p = is_reached base all p ≡ false

-- the group's own are not below the base
abbrev pub NotBelow : ℕ → Packet → Type 0
NotBelow base p = is_owned p ≡ true → base ≤ sequence_of p

-- a walk over all packets comes where none of the group's own is below the base, or the sum is within the limit
pub record Reachable (limit base : ℕ) (all : Bool) (core : Core) (ps : List ℕ) : Type 0 where
  pub base_low : base ≤ largest_sequence
  pub above : all ≡ true → (core.own.reserved ≤ limit) ⊎ All (NotBelow base) (packets core.counts.pending ps)

-- the farthest ones are retired, until the sum is within the limit or none that is reached is left
pub record RetiresDownward (limit base : ℕ) (all : Bool) (core : Core) (ps : List ℕ) (after : Core) (ps' : List ℕ) : Type 0 where
  pub bounding : Bounding limit base core ps after ps'
  pub ends : (after.own.reserved ≤ limit) ⊎ All (Unreached base all) (packets after.counts.pending ps')
