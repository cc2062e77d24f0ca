-- What one pass over a table promises: it finds no rule broken exactly if the rows are good and the cells that they name lie in the store and
-- were not named before; and then each of those cells has its bit.
use Rattle.std.specs.Prelude.{◌≡◌, Bool, true, false, List, [], ◌∷◌, ℕ, ◌+◌, ◌≤◌, None, Option, Some}
use Rattle.srt_group_model.specs.Tools.{any, each}
use Rattle.srt_group_model.specs.State.{Member}
use Rattle.srt_group_model.specs.Members.{id_of}
use Rattle.srt_group_model.specs.Sound.{occurs, room}
use Rattle.srt_group_model.specs.Validity.{one_twice, ascends, queued_count, is_unreserved}
use Rattle.srt_group_model.specs.declared.Account.{Account}
use Rattle.srt_group_model.specs.declared.Event.{Event}
use Rattle.srt_group_model.specs.declared.Packet.{Packet}
use Rattle.cell_set.specs.Bits.{bit_at}
use Rattle.cell_set.specs.Marks.{Marks}
use Rattle.srt_group_rules.specs.Rules.{queue_breaks_rule, member_breaks_rule, packet_breaks_rule}
use Rattle.srt_group_rules.specs.Sums.{account_place, differs, accounts_wrong}

pub record Passes (cells : ℕ) (good : Type 0) (named before : List ℕ) (r : Bool) (after : List ℕ) : Type 0 where
  pub clean : r ≡ false → good
  pub marks : r ≡ false → Marks cells named before true after
  pub broken : r ≡ true → good → ((n : ℕ) → bit_at before n + occurs n named ≤ room cells n) → ⊥

-- ---- what makes rows good

-- a queue whose data count for so many
pub record QueueGood (reserved : ℕ) (q : List Event) : Type 0 where
  pub rules : queue_breaks_rule q ≡ false
  pub sum : queued_count q ≡ reserved

-- a member whose held packets have this account
pub record MemberGood (held : Account) (m : Member) : Type 0 where
  pub rules : member_breaks_rule m ≡ false
  pub sums : differs held m ≡ false

-- a held packet behind others, whose sequences are below `lowest`
pub record PacketGood (ms : List Member) (lowest : ℕ) (p : Packet) : Type 0 where
  pub rules : packet_breaks_rule p ≡ false
  pub above : lowest ≤ p.content.sequence
  pub reserved : is_unreserved ms p ≡ false

-- members whose ids are distinct, and held packets, with the account of those that the group holds itself
pub record RowsGood (ms : List Member) (ps : List Packet) (own : Account) : Type 0 where
  pub members : any member_breaks_rule ms ≡ false
  pub packets : any packet_breaks_rule ps ≡ false
  pub order : ascends ps ≡ true
  pub sums : accounts_wrong ms ps own ≡ false

pub record TablesGood (ms : List Member) (ps : List Packet) (own : Account) : Type 0 where
  pub ids : one_twice (each id_of ms) ≡ false
  pub rows : RowsGood ms ps own

-- ---- a packet's step, which answers with the place of its account

abbrev pub is_nothing : Option ℕ → Bool
is_nothing None = true
is_nothing (Some i) = false

pub record PlacesPacket (cells : ℕ) (ms : List Member) (lowest : ℕ) (p : Packet) (before : List ℕ) (r : Option ℕ) (after : List ℕ) : Type 0 where
  pub passes : Passes cells (PacketGood ms lowest p) (p.content.cell ∷ []) before (is_nothing r) after
  pub place : is_nothing r ≡ false → r ≡ account_place ms p
