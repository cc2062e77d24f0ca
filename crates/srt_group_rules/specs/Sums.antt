-- The rule "a reserved sum unequal to its packets' counts", as one walk over the packets finds it: each packet is added to the account
-- of its place, that of its member or the group's own.
use Rattle.std.specs.Prelude.{◌≡◌, Bool, false, not, ◌||◌, List, ℕ, ◌+◌, ◌<◌, eqb, length, get_or, Option, Some}
use Rattle.srt_group_model.specs.Tools.{if_true◌then◌else◌, any, counted, total}
use Rattle.srt_group_model.specs.State.{Member}
use Rattle.srt_group_model.specs.Accounts.{no_packets, account_of, unlike}
use Rattle.srt_group_model.specs.Members.{find}
use Rattle.srt_group_model.specs.Removal.{is_owned}
use Rattle.srt_group_model.specs.Validity.{max_members, is_held_for, queued_count, member_sum_wrong, is_unreserved}
use Rattle.srt_group_model.specs.declared.Account.{Account}
use Rattle.srt_group_model.specs.declared.Event.{Event}
use Rattle.srt_group_model.specs.declared.Packet.{Packet}
use Rattle.srt_connection_members.specs.Members.{member_in}
use Rattle.srt_group_tables.specs.Packets.{packet_at, packets}
use Rattle.word_rows.specs.Tab.{tab}
use Rattle.srt_group_rules.specs.Ids.{id_at, members_upto}

-- ---- definitions

-- the counts of those that pass, of the first n
unfoldable pub sum_of : {A : Type 0} → (A → Bool) → (A → ℕ) → ℕ → (ℕ → A) → ℕ
sum_of test count n f = total (counted test count) (tab n f)

abbrev pub event_count : Event → ℕ
event_count e = e.content.count

-- the place of the group's own account, behind those of the members
abbrev pub own_place : ℕ
own_place = max_members

-- the place of the account that a packet is added to
unfoldable pub account_place : List Member → Packet → Option ℕ
account_place ms p = if_true is_owned p then Some own_place else (find p.member ms)

-- a member whose held packets have this account: it keeps another, or its leg reserves another number
unfoldable pub differs : Account → Member → Bool
differs held m =
    unlike m.membership.account held || not (eqb m.leg.receiver.reserved (held.reserved + queued_count m.queue))

-- the rule over the two tables and the group's own account
unfoldable pub accounts_wrong : List Member → List Packet → Account → Bool
accounts_wrong ms ps own =
    any (member_sum_wrong ps) ms || (any (is_unreserved ms) ps || unlike own (account_of is_owned ps))

-- ---- the packets, added up front to back: the accounts of the members, and the group's own behind them

-- the account at a place
abbrev pub account_at : List Account → ℕ → Account
account_at accounts i = get_or accounts i no_packets

pub record Adding (t : List (List ℕ)) (count : ℕ) (pending : List ℕ) (at : ℕ) (accounts : List Account) : Type 0 where
  pub long : length accounts ≡ 65
  pub reserved : (k : ℕ) → k < at → is_unreserved (members_upto count t) (packet_at pending k) ≡ false
  pub own : account_at accounts own_place ≡ account_of is_owned (packets at pending)
  pub held : (i : ℕ) → i < count → account_at accounts i ≡ account_of (is_held_for (id_at t i)) (packets at pending)

-- ---- the comparison

-- the account of a member, by its index, is another than it keeps
abbrev pub member_differs : (t : List (List ℕ)) (accounts : List Account) → ℕ → Bool
member_differs t accounts i = differs (account_at accounts i) (member_in t i)

abbrev pub index_of : ℕ → ℕ
index_of i = i

unfoldable pub accounts_differ : (t : List (List ℕ)) (accounts : List Account) → ℕ → Bool
accounts_differ t accounts count = any (member_differs t accounts) (tab count index_of)
