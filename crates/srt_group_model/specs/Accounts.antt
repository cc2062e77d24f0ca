-- The account of the packets held for a member, or by the group itself, and what moves it: a packet is held, released, or taken over with
-- its member's others. Document 01, "its reserved sum".
use Rattle.std.specs.Prelude.{Bool, not, List, ℕ, ◌+◌, ◌-◌, ◌<◌, ◌^◌, eqb}
use Rattle.srt_group_model.specs.Tools.{counted, total}
use Rattle.srt_group_model.specs.declared.Account.{Account}
use Rattle.srt_group_model.specs.declared.Packet.{Packet}

-- of one that holds nothing
abbrev pub no_packets : Account
no_packets = record { reserved = 0 }

-- a packet of so many is held
abbrev pub reserve : ℕ → Account → Account
reserve count a = record { reserved = a.reserved + count }

-- a packet of so many is held no longer: it is delivered, covered or retired
abbrev pub release : ℕ → Account → Account
release count a = record { reserved = a.reserved - count }

-- what was held for a removed member is the group's own
abbrev pub add_account : Account → Account → Account
add_account member own = record { reserved = own.reserved + member.reserved }

-- what the account has to be: of the packets that pass a test, the sum of their counts
abbrev pub account_of : (Packet → Bool) → List Packet → Account
account_of test ps = record { reserved = total (counted test (λ p. p.content.count)) ps }

-- a word of it is another
abbrev pub unlike : Account → Account → Bool
unlike a b = not (eqb a.reserved b.reserved)

-- each of its words is below 2^64
pub record Fits (a : Account) : Type 0 where
  pub reserved : a.reserved < 2 ^ 64
