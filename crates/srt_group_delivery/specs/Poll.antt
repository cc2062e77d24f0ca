-- What a poll gives, as the code's answer, and the small steps of the skip and the polls: a packet or a waiting event is given, the
-- base is skipped ahead or first set. Over every rest of the state, log and budget.
use Rattle.srt_group_delivery.specs.declared.delivery.GroupEvent.TheVariants.{Event as AnEvent, Packet as APacket}
use Rattle.srt_group_delivery.specs.declared.delivery.GroupEvent.{GroupEvent}
use Rattle.std.specs.Prelude.{◌≡◌, List, ℕ, ◌≤◌, length, None, Option, Some}
use Rattle.srt_group_model.specs.declared.Core.{Core}
use Rattle.srt_group_model.specs.State.{with_receive}
use Rattle.srt_group_model.specs.Run.{Mark, Run, set_base}
use Rattle.srt_group_model.specs.Delivery.{Polled, nothing, event, packet, skip_to}
use Rattle.srt_group_model.specs.Delivery as model
use Rattle.srt_group_shown.specs.Shown.{Rest}
use Rattle.srt_group_shown.specs.Tables.{ReceiveTables}
use Rattle.srt_group_delivery.specs.declared.delivery.Poll.{Poll}
use Rattle.srt_group_collecting.specs.Leaves.{Leaves, under_way, At}

-- ---- what a poll gives

-- the code's answer, as the definition's
abbrev pub polled_of : Option GroupEvent → Polled
polled_of None = nothing
polled_of (Some (AnEvent w)) = event w
polled_of (Some (APacket p)) = packet p

-- a poll of the definition gave this answer, and stands at this record and these tables
pub record Gives (p : model.Poll) (answer : Poll) (others : Rest) (t : ReceiveTables) (left : ℕ) : Type 0 where
  pub gave : p.gave ≡ polled_of answer.gave
  pub run : At p.run answer.core others t left

-- a step that gives something: no more events wait than before, and the budget is left alone
pub record Polls (f : Run → model.Poll) (core : Core) (t : ReceiveTables) (answer : Poll) (t' : ReceiveTables) : Type 0 where
  pub members_long : length t'.members ≡ length t.members
  pub pending_long : length t'.pending ≡ length t.pending
  pub waiting_long : length t'.waiting ≡ length t.waiting
  pub members_same : answer.core.counts.members ≡ core.counts.members
  pub waiting_most : answer.core.counts.waiting ≤ core.counts.waiting
  pub run : (others : Rest) (log : List Mark) (budget : ℕ)
      → Gives (f (under_way core others t log budget)) answer others t' budget

-- ---- the base is skipped ahead, or first set

-- over any tables, of which no row is touched
pub record Skips (base next : ℕ) (core after : Core) : Type 0 where
  pub waiting_same : after.counts.waiting ≡ core.counts.waiting
  pub leaves : (t : ReceiveTables) → Leaves (λ s. with_receive (skip_to base next s.receive) s) core t after t

-- whatever was logged before; only what is received changes
pub record Bases (option : Option ℕ) (core after : Core) : Type 0 where
  pub counts_same : after.counts ≡ core.counts
  pub run : (others : Rest) (t : ReceiveTables) (log : List Mark) (budget : ℕ)
      → At (set_base option (under_way core others t log budget)) after others t budget
