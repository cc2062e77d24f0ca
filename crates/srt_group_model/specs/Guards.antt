-- What a call leaves, and how its codes come: the first test that is true refuses the call, in the order of the list, and
-- nothing changes. Document 01, "Codes from the input".
use Rattle.std.specs.Prelude.{Bool, List, [], ◌∷◌, ℕ, None, Option}
use Rattle.srt_group_model.specs.Tools.{if_true◌then◌else◌}
use Rattle.srt_group_model.specs.State.{State}
use Rattle.srt_group_model.specs.Run.{Mark}
use Rattle.srt_group_model.specs.Delivery.{Polled}
use Rattle.srt_group_model.specs.Sending.{Sent}
use Rattle.srt_group_model.specs.declared.Packet.{Packet}
use Rattle.srt_group_model.specs.declared.Leg.{Leg}
use Rattle.srt_group_model.specs.declared.MemberShown.{MemberShown}

-- what an answer says of the group
pub data Shown : Type 0 where
  -- readiness, pending data, continuation
  truth : Bool → Shown
  -- legs sent on, ids, totals, times
  number : ℕ → Shown
  -- a timeout, a peer group; none where there is none
  optional : Option ℕ → Shown
  -- a member; none where there is none, which code 3 refuses
  one_member : Option MemberShown → Shown
  -- all members, in the order of their addition
  all_members : List MemberShown → Shown

pub data Answer : Type 0 where
  no_answer : Answer
  shown : Shown → Answer
  -- of an event poll
  polled : Polled → Answer
  -- of a data poll: the packet, and the continuation
  data_polled : Option Packet → Bool → Answer
  -- of a removal
  leg_back : Leg → Answer

-- a payload that is written into a cell
pub record Put : Type 0 where
  pub cell : ℕ
  pub payload : List ℕ

-- What a call leaves, but for the bytes that it is lent: those follow from `put`, `answer` and `sends`. The log is the
-- history's, newest first, and in no state.
pub record Step : Type 0 where
  pub state : State
  pub code : ℕ
  pub answer : Answer
  pub put : Option Put
  pub sends : List Sent
  pub log : List Mark

abbrev pub refuse : ℕ → State → Step
refuse code s = record { state = s; code = code; answer = no_answer; put = None; sends = []; log = [] }

-- accepted: the state and the answer
abbrev pub accept : State → Answer → Step
accept s answer = record { state = s; code = 0; answer = answer; put = None; sends = []; log = [] }

pub record Check : Type 0 where
  pub code : ℕ
  pub fails : Bool

infix 20 ◌when◌
abbrev pub ◌when◌ : ℕ → Bool → Check
code when fails = record { code = code; fails = fails }

unfoldable pub guard : List Check → State → Step → Step
guard [] s body = body
guard (c ∷ cs) s body = if_true c.fails then refuse c.code s else guard cs s body

-- what a look is about: the group, the group at a time, or a member
pub data About : Type 0 where
  about_group : About
  about_time : (time : ℕ) → About
  about_member : (id : ℕ) → About

-- A call that only looks: what it is about, from which its codes follow, and what it shows of a state.
pub record Looking : Type 0 where
  pub about : About
  pub shows : State → Shown
