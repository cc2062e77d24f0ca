-- What the code of a verb promises: the group after it and the numbers that it prints are those of the model's listing (srt_group_model,
-- Listing), for the call that its line asks (srt_group_traces, VerbCalls).
use Rattle.std.specs.Prelude.{◌≡◌, List, [], ◌∷◌, ℕ, eqb, Err, None, Ok, Option, Result, Some}
use Rattle.srt_protocol.specs.declared.error.Error.{Error}
use Rattle.srt_protocol.specs.Errors.{error_number}
use Rattle.srt_protocol.specs.Cells.{output_size}
use Rattle.srt_group_model.specs.Tools.{if_true◌then◌else◌}
use Rattle.srt_group_model.specs.State.{State}
use Rattle.srt_group_model.specs.Sending.{list_size}
use Rattle.srt_group_model.specs.Guards.{Answer, Step}
use Rattle.srt_group_model.specs.Lent.{Call, step_of}
use Rattle.srt_group_model.specs.Listing.{with_byte, columns, refused_line, printed}
use Rattle.srt_group_model.specs.declared.Leg.{Leg}
use Rattle.srt_group_model.specs.declared.Packet.{Packet}
use Rattle.srt_connection_members.specs.Members.{member_at, HasRow}
use Rattle.srt_group_shown.specs.Tables.{Tables, state_of}
use Rattle.srt_group_shown.specs.Ready.{Ready}
use Rattle.srt_group.specs.Made.{parts_of}
use Rattle.srt_group.specs.declared.Group.{Group}
use Rattle.srt_group_listing.specs.declared.Printed.{Printed}
use Rattle.srt_group_listing.specs.declared.Told.{Told}

-- ---- what is printed

-- the numbers of an output line
abbrev pub numbers_of : Printed → List ℕ
numbers_of p = p.verb ∷ p.code ∷ p.leg ∷ p.sequence ∷ p.count ∷ p.skipped ∷ []

-- those of a call, by its code, its answer and the state after it
abbrev pub prints : (verb code : ℕ) → Answer → State → List ℕ
prints verb code given s = if_true eqb code 0 then verb ∷ 0 ∷ columns given s else refused_line verb code

-- a poll's: the packet that it gave, if any, and the skipped total
abbrev pub packet_line : Option Packet → (skipped : ℕ) → List ℕ
packet_line None skipped = 5 ∷ 0 ∷ 0 ∷ 0 ∷ 0 ∷ skipped ∷ []
packet_line (Some p) skipped = 5 ∷ 0 ∷ p.member ∷ p.content.sequence ∷ p.content.count ∷ skipped ∷ []

-- a send's: the legs that it went out on, where it was accepted
abbrev pub sent_line : Result ℕ Error → List ℕ
sent_line (Ok legs) = 6 ∷ 0 ∷ legs ∷ 0 ∷ 0 ∷ 0 ∷ []
sent_line (Err e) = refused_line 6 (error_number e)

-- ---- what the code of a verb promises

-- a call that is lent a store of this length, and the program's own output and list of sends
abbrev pub asks : (store : ℕ) → Call → State → Step
asks store call s = step_of store output_size list_size call s

-- The group after a step of the model's listing and what its line prints are the model's; and the group is ready for the next.
pub record TellsStep (verb : ℕ) (step : State → Step) (g : Group) (t : Tables) (store : ℕ) (r : Told) (t' : Tables) (used' : List ℕ) : Type 0 where
  pub state : state_of (parts_of r.group) t' ≡ (step (state_of (parts_of g) t)).state
  pub line : numbers_of r.line ≡ printed verb (step (state_of (parts_of g) t))
  pub ready : Ready (parts_of r.group) t' store used'

-- so are those of a call
abbrev pub Tells : (verb : ℕ) → Call → Group → Tables → (store : ℕ) → Told → Tables → (used' : List ℕ) → Type 0
Tells verb call g t store r t' used' = TellsStep verb (asks store call) g t store r t' used'

-- and of one whose line gives a byte, which is refused (2) above 255
abbrev pub TellsByte : (byte verb : ℕ) → Call → Group → Tables → (store : ℕ) → Told → Tables → (used' : List ℕ) → Type 0
TellsByte byte verb call g t store r t' used' = TellsStep verb (λ s. with_byte byte (asks store call s) s) g t store r t' used'

-- ---- verb 2

-- the row shows this leg, with an empty queue
pub record HandedOver (leg : Leg) (row : List ℕ) : Type 0 where
  pub long : HasRow 0 row
  pub is : (member_at row 0).leg ≡ leg
  pub empty : (member_at row 0).queue ≡ []
