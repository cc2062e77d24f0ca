-- The replay listing over the definitions: document 01, "The replay listing". A line is its eight numbers; what it prints is
-- six. The lent store has 40 cells; its bytes are not needed, since no column shows a payload.
use Rattle.std.specs.Prelude.{List, [], ◌∷◌, ℕ, zero, suc, ◌*◌, eqb, get_or, None, Option, Some}
use Rattle.srt_protocol.specs.Cells.{cell_size, output_size}
use Rattle.srt_group_model.specs.Tools.{if_true◌then◌else◌, if_some◌give◌otherwise◌, at_place}
use Rattle.srt_group_model.specs.State.{State, Making}
use Rattle.srt_group_model.specs.Legs.{moment}
use Rattle.srt_group_model.specs.Delivery.{max_visits}
use Rattle.srt_group_model.specs.Validity.{above}
use Rattle.srt_group_model.specs.Sending.{list_size}
use Rattle.srt_group_model.specs.Guards.{truth, number, optional, one_member, all_members, Answer, no_answer, shown, polled, data_polled, leg_back, Step, refuse}
use Rattle.srt_group_model.specs.Calls.{new, new_code, add_member, mark_member_broken, remove_member_connection, poll_data_call, send, read_leg, queue_data, queue_event}
use Rattle.srt_group_model.specs.declared.Leg.{Leg}

abbrev pub Line : Type 0
Line = List ℕ

-- column k of a line; column 0 is the verb
abbrev pub column : ℕ → Line → ℕ
column k line = get_or line k 0

abbrev pub store_length : ℕ
store_length = 40 * cell_size

-- ---- what a verb does to a group

-- verb 2; what it does not say of a leg is 0, but for the receive window and the payload limit
abbrev pub leg_of_line : Line → Leg
leg_of_line line =
    record {
      link = record { state = column 3 line; peer = 0; limit = 1456 };
      sender =
          record {
            started = 0;
            next = column 4 line;
            flight = 0;
            window = column 6 line;
            oldest = moment 0;
            pace = moment 0;
          };
      receiver =
          record { first = column 5 line; window = 8192; latency = column 7 line; reserved = 0; advanced = 0 };
      trip = record { srtt = 0; rttvar = 0; heard = moment 0 };
    }

-- a payload byte above 255 is code 2
abbrev pub with_byte : ℕ → Step → State → Step
with_byte byte step s = if_true above 255 byte then refuse 2 s else step

-- verbs 2 to 9, in order
unfoldable pub verbs : List (Line → State → Step)
verbs =
    (λ line. add_member (column 1 line) (column 2 line) (leg_of_line line) [])
    ∷ (λ line. read_leg (column 1 line) (column 2 line) (column 3 line))
    ∷ (λ line s.
    with_byte (column 5 line)
    (queue_data store_length (column 1 line)
    record {
      sequence = column 2 line;
      count = column 3 line;
      message = 0;
      timestamp = 0;
      source = moment (column 4 line);
      cell = 0;
      length = 0;
    }
    (column 5 line ∷ []) s)
    s)
    ∷ (λ line. poll_data_call store_length output_size (column 1 line) max_visits)
    ∷ (λ line s. with_byte (column 1 line) (send store_length list_size (column 2 line) (column 1 line ∷ []) s) s)
    ∷ (λ line. remove_member_connection (column 1 line)) ∷ (λ line. mark_member_broken (column 1 line))
    ∷ (λ line. queue_event (column 1 line) (column 2 line) (column 3 line)) ∷ []

-- ---- what it prints

-- the last four columns of an accepted call
unfoldable pub columns : Answer → State → List ℕ
columns no_answer s = 0 ∷ 0 ∷ 0 ∷ 0 ∷ []
columns (shown (truth b)) s = 0 ∷ 0 ∷ 0 ∷ 0 ∷ []
columns (shown (number n)) s = n ∷ 0 ∷ 0 ∷ 0 ∷ []
columns (shown (optional o)) s = 0 ∷ 0 ∷ 0 ∷ 0 ∷ []
columns (polled p) s = 0 ∷ 0 ∷ 0 ∷ 0 ∷ []
columns (data_polled None more) s = 0 ∷ 0 ∷ 0 ∷ s.receive.numbers.skipped ∷ []
columns (data_polled (Some p) more) s =
    p.member ∷ p.content.sequence ∷ p.content.count ∷ s.receive.numbers.skipped ∷ []
columns (leg_back l) s = 0 ∷ 0 ∷ 0 ∷ 0 ∷ []
columns (shown (one_member m)) s = 0 ∷ 0 ∷ 0 ∷ 0 ∷ []
columns (shown (all_members ms)) s = 0 ∷ 0 ∷ 0 ∷ 0 ∷ []

abbrev pub refused_line : (verb code : ℕ) → List ℕ
refused_line verb code = verb ∷ code ∷ 0 ∷ 0 ∷ 0 ∷ 0 ∷ []

unfoldable pub printed : ℕ → Step → List ℕ
printed verb step =
    if_true eqb step.code 0 then verb ∷ 0 ∷ columns step.answer step.state else refused_line verb step.code

-- the group after a line, none before one was made, and the line's output
pub record Told : Type 0 where
  pub group : Option State
  pub line : List ℕ

-- verb 1: a new group in place of the old, which stays if the line is refused
unfoldable pub tell_new : Line → Option State → Told
tell_new line old =
    let making : Making = record { id = column 1 line; mode = column 2 line; length = store_length } in
    let code = new_code making in
    if_true eqb code 0
    then
    record { group = Some (new making); line = 1 ∷ 0 ∷ 0 ∷ 0 ∷ 0 ∷ 0 ∷ [] }
    else record { group = old; line = refused_line 1 code }

unfoldable pub tell_verb : (Line → State → Step) → Line → Option State → Told
tell_verb verb line None = record { group = None; line = refused_line (column 0 line) 6 }
tell_verb verb line (Some s) =
    let step = verb line s in record { group = Some step.state; line = printed (column 0 line) step }

-- an unknown verb prints verb 0, code 2
unfoldable pub tell : ℕ → Line → Option State → Told
tell zero line s = record { group = s; line = refused_line 0 2 }
tell (suc zero) line s = tell_new line s
tell (suc (suc verb)) line s =
    if_some at_place verb verbs give (λ f. tell_verb f line s) otherwise record { group = s; line = refused_line 0 2 }

unfoldable pub replay_from : Option State → List Line → List (List ℕ)
replay_from s [] = []
replay_from s (line ∷ lines) = let told = tell (column 0 line) line s in told.line ∷ replay_from told.group lines

-- what a listing prints
unfoldable pub replay : List Line → List (List ℕ)
replay lines = replay_from None lines
