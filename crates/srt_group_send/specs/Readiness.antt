-- The readiness tests over the lent tables: what they may rely on, and what they leave.
use Rattle.std.specs.Prelude.{◌≡◌, List, ℕ, ◌*◌, ◌≤◌, length, None, Option, Some}
use Rattle.srt_group_model.specs.State.{State, with_send}
use Rattle.srt_group_model.specs.Legs.{largest_64}
use Rattle.srt_group_model.specs.Guards.{shown, truth}
use Rattle.srt_group_model.specs.Backup.{max_history, trim_by_carrier, backup_send_ready}
use Rattle.srt_group_model.specs.Sound.{Fit}
use Rattle.srt_group_model.specs.declared.Identity.{Identity}
use Rattle.srt_group_model.specs.Lent.{Call, call_can_send, call_can_send_with_pacing}
use Rattle.srt_connection_queue.specs.Rows.{row_size}
use Rattle.srt_connection_members.specs.Members.{members_of}
use Rattle.srt_group_tables.specs.Ring.{Arrays, entries_of, send_of}
use Rattle.srt_group_carrier.specs.Freeing.{TrimFollows}
use Rattle.cell_set.specs.Shows.{Shows}
use Rattle.srt_group_shown.specs.Tables.{tables, state_of}
use Rattle.srt_group_shown.specs.Steps.{Unbroken, Steps}
use Rattle.srt_group.specs.declared.Group.{Group}
use Rattle.srt_group.specs.Made.{parts_of}
use Rattle.srt_group_send.specs.declared.readiness.Readiness.{Readiness}

-- the call of a test: with a time, the paced one
abbrev pub call_paced : Option ℕ → Call
call_paced None = call_can_send
call_paced (Some time) = call_can_send_with_pacing time

-- the time, if there is one, is a word, as every time is: of a word in an option a proof has to be told
abbrev pub InWord : Option ℕ → Type 0
InWord None = Unit {0}
InWord (Some time) = time ≤ largest_64

-- in Backup: the model's trim and test, of every state with these members, these numbers and this history
pub record TrimmedReady (time : Option ℕ) (g : Group) (members history used : List ℕ) (answer : Readiness) (used' : List ℕ) : Type 0 where
  pub same : answer.«record» ≡ record { identity = g.identity; core = g.core; sending = answer.«record».sending; ring = answer.«record».ring }
  pub fits : answer.«record».ring.length ≤ g.ring.length
  pub follows : (a : Arrays) → a.history ≡ history → TrimFollows (entries_of g.ring a) used (entries_of answer.«record».ring a) used'
  pub trims : (s : State) (a : Arrays) → s.members ≡ members_of g.core.counts.members members → a.history ≡ history → s.send ≡ send_of g.sending g.ring a
      → trim_by_carrier s ≡ with_send (send_of answer.«record».sending answer.«record».ring a) s
  pub tests : (s : State) (a : Arrays) → s.members ≡ members_of g.core.counts.members members → a.history ≡ history → s.send ≡ send_of g.sending g.ring a
      → answer.ready ≡ backup_send_ready time (trim_by_carrier s)

-- the tables are long enough, and every number of the state is in its range
pub record Testable (g : Group) (members history : List ℕ) : Type 0 where
  pub rows : g.core.counts.members * row_size ≤ length members
  pub history_long : length history ≡ max_history
  pub pending : List ℕ
  pub waiting : List ℕ
  pub sources : List ℕ
  pub fit : Fit (state_of (parts_of g) (tables members pending waiting history sources))

-- a record with another identity: what the group was made as, of which no test reads anything
abbrev pub with_identity : Identity → Group → Group
with_identity i g = record { identity = i; core = g.core; sending = g.sending; ring = g.ring }

-- the call is its definition, over whatever it does not touch, the identity too, and the set of used cells follows it
pub record Tests (call : Call) (g : Group) (members history used : List ℕ) (answer : Readiness) (members' used' : List ℕ) : Type 0 where
  pub same : answer.«record».identity ≡ g.identity
  pub steps : (identity : Identity) (pending waiting sources : List ℕ)
      → Unbroken (parts_of (with_identity identity g)) (tables members pending waiting history sources)
      → Steps call (parts_of (with_identity identity g)) (tables members pending waiting history sources) 0 (shown (truth answer.ready))
      (parts_of (with_identity identity answer.«record»)) (tables members' pending waiting history sources)
  pub shows : (identity : Identity) (pending waiting sources : List ℕ)
      → Shows used (state_of (parts_of (with_identity identity g)) (tables members pending waiting history sources))
      → Shows used' (state_of (parts_of (with_identity identity answer.«record»)) (tables members' pending waiting history sources))
