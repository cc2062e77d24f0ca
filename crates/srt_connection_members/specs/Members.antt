-- The lent table of members: row i is the words from row-size * i on. `members_of n` is the list of the first n rows; the rows past it
-- are free. A row that is changed is `change`, one that is appended `++`, one that is removed `without_place` of the model.
use Rattle.srt_protocol.specs.Errors.{Outcome}
use Rattle.std.specs.Prelude.{get_or, ◌≡◌, List, [], ◌∷◌, ◌++◌, ℕ, ◌+◌, ◌-◌, ◌*◌, ◌≤◌, length, map}
use Rattle.srt_protocol.specs.Errors.{if_accepted}
use Rattle.srt_group_model.specs.Tools.{change, without_place, each}
use Rattle.srt_group_model.specs.Calls.{enqueue}
use Rattle.srt_group_model.specs.State.{Member, with_queue}
use Rattle.srt_group_model.specs.Validity.{max_members}
use Rattle.srt_group_model.specs.declared.Event.{Event}
use Rattle.srt_group_model.specs.declared.Leg.{Leg}
use Rattle.srt_group_model.specs.declared.Membership.{Membership}
use Rattle.srt_connection_queue.specs.declared.queue.LegPoll.{LegPoll}
use Rattle.word_rows.specs.Tab.{tab}
use Rattle.word_rows.specs.Rows.{row_at}
use Rattle.srt_connection_queue.specs.Row.{put_row}
use Rattle.srt_connection_queue.specs.Rows.{row_size, member_of, member_from}
use Rattle.srt_connection_queue.specs.Queue.{push_outcome, leg_poll, queue_after}

-- ---- definitions

-- the words of the table: a row for each member that there may be
abbrev pub members_size : ℕ
members_size = max_members * row_size

unfoldable pub member_at : List ℕ → ℕ → Member
member_at t i = member_of (row_at row_size t i)

-- the first n members
unfoldable pub members_of : ℕ → List ℕ → List Member
members_of n t = tab n (member_at t)

-- the members that these rows show
abbrev pub members_in : List (List ℕ) → List Member
members_in rows = map member_of rows

abbrev pub member_in : List (List ℕ) → ℕ → Member
member_in rows i = member_of (get_or rows i [])

-- the table has a row i
abbrev pub HasRow : ℕ → List ℕ → Type 0
HasRow i t = i * row_size + row_size ≤ length t

-- a member as it is added: its queue is empty
abbrev pub new_member : Membership → Leg → Member
new_member x l = member_from x l []

-- ---- what a call does to a table, t before and u after

-- row i was lent to a call that does P to it, and stands as the call left it
pub record RowLent (i : ℕ) (t : List ℕ) (P : List ℕ → List ℕ → Type 0) (u : List ℕ) : Type 0 where
  pub left : List ℕ
  pub called : P (row_at row_size t i) left
  pub back : u ≡ put_row row_size t i left

-- row i is changed by f, and no other
pub record Changed (i : ℕ) (f : Member → Member) (t u : List ℕ) : Type 0 where
  pub long : length u ≡ length t
  pub here : member_at u i ≡ f (member_at t i)
  pub others : (j : ℕ) → (j ≡ i → ⊥) → member_at u j ≡ member_at t j
  pub members : (n : ℕ) → members_of n u ≡ change i f (members_of n t)

pub record PushedAt (i : ℕ) (e : Event) (t : List ℕ) (answer : Outcome) (u : List ℕ) : Type 0 where
  pub outcome : answer ≡ push_outcome (member_at t i)
  pub changed : Changed i (λ m. if_accepted answer (enqueue e m) m) t u

pub record PolledAt (i budget : ℕ) (t : List ℕ) (answer : LegPoll) (u : List ℕ) : Type 0 where
  pub gave : answer ≡ leg_poll budget (member_at t i).queue
  pub changed : Changed i (λ m. with_queue (queue_after budget m.queue) m) t u

-- each of the first n rows is changed by f, and no other
pub record ChangedAll (n : ℕ) (f : Member → Member) (t u : List ℕ) : Type 0 where
  pub long : length u ≡ length t
  pub others : (j : ℕ) → n ≤ j → member_at u j ≡ member_at t j
  pub members : members_of n u ≡ each f (members_of n t)

-- the member m stands behind the first n
pub record Appended (n : ℕ) (m : Member) (t u : List ℕ) : Type 0 where
  pub long : length u ≡ length t
  pub here : member_at u n ≡ m
  pub others : (j : ℕ) → (j ≡ n → ⊥) → member_at u j ≡ member_at t j
  pub members : members_of (n + 1) u ≡ members_of n t ++ (m ∷ [])

-- of the first n members the one at i is gone, and the later ones moved down
pub record Removed (i n : ℕ) (t u : List ℕ) : Type 0 where
  pub long : length u ≡ length t
  pub members : members_of (n - 1) u ≡ without_place i (members_of n t)
