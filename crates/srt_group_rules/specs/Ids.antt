-- Ids that are distinct, place by place: the rule "one id twice". And the table of places, which says which member has an id.
use Rattle.std.specs.Prelude.{◌≡◌, List, ℕ, ◌%◌, ◌<◌, length, get_or}
use Rattle.srt_group_model.specs.Members.{id_of}
use Rattle.srt_group_model.specs.Validity.{max_members}
use Rattle.srt_group_model.specs.State.{Member}
use Rattle.srt_connection_members.specs.Members.{member_in}
use Rattle.word_rows.specs.Tab.{tab}

-- ---- the members that rows show, and their ids

abbrev pub id_at : List (List ℕ) → ℕ → ℕ
id_at rows i = id_of (member_in rows i)

-- the first n of them
abbrev pub members_upto : ℕ → List (List ℕ) → List Member
members_upto n rows = tab n (member_in rows)

-- ---- the table of places

-- its length: an id's place is the remainder by it
abbrev pub places : ℕ
places = 64

-- what it says of a place that no id has
abbrev pub nobody : ℕ
nobody = max_members

-- the place of every id before this member's is taken
pub record TakenBefore (rows : List (List ℕ)) (index : ℕ) (table : List ℕ) : Type 0 where
  pub long : length table ≡ places
  pub taken : (k : ℕ) → k < index → get_or table (id_at rows k % places) 0 ≡ nobody → ⊥
