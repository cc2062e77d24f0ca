-- What is proved of `members`: the rows that are written one behind the other are the answer's values.
use Rattle.srt_protocol.specs.Errors.{Outcome}
use Rattle.std.specs.Prelude.{◌≡◌, refl, Bool, true, false, List, [], ◌∷◌, ◌++◌, ℕ, zero, suc, ◌+◌, ◌*◌, ◌≤◌, ◌<◌, ltb, length, take, get_or, Err, Ok}
use Rattle.std.proofs.Common.{ap, ◌∙◌, append_assoc, arith, length-append}
use Rattle.std.proofs.Math.Path.{sym, subst}
use Rattle.std.proofs.lemmas.List.{take_more, take_all, length-take-le, length-map}
use Rattle.srt_protocol.specs.declared.error.Error.{Error}
use Rattle.srt_protocol.specs.declared.error.Error.TheVariants.{InsufficientBuffer}
use Rattle.srt_protocol.specs.Cells.{overwritten}
use Rattle.srt_protocol.specs.Laws.CellLaws.{overwritten_length}
use Rattle.srt_group_model.specs.Tools.{each}
use Rattle.srt_group_model.specs.declared.MemberShown.{MemberShown}
use Rattle.srt_group_model.specs.State.{Member}
use Rattle.srt_group_model.specs.Guards.{no_answer, shown, all_members}
use Rattle.srt_group_model.specs.Calls.{cells_given, member_shown, members_call}
use Rattle.srt_group_model.specs.Laws.Valid.{valid_of, counted_of}
use Rattle.srt_group_model.specs.Lent.{look_members, looking}
use Rattle.srt_group_model.specs.Answers.{member_values, all_values, shown_values, values_of}
use Rattle.srt_connection_queue.specs.Rows.{member_of}
use Rattle.srt_connection_members.specs.Members.{members_in}
use Rattle.srt_connection_members.specs.Laws.Members.{members_length}
use Rattle.srt_group_sending.specs.Laws.SentList.{overwritten_by_nothing, overwritten_behind}
use Rattle.srt_group_shown.specs.Tables.{Parts, Tables, state_of}
use Rattle.srt_group_shown.specs.Steps.{Unbroken}
use Rattle.srt_group_refusals.specs.Begins.{begun}
use Rattle.srt_group_looks.specs.Looks.{member_row_size, members_list_size, ListsBy, ListsMembers}
use Rattle.srt_group_looks.specs.Laws.Looks.{look_refused, group_look}

pub eight_words : (m : MemberShown) → length (member_values m) ≡ member_row_size
eight_words m = refl

-- ---- rows

-- the values of the first n members
abbrev pub rows_of : ℕ → List (List ℕ) → List ℕ
rows_of n rows = all_values (each member_shown (take n (members_in rows)))

all_values_append : (xs ys : List MemberShown) → all_values (xs ++ ys) ≡ all_values xs ++ all_values ys
unfolding all_values
all_values_append [] ys = refl
all_values_append (x ∷ xs) ys =
    ap (λ (l : List ℕ). member_values x ++ l) (all_values_append xs ys) ∙ sym (append_assoc (member_values x) (all_values xs) (all_values ys))

all_values_length : (xs : List MemberShown) → length (all_values xs) ≡ length xs * member_row_size
unfolding all_values
all_values_length [] = refl
all_values_length (x ∷ xs) = omega (arith, all_values_length xs, length-append (member_values x) (all_values xs), eight_words x)

shown_append : (ms : List Member) (m : Member) → each member_shown (ms ++ (m ∷ [])) ≡ each member_shown ms ++ (member_shown m ∷ [])
unfolding each
shown_append [] m = refl
shown_append (x ∷ ms) m = ap (λ (l : List MemberShown). member_shown x ∷ l) (shown_append ms m)

shown_length : (ms : List Member) → length (each member_shown ms) ≡ length ms
unfolding each
shown_length [] = refl
shown_length (x ∷ ms) = omega (arith, shown_length ms)

pub values_length : (ms : List Member) → length (all_values (each member_shown ms)) ≡ length ms * member_row_size
values_length ms = omega (arith, all_values_length (each member_shown ms), shown_length ms)

pub rows_length : (n : ℕ) (rows : List (List ℕ)) → n ≤ length rows → length (rows_of n rows) ≡ n * member_row_size
rows_length n rows within =
    omega (arith, values_length (take n (members_in rows)), length-take-le n (members_in rows) (omega (arith, length-map rows member_of)))

one_row : (m : MemberShown) → all_values (m ∷ []) ≡ member_values m
unfolding all_values
one_row m = refl

member_read : (rows : List (List ℕ)) (n : ℕ) (m : Member) → n < length rows → get_or (members_in rows) n m ≡ member_of (get_or rows n [])
member_read [] n m h = absurd (omega arith)
member_read (row ∷ rows) zero m h = refl
member_read (row ∷ rows) (suc n) m h = member_read rows n m (omega arith)

row_more : (n : ℕ) (rows : List (List ℕ)) → n < length rows → rows_of (n + 1) rows ≡ rows_of n rows ++ member_values (member_shown (member_of (get_or rows n [])))
row_more n rows h =
    let m = member_of (get_or rows n []) in
    ap (λ (ms : List Member). all_values (each member_shown ms))
    (take_more (members_in rows) n m (omega (arith, length-map rows member_of))
    ∙ ap (λ (x : Member). take n (members_in rows) ++ (x ∷ [])) (member_read rows n m h))
    ∙ ap all_values (shown_append (take n (members_in rows)) m)
    ∙ all_values_append (each member_shown (take n (members_in rows))) (member_shown m ∷ [])
    ∙ ap (λ (l : List ℕ). rows_of n rows ++ l) (one_row (member_shown m))

-- ---- the list, once the rows of the first n members are written

pub nothing_written : (rows : List (List ℕ)) (list : List ℕ) → list ≡ overwritten 0 (rows_of 0 rows) list
unfolding each all_values
nothing_written rows list = sym (overwritten_by_nothing 0 list)

pub row_written : (n : ℕ) (rows : List (List ℕ)) (list here list' : List ℕ) → n < length rows → length rows * member_row_size ≤ length list
    → here ≡ overwritten 0 (rows_of n rows) list
    → list' ≡ overwritten (n * member_row_size) (member_values (member_shown (member_of (get_or rows n [])))) here
    → list' ≡ overwritten 0 (rows_of (n + 1) rows) list
row_written n rows list here list' inside fits so_far wrote =
    let row = member_values (member_shown (member_of (get_or rows n []))) in
    let long = rows_length n rows (omega arith) in
    let end : n * member_row_size ≡ 0 + length (rows_of n rows) = omega (arith, long) in
    wrote ∙ ap (overwritten (n * member_row_size) row) so_far
    ∙ ap (λ (at : ℕ). overwritten at row (overwritten 0 (rows_of n rows) list)) end
    ∙ overwritten_behind 0 (rows_of n rows) row list (omega (arith, long))
    ∙ ap (λ (l : List ℕ). overwritten 0 l list) (sym (row_more n rows inside))

pub written_length : (n : ℕ) (rows : List (List ℕ)) (list here : List ℕ) → n ≤ length rows → length rows * member_row_size ≤ length list
    → here ≡ overwritten 0 (rows_of n rows) list → length here ≡ length list
written_length n rows list here within fits is =
    let long = rows_length n rows within in
    ap length is ∙ overwritten_length 0 (rows_of n rows) list (omega (arith, long))

pub all_written : (n : ℕ) (rows : List (List ℕ)) (list here : List ℕ) → length rows ≤ n → here ≡ overwritten 0 (rows_of n rows) list
    → here ≡ overwritten 0 (all_values (each member_shown (members_in rows))) list
all_written n rows list here past is =
    is ∙ ap (λ (ms : List Member). overwritten 0 (all_values (each member_shown ms)) list) (take_all n (members_in rows) (omega (arith, length-map rows member_of)))

-- ---- the call

-- a list of 64 rows has one for each member of a valid state
pub room_there : (p : Parts) (t : Tables) → Unbroken p t → (list : List ℕ) → members_list_size ≤ length list
    → p.core.counts.members * member_row_size ≤ length list
room_there p t unbroken list long =
    omega (
      arith,
      (counted_of (state_of p t) (valid_of (cells_given (state_of p t)) (state_of p t) unbroken.valid).counts).members,
      members_length p.core.counts.members t.members,
      long,
    )

pub list_too_short : (p : Parts) (t : Tables) (list : List ℕ) → ltb (length list) members_list_size ≡ true
    → ListsMembers p t list (Err InsufficientBuffer) list
list_too_short p t list short =
    subst (λ (b : Bool). ListsBy b p t list (Err InsufficientBuffer) list) (sym short)
    record { code = refl; same = refl }

module _ (p : Parts) (t : Tables) (list : List ℕ) (long : ltb (length list) members_list_size ≡ false) {r : Outcome} (begins : r ≡ begun p t) where
  pub listing_refused : (e : Error) → r ≡ Err e → ListsMembers p t list (Err e) list
  unfolding values_of
  listing_refused e refused =
      subst (λ (b : Bool). ListsBy b p t list (Err e) list) (sym long)
      record {
        answer = no_answer;
        looked = look_refused look_members p t begins e refused;
        is = sym (overwritten_by_nothing 0 list);
        rows = refl;
      }

  pub members_listed : r ≡ Ok tt → (list' : List ℕ) → list' ≡ overwritten 0 (all_values (each member_shown (state_of p t).members)) list
      → ListsMembers p t list (Ok p.core.counts.members) list'
  unfolding looking members_call values_of shown_values
  members_listed accepted list' wrote =
      subst (λ (b : Bool). ListsBy b p t list (Ok p.core.counts.members) list') (sym long)
      record {
        answer = shown (all_members (each member_shown (state_of p t).members));
        looked = group_look look_members p t begins accepted refl;
        is = wrote;
        rows = omega (arith, values_length (state_of p t).members, members_length p.core.counts.members t.members);
      }
