-- What is proved of the definitions in specs/Members.antt, with what the proofs need.
use Rattle.srt_protocol.specs.Errors.{Outcome}
use Rattle.std.specs.Prelude.{◌≡◌, refl, List, [], ◌∷◌, ℕ, zero, suc, ◌+◌, ◌-◌, ◌*◌, ◌≤◌, ◌<◌, length, take, drop, get_or, None, Option, Some}
use Rattle.std.specs.Simd.{first_chunks}
use Rattle.std.proofs.Math.Path.{ap}
use Rattle.std.proofs.Common.{sym, ◌∙◌, add-one, arith}
use Rattle.std.proofs.Math.Decide.{dec_lt}
use borrow.Author.Tests.{eq-eqb, ne_eqb, eqb-true}
use Rattle.srt_protocol.specs.Errors.{if_accepted}
use Rattle.srt_group_model.specs.Tools.{at_place, without_place}
use Rattle.srt_group_model.specs.Calls.{enqueue}
use Rattle.srt_group_model.specs.State.{Member, with_queue, with_leg, on_leg, on_membership, with_account, on_account}
use Rattle.srt_group_model.specs.Legs.{with_reservation}
use Rattle.srt_group_model.specs.Members.{has_id, find}
use Rattle.srt_group_model.specs.declared.Event.{Event}
use Rattle.srt_group_model.specs.declared.Leg.{Leg}
use Rattle.srt_group_model.specs.declared.Membership.{Membership}
use Rattle.srt_group_model.specs.declared.Account.{Account}
use Rattle.srt_connection_queue.specs.declared.queue.LegPoll.{LegPoll}
use Rattle.word_rows.specs.Tab.{tab}
use Rattle.word_rows.specs.Laws.Tab.{tab_length, tab_push}
use Rattle.srt_connection_queue.specs.Laws.Tab.{tab_place, tab_change, tab_without, tab_each, tab_found, tab_not_found, place_below, tab_passes}
use Rattle.word_rows.specs.Rows.{row_at, Closed}
use Rattle.word_rows.specs.Laws.Rows.{row_word, chunk_there, row_same, row_part, chunks_read}
use Rattle.srt_connection_queue.specs.Row.{put_row}
use Rattle.srt_connection_queue.specs.Laws.Row.{row_put, row_put_other, put_length}
use Rattle.srt_connection_queue.specs.Rows.{part_size, membership_part, row_size, membership_of, member_of, member_parts, Kept, with_membership}
use Rattle.srt_connection_queue.specs.Queue.{cleared, Pushed, queue_after, Polled}
use Rattle.srt_connection_members.specs.Members.{member_at, members_of, members_in, member_in, HasRow, new_member, RowLent, Changed, PushedAt, PolledAt, ChangedAll, Appended, Removed}

-- ---- laws

pub members_length : (n : ℕ) (t : List ℕ) → length (members_of n t) ≡ n
unfolding members_of
members_length n t = tab_length n (member_at t)

pub members_place : (n : ℕ) (t : List ℕ) (i : ℕ) → i < n → at_place i (members_of n t) ≡ Some (member_at t i)
unfolding members_of
members_place n t i h = tab_place n (member_at t) i h

-- the part of the table that is lent shows the member at that index
pub lent_member : (t : List ℕ) (i : ℕ) → member_of (take (i * row_size + row_size - i * row_size) (drop (i * row_size) t)) ≡ member_at t i
unfolding member_at
lent_member t i = ap member_of (row_part row_size t i)

-- a row that `as_chunks` lends shows the member at that index; cited by no proof, it stands for who reads `member_at`
pub row_shows : (i k : ℕ) (t : List ℕ) → i < k → member_of (get_or (first_chunks row_size k t) i []) ≡ member_at t i
unfolding member_at
row_shows i k t below = ap member_of (chunk_there row_size k i t below)

-- the rows that `as_chunks` lends show the members
pub rows_show : (n k : ℕ) (t : List ℕ) → n ≤ k → members_in (take n (first_chunks row_size k t)) ≡ members_of n t
unfolding members_of member_at
rows_show n k t below = chunks_read row_size member_of n k t below

module _ (i : ℕ) (t r : List ℕ) (there : HasRow i t) where
  pub changed_row : (f : Member → Member) → Kept r (f (member_at t i)) → Changed i f t (put_row row_size t i r)
  unfolding member_at members_of
  changed_row f kept =
      record {
        long = put_length row_size t r i there kept.long;
        here = here_now;
        others = others_now;
        members = λ n. tab_change n (member_at t) (member_at (put_row row_size t i r)) i f here_now others_now;
      }
    where
      here_now : member_at (put_row row_size t i r) i ≡ f (member_at t i)
      here_now = ap member_of (row_put row_size t r i there kept.long) ∙ kept.is

      others_now : (j : ℕ) → (j ≡ i → ⊥) → member_at (put_row row_size t i r) j ≡ member_at t j
      others_now j other = ap member_of (row_put_other row_size t r i there kept.long j other)

  pub pushed_row : (e : Event) (answer : Outcome) → Pushed (member_at t i) e answer r → PushedAt i e t answer (put_row row_size t i r)
  pushed_row e answer pushed =
      record { outcome = pushed.outcome; changed = changed_row (λ m. if_accepted answer (enqueue e m) m) pushed.kept }

  pub polled_row : (budget : ℕ) (answer : LegPoll) → Polled (member_at t i) budget answer r
      → PolledAt i budget t answer (put_row row_size t i r)
  polled_row budget answer polled =
      record { gave = polled.gave; changed = changed_row (λ m. with_queue (queue_after budget m.queue) m) polled.kept }

  pub appended_row : (m : Member) → Kept r m → Appended i m t (put_row row_size t i r)
  unfolding members_of
  appended_row m kept =
      let c = changed_row (λ x. m) kept in
      record {
        long = c.long;
        here = c.here;
        others = c.others;
        members =
            ap (λ (n : ℕ). tab n (member_at (put_row row_size t i r))) (add-one i)
            ∙ tab_push i (member_at t) (member_at (put_row row_size t i r)) m (λ j h. c.others j (λ e. omega arith)) c.here;
      }

-- the members that rows show, place by place
pub members_tab : (rows : List (List ℕ)) → tab (length rows) (member_in rows) ≡ members_in rows
unfolding tab
members_tab [] = refl
members_tab (row ∷ rows) = ap (λ (ms : List Member). member_of row ∷ ms) (members_tab rows)

pub members_front : (n : ℕ) (rows : List (List ℕ)) → n ≤ length rows → tab n (member_in rows) ≡ members_in (take n rows)
unfolding tab
members_front zero rows below = refl
members_front (suc n) [] below = absurd (omega arith)
members_front (suc n) (row ∷ rows) below = ap (λ (ms : List Member). member_of row ∷ ms) (members_front n rows (omega arith))

-- the row at the front of the rest of the table
pub part_lent : (i : ℕ) (t rest lent : List ℕ) → rest ≡ drop (i * row_size) t → lent ≡ take row_size rest → lent ≡ row_at row_size t i
unfolding row_at
part_lent i t rest lent back first = first ∙ ap (take row_size) back

-- a row was lent to a call of which it is known what it does to any row
module _ (i : ℕ) (t u : List ℕ) {P : List ℕ → List ℕ → Type 0} (there : HasRow i t) (lent : RowLent i t P u) where
  pub changed_lent : (f : Member → Member) → ((row left : List ℕ) → P row left → Kept left (f (member_of row))) → Changed i f t u
  unfolding member_at
  changed_lent f does = rw lent.back (changed_row i t lent.left there f (does _ _ lent.called))

  pub pushed_lent : (e : Event) (answer : Outcome) → ((row left : List ℕ) → P row left → Pushed (member_of row) e answer left) → PushedAt i e t answer u
  unfolding member_at
  pushed_lent e answer does = rw lent.back (pushed_row i t lent.left there e answer (does _ _ lent.called))

  pub polled_lent : (budget : ℕ) (answer : LegPoll) → ((row left : List ℕ) → P row left → Polled (member_of row) budget answer left)
      → PolledAt i budget t answer u
  unfolding member_at
  polled_lent budget answer does = rw lent.back (polled_row i t lent.left there budget answer (does _ _ lent.called))

  pub appended_lent : (m : Member) → ((row left : List ℕ) → P row left → Kept left m) → Appended i m t u
  appended_lent m does = rw lent.back (appended_row i t lent.left there m (does _ _ lent.called))

-- ---- laws of a changed row, for what is built on it

-- the row is also changed by g, where f and g do the same to it
pub changed_by : {f : Member → Member} (i : ℕ) (t u : List ℕ) (g : Member → Member) → Changed i f t u
    → f (member_at t i) ≡ g (member_at t i) → Changed i g t u
unfolding members_of
changed_by i t u g c same =
    record {
      long = c.long;
      here = c.here ∙ same;
      others = c.others;
      members = λ n. tab_change n (member_at t) (member_at u) i g (c.here ∙ same) c.others;
    }

-- a leg, a membership, an account or a reservation was put that is F of the one that was there
module _ {i : ℕ} {t u : List ℕ} where
  pub leg_changed : {l : Leg} (F : Leg → Leg) → Changed i (with_leg l) t u → l ≡ F (member_at t i).leg → Changed i (on_leg F) t u
  leg_changed F c is = changed_by i t u (on_leg F) c (ap (λ (x : Leg). with_leg x (member_at t i)) is)

  pub membership_changed : {x : Membership} (F : Membership → Membership) → Changed i (with_membership x) t u
      → x ≡ F (member_at t i).membership → Changed i (on_membership F) t u
  membership_changed F c is = changed_by i t u (on_membership F) c (ap (λ (x : Membership). with_membership x (member_at t i)) is)

  pub account_changed : {a : Account} (F : Account → Account) → Changed i (on_membership (with_account a)) t u
      → a ≡ F (member_at t i).membership.account → Changed i (on_account F) t u
  account_changed F c is = changed_by i t u (on_account F) c (ap (λ (a : Account). on_membership (with_account a) (member_at t i)) is)

  pub reservation_changed : {n : ℕ} (F : ℕ → ℕ) → Changed i (on_leg (with_reservation n)) t u
      → n ≡ F (member_at t i).leg.receiver.reserved → Changed i (on_leg (λ l. with_reservation (F l.receiver.reserved) l)) t u
  reservation_changed F c is =
      changed_by i t u (on_leg (λ l. with_reservation (F l.receiver.reserved) l)) c
      (ap (λ (n : ℕ). on_leg (with_reservation n) (member_at t i)) is)

-- one change after the other
pub changed_twice : {f g : Member → Member} (i : ℕ) (t u v : List ℕ) → Changed i f t u → Changed i g u v
    → Changed i (λ m. g (f m)) t v
unfolding members_of
changed_twice {f} {g} i t u v a b =
    record {
      long = b.long ∙ a.long;
      here = b.here ∙ ap g a.here;
      others = λ j h. b.others j h ∙ a.others j h;
      members =
          λ n.
          tab_change n (member_at t) (member_at v) i (λ m. g (f m)) (b.here ∙ ap g a.here) (λ j h. b.others j h ∙ a.others j h);
    }

pub unchanged : (i : ℕ) (t : List ℕ) → Changed i (λ m. m) t t
unfolding members_of
unchanged i t =
    record {
      long = refl;
      here = refl;
      others = λ j h. refl;
      members = λ n. tab_change n (member_at t) (member_at t) i (λ m. m) refl (λ j h. refl);
    }

-- row after row: those below i are changed, the others not yet
pub record Changing (i : ℕ) (f : Member → Member) (t u : List ℕ) : Type 0 where
  pub long : length u ≡ length t
  pub done : (j : ℕ) → j < i → member_at u j ≡ f (member_at t j)
  pub left : (j : ℕ) → i ≤ j → member_at u j ≡ member_at t j

pub changing_start : (f : Member → Member) (t : List ℕ) → Changing 0 f t t
changing_start f t = record { long = refl; done = λ j h. absurd (omega arith); left = λ j h. refl }

pub changing_on : (i : ℕ) (f : Member → Member) (t u v : List ℕ) → Changing i f t u → Changed i f u v → Changing (i + 1) f t v
changing_on i f t u v a b =
    record {
      long = b.long ∙ a.long;
      done = λ j h. one_more j h (dec_lt j i);
      left = λ j h. b.others j (λ e. omega arith) ∙ a.left j (omega arith);
    }
  where
    one_more : (j : ℕ) → j < i + 1 → Dec (j < i) → member_at v j ≡ f (member_at t j)
    one_more j h (yes l) = b.others j (λ e. omega arith) ∙ a.done j l
    one_more j h (no l) =
        let e : j ≡ i = omega arith in
        rw e (b.here ∙ ap f (a.left i (omega arith)))

pub changing_done : (i n : ℕ) (f : Member → Member) (t u : List ℕ) → n ≤ i → i ≤ n → Changing i f t u → ChangedAll n f t u
unfolding members_of
changing_done i n f t u l h c =
    record {
      long = c.long;
      others = λ j k. c.left j (omega arith);
      members = tab_each n (member_at t) (member_at u) f (λ j k. c.done j (omega arith));
    }

-- ---- rows that are made

-- a new member's row: its membership, its leg, and no event; cited by no proof, it stands for who reads `new_member`
pub new_put : (r₀ r₁ r₂ r₃ : List ℕ) (x : Membership) (l : Leg) → Kept r₁ (with_membership x (member_of r₀))
    → Kept r₂ (with_leg l (member_of r₁)) → Kept r₃ (cleared (member_of r₂)) → Kept r₃ (new_member x l)
new_put r₀ r₁ r₂ r₃ x l a b c =
    record { long = c.long; is = c.is ∙ ap cleared (b.is ∙ ap (with_leg l) a.is) }

-- ---- the row of an id

-- the first word of a row is its member's id; with the two after it, cited by no proof: they stand for who reads `find` over the words
pub id_word : (t : List ℕ) (i : ℕ) → get_or t (i * row_size) 0 ≡ (member_at t i).membership.id
unfolding member_at member_of member_parts membership_of
id_word t i = sym (row_word part_size (row_at row_size t i) membership_part 0 (omega arith) ∙ row_word row_size t i 0 (omega arith) ∙ ap (λ (k : ℕ). get_or t k 0) (omega arith))

module _ (n id : ℕ) (t : List ℕ) where
  pub found : (i : ℕ) → i < n → get_or t (i * row_size) 0 ≡ id → ((j : ℕ) → j < i → get_or t (j * row_size) 0 ≡ id → ⊥)
      → find id (members_of n t) ≡ Some i
  unfolding members_of
  found i h is before =
      tab_found (has_id id) n (member_at t) i h (eq-eqb (member_at t i).membership.id id (sym (id_word t i) ∙ is))
      (λ j k. ne_eqb (member_at t j).membership.id id (λ e. before j k (id_word t j ∙ e)))

  pub not_found : ((j : ℕ) → j < n → get_or t (j * row_size) 0 ≡ id → ⊥) → find id (members_of n t) ≡ None
  unfolding members_of
  not_found none_is =
      tab_not_found (has_id id) n (member_at t) (λ j k. ne_eqb (member_at t j).membership.id id (λ e. none_is j k (id_word t j ∙ e)))

-- an equation of options, the other way round
pub found_some : (o : Option ℕ) (i : ℕ) → Some i ≡ o → o ≡ Some i
found_some None i e = cc e
found_some (Some j) i e = cc e

pub found_none : (o : Option ℕ) → None ≡ o → o ≡ None
found_none None e = refl
found_none (Some j) e = cc e

-- the member that was found is there, and has the id
module _ (n id i : ℕ) (t : List ℕ) (is : Some i ≡ find id (members_of n t)) where
  pub found_below : i < n
  found_below =
      omega (arith, place_below (has_id id) (members_of n t) i (found_some (find id (members_of n t)) i is), members_length n t)

  pub found_id : (member_at t i).membership.id ≡ id
  unfolding members_of
  found_id =
      eqb-true (member_at t i).membership.id id (tab_passes (has_id id) n (member_at t) i (found_some (find id (members_of n t)) i is))

-- ---- a row is removed: the later rows move down

pub removed : (i n : ℕ) (t u : List ℕ) → i < n → n * row_size ≤ length t → Closed row_size t (i * row_size) (n * row_size) u → Removed i n t u
unfolding members_of member_at
removed i n t u h fits gap =
    record {
      long = gap.long;
      members =
          tab_without (n - 1) i (member_at t) (member_at u) (omega arith)
          (λ j k. ap member_of (row_same row_size t u j j (omega (arith, gap.long)) (omega arith) (λ w b. gap.low (j * row_size + w) (omega arith))))
          (λ j k l.
          ap member_of
          (row_same row_size t u j (suc j) (omega (arith, gap.long)) (omega arith)
          (λ w b. gap.high (j * row_size + w) (omega arith) (omega arith) ∙ ap (λ (x : ℕ). get_or t x 0) (omega arith))))
          ∙ ap (λ (x : ℕ). without_place i (tab x (member_at t))) (omega arith);
    }
