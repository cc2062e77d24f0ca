-- Which members there are, over every call: only an addition and a removal change the list of ids, so ids stay unique and members
-- stay at most 64: the rule `id_twice` of validity is kept.
use Rattle.std.specs.Prelude.{◌≡◌, refl, Bool, true, false, ◌||◌, List, [], ◌∷◌, ◌++◌, ℕ, zero, suc, ◌≤◌, eqb, length, Some}
use Rattle.std.proofs.Common.{sym, ap, ap₂, ◌∙◌, arith, eqb-true, eq-eqb, ne_eqb, length-append}
use Rattle.std.proofs.lemmas.Bool.{eqb-false}
use Rattle.srt_group_model.specs.Tools.{any, place_of, at_place, change, each, without_place}
use Rattle.srt_group_model.specs.Laws.Reason.{when_true, when_false, if_given, by_test, not_both, or_left, or_right, some_inj, none_some, none_of, all_at}
use Rattle.srt_group_model.specs.State.{Member, State, with_members}
use Rattle.srt_group_model.specs.Legs.{handed}
use Rattle.srt_group_model.specs.Members.{id_of, has_id, find}
use Rattle.srt_group_model.specs.Removal.{retire, take_out}
use Rattle.srt_group_model.specs.Cells.{is_among}
use Rattle.srt_group_model.specs.Validity.{max_members, one_twice}
use Rattle.srt_group_model.specs.Calls.{new_member}
use Rattle.srt_group_model.specs.Lent.{Lent, Call, perform}
use Rattle.srt_group_model.specs.Sound.{ids}
use Rattle.srt_group_model.specs.Laws.HonestLog.{relabelled_ids}
use Rattle.srt_group_model.specs.Laws.CallLaw.{Joining, Calling, RefreshLaw, CollectLaw, PollLaw, CallLaw}
use Rattle.srt_group_model.specs.Laws.EveryCall.{call_keeps}
use Rattle.srt_group_model.specs.Laws.MemberMoves.{moved_relabelled}
use Rattle.srt_group_model.specs.Laws.Released.{deliver_relabelled}
use Rattle.srt_group_model.specs.declared.Leg.{Leg}

-- unique ids, and at most 64 members
pub record Named (s : State) : Type 0 where
  pub unique : one_twice (ids s.members) ≡ false
  pub few : length s.members ≤ max_members

ids_length : (ms : List Member) → length (ids ms) ≡ length ms
unfolding each
ids_length [] = refl
ids_length (m ∷ ms) = ap suc (ids_length ms)

named_same : (s t : State) → ids t.members ≡ ids s.members → Named s → Named t
named_same s t b h =
    record {
      unique = ap one_twice b ∙ h.unique;
      few = omega (arith, h.few, ids_length s.members, ids_length t.members, ap (λ (l : List ℕ). length l) b);
    }

-- a change at one place that leaves the ids
pub changed_ids : (i : ℕ) (f : Member → Member) (ms : List Member) → ((m : Member) → id_of (f m) ≡ id_of m) → ids (change i f ms) ≡ ids ms
unfolding change each
changed_ids zero f [] h = refl
changed_ids (suc i) f [] h = refl
changed_ids zero f (m ∷ ms) h = ap (λ (k : ℕ). k ∷ ids ms) (h m)
changed_ids (suc i) f (m ∷ ms) h = ap (λ (l : List ℕ). id_of m ∷ l) (changed_ids i f ms h)

-- ---- additions and removals

pub ids_append : (ms ns : List Member) → ids (ms ++ ns) ≡ ids ms ++ ids ns
unfolding each
ids_append [] ns = refl
ids_append (m ∷ ms) ns = ap (λ (l : List ℕ). id_of m ∷ l) (ids_append ms ns)

pub among_append : (n x : ℕ) (l : List ℕ) → is_among n (l ++ (x ∷ [])) ≡ is_among n l || eqb x n
unfolding any
among_append n x [] = or_false (eqb x n)
  where
    or_false : (b : Bool) → b || false ≡ b
    or_false true = refl
    or_false false = refl
among_append n x (m ∷ l) = ap (λ (b : Bool). eqb m n || b) (among_append n x l) ∙ or_assoc (eqb m n) (is_among n l) (eqb x n)
  where
    or_assoc : (a b c : Bool) → a || (b || c) ≡ (a || b) || c
    or_assoc true b c = refl
    or_assoc false b c = refl

pub once_append : (x : ℕ) (l : List ℕ) → one_twice l ≡ false → is_among x l ≡ false → one_twice (l ++ (x ∷ [])) ≡ false
unfolding one_twice any
once_append x [] h g = refl
once_append x (m ∷ l) h g =
    ap₂ (λ (a b : Bool). a || b)
    (among_append m x l
    ∙ ap₂ (λ (a b : Bool). a || b) (or_left (is_among m l) _ h) (other m x (or_left (eqb m x) _ g)))
    (once_append x l (or_right (is_among m l) _ h) (or_right (eqb m x) _ g))
  where
    other : (m x : ℕ) → eqb m x ≡ false → eqb x m ≡ false
    other m x e = by_test (eqb x m) (λ f. not_both (eq-eqb m x (sym (eqb-true x m f))) e) (λ f. f)

pub among_any : (id : ℕ) (ms : List Member) → is_among id (ids ms) ≡ any (has_id id) ms
unfolding any each
among_any id [] = refl
among_any id (m ∷ ms) = ap (λ (b : Bool). has_id id m || b) (among_any id ms)

-- ids are unique, so that the member at a place is the one that is found by its id
pub find_at : (i : ℕ) (m : Member) (ms : List Member) → one_twice (ids ms) ≡ false → at_place i ms ≡ Some m → find (id_of m) ms ≡ Some i
unfolding one_twice each at_place place_of any
find_at i m [] once at = none_some at
find_at zero m (x ∷ xs) once at = when_true _ _ _ (eq-eqb (id_of x) (id_of m) (ap id_of (some_inj at)))
find_at (suc i) m (x ∷ xs) once at =
    let other = all_at (λ (y : Member). has_id (id_of x) y ≡ false) i m xs at (none_of (has_id (id_of x)) xs (sym (among_any (id_of x) xs) ∙ or_left (is_among (id_of x) (ids xs)) _ once)) in
    when_false _ _ _ (ne_eqb (id_of x) (id_of m) (λ e. eqb-false (id_of m) (id_of x) other (sym e)))
    ∙ if_given _ _ (find_at i m xs (or_right (is_among (id_of x) (ids xs)) _ once) at)

pub without_among : (n i : ℕ) (ms : List Member) → is_among n (ids ms) ≡ false → is_among n (ids (without_place i ms)) ≡ false
unfolding any each without_place
without_among n zero [] h = h
without_among n (suc i) [] h = h
without_among n zero (m ∷ ms) h = or_right (eqb (id_of m) n) _ h
without_among n (suc i) (m ∷ ms) h =
    ap₂ (λ (a b : Bool). a || b) (or_left (eqb (id_of m) n) _ h) (without_among n i ms (or_right (eqb (id_of m) n) _ h))

pub without_once : (i : ℕ) (ms : List Member) → one_twice (ids ms) ≡ false → one_twice (ids (without_place i ms)) ≡ false
unfolding each one_twice without_place
without_once zero [] h = h
without_once (suc i) [] h = h
without_once zero (m ∷ ms) h = or_right (is_among (id_of m) (ids ms)) _ h
without_once (suc i) (m ∷ ms) h =
    ap₂ (λ (a b : Bool). a || b) (without_among (id_of m) i ms (or_left (is_among (id_of m) (ids ms)) _ h))
    (without_once i ms (or_right (is_among (id_of m) (ids ms)) _ h))

without_length : (i : ℕ) (ms : List Member) → length (without_place i ms) ≤ length ms
unfolding without_place
without_length zero [] = omega arith
without_length (suc i) [] = omega arith
without_length zero (m ∷ ms) = omega arith
without_length (suc i) (m ∷ ms) = omega (arith, without_length i ms)

-- ---- every call

join_named : (s : State) (id weight : ℕ) (l : Leg) → Joining id weight l s → Named s → Named (with_members (s.members ++ (new_member id weight (handed l) s ∷ [])) s)
unfolding new_member each
join_named s id weight l j h =
    let m = new_member id weight (handed l) s in
    record {
      unique = ap one_twice (ids_append s.members (m ∷ [])) ∙ once_append id (ids s.members) h.unique (among_any id s.members ∙ j.fresh);
      few = omega (arith, j.room, length-append s.members (m ∷ []));
    }

take_out_named : (s : State) (i : ℕ) (m : Member) → Named s → Named (take_out i m s)
unfolding take_out
take_out_named s i m h = record { unique = without_once i s.members h.unique; few = omega (arith, h.few, without_length i s.members) }

names_refreshes : RefreshLaw (λ hand s log. Named s)
names_refreshes =
    record {
      moves = λ s i m f at move h. named_same s _ (relabelled_ids s.members _ (moved_relabelled i m f s.members at move)) h;
      binds = λ s i m at a unbound h. named_same s _ refl h;
      sets_base = λ s b e source h. named_same s _ refl h;
    }

names_collects : CollectLaw (λ hand s log. Named s)
names_collects =
    record {
      continues = λ s b h. named_same s _ refl h;
      turns = λ s i m at h. named_same s _ refl h;
      discards = λ s i m e f d g h. named_same s _ (changed_ids i _ s.members (λ x. refl)) h;
      holds = λ s i m e f d g h. named_same s _ (changed_ids i _ s.members (λ x. refl)) h;
      reports = λ s i m e f d few h. named_same s _ (changed_ids i _ s.members (λ x. refl)) h;
    }

names_polls : PollLaw (λ hand s log. Named s)
names_polls =
    record {
      gives = λ s h. named_same s _ refl h;
      skips = λ s base p tested time b n near h. named_same s _ refl h;
      delivers = λ s base p b e h. named_same s _ (relabelled_ids s.members _ (deliver_relabelled base p s)) h;
    }

names_law : (k : Calling) → CallLaw k (λ hand s log. Named s)
unfolding retire
names_law k =
    record {
      refreshing = names_refreshes;
      collecting = λ poll. names_collects;
      polling = λ poll. names_polls;
      joins = λ s id weight l queue is j h. join_named s id weight l j h;
      leaves = λ s i m is at h. take_out_named s i m h;
      retires = λ s id base p is e h. named_same s _ refl h;
      takes = λ payload takes free h. h;
      puts = λ s cell payload takes accepted short unused h. h;
      lets_go = λ s cell h. h;
      queues_data = λ s i m cell d payload is accepted at full unfit short h. named_same s _ (changed_ids i _ s.members (λ x. refl)) h;
      queues_event = λ s i m id kind reason is at full some_kind known fits h. named_same s _ (changed_ids i _ s.members (λ x. refl)) h;
      numbers = λ s sequence h. named_same s _ refl h;
      remembers = λ s i m e at next short fits h. named_same s _ refl h;
      trims = λ s l h. named_same s _ refl h;
    }

-- Over every call ids stay unique, and members stay at most 64.
pub names_kept : (c : Call) (lent : Lent) (s : State) → Named s → Named (perform c lent s).state
names_kept c lent s h = call_keeps (λ hand s log. Named s) c lent s (names_law _) h
