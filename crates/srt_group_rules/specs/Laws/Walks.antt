-- A test over the rows of a table, as a walk finds it: the first row that passes, or none.
use Rattle.std.specs.Prelude.{◌≡◌, Bool, length, map}
use Rattle.std.specs.List.{list_any, range_with_len}
use Rattle.std.proofs.Math.Path.{refl, ap, ap₂}
use Rattle.std.proofs.Common.{sym, ◌∙◌, arith, lt-ltb, le-ltb}
use Rattle.std.proofs.Math.Bool.{true, false, ◌||◌}
use Rattle.std.proofs.Math.Decide.{dec_lt}
use mathlib.Core.List.{List, [], ◌∷◌}
use Prim.Native.Nat.{ℕ, zero, suc, ◌+◌, ◌%◌, ◌≤◌, ◌<◌}
use Rattle.srt_group_model.specs.Tools.{any, All}
use Rattle.srt_group_model.specs.Laws.Reason.{or_left, or_right, or_yes_left, or_yes_right}
use Rattle.srt_group_model.specs.Backup.{max_history}
use Rattle.srt_group_model.specs.Validity.{max_queued}
use Rattle.srt_group_model.specs.declared.Event.{Event}
use Rattle.srt_connection_queue.specs.declared.rows.Ring.{Ring}
use Rattle.srt_connection_queue.specs.Laws.Chains.{passes, any_read}
use Rattle.srt_connection_queue.specs.Rows.{receiver_part, part, ring_of, event_in, queue_of, member_parts, member_of}
use Rattle.srt_group_tables.specs.declared.history.HistoryRing.{HistoryRing}
use Rattle.srt_group_tables.specs.Ring.{Arrays, entry_at, entries_of}
use Rattle.word_rows.specs.Tab.{tab}
use Rattle.word_rows.specs.Laws.Tab.{tab_length}
use Rattle.srt_group_rules.specs.Rules.{event_breaks_rule, queue_breaks_rule, entry_breaks_rule, history_breaks_rule}

-- ---- `any` over rows, place by place

module _ {A : Type 0} where
  pub any_there : (test : A → Bool) (n : ℕ) (f : ℕ → A) (i : ℕ) → i < n → test (f i) ≡ true → any test (tab n f) ≡ true
  unfolding any tab
  any_there test zero f i below yes_there = absurd (omega arith)
  any_there test (suc n) f zero below yes_there = or_yes_left _ _ yes_there
  any_there test (suc n) f (suc i) below yes_there =
      or_yes_right (test (f 0)) _ (any_there test n (λ k. f (suc k)) i (omega arith) yes_there)

  pub any_nowhere : (test : A → Bool) (n : ℕ) (f : ℕ → A) → ((i : ℕ) → i < n → test (f i) ≡ false) → any test (tab n f) ≡ false
  unfolding any tab
  any_nowhere test zero f never = refl
  any_nowhere test (suc n) f never = cc (never 0 (omega arith), any_nowhere test n (λ k. f (suc k)) (λ i below. never (suc i) (omega arith)))

  pub none_there : (test : A → Bool) (n : ℕ) (f : ℕ → A) → any test (tab n f) ≡ false → (i : ℕ) → i < n → test (f i) ≡ false
  unfolding any tab
  none_there test zero f absent i below = absurd (omega arith)
  none_there test (suc n) f absent zero below = or_left (test (f 0)) _ absent
  none_there test (suc n) f absent (suc i) below = none_there test n (λ k. f (suc k)) (or_right (test (f 0)) _ absent) i (omega arith)

  -- two tests that agree at each place
  pub any_same : {B : Type 0} (a : A → Bool) (b : B → Bool) (n : ℕ) (f : ℕ → A) (g : ℕ → B) → ((i : ℕ) → i < n → a (f i) ≡ b (g i))
      → any a (tab n f) ≡ any b (tab n g)
  unfolding any tab
  any_same a b zero f g same = refl
  any_same a b (suc n) f g same =
      ap₂ ◌||◌ (same 0 (omega arith)) (any_same a b n (λ k. f (suc k)) (λ k. g (suc k)) (λ i below. same (suc i) (omega arith)))

  pub all_of_tab : (P : A → Type 0) (n : ℕ) (f : ℕ → A) → ((i : ℕ) → i < n → P (f i)) → All P (tab n f)
  unfolding tab
  all_of_tab P zero f h = tt
  all_of_tab P (suc n) f h = (h 0 (omega arith), all_of_tab P n (λ i. f (suc i)) (λ i below. h (suc i) (omega arith)))

  pub any_or : (a b : A → Bool) (l : List A) → any (λ x. a x || b x) l ≡ (any a l || any b l)
  unfolding any
  any_or a b [] = refl
  any_or a b (x ∷ xs) = ap (λ (rest : Bool). (a x || b x) || rest) (any_or a b xs) ∙ apart (a x) (b x) (any a xs) (any b xs)
    where
      apart : (p q r s : Bool) → ((p || q) || (r || s)) ≡ ((p || r) || (q || s))
      apart true q r s = refl
      apart false true true s = refl
      apart false true false s = refl
      apart false false r s = refl

-- ---- where a walk stands: no row before it passes the test; cited by no proof, these laws stand for who reads `any` row by row

pub record Passed {A : Type 0} (test : A → Bool) (f : ℕ → A) (at : ℕ) : Type 0 where
  pub none : (i : ℕ) → i < at → test (f i) ≡ false

module _ {A : Type 0} (test : A → Bool) (f : ℕ → A) where
  pub passed_start : Passed test f 0
  passed_start = record { none = λ i below. absurd (omega arith) }

  -- a row was read and tested
  module _ (at : ℕ) (row : A) (answer : Bool) (read : row ≡ f at) (tested : answer ≡ test row) where
    pub passed_one : Passed test f at → answer ≡ false → Passed test f (at + 1)
    passed_one here not_it = record { none = λ i below. one_more i below (dec_lt i at) }
      where
        one_more : (i : ℕ) → i < at + 1 → Dec (i < at) → test (f i) ≡ false
        one_more i below (yes lower) = here.none i lower
        one_more i below (no other) =
            let last : i ≡ at = omega arith in rw last (ap test (sym read) ∙ sym tested ∙ not_it)

    pub stops_there : (n : ℕ) → at < n → answer ≡ true → true ≡ any test (tab n f)
    stops_there n inside it = sym (any_there test n f at inside (ap test (sym read) ∙ sym tested ∙ it))

  pub passed_all : (n at : ℕ) → Passed test f at → n ≤ at → false ≡ any test (tab n f)
  passed_all n at here all = sym (any_nowhere test n f (λ i below. here.none i (omega arith)))

-- ---- a leg's queue, as the ring in its row shows it

abbrev pub queued : List ℕ → Ring → ℕ → Event
queued row ring at = event_in row ((ring.start + at) % max_queued)

module _ (row : List ℕ) (ring : Ring) (read : ring ≡ ring_of (part row receiver_part)) where
  pub the_queue : (member_of row).queue ≡ tab ring.length (queued row ring)
  unfolding member_of member_parts queue_of
  the_queue = ap (λ (x : Ring). tab x.length (queued row x)) (sym read)

  pub queue_length : length (member_of row).queue ≡ ring.length
  queue_length = ap length the_queue ∙ tab_length ring.length (queued row ring)

  pub queue_too_long : max_queued < ring.length → true ≡ queue_breaks_rule (member_of row).queue
  unfolding queue_breaks_rule
  queue_too_long long = rw (lt-ltb max_queued (length (member_of row).queue) (omega (arith, queue_length)))

  pub queue_walked : {answer : Bool} → ring.length ≤ max_queued → answer ≡ any event_breaks_rule (tab ring.length (queued row ring))
      → answer ≡ queue_breaks_rule (member_of row).queue
  unfolding queue_breaks_rule
  queue_walked short walked =
      walked ∙ ap (any event_breaks_rule) (sym the_queue)
      ∙ ap (λ (long : Bool). long || any event_breaks_rule (member_of row).queue)
      (sym (le-ltb max_queued (length (member_of row).queue) (omega (arith, queue_length))))

-- ---- the history's ring

module _ (r : HistoryRing) (a : Arrays) where
  pub history_too_long : max_history < r.length → true ≡ history_breaks_rule (entries_of r a)
  unfolding history_breaks_rule
  history_too_long long =
      rw (lt-ltb max_history (length (entries_of r a)) (omega (arith, tab_length r.length (entry_at r a))))

  pub history_walked : {answer : Bool} → r.length ≤ max_history → answer ≡ any entry_breaks_rule (entries_of r a)
      → answer ≡ history_breaks_rule (entries_of r a)
  unfolding history_breaks_rule
  history_walked short walked =
      walked
      ∙ ap (λ (long : Bool). long || any entry_breaks_rule (entries_of r a))
      (sym (le-ltb max_history (length (entries_of r a)) (omega (arith, tab_length r.length (entry_at r a)))))

-- ---- a test of each place below n, as a chain asks it

ranged : {A : Type 0} (n a : ℕ) (f g : ℕ → A) → ((i : ℕ) → f (a + i) ≡ g i) → map f (range_with_len a n) ≡ tab n g
unfolding tab
ranged zero a f g same = refl
ranged (suc n) a f g same =
    ap₂ ◌∷◌ (let here : a ≡ a + 0 = omega arith in ap f here ∙ same 0)
    (ranged n (a + 1) f (λ i. g (suc i)) (λ i. let later : a + 1 + i ≡ a + suc i = omega arith in ap f later ∙ same (suc i)))

pub any_ranged : {A : Type 0} (test : A → Bool) (n : ℕ) (f : ℕ → A) → list_any (passes f test) (range_with_len 0 n) ≡ any test (tab n f)
any_ranged test n f =
    any_read f test (range_with_len 0 n)
    ∙ ap (any test) (ranged n 0 f f (λ i. let same : 0 + i ≡ i = omega arith in ap f same))
