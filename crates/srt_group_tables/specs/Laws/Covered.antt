-- Laws of the packets that a run covers: where they stand, and that those that stand there are the definition's.
use Rattle.std.specs.Option.{MatchOption, unwrap_or}
use Rattle.std.specs.Prelude.{None, Option, Some, ◌≡◌, refl, Bool, true, false, not, List, [], ◌∷◌, ◌++◌, length}
use Rattle.std.proofs.Math.Path.{ap}
use Rattle.std.proofs.Common.{sym, ◌∙◌, append-nil}
use Prim.Native.Nat.{ℕ, zero, suc, ◌+◌, ◌-◌, ◌≤◌, ◌<◌}
use native.Mathlib.Omega.{arith}
use borrow.Author.Tests.{le-ltb, ltb-false}
use Rattle.word_rows.specs.Tab.{tab}
use Rattle.word_rows.specs.Laws.Tab.{tab_same, tab_none, tab_push}
use Rattle.srt_protocol.specs.Sequence.{half, sequence_distance}
use Rattle.srt_protocol.specs.Laws.Circle.{distance_up, distance_round}
use Rattle.srt_group_model.specs.declared.Packet.{Packet}
use Rattle.srt_group_model.specs.Tools.{if_true◌then◌else◌, such_that}
use Rattle.srt_group_model.specs.Nearest.{sequence_of, is_covered, covered, not_covered}
use Rattle.srt_group_model.specs.Legs.{largest_sequence}
use Rattle.srt_group_model.specs.Validity.{ascends}
use Rattle.srt_group_tables.specs.declared.pending.Covered.{Covered}
use Rattle.srt_group_tables.specs.Packets.{packet_at, packets, packets_between, Placed, Holds, Without}
use Rattle.srt_group_tables.specs.Covered.{Small, CoveredUntil, Covers, Within, packets_at, packets_elsewhere}
use Rattle.srt_group_tables.specs.Laws.PacketLaws.{ascends_le}

-- ---- the elements from a place up to another

module _ {A : Type 0} (f : ℕ → A) where
  abbrev pub between : (a b : ℕ) → List A
  between a b = tab (b - a) (λ i. f (a + i))

  pub between_none : (a b : ℕ) → b ≤ a → between a b ≡ []
  between_none a b past = tab_none (b - a) (λ i. f (a + i)) (omega arith)

  between_whole : (n : ℕ) → between 0 n ≡ tab n f
  between_whole n =
      let size : n - 0 ≡ n = omega arith in
      ap (λ (m : ℕ). tab m (λ i. f (0 + i))) size ∙ tab_same n f (λ i. f (0 + i)) (λ i below. ap f (omega arith))

  between_first : (a b : ℕ) → a < b → between a b ≡ f a ∷ between (suc a) b
  unfolding tab
  between_first a b less =
      let size : b - a ≡ suc (b - suc a) = omega arith in
      let here : a + 0 ≡ a = omega arith in
      ap (λ (m : ℕ). tab m (λ i. f (a + i))) size
      ∙ cc (ap f here, tab_same (b - suc a) (λ i. f (suc a + i)) (λ i. f (a + suc i)) (λ i below. ap f (omega arith)))

  pub between_push : (a b : ℕ) → a ≤ b → between a (b + 1) ≡ between a b ++ (f b ∷ [])
  between_push a b ordered =
      let size : b + 1 - a ≡ suc (b - a) = omega arith in
      ap (λ (m : ℕ). tab m (λ i. f (a + i))) size
      ∙ tab_push (b - a) (λ i. f (a + i)) (λ i. f (a + i)) (f b) (λ i below. refl) (ap f (omega arith))

  -- those from a up to b pass a test, or fail it
  module _ (test : A → Bool) where
    such_that_yes : (x : A) (xs : List A) → test x ≡ true → such_that test (x ∷ xs) ≡ x ∷ such_that test xs
    unfolding such_that if_true◌then◌else◌
    such_that_yes x xs passes = rw passes

    such_that_no : (x : A) (xs : List A) → test x ≡ false → such_that test (x ∷ xs) ≡ such_that test xs
    unfolding such_that if_true◌then◌else◌
    such_that_no x xs fails = rw fails

    passing : (n a b c : ℕ) → b ≡ a + n → b ≤ c → ((k : ℕ) → a ≤ k → k < b → test (f k) ≡ true)
        → such_that test (between a c) ≡ between a b ++ such_that test (between b c)
    passing zero a b c is within pass =
        let same : a ≡ b = omega arith in
        ap (λ (k : ℕ). such_that test (between k c)) same
        ∙ ap (λ (l : List A). l ++ such_that test (between b c)) (sym (between_none a b (omega arith)))
    passing (suc n) a b c is within pass =
        ap (such_that test) (between_first a c (omega arith))
        ∙ such_that_yes (f a) (between (suc a) c) (pass a (omega arith) (omega arith))
        ∙ ap (λ (l : List A). f a ∷ l) (passing n (suc a) b c (omega arith) within (λ k higher lower. pass k (omega arith) lower))
        ∙ ap (λ (l : List A). l ++ such_that test (between b c)) (sym (between_first a b (omega arith)))

    failing : (n a b c : ℕ) → b ≡ a + n → b ≤ c → ((k : ℕ) → a ≤ k → k < b → test (f k) ≡ false)
        → such_that test (between a c) ≡ such_that test (between b c)
    failing zero a b c is within fail =
        let same : a ≡ b = omega arith in ap (λ (k : ℕ). such_that test (between k c)) same
    failing (suc n) a b c is within fail =
        ap (such_that test) (between_first a c (omega arith))
        ∙ such_that_no (f a) (between (suc a) c) (fail a (omega arith) (omega arith))
        ∙ failing n (suc a) b c (omega arith) within (λ k higher lower. fail k (omega arith) lower)

    none_left : (c : ℕ) → such_that test (between c c) ≡ []
    unfolding such_that
    none_left c = ap (such_that test) (between_none c c (omega arith))

-- two parts behind each other
tab_two : {A : Type 0} (m n : ℕ) (f g h : ℕ → A) → ((i : ℕ) → i < m → h i ≡ f i) → ((i : ℕ) → i < n → h (m + i) ≡ g i)
    → tab (m + n) h ≡ tab m f ++ tab n g
unfolding tab
tab_two zero n f g h low high =
    let size : zero + n ≡ n = omega arith in
    ap (λ (k : ℕ). tab k h) size ∙ tab_same n g h (λ i below. ap h (omega arith) ∙ high i below)
tab_two (suc m) n f g h low high =
    let size : suc m + n ≡ suc (m + n) = omega arith in
    ap (λ (k : ℕ). tab k h) size
    ∙ cc (
      low 0 (omega arith),
      tab_two m n (λ i. f (suc i)) g (λ i. h (suc i)) (λ i below. low (suc i) (omega arith)) (λ i below. ap h (omega arith) ∙ high i below),
    )

-- ---- the walk: it ends at the first packet that is not covered, or behind the last

pub walked : (first run : ℕ) (words : List ℕ) (from end : ℕ) → from ≤ end → (found : Option ℕ)
    → MatchOption found ((k : ℕ) → from ≤ k → k < end → is_covered first run (packet_at words k) ≡ true)
    (λ i. (from ≤ i) × (i < end) × (is_covered first run (packet_at words i) ≡ false) × ((k : ℕ) → from ≤ k → k < i → is_covered first run (packet_at words k) ≡ true))
    → CoveredUntil first run words from end (unwrap_or found end)
walked first run words from end ordered None all =
    record { after = ordered; within = omega arith; covered = all; ended = λ inside. absurd (omega arith) }
walked first run words from end ordered (Some i) there =
    record { after = there.0; within = omega (arith, there.1); covered = there.3; ended = λ inside. there.2 }

-- ---- where the walks end all that is covered ends: what is behind is farther from the run's first sequence

on_circle : (n : ℕ) → n ≤ largest_sequence → n < half + half
unfolding half
on_circle n small = omega arith

module _ (first run : ℕ) (words : List ℕ) (count at : ℕ) (up : ascends (packets count words) ≡ true) (small : Small words count first)
    (placed : Placed words count first at) where
  distance_to : ℕ → ℕ
  distance_to k = sequence_distance first (sequence_of (packet_at words k))

  farther_above : (j k : ℕ) → at ≤ j → j ≤ k → k < count → distance_to j ≤ distance_to k
  unfolding distance_to
  farther_above j k higher ordered inside =
      omega (
        arith,
        distance_up half first (sequence_of (packet_at words j)) (placed.above j higher (omega arith)) (on_circle _ (small.held j (omega arith))),
        distance_up half first (sequence_of (packet_at words k)) (placed.above k (omega arith) inside) (on_circle _ (small.held k inside)),
        ascends_le count (packet_at words) up j k ordered inside,
      )

  farther_below : (j k : ℕ) → j ≤ k → k < at → distance_to j ≤ distance_to k
  unfolding distance_to
  farther_below j k ordered lower =
      omega (
        arith,
        distance_round half first (sequence_of (packet_at words j)) (placed.below j (omega arith)) (on_circle first small.run),
        distance_round half first (sequence_of (packet_at words k)) (placed.below k lower) (on_circle first small.run),
        ascends_le count (packet_at words) up j k ordered (omega (arith, placed.within)),
      )

  not_farther : (j k : ℕ) → distance_to j ≤ distance_to k → is_covered first run (packet_at words j) ≡ false
      → is_covered first run (packet_at words k) ≡ false
  unfolding distance_to
  not_farther j k less fails = le-ltb (distance_to k) run (omega (arith, ltb-false (distance_to j) run fails))

  pub places_covered : (low end : ℕ) → CoveredUntil first run words 0 at low → CoveredUntil first run words at count end
      → Covers first run words count (record { low = low; from = at; end = end })
  places_covered low end below above =
      record {
        within = record { low = below.within; from = above.after; end = above.within };
        low = λ k lower. below.covered k (omega arith) lower;
        not_between = λ k higher lower. not_farther low k (farther_below low k higher lower) (below.ended (omega arith));
        high = above.covered;
        not_above =
            λ k higher inside.
            not_farther end k (farther_above end k above.after higher inside) (above.ended (omega arith));
      }

-- ---- what stands there is what the definition releases, and what stands elsewhere is what it keeps

module _ {first run : ℕ} {words : List ℕ} {count : ℕ} {r : Covered} (here : Covers first run words count r) where
  pub covered_are : covered first run (packets count words) ≡ packets_at r words
  covered_are =
      ap (such_that test) (sym (between_whole (packet_at words) count))
      ∙ passing (packet_at words) test r.low 0 r.low count (omega arith) (omega (arith, here.within.low, here.within.from, here.within.end)) (λ k higher lower. here.low k lower)
      ∙ ap (λ (l : List Packet). packets_between 0 r.low words ++ l)
      (failing (packet_at words) test (r.from - r.low) r.low r.from count (omega (arith, here.within.low)) (omega (arith, here.within.from, here.within.end)) here.not_between
      ∙ passing (packet_at words) test (r.end - r.from) r.from r.end count (omega (arith, here.within.from)) here.within.end here.high
      ∙ ap (λ (l : List Packet). packets_between r.from r.end words ++ l)
      (failing (packet_at words) test (count - r.end) r.end count count (omega (arith, here.within.end)) (omega arith) here.not_above
      ∙ none_left (packet_at words) test count)
      ∙ append-nil (packets_between r.from r.end words))
    where
      test : Packet → Bool
      test = is_covered first run

  pub not_covered_are : not_covered first run (packets count words) ≡ packets_elsewhere count r words
  not_covered_are =
      ap (such_that test) (sym (between_whole (packet_at words) count))
      ∙ failing (packet_at words) test r.low 0 r.low count (omega arith) (omega (arith, here.within.low, here.within.from, here.within.end)) (λ k higher lower. ap not (here.low k lower))
      ∙ passing (packet_at words) test (r.from - r.low) r.low r.from count (omega (arith, here.within.low)) (omega (arith, here.within.from, here.within.end))
      (λ k higher lower. ap not (here.not_between k higher lower))
      ∙ ap (λ (l : List Packet). packets_between r.low r.from words ++ l)
      (failing (packet_at words) test (r.end - r.from) r.from r.end count (omega (arith, here.within.from)) here.within.end
      (λ k higher lower. ap not (here.high k higher lower))
      ∙ passing (packet_at words) test (count - r.end) r.end count count (omega (arith, here.within.end)) (omega arith)
      (λ k higher lower. ap not (here.not_above k higher lower))
      ∙ ap (λ (l : List Packet). packets_between r.end count words ++ l) (none_left (packet_at words) test count)
      ∙ append-nil (packets_between r.end count words))
    where
      test : Packet → Bool
      test p = not (is_covered first run p)

-- ---- both ranges taken out

pub covered_removed : (words between_them after : List ℕ) (count : ℕ) (r : Covered) → Within count r → Without words count r.from r.end between_them
    → Without between_them (count - (r.end - r.from)) 0 r.low after
    → (count - (r.end - r.from) - r.low ≤ count)
    × Holds (length words) after (count - (r.end - r.from) - r.low) (packets_elsewhere count r words)
covered_removed words mid after count r within first second = (
  omega arith,
  record {
    length_kept = second.long ∙ first.long;
    is =
        let size : count - (r.end - r.from) - r.low ≡ r.from - r.low + (count - r.end) = omega (arith, within.low, within.from, within.end) in
        ap (λ (n : ℕ). packets n after) size
        ∙ tab_two (r.from - r.low) (count - r.end) (λ i. packet_at words (r.low + i)) (λ i. packet_at words (r.end + i)) (packet_at after) low high;
  },
)
  where
    low : (i : ℕ) → i < r.from - r.low → packet_at after i ≡ packet_at words (r.low + i)
    low i inside =
        second.high i (omega arith) (omega (arith, within.low, within.from, within.end))
        ∙ first.low (i + (r.low - 0)) (omega arith)
        ∙ ap (packet_at words) (omega arith)

    high : (i : ℕ) → i < count - r.end → packet_at after (r.from - r.low + i) ≡ packet_at words (r.end + i)
    high i inside =
        second.high (r.from - r.low + i) (omega arith) (omega (arith, within.low, within.from, within.end))
        ∙ first.high (r.from - r.low + i + (r.low - 0)) (omega (arith, within.low)) (omega (arith, within.low, within.from, within.end))
        ∙ ap (packet_at words) (omega (arith, within.low, within.from, within.end))
