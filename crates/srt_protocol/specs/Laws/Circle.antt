-- What is proved of the definitions in specs/Circle.antt, with what the proofs need.
use Rattle.std.specs.Prelude.{◌≡◌, ℕ, ◌+◌, ◌-◌, ◌%◌, ◌<◌, ◌≤◌, Bool, true, false, ◌&&◌, ◌⊎◌, ◌≢◌, nat_lt, refl}
use Rattle.std.proofs.Common.{sym, ap, ◌∙◌, inl, inr, mod-eq_of_lt, mod-lt, arith, lt-ltb, le-ltb}
use Rattle.std.proofs.Math.Nat.{add-mod_right, mod-add-mod, add-mod-mod, mod-mod, mod-mod_of_dvd, dvd-add, dvd_refl}
use Rattle.std.proofs.Math.Decide.{dec_lt, dec_le}
use Rattle.srt_protocol.specs.Circle.{distance, before, further}

-- ---- the distance of two numbers of the circle is one of two differences

pub distance_up : (h a b : ℕ) → a ≤ b → b < h + h → distance h a b ≡ b - a
unfolding distance
distance_up h a b l u =
    ap (λ (x : ℕ). (b + (h + h - x)) % (h + h)) (mod-eq_of_lt {n = a} {m = h + h} (omega arith))
    ∙ ap (λ (x : ℕ). x % (h + h)) split
    ∙ add-mod_right (b - a) (h + h) ∙ mod-eq_of_lt {n = b - a} {m = h + h} (omega arith)
  where
    split : b + (h + h - a) ≡ b - a + (h + h)
    split = omega arith

pub distance_round : (h a b : ℕ) → b < a → a < h + h → distance h a b ≡ b + (h + h) - a
unfolding distance
distance_round h a b l u =
    ap (λ (x : ℕ). (b + (h + h - x)) % (h + h)) (mod-eq_of_lt {n = a} {m = h + h} u)
    ∙ mod-eq_of_lt {n = b + (h + h - a)} {m = h + h} (omega arith) ∙ omega arith

-- ---- only the places on the circle count

pub distance_from_mod : (h a b : ℕ) → distance h (a % (h + h)) b ≡ distance h a b
unfolding distance
distance_from_mod h a b = ap (λ (x : ℕ). (b + (h + h - x)) % (h + h)) (mod-mod a (h + h))

pub distance_to_mod : (h a b : ℕ) → distance h a (b % (h + h)) ≡ distance h a b
unfolding distance
distance_to_mod h a b = mod-add-mod b (h + h) (h + h - a % (h + h))

pub distance_mod : (h a b : ℕ) → distance h a b ≡ distance h (a % (h + h)) (b % (h + h))
distance_mod h a b = sym (distance_from_mod h a (b % (h + h)) ∙ distance_to_mod h a b)

pub distance_lt : (h a b : ℕ) → 0 < h → distance h a b < h + h
unfolding distance
distance_lt h a b p = mod-lt (b + (h + h - a % (h + h))) {m = h + h} (omega arith)

pub distance_self : (h a : ℕ) → 0 < h → distance h a a ≡ 0
distance_self h a p =
    distance_mod h a a
    ∙ distance_up h (a % (h + h)) (a % (h + h)) (omega arith) (mod-lt a {m = h + h} (omega arith)) ∙ omega arith

-- ---- there, back and further on

-- what is added to a and taken off again with a's place leaves the rest
round_trip : (c a n : ℕ) → 0 < c → (a + (n + (c - a % c))) % c ≡ n % c
round_trip c a n p =
    sym (mod-add-mod a c (n + (c - a % c)))
    ∙ ap (λ (x : ℕ). x % c) cancel ∙ add-mod_right n c
  where
    cancel : a % c + (n + (c - a % c)) ≡ n + c
    cancel = omega (arith, mod-lt a {m = c} p)

pub distance_further : (h a n : ℕ) → 0 < h → distance h a (further h a n) ≡ n % (h + h)
unfolding distance further
distance_further h a n p =
    mod-add-mod (a + n) (h + h) (h + h - a % (h + h))
    ∙ ap (λ (x : ℕ). x % (h + h)) group ∙ round_trip (h + h) a n (omega arith)
  where
    group : a + n + (h + h - a % (h + h)) ≡ a + (n + (h + h - a % (h + h)))
    group = omega arith

pub further_distance : (h a b : ℕ) → 0 < h → further h a (distance h a b) ≡ b % (h + h)
unfolding distance further
further_distance h a b p =
    add-mod-mod a (b + (h + h - a % (h + h))) (h + h) ∙ round_trip (h + h) a b (omega arith)

module _ (h a b : ℕ) (p : 0 < h) where
  abbrev Back : ℕ → ℕ → Type 0
  Back there back = (there ≡ 0 → back ≡ 0) × (0 < there → there + back ≡ h + h)

  -- there and back is once round, or nothing
  back_of : (x y : ℕ) → x < h + h → y < h + h → Back (distance h x y) (distance h y x)
  back_of x y u v = go (dec_lt x y) (dec_lt y x)
    where
      go : Dec (x < y) → Dec (y < x) → Back (distance h x y) (distance h y x)
      go (yes l) m = (
        (λ e. omega (arith, distance_up h x y (omega arith) v)),
        (λ e. omega (arith, distance_up h x y (omega arith) v, distance_round h y x l v)),
      )
      go (no l) (yes m) = (
        (λ e. omega (arith, distance_round h x y m u)),
        (λ e. omega (arith, distance_up h y x (omega arith) u, distance_round h x y m u)),
      )
      go (no l) (no m) = (
        (λ e. omega (arith, distance_up h y x (omega arith) u)),
        (λ e. omega (arith, distance_up h x y (omega arith) v)),
      )

  back : Back (distance h a b) (distance h b a)
  back =
      rw (distance_mod h a b, distance_mod h b a)
      (back_of (a % (h + h)) (b % (h + h)) (mod-lt a {m = h + h} (omega arith)) (mod-lt b {m = h + h} (omega arith)))

  pub distance_back : 0 < distance h a b → distance h a b + distance h b a ≡ h + h
  distance_back = back.1

  pub distance_back_zero : distance h a b ≡ 0 → distance h b a ≡ 0
  distance_back_zero = back.0

-- ---- the order

not_both : (t : Bool) → t ≡ true → t ≢ false
not_both t p q = let different : ◌≡◌ {A = ℕ} 0 1 = cc in omega arith

before_yes : (h a b : ℕ) → 0 < distance h a b → distance h a b < h → before h a b ≡ true
unfolding before
before_yes h a b l u = rw (lt-ltb 0 (distance h a b) l, lt-ltb (distance h a b) h u)

before_no_zero : (h a b : ℕ) → distance h a b ≡ 0 → before h a b ≡ false
unfolding before
before_no_zero h a b e = rw e

before_no_half : (h a b : ℕ) → h ≤ distance h a b → before h a b ≡ false
unfolding before
before_no_half h a b l = rw (le-ltb (distance h a b) h l) (and_false (nat_lt 0 (distance h a b)))
  where
    and_false : (t : Bool) → (t && false) ≡ false
    and_false true = refl
    and_false false = refl

-- only the places of the two on the circle count
pub before_mod : (h a b : ℕ) → before h a b ≡ before h (a % (h + h)) (b % (h + h))
unfolding before
before_mod h a b = ap (λ (n : ℕ). nat_lt 0 n && nat_lt n h) (distance_mod h a b)

-- before, as document 01's sentence: the distance is 1 .. h - 1
pub before_exactly : (h a b : ℕ) → before h a b ≡ true → (0 < distance h a b) × (distance h a b < h)
before_exactly h a b e = go (dec_lt 0 (distance h a b)) (dec_lt (distance h a b) h)
  where
    go : Dec (0 < distance h a b) → Dec (distance h a b < h) → (0 < distance h a b) × (distance h a b < h)
    go (yes l) (yes u) = (l, u)
    go (no l) u = absurd (not_both (before h a b) e (before_no_zero h a b (omega arith)))
    go (yes l) (no u) = absurd (not_both (before h a b) e (before_no_half h a b (omega arith)))

pub before_irreflexive : (h a : ℕ) → 0 < h → before h a a ≡ false
before_irreflexive h a p = before_no_zero h a a (distance_self h a p)

pub before_asymmetric : (h a b : ℕ) → 0 < h → before h a b ≡ true → before h b a ≡ false
before_asymmetric h a b p e =
    before_no_half h b a (omega (arith, (before_exactly h a b e).0, (before_exactly h a b e).1, distance_back h a b p (before_exactly h a b e).0))

-- neither is before the other exactly at distance 0 and at half the circle
pub neither_before : (h a b : ℕ) → 0 < h → before h a b ≡ false → before h b a ≡ false → (distance h a b ≡ 0) ⊎ (distance h a b ≡ h)
neither_before h a b p e f = go (dec_lt 0 (distance h a b)) (dec_lt (distance h a b) h) (dec_lt h (distance h a b))
  where
    go : Dec (0 < distance h a b) → Dec (distance h a b < h) → Dec (h < distance h a b) → (distance h a b ≡ 0) ⊎ (distance h a b ≡ h)
    go (no l) u v = inl (omega arith)
    go (yes l) (yes u) v = absurd (not_both (before h a b) (before_yes h a b l u) e)
    go (yes l) (no u) (no v) = inr (omega arith)
    go (yes l) (no u) (yes v) =
        absurd
        (not_both (before h b a)
        (before_yes h b a (omega (arith, distance_lt h a b p, distance_back h a b p l)) (omega (arith, distance_back h a b p l)))
        f)

pub neither_before_zero : (h a b : ℕ) → 0 < h → distance h a b ≡ 0 → (before h a b ≡ false) × (before h b a ≡ false)
neither_before_zero h a b p e = (before_no_zero h a b e, before_no_zero h b a (distance_back_zero h a b p e))

pub neither_before_half : (h a b : ℕ) → 0 < h → distance h a b ≡ h → (before h a b ≡ false) × (before h b a ≡ false)
neither_before_half h a b p e =
    (before_no_half h a b (omega arith), before_no_half h b a (omega (arith, distance_back h a b p (omega arith))))

-- ---- the nearest: of numbers less than half a circle ahead of a base, the one least far

-- m is the lowest of them. Where none stands half a circle above m, m is the nearest; where some do, the numbers wrapped, and
-- the lowest of those is.

module _ (h base m : ℕ) (ub : base < h + h) (um : m < h + h) (near : distance h base m < h) where
  pub nearest_unwrapped : (s : ℕ) → s < h + h → distance h base s < h → m ≤ s → s < m + h → distance h base m ≤ distance h base s
  nearest_unwrapped s us ns l k = go (dec_le base m) (dec_le base s)
    where
      go : Dec (base ≤ m) → Dec (base ≤ s) → distance h base m ≤ distance h base s
      go (yes p) (yes q) = omega (arith, distance_up h base m p um, distance_up h base s q us)
      go (yes p) (no q) = omega arith
      go (no p) (yes q) = omega (arith, distance_round h base m (omega arith) (omega arith), distance_up h base s q us)
      go (no p) (no q) =
          omega (arith, distance_round h base m (omega arith) (omega arith), distance_round h base s (omega arith) (omega arith))

  pub nearest_wrapped : (n : ℕ) → n < h + h → distance h base n < h → m + h ≤ n
      → (s : ℕ) → s < h + h → distance h base s < h → (m + h ≤ s → n ≤ s) → distance h base n ≤ distance h base s
  nearest_wrapped n un nn t s us ns k = go (dec_le base m) (dec_le base n) (dec_le base s) (dec_le (m + h) s)
    where
      go : Dec (base ≤ m) → Dec (base ≤ n) → Dec (base ≤ s) → Dec (m + h ≤ s) → distance h base n ≤ distance h base s
      go (yes p) q r d = omega (arith, distance_up h base n (omega arith) un)
      go (no p) (no q) r d = omega (arith, distance_round h base n (omega arith) (omega arith))
      go (no p) (yes q) (no r) d = omega (arith, distance_up h base n q un, distance_round h base s (omega arith) (omega arith))
      go (no p) (yes q) (yes r) (yes d) = omega (arith, k d, distance_up h base n q un, distance_up h base s r us)
      go (no p) (yes q) (yes r) (no d) =
          omega (arith, distance_round h base m (omega arith) (omega arith), distance_up h base s r us)

-- ---- places along a line that is wound round the circle from a start

pub distance_places : (h start x y : ℕ) → 0 < h → x ≤ y → y < x + (h + h)
    → distance h (further h start x) (further h start y) ≡ y - x
unfolding further
distance_places h start x y p l u =
    distance_from_mod h (start + x) ((start + y) % (h + h))
    ∙ ap (λ (z : ℕ). distance h (start + x) (z % (h + h))) onward
    ∙ distance_further h (start + x) (y - x) p ∙ mod-eq_of_lt {n = y - x} {m = h + h} (omega arith)
  where
    onward : start + y ≡ start + x + (y - x)
    onward = omega arith

pub before_places : (h start x y : ℕ) → 0 < h → x < y → y < x + h → before h (further h start x) (further h start y) ≡ true
before_places h start x y p l u =
    before_yes h (further h start x) (further h start y)
    (omega (arith, distance_places h start x y p (omega arith) (omega arith)))
    (omega (arith, distance_places h start x y p (omega arith) (omega arith)))

-- ---- the code's way: the difference in a circle twice as wide, cut to the circle

pub distance_wrapped : (h a b w : ℕ) → 0 < h → (w + a) % (h + h + (h + h)) ≡ b → w % (h + h) ≡ distance h a b
unfolding further
distance_wrapped h a b w p e =
    sym
    (sym (distance_to_mod h a b) ∙ ap (distance h a) cut
    ∙ distance_further h a w p)
  where
    cut : b % (h + h) ≡ further h a w
    cut =
        ap (λ (x : ℕ). x % (h + h)) (sym e)
        ∙ mod-mod_of_dvd (h + h) (w + a) (dvd-add (h + h) (dvd_refl (h + h)) (dvd_refl (h + h)))
        ∙ ap (λ (x : ℕ). x % (h + h)) (omega arith)
