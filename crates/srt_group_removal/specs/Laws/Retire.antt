-- What is proved of the definitions in specs/Retire.antt, with what the proofs need.
use Rattle.std.specs.Prelude.{◌≡◌, refl, Bool, true, false, ◌&&◌, ◌||◌, leb, length, drop, None, Option, Some}
use Rattle.std.proofs.Math.Path.{ap, ap₂, sym, subst}
use Rattle.std.proofs.Common.{◌∙◌, ⊎_elim, inl}
use Rattle.std.proofs.Math.Bool.{not}
use mathlib.Core.List.{List, [], ◌∷◌}
use Rattle.std.proofs.Math.Logic.{inr}
use Prim.Native.Nat.{ℕ, zero, suc, ◌+◌, ◌-◌, ◌≤◌, ◌<◌}
use Rattle.std.proofs.Math.Decide.{dec_lt}
use native.Mathlib.Omega.{arith}
use borrow.Author.Tests.{eq-eqb, ne_eqb, le-leb, lt-leb, lt-ltb, le-ltb, ltb-true, ltb-false}
use Rattle.std.proofs.Math.Dec.{ltb}
use Rattle.word_rows.specs.Tab.{tab, removed}
use Rattle.srt_protocol.specs.Sequence.{half, sequence_distance}
use Rattle.srt_protocol.specs.Laws.Circle.{distance_up, distance_round}
use Rattle.srt_group_model.specs.declared.Core.{Core}
use Rattle.srt_group_model.specs.declared.Account.{Account}
use Rattle.srt_group_model.specs.declared.Packet.{Packet}
use Rattle.srt_group_model.specs.Tools.{if_true◌then◌else◌, if_some◌give◌otherwise◌, is_set, flagged, such_that, at_place, each, All}
use Rattle.srt_group_model.specs.Laws.Reason.{if_elim, by_test, not_both, and_left, and_right, or_left, or_right, or_cases, none_some, some_inj, all_map}
use Rattle.srt_group_model.specs.Laws.Weights.{all_such_that}
use Rattle.srt_group_model.specs.Legs.{largest_sequence}
use Rattle.srt_group_model.specs.State.{State, with_receive, with_pending, with_own}
use Rattle.srt_group_model.specs.Accounts.{release}
use Rattle.srt_group_model.specs.Nearest.{sequence_of, has_sequence, nearest, farther, farthest}
use Rattle.srt_group_model.specs.Removal.{is_owned, retire, bound_group_owned_pending, retirement_base}
use Rattle.srt_group_model.specs.Validity.{ascends}
use Rattle.srt_group_model.specs.Sound.{pending_cells}
use Rattle.srt_group_model.specs.Laws.CellsMoved.{Moves, retire_frees}
use Rattle.srt_group_model.specs.Laws.Ascending.{Above, ascends_rest, ascends_above, such_that_ascends}
use Rattle.srt_connection_queue.specs.Laws.Tab.{tab_place, all_tab}
use Rattle.srt_group_tables.specs.Laws.PacketLaws.{ascends_up}
use Rattle.srt_group_tables.specs.Packets.{packet_at, packets, Holds, FoundPacket}
use Rattle.srt_group_shown.specs.Shown.{Rest, shown, blank, nothing_sent}
use Rattle.cell_set.specs.Sets.{Freed}
use Rattle.cell_set.specs.Bits.{set_size}
use Rattle.srt_group_collecting.specs.Laws.Follows.{follows_same, follows_then, follows_freed}
use Rattle.srt_group_removal.specs.Retire.{Low, Held, holding, Retires, Retired, FollowsHeld, Bounding, is_reached, Unreached, NotBelow, Reachable, RetiresDownward}

-- ---- the packet at a place, in an ascending list, is the only one with its sequence

above_at : (n at : ℕ) (l : List Packet) (p : Packet) → Above n l → at_place at l ≡ Some p → n < sequence_of p
unfolding at_place
above_at n at [] p h e = none_some e
above_at n zero (q ∷ qs) p h e = subst (λ (x : Packet). n < sequence_of x) (some_inj e) h.0
above_at n (suc at) (q ∷ qs) p h e = above_at n at qs p h.1 e

without_above : (n : ℕ) (l : List Packet) → Above n l → such_that (λ q. not (has_sequence n q)) l ≡ l
unfolding such_that if_true◌then◌else◌
without_above n [] h = refl
without_above n (q ∷ qs) h =
    rw (ne_eqb (sequence_of q) n (λ e. omega (arith, h.0))) (ap (λ (l : List Packet). q ∷ l) (without_above n qs h.1))

pub removed_by_sequence : (at : ℕ) (l : List Packet) (p : Packet) → ascends l ≡ true → at_place at l ≡ Some p
    → removed at l ≡ such_that (λ q. not (has_sequence (sequence_of p) q)) l
unfolding removed at_place such_that if_true◌then◌else◌
removed_by_sequence at [] p a e = none_some e
removed_by_sequence zero (q ∷ qs) p a e =
    rw (eq-eqb (sequence_of q) (sequence_of p) (ap sequence_of (some_inj e)))
    (subst (λ (x : Packet). qs ≡ such_that (λ y. not (has_sequence (sequence_of x) y)) qs) (some_inj e)
    (sym (without_above (sequence_of q) qs (ascends_above q qs a))))
removed_by_sequence (suc at) (q ∷ qs) p a e =
    let above = above_at (sequence_of q) at qs p (ascends_above q qs a) e in
    rw (ne_eqb (sequence_of q) (sequence_of p) (λ same. omega (arith, above)))
    (ap (λ (l : List Packet). q ∷ l) (removed_by_sequence at qs p (ascends_rest q qs a) e))

none_above : (n : ℕ) (l : List Packet) → Above n l → such_that (has_sequence n) l ≡ []
unfolding such_that if_true◌then◌else◌
none_above n [] h = refl
none_above n (q ∷ qs) h = rw (ne_eqb (sequence_of q) n (λ e. omega (arith, h.0))) (none_above n qs h.1)

alone_by_sequence : (at : ℕ) (l : List Packet) (p : Packet) → ascends l ≡ true → at_place at l ≡ Some p
    → such_that (has_sequence (sequence_of p)) l ≡ p ∷ []
unfolding at_place such_that if_true◌then◌else◌
alone_by_sequence at [] p a e = none_some e
alone_by_sequence zero (q ∷ qs) p a e =
    rw (eq-eqb (sequence_of q) (sequence_of p) (ap sequence_of (some_inj e)))
    (subst (λ (x : Packet). q ∷ such_that (has_sequence (sequence_of x)) qs ≡ x ∷ []) (some_inj e)
    (ap (λ (l : List Packet). q ∷ l) (none_above (sequence_of q) qs (ascends_above q qs a))))
alone_by_sequence (suc at) (q ∷ qs) p a e =
    let above = above_at (sequence_of q) at qs p (ascends_above q qs a) e in
    rw (ne_eqb (sequence_of q) (sequence_of p) (λ same. omega (arith, above))) (alone_by_sequence at qs p (ascends_rest q qs a) e)

-- ---- one packet is retired

module _ (core : Core) (ps : List ℕ) (at : ℕ) (held : Held core ps) (inside : at < core.counts.pending) where
  left_over : removed at (packets core.counts.pending ps)
      ≡ such_that (λ q. not (has_sequence (sequence_of (packet_at ps at)) q)) (packets core.counts.pending ps)
  left_over =
      removed_by_sequence at (packets core.counts.pending ps) (packet_at ps at) held.ascending
      (tab_place core.counts.pending (packet_at ps) at inside)

  pub retired_one : {p : Packet} {left : ℕ} {own : Account} (ps' : List ℕ) → p ≡ packet_at ps at → left ≡ core.counts.pending - 1
      → own ≡ release p.content.count core.own
      → Holds (length ps) ps' (core.counts.pending - 1) (removed at (packets core.counts.pending ps))
      → Retired (packet_at ps at) core ps (holding left own core) ps'
  unfolding retire
  retired_one {p} {left} {own} ps' is fewer sum taken =
      record {
        one_less = omega arith;
        retires =
            record {
              pending_long = taken.length_kept;
              rest = refl;
              state =
                  λ others ms ws.
                  ap₂
                  (λ (l : List Packet) (a : Account).
                  with_own a (with_receive (with_pending l (shown core others ms ps ws).receive) (shown core others ms ps ws)))
                  (sym left_over ∙ sym taken.is ∙ ap (λ (n : ℕ). packets n ps') (sym fewer))
                  (ap (λ (q : Packet). release q.content.count core.own) (sym is) ∙ sym sum);
            };
      }

  -- ---- the set of used cells

  only_one : such_that (has_sequence (sequence_of (packet_at ps at))) (packets core.counts.pending ps) ≡ packet_at ps at ∷ []
  only_one =
      alone_by_sequence at (packets core.counts.pending ps) (packet_at ps at) held.ascending
      (tab_place core.counts.pending (packet_at ps) at inside)

  retired_follows : {p : Packet} (used : List ℕ) (after : Core) (ps' used' : List ℕ) → p ≡ packet_at ps at
      → Retired (packet_at ps at) core ps after ps' → Freed (p.content.cell ∷ []) used used' → FollowsHeld core ps used after ps' used'
  unfolding each
  retired_follows {p} used after ps' used' is one freed =
      record {
        used_long = freed.long;
        over =
            λ ms.
            follows_freed core after ms ps [] ms ps' [] used used' nothing_sent (λ others. retire (packet_at ps at) (shown core others ms ps []))
            (λ others same. one.retires.state others ms [])
            (subst (λ (q : Packet). Freed (q.content.cell ∷ []) used used') is freed)
            (λ others.
            subst (λ (l : List Packet). Moves [] (pending_cells l) (shown core others ms ps []) (retire (packet_at ps at) (shown core others ms ps [])))
            only_one (retire_frees (packet_at ps at) (shown core others ms ps [])));
      }

  pub retired_and_freed : {p : Packet} {used : List ℕ} {after : Core} {ps' used' : List ℕ} → Retired (packet_at ps at) core ps after ps' → p ≡ packet_at ps at
      → Freed (p.content.cell ∷ []) used used' → Retired (packet_at ps at) core ps after ps' × FollowsHeld core ps used after ps' used'
  retired_and_freed {p} {used} {after} {ps'} {used'} one is freed = (one, retired_follows used after ps' used' is one freed)

pub held_follows_same : (core : Core) (ps used : List ℕ) → length used ≡ set_size → FollowsHeld core ps used core ps used
held_follows_same core ps used long = record { used_long = long; over = λ ms. follows_same core ms ps used long }

pub held_follows_then : {core core₁ core₂ : Core} {ps used ps₁ used₁ ps₂ used₂ : List ℕ} → FollowsHeld core ps used core₁ ps₁ used₁
    → FollowsHeld core₁ ps₁ used₁ core₂ ps₂ used₂ → FollowsHeld core ps used core₂ ps₂ used₂
held_follows_then first second =
    record { used_long = second.used_long; over = λ ms. follows_then (first.over ms) (second.over ms) }

-- what is left is held as before
pub still_held : (p : Packet) (core after : Core) (ps ps' : List ℕ) → Held core ps → Retired p core ps after ps' → Held after ps'
unfolding retire
still_held p core after ps ps' held one =
    let same : such_that (λ q. not (has_sequence (sequence_of p) q)) (packets core.counts.pending ps) ≡ packets after.counts.pending ps' =
    ap (λ (s : State). s.receive.pending) (one.retires.state blank [] [])
    in
    record {
      pending_long = omega (arith, held.pending_long, one.retires.pending_long);
      held_few = omega (arith, held.held_few, one.one_less);
      ascending = subst (λ (l : List Packet). ascends l ≡ true) same (such_that_ascends _ (packets core.counts.pending ps) held.ascending);
      low = subst (All Low) same (all_such_that Low _ (packets core.counts.pending ps) held.low);
      base_low = subst (λ (c : Core). c.receiving.base ≤ largest_sequence) (sym one.retires.rest) held.base_low;
    }

-- ---- while the sum exceeds the limit

pub bounding_start : (limit base : ℕ) (core : Core) (ps : List ℕ) → Held core ps → Bounding limit base core ps core ps
bounding_start limit base core ps held =
    record { held = held; pending_long = refl; rest = refl; state = λ others ms ws. refl }

-- the definition, by what it finds
within_limit : (left limit base : ℕ) (s : State) → s.own.reserved ≤ limit → bound_group_owned_pending left limit base s ≡ s
unfolding bound_group_owned_pending if_some◌give◌otherwise◌ if_true◌then◌else◌
within_limit zero limit base s h = refl
within_limit (suc left) limit base s h = go (farthest base (such_that is_owned s.receive.pending))
  where
    go : (o : Option Packet)
        → (if_some o give (λ p. let later = bound_group_owned_pending left limit base (retire p s) in if_true leb s.own.reserved limit then s else later) otherwise s)
        ≡ s
    go None = refl
    go (Some p) = rw (le-leb s.own.reserved limit h)

none_owned : (left limit base : ℕ) (s : State) → farthest base (such_that is_owned s.receive.pending) ≡ None
    → bound_group_owned_pending left limit base s ≡ s
unfolding bound_group_owned_pending if_some◌give◌otherwise◌
none_owned zero limit base s e = refl
none_owned (suc left) limit base s e = rw e

one_retired : (left limit base : ℕ) (s : State) (p : Packet) → limit < s.own.reserved
    → farthest base (such_that is_owned s.receive.pending) ≡ Some p
    → bound_group_owned_pending (suc left) limit base s ≡ bound_group_owned_pending left limit base (retire p s)
unfolding bound_group_owned_pending if_some◌give◌otherwise◌ if_true◌then◌else◌
one_retired left limit base s p h e = rw (e, lt-leb s.own.reserved limit h)

module _ (limit base : ℕ) (core : Core) (ps : List ℕ) (here : Core) (ps₁ : List ℕ) (so_far : Bounding limit base core ps here ps₁) where
  bounding_on : (at : ℕ) (next : Core) (ps₂ : List ℕ) → limit < here.own.reserved
      → farthest base (such_that is_owned (packets here.counts.pending ps₁)) ≡ Some (packet_at ps₁ at)
      → Retired (packet_at ps₁ at) here ps₁ next ps₂ → Bounding limit base core ps next ps₂
  bounding_on at next ps₂ over far one =
      record {
        held = still_held (packet_at ps₁ at) here next ps₁ ps₂ so_far.held one;
        pending_long = one.retires.pending_long ∙ so_far.pending_long;
        rest = one.retires.rest ∙ ap (holding next.counts.pending next.own) so_far.rest;
        state =
            λ others ms ws.
            so_far.state others ms ws
            ∙ ap (λ (n : ℕ). bound_group_owned_pending n limit base (shown here others ms ps₁ ws)) (sym one.one_less)
            ∙ one_retired next.counts.pending limit base (shown here others ms ps₁ ws) (packet_at ps₁ at) over far
            ∙ ap (bound_group_owned_pending next.counts.pending limit base) (one.retires.state others ms ws);
      }

  bounded : ((others : Rest) (ms ws : List ℕ)
      → bound_group_owned_pending here.counts.pending limit base (shown here others ms ps₁ ws) ≡ shown here others ms ps₁ ws)
      → Retires (bound_group_owned_pending core.counts.pending limit base) core ps here ps₁
  bounded ends =
      record {
        pending_long = so_far.pending_long;
        rest = so_far.rest;
        state = λ others ms ws. so_far.state others ms ws ∙ ends others ms ws;
      }

  bounded_within : here.own.reserved ≤ limit → Retires (bound_group_owned_pending core.counts.pending limit base) core ps here ps₁
  bounded_within h = bounded (λ others ms ws. within_limit here.counts.pending limit base (shown here others ms ps₁ ws) h)

  bounded_none : farthest base (such_that is_owned (packets here.counts.pending ps₁)) ≡ None
      → Retires (bound_group_owned_pending core.counts.pending limit base) core ps here ps₁
  bounded_none none_left = bounded (λ others ms ws. none_owned here.counts.pending limit base (shown here others ms ps₁ ws) none_left)

-- ---- the farthest packet, by its place

module _ (P : Packet → Type 0) where
  all_farthest : (base : ℕ) (l : List Packet) (q : Packet) → All P l → farthest base l ≡ Some q → P q
  unfolding farthest farther if_some◌give◌otherwise◌
  all_farthest base [] q h e = none_some e
  all_farthest base (p ∷ ps) q h e = go (farthest base ps) (λ r is. all_farthest base ps r h.1 is) e
    where
      go : (o : Option Packet) → ((r : Packet) → o ≡ Some r → P r) → (if_some o give (λ r. Some (farther base p r)) otherwise Some p) ≡ Some q → P q
      go None later is = subst P (some_inj is) h.0
      go (Some r) later is =
          subst P (some_inj is)
          (if_elim P (ltb (sequence_distance base (sequence_of r)) (sequence_distance base (sequence_of p))) p r (λ t. h.0) (λ t. later r refl))

  all_owned : (n : ℕ) (f : ℕ → Packet) → ((k : ℕ) → k < n → is_owned (f k) ≡ true → P (f k)) → All P (such_that is_owned (tab n f))
  unfolding tab such_that
  all_owned zero f h = tt
  all_owned (suc n) f h =
      if_elim (All P) (is_owned (f 0)) _ _ (λ e. (h 0 (omega arith) e, all_owned n (λ i. f (suc i)) (λ k below. h (suc k) (omega arith))))
      (λ e. all_owned n (λ i. f (suc i)) (λ k below. h (suc k) (omega arith)))

  -- from a place on
  all_drop_end : (n : ℕ) (f : ℕ → Packet) → All P (drop n (tab n f))
  unfolding tab
  all_drop_end zero f = tt
  all_drop_end (suc n) f = all_drop_end n (λ i. f (suc i))

  all_drop_more : (n at : ℕ) (f : ℕ → Packet) → at < n → P (f at) → All P (drop (suc at) (tab n f)) → All P (drop at (tab n f))
  unfolding tab
  all_drop_more zero at f below h rest = absurd (omega arith)
  all_drop_more (suc n) zero f below h rest = (h, rest)
  all_drop_more (suc n) (suc at) f below h rest = all_drop_more n at (λ i. f (suc i)) (omega arith) h rest

  all_drop_at : (n i : ℕ) (f : ℕ → Packet) → All P (drop i (tab n f)) → (k : ℕ) → i ≤ k → k < n → P (f k)
  unfolding tab
  all_drop_at zero i f h k from below = absurd (omega arith)
  all_drop_at (suc n) zero f h k from below = all_tab P (suc n) f h k below
  all_drop_at (suc n) (suc i) f h zero from below = absurd (omega arith)
  all_drop_at (suc n) (suc i) f h (suc k) from below = all_drop_at n i (λ j. f (suc j)) h k (omega arith) (omega arith)

drop_removed : (at : ℕ) (l : List Packet) → drop at (removed at l) ≡ drop (suc at) l
unfolding removed
drop_removed zero l = refl
drop_removed (suc at) [] = refl
drop_removed (suc at) (x ∷ l) = drop_removed at l

-- one that is farther than every other of the group's own
farthest_there : (base n : ℕ) (f : ℕ → Packet) (at : ℕ) → at < n → is_owned (f at) ≡ true
    → ((k : ℕ) → k < n → (k ≡ at → ⊥) → is_owned (f k) ≡ true → sequence_distance base (sequence_of (f k)) < sequence_distance base (sequence_of (f at)))
    → farthest base (such_that is_owned (tab n f)) ≡ Some (f at)
unfolding tab such_that farthest farther if_some◌give◌otherwise◌ if_true◌then◌else◌
farthest_there base zero f at inside mine others = absurd (omega arith)
farthest_there base (suc n) f zero inside mine others =
    rw mine (go (farthest base (such_that is_owned (tab n (λ i. f (suc i))))) (λ q is. all_farthest (λ (x : Packet). sequence_distance base (sequence_of x) < sequence_distance base (sequence_of (f 0))) base (such_that is_owned (tab n (λ i. f (suc i)))) q nearer is))
  where
    nearer : All (λ (x : Packet). sequence_distance base (sequence_of x) < sequence_distance base (sequence_of (f 0))) (such_that is_owned (tab n (λ i. f (suc i))))
    nearer = all_owned _ n (λ i. f (suc i)) (λ k below owned. others (suc k) (omega arith) (λ e. omega arith) owned)

    go : (o : Option Packet) → ((q : Packet) → o ≡ Some q → sequence_distance base (sequence_of q) < sequence_distance base (sequence_of (f 0)))
        → (if_some o give (λ q. Some (farther base (f 0) q)) otherwise Some (f 0)) ≡ Some (f 0)
    go None less = refl
    go (Some q) less = rw (lt-ltb (sequence_distance base (sequence_of q)) (sequence_distance base (sequence_of (f 0))) (less q refl))
farthest_there base (suc n) f (suc at) inside mine others =
    let later : farthest base (such_that is_owned (tab n (λ i. f (suc i)))) ≡ Some (f (suc at)) =
    farthest_there base n (λ i. f (suc i)) at (omega arith) mine (λ k below other. others (suc k) (omega arith) (λ e. other (omega arith)))
    in
    by_test (is_owned (f 0))
    (λ e.
    rw (
      e,
      later,
      le-ltb (sequence_distance base (sequence_of (f (suc at)))) (sequence_distance base (sequence_of (f 0)))
          (omega (arith, others 0 (omega arith) (λ same. omega arith) e)),
    ))
    (λ e. rw (e, later))

none_owned_left : (base : ℕ) (l : List Packet) → All (λ (p : Packet). is_owned p ≡ false) l → farthest base (such_that is_owned l) ≡ None
unfolding such_that farthest if_true◌then◌else◌
none_owned_left base [] h = refl
none_owned_left base (p ∷ ps) h = rw h.0 (none_owned_left base ps h.1)

-- ---- distances ahead of the base: from the base on, and below it

module _ (base : ℕ) (low : base ≤ largest_sequence) where
  inside : (n : ℕ) → n ≤ largest_sequence → n < half + half
  unfolding half
  inside n h = omega arith

  from_base : (a b : ℕ) → b ≤ largest_sequence → base ≤ a → a < b → sequence_distance base a < sequence_distance base b
  from_base a b high from less =
      omega (arith, distance_up half base a from (inside a (omega arith)), distance_up half base b (omega arith) (inside b high))

  below_base : (a b : ℕ) → b < base → a < b → sequence_distance base a < sequence_distance base b
  below_base a b below less =
      omega (arith, distance_round half base a (omega arith) (inside base low), distance_round half base b below (inside base low), inside base low)

  below_is_farther : (a b : ℕ) → a ≤ largest_sequence → base ≤ a → b < base → sequence_distance base a < sequence_distance base b
  below_is_farther a b high from below =
      omega (arith, distance_up half base a from (inside a high), distance_round half base b below (inside base low), inside base low, inside a high)

-- ---- what a walk reaches

module _ (base : ℕ) (all : Bool) (p : Packet) where
  reached_owned : is_reached base all p ≡ true → is_owned p ≡ true
  unfolding is_reached
  reached_owned h = and_left (is_owned p) _ h

  reached_below : is_reached base all p ≡ true → all ≡ false → sequence_of p < base
  unfolding is_reached
  reached_below h e =
      or_cases all (ltb (sequence_of p) base) (and_right (is_owned p) (all || ltb (sequence_of p) base) h) (λ t. not_both t e)
      (λ t. ltb-true (sequence_of p) base t)

  unreached_owned : is_reached base all p ≡ false → is_owned p ≡ true → (all || ltb (sequence_of p) base) ≡ false
  unfolding is_reached
  unreached_owned h mine = ap (λ (b : Bool). b && (all || ltb (sequence_of p) base)) (sym mine) ∙ h

  unreached_from : is_reached base all p ≡ false → is_owned p ≡ true → base ≤ sequence_of p
  unreached_from h mine = omega (arith, ltb-false (sequence_of p) base (or_right all (ltb (sequence_of p) base) (unreached_owned h mine)))

  unreached_all : is_reached base all p ≡ false → is_owned p ≡ true → all ≡ false
  unreached_all h mine = or_left all (ltb (sequence_of p) base) (unreached_owned h mine)

-- ---- the walk

pub record Downward (limit base : ℕ) (all : Bool) (core : Core) (ps : List ℕ) (left : ℕ) (here : Core) (ps₁ : List ℕ) : Type 0 where
  pub bounding : Bounding limit base core ps here ps₁
  pub reachable : Reachable limit base all here ps₁
  pub within : left ≤ here.counts.pending
  pub passed : All (Unreached base all) (drop left (packets here.counts.pending ps₁))

pub downward_start : (limit base : ℕ) (all : Bool) (core : Core) (ps : List ℕ) → Held core ps → Reachable limit base all core ps
    → Downward limit base all core ps core.counts.pending core ps
downward_start limit base all core ps held reachable =
    record {
      bounding = bounding_start limit base core ps held;
      reachable = reachable;
      within = omega arith;
      passed = all_drop_end (Unreached base all) core.counts.pending (packet_at ps);
    }

module _ {limit base : ℕ} {all : Bool} {core : Core} {ps : List ℕ} {left : ℕ} {here : Core} {ps₁ : List ℕ} (so_far : Downward limit base all core ps left here ps₁)
  where
    pub downward_within : here.own.reserved ≤ limit → RetiresDownward limit base all core ps here ps₁
    downward_within h = record { bounding = so_far.bounding; ends = inl h }

    pub downward_done : left ≡ 0 → RetiresDownward limit base all core ps here ps₁
    downward_done none_left =
        record {
          bounding = so_far.bounding;
          ends = inr (subst (λ (k : ℕ). All (Unreached base all) (drop k (packets here.counts.pending ps₁))) none_left so_far.passed);
        }

    -- the packet below is read
    module _ (some_left : 0 < left) (p : Packet) (read : p ≡ packet_at ps₁ (left - 1)) (reached : Bool) (reached_is : reached ≡ is_reached base all p) where
      abbrev at : ℕ
      at = left - 1

      inside_count : at < here.counts.pending
      inside_count = omega (arith, so_far.within, some_left)

      next_left : suc at ≡ left
      next_left = omega (arith, some_left)

      passed_above : All (Unreached base all) (drop (suc at) (packets here.counts.pending ps₁))
      passed_above = subst (λ (k : ℕ). All (Unreached base all) (drop k (packets here.counts.pending ps₁))) (sym next_left) so_far.passed

      pub downward_skip : reached ≡ false → Downward limit base all core ps (left - 1) here ps₁
      downward_skip out =
          record {
            bounding = so_far.bounding;
            reachable = so_far.reachable;
            within = omega (arith, so_far.within);
            passed =
                all_drop_more (Unreached base all) here.counts.pending at (packet_at ps₁) inside_count
                (ap (is_reached base all) (sym read) ∙ sym reached_is ∙ out) passed_above;
          }

      module _ (yes_reached : reached ≡ true) (over : limit < here.own.reserved) where
        here_reached : is_reached base all (packet_at ps₁ at) ≡ true
        here_reached = ap (is_reached base all) (sym read) ∙ sym reached_is ∙ yes_reached

        low_at : (k : ℕ) → k < here.counts.pending → sequence_of (packet_at ps₁ k) ≤ largest_sequence
        low_at k below = all_tab Low here.counts.pending (packet_at ps₁) so_far.bounding.held.low k below

        -- in a walk over all, none of the group's own is below the base
        none_below : all ≡ true → All (NotBelow base) (packets here.counts.pending ps₁)
        none_below e = ⊎_elim (λ h. absurd (omega (arith, over, h))) (λ h. h) (so_far.reachable.above e)

        from_at : all ≡ true → (k : ℕ) → k < here.counts.pending → is_owned (packet_at ps₁ k) ≡ true → base ≤ sequence_of (packet_at ps₁ k)
        from_at e k below mine = all_tab (NotBelow base) here.counts.pending (packet_at ps₁) (none_below e) k below mine

        nearer : (k : ℕ) → k < here.counts.pending → (k ≡ at → ⊥) → is_owned (packet_at ps₁ k) ≡ true
            → sequence_distance base (sequence_of (packet_at ps₁ k)) < sequence_distance base (sequence_of (packet_at ps₁ at))
        nearer k below other mine = by_order (dec_lt k at)
          where
            low : base ≤ largest_sequence
            low = so_far.reachable.base_low

            by_order : Dec (k < at) → sequence_distance base (sequence_of (packet_at ps₁ k)) < sequence_distance base (sequence_of (packet_at ps₁ at))
            by_order (yes lower) =
                let less = ascends_up here.counts.pending (packet_at ps₁) so_far.bounding.held.ascending k at lower inside_count in
                by_test all
                (λ e. from_base base low (sequence_of (packet_at ps₁ k)) (sequence_of (packet_at ps₁ at)) (low_at at inside_count) (from_at e k below mine) less)
                (λ e. below_base base low (sequence_of (packet_at ps₁ k)) (sequence_of (packet_at ps₁ at)) (reached_below base all (packet_at ps₁ at) here_reached e) less)
            by_order (no l) =
                let unreached = all_drop_at (Unreached base all) here.counts.pending left (packet_at ps₁) so_far.passed k (omega (arith, l, other, some_left)) below in
                below_is_farther base low (sequence_of (packet_at ps₁ k)) (sequence_of (packet_at ps₁ at)) (low_at k below)
                (unreached_from base all (packet_at ps₁ k) unreached mine)
                (reached_below base all (packet_at ps₁ at) here_reached (unreached_all base all (packet_at ps₁ k) unreached mine))

        pub downward_retire : (next : Core) (ps₂ : List ℕ) → Retired (packet_at ps₁ at) here ps₁ next ps₂ → Downward limit base all core ps (left - 1) next ps₂
        unfolding retire
        downward_retire next ps₂ one =
            record {
              bounding =
                  bounding_on limit base core ps here ps₁ so_far.bounding at next ps₂ over
                  (farthest_there base here.counts.pending (packet_at ps₁) at inside_count (reached_owned base all (packet_at ps₁ at) here_reached) nearer)
                  one;
              reachable =
                  record {
                    base_low = so_far.reachable.base_low;
                    above = λ e. inr (subst (All (NotBelow base)) same (all_such_that (NotBelow base) _ (packets here.counts.pending ps₁) (none_below e)));
                  };
              within = omega (arith, one.one_less, so_far.within);
              passed =
                  subst (λ (l : List Packet). All (Unreached base all) (drop at l)) (left_over here ps₁ at so_far.bounding.held inside_count ∙ same)
                  (subst (All (Unreached base all)) (sym (drop_removed at (packets here.counts.pending ps₁))) passed_above);
            }
          where
            same : such_that (λ q. not (has_sequence (sequence_of (packet_at ps₁ at)) q)) (packets here.counts.pending ps₁) ≡ packets next.counts.pending ps₂
            same = ap (λ (s : State). s.receive.pending) (one.retires.state blank [] [])

-- ---- one walk below the base, and one over all

pub first_reachable : {limit base : ℕ} {core : Core} {ps : List ℕ} → base ≤ largest_sequence → Reachable limit base false core ps
first_reachable low = record { base_low = low; above = λ e. not_both e refl }

module _ {limit base : ℕ} {core : Core} {ps : List ℕ} {here : Core} {ps₁ : List ℕ} where
  module _ (first : RetiresDownward limit base false core ps here ps₁) where
    pub second_reachable : base ≤ largest_sequence → Reachable limit base true here ps₁
    second_reachable low =
        record {
          base_low = low;
          above =
              λ e.
              ⊎_elim inl
              (λ h. inr (all_map (Unreached base false) (NotBelow base) (λ p out mine. unreached_from base false p out mine) (packets here.counts.pending ps₁) h))
              first.ends;
        }

    pub bounded_downward : {after : Core} {ps₂ : List ℕ} → RetiresDownward limit base true here ps₁ after ps₂
        → Retires (bound_group_owned_pending core.counts.pending limit base) core ps after ps₂
    bounded_downward {after} {ps₂} second =
        ⊎_elim (bounded_within limit base core ps after ps₂ both)
        (λ h.
        bounded_none limit base core ps after ps₂ both
        (none_owned_left base (packets after.counts.pending ps₂) (all_map (Unreached base true) (λ (p : Packet). is_owned p ≡ false) not_owned (packets after.counts.pending ps₂) h)))
        second.ends
      where
        not_owned : (p : Packet) → Unreached base true p → is_owned p ≡ false
        not_owned p out = by_test (is_owned p) (λ mine. not_both refl (unreached_all base true p out mine)) (λ e. e)

        both : Bounding limit base core ps after ps₂
        both =
            record {
              held = second.bounding.held;
              pending_long = second.bounding.pending_long ∙ first.bounding.pending_long;
              rest = second.bounding.rest ∙ ap (holding after.counts.pending after.own) first.bounding.rest;
              state = λ others ms ws. first.bounding.state others ms ws ∙ second.bounding.state others ms ws;
            }

-- ---- where distances are taken from

module _ (core : Core) (ps : List ℕ) (others : Rest) (ms ws : List ℕ) where
  module _ {b : Option ℕ} (is : b ≡ flagged (is_set core.receiving.based) core.receiving.base) where
    pub based_there : {n : ℕ} → b ≡ Some n → n ≡ retirement_base (shown core others ms ps ws)
    unfolding retirement_base if_some◌give◌otherwise◌
    based_there some = rw (sym is ∙ some)

    module _ {r : Option ℕ} (unset : b ≡ None)
        (near : FoundPacket ps core.counts.pending r (nearest (packets core.counts.pending ps))) where
      pub based_nowhere : r ≡ None → 0 ≡ retirement_base (shown core others ms ps ws)
      unfolding retirement_base if_some◌give◌otherwise◌
      based_nowhere e = rw (sym is ∙ unset, sym near.is, e)

      pub based_nearest : {n : ℕ} (at : ℕ) → r ≡ Some at → n ≡ sequence_of (packet_at ps at) → n ≡ retirement_base (shown core others ms ps ws)
      unfolding retirement_base if_some◌give◌otherwise◌
      based_nearest at e is_sequence = rw (sym is ∙ unset, sym near.is, e) is_sequence

flagged_is : (flag : Bool) (n m : ℕ) → flagged flag n ≡ Some m → n ≡ m
unfolding flagged
flagged_is false n m e = none_some e
flagged_is true n m e = some_inj e

-- it is below 2^31
pub based_upper : (core : Core) (ps : List ℕ) → Held core ps → {b : Option ℕ} {n : ℕ} → b ≡ flagged (is_set core.receiving.based) core.receiving.base
    → b ≡ Some n → n ≤ largest_sequence
based_upper core ps held is some = subst (λ (k : ℕ). k ≤ largest_sequence) (flagged_is _ _ _ (sym is ∙ some)) held.base_low

pub based_low : (core : Core) (ps : List ℕ) → Held core ps → (at : ℕ) → at < core.counts.pending → sequence_of (packet_at ps at) ≤ largest_sequence
based_low core ps held at below = all_tab Low core.counts.pending (packet_at ps) held.low at below
