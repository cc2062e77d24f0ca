-- Arriving members one after the other: what the first of them leaves is what the others begin with.
use Rattle.std.specs.Prelude.{◌≡◌, refl, Bool, true, false, not, ◌&&◌, List, [], ◌∷◌, ℕ, suc, eqb, None, Option, Some}
use Rattle.std.proofs.Common.{sym, ap, subst, ◌∙◌, eqb-true}
use Rattle.srt_group_model.specs.Tools.{if_true◌then◌else◌, if_some◌give◌otherwise◌, or_else, flagged, first_given, at_place}
use Rattle.srt_group_model.specs.Laws.Reason.{if_elim, and_left, and_right}
use Rattle.srt_group_model.specs.State.{Member}
use Rattle.srt_group_model.specs.Legs.{peer_initial_sequence}
use Rattle.srt_group_model.specs.Members.{arrives, sequence_brought, group_brought, base_after, peer_after}

-- ---- the base

or_else_none : (o : Option ℕ) → or_else o None ≡ o
unfolding or_else
or_else_none None = refl
or_else_none (Some n) = refl

or_else_assoc : (a b c : Option ℕ) → or_else a (or_else b c) ≡ or_else (or_else a b) c
unfolding or_else
or_else_assoc None b c = refl
or_else_assoc (Some n) b c = refl

pub base_after_none : (base : Option ℕ) → base_after base [] ≡ base
unfolding base_after first_given
base_after_none base = or_else_none base

pub base_after_one : (base : Option ℕ) (m : Member)
    → base_after base (m ∷ []) ≡ (if_true arrives m then or_else base (peer_initial_sequence m.leg) else base)
unfolding base_after first_given sequence_brought or_else if_true◌then◌else◌
base_after_one base m =
    ap (or_else base) (or_else_none (sequence_brought m)) ∙ go (arrives m) (peer_initial_sequence m.leg)
  where
    go : (b : Bool) (o : Option ℕ) → or_else base (if_true b then o else None) ≡ (if_true b then or_else base o else base)
    go true o = refl
    go false o = or_else_none base

pub base_after_next : (base : Option ℕ) (m : Member) (ms : List Member)
    → base_after base (m ∷ ms) ≡ base_after (base_after base (m ∷ [])) ms
unfolding base_after first_given
base_after_next base m ms =
    or_else_assoc base (sequence_brought m) (first_given sequence_brought ms)
    ∙ ap (λ (o : Option ℕ). or_else (or_else base o) (first_given sequence_brought ms)) (sym (or_else_none (sequence_brought m)))

-- ---- the peer group

-- what is brought, if anything is; 0 if nothing is
abbrev or_zero : Option ℕ → ℕ
or_zero o = if_some o give (λ brought. brought) otherwise 0

abbrev bound_to : ℕ → Option ℕ → ℕ
bound_to peer o = if_true eqb peer 0 then or_zero o else peer

pub peer_after_none : (peer : ℕ) → peer_after peer [] ≡ peer
unfolding peer_after first_given if_true◌then◌else◌ if_some◌give◌otherwise◌
peer_after_none peer = go (eqb peer 0) refl
  where
    go : (z : Bool) → eqb peer 0 ≡ z → (if_true z then 0 else peer) ≡ peer
    go true is = sym (eqb-true peer 0 is)
    go false is = refl

-- once the group is bound it stays so
pub peer_stays : (peer : ℕ) (ms : List Member) → eqb peer 0 ≡ false → peer_after peer ms ≡ peer
unfolding peer_after if_true◌then◌else◌
peer_stays peer ms is = rw is

pub peer_after_one : (peer : ℕ) (m : Member)
    → peer_after peer (m ∷ []) ≡ (if_true arrives m && eqb peer 0 then m.leg.link.peer else peer)
unfolding peer_after first_given group_brought or_else flagged if_true◌then◌else◌ if_some◌give◌otherwise◌
peer_after_one peer m = go (arrives m) (eqb m.leg.link.peer 0) (eqb peer 0) refl refl
  where
    q : ℕ
    q = m.leg.link.peer

    go : (a y z : Bool) → eqb q 0 ≡ y → eqb peer 0 ≡ z
        → (if_true z then or_zero (or_else (flagged (a && not y) q) None) else peer) ≡ (if_true a && z then q else peer)
    go true y false is_q is = refl
    go false y false is_q is = refl
    go false y true is_q is = sym (eqb-true peer 0 is)
    go true true true is_q is = sym (eqb-true q 0 is_q)
    go true false true is_q is = refl

pub peer_after_next : (peer : ℕ) (m : Member) (ms : List Member)
    → peer_after peer (m ∷ ms) ≡ peer_after (peer_after peer (m ∷ [])) ms
unfolding peer_after first_given group_brought or_else flagged if_true◌then◌else◌ if_some◌give◌otherwise◌
peer_after_next peer m ms = go (arrives m) (eqb m.leg.link.peer 0) (eqb peer 0) refl refl
  where
    q : ℕ
    q = m.leg.link.peer

    rest : Option ℕ
    rest = first_given group_brought ms

    go : (a y z : Bool) → eqb q 0 ≡ y → eqb peer 0 ≡ z
        → (if_true z then or_zero (or_else (flagged (a && not y) q) rest) else peer)
        ≡ bound_to (if_true z then or_zero (or_else (flagged (a && not y) q) None) else peer) rest
    go a y false is_q is = ap (λ (b : Bool). if_true b then or_zero rest else peer) (sym is)
    go false y true is_q is = refl
    go true true true is_q is = refl
    go true false true is_q is = ap (λ (b : Bool). if_true b then or_zero rest else q) (sym is_q)

-- ---- where they come from

pub base_after_elim : (Q : Option ℕ → Type 0) (base : Option ℕ) (ms : List Member) → Q base
    → ((i : ℕ) (m : Member) → at_place i ms ≡ Some m → arrives m ≡ true → Q (peer_initial_sequence m.leg)) → Q (base_after base ms)
unfolding at_place or_else
base_after_elim Q base [] h g = subst Q (sym (base_after_none base)) h
base_after_elim Q base (m ∷ ms) h g =
    subst Q (sym (base_after_next base m ms))
    (base_after_elim Q (base_after base (m ∷ [])) ms
    (subst Q (sym (base_after_one base m))
    (if_elim Q _ _ _ (λ e. either base (peer_initial_sequence m.leg) h (g 0 m refl e)) (λ e. h)))
    (λ i x at a. g (suc i) x at a))
  where
    either : (a b : Option ℕ) → Q a → Q b → Q (or_else a b)
    either None b f k = k
    either (Some x) b f k = f

pub peer_after_elim : (Q : ℕ → Type 0) (peer : ℕ) (ms : List Member) → Q peer
    → ((n i : ℕ) (m : Member) → at_place i ms ≡ Some m → arrives m ≡ true → eqb n 0 ≡ true → Q n → Q m.leg.link.peer) → Q (peer_after peer ms)
unfolding at_place
peer_after_elim Q peer [] h g = subst Q (sym (peer_after_none peer)) h
peer_after_elim Q peer (m ∷ ms) h g =
    subst Q (sym (peer_after_next peer m ms))
    (peer_after_elim Q (peer_after peer (m ∷ [])) ms
    (subst Q (sym (peer_after_one peer m))
    (if_elim Q _ _ _ (λ e. g peer 0 m refl (and_left (arrives m) _ e) (and_right (arrives m) _ e) h) (λ e. h)))
    (λ n i x at a unbound k. g n (suc i) x at a unbound k))
