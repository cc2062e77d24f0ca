-- Cells stay apart over every call: no cell is named twice and none lies beyond the store, so the rules `cell_twice` and
-- `cell_beyond_store` of validity are kept, and a payload is only ever put into a cell that nothing else uses.
use Rattle.std.specs.Prelude.{◌≡◌, refl, Bool, true, false, ◌||◌, List, [], ◌∷◌, ◌++◌, ℕ, zero, suc, ◌+◌, ◌≤◌, ◌<◌, leb, ltb, eqb, drop, Some}
use Rattle.std.proofs.Common.{sym, ap, ap₂, ◌∙◌, arith, eqb-true, ltb-true, ltb-false, leb-true, leb-false, eq-eqb}
use Rattle.std.proofs.lemmas.Bool.{lt-leb}
use Rattle.srt_group_model.specs.Tools.{any, such_that, at_place, change, each}
use Rattle.srt_group_model.specs.Laws.Reason.{if_elim, by_test, not_both, none_some, some_inj, or_left, or_right}
use Rattle.srt_group_model.specs.State.{Member, State}
use Rattle.srt_group_model.specs.Nearest.{insert}
use Rattle.srt_group_model.specs.Collecting.{front, retain_group_packet}
use Rattle.srt_group_model.specs.Removal.{own_packet}
use Rattle.srt_group_model.specs.Cells.{is_data, queue_cells, queued_cells, used_cells, is_among}
use Rattle.srt_group_model.specs.Validity.{one_twice}
use Rattle.srt_group_model.specs.Laws.Queues.{AllRelabelled, pop}
use Rattle.srt_group_model.specs.declared.Event.{Event}
use Rattle.srt_group_model.specs.declared.Packet.{Packet}
use Rattle.srt_group_model.specs.Sound.{one, occurs, room, pending_cells, history_cells, uses}

-- ---- how often a number occurs

pub occurs_append : (n : ℕ) (l m : List ℕ) → occurs n (l ++ m) ≡ occurs n l + occurs n m
unfolding occurs
occurs_append n [] m = omega arith
occurs_append n (x ∷ l) m = omega (arith, occurs_append n l m)

pub one_same : (n : ℕ) → one n n ≡ 1
one_same n = if_elim (λ (k : ℕ). k ≡ 1) (eqb n n) 1 0 (λ e. refl) (λ e. not_both (eq-eqb n n refl) e)

pub one_other : (m n : ℕ) → eqb m n ≡ false → one m n ≡ 0
one_other m n h = if_elim (λ (k : ℕ). k ≡ 0) (eqb m n) 1 0 (λ e. not_both e h) (λ e. refl)

pub one_most : (m n : ℕ) → one m n ≤ 1
one_most m n = if_elim (λ (k : ℕ). k ≤ 1) (eqb m n) 1 0 (λ e. omega arith) (λ e. omega arith)

-- among a list is what occurs in it
pub absent : (n : ℕ) (l : List ℕ) → is_among n l ≡ false → occurs n l ≡ 0
unfolding occurs any
absent n [] h = refl
absent n (m ∷ l) h =
    omega (arith, one_other m n (or_left (eqb m n) _ h), absent n l (or_right (eqb m n) _ h))

pub present : (n : ℕ) (l : List ℕ) → is_among n l ≡ true → 1 ≤ occurs n l
unfolding occurs any
present n [] h = not_both h refl
present n (m ∷ l) h =
    by_test (eqb m n) (λ e. omega (arith, ap (λ (k : ℕ). one k n) (eqb-true m n e) ∙ one_same n))
    (λ e. omega (arith, present n l (ap (λ (b : Bool). b || is_among n l) (sym e) ∙ h)))

-- ---- apart: each cell of the store occurs once at most, and no other at all

once : (l : List ℕ) → one_twice l ≡ false → (n : ℕ) → occurs n l ≤ 1
unfolding one_twice occurs
once [] h n = omega arith
once (m ∷ l) h n =
    by_test (eqb m n)
    (λ e.
    let none_left : occurs n l ≡ 0 = absent n l (ap (λ (k : ℕ). is_among k l) (sym (eqb-true m n e)) ∙ or_left (is_among m l) _ h) in
    omega (arith, one_most m n, none_left))
    (λ e. omega (arith, one_other m n e, once l (or_right (is_among m l) _ h) n))

inside : (cells : ℕ) (l : List ℕ) → any (leb cells) l ≡ false → (n : ℕ) → 1 ≤ occurs n l → n < cells
unfolding any occurs
inside cells [] h n k = absurd (omega arith)
inside cells (m ∷ l) h n k =
    by_test (eqb m n)
    (λ e. omega (arith, eqb-true m n e, leb-false cells m (or_left (leb cells m) _ h)))
    (λ e. inside cells l (or_right (leb cells m) _ h) n (omega (arith, one_other m n e)))

abbrev pub Apart : ℕ → List ℕ → Type 0
Apart cells l = (n : ℕ) → occurs n l ≤ room cells n

pub apart_of_rules : (cells : ℕ) (l : List ℕ) → one_twice l ≡ false → any (leb cells) l ≡ false → Apart cells l
apart_of_rules cells l h k n =
    if_elim (λ (r : ℕ). occurs n l ≤ r) (ltb n cells) 1 0 (λ e. once l h n)
    (λ e. by_test (leb 1 (occurs n l)) (λ g. absurd (omega (arith, inside cells l k n (leb-true 1 (occurs n l) g), ltb-false n cells e))) (λ g. omega (arith, leb-false 1 (occurs n l) g)))

pub room_inside : (cells n : ℕ) → 1 ≤ room cells n → n < cells
room_inside cells n =
    if_elim (λ (r : ℕ). 1 ≤ r → n < cells) (ltb n cells) 1 0 (λ e h. ltb-true n cells e) (λ e h. absurd (omega arith))

pub room_most : (cells n : ℕ) → room cells n ≤ 1
room_most cells n = if_elim (λ (r : ℕ). r ≤ 1) (ltb n cells) 1 0 (λ e. omega arith) (λ e. omega arith)

pub once_of_apart : (cells : ℕ) (l : List ℕ) → Apart cells l → one_twice l ≡ false
unfolding one_twice occurs
once_of_apart cells [] h = refl
once_of_apart cells (m ∷ l) h =
    by_test (is_among m l)
    (λ e. absurd (omega (arith, h m, one_same m, present m l e, room_most cells m)))
    (λ e. ap₂ (λ (a b : Bool). a || b) e (once_of_apart cells l (λ n. omega (arith, h n))))

pub inside_of_apart : (cells : ℕ) (l : List ℕ) → Apart cells l → any (leb cells) l ≡ false
unfolding any occurs
inside_of_apart cells [] h = refl
inside_of_apart cells (m ∷ l) h =
    ap₂ (λ (a b : Bool). a || b)
    (lt-leb cells m (room_inside cells m (omega (arith, h m, one_same m))))
    (inside_of_apart cells l (λ n. omega (arith, h n)))

-- ---- the cells in use, part by part

pub uses_used : (n : ℕ) (s : State) → occurs n (used_cells s) ≡ uses n s.members s.receive.pending s.send.history
unfolding used_cells
uses_used n s =
    omega (arith, occurs_append n (queued_cells s.members) (pending_cells s.receive.pending ++ history_cells s.send.history), occurs_append n (pending_cells s.receive.pending) (history_cells s.send.history))

-- ---- what the moves do to them

pub relabelled_cells : (ms ns : List Member) → AllRelabelled ms ns → queued_cells ns ≡ queued_cells ms
unfolding queued_cells queue_cells
relabelled_cells [] [] h = refl
relabelled_cells [] (n ∷ ns) h = absurd h
relabelled_cells (m ∷ ms) [] h = absurd h
relabelled_cells (m ∷ ms) (n ∷ ns) h =
    ap₂ {C = List ℕ} (λ a b. a ++ b)
    (ap (λ (q : List Event). each (λ (e : Event). e.content.cell) (such_that is_data q)) h.0.queue)
    (relabelled_cells ms ns h.1)

front_data : (n : ℕ) (q : List Event) (e : Event) → front q ≡ Some e → eqb e.kind 0 ≡ true
    → occurs n (each (λ (x : Event). x.content.cell) (such_that is_data q)) ≡ one e.content.cell n + occurs n (each (λ (x : Event). x.content.cell) (such_that is_data (drop 1 q)))
unfolding such_that each occurs at_place
front_data n [] e f d = none_some f
front_data n (x ∷ q) e f d =
    if_elim
    (λ (l : List Event). occurs n (each (λ (y : Event). y.content.cell) l) ≡ one e.content.cell n + occurs n (each (λ (y : Event). y.content.cell) (such_that is_data q)))
    _ _ _
    (λ g. ap (λ (y : Event). one y.content.cell n + occurs n (each (λ (z : Event). z.content.cell) (such_that is_data q))) (some_inj f))
    (λ g. not_both (ap (λ (y : Event). eqb y.kind 0) (some_inj f) ∙ d) g)

front_event : (q : List Event) (e : Event) → front q ≡ Some e → eqb e.kind 0 ≡ false → such_that is_data q ≡ such_that is_data (drop 1 q)
unfolding such_that at_place
front_event [] e f d = none_some f
front_event (x ∷ q) e f d =
    if_elim (λ (l : List Event). l ≡ such_that is_data q) _ _ _
    (λ g. not_both g (ap (λ (y : Event). eqb y.kind 0) (some_inj f) ∙ d)) (λ g. refl)

pub popped_data : (n i : ℕ) (m : Member) (e : Event) (ms : List Member) → at_place i ms ≡ Some m → front m.queue ≡ Some e → eqb e.kind 0 ≡ true
    → occurs n (queued_cells ms) ≡ one e.content.cell n + occurs n (queued_cells (change i pop ms))
unfolding queued_cells queue_cells at_place change
popped_data n zero m e [] at f d = none_some at
popped_data n (suc i) m e [] at f d = none_some at
popped_data n zero m e (x ∷ ms) at f d =
    let h = front_data n x.queue e (ap (λ (y : Member). front y.queue) (some_inj at) ∙ f) d in
    occurs_append n (queue_cells x) (queued_cells ms)
    ∙ ap (λ (k : ℕ). k + occurs n (queued_cells ms)) h
    ∙ regroup (one e.content.cell n) (occurs n (queue_cells (pop x))) (occurs n (queued_cells ms))
    ∙ ap (λ (k : ℕ). one e.content.cell n + k) (sym (occurs_append n (queue_cells (pop x)) (queued_cells ms)))
  where
    regroup : (a b c : ℕ) → a + b + c ≡ a + (b + c)
    regroup a b c = omega arith
popped_data n (suc i) m e (x ∷ ms) at f d =
    occurs_append n (queue_cells x) (queued_cells ms)
    ∙ ap (λ (k : ℕ). occurs n (queue_cells x) + k) (popped_data n i m e ms at f d)
    ∙ shift (occurs n (queue_cells x)) (one e.content.cell n) (occurs n (queued_cells (change i pop ms)))
    ∙ ap (λ (k : ℕ). one e.content.cell n + k) (sym (occurs_append n (queue_cells x) (queued_cells (change i pop ms))))
  where
    shift : (a b c : ℕ) → a + (b + c) ≡ b + (a + c)
    shift a b c = omega arith

pub popped_event : (i : ℕ) (m : Member) (e : Event) (ms : List Member) → at_place i ms ≡ Some m → front m.queue ≡ Some e → eqb e.kind 0 ≡ false
    → queued_cells ms ≡ queued_cells (change i pop ms)
unfolding queued_cells queue_cells at_place change
popped_event zero m e [] at f d = none_some at
popped_event (suc i) m e [] at f d = none_some at
popped_event zero m e (x ∷ ms) at f d =
    ap (λ (l : List Event). each (λ (y : Event). y.content.cell) l ++ queued_cells ms)
    (front_event x.queue e (ap (λ (y : Member). front y.queue) (some_inj at) ∙ f) d)
popped_event (suc i) m e (x ∷ ms) at f d = ap (λ (l : List ℕ). queue_cells x ++ l) (popped_event i m e ms at f d)

pub inserted : (n : ℕ) (p : Packet) (ps : List Packet) → occurs n (pending_cells (insert p ps)) ≡ one p.content.cell n + occurs n (pending_cells ps)
unfolding insert each occurs
inserted n p [] = refl
inserted n p (q ∷ qs) =
    if_elim (λ (l : List Packet). occurs n (pending_cells l) ≡ one p.content.cell n + (one q.content.cell n + occurs n (pending_cells qs))) _ _ _
    (λ e. refl)
    (λ e. ap (λ (k : ℕ). one q.content.cell n + k) (inserted n p qs) ∙ shift (one q.content.cell n) (one p.content.cell n) (occurs n (pending_cells qs)))
  where
    shift : (a b c : ℕ) → a + (b + c) ≡ b + (a + c)
    shift a b c = omega arith

pub fewer_held : (n : ℕ) (test : Packet → Bool) (ps : List Packet) → occurs n (pending_cells (such_that test ps)) ≤ occurs n (pending_cells ps)
unfolding such_that each occurs
fewer_held n test [] = omega arith
fewer_held n test (p ∷ ps) =
    if_elim (λ (l : List Packet). occurs n (pending_cells l) ≤ one p.content.cell n + occurs n (pending_cells ps)) _ _ _
    (λ e. omega (arith, fewer_held n test ps)) (λ e. omega (arith, fewer_held n test ps))

pub own_cells : (id : ℕ) (ps : List Packet) → pending_cells (each (own_packet id) ps) ≡ pending_cells ps
unfolding each own_packet
own_cells id [] = refl
own_cells id (p ∷ ps) =
    ap₂ {C = List ℕ} (λ a b. a ∷ b)
    (if_elim (λ (q : Packet). q.content.cell ≡ p.content.cell) _ _ _ (λ e. refl) (λ e. refl))
    (own_cells id ps)

pub retain_send : (i : ℕ) (p : Packet) (s : State) → (retain_group_packet i p s).send ≡ s.send
unfolding retain_group_packet
retain_send i p s = if_elim (λ (t : State). t.send ≡ s.send) _ _ _ (λ e. refl) (λ e. refl)
