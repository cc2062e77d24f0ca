-- Laws of what a list of marks, newest first, adds up to: the sums of two lists are added, and a payload put into another cell
-- changes nothing in this one. The sums themselves are in Statement.
use Rattle.std.specs.Prelude.{◌≡◌, refl, List, [], ◌∷◌, ◌++◌, ℕ, ◌+◌, eqb}
use Rattle.std.proofs.Common.{sym, ◌∙◌, subst, append_assoc, arith}
use Rattle.srt_group_model.specs.Run.{Mark, put, base_set, collected, gap_skipped, delivered}
use Rattle.srt_group_model.specs.Laws.Reason.{if_elim, not_both}
use Rattle.srt_group_model.specs.Tools.{All}
use Rattle.srt_group_model.specs.declared.Packet.{Packet}
use Rattle.srt_group_traces.specs.Statement.{total_skipped, total_delivered, last_put, Marked}
use Rattle.srt_group_traces.specs.Laws.Cases.{eq_of, eqb_yes}

pub total_delivered_append : (l m : List Mark) → total_delivered (l ++ m) ≡ total_delivered l + total_delivered m
unfolding total_delivered
total_delivered_append [] m = omega arith
total_delivered_append (put cell payload ∷ l) m = total_delivered_append l m
total_delivered_append (base_set base ∷ l) m = total_delivered_append l m
total_delivered_append (collected p ∷ l) m = total_delivered_append l m
total_delivered_append (gap_skipped tested time distance ∷ l) m = total_delivered_append l m
total_delivered_append (delivered p ∷ l) m = omega (arith, total_delivered_append l m)

pub total_skipped_append : (l m : List Mark) → total_skipped (l ++ m) ≡ total_skipped l + total_skipped m
unfolding total_skipped
total_skipped_append [] m = omega arith
total_skipped_append (put cell payload ∷ l) m = total_skipped_append l m
total_skipped_append (base_set base ∷ l) m = total_skipped_append l m
total_skipped_append (collected p ∷ l) m = total_skipped_append l m
total_skipped_append (gap_skipped tested time distance ∷ l) m = omega (arith, total_skipped_append l m)
total_skipped_append (delivered p ∷ l) m = total_skipped_append l m

-- a payload put into another cell changes nothing here
pub last_put_elsewhere : (other cell : ℕ) (payload : List ℕ) (log : List Mark) → (other ≡ cell → ⊥)
    → last_put (put other payload ∷ log) cell ≡ last_put log cell
unfolding last_put
last_put_elsewhere other cell payload log h =
    if_elim (λ (z : List ℕ). z ≡ last_put log cell) (eqb other cell) _ _ (λ e. absurd (h (eq_of other cell e))) (λ e. refl)

pub last_put_there : (cell : ℕ) (payload : List ℕ) (log : List Mark) → last_put (put cell payload ∷ log) cell ≡ payload
unfolding last_put
last_put_there cell payload log =
    if_elim (λ (z : List ℕ). z ≡ payload) (eqb cell cell) _ _ (λ e. refl) (λ e. not_both (eqb_yes cell) e)

-- ---- each packet that was collected, with the marks before it

abbrev pub EachCollected : (List Mark → Packet → Type 0) → List Mark → Type 0
EachCollected P [] = Unit {0}
EachCollected P (put cell payload ∷ log) = EachCollected P log
EachCollected P (base_set base ∷ log) = EachCollected P log
EachCollected P (collected p ∷ log) = P log p × EachCollected P log
EachCollected P (gap_skipped tested time distance ∷ log) = EachCollected P log
EachCollected P (delivered p ∷ log) = EachCollected P log

-- of a list, so of its beginning
pub each_collected_before : (P : List Mark → Packet → Type 0) (m log : List Mark) → EachCollected P (m ++ log) → EachCollected P log
each_collected_before P [] log h = h
each_collected_before P (put cell payload ∷ m) log h = each_collected_before P m log h
each_collected_before P (base_set base ∷ m) log h = each_collected_before P m log h
each_collected_before P (collected p ∷ m) log h = each_collected_before P m log h.1
each_collected_before P (gap_skipped tested time distance ∷ m) log h = each_collected_before P m log h
each_collected_before P (delivered p ∷ m) log h = each_collected_before P m log h

pub each_collected_at : (P : List Mark → Packet → Type 0) (log : List Mark) → EachCollected P log
    → (p : Packet) (older : List Mark) → Marked log (collected p) older → P older p
each_collected_at P log h p older at = (each_collected_before P at.0 (collected p ∷ older) (subst (EachCollected P) at.1 h)).0

pub each_collected_of : (P : List Mark → Packet → Type 0) (log : List Mark)
    → ((p : Packet) (older : List Mark) → Marked log (collected p) older → P older p) → EachCollected P log
each_collected_of P log f = go [] log refl
  where
    on : (newer : List Mark) (mark : Mark) (older : List Mark) → log ≡ newer ++ (mark ∷ older) → log ≡ (newer ++ (mark ∷ [])) ++ older
    on newer mark older e = e ∙ sym (append_assoc newer (mark ∷ []) older)

    go : (newer older : List Mark) → log ≡ newer ++ older → EachCollected P older
    go newer [] e = tt
    go newer (put cell payload ∷ older) e = go (newer ++ (put cell payload ∷ [])) older (on newer _ older e)
    go newer (base_set base ∷ older) e = go (newer ++ (base_set base ∷ [])) older (on newer _ older e)
    go newer (collected p ∷ older) e = (f p older (newer, e), go (newer ++ (collected p ∷ [])) older (on newer _ older e))
    go newer (gap_skipped tested time distance ∷ older) e = go (newer ++ (gap_skipped tested time distance ∷ [])) older (on newer _ older e)
    go newer (delivered p ∷ older) e = go (newer ++ (delivered p ∷ [])) older (on newer _ older e)

-- a fact of every mark
pub all_marked : (P : Mark → Type 0) (log : List Mark) → ((mark : Mark) (older : List Mark) → Marked log mark older → P mark) → All P log
all_marked P log f = go [] log refl
  where
    go : (newer older : List Mark) → log ≡ newer ++ older → All P older
    go newer [] e = tt
    go newer (mark ∷ older) e = (f mark older (newer, e), go (newer ++ (mark ∷ [])) older (e ∙ sym (append_assoc newer (mark ∷ []) older)))

pub marked_all : (P : Mark → Type 0) (log : List Mark) → All P log → (mark : Mark) (older : List Mark) → Marked log mark older → P mark
marked_all P log h mark older at = go at.0 (subst (All P) at.1 h)
  where
    go : (newer : List Mark) → All P (newer ++ (mark ∷ older)) → P mark
    go [] h = h.0
    go (x ∷ newer) h = go newer h.1
