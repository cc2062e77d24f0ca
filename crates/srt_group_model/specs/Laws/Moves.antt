-- What receiving can move. A `Law` names the few moves, and one walk shows that whatever they keep is kept by every call, with
-- its log. The laws of the skipped total, of the base and demand 3 are instances.
use Rattle.std.specs.Prelude.{◌≡◌, refl, true, false, not, List, ◌∷◌, ℕ, zero, suc, None, Some}
use Rattle.std.proofs.Common.{sym, ap, ◌∙◌}
use Rattle.srt_protocol.specs.Sequence.{sequence_distance}
use Rattle.srt_group_model.specs.Tools.{is_set, flagged, such_that, each}
use Rattle.srt_group_model.specs.Laws.Reason.{if_elim, if_some_elim, not_both, none_some, or_right}
use Rattle.srt_group_model.specs.State.{Member, Receive, State, next_receive_sequence, with_base, with_pending}
use Rattle.srt_group_model.specs.Nearest.{sequence_of, has_sequence, is_held, held_at, insert, nearest}
use Rattle.srt_group_model.specs.Run.{Mark, put, base_set, collected, gap_skipped, delivered, Run, set_base}
use Rattle.srt_group_model.specs.Collecting.{is_discarded, retain_group_packet, report_event, collect_member_event, Visited, take_front, collect_one_event, Emptied, collect_until_empty}
use Rattle.srt_group_model.specs.Delivery.{pass_run, skip_to}
use Rattle.srt_group_model.specs.Removal.{own_packet}
use Rattle.srt_group_model.specs.declared.Event.{Event}
use Rattle.srt_group_model.specs.declared.Receiving.{Receiving}
use Rattle.srt_group_model.specs.declared.Packet.{Packet}

-- ---- the moves

pub record Law (I : Receive → List Mark → Type 0) : Type 0 where
  -- the base is set, once
  pub sets_base : (x : Receive) (log : List Mark) (b : ℕ) → next_receive_sequence x ≡ None → I x log → I (with_base b x) (base_set b ∷ log)
  -- a packet is collected, and retained or discarded
  pub retains : (x : Receive) (log : List Mark) (p : Packet) → is_discarded p x ≡ false → I x log → I (with_pending (insert p x.pending) x) (collected p ∷ log)
  pub discards : (x : Receive) (log : List Mark) (p : Packet) → is_discarded p x ≡ true → I x log → I x (collected p ∷ log)
  -- a gap before the nearest packet is skipped, the base not being held
  pub skips : (x : Receive) (log : List Mark) (base : ℕ) (p : Packet) (tested : State) (time : ℕ)
      → next_receive_sequence x ≡ Some base → is_held base x.pending ≡ false → nearest x.pending ≡ Some p → I x log
      → I (skip_to base (sequence_of p) x) (gap_skipped tested time (sequence_distance base (sequence_of p)) ∷ log)
  -- the packet at the base is delivered
  pub delivers : (x : Receive) (log : List Mark) (base : ℕ) (p : Packet) → next_receive_sequence x ≡ Some base → held_at base x.pending ≡ Some p → I x log → I (pass_run base p x) (delivered p ∷ log)
  -- a removed leg's packets become the group's own, and one of those is retired
  pub owns : (x : Receive) (log : List Mark) (id : ℕ) → I x log → I (with_pending (each (own_packet id) x.pending) x) log
  pub retires : (x : Receive) (log : List Mark) (p : Packet) → I x log → I (with_pending (such_that (λ q. not (has_sequence (sequence_of p) q)) x.pending) x) log
  -- a payload is put into a cell
  pub puts : (x : Receive) (log : List Mark) (cell : ℕ) (payload : List ℕ) → I x log → I x (put cell payload ∷ log)

-- ---- facts on collecting

-- collecting leaves the base and the skipped total
retain_numbers : (i : ℕ) (p : Packet) (s : State) → (retain_group_packet i p s).receive.numbers ≡ s.receive.numbers
unfolding retain_group_packet
retain_numbers i p s = if_elim (λ (t : State). t.receive.numbers ≡ s.receive.numbers) _ _ _ (λ e. refl) (λ e. refl)

abbrev pub SameNumbers : State → Run → Type 0
SameNumbers s r = r.state.receive.numbers ≡ s.receive.numbers

collect_member_numbers : (i id : ℕ) (e : Event) (r : Run) → SameNumbers r.state (collect_member_event i id e r)
unfolding collect_member_event report_event
collect_member_numbers i id e r = if_elim (SameNumbers r.state) _ _ _ (λ h. retain_numbers i _ r.state) (λ h. refl)

take_front_numbers : (i : ℕ) (m : Member) (r : Run) → SameNumbers r.state (take_front i m r).run
unfolding take_front
take_front_numbers i m r =
    if_some_elim (λ (v : Visited). SameNumbers r.state v.run) _ _ _
    (λ e g. if_elim (λ (v : Visited). SameNumbers r.state v.run) _ _ _ (λ h. refl) (λ h. collect_member_numbers i _ e _))
    (λ g. refl)

collect_one_numbers : (r : Run) → SameNumbers r.state (collect_one_event r).run
unfolding collect_one_event
collect_one_numbers r =
    if_some_elim (λ (v : Visited). SameNumbers r.state v.run) _ _ _
    (λ i g. if_some_elim (λ (v : Visited). SameNumbers r.state v.run) _ _ _ (λ m h. take_front_numbers i m r) (λ h. refl))
    (λ g. refl)

-- where nothing was collected, nothing is moved
abbrev pub Idle : Run → Visited → Type 0
Idle r v = v.took ≡ false → v.run.state.receive ≡ r.state.receive

take_front_idle : (i : ℕ) (m : Member) (r : Run) → Idle r (take_front i m r)
unfolding take_front
take_front_idle i m r =
    if_some_elim (Idle r) _ _ _ (λ e g. if_elim (Idle r) _ _ _ (λ h k. refl) (λ h k. not_both refl k)) (λ g k. refl)

collect_one_idle : (r : Run) → Idle r (collect_one_event r)
unfolding collect_one_event
collect_one_idle r =
    if_some_elim (Idle r) _ _ _
    (λ i g. if_some_elim (Idle r) _ _ _ (λ m h. take_front_idle i m r) (λ h k. refl))
    (λ g k. refl)

until_empty_numbers : (n sequence : ℕ) (r : Run) → SameNumbers r.state (collect_until_empty n sequence r).run
unfolding collect_until_empty
until_empty_numbers zero sequence r = refl
until_empty_numbers (suc n) sequence r =
    if_elim (λ (v : Emptied). SameNumbers r.state v.run) _ _ _ (λ h. refl)
    (λ h.
    if_elim (λ (v : Emptied). SameNumbers r.state v.run) _ _ _
    (λ k. until_empty_numbers n sequence (collect_one_event r).run ∙ collect_one_numbers r)
    (λ k. collect_one_numbers r))

-- the queues ended empty only if the sequence is not held
abbrev pub NotHeld : ℕ → Emptied → Type 0
NotHeld sequence v = v.emptied ≡ true → is_held sequence v.run.state.receive.pending ≡ false

pub until_empty_not_held : (n sequence : ℕ) (r : Run) → NotHeld sequence (collect_until_empty n sequence r)
unfolding collect_until_empty
until_empty_not_held zero sequence r = λ k. not_both k refl
until_empty_not_held (suc n) sequence r =
    if_elim (NotHeld sequence) _ _ _ (λ h k. not_both k refl)
    (λ h.
    if_elim (NotHeld sequence) _ _ _ (λ g. until_empty_not_held n sequence (collect_one_event r).run)
    (λ g k.
    ap (λ (x : Receive). is_held sequence x.pending) (collect_one_idle r g)
    ∙ or_right (is_set r.state.visit.continuation) (is_held sequence r.state.receive.pending) h))

pub until_empty_base : (n sequence : ℕ) (r : Run)
    → next_receive_sequence (collect_until_empty n sequence r).run.state.receive ≡ next_receive_sequence r.state.receive
until_empty_base n sequence r = ap (λ (x : Receiving). flagged (is_set x.based) x.base) (until_empty_numbers n sequence r)

-- after a skip, and after the base was set, it is where it was put
pub skip_base : (base next : ℕ) (x : Receive) → next_receive_sequence (skip_to base next x) ≡ Some next
unfolding skip_to flagged
skip_base base next x = refl

abbrev pub AtBase : ℕ → Run → Type 0
AtBase n r = next_receive_sequence r.state.receive ≡ Some n

pub set_base_base : (n : ℕ) (r : Run) → next_receive_sequence r.state.receive ≡ None → AtBase n (set_base (Some n) r)
unfolding set_base flagged
set_base_base n r e =
    if_some_elim (AtBase n) _ _ _ (λ b g. none_some (sym e ∙ g))
    (λ g. if_some_elim (AtBase n) (Some n) _ _ (λ b k. sym k) (λ k. none_some (sym k)))
