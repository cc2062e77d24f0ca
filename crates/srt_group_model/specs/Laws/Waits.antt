-- How many events wait: a visit adds one at most, and the refresh none.
use Rattle.std.specs.Prelude.{◌≡◌, refl, true, false, not, List, [], ◌∷◌, ℕ, ◌+◌, ◌≤◌, ◌<◌, length, Option}
use Rattle.std.proofs.Common.{ap, arith, length-append}
use Rattle.std.proofs.lemmas.Bool.{not-false}
use Rattle.srt_group_model.specs.Tools.{is_empty}
use Rattle.srt_group_model.specs.Laws.Reason.{if_elim, if_some_elim, not_both}
use Rattle.srt_group_model.specs.State.{Member, State}
use Rattle.srt_group_model.specs.Run.{Run, set_base, admit_connected_peer_groups, refresh_pending_states, refresh_states}
use Rattle.srt_group_model.specs.Collecting.{retain_group_packet, report_event, collect_member_event, Visited, take_front, collect_one_event, packet_from, waiting_from}
use Rattle.srt_group_model.specs.Validity.{max_waiting}
use Rattle.srt_group_model.specs.declared.Event.{Event}
use Rattle.srt_group_model.specs.declared.Packet.{Packet}
use Rattle.srt_group_model.specs.declared.Waiting.{Waiting}

abbrev pub waits : Run → ℕ
waits r = length r.state.waiting

-- at most one more
abbrev OneMore : Run → Run → Type 0
OneMore r t = waits t ≤ waits r + 1

retain_waits : (i : ℕ) (p : Packet) (s : State) → (retain_group_packet i p s).waiting ≡ s.waiting
unfolding retain_group_packet
retain_waits i p s = if_elim (λ (t : State). t.waiting ≡ s.waiting) _ _ _ (λ e. refl) (λ e. refl)

collect_member_waits : (i id : ℕ) (e : Event) (r : Run) → OneMore r (collect_member_event i id e r)
unfolding collect_member_event report_event
collect_member_waits i id e r =
    if_elim (OneMore r) _ _ _
    (λ h. omega (arith, ap (λ (l : List Waiting). length l) (retain_waits i (packet_from id e) r.state)))
    (λ h. omega (arith, length-append r.state.waiting (waiting_from id e ∷ [])))

take_front_waits : (i : ℕ) (m : Member) (r : Run) → OneMore r (take_front i m r).run
unfolding take_front
take_front_waits i m r =
    if_some_elim (λ (v : Visited). OneMore r v.run) _ _ _
    (λ e g. if_elim (λ (v : Visited). OneMore r v.run) _ _ _ (λ h. omega arith) (λ h. collect_member_waits i _ e _))
    (λ g. omega arith)

pub collect_one_waits : (r : Run) → OneMore r (collect_one_event r).run
unfolding collect_one_event
collect_one_waits r =
    if_some_elim (λ (v : Visited). OneMore r v.run) _ _ _
    (λ i g. if_some_elim (λ (v : Visited). OneMore r v.run) _ _ _ (λ m h. take_front_waits i m r) (λ h. omega arith))
    (λ g. omega arith)

-- room for one more
abbrev pub FewWait : Run → Type 0
FewWait r = waits r < max_waiting

empty_none : {A : Type 0} (l : List A) → is_empty l ≡ true → length l ≡ 0
unfolding is_empty
empty_none [] e = refl
empty_none (x ∷ l) e = not_both e refl

-- what a poll tests before it collects
pub none_waits : (ws : List Waiting) → not (is_empty ws) ≡ false → length ws ≡ 0
none_waits ws e = empty_none ws (not-false _ e)

set_base_waits : (o : Option ℕ) (r : Run) → waits (set_base o r) ≡ waits r
unfolding set_base
set_base_waits o r =
    if_some_elim (λ (t : Run). waits t ≡ waits r) _ _ _ (λ b e. refl)
    (λ e. if_some_elim (λ (t : Run). waits t ≡ waits r) _ _ _ (λ b g. refl) (λ g. refl))

pub refresh_waits : (r : Run) → waits (refresh_states r) ≡ waits r
unfolding refresh_states refresh_pending_states admit_connected_peer_groups
refresh_waits r = set_base_waits _ r
