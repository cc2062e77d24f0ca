-- An addition takes and frees no cell: the new member's queue is empty.
use Rattle.std.specs.Prelude.{◌≡◌, refl, List, [], ◌∷◌, ◌++◌, ℕ, Option, Some}
use Rattle.std.proofs.Common.{ap, subst, ◌∙◌, arith}
use Rattle.srt_group_model.specs.Tools.{such_that, each}
use Rattle.srt_group_model.specs.Laws.Reason.{if_elim, if_some_elim, none_some, some_inj}
use Rattle.srt_group_model.specs.State.{Member, Send, State, with_leg}
use Rattle.srt_group_model.specs.Legs.{handed}
use Rattle.srt_group_model.specs.Members.{peer_after, admit_peer_group, align_member_sequence}
use Rattle.srt_group_model.specs.Run.{Run, start, set_base}
use Rattle.srt_group_model.specs.Cells.{queue_cells, queued_cells}
use Rattle.srt_group_model.specs.Sound.{occurs, pending_cells, history_cells}
use Rattle.srt_group_model.specs.Laws.CellsKept.{occurs_append, uses_used}
use Rattle.srt_group_model.specs.Laws.CellsMoved.{Keeps}
use Rattle.srt_group_model.specs.Guards.{Step}
use Rattle.srt_group_model.specs.Calls.{new_member, add_body}
use Rattle.srt_group_model.specs.declared.Leg.{Leg}
use Rattle.srt_group_model.specs.declared.Packet.{Packet}
use Rattle.srt_group_shown.specs.Laws.Found.{change_queued}

-- a base that is set leaves the held packets and the sending side
set_base_pending : (o : Option ℕ) (s : State) → (set_base o (start s)).state.receive.pending ≡ s.receive.pending
unfolding set_base
set_base_pending o s =
    if_some_elim (λ (x : Run). x.state.receive.pending ≡ s.receive.pending) _ _ _ (λ b e. refl)
    (λ e. if_some_elim (λ (x : Run). x.state.receive.pending ≡ s.receive.pending) _ _ _ (λ b g. refl) (λ g. refl))

set_base_sending : (o : Option ℕ) (s : State) → (set_base o (start s)).state.send ≡ s.send
unfolding set_base
set_base_sending o s =
    if_some_elim (λ (x : Run). x.state.send ≡ s.send) _ _ _ (λ b e. refl)
    (λ e. if_some_elim (λ (x : Run). x.state.send ≡ s.send) _ _ _ (λ b g. refl) (λ g. refl))

-- a member with an empty queue behind the others
behind_cells : (n : ℕ) (ms : List Member) (m : Member) → m.queue ≡ [] → occurs n (queued_cells (ms ++ (m ∷ []))) ≡ occurs n (queued_cells ms)
unfolding queued_cells queue_cells such_that each occurs
behind_cells n [] m empty = rw empty
behind_cells n (x ∷ ms) m empty =
    omega (arith, occurs_append n (queue_cells x) (queued_cells (ms ++ (m ∷ []))), occurs_append n (queue_cells x) (queued_cells ms), behind_cells n ms m empty)

admitted_queue : (peer : ℕ) (m : Member) → (admit_peer_group peer m).queue ≡ m.queue
unfolding admit_peer_group
admitted_queue peer m =
    if_elim (λ (x : Member). x.queue ≡ m.queue) _ _ _
    (λ e. if_elim (λ (x : Member). x.queue ≡ m.queue) _ _ _ (λ g. refl) (λ g. refl)) (λ e. refl)

joined_cells : (n peer id weight : ℕ) (l : Leg) (s : State)
    → occurs n (queued_cells (s.members ++ (admit_peer_group peer (new_member id weight l s) ∷ []))) ≡ occurs n (queued_cells s.members)
unfolding new_member
joined_cells n peer id weight l s =
    behind_cells n s.members (admit_peer_group peer (new_member id weight l s)) (admitted_queue peer (new_member id weight l s))

-- a member that is aligned keeps its queue
same_queue : (n : ℕ) (l : Leg) (m : Member) → occurs n (queue_cells (with_leg l m)) ≡ occurs n (queue_cells m)
unfolding queue_cells
same_queue n l m = refl

aligned_cells : (n : ℕ) (number : Option ℕ) (i : ℕ) (ms ns : List Member) → align_member_sequence number i ms ≡ Some ns
    → occurs n (queued_cells ns) ≡ occurs n (queued_cells ms)
unfolding align_member_sequence
aligned_cells n number i ms ns =
    if_some_elim (λ (o : Option (List Member)). o ≡ Some ns → occurs n (queued_cells ns) ≡ occurs n (queued_cells ms)) _ _ _
    (λ m at.
    if_some_elim (λ (o : Option (List Member)). o ≡ Some ns → occurs n (queued_cells ns) ≡ occurs n (queued_cells ms)) _ _ _
    (λ sequence source.
    if_some_elim (λ (o : Option (List Member)). o ≡ Some ns → occurs n (queued_cells ns) ≡ occurs n (queued_cells ms)) _ _ _
    (λ l g e.
    subst (λ (x : List Member). occurs n (queued_cells x) ≡ occurs n (queued_cells ms)) (some_inj e)
    (change_queued n i (with_leg l) ms (same_queue n l)))
    (λ g e. none_some e))
    (λ source e. subst (λ (x : List Member). occurs n (queued_cells x) ≡ occurs n (queued_cells ms)) (some_inj e) refl))
    (λ at e. none_some e)

-- only the members change, and their queues name the same cells
keeps_by : (s t : State) → ((n : ℕ) → occurs n (queued_cells t.members) ≡ occurs n (queued_cells s.members))
    → t.receive.pending ≡ s.receive.pending → t.send ≡ s.send → Keeps s t
unfolding occurs
keeps_by s t same pending sending =
    record {
      cells =
          λ n.
          omega (
            arith,
            uses_used n s,
            uses_used n t,
            same n,
            ap (λ (x : List Packet). occurs n (pending_cells x)) pending,
            ap (λ (x : Send). occurs n (history_cells x.history)) sending,
          );
    }

pub adding_keeps : (id weight : ℕ) (l : Leg) (s : State) → Keeps s (add_body id weight l s).state
unfolding add_body
adding_keeps id weight l s =
    let peer = peer_after s.peer (new_member id weight (handed l) s ∷ []) in
    let joined : (n : ℕ) → occurs n (queued_cells (s.members ++ (admit_peer_group peer (new_member id weight (handed l) s) ∷ []))) ≡ occurs n (queued_cells s.members) =
    λ n. joined_cells n peer id weight (handed l) s
    in
    if_elim (λ (x : Step). Keeps s x.state) _ _ _
    (λ e.
    if_some_elim (λ (x : Step). Keeps s x.state) _ _ _
    (λ ns g. keeps_by s _ (λ n. aligned_cells n _ _ _ ns g ∙ joined n) (set_base_pending _ s) (set_base_sending _ s))
    (λ g. keeps_by s _ joined (set_base_pending _ s) (set_base_sending _ s)))
    (λ e. keeps_by s _ joined (set_base_pending _ s) (set_base_sending _ s))
