-- A call under way: its state, its log and its budget; and the refresh of the members' states, which may set the base. From
-- `admit_connected_peer_groups`, `refresh_pending_states`, `refresh_states`.
use Rattle.std.specs.Prelude.{List, [], ◌∷◌, ℕ, None, Option}
use Rattle.srt_group_model.specs.Tools.{if_some◌give◌otherwise◌, each}
use Rattle.srt_group_model.specs.State.{Member, State, next_receive_sequence, next_send_sequence, with_receive, with_members, with_peer, with_base}
use Rattle.srt_group_model.specs.Members.{base_after, peer_after, admit_peer_group, settle_members, requalify_members}
use Rattle.srt_group_model.specs.declared.Packet.{Packet}

-- ---- the log

-- What a call did, for the history (demand 3), and in no state: a payload was put into a cell; the base was first set; a
-- packet was collected; the base was skipped ahead (the state and the time at which the give-up test was made, and the
-- distance); a packet was delivered.
pub data Mark : Type 0 where
  put : (cell : ℕ) (payload : List ℕ) → Mark
  base_set : ℕ → Mark
  collected : Packet → Mark
  gap_skipped : State → (time distance : ℕ) → Mark
  delivered : Packet → Mark

-- a call under way: the state, the marks so far, newest first, and what is left of the visit's budget
pub record Run : Type 0 where
  pub state : State
  pub log : List Mark
  pub budget : ℕ

abbrev pub start : State → Run
start s = record { state = s; log = []; budget = 0 }

abbrev pub on_state : (State → State) → Run → Run
on_state f r = record { state = f r.state; log = r.log; budget = r.budget }

abbrev pub marking : Mark → Run → Run
marking m r = record { state = r.state; log = m ∷ r.log; budget = r.budget }

-- ---- the refresh

-- the base is set if it was not
unfoldable pub set_base : Option ℕ → Run → Run
set_base base r =
    if_some next_receive_sequence r.state.receive
    give (λ b. r)
    otherwise
    (if_some base give (λ b. marking (base_set b) (on_state (λ s. with_receive (with_base b s.receive) s) r)) otherwise r)

unfoldable pub admit_connected_peer_groups : Run → Run
admit_connected_peer_groups r =
    let ms = r.state.members in
    let peer = peer_after r.state.peer ms in
    on_state (λ s. with_peer peer (with_members (each (admit_peer_group peer) ms) s))
    (set_base (base_after None ms) r)

abbrev pub on_members : (State → List Member → List Member) → Run → Run
on_members f = on_state (λ s. with_members (f s s.members) s)

unfoldable pub refresh_pending_states : Run → Run
refresh_pending_states r =
    on_members (λ s. settle_members s.making.mode (next_send_sequence s.send)) (admit_connected_peer_groups r)

unfoldable pub refresh_states : Run → Run
refresh_states r =
    on_members (λ s. requalify_members s.making.mode (next_send_sequence s.send)) (refresh_pending_states r)
