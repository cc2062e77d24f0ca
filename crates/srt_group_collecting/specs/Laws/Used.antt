-- The set of used cells, step by step of receiving: what a visit and a delivery free, by the model's own laws.
use Rattle.std.specs.Prelude.{◌≡◌, refl, Bool, true, false, List, [], ◌∷◌, ℕ, ◌+◌, ◌%◌, ◌<◌, eqb, length, Some}
use Rattle.std.proofs.Common.{sym, ap, subst, ◌∙◌}
use Rattle.srt_group_model.specs.declared.Core.{Core}
use Rattle.srt_group_model.specs.declared.Event.{Event}
use Rattle.srt_group_model.specs.declared.Packet.{Packet}
use Rattle.srt_group_model.specs.Tools.{if_true◌then◌else◌, at_place}
use Rattle.srt_group_model.specs.Laws.Reason.{by_test}
use Rattle.srt_group_model.specs.State.{Member, Receive, State, with_members, with_queue}
use Rattle.srt_group_model.specs.Core.{with_next, continued}
use Rattle.srt_group_model.specs.Members.{id_of}
use Rattle.srt_group_model.specs.Laws.Queues.{pop}
use Rattle.srt_group_model.specs.Laws.Steps.{popped}
use Rattle.srt_group_model.specs.Collecting.{front, is_discarded, packet_from, waiting_from}
use Rattle.srt_group_model.specs.Cells.{is_data, used_cells}
use Rattle.srt_group_model.specs.Laws.CellsMoved.{Moves, reported_keeps}
use Rattle.srt_connection_members.specs.Members.{member_at, Changed}
use Rattle.srt_connection_members.specs.Laws.Members.{members_place, changed_by}
use Rattle.srt_connection_queue.specs.Queue.{leg_poll, queue_after}
use Rattle.srt_connection_queue.specs.Laws.Queue.{nothing_goes}
use Rattle.srt_connection_queue.specs.declared.queue.LegPoll.{LegPoll}
use Rattle.srt_connection_queue.specs.declared.queue.LegPoll.TheVariants.{Nothing, Continuation, Event as PolledEvent}
use Rattle.srt_group_shown.specs.Shown.{Rest, shown, nothing_sent}
use Rattle.srt_group_shown.specs.Tables.{receive_tables}
use Rattle.cell_set.specs.Sets.{Freed}
use Rattle.cell_set.specs.Shows.{freed_by}
use Rattle.cell_set.specs.Laws.Shows.{collected_frees, none_freed}
use Rattle.cell_set.specs.Bits.{set_size}
use Rattle.srt_group_collecting.specs.Follows.{Follows}
use Rattle.srt_group_collecting.specs.Laws.Follows.{follows_as, follows_freed}
use Rattle.srt_group_collecting.specs.Collect.{receive_of}
use Rattle.srt_group_collecting.specs.Visit.{collect_event, freed_by_event, Collected}
use Rattle.srt_group_collecting.specs.Laws.Visit.{gave_nothing, gave_continuation, gave_event, queue_goes, queue_stays, members_stay}

-- ---- a packet is held or discarded

module _ (p : Packet) (x : Receive) (used : List ℕ) where
  pub discarded_freed : {answer : Bool} (used' : List ℕ) → answer ≡ is_discarded p x → answer ≡ true → Freed (p.content.cell ∷ []) used used' → Freed (freed_by p x) used used'
  unfolding freed_by if_true◌then◌else◌
  discarded_freed used' tested discards freed = rw (← tested, discards) freed

  pub held_kept : length used ≡ set_size → is_discarded p x ≡ false → Freed (freed_by p x) used used
  unfolding freed_by if_true◌then◌else◌
  held_kept long keeps = rw keeps (none_freed used long)

module _ (id : ℕ) (e : Event) (x : Receive) (used : List ℕ) where
  pub data_freed : {b : Bool} (used' : List ℕ) → b ≡ is_data e → b ≡ true → Freed (freed_by (packet_from id e) x) used used' → Freed (freed_by_event id e x) used used'
  unfolding freed_by_event if_true◌then◌else◌
  data_freed used' tested is freed = rw (sym tested ∙ is) freed

  pub event_kept : {b : Bool} → length used ≡ set_size → b ≡ is_data e → b ≡ false → Freed (freed_by_event id e x) used used
  unfolding freed_by_event if_true◌then◌else◌
  event_kept long tested is = rw (sym tested ∙ is) (none_freed used long)

-- ---- the front event of a leg

event_moves : (s : State) (i : ℕ) (m : Member) (e : Event) → at_place i s.members ≡ Some m → front m.queue ≡ Some e
    → Moves [] (freed_by_event (id_of m) e s.receive) s (collect_event i (id_of m) e (popped i s))
unfolding freed_by_event collect_event if_true◌then◌else◌
event_moves s i m e at f =
    by_test (eqb e.kind 0) (λ d. rw d (collected_frees s i m e at f d))
    (λ d. rw d (reported_keeps s i m e at f (waiting_from (id_of m) e) d))

-- whose turn it is names no cell
from_round : (core : Core) (k : ℕ) (others : Rest) (ms ps ws : List ℕ) {cells : List ℕ} {t : State}
    → Moves [] cells (shown (with_next k core) others ms ps ws) t → Moves [] cells (shown core others ms ps ws) t
unfolding used_cells
from_round core k others ms ps ws moves = record { cells = λ n. moves.cells n }

module _ (core : Core) (budget : ℕ) (ms ps used : List ℕ) (i : ℕ) (ms₁ : List ℕ)
    (changed : Changed i (λ m. with_queue (queue_after budget m.queue) m) ms ms₁) where
  pub follows_nothing : {r : LegPoll} → length used ≡ set_size → r ≡ Nothing → r ≡ leg_poll budget (member_at ms i).queue → Follows core ms ps used core ms₁ ps used
  follows_nothing long gave is =
      let empty = gave_nothing budget (member_at ms i).queue (sym gave ∙ is) in
      follows_as core core ms ms₁ ps used long
      (members_stay core budget ms ps [] i ms₁ changed (ap (queue_after budget) empty ∙ nothing_goes budget ∙ sym empty)) refl

  pub follows_spent : {r : LegPoll} (turned next : Core) → length used ≡ set_size → turned ≡ with_next ((i + 1) % core.counts.members) core → next ≡ continued 1 turned
      → r ≡ Continuation → r ≡ leg_poll budget (member_at ms i).queue → Follows core ms ps used next ms₁ ps used
  follows_spent turned next long t c gave is =
      let stay =
      members_stay core budget ms ps [] i ms₁ changed
      (queue_stays budget (member_at ms i).queue (gave_continuation budget (member_at ms i).queue (sym gave ∙ is)).spent) in
      subst (λ (x : Core). Follows core ms ps used x ms₁ ps used) (sym (c ∙ ap (continued 1) t))
      (follows_as core (continued 1 (with_next ((i + 1) % core.counts.members) core)) ms ms₁ ps used long stay refl)

  follows_event_at : (k : ℕ) (e : Event) (left id : ℕ) (after : Core) (ws ms' ps' ws' used' : List ℕ) → i < core.counts.members
      → PolledEvent e left ≡ leg_poll budget (member_at ms i).queue → id ≡ (member_at ms i).membership.id
      → Collected i id e (with_next k core) (receive_tables ms₁ ps ws) after (receive_tables ms' ps' ws')
      → Freed (freed_by_event id e (receive_of core ps)) used used' → Follows core ms ps used after ms' ps' used'
  follows_event_at k e left id after ws ms' ps' ws' used' inside is named h freed =
      let g = gave_event budget (member_at ms i).queue e left is in
      let gone = changed_by i ms ms₁ pop changed (ap (λ (q : List Event). with_queue q (member_at ms i)) (queue_goes budget (member_at ms i).queue g.unspent)) in
      follows_freed core after ms ps ws ms' ps' ws' used used' nothing_sent
      (λ others. collect_event i id e (shown (with_next k core) others ms₁ ps ws)) (λ others same. h.leaves.state others) freed
      (λ others.
      subst (λ (l : List Member). Moves [] (freed_by_event id e (receive_of core ps)) (shown core others ms ps ws) (collect_event i id e (with_members l (shown (with_next k core) others ms ps ws))))
      (sym (gone.members core.counts.members))
      (from_round core k others ms ps ws
      (subst
      (λ (x : ℕ).
      Moves [] (freed_by_event x e (receive_of core ps)) (shown (with_next k core) others ms ps ws)
      (collect_event i x e (popped i (shown (with_next k core) others ms ps ws))))
      (sym named)
      (event_moves (shown (with_next k core) others ms ps ws) i (member_at ms i) e (members_place core.counts.members ms i inside) g.front))))

  pub follows_event : {r : LegPoll} {id : ℕ} (turned : Core) (e : Event) (left : ℕ) (after : Core) (ws ms' ps' ws' used' : List ℕ) → i < core.counts.members
      → turned ≡ with_next ((i + 1) % core.counts.members) core → r ≡ PolledEvent e left → r ≡ leg_poll budget (member_at ms i).queue
      → id ≡ (member_at ms i).membership.id → Collected i id e turned (receive_tables ms₁ ps ws) after (receive_tables ms' ps' ws')
      → Freed (freed_by_event id e (receive_of turned ps)) used used' → Follows core ms ps used after ms' ps' used'
  follows_event {id = id} turned e left after ws ms' ps' ws' used' inside t gave is named h freed =
      follows_event_at ((i + 1) % core.counts.members) e left id after ws ms' ps' ws' used' inside (sym gave ∙ is)
      named (subst (λ (x : Core). Collected i id e x (receive_tables ms₁ ps ws) after (receive_tables ms' ps' ws')) t h)
      (subst (λ (x : Core). Freed (freed_by_event id e (receive_of x ps)) used used') t freed)

pub follows_continued : (n : ℕ) (core here after : Core) (ms ps used ms' ps' used' : List ℕ) → Follows core ms ps used here ms' ps' used'
    → after ≡ continued n here → Follows core ms ps used after ms' ps' used'
follows_continued n core here after ms ps used ms' ps' used' follows is =
    subst (λ (x : Core). Follows core ms ps used x ms' ps' used') (sym is) record { long = follows.long; shows = follows.shows }
