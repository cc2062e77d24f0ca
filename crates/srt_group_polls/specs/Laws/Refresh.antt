-- What is proved of the definitions in specs/Refresh.antt, with what the proofs need.
use Rattle.std.specs.Prelude.{◌≡◌, refl, Bool, true, ℕ, ◌*◌, ◌≤◌, length, None, Option}
use Rattle.std.proofs.Math.Path.{ap}
use Rattle.std.proofs.Common.{sym, subst, ◌∙◌, arith}
use mathlib.Core.List.{List, []}
use Rattle.srt_group_model.specs.declared.Core.{Core}
use Rattle.srt_group_model.specs.declared.Counts.{Counts}
use Rattle.srt_group_model.specs.declared.Sending.{Sending}
use Rattle.srt_group_model.specs.Tools.{is_set, flagged, each}
use Rattle.srt_group_model.specs.State.{Member, State, next_send_sequence, with_members, with_peer}
use Rattle.srt_group_model.specs.Core.{with_peer_group}
use Rattle.srt_group_model.specs.Members.{base_after, peer_after, admit_peer_group, settle_members, requalify_members}
use Rattle.srt_group_model.specs.Sound.{SendingFit, Sound}
use Rattle.srt_group_model.specs.Run.{Mark, Run, set_base, on_members, admit_connected_peer_groups, refresh_pending_states, refresh_states}
use Rattle.srt_group_model.specs.Laws.Steps.{refresh_pending_has, refresh_has}
use Rattle.srt_group_model.specs.Laws.Sound.{sound_law}
use Rattle.srt_connection_queue.specs.Rows.{row_size}
use Rattle.srt_connection_members.specs.Members.{members_of}
use Rattle.srt_group_members.specs.declared.admission.Admission.{Admission}
use Rattle.srt_group_members.specs.Admission.{Admitted}
use Rattle.srt_group_members.specs.Scan.{Became}
use Rattle.srt_group_members.specs.Quiet.{is_quiet}
use Rattle.srt_group_members.specs.Laws.Quiet.{refresh_pending_stays, refresh_stays}
use Rattle.srt_group_shown.specs.Shown.{Rest, shown, remembering}
use Rattle.srt_group_shown.specs.Tables.{receive_tables}
use Rattle.srt_group_collecting.specs.Leaves.{every, sends, Usable, under_way, At}
use Rattle.srt_group_collecting.specs.Laws.Leaves.{sound_with, sound_blank, members_shown}
use Rattle.srt_group_delivery.specs.Poll.{Bases}
use Rattle.srt_group_polls.specs.Refresh.{Refreshes, Known}

-- ---- what a refresh needs and leaves

pub rows_there : (core : Core) (ms ps ws : List ℕ) → Usable core (receive_tables ms ps ws) → core.counts.members * row_size ≤ length ms
rows_there core ms ps ws usable = omega (arith, usable.members_long, usable.members_few)

-- what is promised over every rest is promised over some
refreshes_among : {f : Run → Run} {core after : Core} {ms ms' : List ℕ} (among : Rest → Type 0) → Refreshes every f core ms after ms'
    → Refreshes among f core ms after ms'
refreshes_among among refreshes =
    record {
      members_long = refreshes.members_long;
      counts_same = refreshes.counts_same;
      run = λ ps ws others is_among log budget. refreshes.run ps ws others tt log budget;
    }

-- ---- admission

module _ (core : Core) (ms ms' : List ℕ) (answer : Admission)
    (admitted : Admitted core.counts.members core.peer ms answer ms') where
  pub admits : (based : Core) → Bases answer.base core based
      → Refreshes every admit_connected_peer_groups core ms (with_peer_group answer.peer based) ms'
  unfolding admit_connected_peer_groups
  admits based bases =
      record {
        members_long = admitted.became.long;
        counts_same = bases.counts_same;
        run =
            λ ps ws others is_among log budget.
            record { state = state ps ws others log budget; budget = (set ps ws others log budget).budget };
      }
    where
      before : List Member
      before = members_of core.counts.members ms

      bound : ℕ
      bound = peer_after core.peer before

      here : members_of based.counts.members ms' ≡ each (admit_peer_group bound) before
      here = ap (λ (n : Counts). members_of n.members ms') bases.counts_same ∙ admitted.became.is

      set : (ps ws : List ℕ) (others : Rest) (log : List Mark) (budget : ℕ)
          → At (set_base (base_after None before) (under_way core others (receive_tables ms ps ws) log budget)) based others
          (receive_tables ms ps ws) budget
      set ps ws others log budget =
          subst
          (λ (o : Option ℕ).
          At (set_base o (under_way core others (receive_tables ms ps ws) log budget)) based others (receive_tables ms ps ws) budget)
          admitted.base (bases.run others (receive_tables ms ps ws) log budget)

      state : (ps ws : List ℕ) (others : Rest) (log : List Mark) (budget : ℕ)
          → with_peer bound
          (with_members (each (admit_peer_group bound) before)
          (set_base (base_after None before) (under_way core others (receive_tables ms ps ws) log budget)).state)
          ≡ shown (with_peer_group answer.peer based) others ms' ps ws
      state ps ws others log budget =
          ap (λ (s : State). with_peer bound (with_members (each (admit_peer_group bound) before) s))
          (set ps ws others log budget).state
          ∙ ap (with_peer bound) (members_shown based others ms ms' ps ws _ here)
          ∙ ap (λ (n : ℕ). shown (with_peer_group n based) others ms' ps ws) (sym admitted.peer)

-- ---- then the members' states

module _ (sending : Sending) (f : Run → Run) (g : State → List Member → List Member) (core : Core) (ms : List ℕ) (after : Core)
    (u v : List ℕ) where
  refreshes_then : Refreshes (sends sending) f core ms after u → length v ≡ length u
      → ((ps ws : List ℕ) (others : Rest) → sends sending others
      → members_of after.counts.members v ≡ g (shown after others u ps ws) (members_of after.counts.members u))
      → Refreshes (sends sending) (λ r. on_members g (f r)) core ms after v
  refreshes_then so_far long became =
      record {
        members_long = long ∙ so_far.members_long;
        counts_same = so_far.counts_same;
        run =
            λ ps ws others same log budget.
            record {
              state =
                  ap (λ (s : State). with_members (g s s.members) s) (so_far.run ps ws others same log budget).state
                  ∙ members_shown after others u v ps ws _ (became ps ws others same);
              budget = (so_far.run ps ws others same log budget).budget;
            };
      }

module _ (sending : Sending) (core : Core) (ms : List ℕ) (after : Core) (u v : List ℕ) where
  pub settles : Refreshes every admit_connected_peer_groups core ms after u
      → Became after.counts.members
      (settle_members after.mode (flagged (is_set sending.numbered) sending.next) (members_of after.counts.members u)) u v
      → Refreshes (sends sending) refresh_pending_states core ms after v
  unfolding refresh_pending_states
  settles so_far became =
      refreshes_then sending admit_connected_peer_groups (λ s. settle_members s.making.mode (next_send_sequence s.send)) core ms after u v
      (refreshes_among (sends sending) so_far) became.long
      (λ ps ws others same.
      became.is
      ∙ ap
      (λ (x : Sending). settle_members after.mode (flagged (is_set x.numbered) x.next) (members_of after.counts.members u))
      (sym same))

  pub requalifies : Refreshes (sends sending) refresh_pending_states core ms after u
      → Became after.counts.members
      (requalify_members after.mode (flagged (is_set sending.numbered) sending.next) (members_of after.counts.members u)) u v
      → Refreshes (sends sending) refresh_states core ms after v
  unfolding refresh_states
  requalifies so_far became =
      refreshes_then sending refresh_pending_states (λ s. requalify_members s.making.mode (next_send_sequence s.send)) core ms after u v
      so_far became.long
      (λ ps ws others same.
      became.is
      ∙ ap
      (λ (x : Sending). requalify_members after.mode (flagged (is_set x.numbered) x.next) (members_of after.counts.members u))
      (sym same))

-- ---- a refresh that would change nothing is left out

module _ {quiet : Bool} (among : Rest → Type 0) (core : Core) (ms : List ℕ) (known : Known quiet core ms) (yes : quiet ≡ true) where
  left_out : (f : Run → Run) → ((r : Run) → is_quiet r.state.making.mode r.state.members ≡ true → f r ≡ r)
      → Refreshes among f core ms core ms
  left_out f stays =
      record {
        members_long = refl;
        counts_same = refl;
        run =
            λ ps ws others is_among log budget.
            let r = under_way core others (receive_tables ms ps ws) log budget in
            let same : f r ≡ r = stays r (known yes) in
            record { state = ap (λ (x : Run). x.state) same; budget = ap (λ (x : Run). x.budget) same };
      }

  pub settling_left_out : Refreshes among refresh_pending_states core ms core ms
  settling_left_out = left_out refresh_pending_states refresh_pending_stays

  pub refresh_left_out : Refreshes among refresh_states core ms core ms
  refresh_left_out = left_out refresh_states refresh_stays

-- the rows are still there
pub still_long : {among : Rest → Type 0} {f : Run → Run} {core after : Core} {ms ms' : List ℕ} → core.counts.members * row_size ≤ length ms
    → Refreshes among f core ms after ms' → after.counts.members * row_size ≤ length ms'
still_long long refreshes = omega (arith, long, refreshes.members_long, ap (λ (n : Counts). n.members) refreshes.counts_same)

-- ---- after a refresh the next step may rely on the same

module _ (sending : Sending) (fits : SendingFit sending) (core : Core) (ms ps ws : List ℕ) (usable : Usable core (receive_tables ms ps ws))
    (after : Core) (ms' : List ℕ) where
  usable_after : (f : Run → Run) → ((r : Run) → Sound r.state → Sound (f r).state) → Refreshes (sends sending) f core ms after ms'
      → Usable after (receive_tables ms' ps ws)
  usable_after f sound refreshes =
      let others = remembering sending [] in
      record {
        members_long = omega (arith, usable.members_long, refreshes.members_long);
        pending_long = usable.pending_long;
        waiting_long = usable.waiting_long;
        members_few = omega (arith, usable.members_few, ap (λ (n : Counts). n.members) refreshes.counts_same);
        waiting_few = omega (arith, usable.waiting_few, ap (λ (n : Counts). n.waiting) refreshes.counts_same);
        sound =
            sound_blank after others (receive_tables ms' ps ws)
            (subst Sound (refreshes.run ps ws others refl [] 0).state
            (sound (under_way core others (receive_tables ms ps ws) [] 0)
            (sound_with core _ (receive_tables ms ps ws) sending fits usable.sound)));
      }

  pub usable_refreshed_pending : Refreshes (sends sending) refresh_pending_states core ms after ms' → Usable after (receive_tables ms' ps ws)
  usable_refreshed_pending = usable_after refresh_pending_states (refresh_pending_has Sound sound_law)

  pub usable_refreshed : Refreshes (sends sending) refresh_states core ms after ms' → Usable after (receive_tables ms' ps ws)
  usable_refreshed = usable_after refresh_states (refresh_has Sound sound_law)
