-- What is proved of the definitions in specs/Removal.antt, with what the proofs need.
use Rattle.std.specs.Prelude.{◌≡◌, refl, true, List, [], eqb, length, Some}
use Rattle.std.proofs.Math.Path.{ap, ap₂, sym}
use Rattle.std.proofs.Common.{subst, ◌∙◌, arith}
use Prim.Native.Nat.{ℕ, suc, ◌-◌, ◌≤◌, ◌<◌, min}
use Rattle.word_rows.specs.Laws.Tab.{tab_length}
use Rattle.srt_group_model.specs.declared.Core.{Core}
use Rattle.srt_group_model.specs.declared.Leg.{Leg}
use Rattle.srt_group_model.specs.declared.Membership.{Membership}
use Rattle.srt_group_model.specs.declared.Packet.{Packet}
use Rattle.srt_group_model.specs.Tools.{if_some◌give◌otherwise◌, each, without_place, All}
use Rattle.srt_group_model.specs.State.{Member, State, with_receive, with_pending, with_round, with_members, with_own}
use Rattle.srt_group_model.specs.Accounts.{add_account, account_of, Fits}
use Rattle.srt_group_model.specs.Legs.{with_reservation, largest_sequence}
use Rattle.srt_group_model.specs.Laws.Reason.{if_elim, all_map, all_each}
use Rattle.srt_group_model.specs.Members.{id_of, has_id, find}
use Rattle.srt_group_model.specs.Laws.Frame.{found_at}
use Rattle.srt_group_model.specs.Removal.{own_packet, largest_window, bound_group_owned_pending, retirement_base, take_out, remove_member_at}
use Rattle.srt_group_model.specs.Validity.{max_pending, max_members, ascends, is_held_for}
use Rattle.srt_group_model.specs.Cells.{queue_cells}
use Rattle.srt_group_model.specs.Laws.CellsMoved.{take_out_frees}
use Rattle.srt_group_model.specs.Laws.Ascending.{own_ascends}
use Rattle.srt_group_model.specs.Sound.{PacketFit, Summed, Sound}
use Rattle.srt_group_model.specs.Laws.Accounts.{few_fits, few_together}
use Rattle.srt_group_model.specs.Guards.{accept, leg_back}
use Rattle.srt_group_model.specs.Calls.{remove_body}
use Rattle.srt_group_model.specs.Laws.Sound.{small_packets}
use Rattle.srt_connection_members.specs.Members.{members_size, member_at, members_of, Removed as RowRemoved}
use Rattle.srt_connection_members.specs.Laws.Members.{members_length, members_place, found_some, found_below}
use Rattle.srt_connection_queue.specs.Laws.Tab.{all_tab}
use Rattle.srt_group_tables.specs.Packets.{pending_size, packet_at, packets, Holds}
use Rattle.srt_group_shown.specs.Shown.{Rest, shown, blank, nothing_sent}
use Rattle.cell_set.specs.Sets.{Freed}
use Rattle.srt_group_collecting.specs.Follows.{Follows}
use Rattle.srt_group_collecting.specs.Laws.Follows.{follows_then, follows_freed}
use Rattle.srt_group_shown.specs.Laws.Shown.{held_few}
use Rattle.srt_group_removal.specs.declared.removal.Removed.{Removed}
use Rattle.srt_group_removal.specs.Retire.{Low, Held, Retires, FollowsHeld}
use Rattle.srt_group_removal.specs.Removal.{Removable, taken_out, TakesOut, Removes}
use Rattle.srt_group_model.specs.declared.Account.{Account}

-- ---- a sound state gives what a removal relies on

pub removable : (i : ℕ) (core : Core) (others : Rest) (ms ps ws : List ℕ) → members_size ≤ length ms → pending_size ≤ length ps
    → core.counts.members ≤ max_members → Sound (shown core others ms ps ws) → i < core.counts.members → Removable i core ms ps
unfolding members_of
removable i core others ms ps ws members_long pending_long members_few sound there =
    record {
      members_long = members_long;
      members_few = members_few;
      there = there;
      held =
          record {
            pending_long = pending_long;
            held_few = few;
            ascending = sound.ascending;
            low = all_map PacketFit Low (λ p fit. fit.sequence) (packets held ps) sound.fit.pending;
            base_low = sound.fit.receiving.base;
          };
      sum =
          subst (λ (a : Account). Fits (add_account a core.own))
          (sym (all_tab (Summed (packets held ps)) core.counts.members (member_at ms) sound.sums.members i there).account)
          (subst (λ (a : Account). Fits (add_account (account_of (is_held_for (id_of (member_at ms i))) (packets held ps)) a)) (sym sound.sums.own)
          (few_fits (omega (arith, tab_length held (packet_at ps), few))
          (few_together (id_of (member_at ms i)) (packets held ps) (small_packets (packets held ps) sound.fit.pending))));
    }
  where
    held : ℕ
    held = core.counts.pending

    few : held ≤ max_pending
    few = held_few core others ms ps ws sound

-- ---- the member is taken out

pub taken_all : {x : Membership} {left round : ℕ} {own : Account} (i : ℕ) (core : Core) (ms ps ms' ps' : List ℕ) → i < core.counts.members
    → x ≡ (member_at ms i).membership → Holds (length ps) ps' core.counts.pending (each (own_packet x.id) (packets core.counts.pending ps))
    → RowRemoved i core.counts.members ms ms' → left ≡ core.counts.members - 1 → round ≡ min core.visit.round (left - 1)
    → own ≡ add_account x.account core.own → TakesOut i core ms ps (taken_out left round own core) ms' ps'
unfolding take_out
taken_all {x} {left} {round} {own} i core ms ps ms' ps' there is owns goes fewer lowered sum =
    record {
      members_long = goes.long;
      pending_long = owns.length_kept;
      one_less = omega arith;
      rest = refl;
      state =
          λ others ws.
          let s = shown core others ms ps ws in
          ap₂
          (λ (l : List Member) (q : List Packet).
          with_own (add_account (member_at ms i).membership.account core.own)
          (with_receive (with_pending q s.receive) (with_round (min core.visit.round (length l - 1)) (with_members l s))))
          those_left own_now
          ∙ ap₂
          (λ (r : ℕ) (a : Account).
          with_own a
          (with_receive (with_pending (packets core.counts.pending ps') s.receive)
          (with_round r (with_members (members_of left ms') s))))
          (ap (λ (n : ℕ). min core.visit.round (n - 1)) (members_length left ms') ∙ sym lowered)
          (ap (λ (m : Membership). add_account m.account core.own) (sym is) ∙ sym sum);
    }
  where
    those_left : without_place i (members_of core.counts.members ms) ≡ members_of left ms'
    those_left = sym goes.members ∙ ap (λ (n : ℕ). members_of n ms') (sym fewer)

    own_now : each (own_packet (id_of (member_at ms i))) (packets core.counts.pending ps) ≡ packets core.counts.pending ps'
    own_now =
        ap (λ (m : Membership). each (own_packet m.id) (packets core.counts.pending ps)) (sym is) ∙ sym owns.is

-- the cells of its queue are free
pub taken_and_freed : {i : ℕ} {core : Core} {ms ps used : List ℕ} {after : Core} {ms' ps' used' : List ℕ} → i < core.counts.members
    → TakesOut i core ms ps after ms' ps' → Freed (queue_cells (member_at ms i)) used used'
    → TakesOut i core ms ps after ms' ps' × Follows core ms ps used after ms' ps' used'
taken_and_freed {i} {core} {ms} {ps} {used} {after} {ms'} {ps'} {used'} there takes freed = (
  takes,
  follows_freed core after ms ps [] ms' ps' [] used used' nothing_sent (λ others. take_out i (member_at ms i) (shown core others ms ps []))
      (λ others same. takes.state others []) freed
      (λ others. take_out_frees i (member_at ms i) (shown core others ms ps []) (members_place core.counts.members ms i there)),
)

own_low : (id : ℕ) (p : Packet) → Low p → Low (own_packet id p)
unfolding own_packet
own_low id p low = if_elim Low (eqb p.member id) _ _ (λ e. low) (λ e. low)

-- the held packets are as few, and ascend as before
module _ (i : ℕ) (core : Core) (ms ps : List ℕ) (may : Removable i core ms ps) (taken : Core) (ms₁ ps₁ : List ℕ)
    (takes : TakesOut i core ms ps taken ms₁ ps₁) where
  own_after : each (own_packet (id_of (member_at ms i))) (packets core.counts.pending ps) ≡ packets taken.counts.pending ps₁
  unfolding take_out
  own_after = ap (λ (s : State). s.receive.pending) (takes.state blank [])

  pub taken_held : Held taken ps₁
  taken_held =
      record {
        pending_long = omega (arith, may.held.pending_long, takes.pending_long);
        held_few = omega (arith, may.held.held_few, ap (λ (c : Core). c.counts.pending) takes.rest);
        ascending =
            subst (λ (l : List Packet). ascends l ≡ true) own_after
            (own_ascends (id_of (member_at ms i)) (packets core.counts.pending ps) ∙ may.held.ascending);
        low =
            subst (All Low) own_after
            (all_each Low (own_packet (id_of (member_at ms i))) (own_low (id_of (member_at ms i))) (packets core.counts.pending ps) may.held.low);
        base_low = subst (λ (c : Core). c.receiving.base ≤ largest_sequence) (sym takes.rest) may.held.base_low;
      }

  -- ---- the whole removal

  pub removed_all : {l : Leg} {limit base : ℕ} (after : Core) (ps' : List ℕ) → l ≡ (member_at ms i).leg
      → limit ≡ largest_window l.receiver.window (members_of taken.counts.members ms₁)
      → ((others : Rest) (members waiting : List ℕ) → base ≡ retirement_base (shown taken others members ps₁ waiting))
      → Retires (bound_group_owned_pending taken.counts.pending limit base) taken ps₁ after ps'
      → Removes i core ms ps record { core = after; leg = with_reservation 0 l } ms₁ ps'
  unfolding remove_member_at
  removed_all {l} {limit} {base} after ps' is limits bases retires =
      record {
        members_long = takes.members_long;
        pending_long = retires.pending_long ∙ takes.pending_long;
        one_less = ap (λ (c : Core). suc c.counts.members) retires.rest ∙ takes.one_less;
        waiting_same = ap (λ (c : Core). c.counts.waiting) retires.rest ∙ ap (λ (c : Core). c.counts.waiting) takes.rest;
        leg = ap (with_reservation 0) is;
        state =
            λ others ws.
            let t = shown taken others ms₁ ps₁ ws in
            ap
            (λ (s : State).
            bound_group_owned_pending (length s.receive.pending) (largest_window (member_at ms i).leg.receiver.window s.members)
            (retirement_base s) s)
            (takes.state others ws)
            ∙ ap₂
            (λ (n w : ℕ). bound_group_owned_pending n w (retirement_base t) t)
            (tab_length taken.counts.pending (packet_at ps₁))
            (ap (λ (x : Leg). largest_window x.receiver.window (members_of taken.counts.members ms₁)) (sym is) ∙ sym limits)
            ∙ ap (λ (b : ℕ). bound_group_owned_pending taken.counts.pending limit b t) (sym (bases others ms₁ ws))
            ∙ retires.state others ms₁ ws;
      }

  pub removed_and_followed : {answer : Removed} {used used₁ : List ℕ} {ps' used' : List ℕ} → Removes i core ms ps answer ms₁ ps'
      → Follows core ms ps used taken ms₁ ps₁ used₁ → FollowsHeld taken ps₁ used₁ answer.core ps' used'
      → Removes i core ms ps answer ms₁ ps' × Follows core ms ps used answer.core ms₁ ps' used'
  removed_and_followed removes first second = (removes, follows_then first (second.over ms₁))

-- ---- the member that the call names

-- what is left of the call `remove_member_connection` once its member is found
pub removed_as_called : (id i : ℕ) (core : Core) (ms ps : List ℕ) (answer : Removed) (ms' ps' : List ℕ)
    → Some i ≡ find id (members_of core.counts.members ms) → Removes i core ms ps answer ms' ps'
    → (others : Rest) (ws : List ℕ)
    → remove_body id (shown core others ms ps ws) ≡ accept (shown answer.core others ms' ps' ws) (leg_back answer.leg)
unfolding remove_body if_some◌give◌otherwise◌
removed_as_called id i core ms ps answer ms' ps' found removes others ws =
    rw
    (found_at (has_id id) (members_of core.counts.members ms) i (member_at ms i)
    (found_some (find id (members_of core.counts.members ms)) i found)
    (members_place core.counts.members ms i (found_below core.counts.members id i ms found)))
    (ap₂ (λ (s : State) (l : Leg). accept s (leg_back l)) (removes.state others ws) (sym removes.leg))
