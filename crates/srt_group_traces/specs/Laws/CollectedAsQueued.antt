use Rattle.std.specs.Prelude.{◌≡◌, refl, false, true, List, ◌++◌, [], ◌∷◌, ℕ}
use Rattle.std.proofs.Common.{sym, subst, arith}
use Rattle.srt_group_model.specs.Tools.{each}
use Rattle.srt_group_model.specs.State.{State, Making}
use Rattle.srt_group_model.specs.Members.{id_of}
use Rattle.srt_group_model.specs.Validity.{one_twice}
use Rattle.srt_group_model.specs.Calls.{new}
use Rattle.srt_group_model.specs.Lent.{Lent, call_poll_event, call_poll_data_bounded, Call, call_add_member, call_mark_member_broken, call_remove_member_connection, call_refresh_member_states, call_disconnect, call_send, call_can_send, call_can_send_with_pacing, call_look, call_read_leg, call_queue_data, call_queue_event, perform}
use Rattle.srt_group_model.specs.Queued.{queued_at, collected_from}
use Rattle.srt_group_model.specs.Laws.HonestLog.{event_poll_honest, data_poll_honest}
use Rattle.srt_group_model.specs.Laws.Reason.{not_both}
use Rattle.srt_group_model.specs.Laws.Unique.{Named, names_kept}
use Rattle.srt_group_model.specs.Run.{Mark, collected}
use Rattle.srt_group_model.specs.declared.Packet.{Packet}
use Rattle.srt_group_traces.specs.Laws.AsQueued.{QueuedBy, collected_was_queued}
use Rattle.srt_group_traces.specs.Statement.{Asked, do_call, is_poll, state_after, log_after, Marked, AsQueued, last_put}

-- The marks are honest along a list. Wherever a list of calls has come to, what a poll takes off the queue of a leg is exactly what
-- it marks as collected from it, in order: the packets of the premises are those that were got by polling a leg. And the
-- payload that the premise `AllNear` reads, last put into the packet's cell, is the one it was queued with (AsQueued). From
-- the model's HonestLog; ids are unique from new on, whatever the calls.

names_after : (calls : List Asked) (s : State) → Named s → Named (state_after calls s)
unfolding state_after do_call
names_after [] s h = h
names_after (call ∷ more) s h = names_after more (do_call call s).state (names_kept call.call call.lent s h)

new_named : (g : Making) → Named (new g)
unfolding new one_twice each
new_named g = record { unique = refl; few = omega arith }

poll_collects : (id : ℕ) (call : Call) (lent : Lent) (s : State) → one_twice (each id_of s.members) ≡ false → is_poll call ≡ true
    → queued_at id s.members ≡ collected_from id (perform call lent s).log ++ queued_at id (perform call lent s).state.members
unfolding is_poll
poll_collects id (call_add_member i weight leg queue) lent s once e = not_both e refl
poll_collects id (call_mark_member_broken i) lent s once e = not_both e refl
poll_collects id (call_remove_member_connection i) lent s once e = not_both e refl
poll_collects id call_refresh_member_states lent s once e = not_both e refl
poll_collects id (call_disconnect time) lent s once e = not_both e refl
poll_collects id (call_poll_event time) lent s once e = event_poll_honest id time lent s once
poll_collects id (call_poll_data_bounded time max_events) lent s once e = data_poll_honest id time max_events lent s once
poll_collects id (call_send time payload) lent s once e = not_both e refl
poll_collects id call_can_send lent s once e = not_both e refl
poll_collects id (call_can_send_with_pacing time) lent s once e = not_both e refl
poll_collects id (call_look look) lent s once e = not_both e refl
poll_collects id (call_read_leg i field n) lent s once e = not_both e refl
poll_collects id (call_queue_data i content payload) lent s once e = not_both e refl
poll_collects id (call_queue_event i kind reason) lent s once e = not_both e refl

-- What was queued at a leg is what the poll collects from it, and then what is still queued there.
pub collected_off_queues : (g : Making) (calls : List Asked) (call : Asked) (id : ℕ) → is_poll call.call ≡ true
    → queued_at id (state_after calls (new g)).members
    ≡ collected_from id (do_call call (state_after calls (new g))).log ++ queued_at id (do_call call (state_after calls (new g))).state.members
unfolding do_call
collected_off_queues g calls call id e =
    poll_collects id call.call call.lent (state_after calls (new g)) (names_after calls (new g) (new_named g)).unique e

-- and it was queued as an accepted call was given it
pub collected_as_queued : (g : Making) (calls : List Asked) (p : Packet) (older : List Mark)
    → Marked (log_after calls (new g)) (collected p) older
    → AsQueued g calls (last_put older p.content.cell) p
collected_as_queued g calls p older at =
    let q : QueuedBy g calls (last_put older) p.member p.content = collected_was_queued g calls at.0 older p at.1 in
    subst (λ (payload : List ℕ). AsQueued g calls payload p) (sym q.bytes)
    record {
      before = q.by.before;
      after = q.by.after;
      id = q.by.id;
      given = q.by.given;
      lent = q.by.lent;
      is = q.by.is;
      accepted = q.by.accepted;
      leg = q.on;
      as_given = q.as_given;
    }
