-- What is proved of the definitions in specs/Queue.antt, with what the proofs need.
use Rattle.std.specs.Prelude.{◌≡◌, Bool, true, false, ℕ, suc, ◌+◌, ◌-◌, ◌%◌, ◌≤◌, ◌<◌, eqb, drop, Err, None, Ok, Some}
use Rattle.std.proofs.Math.Path.{refl, ap, sym}
use Rattle.std.proofs.Common.{◌∙◌, le-leb, ne_eqb}
use mathlib.Core.List.{List, [], ◌∷◌, ◌++◌}
use native.Mathlib.Omega.{arith}
use Rattle.std.proofs.lemmas.Bool.{lt-leb}
use Rattle.std.proofs.Math.ListN.{length}
use Rattle.srt_protocol.specs.declared.error.Error.TheVariants.{QueueFull}
use Rattle.srt_group_model.specs.Tools.{if_true◌then◌else◌, is_empty, at_place}
use Rattle.srt_group_model.specs.Calls.{enqueue}
use Rattle.srt_group_model.specs.State.{Member, with_queue}
use Rattle.srt_group_model.specs.Validity.{max_queued}
use Rattle.srt_group_model.specs.declared.Event.{Event}
use Rattle.srt_connection_queue.specs.declared.rows.Ring.{Ring}
use Rattle.srt_connection_queue.specs.declared.queue.LegPoll.TheVariants.{Nothing, Continuation, Event as PolledEvent}
use Rattle.word_rows.specs.Tab.{tab}
use Rattle.word_rows.specs.Laws.Tab.{tab_length, tab_pop, tab_push}
use Rattle.srt_connection_queue.specs.Laws.Tab.{tab_place}
use Rattle.srt_connection_queue.specs.Rows.{part_size, membership_part, link_part, sender_part, receiver_part, first_event_part, row_size, part, put_part, membership_of, link_part_of, sender_of, receiver_of, ring_of, ring_in, event_of, event_words, event_in, queue_of, leg_of, member_parts, member_of, Kept, member_from}
use Rattle.srt_connection_queue.specs.Laws.Rows.{part_long, part_here, part_other, ring_put}
use Rattle.srt_connection_queue.specs.Queue.{popped, cleared, Pushed, budget_after, leg_poll, queue_after, Polled}

-- ---- laws of the ring, f being the events by their place in it

abbrev in_ring : ℕ → (ℕ → Event) → ℕ → Event
in_ring s f j = f ((s + j) % max_queued)

ring_front : (s n : ℕ) (f : ℕ → Event) → 0 < n → at_place 0 (tab n (in_ring s f)) ≡ Some (f (s % max_queued))
ring_front s n f h = tab_place n (in_ring s f) 0 h ∙ ap (λ (k : ℕ). Some (f (k % max_queued))) (omega arith)

ring_drop : (s n : ℕ) (f : ℕ → Event) → 0 < n → tab (n - 1) (in_ring ((s % max_queued + 1) % max_queued) f) ≡ drop 1 (tab n (in_ring s f))
ring_drop s n f h =
    tab_pop (n - 1) (in_ring s f) (in_ring ((s % max_queued + 1) % max_queued) f) (λ j k. ap f (omega arith))
    ∙ ap (λ (m : ℕ). drop 1 (tab m (in_ring s f))) (omega arith)

-- g has e at the place behind the last
ring_append : (s n : ℕ) (f g : ℕ → Event) (e : Event) → n < max_queued → g ((s + n) % max_queued) ≡ e
    → ((k : ℕ) → (k ≡ (s + n) % max_queued → ⊥) → g k ≡ f k) → tab (n + 1) (in_ring s g) ≡ tab n (in_ring s f) ++ (e ∷ [])
ring_append s n f g e h here others =
    ap (λ (m : ℕ). tab m (in_ring s g)) (omega arith)
    ∙ tab_push n (in_ring s f) (in_ring s g) e (λ j k. others ((s + j) % max_queued) (λ q. omega arith)) here

no_length : (q : List Event) → eqb (length q) 0 ≡ is_empty q
unfolding is_empty
no_length [] = refl
no_length (x ∷ q) = ne_eqb (suc (length q)) 0 (λ h. omega arith)

-- ---- laws of a row, ring being what was read of it

kept_as : {r : List ℕ} {m n : Member} → Kept r m → m ≡ n → Kept r n
kept_as k e = record { long = k.long; is = k.is ∙ e }

module _ (r : List ℕ) (long : length r ≡ row_size) where
  -- the ring is put anew, and shows the queue q
  ring_shows : (new : Ring) (q : List Event) → queue_of new (event_in r) ≡ q
      → Kept (put_part r receiver_part (ring_in new (part r receiver_part))) (with_queue q (member_of r))
  unfolding member_of member_parts
  ring_shows new q is =
      kept_as (ring_put r long new) (λ i. with_queue (is i) (member_of r))

  pub cleared_is : Kept (put_part r receiver_part (ring_in record { start = 0; length = 0 } (part r receiver_part))) (cleared (member_of r))
  unfolding queue_of tab
  cleared_is = ring_shows record { start = 0; length = 0 } [] refl

module _ (r : List ℕ) (long : length r ≡ row_size) (ring : Ring) (read : ring ≡ ring_of (part r receiver_part)) where
  the_queue : (member_of r).queue ≡ tab ring.length (in_ring ring.start (event_in r))
  unfolding member_of member_parts queue_of
  the_queue = ap (λ (x : Ring). tab x.length (in_ring x.start (event_in r))) (sym read)

  the_length : ring.length ≡ length (member_of r).queue
  the_length = sym (ap length the_queue ∙ tab_length ring.length (in_ring ring.start (event_in r)))

  pub length_is : ring.length ≡ length (member_of r).queue
  length_is = the_length

  pub empty_is : eqb ring.length 0 ≡ is_empty (member_of r).queue
  empty_is = ap (λ (n : ℕ). eqb n 0) the_length ∙ no_length (member_of r).queue

  pub front_none : ring.length ≡ 0 → at_place 0 (member_of r).queue ≡ None
  unfolding at_place tab
  front_none h = ap (at_place 0) (the_queue ∙ ap (λ (n : ℕ). tab n (in_ring ring.start (event_in r))) h)

  pub front_is : (ring.length ≡ 0 → ⊥) → at_place 0 (member_of r).queue ≡ Some (event_of (part r (first_event_part + ring.start % max_queued)))
  unfolding event_in
  front_is h = ap (at_place 0) the_queue ∙ ring_front ring.start ring.length (event_in r) (omega arith)

  pub popped_is : (ring.length ≡ 0 → ⊥)
      → Kept (put_part r receiver_part (ring_in record { start = (ring.start % max_queued + 1) % max_queued; length = ring.length - 1 } (part r receiver_part)))
      (popped (member_of r))
  unfolding queue_of
  popped_is h =
      ring_shows r long record { start = (ring.start % max_queued + 1) % max_queued; length = ring.length - 1 } (drop 1 (member_of r).queue)
      (ring_drop ring.start ring.length (event_in r) (omega arith) ∙ ap (drop 1) (sym the_queue))

  pub popped_empty : ring.length ≡ 0 → Kept r (popped (member_of r))
  unfolding tab
  popped_empty h =
      let q = the_queue ∙ ap (λ (n : ℕ). tab n (in_ring ring.start (event_in r))) h in
      record {
        long = long;
        is = λ i. with_queue ((q ∙ sym (ap (drop 1) q)) i) (member_of r);
      }

  pub push_refused : (e : Event) → max_queued ≤ ring.length → Pushed (member_of r) e (Err QueueFull) r
  push_refused e full =
      record { outcome = rw (le-leb max_queued (length (member_of r).queue) (omega (arith, the_length))); kept = record { long = long; is = refl } }

-- an event is written behind the last, and then counted
module _ (r : List ℕ) (long : length r ≡ row_size) (ring : Ring) (read : ring ≡ ring_of (part r receiver_part)) (e : Event) (room : ring.length < max_queued)
  where
    abbrev slot : ℕ
    slot = first_event_part + (ring.start % max_queued + ring.length) % max_queued

    abbrev written : List ℕ
    written = put_part r slot (event_words e)

    abbrev counted : Ring
    counted = record { start = ring.start; length = ring.length + 1 }

    full : length (event_words e) ≡ part_size
    unfolding event_words
    full = refl

    written_long : length written ≡ row_size
    written_long = part_long r (event_words e) slot long full (omega arith)

    other : (j : ℕ) → (j ≡ slot → ⊥) → part written j ≡ part r j
    other = part_other r (event_words e) slot long full (omega arith)

    there : event_in written ((ring.start + ring.length) % max_queued) ≡ e
    unfolding event_in event_of event_words
    there =
        ap (λ (j : ℕ). event_of (part written j)) same_place ∙ ap event_of (part_here r (event_words e) slot long full (omega arith))
      where
        same_place : first_event_part + (ring.start + ring.length) % max_queued ≡ slot
        same_place = omega arith

    elsewhere : (j : ℕ) → (j ≡ (ring.start + ring.length) % max_queued → ⊥) → event_in written j ≡ event_in r j
    unfolding event_in
    elsewhere j ne = ap event_of (other (first_event_part + j) (λ q. ne (omega arith)))

    shown : member_parts (membership_of (part written membership_part)) (link_part_of (part written link_part)) (sender_of (part written sender_part))
        (receiver_of (part written receiver_part)) counted (event_in written)
        ≡ enqueue e (member_of r)
    unfolding member_of member_parts queue_of
    shown =
        λ i.
        member_from (membership_of (other membership_part (λ q. omega arith) i))
        (leg_of (link_part_of (other link_part (λ q. omega arith) i)) (sender_of (other sender_part (λ q. omega arith) i))
        (receiver_of (other receiver_part (λ q. omega arith) i)))
        ((ring_append ring.start ring.length (event_in r) (event_in written) e room there elsewhere
        ∙ ap (λ (q : List Event). q ++ (e ∷ [])) (sym (the_queue r long ring read)))
        i)

    pub push_accepted : Pushed (member_of r) e (Ok tt) (put_part written receiver_part (ring_in counted (part written receiver_part)))
    push_accepted =
        record {
          outcome = rw (lt-leb max_queued (length (member_of r).queue) (omega (arith, length_is r long ring read)));
          kept = kept_as (ring_put written written_long counted) shown;
        }

-- ---- the three cases of a poll

no_event : (q : List Event) → None ≡ at_place 0 q → q ≡ []
unfolding at_place
no_event [] is = refl
no_event (e ∷ q) is = cc is

first_event : (q : List Event) (e : Event) → Some e ≡ at_place 0 q → q ≡ e ∷ drop 1 q
unfolding at_place
first_event [] e is = cc is
first_event (x ∷ q) e is = cc is

nothing_given : (budget : ℕ) → leg_poll budget [] ≡ Nothing
unfolding leg_poll
nothing_given budget = refl

pub nothing_goes : (budget : ℕ) → queue_after budget [] ≡ []
unfolding queue_after if_true◌then◌else◌
nothing_goes budget = go (eqb budget 0)
  where
    go : (b : Bool) → ◌≡◌ {A = List Event} (if_true b then [] else drop 1 []) []
    go true = refl
    go false = refl

spent_gives : (e : Event) (q : List Event) → leg_poll 0 (e ∷ q) ≡ Continuation
unfolding leg_poll if_true◌then◌else◌
spent_gives e q = refl

spent_stays : (q : List Event) → queue_after 0 q ≡ q
unfolding queue_after if_true◌then◌else◌
spent_stays q = refl

event_given : (budget : ℕ) (e : Event) (q : List Event) → (budget ≡ 0 → ⊥)
    → leg_poll budget (e ∷ q) ≡ PolledEvent e (budget_after e budget)
unfolding leg_poll if_true◌then◌else◌
event_given budget e q left = rw (ne_eqb budget 0 left)

event_goes : (budget : ℕ) (q : List Event) → (budget ≡ 0 → ⊥) → queue_after budget q ≡ drop 1 q
unfolding queue_after if_true◌then◌else◌
event_goes budget q left = rw (ne_eqb budget 0 left)

module _ (r : List ℕ) where
  same_queue : length r ≡ row_size → (q : List Event) → (member_of r).queue ≡ q → Kept r (with_queue q (member_of r))
  same_queue long q is =
      record { long = long; is = λ i. with_queue (is i) (member_of r) }

  pub poll_empty : length r ≡ row_size → (budget : ℕ) → None ≡ at_place 0 (member_of r).queue
      → Polled (member_of r) budget Nothing r
  poll_empty long budget is =
      let none_there = no_event (member_of r).queue is in
      record {
        gave = sym (ap (leg_poll budget) none_there ∙ nothing_given budget);
        kept =
            same_queue long (queue_after budget (member_of r).queue)
            (none_there ∙ sym (ap (queue_after budget) none_there ∙ nothing_goes budget));
      }

  pub poll_spent : length r ≡ row_size → (budget : ℕ) (e : Event) → Some e ≡ at_place 0 (member_of r).queue → budget ≡ 0
      → Polled (member_of r) budget Continuation r
  poll_spent long budget e is spent =
      record {
        gave =
            sym
            (ap (λ (n : ℕ). leg_poll n (member_of r).queue) spent ∙ ap (leg_poll 0) (first_event (member_of r).queue e is)
            ∙ spent_gives e (drop 1 (member_of r).queue));
        kept =
            same_queue long (queue_after budget (member_of r).queue)
            (sym (ap (λ (n : ℕ). queue_after n (member_of r).queue) spent ∙ spent_stays (member_of r).queue));
      }

  pub poll_given : (budget : ℕ) (e : Event) (left : ℕ) (after : List ℕ) → Some e ≡ at_place 0 (member_of r).queue
      → (budget ≡ 0 → ⊥) → left ≡ budget_after e budget → Kept after (popped (member_of r))
      → Polled (member_of r) budget (PolledEvent e left) after
  poll_given budget e left after is unspent lowered kept =
      record {
        gave =
            ap (PolledEvent e) lowered
            ∙ sym
            (ap (leg_poll budget) (first_event (member_of r).queue e is)
            ∙ event_given budget e (drop 1 (member_of r).queue) unspent);
        kept = rw (event_goes budget (member_of r).queue unspent) kept;
      }
