-- Demand 3 over what a port shows: the claims of HistoryTheorem, about every list of steps from a new group. A step is a call that
-- shows what the model's call gives, or one refused for a short table (Port); the promise of each public call makes one. The
-- only words that are not about what is shown are the premises: which packets are collected and which store is lent (`Fair`),
-- of the calls without those refusals. For a short schedule they too follow from the calls (ShortSchedule).
use Rattle.std.specs.Prelude.{◌≡◌, ◌⊎◌, Bool, List, [], ◌∷◌, ◌++◌, ℕ, ◌+◌, ◌-◌, ◌%◌, ◌<◌, None, Some}
use Rattle.srt_protocol.specs.Sequence.{half, sequence_distance, sequence_further}
use Rattle.srt_group_model.specs.Legs.{largest_64}
use Rattle.srt_group_model.specs.State.{next_receive_sequence, State, Making}
use Rattle.srt_group_model.specs.Lent.{Lent}
use Rattle.srt_group_traces.specs.Statement.{Consecutive, clerk, Fair, Prefix, Delivery, skipped_in, pass_to, Asked, counts_of}
use Rattle.srt_group_traces.specs.Port.{Taken, all_shown, calls_of, Performed, shown_deliveries, shown_told, last_shown, first_shown, SkipsShown, Port, port_place, port_delivers, place_shown, Promise, step_made, shows_new, shown_of, Shown, shown_delivery}
use Rattle.srt_group_traces.specs.ShortSchedule.{FairCalls}
use Rattle.srt_group_model.specs.Calls.{new}

pub record PortTheorem : Type 0 where
  -- a list begins with a `new` that is accepted, where a refused one leaves what stood there; it grows by each call that keeps its
  -- promise
  pub begins : (g : Making) (lent : Lent) (s : State)
      → ((shows_new g lent s).code ≡ 0 → (shows_new g lent s).state ≡ new g)
      × (((shows_new g lent s).code ≡ 0 → ⊥) → (shows_new g lent s).state ≡ s)
  pub grows : (s : State) (steps : List Taken) → Performed s steps → (short : Bool) (asked : Asked) (x : Shown)
      → Promise short asked (last_shown s (all_shown steps)) x
      → Performed s (steps ++ (step_made short asked x ∷ []))
  -- a base that is shown has a first value by what is shown; the base less that is the delivered packet counts plus the skipped
  -- count, modulo 2^31
  pub base : (g : Making) (steps : List Taken) → Performed (new g) steps
      → skipped_in (last_shown (new g) (all_shown steps)) < largest_64
      → (base : ℕ) → next_receive_sequence (last_shown (new g) (all_shown steps)).receive ≡ Some base
      → (first : ℕ)
      × (first_shown (all_shown steps) ≡ Some first)
      × (sequence_distance first base ≡ place_shown g steps % (half + half))
  -- "Once set, the base moves only by delivery and skip": a step moves it as far as it shows as delivered and as the count rises;
  -- while none is shown, nothing was delivered and nothing skipped
  pub moves : (g : Making) (steps : List Taken) (t : Taken) → Performed (new g) (steps ++ (t ∷ [])) → (base : ℕ)
      → next_receive_sequence (last_shown (new g) (all_shown steps)).receive ≡ Some base
      → skipped_in (shown_of t).state < largest_64
      → next_receive_sequence (shown_of t).state.receive
      ≡ Some (sequence_further base (counts_of (shown_delivery (shown_of t)) + (skipped_in (shown_of t).state - skipped_in (last_shown (new g) (all_shown steps)))))
  pub unset : (g : Making) (steps : List Taken) → Performed (new g) steps
      → next_receive_sequence (last_shown (new g) (all_shown steps)).receive ≡ None → place_shown g steps ≡ 0
  -- the delivered list is the clerk's, byte for byte, and the base's place is his
  pub schedule : (schedule : List Delivery) (first : ℕ) → Consecutive first schedule → (g : Making) (steps : List Taken)
      → Performed (new g) steps → Fair schedule first g (calls_of steps)
      → (left : List Delivery) × (pass_to schedule (place_shown g steps) ≡ Some left)
      × (clerk schedule 0 (shown_told (all_shown steps)) ≡ Some record { gave = shown_deliveries (all_shown steps); left = left })
  -- every step that raises the skipped count made a right skip, and leaves every leg's queue empty
  pub skips : (g : Making) (steps : List Taken) → Performed (new g) steps → SkipsShown (new g) steps
  -- two ports at one place deliver the same packets, one list a prefix of the other, each up to its next skip
  pub ports : (schedule : List Delivery) (first : ℕ) → Consecutive first schedule → (a b : Port schedule first)
      → port_place schedule first a ≡ port_place schedule first b
      → Prefix (port_delivers schedule first a) (port_delivers schedule first b)
      ⊎ Prefix (port_delivers schedule first b) (port_delivers schedule first a)
  -- where the schedule has less than 2^30 packets in all, the premises follow from the calls alone
  pub short : (schedule : List Delivery) (first : ℕ) → Consecutive first schedule → (g : Making) (before after : List Taken)
      → FairCalls schedule first g (calls_of before) (calls_of after) → Fair schedule first g (calls_of (before ++ after))
