-- Packets of one schedule, each less than 2^30 from the base on either side when it is collected, are delivered as they stand at
-- the base's place. The premises (`SetBefore` and `AllNear` of Statement) and what follows (AtPlaces) are about the marks.
use Rattle.std.specs.Prelude.{◌≡◌, refl, true, false, List, [], ◌∷◌, ◌++◌, ℕ, ◌+◌, ◌-◌, ◌≤◌, ◌<◌, Option, Some}
use Rattle.std.proofs.Common.{sym, ◌∙◌, arith}
use Rattle.std.proofs.Math.Path.{ap, subst}
use Rattle.std.proofs.Math.Decide.{dec_lt}
use Rattle.srt_protocol.specs.Laws.Circle.{distance_places, before_places, distance_self}
use Rattle.srt_protocol.specs.Sequence.{half, sequence_distance, sequence_before, sequence_further}
use Rattle.srt_group_model.specs.Tools.{if_some◌give◌otherwise◌, flagged, or_else, All}
use Rattle.srt_group_model.specs.State.{State, Receive, next_receive_sequence, with_pending, Making}
use Rattle.srt_group_model.specs.Laws.NearestLaw.{nearest_least_far}
use Rattle.srt_group_model.specs.Nearest.{sequence_of, held_at, insert, nearest, not_covered}
use Rattle.srt_group_model.specs.Run.{Mark, put, base_set, collected, gap_skipped, delivered}
use Rattle.srt_group_model.specs.Collecting.{is_late, is_discarded}
use Rattle.srt_group_model.specs.Delivery.{pass_run, skip_to}
use Rattle.srt_group_model.specs.Calls.{new}
use Rattle.srt_group_model.specs.declared.Data.{Data}
use Rattle.srt_group_model.specs.declared.Packet.{Packet}
use Rattle.srt_group_model.specs.Laws.Reason.{all_map, some_inj, not_both, or_left}
use Rattle.srt_group_traces.specs.Statement.{first_base, total_skipped, total_delivered, place_after, last_put, Consecutive, pass_to, SetBefore, AllNear, Asked, do_call, Delivery, state_after, log_after, with_payload, Near}
use Rattle.srt_group_traces.specs.Laws.Cases.{all_both, each_at}
use Rattle.srt_group_traces.specs.Laws.Marks.{last_put_elsewhere, each_collected_of, EachCollected}
use Rattle.srt_group_traces.specs.Laws.Sides.{sides}
use Rattle.srt_group_traces.specs.Laws.Law.{OfContent, ElsewhereThan, PutLaw}
use Rattle.srt_group_traces.specs.Laws.CallWalk.{Fits, Holds, call_holds, calls_hold}
use Rattle.srt_group_traces.specs.Laws.Held.{insert_all, nearest_all, held_at_all, held_at_sequence, not_covered_all, not_covered_beyond}
use Rattle.srt_group_traces.specs.Laws.Base.{half_above_zero, further_fits, Stands, SequenceFits, Sums, sums_law}
use Rattle.srt_group_traces.specs.Laws.Schedule.{pass_to_zero, pass_to_next, pass_to_further, sequence_at_place}

module _ (schedule : List Delivery) where
  -- a packet, with the payload that `payloads` has for its cell, is the one at a place of the schedule
  pub record AtPlace (payloads : ℕ → List ℕ) (place : ℕ) (d : Data) : Type 0 where
    pub scheduled : Delivery
    pub rest : List Delivery
    pub here : pass_to schedule place ≡ Some (scheduled ∷ rest)
    pub sequence : d.sequence ≡ scheduled.sequence
    pub count : d.count ≡ scheduled.count
    pub payload : payloads d.cell ≡ scheduled.payload

  near_at : (payloads : ℕ → List ℕ) (base : ℕ) (d : Data) (n : Near schedule base (with_payload d (payloads d.cell))) → AtPlace payloads n.place d
  near_at payloads base d n =
      record { scheduled = with_payload d (payloads d.cell); rest = n.rest; here = n.here; sequence = refl; count = refl; payload = refl }

  -- what follows: each packet delivered stood at the base's place
  abbrev pub AtPlaces : List Mark → Type 0
  AtPlaces [] = Unit {0}
  AtPlaces (put cell payload ∷ log) = AtPlaces log
  AtPlaces (base_set base ∷ log) = AtPlaces log
  AtPlaces (collected p ∷ log) = AtPlaces log
  AtPlaces (gap_skipped tested time distance ∷ log) = AtPlaces log
  AtPlaces (delivered p ∷ log) = AtPlace (last_put log) (place_after log) p.content × AtPlaces log

  -- of a held packet: it stands at the base's place or after, less than half a circle
  pub record Ahead (payloads : ℕ → List ℕ) (base : ℕ) (d : Data) : Type 0 where
    pub place : ℕ
    pub at : AtPlace payloads place d
    pub ahead : place < base + half
    pub from : base ≤ place

  -- the two premises, mark by mark
  abbrev pub FromSchedule : ℕ → List Mark → Type 0
  FromSchedule first log =
      EachCollected (λ log p. first_base log ≡ Some first) log
      × EachCollected (λ log p. Near schedule (place_after log) (with_payload p.content (last_put log p.content.cell))) log

  pub from_schedule_of : (first : ℕ) (log : List Mark) → SetBefore first log → AllNear schedule log → FromSchedule first log
  from_schedule_of first log set_before near = (each_collected_of _ log set_before, each_collected_of _ log near)

  pub record Followed (first : ℕ) (x : Receive) (log : List Mark) : Type 0 where
    pub based : All (λ (p : Packet). first_base log ≡ Some first) x.pending
    pub held : All (OfContent (Ahead (last_put log) (place_after log))) x.pending
    pub here : (rest : List Delivery) × (pass_to schedule (place_after log) ≡ Some rest)
    pub at_places : AtPlaces log

  module _ (first : ℕ) (runs : Consecutive first schedule) where
    -- base arithmetic, and the schedule where the premise holds
    abbrev pub Follows : Receive → List Mark → Type 0
    Follows x log = Sums x log × (FromSchedule first log → Followed first x log)

    -- the base's number is that of its place
    base_at : (o b : Option ℕ) (place base : ℕ) → o ≡ Some first → Stands o b place → b ≡ Some base → base ≡ sequence_further first place
    base_at o b place base is h e = some_inj (sym e ∙ (subst (λ (z : Option ℕ). Stands z b place) is h).1)

    sequence_of_place : (payloads : ℕ → List ℕ) (place : ℕ) (d : Data) → AtPlace payloads place d
        → d.sequence ≡ sequence_further first place
    sequence_of_place payloads place d at =
        at.sequence ∙ (sequence_at_place first 0 schedule place at.scheduled at.rest runs at.here).0
        ∙ ap (sequence_further first) (omega arith)

    -- a held packet, seen from the base
    distance_of : (payloads : ℕ → List ℕ) (place base : ℕ) (d : Data) (a : Ahead payloads place d)
        → base ≡ sequence_further first place
        → sequence_distance base d.sequence ≡ a.place - place
    distance_of payloads place base d a e =
        ap (λ (z : ℕ). sequence_distance z d.sequence) e
        ∙ ap (sequence_distance (sequence_further first place)) (sequence_of_place payloads a.place d a.at)
        ∙ distance_places half first place a.place half_above_zero a.from (omega (arith, a.ahead))

    sequence_fits : (payloads : ℕ → List ℕ) (place : ℕ) (d : Data) → Ahead payloads place d → Fits d.sequence
    sequence_fits payloads place d a =
        subst Fits (sym (sequence_of_place payloads a.place d a.at)) (further_fits first a.place)

    -- a packet behind the base is discarded
    behind_is_before : (payloads : ℕ → List ℕ) (d : Data) (base place at : ℕ) → base ≡ sequence_further first place
        → AtPlace payloads at d
        → at < place → place < at + half → sequence_before d.sequence base ≡ true
    behind_is_before payloads d base place at e a l u =
        ap (sequence_before d.sequence) e ∙ ap (λ (z : ℕ). sequence_before z (sequence_further first place))
        (sequence_of_place payloads at d a)
        ∙ before_places half first at place half_above_zero l u

    -- so one that is retained is not before the base
    not_discarded_not_before : (p : Packet) (x : Receive) (base : ℕ) → next_receive_sequence x ≡ Some base
        → is_discarded p x ≡ false
        → sequence_before (sequence_of p) base ≡ false
    unfolding is_discarded is_late if_some◌give◌otherwise◌
    not_discarded_not_before p x base e f =
        subst (λ (o : Option ℕ). (if_some o give (λ base. sequence_before (sequence_of p) base) otherwise false) ≡ false) e
        (or_left (if_some next_receive_sequence x give (λ base. sequence_before (sequence_of p) base) otherwise false) _ f)

    abbrev AheadNow : List Mark → Packet → Type 0
    AheadNow log p = Ahead (last_put log) (place_after log) p.content

    abbrev BasedNow : List Mark → Packet → Type 0
    BasedNow log p = first_base log ≡ Some first

    -- a base that is set keeps its first value
    still_based : (base : ℕ) (log : List Mark) (ps : List Packet) → All (BasedNow log) ps → All (BasedNow (base_set base ∷ log)) ps
    unfolding first_base or_else
    still_based base log ps h = all_map (BasedNow log) (BasedNow (base_set base ∷ log)) (λ p e. ap (λ (o : Option ℕ). or_else o (Some base)) e) ps h

    follow_retained : (x : Receive) (log : List Mark) (p : Packet) → is_discarded p x ≡ false → Follows x log
        → FromSchedule first (collected p ∷ log)
        → Followed first (with_pending (insert p x.pending) x) (collected p ∷ log)
    unfolding first_base total_delivered total_skipped last_put
    follow_retained x log p kept h from =
        let k : Followed first x log = h.1 (from.0.1, from.1.1) in
        record {
          based = insert_all (BasedNow log) p x.pending from.0.0 k.based;
          held = insert_all (AheadNow log) p x.pending (ahead (dec_lt from.1.0.place (place_after log))) k.held;
          here = k.here;
          at_places = k.at_places;
        }
      where
        based : next_receive_sequence x ≡ Some (sequence_further first (place_after log))
        based = (subst (λ (o : Option ℕ). Stands o (next_receive_sequence x) (place_after log)) from.0.0 h.0.stands).1

        ahead : Dec (from.1.0.place < place_after log) → AheadNow log p
        ahead (yes l) =
            not_both
            (behind_is_before (last_put log) p.content (sequence_further first (place_after log)) (place_after log)
            from.1.0.place refl (near_at (last_put log) (place_after log) p.content from.1.0) l from.1.0.not_far_behind)
            (not_discarded_not_before p x (sequence_further first (place_after log)) based kept)
        ahead (no l) = record { place = from.1.0.place; at = near_at (last_put log) (place_after log) p.content from.1.0; ahead = from.1.0.not_far_ahead; from = omega arith }

    follow_skipped : (x : Receive) (log : List Mark) (base : ℕ) (n : Packet) (tested : State) (time : ℕ)
        → next_receive_sequence x ≡ Some base
        → nearest x.pending ≡ Some n → Follows x log → FromSchedule first log
        → Followed first (skip_to base (sequence_of n) x) (gap_skipped tested time (sequence_distance base (sequence_of n)) ∷ log)
    unfolding first_base total_delivered total_skipped last_put skip_to
    follow_skipped x log base n tested time e near h from =
        record {
          based = k.based;
          held =
              all_map (λ (p : Packet). AheadNow log p ×
              (sequence_distance base (sequence_of n) ≤ sequence_distance base (sequence_of p)))
              (OfContent
              (Ahead (last_put log) (total_delivered log + (total_skipped log + sequence_distance base (sequence_of n)))))
              (λ p a.
              record {
                place = a.0.place;
                at = a.0.at;
                ahead = omega (arith, a.0.ahead);
                from =
                    omega (arith, a.1, distance_of (last_put log) (place_after log) base p.content a.0 stands, a.0.from);
              })
              x.pending
              (all_both (AheadNow log)
              (λ (p : Packet). sequence_distance base (sequence_of n) ≤ sequence_distance base (sequence_of p)) x.pending
              k.held
              least);
          here = (an.at.scheduled ∷ an.at.rest, ap (pass_to schedule) there ∙ an.at.here);
          at_places = k.at_places;
        }
      where
        k : Followed first x log
        k = h.1 from

        first_is : first_base log ≡ Some first
        first_is = each_at (BasedNow log) (nearest x.pending) n near (nearest_all (BasedNow log) x.pending k.based)

        stands : base ≡ sequence_further first (place_after log)
        stands = base_at (first_base log) (next_receive_sequence x) (place_after log) base first_is h.0.stands e

        fits : Fits base
        fits = subst Fits (sym stands) (further_fits first (place_after log))

        least : All (λ (p : Packet). sequence_distance base (sequence_of n) ≤ sequence_distance base (sequence_of p)) x.pending
        least =
            nearest_least_far base x.pending n fits
            (all_map (AheadNow log) (λ (p : Packet). Fits (sequence_of p) × (sequence_distance base (sequence_of p) < half))
            (λ p a. (
              sequence_fits (last_put log) (place_after log) p.content a,
              omega (
                arith,
                distance_of (last_put log) (place_after log) base p.content a stands,
                a.ahead,
                a.from,
                half_above_zero,
              ),
            ))
            x.pending k.held)
            near

        an : AheadNow log n
        an = each_at (AheadNow log) (nearest x.pending) n near (nearest_all (AheadNow log) x.pending k.held)

        there : total_delivered log + (total_skipped log + sequence_distance base (sequence_of n)) ≡ an.place
        there = omega (arith, distance_of (last_put log) (place_after log) base n.content an stands, an.from)

    follow_delivered : (x : Receive) (log : List Mark) (base : ℕ) (p : Packet) → next_receive_sequence x ≡ Some base
        → held_at base x.pending ≡ Some p
        → Follows x log → FromSchedule first log → Followed first (pass_run base p x) (delivered p ∷ log)
    unfolding first_base total_delivered total_skipped last_put pass_run
    follow_delivered x log base p e found h from =
        record {
          based = not_covered_all (BasedNow log) base p.content.count x.pending k.based;
          held =
              all_map (λ (q : Packet). AheadNow log q × (p.content.count ≤ sequence_distance base (sequence_of q)))
              (OfContent (Ahead (last_put log) (total_delivered log + p.content.count + total_skipped log)))
              (λ q a.
              record {
                place = a.0.place;
                at = a.0.at;
                ahead = omega (arith, a.0.ahead);
                from =
                    omega (arith, a.1, distance_of (last_put log) (place_after log) base q.content a.0 stands, a.0.from);
              })
              (not_covered base p.content.count x.pending)
              (all_both (AheadNow log) (λ (q : Packet). p.content.count ≤ sequence_distance base (sequence_of q))
              (not_covered base p.content.count x.pending)
              (not_covered_all (AheadNow log) base p.content.count x.pending k.held)
              (not_covered_beyond base p.content.count x.pending));
          here = (delivered_ahead.at.rest, there);
          at_places = (subst (λ (z : ℕ). AtPlace (last_put log) z p.content) at_base delivered_ahead.at, k.at_places);
        }
      where
        k : Followed first x log
        k = h.1 from

        first_is : first_base log ≡ Some first
        first_is = each_at (BasedNow log) (held_at base x.pending) p found (held_at_all (BasedNow log) base x.pending k.based)

        stands : base ≡ sequence_further first (place_after log)
        stands = base_at (first_base log) (next_receive_sequence x) (place_after log) base first_is h.0.stands e

        delivered_ahead : AheadNow log p
        delivered_ahead =
            each_at (AheadNow log) (held_at base x.pending) p found (held_at_all (AheadNow log) base x.pending k.held)

        same : sequence_of p ≡ base
        same =
            each_at (λ (p : Packet). sequence_of p ≡ base) (held_at base x.pending) p found (held_at_sequence base x.pending)

        at_base : delivered_ahead.place ≡ place_after log
        at_base =
            omega (
              arith,
              distance_of (last_put log) (place_after log) base p.content delivered_ahead stands,
              delivered_ahead.from,
              ap (sequence_distance base) same,
              distance_self half base half_above_zero,
            )

        counted : 1 ≤ delivered_ahead.at.scheduled.count
        counted =
            (sequence_at_place first 0 schedule delivered_ahead.place delivered_ahead.at.scheduled
            delivered_ahead.at.rest runs delivered_ahead.at.here).1

        there : pass_to schedule (total_delivered log + p.content.count + total_skipped log) ≡ Some delivered_ahead.at.rest
        there =
            ap (pass_to schedule) (omega (arith, at_base, delivered_ahead.at.count))
            ∙ pass_to_further schedule delivered_ahead.place delivered_ahead.at.scheduled.count
            (delivered_ahead.at.scheduled ∷ delivered_ahead.at.rest) delivered_ahead.at.here
            ∙ pass_to_next delivered_ahead.at.scheduled delivered_ahead.at.rest counted

    -- a payload put into another cell leaves a packet where it is
    at_place_after_put : (cell : ℕ) (payload : List ℕ) (log : List Mark) (place : ℕ) (d : Data) → ElsewhereThan cell d
        → AtPlace (last_put log) place d → AtPlace (last_put (put cell payload ∷ log)) place d
    at_place_after_put cell payload log place d elsewhere at =
        record {
          scheduled = at.scheduled;
          rest = at.rest;
          here = at.here;
          sequence = at.sequence;
          count = at.count;
          payload = last_put_elsewhere cell d.cell payload log (λ e. elsewhere (sym e)) ∙ at.payload;
        }

    pub follows_law : PutLaw SequenceFits Fits Follows
    unfolding first_base total_delivered total_skipped last_put flagged
    follows_law =
        record {
          calling =
              record {
                polling =
                    record {
                      collecting =
                          record {
                            on_discarded =
                                λ x log p ok e h. (
                                  sums_law.calling.polling.collecting.on_discarded x log p ok e h.0,
                                  λ from.
                                      let k : Followed first x log = h.1 (from.0.1, from.1.1) in
                                      record { based = k.based; held = k.held; here = k.here; at_places = k.at_places },
                                );
                            on_retained =
                                λ x log p ok e h. (
                                  sums_law.calling.polling.collecting.on_retained x log p ok e h.0,
                                  λ from. follow_retained x log p e h from,
                                );
                          };
                      on_base_set =
                          λ x log base e fits h. (
                            sums_law.calling.polling.on_base_set x log base e fits h.0,
                            λ from.
                                let k : Followed first x log = h.1 from in
                                record { based = still_based base log x.pending k.based; held = k.held; here = k.here; at_places = k.at_places },
                          );
                      on_nearest_sets =
                          λ x log p e near h. (
                            sums_law.calling.polling.on_nearest_sets x log p e near h.0,
                            λ from.
                                let k : Followed first x log = h.1 from in
                                record { based = still_based (sequence_of p) log x.pending k.based; held = k.held; here = k.here; at_places = k.at_places },
                          );
                      on_skipped =
                          λ x log base p tested time e near h. (
                            sums_law.calling.polling.on_skipped x log base p tested time e near h.0,
                            λ from. follow_skipped x log base p tested time e near h from,
                          );
                      on_delivered =
                          λ x log base p e found h. (
                            sums_law.calling.polling.on_delivered x log base p e found h.0,
                            λ from. follow_delivered x log base p e found h from,
                          );
                    };
                on_removed =
                    λ x log ps among h. (
                      sums_law.calling.on_removed x log ps among h.0,
                      λ from.
                          let k : Followed first x log = h.1 from in
                          record { based = among (BasedNow log) (λ p a. a) k.based; held = among (AheadNow log) (λ p a. a) k.held; here = k.here; at_places = k.at_places },
                    );
              };
          on_put =
              λ x log cell payload elsewhere h. (
                sums_law.on_put x log cell payload elsewhere h.0,
                λ from.
                    let k : Followed first x log = h.1 from in
                    record {
                      based = k.based;
                      held =
                          all_map (λ (p : Packet). AheadNow log p × ElsewhereThan cell p.content)
                          (OfContent (Ahead (last_put (put cell payload ∷ log)) (place_after log)))
                          (λ p a.
                          record {
                            place = a.0.place;
                            at = at_place_after_put cell payload log a.0.place p.content a.1 a.0.at;
                            ahead = a.0.ahead;
                            from = a.0.from;
                          })
                          x.pending
                          (all_both (AheadNow log) (OfContent (ElsewhereThan cell)) x.pending k.held elsewhere);
                      here = k.here;
                      at_places = k.at_places;
                    },
              );
        }

    -- what holds between two calls
    abbrev pub Following : State → List Mark → Type 0
    Following = Holds SequenceFits Fits Follows follows_law (λ n fits. fits) (λ d fits. fits)

    pub call_following : (call : Asked) (s : State) (log : List Mark) → Following s log
        → Following (do_call call s).state ((do_call call s).log ++ log)
    call_following = call_holds SequenceFits Fits Follows follows_law (λ n fits. fits) (λ d fits. fits)

    pub calls_following : (calls : List Asked) (s : State) (log : List Mark) → Following s log
        → Following (state_after calls s) (log_after calls s ++ log)
    calls_following = calls_hold SequenceFits Fits Follows follows_law (λ n fits. fits) (λ d fits. fits)

    pub new_following : (g : Making) → Following (new g) []
    unfolding new first_base total_skipped total_delivered flagged sides
    new_following g =
        record {
          sides_ok = tt;
          kept = (
            record { stands = (refl, refl); skipped = omega arith; held = tt },
            λ from. record { based = tt; held = tt; here = (schedule, pass_to_zero schedule); at_places = tt },
          );
        }
