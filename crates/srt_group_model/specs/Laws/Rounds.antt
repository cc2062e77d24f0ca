-- The round's place is that of a member, or 0 with none: the rule of counts on it is kept over every call.
use Rattle.std.specs.Prelude.{◌≡◌, refl, List, [], ◌∷◌, ℕ, zero, suc, ◌-◌, ◌%◌, ◌≤◌, ◌<◌, length, Some}
use Rattle.std.proofs.Common.{ap, arith, mod-lt, length-append}
use Rattle.srt_group_model.specs.Tools.{at_place, change}
use Rattle.srt_group_model.specs.Laws.Reason.{none_some, EachTo}
use Rattle.srt_group_model.specs.State.{Member, State}
use Rattle.srt_group_model.specs.Legs.{handed}
use Rattle.srt_group_model.specs.Delivery.{skip_to, deliver_packet}
use Rattle.srt_group_model.specs.Removal.{retire, take_out}
use Rattle.srt_group_model.specs.Calls.{new_member}
use Rattle.srt_group_model.specs.Lent.{Lent, Call, perform}
use Rattle.srt_group_model.specs.Laws.Queues.{Relabelled, pop}
use Rattle.srt_group_model.specs.Laws.Steps.{StateLaw, state_law_of}
use Rattle.srt_group_model.specs.Laws.CallLaw.{Calling, RefreshLaw, CollectLaw, PollLaw, CallLaw}
use Rattle.srt_group_model.specs.Laws.EveryCall.{call_keeps}
use Rattle.srt_group_model.specs.Laws.Released.{deliver_released, deliver_relabelled}
use Rattle.srt_group_model.specs.declared.Packet.{Packet}
use Rattle.srt_group_model.specs.declared.Visit.{Visit}
use Rattle.srt_group_model.specs.Sound.{InRound}

each_to_length : (R : Member → Member → Type 0) (l m : List Member) → EachTo R l m → length m ≡ length l
each_to_length R [] [] h = refl
each_to_length R [] (y ∷ ys) h = absurd h
each_to_length R (x ∷ xs) [] h = absurd h
each_to_length R (x ∷ xs) (y ∷ ys) h = ap suc (each_to_length R xs ys h.1)

change_length : (i : ℕ) (f : Member → Member) (ms : List Member) → length (change i f ms) ≡ length ms
unfolding change
change_length zero f [] = refl
change_length (suc i) f [] = refl
change_length zero f (m ∷ ms) = refl
change_length (suc i) f (m ∷ ms) = ap suc (change_length i f ms)

at_length : (i : ℕ) (m : Member) (ms : List Member) → at_place i ms ≡ Some m → 0 < length ms
unfolding at_place
at_length zero m [] at = none_some at
at_length (suc i) m [] at = none_some at
at_length zero m (x ∷ ms) at = omega arith
at_length (suc i) m (x ∷ ms) at = omega arith

moved : {a b c d : ℕ} → c ≡ a → d ≡ b → a ≤ b - 1 → c ≤ d - 1
moved {a} {b} {c} {d} e f h = omega (arith, h, e, f)

turn_within : (i n : ℕ) → 0 < n → suc i % n ≤ n - 1
turn_within i n h = let low : suc i % n < n = mod-lt (suc i) {m = n} h in omega (arith, low)

deliver_round : (s : State) (base : ℕ) (p : Packet) → InRound s → InRound (deliver_packet base p s)
deliver_round s base p =
    moved (ap (λ (v : Visit). v.round) (deliver_released base p s).visit) (each_to_length Relabelled s.members _ (deliver_relabelled base p s))

round_refreshes : RefreshLaw (λ hand s log. InRound s)
round_refreshes =
    record {
      moves = λ s i m f at move h. moved refl (change_length i f s.members) h;
      binds = λ s i m at a unbound h. h;
      sets_base = λ s b e source h. h;
    }

round_collects : CollectLaw (λ hand s log. InRound s)
round_collects =
    record {
      continues = λ s b h. h;
      turns = λ s i m at h. turn_within i (length s.members) (at_length i m s.members at);
      discards = λ s i m e f d g h. moved refl (change_length i _ s.members) h;
      holds = λ s i m e f d g h. moved refl (change_length i _ s.members) h;
      reports = λ s i m e f d few h. moved refl (change_length i _ s.members) h;
    }

round_polls : PollLaw (λ hand s log. InRound s)
round_polls =
    record {
      gives = λ s h. h;
      skips = λ s base p tested time b n near h. h;
      delivers = λ s base p b e h. deliver_round s base p h;
    }

round_moves : (k : Calling) → CallLaw k (λ hand s log. InRound s)
unfolding take_out retire
round_moves k =
    record {
      refreshing = round_refreshes;
      collecting = λ poll. round_collects;
      polling = λ poll. round_polls;
      joins = λ s id weight l queue is j h. omega (arith, h, length-append s.members (new_member id weight (handed l) s ∷ []));
      leaves = λ s i m is at h. omega arith;
      retires = λ s id base p is e h. h;
      takes = λ payload takes free h. h;
      puts = λ s cell payload takes accepted short unused h. h;
      lets_go = λ s cell h. h;
      queues_data = λ s i m cell d payload is accepted at full unfit short h. moved refl (change_length i _ s.members) h;
      queues_event = λ s i m id kind reason is at full some_kind known fits h. moved refl (change_length i _ s.members) h;
      numbers = λ s sequence h. h;
      remembers = λ s i m e at next short fits h. h;
      trims = λ s l h. h;
    }

pub round_law : StateLaw InRound
unfolding skip_to
round_law =
    state_law_of (λ hand s log. InRound s) InRound round_refreshes round_collects round_polls (λ s log h. h) (λ s log h. h) (λ s i m e f d h. moved refl (change_length i pop s.members) h) deliver_round (λ s base p g h. h) (λ s p g h. h)

pub round_kept : (c : Call) (lent : Lent) (s : State) → InRound s → InRound (perform c lent s).state
round_kept c lent s h = call_keeps (λ hand s log. InRound s) c lent s (round_moves _) h
