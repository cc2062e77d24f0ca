-- Which marks a call can make: a payload is put by an accepted call that takes a cell for it; a skip and a delivery are a poll's. An
-- instance of the model's law of calls.
use Rattle.std.specs.Prelude.{◌≡◌, List, ℕ}
use Rattle.srt_group_model.specs.Tools.{All}
use Rattle.srt_group_model.specs.State.{State}
use Rattle.srt_group_model.specs.Run.{Mark, put, base_set, collected, gap_skipped, delivered}
use Rattle.srt_group_model.specs.Lent.{Call, step_of}
use Rattle.srt_group_model.specs.Laws.CallLaw.{RefreshLaw, CollectLaw, Calling, calling, Polls, TakesCell, CallLaw}
use Rattle.srt_group_model.specs.Laws.EveryCall.{step_keeps}

-- payloads are put only where `Puts` holds, and only where `Delivers` holds is skipped and delivered
abbrev pub Only : (Puts Delivers : Type 0) → Mark → Type 0
Only Puts Delivers (put cell payload) = Puts
Only Puts Delivers (base_set base) = Unit {0}
Only Puts Delivers (collected p) = Unit {0}
Only Puts Delivers (gap_skipped tested time distance) = Delivers
Only Puts Delivers (delivered p) = Delivers

-- a refresh and collecting put, skip and deliver nothing
pub only_refreshes : (Puts Delivers : Type 0) → RefreshLaw (λ hand s m. All (Only Puts Delivers) m)
only_refreshes Puts Delivers =
    record {
      moves = λ s i m f at move h. h;
      binds = λ s i m at a unbound h. h;
      sets_base = λ s b e source h. (tt, h);
    }

pub only_collects : (Puts Delivers : Type 0) → CollectLaw (λ hand s m. All (Only Puts Delivers) m)
only_collects Puts Delivers =
    record {
      continues = λ s b h. h;
      turns = λ s i m at h. h;
      discards = λ s i m e f d g h. (tt, h);
      holds = λ s i m e f d g h. (tt, h);
      reports = λ s i m e f d few h. h;
    }

abbrev pub Putting : Calling → Type 0
Putting k = (payload : List ℕ) × TakesCell k.call payload × (k.code ≡ 0)

only_moves : (k : Calling) → CallLaw k (λ hand s m. All (Only (Putting k) (Polls k.call)) m)
only_moves k =
    record {
      refreshing = only_refreshes (Putting k) (Polls k.call);
      collecting = λ poll. only_collects (Putting k) (Polls k.call);
      polling = λ poll. record { gives = λ s h. h; skips = λ s base p tested time b n near h. (poll, h); delivers = λ s base p b there h. (poll, h) };
      joins = λ s id weight l queue is j h. h;
      leaves = λ s i m is at h. h;
      retires = λ s id base p is e h. h;
      takes = λ payload takes free h. h;
      puts = λ s cell payload takes accepted short unused h. ((payload, takes, accepted), h);
      lets_go = λ s cell h. h;
      queues_data = λ s i m cell d payload is accepted at full unfit short h. h;
      queues_event = λ s i m id kind reason is at full some_kind known fits h. h;
      numbers = λ s sequence h. h;
      remembers = λ s i m e at next short fits h. h;
      trims = λ s l h. h;
    }

pub step_marks : (store output list : ℕ) (c : Call) (s : State)
    → All (Only (Putting (calling store output list c s)) (Polls c)) (step_of store output list c s).log
step_marks store output list c s = step_keeps (λ hand t m. All (Only (Putting (calling store output list c s)) (Polls c)) m) store output list c s (only_moves _) tt
