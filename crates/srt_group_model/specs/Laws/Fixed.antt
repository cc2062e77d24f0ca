-- What is fixed at creation stays: no call moves what the group was made of.
use Rattle.std.specs.Prelude.{◌≡◌, refl, List, ℕ, Option}
use Rattle.std.proofs.Common.{◌∙◌}
use Rattle.srt_group_model.specs.State.{State, Making}
use Rattle.srt_group_model.specs.Run.{Mark}
use Rattle.srt_group_model.specs.Removal.{retire, take_out}
use Rattle.srt_group_model.specs.Lent.{Lent, Call, perform}
use Rattle.srt_group_model.specs.Laws.CallLaw.{Calling, RefreshLaw, CollectLaw, PollLaw, CallLaw}
use Rattle.srt_group_model.specs.Laws.EveryCall.{call_keeps}
use Rattle.srt_group_model.specs.Laws.Released.{deliver_released}

abbrev pub Given : Making → Option ℕ → State → List Mark → Type 0
Given making hand s log = s.making ≡ making

pub given_refreshes : (making : Making) → RefreshLaw (Given making)
given_refreshes making =
    record {
      moves = λ s i m f at move h. h;
      binds = λ s i m at a unbound h. h;
      sets_base = λ s b e source h. h;
    }

pub given_collects : (making : Making) → CollectLaw (Given making)
given_collects making =
    record {
      continues = λ s b h. h;
      turns = λ s i m at h. h;
      discards = λ s i m e f d g h. h;
      holds = λ s i m e f d g h. h;
      reports = λ s i m e f d few h. h;
    }

pub given_polls : (making : Making) → PollLaw (Given making)
given_polls making =
    record {
      gives = λ s h. h;
      skips = λ s base p tested time b n near h. h;
      delivers = λ s base p b e h. (deliver_released base p s).making ∙ h;
    }

pub given_law : (making : Making) (k : Calling) → CallLaw k (Given making)
unfolding take_out retire
given_law making k =
    record {
      refreshing = given_refreshes making;
      collecting = λ poll. given_collects making;
      polling = λ poll. given_polls making;
      joins = λ s id weight l queue is j h. h;
      leaves = λ s i m is at h. h;
      retires = λ s id base p is e h. h;
      takes = λ payload takes free h. h;
      puts = λ s cell payload takes accepted short unused h. h;
      lets_go = λ s cell h. h;
      queues_data = λ s i m cell d payload is accepted at full unfit short h. h;
      queues_event = λ s i m id kind reason is at full some_kind known fits h. h;
      numbers = λ s sequence h. h;
      remembers = λ s i m e at next short fits h. h;
      trims = λ s l h. h;
    }

pub making_kept : (c : Call) (lent : Lent) (s : State) → (perform c lent s).state.making ≡ s.making
making_kept c lent s = call_keeps (Given s.making) c lent s (given_law s.making _) refl
