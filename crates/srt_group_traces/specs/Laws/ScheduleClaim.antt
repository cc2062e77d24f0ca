-- The second claim: what the clerk gives, as it was queued (ClerkClaim), is what was delivered, byte for byte (Bytes).
use Rattle.std.specs.Prelude.{◌≡◌, List, [], ℕ, Some}
use Rattle.std.proofs.Common.{sym, ap, ◌∙◌}
use Rattle.srt_group_traces.specs.Statement.{Consecutive, told_by, clerk, Fair, Asked, Delivery, deliveries, place_of_base, pass_to}
use Rattle.srt_group_traces.specs.Laws.ClerkClaim.{clerk_as_queued, delivered_as_queued}
use Rattle.srt_group_traces.specs.Laws.Bytes.{delivered_is_as_queued, new_alive}
use Rattle.srt_group_model.specs.State.{Making}
use Rattle.srt_group_model.specs.Calls.{new}

pub schedule_claim : (schedule : List Delivery) (first : ℕ) → Consecutive first schedule → (g : Making) (calls : List Asked)
    → Fair schedule first g calls
    → (left : List Delivery) × (pass_to schedule (place_of_base g calls) ≡ Some left)
    × (clerk schedule 0 (told_by calls (new g)) ≡ Some record { gave = deliveries calls (new g); left = left })
schedule_claim schedule first runs g calls fair =
    let w : (left : List Delivery) × (pass_to schedule (place_of_base g calls) ≡ Some left)
    × (clerk schedule 0 (told_by calls (new g)) ≡ Some record { gave = delivered_as_queued [] calls (new g); left = left }) =
    clerk_as_queued schedule first runs g calls fair.set_before fair.near fair.below
    in (
      w.0,
      w.1,
      w.2
          ∙ ap (λ (l : List Delivery). Some record { gave = l; left = w.0 })
          (sym (delivered_is_as_queued calls (new g) fair.store [] (new_alive g fair.store) fair.one_store)),
    )
