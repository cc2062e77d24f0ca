-- `release_data_reservation_at` meets its contract: the reservation that is put is the one that was there, less the count.
use mathlib.Core.Path.{ap, ◌∙◌}
use Prim.Native.Nat.{ℕ, ◌-◌}
use Rattle.srt_connection_members.specs.Laws.Members.{reservation_changed}
use Rattle.srt_connection_members.proofs.release_data_reservation_at.Goals as goal

pub returns : goal.returns
returns c =
    let count = c.args.count in
    reservation_changed (λ n. n - count) c.put_reservation_at.ensures
    (c.saturating_sub-reserved.ensures ∙ ap (λ (n : ℕ). n - count) c.reservation_at.ensures)
