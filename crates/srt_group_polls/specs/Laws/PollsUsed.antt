-- The set of used cells through a poll: the refresh names the same cells, and so does an event that is passed over.
use Rattle.std.specs.Prelude.{◌≡◌, List, [], ℕ, length}
use Rattle.std.proofs.Common.{sym, subst}
use Rattle.srt_group_model.specs.declared.Core.{Core}
use Rattle.srt_group_model.specs.declared.Sending.{Sending}
use Rattle.srt_group_model.specs.Laws.CellsMoved.{refresh_pending_keeps, refresh_keeps}
use Rattle.srt_group_model.specs.Run.{refresh_pending_states, refresh_states}
use Rattle.cell_set.specs.Bits.{set_size}
use Rattle.srt_group_shown.specs.Tables.{receive_tables}
use Rattle.srt_group_delivery.specs.declared.delivery.Poll.{Poll}
use Rattle.srt_group_collecting.specs.Leaves.{sends, under_way}
use Rattle.srt_group_collecting.specs.Follows.{Follows}
use Rattle.srt_group_collecting.specs.Laws.Follows.{follows_kept}
use Rattle.srt_group_polls.specs.Refresh.{Refreshes}
use Rattle.srt_group_polls.specs.declared.polls.DataPoll.{DataPoll}
use Rattle.srt_group_polls.specs.DataPoll.{Ends}
use Rattle.srt_group_model.specs.Core.{continued}

module _ (sending : Sending) (core after : Core) (ms ms' ps used : List ℕ) (long : length used ≡ set_size) where
  pub follows_refreshed : Refreshes (sends sending) refresh_states core ms after ms' → Follows core ms ps used after ms' ps used
  follows_refreshed refreshes =
      follows_kept core after ms ps [] ms' ps [] used sending
      (λ others. (refresh_states (under_way core others (receive_tables ms ps []) [] 0)).state)
      (λ others same. (refreshes.run ps [] others same [] 0).state) long
      (λ others. refresh_keeps (under_way core others (receive_tables ms ps []) [] 0))

  -- with the continuation no longer asked for
  pub follows_begun : Refreshes (sends sending) refresh_pending_states (continued 0 core) ms after ms' → Follows core ms ps used after ms' ps used
  follows_begun refreshes =
      let follows =
      follows_kept (continued 0 core) after ms ps [] ms' ps [] used sending
      (λ others. (refresh_pending_states (under_way (continued 0 core) others (receive_tables ms ps []) [] 0)).state)
      (λ others same. (refreshes.run ps [] others same [] 0).state) long
      (λ others. refresh_pending_keeps (under_way (continued 0 core) others (receive_tables ms ps []) [] 0)) in
      record { long = follows.long; shows = follows.shows }

pub follows_ended : (core : Core) (ms ps used : List ℕ) (poll : Poll) (answer : DataPoll) (ms' ps' used' : List ℕ) → Ends poll answer
    → Follows core ms ps used poll.core ms' ps' used' → Follows core ms ps used answer.core ms' ps' used'
follows_ended core ms ps used poll answer ms' ps' used' ends = subst (λ (c : Core). Follows core ms ps used c ms' ps' used') (sym ends.core_same)
