-- Every rule but the two about cells, and the numbers of the record, which are tested before any table is read.
use Rattle.std.specs.Prelude.{Bool, not, ◌||◌, List, [], ◌∷◌, ◌-◌, ◌≤◌}
use Rattle.srt_protocol.specs.Handshake.{has_group_mask}
use Rattle.srt_group_model.specs.Tools.{any}
use Rattle.srt_group_model.specs.State.{State}
use Rattle.srt_group_model.specs.Validity.{Ranged, ◌at_most◌, any_above, max_members, max_pending, max_waiting, is_too_large, record_out_of_range, rules_outside_cells}
use Rattle.srt_group_model.specs.declared.Core.{Core}
use Rattle.srt_group_model.specs.declared.Identity.{Identity}
use Rattle.srt_group_model.specs.declared.Sending.{Sending}
use Rattle.srt_group_shown.specs.Shown.{rest, shown}

-- ---- definitions

unfoldable pub breaks_rule_outside_cells : State → Bool
breaks_rule_outside_cells s = any (λ rule. rule) (rules_outside_cells s)

-- ---- the numbers of the core

-- the counts of rows in use; the history's is tested with the history
unfoldable pub core_counts : Core → List Ranged
core_counts c =
    (c.counts.members at_most max_members) ∷ (c.counts.pending at_most max_pending)
    ∷ (c.counts.waiting at_most max_waiting) ∷ (c.visit.round at_most (c.counts.members - 1)) ∷ []

-- the words of the record: no table has a part in them
unfoldable pub words_out_of_range : Identity → Core → Sending → Bool
words_out_of_range identity c sending = record_out_of_range (shown c (rest identity sending []) [] [] [])

unfoldable pub numbers_break_rule : Identity → Core → Sending → Bool
numbers_break_rule identity c sending =
    not (has_group_mask identity.id)
    || (any_above (core_counts c)
    || (is_too_large c.receiving.base || (is_too_large sending.next || words_out_of_range identity c sending)))

-- so many rows as the lent tables have
pub record CountsWithin (c : Core) : Type 0 where
  pub members : c.counts.members ≤ max_members
  pub pending : c.counts.pending ≤ max_pending
  pub waiting : c.counts.waiting ≤ max_waiting
