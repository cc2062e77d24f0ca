-- The packets queued at a leg, and those that a log marks as collected from it: document 01, "collected" is got by polling a leg.
use Rattle.std.specs.Prelude.{List, [], ◌∷◌, ◌++◌, ℕ, eqb}
use Rattle.srt_group_model.specs.Tools.{if_true◌then◌else◌, each, such_that}
use Rattle.srt_group_model.specs.State.{Member}
use Rattle.srt_group_model.specs.Members.{has_id}
use Rattle.srt_group_model.specs.Run.{Mark, put, base_set, collected, gap_skipped, delivered}
use Rattle.srt_group_model.specs.Cells.{is_data}
use Rattle.srt_group_model.specs.declared.Data.{Data}
use Rattle.srt_group_model.specs.declared.Event.{Event}

-- the packets of a queue, as they were queued
unfoldable pub contents : List Event → List Data
contents q = each (λ e. e.content) (such_that is_data q)

-- the packets queued at the leg with this id
unfoldable pub queued_at : ℕ → List Member → List Data
queued_at id [] = []
queued_at id (m ∷ ms) = (if_true has_id id m then contents m.queue else []) ++ queued_at id ms

-- the packets that a log marks as collected from it, oldest first
unfoldable pub collected_from : ℕ → List Mark → List Data
collected_from id [] = []
collected_from id (put cell payload ∷ log) = collected_from id log
collected_from id (base_set b ∷ log) = collected_from id log
collected_from id (collected p ∷ log) = collected_from id log ++ (if_true eqb p.member id then p.content ∷ [] else [])
collected_from id (gap_skipped s time distance ∷ log) = collected_from id log
collected_from id (delivered p ∷ log) = collected_from id log
