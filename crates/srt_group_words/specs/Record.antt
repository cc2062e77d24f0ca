-- The record as a row of words, and the words of a record (docs/TABLES.md). A row of fewer words shows 0 for each that it lacks.
use Rattle.std.specs.Prelude.{List, [], ◌∷◌, ◌++◌, ℕ, get_or}
use Rattle.srt_group_model.specs.declared.Core.{Core}
use Rattle.srt_group_model.specs.declared.Identity.{Identity}
use Rattle.srt_group_model.specs.declared.Sending.{Sending}
use Rattle.srt_group_tables.specs.declared.history.HistoryRing.{HistoryRing}
use Rattle.srt_group.specs.declared.Group.{Group}

abbrev pub record_size : ℕ
record_size = 20

-- ---- what the words show

abbrev pub at : List ℕ → ℕ → ℕ
at words i = get_or words i 0

unfoldable pub identity_of : List ℕ → Identity
identity_of w = record { id = at w 0; length = at w 1 }

unfoldable pub core_of : List ℕ → Core
core_of w =
    record {
      mode = at w 2;
      peer = at w 3;
      counts = record { members = at w 4; pending = at w 5; waiting = at w 6 };
      receiving = record { based = at w 7; base = at w 8; skipped = at w 9 };
      visit = record { continuation = at w 10; round = at w 11 };
      own = record { reserved = at w 12 };
    }

unfoldable pub sending_of : List ℕ → Sending
sending_of w = record { numbered = at w 13; next = at w 14; carried = at w 15; carrier = at w 16; gap = at w 17 }

unfoldable pub ring_of : List ℕ → HistoryRing
ring_of w = record { start = at w 18; length = at w 19 }

abbrev pub group_of : List ℕ → Group
group_of w = record { identity = identity_of w; core = core_of w; sending = sending_of w; ring = ring_of w }

-- ---- the words of a group, in the same order

unfoldable pub identity_words : Identity → List ℕ
identity_words x = x.id ∷ x.length ∷ []

unfoldable pub core_words : Core → List ℕ
core_words x =
    x.mode ∷ x.peer ∷ x.counts.members ∷ x.counts.pending ∷ x.counts.waiting ∷ x.receiving.based ∷ x.receiving.base
    ∷ x.receiving.skipped ∷ x.visit.continuation ∷ x.visit.round ∷ x.own.reserved
    ∷ []

unfoldable pub sending_words : Sending → List ℕ
sending_words x = x.numbered ∷ x.next ∷ x.carried ∷ x.carrier ∷ x.gap ∷ []

unfoldable pub ring_words : HistoryRing → List ℕ
ring_words x = x.start ∷ x.length ∷ []

unfoldable pub group_words : Group → List ℕ
group_words g = identity_words g.identity ++ (core_words g.core ++ (sending_words g.sending ++ ring_words g.ring))

-- the group with another core; with all that a send moves
abbrev pub with_core : Core → Group → Group
with_core core g = record { identity = g.identity; core = core; sending = g.sending; ring = g.ring }

abbrev pub with_sent : Core → Sending → HistoryRing → Group → Group
with_sent core sending ring g = record { identity = g.identity; core = core; sending = sending; ring = ring }
