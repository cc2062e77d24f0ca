-- What a poll carries by value, with one part changed.
use Rattle.std.specs.Prelude.{ℕ}
use Rattle.srt_group_model.specs.declared.Core.{Core}
use Rattle.srt_group_model.specs.declared.Counts.{Counts}
use Rattle.srt_group_model.specs.declared.Receiving.{Receiving}
use Rattle.srt_group_model.specs.declared.Visit.{Visit}
use Rattle.srt_group_model.specs.declared.Account.{Account}

abbrev pub with_peer_group : ℕ → Core → Core
with_peer_group n c =
    record { mode = c.mode; peer = n; counts = c.counts; receiving = c.receiving; visit = c.visit; own = c.own }

abbrev pub with_counts : Counts → Core → Core
with_counts n c =
    record { mode = c.mode; peer = c.peer; counts = n; receiving = c.receiving; visit = c.visit; own = c.own }

abbrev pub with_receiving : Receiving → Core → Core
with_receiving x c =
    record { mode = c.mode; peer = c.peer; counts = c.counts; receiving = x; visit = c.visit; own = c.own }

abbrev pub with_visit : Visit → Core → Core
with_visit v c =
    record { mode = c.mode; peer = c.peer; counts = c.counts; receiving = c.receiving; visit = v; own = c.own }

abbrev pub with_own_account : Account → Core → Core
with_own_account a c =
    record { mode = c.mode; peer = c.peer; counts = c.counts; receiving = c.receiving; visit = c.visit; own = a }

-- ---- how many rows are in use

abbrev pub with_member_count : ℕ → Core → Core
with_member_count n c =
    with_counts record { members = n; pending = c.counts.pending; waiting = c.counts.waiting } c

abbrev pub with_held : ℕ → Core → Core
with_held n c = with_counts record { members = c.counts.members; pending = n; waiting = c.counts.waiting } c

abbrev pub with_waiting_count : ℕ → Core → Core
with_waiting_count n c =
    with_counts record { members = c.counts.members; pending = c.counts.pending; waiting = n } c

-- ---- the visits

-- the round goes on at a place
abbrev pub with_next : ℕ → Core → Core
with_next n c = with_visit record { continuation = c.visit.continuation; round = n } c

-- the continuation's word is another
abbrev pub continued : ℕ → Core → Core
continued n c = with_visit record { continuation = n; round = c.visit.round } c
