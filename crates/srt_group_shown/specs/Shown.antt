-- The state that the numbers of a poll and the lent tables show. Rows past a count are free and show in nothing.
use Rattle.std.specs.Prelude.{List, [], ℕ}
use Rattle.srt_group_model.specs.declared.Core.{Core}
use Rattle.srt_group_model.specs.declared.Identity.{Identity}
use Rattle.srt_group_model.specs.declared.Sending.{Sending}
use Rattle.srt_group_model.specs.declared.Entry.{Entry}
use Rattle.srt_group_model.specs.State.{State, Send, Making, receive_side, send_side}
use Rattle.srt_connection_members.specs.Members.{members_of}
use Rattle.srt_group_tables.specs.Packets.{packets}
use Rattle.srt_group_tables.specs.Waitings.{waitings}

-- what receiving leaves alone: what is fixed at creation, and the sending side. A step that reads none of it is promised over every one.
pub record Rest : Type 0 where
  pub identity : Identity
  pub send : Send

abbrev pub rest : Identity → Sending → List Entry → Rest
rest identity sending history = record { identity = identity; send = send_side sending history }

-- ---- a rest of the state, where one must be named

-- no identity, and this sending side
abbrev pub remembering : Sending → List Entry → Rest
remembering sending history = rest record { id = 0; length = 0 } sending history

abbrev pub nothing_sent : Sending
nothing_sent = record { numbered = 0; next = 0; carried = 0; carrier = 0; gap = 0 }

abbrev pub blank : Rest
blank = remembering nothing_sent []

-- ---- the state

-- what the group was made of, read from the record
abbrev pub making_of : Identity → (mode : ℕ) → Making
making_of identity mode = record { id = identity.id; mode = mode; length = identity.length }

abbrev pub shown : Core → Rest → (members pending waiting : List ℕ) → State
shown core others members pending waiting =
    record {
      making = making_of others.identity core.mode;
      peer = core.peer;
      receive = receive_side core.receiving (packets core.counts.pending pending);
      send = others.send;
      visit = core.visit;
      own = core.own;
      members = members_of core.counts.members members;
      waiting = waitings core.counts.waiting waiting;
    }
