-- What is proved of the definitions in specs/Leaves.antt, with what the proofs need.
use Rattle.std.specs.Prelude.{◌≡◌, List, [], ℕ}
use Rattle.std.proofs.Common.{ap, sym, arith}
use Rattle.srt_protocol.specs.Cells.{max_cells}
use Rattle.srt_group_model.specs.declared.Core.{Core}
use Rattle.srt_group_model.specs.declared.Sending.{Sending}
use Rattle.srt_group_model.specs.Tools.{each}
use Rattle.srt_group_model.specs.State.{Member, with_members}
use Rattle.srt_group_model.specs.Sound.{Within, room, occurs, SendingFit, Sound}
use Rattle.srt_connection_members.specs.Members.{members_of}
use Rattle.srt_group_shown.specs.Shown.{Rest, shown, remembering, nothing_sent, blank}
use Rattle.srt_group_shown.specs.Tables.{ReceiveTables, shown_by}

-- ---- a rest of the state, where one must be named

-- what is sound stays so with no history, and with other numbers of sending that are in range
pub sound_with : (core : Core) (others : Rest) (t : ReceiveTables) (sending : Sending) → SendingFit sending → Sound (shown_by core others t)
    → Sound (shown_by core (remembering sending []) t)
unfolding each occurs
sound_with core others t sending fits h =
    let cells : Within (room max_cells) (shown_by core (remembering sending []) t) = λ n. omega (arith, h.cells n) in
    search (arith, cells)

pub sound_blank : (core : Core) (others : Rest) (t : ReceiveTables) → Sound (shown_by core others t) → Sound (shown_by core blank t)
sound_blank core others t =
    sound_with core others t nothing_sent
    record { numbered = omega arith; next = omega arith; carried = omega arith; carrier = omega arith; gap = omega arith }

-- ---- laws

-- the members of a state that is shown are those of the table
pub members_shown : (core : Core) (others : Rest) (ms ms' ps ws : List ℕ) (l : List Member)
    → members_of core.counts.members ms' ≡ l → with_members l (shown core others ms ps ws) ≡ shown core others ms' ps ws
members_shown core others ms ms' ps ws l is =
    ap (λ (x : List Member). with_members x (shown core others ms ps ws)) (sym is)
