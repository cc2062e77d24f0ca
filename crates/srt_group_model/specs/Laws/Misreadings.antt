-- Readings of document 01 that are shut out, and the lent bytes, by computed calls that no listing can show. The other
-- misreadings are shut out in Examples.antt (`give_up_not_repeated`, `nearest_not_lowest`, `error_promotes_beside_active`).
use Rattle.std.specs.Prelude.{◌≡◌, refl, List, [], ◌∷◌, ◌++◌, ℕ, length, replicate}
use Rattle.srt_group_model.specs.State.{State}
use Rattle.srt_group_model.specs.Laws.State.{broadcast_mode, ordinary}
use Rattle.srt_group_model.specs.Legs.{moment, no_sequence, on_sender, on_receiver}
use Rattle.srt_group_model.specs.Lent.{Lent, Result, Call, call_add_member, call_queue_data, call_send, call_poll_data, perform}
use Rattle.srt_group_model.specs.Calls.{new}
use Rattle.srt_group_model.specs.Laws.Cases.{leg}
use Rattle.srt_group_model.specs.Laws.Computed.{definitions}
use Rattle.srt_group_model.specs.Sending.{list_size}
use Rattle.srt_protocol.specs.Cells.{output_size}
use Rattle.srt_group_model.specs.declared.Leg.{Leg}

-- a store of two cells of 7, an output of 9 and a list of 8
lent : Lent
lent = record { store = replicate 2912 7; output = replicate output_size 9; list = replicate list_size 8 }

-- what the calls of a list leave, one after the other
after : Lent → State → List Call → List Result
after l s [] = []
after l s (c ∷ cs) = let r = perform c l s in r ∷ after r.lent r.state cs

codes : List Result → List ℕ
codes [] = []
codes (r ∷ rs) = r.code ∷ codes rs

members_left : List Result → List ℕ
members_left [] = []
members_left (r ∷ rs) = length r.state.members ∷ members_left rs

-- a leg that stands at 60 and has a flight of 3
busy : Leg
busy =
    on_sender (λ x. record { started = 1; next = 60; flight = 3; window = 8; oldest = x.oldest; pace = x.pace })
    (leg 0 8 0 0)

-- It cannot be aligned with the first leg's number: 22, and it is a member from then on.
unaligned : List Result
unaligned =
    after lent (new (ordinary broadcast_mode 2912))
    (call_add_member 1 0 (leg 0 8 0 0) [] ∷ call_add_member 2 0 busy [] ∷ call_add_member 2 0 busy [] ∷ [])

addition_stays_added : (codes unaligned ≡ 0 ∷ 22 ∷ 21 ∷ []) × (members_left unaligned ≡ 1 ∷ 2 ∷ 2 ∷ [])
unfolding definitions leg lent after codes members_left busy unaligned
addition_stays_added = (refl, refl)

-- ---- the lent bytes

-- a packet 0 with two bytes, delivered; the leg has no first sequence, so the packet sets the base
delivering : List Result
delivering =
    after lent (new (ordinary broadcast_mode 2912))
    (call_add_member 1 0 (on_receiver (λ x. record { first = no_sequence; window = 8192; latency = 0; reserved = 0; advanced = 0 }) (leg 0 8 0 0)) []
    ∷ call_queue_data 1 record { sequence = 0; count = 1; message = 0; timestamp = 0; source = moment 0; cell = 0; length = 0 } (65 ∷ 66 ∷ [])
    ∷ call_poll_data 0 ∷ call_send 5 (67 ∷ []) ∷ [])

last_lent : List Result → Lent
last_lent [] = lent
last_lent (r ∷ []) = r.lent
last_lent (r ∷ q ∷ rs) = last_lent (q ∷ rs)

-- The payload stands at the start of its cell and at byte 12 of the output, and every other byte is as it was. The send's row
-- is leg, sequence, no cell of the history, its source time and the time.
bytes_stay : (codes delivering ≡ 0 ∷ 0 ∷ 0 ∷ 0 ∷ []) × ((last_lent delivering).store ≡ 65 ∷ 66 ∷ replicate 2910 7)
    × ((last_lent delivering).output ≡ replicate 12 9 ++ (65 ∷ 66 ∷ replicate 1454 9))
    × ((last_lent delivering).list ≡ 1 ∷ 50 ∷ 4294967295 ∷ 5 ∷ 5 ∷ replicate 5495 8)
unfolding definitions leg lent after codes members_left delivering last_lent
bytes_stay = (refl, refl, refl, refl)
