-- A member as a row of words shows it (its layout is under "sizes" here and in rows.rt), and what each write to a part of the
-- row does to it.
use Rattle.std.specs.Prelude.{◌≡◌, List, [], ◌∷◌, ℕ, ◌+◌, ◌*◌, ◌%◌, length, get_or, set}
use Rattle.srt_group_model.specs.State.{Member, on_leg, on_membership}
use Rattle.srt_group_model.specs.Legs.{moment, on_link, on_sender, on_receiver, on_trip}
use Rattle.srt_group_model.specs.Validity.{max_queued}
use Rattle.srt_group_model.specs.declared.Event.{Event}
use Rattle.srt_group_model.specs.declared.Leg.{Leg}
use Rattle.srt_group_model.specs.declared.Link.{Link}
use Rattle.srt_group_model.specs.declared.Membership.{Membership}
use Rattle.srt_group_model.specs.declared.Receiver.{Receiver}
use Rattle.srt_group_model.specs.declared.Sender.{Sender}
use Rattle.srt_group_model.specs.declared.Trip.{Trip}
use Rattle.srt_connection_queue.specs.declared.rows.LinkPart.{LinkPart}
use Rattle.srt_connection_queue.specs.declared.rows.Ring.{Ring}
use Rattle.word_rows.specs.Tab.{tab}
use Rattle.word_rows.specs.Rows.{row_at}
use Rattle.srt_connection_queue.specs.Row.{put_row}

-- ---- sizes

-- the words of a part of a row
abbrev pub part_size : ℕ
part_size = 9

-- the parts of a row, in their order
abbrev pub membership_part : ℕ
membership_part = 0

-- the link and the round trip
abbrev pub link_part : ℕ
link_part = 1

abbrev pub sender_part : ℕ
sender_part = 2

-- the receiver, and the ring's start and length
abbrev pub receiver_part : ℕ
receiver_part = 3

-- Nine words for the fields that come next. No call reads them, so what they hold is free. A new field takes a word here: its
-- decoder reads this part, and `member_parts` gets one argument more. Row and table keep their lengths until it is full.
abbrev pub spare_part : ℕ
spare_part = 4

-- the first of the queue's events; the others follow it
abbrev pub first_event_part : ℕ
first_event_part = spare_part + 1

abbrev pub parts : ℕ
parts = first_event_part + max_queued

-- the words of a row
abbrev pub row_size : ℕ
row_size = parts * part_size

-- ---- nine words

abbrev pub word : List ℕ → ℕ → ℕ
word w i = get_or w i 0

unfoldable pub membership_of : List ℕ → Membership
membership_of w =
    record {
      id = word w 0;
      weight = word w 1;
      state = word w 2;
      admitted = word w 3;
      account = record { reserved = word w 4 };
      collision = record { expected = word w 5; actual = word w 6 };
    }

unfoldable pub membership_words : Membership → List ℕ
membership_words x =
    x.id ∷ x.weight ∷ x.state ∷ x.admitted ∷ x.account.reserved ∷ x.collision.expected ∷ x.collision.actual ∷ 0 ∷ 0 ∷ []

unfoldable pub link_part_of : List ℕ → LinkPart
link_part_of w =
    record {
      link = record { state = word w 0; peer = word w 1; limit = word w 2 };
      trip = record { srtt = word w 3; rttvar = word w 4; heard = moment (word w 5) };
    }

unfoldable pub link_part_words : LinkPart → List ℕ
link_part_words x =
    x.link.state ∷ x.link.peer ∷ x.link.limit ∷ x.trip.srtt ∷ x.trip.rttvar ∷ x.trip.heard.0 ∷ 0 ∷ 0 ∷ 0 ∷ []

unfoldable pub sender_of : List ℕ → Sender
sender_of w =
    record {
      started = word w 0;
      next = word w 1;
      flight = word w 2;
      window = word w 3;
      oldest = moment (word w 4);
      pace = moment (word w 5);
    }

unfoldable pub sender_words : Sender → List ℕ
sender_words x = x.started ∷ x.next ∷ x.flight ∷ x.window ∷ x.oldest.0 ∷ x.pace.0 ∷ 0 ∷ 0 ∷ 0 ∷ []

unfoldable pub receiver_of : List ℕ → Receiver
receiver_of w = record { first = word w 0; window = word w 1; latency = word w 2; reserved = word w 3; advanced = word w 4 }

unfoldable pub ring_of : List ℕ → Ring
ring_of w = record { start = word w 5; length = word w 6 }

-- a receiver over the words of the receiver's part, and a ring
unfoldable pub receiver_in : Receiver → List ℕ → List ℕ
receiver_in x w = set (set (set (set (set w 0 x.first) 1 x.window) 2 x.latency) 3 x.reserved) 4 x.advanced

unfoldable pub ring_in : Ring → List ℕ → List ℕ
ring_in x w = set (set w 5 x.start) 6 x.length

unfoldable pub event_of : List ℕ → Event
event_of w =
    record {
      kind = word w 0;
      reason = word w 1;
      content =
          record {
            sequence = word w 2;
            count = word w 3;
            message = word w 4;
            timestamp = word w 5;
            source = moment (word w 6);
            cell = word w 7;
            length = word w 8;
          };
    }

unfoldable pub event_words : Event → List ℕ
event_words x =
    x.kind ∷ x.reason ∷ x.content.sequence ∷ x.content.count ∷ x.content.message ∷ x.content.timestamp
    ∷ x.content.source.0 ∷ x.content.cell ∷ x.content.length ∷ []

-- ---- a row

abbrev pub part : List ℕ → ℕ → List ℕ
part r k = row_at part_size r k

-- the row with the words w in the place of part k
abbrev pub put_part : List ℕ → ℕ → List ℕ → List ℕ
put_part r k w = put_row part_size r k w

-- the events of the ring, by their place in it
unfoldable pub event_in : List ℕ → ℕ → Event
event_in r k = event_of (part r (first_event_part + k))

-- the queue, front first: the ring has max-queued places and wraps
unfoldable pub queue_of : Ring → (ℕ → Event) → List Event
queue_of ring event = tab ring.length (λ j. event ((ring.start + j) % max_queued))

abbrev pub leg_of : LinkPart → Sender → Receiver → Leg
leg_of x s r = record { link = x.link; sender = s; receiver = r; trip = x.trip }

abbrev pub member_from : Membership → Leg → List Event → Member
member_from x l q = record { membership = x; leg = l; queue = q }

unfoldable pub member_parts : Membership → LinkPart → Sender → Receiver → Ring → (ℕ → Event) → Member
member_parts m x s y ring event = member_from m (leg_of x s y) (queue_of ring event)

-- the member that a row shows
unfoldable pub member_of : List ℕ → Member
member_of r =
    member_parts (membership_of (part r membership_part)) (link_part_of (part r link_part)) (sender_of (part r sender_part)) (receiver_of (part r receiver_part))
    (ring_of (part r receiver_part)) (event_in r)

-- the row shows this member
pub record Kept (r : List ℕ) (m : Member) : Type 0 where
  pub long : length r ≡ row_size
  pub is : member_of r ≡ m

-- ---- one part is changed

abbrev pub with_membership : Membership → Member → Member
with_membership x = on_membership (λ y. x)

abbrev pub with_link_trip : Link → Trip → Member → Member
with_link_trip x t = on_leg (λ l. on_link (λ y. x) (on_trip (λ y. t) l))

abbrev pub with_sender : Sender → Member → Member
with_sender x = on_leg (on_sender (λ y. x))

abbrev pub with_receiver : Receiver → Member → Member
with_receiver x = on_leg (on_receiver (λ y. x))
