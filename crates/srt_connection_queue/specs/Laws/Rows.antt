-- What is proved of the definitions in specs/Rows.antt, with what the proofs need.
use Rattle.std.specs.Prelude.{◌≡◌, ℕ, ◌+◌, ◌*◌, ◌%◌, ◌<◌, set}
use Rattle.std.proofs.Math.Path.{refl, ap, sym}
use Rattle.std.proofs.Common.{subst, ◌∙◌, arith}
use mathlib.Core.List.{List, [], ◌∷◌}
use Rattle.std.proofs.Math.ListN.{length, length-set}
use Rattle.srt_group_model.specs.State.{with_leg, on_leg, on_membership, with_account}
use Rattle.srt_group_model.specs.Legs.{with_receiver_reserved, with_reservation, with_advanced, advance_receive_sequence}
use Rattle.srt_group_model.specs.declared.Account.{Account}
use Rattle.srt_group_model.specs.Validity.{max_queued}
use Rattle.srt_group_model.specs.declared.Event.{Event}
use Rattle.srt_group_model.specs.declared.Leg.{Leg}
use Rattle.srt_group_model.specs.declared.Link.{Link}
use Rattle.srt_group_model.specs.declared.Membership.{Membership}
use Rattle.srt_group_model.specs.declared.Receiver.{Receiver}
use Rattle.srt_group_model.specs.declared.Sender.{Sender}
use Rattle.srt_group_model.specs.declared.Trip.{Trip}
use Rattle.srt_connection_queue.specs.declared.rows.LinkPart.{LinkPart}
use Rattle.srt_connection_queue.specs.declared.rows.Ring.{Ring}
use Rattle.word_rows.specs.Laws.Tab.{tab_same}
use Rattle.word_rows.specs.Laws.Rows.{row_length, row_word}
use Rattle.srt_connection_queue.specs.Laws.Row.{row_put, row_put_other, put_length, word_set, word_set_other}
use Rattle.srt_connection_queue.specs.Rows.{part_size, membership_part, link_part, sender_part, receiver_part, first_event_part, parts, row_size, word, membership_of, membership_words, link_part_of, link_part_words, sender_of, sender_words, receiver_of, ring_of, receiver_in, ring_in, event_of, part, put_part, event_in, queue_of, leg_of, member_parts, member_of, Kept, with_membership, with_link_trip, with_sender, with_receiver, member_from}

-- ---- laws of nine words

nine_words : (w : List ℕ) → length w ≡ part_size
    → w ≡ word w 0 ∷ word w 1 ∷ word w 2 ∷ word w 3 ∷ word w 4 ∷ word w 5 ∷ word w 6 ∷ word w 7 ∷ word w 8 ∷ []
nine_words (x0 ∷ x1 ∷ x2 ∷ x3 ∷ x4 ∷ x5 ∷ x6 ∷ x7 ∷ x8 ∷ []) n = refl
nine_words (x0 ∷ x1 ∷ x2 ∷ x3 ∷ x4 ∷ x5 ∷ x6 ∷ x7 ∷ x8 ∷ x9 ∷ xs) n = absurd (omega arith)
nine_words [] n = absurd (omega arith)
nine_words (x0 ∷ []) n = absurd (omega arith)
nine_words (x0 ∷ x1 ∷ []) n = absurd (omega arith)
nine_words (x0 ∷ x1 ∷ x2 ∷ []) n = absurd (omega arith)
nine_words (x0 ∷ x1 ∷ x2 ∷ x3 ∷ []) n = absurd (omega arith)
nine_words (x0 ∷ x1 ∷ x2 ∷ x3 ∷ x4 ∷ []) n = absurd (omega arith)
nine_words (x0 ∷ x1 ∷ x2 ∷ x3 ∷ x4 ∷ x5 ∷ []) n = absurd (omega arith)
nine_words (x0 ∷ x1 ∷ x2 ∷ x3 ∷ x4 ∷ x5 ∷ x6 ∷ []) n = absurd (omega arith)
nine_words (x0 ∷ x1 ∷ x2 ∷ x3 ∷ x4 ∷ x5 ∷ x6 ∷ x7 ∷ []) n = absurd (omega arith)

-- what holds of nine words written out holds of a list of that length
of_nine : (P : List ℕ → Type 0) (w : List ℕ) → length w ≡ part_size → ((a b c d e f g h i : ℕ) → P (a ∷ b ∷ c ∷ d ∷ e ∷ f ∷ g ∷ h ∷ i ∷ [])) → P w
of_nine P w n p =
    subst P (sym (nine_words w n)) (p (word w 0) (word w 1) (word w 2) (word w 3) (word w 4) (word w 5) (word w 6) (word w 7) (word w 8))

-- a receiver put into its part leaves the ring, and a ring leaves the receiver
module _ (w : List ℕ) (n : length w ≡ part_size) where
  receiver_in_long : (x : Receiver) → length (receiver_in x w) ≡ part_size
  unfolding receiver_in
  receiver_in_long x = of_nine (λ (v : List ℕ). length (receiver_in x v) ≡ part_size) w n (λ a b c d e f g h i. refl)

  receiver_in_of : (x : Receiver) → receiver_of (receiver_in x w) ≡ x
  unfolding receiver_in receiver_of
  receiver_in_of x = of_nine (λ (v : List ℕ). receiver_of (receiver_in x v) ≡ x) w n (λ a b c d e f g h i. refl)

  receiver_in_ring : (x : Receiver) → ring_of (receiver_in x w) ≡ ring_of w
  unfolding receiver_in ring_of
  receiver_in_ring x = of_nine (λ (v : List ℕ). ring_of (receiver_in x v) ≡ ring_of v) w n (λ a b c d e f g h i. refl)

  ring_in_long : (x : Ring) → length (ring_in x w) ≡ part_size
  unfolding ring_in
  ring_in_long x = of_nine (λ (v : List ℕ). length (ring_in x v) ≡ part_size) w n (λ a b c d e f g h i. refl)

  ring_in_of : (x : Ring) → ring_of (ring_in x w) ≡ x
  unfolding ring_in ring_of
  ring_in_of x = of_nine (λ (v : List ℕ). ring_of (ring_in x v) ≡ x) w n (λ a b c d e f g h i. refl)

  ring_in_receiver : (x : Ring) → receiver_of (ring_in x w) ≡ receiver_of w
  unfolding ring_in receiver_of
  ring_in_receiver x = of_nine (λ (v : List ℕ). receiver_of (ring_in x v) ≡ receiver_of v) w n (λ a b c d e f g h i. refl)

-- ---- laws

queue_same : (ring : Ring) (f g : ℕ → Event) → ((k : ℕ) → g k ≡ f k) → queue_of ring g ≡ queue_of ring f
unfolding queue_of
queue_same ring f g same =
    tab_same ring.length (λ j. f ((ring.start + j) % max_queued)) (λ j. g ((ring.start + j) % max_queued)) (λ j h. same ((ring.start + j) % max_queued))

-- a member, part by part
parts_same : {m n : Membership} {x y : LinkPart} {s t : Sender} {u v : Receiver} {p q : Ring} (f g : ℕ → Event) → n ≡ m → y ≡ x → t ≡ s
    → v ≡ u → q ≡ p → ((k : ℕ) → g k ≡ f k) → member_parts n y t v q g ≡ member_parts m x s u p f
unfolding member_parts
parts_same {p = p} f g a b c d h e =
    λ i. member_from (a i) (leg_of (b i) (c i) (d i)) ((ap (λ (ring : Ring). queue_of ring g) h ∙ queue_same p f g e) i)

-- the words w in the place of part k
module _ (r w : List ℕ) (k : ℕ) (long : length r ≡ row_size) (full : length w ≡ part_size) (there : k < parts) where
  pub part_long : length (put_part r k w) ≡ row_size
  part_long = put_length part_size r w k (omega arith) full ∙ long

  pub part_here : part (put_part r k w) k ≡ w
  part_here = row_put part_size r w k (omega arith) full

  pub part_other : (j : ℕ) → (j ≡ k → ⊥) → part (put_part r k w) j ≡ part r j
  part_other j other = row_put_other part_size r w k (omega arith) full j other

  pub events_other : k < first_event_part → (j : ℕ) → event_in (put_part r k w) j ≡ event_in r j
  unfolding event_in
  events_other low j = ap event_of (part_other (first_event_part + j) (λ e. omega arith))

module _ (r : List ℕ) (long : length r ≡ row_size) where
  pub membership_put : (x : Membership) → Kept (put_part r membership_part (membership_words x)) (with_membership x (member_of r))
  unfolding member_of member_parts membership_words membership_of
  membership_put x =
      let w = membership_words x in
      let other = part_other r w membership_part long refl (omega arith) in
      record {
        long = part_long r w membership_part long refl (omega arith);
        is =
            parts_same {m = x} (event_in r) (event_in (put_part r membership_part w)) (ap membership_of (part_here r w membership_part long refl (omega arith)))
            (ap link_part_of (other link_part (λ e. omega arith)))
            (ap sender_of (other sender_part (λ e. omega arith)))
            (ap receiver_of (other receiver_part (λ e. omega arith)))
            (ap ring_of (other receiver_part (λ e. omega arith)))
            (events_other r w membership_part long refl (omega arith) (omega arith));
      }

  pub link_trip_put : (x : Link) (t : Trip)
      → Kept (put_part r link_part (link_part_words record { link = x; trip = t })) (with_link_trip x t (member_of r))
  unfolding member_of member_parts link_part_words link_part_of
  link_trip_put x t =
      let w = link_part_words record { link = x; trip = t } in
      let other = part_other r w link_part long refl (omega arith) in
      record {
        long = part_long r w link_part long refl (omega arith);
        is =
            parts_same {x = record { link = x; trip = t }} (event_in r) (event_in (put_part r link_part w))
            (ap membership_of (other membership_part (λ e. omega arith)))
            (ap link_part_of (part_here r w link_part long refl (omega arith)))
            (ap sender_of (other sender_part (λ e. omega arith)))
            (ap receiver_of (other receiver_part (λ e. omega arith)))
            (ap ring_of (other receiver_part (λ e. omega arith)))
            (events_other r w link_part long refl (omega arith) (omega arith));
      }

  pub sender_put : (x : Sender) → Kept (put_part r sender_part (sender_words x)) (with_sender x (member_of r))
  unfolding member_of member_parts sender_words sender_of
  sender_put x =
      let w = sender_words x in
      let other = part_other r w sender_part long refl (omega arith) in
      record {
        long = part_long r w sender_part long refl (omega arith);
        is =
            parts_same {s = x} (event_in r) (event_in (put_part r sender_part w))
            (ap membership_of (other membership_part (λ e. omega arith)))
            (ap link_part_of (other link_part (λ e. omega arith)))
            (ap sender_of (part_here r w sender_part long refl (omega arith)))
            (ap receiver_of (other receiver_part (λ e. omega arith)))
            (ap ring_of (other receiver_part (λ e. omega arith)))
            (events_other r w sender_part long refl (omega arith) (omega arith));
      }

  receiver_part_long : length (part r receiver_part) ≡ part_size
  receiver_part_long = row_length part_size r receiver_part (omega arith)

  pub receiver_put : (x : Receiver) → Kept (put_part r receiver_part (receiver_in x (part r receiver_part))) (with_receiver x (member_of r))
  unfolding member_of member_parts
  receiver_put x =
      let w = receiver_in x (part r receiver_part) in
      let full = receiver_in_long (part r receiver_part) receiver_part_long x in
      let here = part_here r w receiver_part long full (omega arith) in
      let other = part_other r w receiver_part long full (omega arith) in
      record {
        long = part_long r w receiver_part long full (omega arith);
        is =
            parts_same {u = x} (event_in r) (event_in (put_part r receiver_part w))
            (ap membership_of (other membership_part (λ e. omega arith)))
            (ap link_part_of (other link_part (λ e. omega arith)))
            (ap sender_of (other sender_part (λ e. omega arith)))
            (ap receiver_of here ∙ receiver_in_of (part r receiver_part) receiver_part_long x)
            (ap ring_of here ∙ receiver_in_ring (part r receiver_part) receiver_part_long x)
            (events_other r w receiver_part long full (omega arith) (omega arith));
      }

  pub ring_put : (ring : Ring)
      → Kept (put_part r receiver_part (ring_in ring (part r receiver_part)))
      (member_parts (membership_of (part r membership_part)) (link_part_of (part r link_part)) (sender_of (part r sender_part)) (receiver_of (part r receiver_part)) ring (event_in r))
  unfolding member_of
  ring_put ring =
      let w = ring_in ring (part r receiver_part) in
      let full = ring_in_long (part r receiver_part) receiver_part_long ring in
      let here = part_here r w receiver_part long full (omega arith) in
      let other = part_other r w receiver_part long full (omega arith) in
      record {
        long = part_long r w receiver_part long full (omega arith);
        is =
            parts_same {p = ring} (event_in r) (event_in (put_part r receiver_part w))
            (ap membership_of (other membership_part (λ e. omega arith)))
            (ap link_part_of (other link_part (λ e. omega arith)))
            (ap sender_of (other sender_part (λ e. omega arith)))
            (ap receiver_of here ∙ ring_in_receiver (part r receiver_part) receiver_part_long ring)
            (ap ring_of here ∙ ring_in_of (part r receiver_part) receiver_part_long ring)
            (events_other r w receiver_part long full (omega arith) (omega arith));
      }

-- ---- what is read from a row

module _ (r : List ℕ) where
  pub membership_read : membership_of (part r membership_part) ≡ (member_of r).membership
  unfolding member_of member_parts
  membership_read = refl

  pub sender_read : sender_of (part r sender_part) ≡ (member_of r).leg.sender
  unfolding member_of member_parts
  sender_read = refl

  pub receiver_read : receiver_of (part r receiver_part) ≡ (member_of r).leg.receiver
  unfolding member_of member_parts
  receiver_read = refl

  pub leg_read : (x : LinkPart) (s : Sender) (y : Receiver) → x ≡ link_part_of (part r link_part) → s ≡ (member_of r).leg.sender
      → y ≡ (member_of r).leg.receiver → leg_of x s y ≡ (member_of r).leg
  unfolding member_of member_parts
  leg_read x s y a b c = λ i. leg_of (a i) (b i) (c i)

-- the leg's three parts, one after the other
pub leg_put : (r₀ r₁ r₂ r₃ : List ℕ) (l : Leg) → Kept r₁ (with_link_trip l.link l.trip (member_of r₀))
    → Kept r₂ (with_sender l.sender (member_of r₁)) → Kept r₃ (with_receiver l.receiver (member_of r₂))
    → Kept r₃ (with_leg l (member_of r₀))
leg_put r₀ r₁ r₂ r₃ l a b c =
    record {
      long = c.long;
      is =
          c.is ∙ ap (with_receiver l.receiver) (b.is ∙ ap (with_sender l.sender) a.is);
    }

-- ---- one word of a row

module _ (r : List ℕ) where
  pub id_word : word r 0 ≡ (member_of r).membership.id
  unfolding member_of member_parts membership_of
  id_word = sym (row_word part_size r membership_part 0 (omega arith))

  pub state_word : word r 2 ≡ (member_of r).membership.state
  unfolding member_of member_parts membership_of
  state_word = sym (row_word part_size r membership_part 2 (omega arith))

  pub admitted_word : word r 3 ≡ (member_of r).membership.admitted
  unfolding member_of member_parts membership_of
  admitted_word = sym (row_word part_size r membership_part 3 (omega arith))

  pub account_word : word r 4 ≡ (member_of r).membership.account.reserved
  unfolding member_of member_parts membership_of
  account_word = sym (row_word part_size r membership_part 4 (omega arith))

  pub link_state_word : word r 9 ≡ (member_of r).leg.link.state
  unfolding member_of member_parts link_part_of
  link_state_word = sym (row_word part_size r link_part 0 (omega arith))

  pub reserved_word : word r 30 ≡ (member_of r).leg.receiver.reserved
  unfolding member_of member_parts receiver_of
  reserved_word = sym (row_word part_size r receiver_part 3 (omega arith))

  events_kept : (k w v : ℕ) → w < part_size → k < first_event_part → (j : ℕ) → event_in (set r (k * part_size + w) v) j ≡ event_in r j
  unfolding event_in
  events_kept k w v within low j = ap event_of (word_set_other part_size r k w v within (first_event_part + j) (λ e. omega arith))

module _ (r : List ℕ) (long : length r ≡ row_size) where
  pub account_put : (a : Account) → Kept (set r 4 a.reserved) (on_membership (with_account a) (member_of r))
  unfolding member_of member_parts membership_of
  account_put a =
      let other = word_set_other part_size r membership_part 4 a.reserved (omega arith) in
      record {
        long = length-set r 4 a.reserved ∙ long;
        is =
            parts_same {m = with_account a (membership_of (part r membership_part))} (event_in r) (event_in (set r 4 a.reserved))
            (ap membership_of (word_set part_size r membership_part 4 a.reserved (omega arith)) ∙ here)
            (ap link_part_of (other link_part (λ e. omega arith)))
            (ap sender_of (other sender_part (λ e. omega arith)))
            (ap receiver_of (other receiver_part (λ e. omega arith)))
            (ap ring_of (other receiver_part (λ e. omega arith)))
            (events_kept r membership_part 4 a.reserved (omega arith) (omega arith));
      }
    where
      here : membership_of (set (part r membership_part) 4 a.reserved) ≡ with_account a (membership_of (part r membership_part))
      here =
          of_nine (λ (w : List ℕ). membership_of (set w 4 a.reserved) ≡ with_account a (membership_of w)) (part r membership_part)
          (row_length part_size r membership_part (omega arith)) (λ a b c d e f g h i. refl)

  -- a word of the receiver's part that is no word of the ring
  receiver_word_put : (k v : ℕ) (x : Receiver) → k < part_size → receiver_of (set (part r receiver_part) k v) ≡ x
      → ring_of (set (part r receiver_part) k v) ≡ ring_of (part r receiver_part)
      → Kept (set r (receiver_part * part_size + k) v) (with_receiver x (member_of r))
  unfolding member_of member_parts
  receiver_word_put k v x within is ring =
      let here = word_set part_size r receiver_part k v within in
      let other = word_set_other part_size r receiver_part k v within in
      record {
        long = length-set r (receiver_part * part_size + k) v ∙ long;
        is =
            parts_same {u = x} (event_in r) (event_in (set r (receiver_part * part_size + k) v))
            (ap membership_of (other membership_part (λ e. omega arith)))
            (ap link_part_of (other link_part (λ e. omega arith)))
            (ap sender_of (other sender_part (λ e. omega arith)))
            (ap receiver_of here ∙ is)
            (ap ring_of here ∙ ring)
            (events_kept r receiver_part k v within (omega arith));
      }

  pub reservation_put : (n : ℕ) → Kept (set r 30 n) (on_leg (with_reservation n) (member_of r))
  unfolding member_of member_parts receiver_of ring_of
  reservation_put n =
      receiver_word_put 3 n (with_receiver_reserved n (receiver_of (part r receiver_part))) (omega arith)
      (of_nine (λ (w : List ℕ). receiver_of (set w 3 n) ≡ with_receiver_reserved n (receiver_of w)) (part r receiver_part)
      (receiver_part_long r long) (λ a b c d e f g h i. refl))
      (of_nine (λ (w : List ℕ). ring_of (set w 3 n) ≡ ring_of w) (part r receiver_part) (receiver_part_long r long) (λ a b c d e f g h i. refl))

  pub advanced_put : (n : ℕ) → Kept (set r 31 n) (on_leg (advance_receive_sequence n) (member_of r))
  unfolding member_of member_parts receiver_of ring_of
  advanced_put n =
      receiver_word_put 4 n (with_advanced n (receiver_of (part r receiver_part))) (omega arith)
      (of_nine (λ (w : List ℕ). receiver_of (set w 4 n) ≡ with_advanced n (receiver_of w)) (part r receiver_part)
      (receiver_part_long r long) (λ a b c d e f g h i. refl))
      (of_nine (λ (w : List ℕ). ring_of (set w 4 n) ≡ ring_of w) (part r receiver_part) (receiver_part_long r long) (λ a b c d e f g h i. refl))
