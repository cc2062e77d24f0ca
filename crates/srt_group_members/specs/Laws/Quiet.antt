-- What is proved of the definitions in specs/Quiet.antt: a refresh of a quiet group changes nothing.
use Rattle.std.specs.Prelude.{◌≡◌, Bool, ◌&&◌, ◌||◌, ◌⊎◌, ◌*◌, ℕ, fold, zero, suc, eqb, length, None, Option, Some}
use Rattle.std.proofs.Math.Path.{refl, ap, ap₂, sym}
use Rattle.std.specs.List.{list_all}
use Rattle.std.proofs.Common.{subst, ◌∙◌, arith, eqb-true, ne_eqb, zero-mul, suc-mul, take, drop, drop-drop}
use Rattle.std.specs.Simd.{first_chunks}
use Rattle.std.proofs.Math.Bool.{true, false, not}
use mathlib.Core.List.{List, [], ◌∷◌}
use Rattle.std.proofs.Math.Logic.{inl, inr}
use Rattle.std.proofs.lemmas.Bool.{eqb-false, not-true}
use Rattle.srt_group_model.specs.Tools.{if_true◌then◌else◌, if_some◌give◌otherwise◌, or_else, flagged, all, at_place, change, each, first_given}
use Rattle.srt_group_model.specs.State.{Member, is_backup, turned, pending_state, active_state, standby_state, unstable_state, broken_state, next_receive_sequence, next_send_sequence, with_peer, with_members}
use Rattle.srt_group_model.specs.Legs.{handshaking, connected, disconnected, is_connected, is_disconnected, can_send}
use Rattle.srt_group_model.specs.Members.{in_state, has_active_member, arrives, sequence_brought, group_brought, base_after, peer_after, admit_peer_group, turn_aligned, steps_from, at_each_place, settle, requalify, break_disconnected, promote_backup_member, promote_if_none, settle_members, requalify_members, align_member_sequence}
use Rattle.srt_group_model.specs.Run.{Run, on_state, on_members, set_base, admit_connected_peer_groups, refresh_pending_states, refresh_states}
use Rattle.srt_group_model.specs.Laws.Arrivals.{peer_after_none}
use Rattle.srt_group_model.specs.Laws.Reason.{and_left, and_right, or_cases}
use Rattle.srt_group_members.specs.Laws.Admission.{admitted_does_not_arrive, broken_does_not_arrive}
use Rattle.srt_connection_queue.specs.Rows.{member_of}
use Rattle.srt_connection_members.specs.Members.{members_in}
use Rattle.srt_group_members.specs.Quiet.{is_steady, is_quiet}

-- ---- all members are steady

both_first : (a b c : Bool) → ((a && b) && c) ≡ (a && (b && c))
both_first true b c = refl
both_first false b c = refl

pub steady_folded : (steady : Bool) (rows : List (List ℕ))
    → fold (λ so_far row. so_far && is_steady (member_of row)) steady rows ≡ (steady && all is_steady (members_in rows))
unfolding all
steady_folded true [] = refl
steady_folded false [] = refl
steady_folded steady (row ∷ rows) =
    steady_folded (steady && is_steady (member_of row)) rows ∙ both_first steady (is_steady (member_of row)) (all is_steady (members_in rows))

-- those of the first n rows and those behind them
steady_apart : (n : ℕ) (rows : List (List ℕ))
    → (all is_steady (members_in (take n rows)) && all is_steady (members_in (drop n rows))) ≡ all is_steady (members_in rows)
unfolding all
steady_apart zero rows = refl
steady_apart (suc n) [] = refl
steady_apart (suc n) (row ∷ rows) =
    both_first (is_steady (member_of row)) (all is_steady (members_in (take n rows))) (all is_steady (members_in (drop n rows)))
    ∙ ap (λ (rest : Bool). is_steady (member_of row) && rest) (steady_apart n rows)

-- those of k pieces of n rows and those behind them
pub steady_in_pieces : (n k : ℕ) (rows : List (List ℕ))
    → (list_all (λ piece. all is_steady (members_in piece)) (first_chunks n k rows) && all is_steady (members_in (drop (k * n) rows)))
    ≡ all is_steady (members_in rows)
steady_in_pieces n zero rows = ap (λ (m : ℕ). all is_steady (members_in (drop m rows))) (zero-mul n)
steady_in_pieces n (suc k) rows =
    both_first (all is_steady (members_in (take n rows))) (list_all (λ piece. all is_steady (members_in piece)) (first_chunks n k (drop n rows)))
    (all is_steady (members_in (drop (suc k * n) rows)))
    ∙ ap (λ (rest : Bool). all is_steady (members_in (take n rows)) && rest) (ap
    (λ behind. list_all (λ piece. all is_steady (members_in piece)) (first_chunks n k (drop n rows)) && all is_steady (members_in behind)) further
    ∙ steady_in_pieces n k (drop n rows))
    ∙ steady_apart n rows
  where
    further : drop (suc k * n) rows ≡ drop (k * n) (drop n rows)
    further = ap (λ (m : ℕ). drop m rows) (omega (arith, suc-mul k n)) ∙ sym (drop-drop (k * n) n rows)

-- what is asked of the pieces, and then of the rows behind them
module _ (n k : ℕ) (rows : List (List ℕ)) {pieces : List (List (List ℕ))} {behind : List (List ℕ)} {front : Bool}
    (cut : pieces ≡ first_chunks n k rows) (left : behind ≡ drop (k * n) rows)
    (asked : front ≡ list_all (λ piece. all is_steady (members_in piece)) pieces)
  where
    both_parts : (front && all is_steady (members_in behind)) ≡ all is_steady (members_in rows)
    both_parts =
        ap₂ (λ (a b : Bool). a && b) (asked ∙ ap (list_all (λ piece. all is_steady (members_in piece))) cut)
        (ap (λ some. all is_steady (members_in some)) left)
        ∙ steady_in_pieces n k rows

    pub steady_behind : {back : Bool} → front ≡ true → back ≡ all is_steady (members_in behind) → back ≡ all is_steady (members_in rows)
    steady_behind e f = f ∙ ap (λ (a : Bool). a && all is_steady (members_in behind)) (sym e) ∙ both_parts

    pub one_piece_moves : front ≡ false → front ≡ all is_steady (members_in rows)
    one_piece_moves e = e ∙ ap (λ (a : Bool). a && all is_steady (members_in behind)) (sym e) ∙ both_parts

-- ---- a steady member

-- why it is steady
data Steady (m : Member) : Type 0 where
  is_broken : m.membership.state ≡ broken_state → Steady m
  has_not_connected : m.leg.link.state ≡ handshaking → Steady m
  takes_part : m.leg.link.state ≡ connected → (m.membership.admitted ≡ 0 → ⊥)
      → (m.membership.state ≡ active_state) ⊎ (m.membership.state ≡ standby_state) → Steady m

and_no : (a : Bool) → (a && false) ≡ false
and_no true = refl
and_no false = refl

module _ (m : Member) where
  reason : is_steady m ≡ true → Steady m
  unfolding is_steady
  reason e =
      or_cases _ _ e (λ b. is_broken (eqb-true _ _ b))
      (λ f.
      or_cases _ _ f (λ h. has_not_connected (eqb-true _ _ h))
      (λ p.
      let member = not (eqb m.membership.admitted 0) in
      let works = in_state active_state m || in_state standby_state m in
      let rest = and_right (is_connected m.leg) (member && works) p in
      takes_part (eqb-true _ _ (and_left (is_connected m.leg) (member && works) p))
      (eqb-false _ _ (not-true _ (and_left member works rest)))
      (or_cases _ _ (and_right member works rest) (λ a. inl (eqb-true _ _ a)) (λ s. inr (eqb-true _ _ s)))))

  stays_out : Steady m → arrives m ≡ false
  unfolding arrives
  stays_out (is_broken e) = sym (broken_does_not_arrive m refl e)
  stays_out (has_not_connected e) =
      rw (ne_eqb m.leg.link.state connected (λ q. omega arith), and_no (not (in_state broken_state m)), and_no (eqb m.membership.admitted 0))
  stays_out (takes_part c a s) = sym (admitted_does_not_arrive m refl a)

  no_state : (n : ℕ) → Steady m → (broken_state ≡ n → ⊥) → (active_state ≡ n → ⊥) → (standby_state ≡ n → ⊥)
      → (in_state n m && is_connected m.leg) ≡ false
  no_state n (is_broken e) b a s = rw (ne_eqb m.membership.state n (λ q. b (sym e ∙ q)))
  no_state n (has_not_connected e) b a s =
      rw (ne_eqb m.leg.link.state connected (λ q. omega arith), and_no (in_state n m))
  no_state n (takes_part c x (inl e)) b a s = rw (ne_eqb m.membership.state n (λ q. a (sym e ∙ q)))
  no_state n (takes_part c x (inr e)) b a s = rw (ne_eqb m.membership.state n (λ q. s (sym e ∙ q)))

  stays_settled : Steady m → (in_state pending_state m && is_connected m.leg) ≡ false
  stays_settled s = no_state pending_state s (λ e. omega arith) (λ e. omega arith) (λ e. omega arith)

  stays_qualified : Steady m → (in_state unstable_state m && (is_connected m.leg && can_send m.leg)) ≡ false
  stays_qualified s =
      go (in_state unstable_state m) (is_connected m.leg)
      (no_state unstable_state s (λ e. omega arith) (λ e. omega arith) (λ e. omega arith))
    where
      go : (a b : Bool) → (a && b) ≡ false → (a && (b && can_send m.leg)) ≡ false
      go true true e = cc e
      go true false e = refl
      go false b e = refl

  stays_whole : Steady m → break_disconnected m ≡ m
  unfolding break_disconnected if_true◌then◌else◌
  stays_whole (is_broken e) = go (is_disconnected m.leg)
    where
      go : (b : Bool) → (if_true b then turned broken_state m else m) ≡ m
      go true = sym (ap (λ (n : ℕ). turned n m) e)
      go false = refl
  stays_whole (has_not_connected e) = rw (ne_eqb m.leg.link.state disconnected (λ q. omega arith))
  stays_whole (takes_part c a s) = rw (ne_eqb m.leg.link.state disconnected (λ q. omega arith))

  stays_as_admitted : (peer : ℕ) → Steady m → admit_peer_group peer m ≡ m
  unfolding admit_peer_group if_true◌then◌else◌
  stays_as_admitted peer s = rw (stays_out s)

-- ---- members that are all steady

module _ (m : Member) (ms : List Member) (e : all is_steady (m ∷ ms) ≡ true) where
  first_steady : Steady m
  unfolding all
  first_steady = reason m (and_left (is_steady m) (all is_steady ms) e)

  others_steady : all is_steady ms ≡ true
  unfolding all
  others_steady = and_right (is_steady m) (all is_steady ms) e

module _ {A : Type 0} (f : Member → Option A) (nothing : (m : Member) → Steady m → f m ≡ None) where
  none_given : (ms : List Member) → all is_steady ms ≡ true → first_given f ms ≡ None
  unfolding first_given or_else
  none_given [] e = refl
  none_given (m ∷ ms) e = rw (nothing m (first_steady m ms e)) (none_given ms (others_steady m ms e))

each_stays : (f : Member → Member) → ((m : Member) → Steady m → f m ≡ m) → (ms : List Member) → all is_steady ms ≡ true → each f ms ≡ ms
unfolding each
each_stays f same [] e = refl
each_stays f same (m ∷ ms) e =
    ap₂ (λ (x : Member) (xs : List Member). x ∷ xs) (same m (first_steady m ms e)) (each_stays f same ms (others_steady m ms e))

steady_there : (i : ℕ) (ms : List Member) (m : Member) → all is_steady ms ≡ true → at_place i ms ≡ Some m → Steady m
unfolding at_place
steady_there i [] m e there = let different : ◌≡◌ {A = ℕ} 0 1 = cc in absurd (omega arith)
steady_there zero (x ∷ xs) m e there = let same : x ≡ m = cc in subst Steady same (first_steady x xs e)
steady_there (suc i) (x ∷ xs) m e there = steady_there i xs m (others_steady x xs e) there

module _ (ms : List Member) (steady : all is_steady ms ≡ true) where
  none_turns : (test : Member → Bool) (state : List Member → ℕ) (number : Option ℕ) → ((m : Member) → Steady m → test m ≡ false)
      → (i : ℕ) → turn_aligned test state number i ms ≡ ms
  unfolding turn_aligned if_true◌then◌else◌ if_some◌give◌otherwise◌
  none_turns test state number fails i = go (at_place i ms) refl
    where
      go : (o : Option Member) → at_place i ms ≡ o
          → (if_some o
          give
          (λ m.
          if_true test m
          then (if_some align_member_sequence number i ms give (λ aligned. change i (turned (state aligned)) aligned) otherwise ms)
          else ms)
          otherwise ms)
          ≡ ms
      go None e = refl
      go (Some m) e = rw (fails m (steady_there i ms m steady e))

steps_stay : (step : ℕ → List Member → List Member) (ms : List Member) → ((i : ℕ) → step i ms ≡ ms) → (k i : ℕ) → steps_from step k i ms ≡ ms
unfolding steps_from
steps_stay step ms same zero i = refl
steps_stay step ms same (suc k) i = ap (steps_from step k (suc i)) (same i) ∙ steps_stay step ms same k (suc i)

none_promoted : (mode : ℕ) (ms : List Member) → (not (is_backup mode) || has_active_member ms) ≡ true → promote_if_none mode ms ≡ ms
unfolding promote_if_none if_true◌then◌else◌
none_promoted mode ms e = go (is_backup mode) (has_active_member ms) e
  where
    go : (a b : Bool) → (not a || b) ≡ true → (if_true a && not b then promote_backup_member ms else ms) ≡ ms
    go true true e = refl
    go true false e = cc e
    go false b e = refl

-- ---- the test

module _ (mode : ℕ) (ms : List Member) {steady : Bool} (is : steady ≡ all is_steady ms) where
  pub one_moves : steady ≡ false → false ≡ is_quiet mode ms
  unfolding is_quiet
  one_moves e = sym (ap (λ (a : Bool). a && (not (is_backup mode) || has_active_member ms)) (sym is ∙ e))

  module _ {backup : Bool} (said : backup ≡ is_backup mode) where
    both : steady ≡ true → (b : Bool) → backup ≡ b → is_quiet mode ms ≡ (not b || has_active_member ms)
    unfolding is_quiet
    both e b f = ap₂ (λ (a b : Bool). a && (not b || has_active_member ms)) (sym is ∙ e) (sym said ∙ f)

    pub quiet_in_broadcast : steady ≡ true → backup ≡ false → true ≡ is_quiet mode ms
    quiet_in_broadcast e f = sym (both e false f)

    pub quiet_in_backup : {active : Bool} → steady ≡ true → backup ≡ true → active ≡ has_active_member ms → active ≡ is_quiet mode ms
    quiet_in_backup e f a = a ∙ sym (both e true f)

-- ---- the refresh of a quiet group

module _ (mode : ℕ) (ms : List Member) (quiet : is_quiet mode ms ≡ true) where
  steady : all is_steady ms ≡ true
  unfolding is_quiet
  steady = and_left _ _ quiet

  has_carrier : (not (is_backup mode) || has_active_member ms) ≡ true
  unfolding is_quiet
  has_carrier = and_right (all is_steady ms) _ quiet

  settled_stays : (number : Option ℕ) → settle_members mode number ms ≡ ms
  unfolding settle_members settle
  settled_stays number =
      ap (promote_if_none mode)
      (steps_stay (settle mode number) ms (none_turns ms steady _ _ number stays_settled) (length ms) 0)
      ∙ none_promoted mode ms has_carrier

  requalified_stays : (number : Option ℕ) → requalify_members mode number ms ≡ ms
  unfolding requalify_members requalify
  requalified_stays number =
      ap (λ (l : List Member). promote_if_none mode (at_each_place (requalify mode number) l)) (each_stays break_disconnected stays_whole ms steady)
      ∙ ap (promote_if_none mode)
      (steps_stay (requalify mode number) ms (none_turns ms steady _ _ number stays_qualified) (length ms) 0)
      ∙ none_promoted mode ms has_carrier

  base_stays : base_after None ms ≡ None
  unfolding base_after or_else sequence_brought if_true◌then◌else◌
  base_stays = none_given sequence_brought (λ m s. rw (stays_out m s)) ms steady

  peer_stays : (peer : ℕ) → peer_after peer ms ≡ peer
  unfolding peer_after if_some◌give◌otherwise◌ group_brought flagged first_given
  peer_stays peer =
      rw (none_given group_brought (λ m s. rw (stays_out m s)) ms steady) (peer_after_none peer)

module _ (r : Run) (quiet : is_quiet r.state.making.mode r.state.members ≡ true) where
  no_base_set : set_base None r ≡ r
  unfolding set_base if_some◌give◌otherwise◌
  no_base_set = go (next_receive_sequence r.state.receive)
    where
      go : (o : Option ℕ) → (if_some o give (λ b. r) otherwise r) ≡ r
      go None = refl
      go (Some b) = refl

  none_admitted : admit_connected_peer_groups r ≡ r
  unfolding admit_connected_peer_groups
  none_admitted =
      let mode = r.state.making.mode in
      let ms = r.state.members in
      let peer = peer_after r.state.peer ms in
      let bound = peer_stays mode ms quiet r.state.peer in
      let same = each_stays (admit_peer_group peer) (λ m. stays_as_admitted m peer) ms (steady mode ms quiet) in
      let base = ap (λ (b : Option ℕ). set_base b r) (base_stays mode ms quiet) ∙ no_base_set in
      λ i. on_state (λ s. with_peer (bound i) (with_members (same i) s)) (base i)

  -- the law behind every refresh that is left out
  pub refresh_pending_stays : refresh_pending_states r ≡ r
  unfolding refresh_pending_states
  refresh_pending_stays =
      ap (on_members (λ s. settle_members s.making.mode (next_send_sequence s.send))) none_admitted
      ∙ ap (λ (ms : List Member). on_state (with_members ms) r)
      (settled_stays r.state.making.mode r.state.members quiet (next_send_sequence r.state.send))

  pub refresh_stays : refresh_states r ≡ r
  unfolding refresh_states
  refresh_stays =
      ap (on_members (λ s. requalify_members s.making.mode (next_send_sequence s.send))) refresh_pending_stays
      ∙ ap (λ (ms : List Member). on_state (with_members ms) r)
      (requalified_stays r.state.making.mode r.state.members quiet (next_send_sequence r.state.send))
