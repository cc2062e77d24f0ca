-- What is proved of the definitions in specs/Addition.antt, with what the proofs need.
use Rattle.std.specs.Prelude.{◌≡◌, Bool, true, false, ℕ, ◌+◌, ◌*◌, ◌≤◌, ◌<◌, eqb, length, Err, None, Ok, Option, Some, is_some}
use Rattle.std.proofs.Math.Path.{refl, ap, sym, subst}
use Rattle.std.proofs.Common.{◌∙◌, add-one, arith, eq-eqb, ne_eqb}
use mathlib.Core.List.{List, [], ◌∷◌, ◌++◌}
use Rattle.srt_protocol.specs.declared.error.Error.TheVariants.{AlignmentFailed}
use Rattle.srt_group_model.specs.Tools.{if_true◌then◌else◌, if_some◌give◌otherwise◌, is_set, flagged}
use Rattle.srt_group_model.specs.Laws.Reason.{when_true, when_false}
use Rattle.srt_group_model.specs.State.{Member, State, next_send_sequence, with_members, with_peer}
use Rattle.srt_group_model.specs.Core.{with_peer_group, with_member_count}
use Rattle.srt_group_model.specs.Legs.{handed}
use Rattle.srt_group_model.specs.Members.{base_after, peer_after, admit_peer_group, align_member_sequence}
use Rattle.srt_group_model.specs.Validity.{max_members}
use Rattle.srt_group_model.specs.Run.{start, set_base}
use Rattle.srt_group_model.specs.Guards.{no_answer, Step}
use Rattle.srt_group_model.specs.Calls.{state_at_addition, new_member, add_body}
use Rattle.srt_group_model.specs.declared.Core.{Core}
use Rattle.srt_group_model.specs.declared.Leg.{Leg}
use Rattle.srt_group_model.specs.declared.Membership.{Membership}
use Rattle.srt_group.specs.declared.Answered.{Answered}
use Rattle.srt_group_model.specs.declared.Sending.{Sending}
use Rattle.word_rows.specs.Tab.{tab}
use Rattle.word_rows.specs.Laws.Tab.{tab_push}
use Rattle.srt_connection_queue.specs.Rows.{row_size, member_from}
use Rattle.srt_connection_members.specs.Members.{members_size, member_at, members_of, Appended}
use Rattle.srt_connection_members.specs.Laws.Members.{members_length}
use Rattle.srt_group_members.specs.Scan.{Tried}
use Rattle.srt_group_members.specs.Admission.{AdmittedAt}
use Rattle.srt_group_members.specs.declared.admission.Admission.{Admission}
use Rattle.srt_group_shown.specs.Shown.{Rest, shown}
use Rattle.srt_group_shown.specs.Tables.{receive_tables}
use Rattle.srt_group_shown.specs.Steps.{Left}
use Rattle.srt_group_shown.specs.Laws.Steps.{left_by}
use Rattle.srt_group_collecting.specs.Leaves.{sends}
use Rattle.srt_group_collecting.specs.Laws.Leaves.{members_shown}
use Rattle.srt_group_delivery.specs.Poll.{Bases}
use Rattle.srt_group_addition.specs.Addition.{membership_at_addition, joined_by, Joins, Adds}

-- ---- the rows

-- the rows of the members
pub rows_of : (n : ℕ) (ms : List ℕ) → n < max_members → members_size ≤ length ms → n * row_size ≤ length ms
rows_of n ms few long = omega arith

-- ---- a member joins

module _ (id weight : ℕ) (l : Leg) (core : Core) (ms : List ℕ) {state : ℕ}
    (is : state ≡ state_at_addition core.mode l (members_of core.counts.members ms)) {made : Membership}
    (as_made : made ≡ membership_at_addition id weight state) (u : List ℕ)
    (appended : Appended core.counts.members (member_from made l []) ms u)
    (before answer : Admission) (v : List ℕ) (admitted : AdmittedAt core.counts.members u before answer v)
    (bound : before.peer ≡ core.peer) (unset : before.base ≡ None) (based : Core) (bases : Bases answer.base core based) where
  abbrev n : ℕ
  n = core.counts.members

  abbrev after : Core
  after = with_member_count (n + 1) (with_peer_group answer.peer based)

  module _ (others : Rest) (ps ws : List ℕ) where
    abbrev s : State
    s = shown core others ms ps ws

    abbrev m : Member
    m = new_member id weight l s

    abbrev peer : ℕ
    peer = peer_after core.peer (m ∷ [])

    there : member_at u n ≡ m
    unfolding new_member
    there =
        appended.here ∙ ap (λ (x : Membership). member_from x l []) as_made
        ∙ ap (λ (x : ℕ). member_from (membership_at_addition id weight x) l []) is

    binds : answer.peer ≡ peer
    binds =
        admitted.peer ∙ ap (λ (x : ℕ). peer_after x (member_at u n ∷ [])) bound
        ∙ ap (λ (x : Member). peer_after core.peer (x ∷ [])) there

    brings : answer.base ≡ base_after None (m ∷ [])
    brings =
        admitted.base ∙ ap (λ (x : Option ℕ). base_after x (member_at u n ∷ [])) unset
        ∙ ap (λ (x : Member). base_after None (x ∷ [])) there

    stands : member_at v n ≡ admit_peer_group peer m
    stands =
        admitted.changed.here ∙ ap (λ (x : ℕ). admit_peer_group x (member_at u n)) binds ∙ ap (admit_peer_group peer) there

    behind : s.members ++ (admit_peer_group peer m ∷ []) ≡ members_of (n + 1) v
    unfolding members_of
    behind =
        sym
        (ap (λ (k : ℕ). tab k (member_at v)) (add-one n)
        ∙ tab_push n (member_at ms) (member_at v) (admit_peer_group peer m)
        (λ j h. admitted.changed.others j (λ e. omega arith) ∙ appended.others j (λ e. omega arith)) stands)

    set : (set_base (base_after None (m ∷ [])) (start s)).state ≡ shown based others ms ps ws
    set =
        ap (λ (o : Option ℕ). (set_base o (start s)).state) (sym brings) ∙ (bases.run others (receive_tables ms ps ws) [] 0).state

    joined : joined_by m s ≡ shown after others v ps ws
    unfolding joined_by
    joined =
        ap (λ (x : State). with_peer peer (with_members (s.members ++ (admit_peer_group peer m ∷ [])) x)) set
        ∙ ap (λ (x : List Member). with_peer peer (with_members x (shown based others ms ps ws))) behind
        ∙ ap (λ (x : ℕ). with_peer x (with_members (members_of (n + 1) v) (shown based others ms ps ws))) (sym binds)

  pub joins : Joins id weight l core ms after v
  joins =
      record { long = admitted.changed.long ∙ appended.long; one_more = refl; here = stands; state = joined }

-- ---- and is aligned

module _ (id weight : ℕ) (l : Leg) (core : Core) (sending : Sending) (ms : List ℕ) (after : Core) (u : List ℕ) {given : Leg}
    (handed_over : given ≡ handed l) (joins_given : Joins id weight given core ms after u)
    {x : ℕ} (is : x ≡ (member_at u core.counts.members).membership.admitted) where
  abbrev count : ℕ
  count = core.counts.members

  joining : Joins id weight (handed l) core ms after u
  joining = subst (λ (y : Leg). Joins id weight y core ms after u) handed_over joins_given

  module _ (others : Rest) (same : sends sending others) (ps ws : List ℕ) where
    abbrev before : State
    before = shown core others ms ps ws

    abbrev member : Member
    member = new_member id weight (handed l) before

    abbrev added : State
    added = joined_by member before

    abbrev ended : State → ℕ → Step
    ended t code =
        record {
          state = t;
          code = code;
          answer = no_answer;
          put = None;
          sends = [];
          log = (set_base (base_after None (member ∷ [])) (start before)).log;
        }

    abbrev aligning : Option (List Member)
    aligning = align_member_sequence (next_send_sequence before.send) (length before.members) added.members

    abbrev aligned : Option (List Member) → Step
    aligned o = if_some o give (λ ns. ended (with_members ns added) 0) otherwise ended added 22

    body_is : add_body id weight l before ≡ (if_true eqb (admit_peer_group (peer_after core.peer (member ∷ [])) member).membership.admitted 1 then aligned aligning else ended added 0)
    unfolding add_body joined_by
    body_is = refl

    admitted_is : x ≡ (admit_peer_group (peer_after core.peer (member ∷ [])) member).membership.admitted
    admitted_is = is ∙ ap (λ (y : Member). y.membership.admitted) (joining.here others ps ws)

    not_aligned : (x ≡ 1 → ⊥) → Left (add_body id weight l before) 0 no_answer (shown after others u ps ws)
    not_aligned other =
        left_by (ended added 0) (body_is ∙ when_false _ _ _ (ap (λ (k : ℕ). eqb k 1) (sym admitted_is) ∙ ne_eqb x 1 other))
        record { code = refl; answer = refl; state = joining.state others ps ws; put = refl; sends = refl }

    rows_are : added.members ≡ members_of (count + 1) u
    rows_are =
        ap (λ (t : State). t.members) (joining.state others ps ws) ∙ ap (λ (k : ℕ). members_of k u) joining.one_more

    same_aligning : align_member_sequence (flagged (is_set sending.numbered) sending.next) count (members_of (count + 1) u) ≡ aligning
    same_aligning =
        sym
        (ap (λ (y : Sending). align_member_sequence (flagged (is_set y.numbered) y.next) (length before.members) added.members) same
        ∙ ap (λ (k : ℕ). align_member_sequence (flagged (is_set sending.numbered) sending.next) k added.members) (members_length count ms)
        ∙ ap (align_member_sequence (flagged (is_set sending.numbered) sending.next) count) rows_are)

    starts_aligning : x ≡ 1 → add_body id weight l before ≡ aligned aligning
    starts_aligning one = body_is ∙ when_true _ _ _ (ap (λ (k : ℕ). eqb k 1) (sym admitted_is) ∙ eq-eqb x 1 one)

    -- the members after it, as they are shown
    shows_rows : (v : List ℕ) (ns : List Member) → members_of (count + 1) v ≡ ns → with_members ns added ≡ shown after others v ps ws
    shows_rows v ns are =
        ap (with_members ns) (joining.state others ps ws)
        ∙ members_shown after others u v ps ws ns (ap (λ (k : ℕ). members_of k v) joining.one_more ∙ are)

    tried : (v : List ℕ) (o : Option (List Member)) → aligning ≡ o → (answer : Bool) → answer ≡ is_some o
        → members_of (count + 1) v ≡ (if_some o give (λ ns. ns) otherwise members_of (count + 1) u) → x ≡ 1
        → Left (add_body id weight l before) (if_true answer then 0 else 22) no_answer (shown after others v ps ws)
    unfolding if_some◌give◌otherwise◌ if_true◌then◌else◌
    tried v None e answer succeeded are one =
        subst (λ (b : Bool). Left (add_body id weight l before) (if_true b then 0 else 22) no_answer (shown after others v ps ws)) (sym succeeded)
        (left_by (ended added 22) (starts_aligning one ∙ ap aligned e)
        record {
          code = refl;
          answer = refl;
          state = ap (λ (ns : List Member). with_members ns added) rows_are ∙ shows_rows v (members_of (count + 1) u) are;
          put = refl;
          sends = refl;
        })
    tried v (Some ns) e answer succeeded are one =
        subst (λ (b : Bool). Left (add_body id weight l before) (if_true b then 0 else 22) no_answer (shown after others v ps ws)) (sym succeeded)
        (left_by (ended (with_members ns added) 0) (starts_aligning one ∙ ap aligned e)
        record { code = refl; answer = refl; state = shows_rows v ns are; put = refl; sends = refl })

  pub adds_unaligned : (x ≡ 1 → ⊥) → Adds id weight l core sending ms record { «record» = after; answer = Ok tt } u
  adds_unaligned other =
      record { long = joining.long; step = λ others same ps ws. not_aligned others same ps ws other }

  module _ (one : x ≡ 1) (v : List ℕ) {answer : Bool}
      (attempt : Tried (count + 1)
      (align_member_sequence (flagged (is_set sending.numbered) sending.next) count (members_of (count + 1) u)) u answer v) where
    attempted : (others : Rest) → sends sending others → (ps ws : List ℕ)
        → Left (add_body id weight l (shown core others ms ps ws)) (if_true answer then 0 else 22) no_answer (shown after others v ps ws)
    attempted others same ps ws =
        tried others same ps ws v _ (sym (same_aligning others same ps ws)) answer attempt.succeeded attempt.is one

    pub adds_aligned : answer ≡ true → Adds id weight l core sending ms record { «record» = after; answer = Ok tt } v
    unfolding if_true◌then◌else◌
    adds_aligned succeeds =
        record {
          long = attempt.long ∙ joining.long;
          step =
              λ others same ps ws.
              subst (λ (b : Bool). Left (add_body id weight l (shown core others ms ps ws)) (if_true b then 0 else 22) no_answer (shown after others v ps ws)) succeeds
              (attempted others same ps ws);
        }

    -- 22: it stays added
    pub adds_22 : answer ≡ false → {r : Answered Core (Unit {0})} → r.«record» ≡ after → r.answer ≡ Err AlignmentFailed
        → Adds id weight l core sending ms r v
    unfolding if_true◌then◌else◌
    adds_22 fails kept refused =
        subst (λ (r : Answered Core (Unit {0})). Adds id weight l core sending ms r v) (λ i. record { «record» = sym kept i; answer = sym refused i })
        record {
          long = attempt.long ∙ joining.long;
          step =
              λ others same ps ws.
              subst (λ (b : Bool). Left (add_body id weight l (shown core others ms ps ws)) (if_true b then 0 else 22) no_answer (shown after others v ps ws)) fails
              (attempted others same ps ws);
        }
