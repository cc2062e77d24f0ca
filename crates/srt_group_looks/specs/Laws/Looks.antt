-- What is proved of the looks: how each is refused, by what it is about, and what it shows.
use Rattle.srt_protocol.specs.Errors.{Outcome}
use Rattle.std.specs.Prelude.{◌≡◌, Bool, not, ℕ, ◌≤◌, eqb, Err, None, Ok, Option, Result, Some, IsErrAnd}
use Rattle.std.specs.Bool.{then_some}
use Rattle.std.proofs.Math.Path.{refl, ap, subst}
use Rattle.std.proofs.Common.{sym, ◌∙◌, le-ltb}
use Rattle.std.proofs.Math.Bool.{true, false}
use mathlib.Core.List.{List, [], ◌∷◌}
use Rattle.srt_protocol.specs.declared.error.Error.{Error}
use Rattle.srt_protocol.specs.Errors.{error_number}
use Rattle.srt_group_model.specs.Tools.{if_true◌then◌else◌}
use Rattle.srt_group_model.specs.State.{State}
use Rattle.srt_group_model.specs.Legs.{largest_32, largest_64}
use Rattle.srt_group_model.specs.Collecting.{has_pending_data}
use Rattle.srt_group_model.specs.Backup.{group_time_until_send}
use Rattle.srt_group_model.specs.Validity.{above}
use Rattle.srt_group_model.specs.Guards.{Answer, no_answer, shown, number, optional, truth, Step, refuse, accept, Check, ◌when◌, guard, About, about_group, about_time, about_member}
use Rattle.srt_group_model.specs.Laws.Flag.{set_is_not_zero}
use Rattle.srt_group_model.specs.Laws.Refusals.{guard_stops, guard_goes_on}
use Rattle.srt_group_model.specs.Calls.{breaks_rule, is_unknown, look_checks, group_id, mode, peer_group_id, skipped_receive_packets, has_pending_data_call, has_receive_continuation, time_until_send}
use Rattle.srt_group_model.specs.Lent.{Look, look_group_id, look_mode, look_peer_group_id, look_skipped_receive_packets, look_has_pending_data, look_has_receive_continuation, look_time_until_send, looking, look_at, call_look, delivered_by, step_of}
use Rattle.srt_group_shown.specs.Tables.{Parts, Tables, state_of}
use Rattle.srt_group_shown.specs.Laws.Steps.{left_accepted}
use Rattle.srt_group_refusals.specs.Begins.{begun}
use Rattle.srt_group_refusals.specs.Promised.{nothing_lent, showing}
use Rattle.srt_group_refusals.specs.Laws.Begins.{begun_long, begun_valid, begun_unbroken}
use Rattle.srt_group_refusals.specs.Laws.Promised.{does_refused, promised_does, promised_refused_6, promised_steps}
use Rattle.srt_group_looks.specs.Looks.{Looked, LookGives}

-- the codes of a look after 6, by what it is about
unfoldable after_6 : About → State → List Check
after_6 about_group s = []
after_6 (about_time time) s = (2 when above largest_64 time) ∷ []
after_6 (about_member id) s = (2 when above largest_32 id) ∷ (3 when is_unknown id s) ∷ []

begins_with_6 : (about : About) (s : State) → look_checks about s ≡ (6 when breaks_rule s) ∷ after_6 about s
unfolding look_checks after_6
begins_with_6 about_group s = refl
begins_with_6 (about_time time) s = refl
begins_with_6 (about_member id) s = refl

module _ (look : Look) (p : Parts) (t : Tables) {r : Outcome} (begins : r ≡ begun p t) where
  abbrev s : State
  s = state_of p t

  abbrev body : Step
  body = accept s (shown ((looking look).shows s))

  is_guarded : (store output list : ℕ) → step_of store output list (call_look look) s ≡ guard ((6 when breaks_rule s) ∷ after_6 (looking look).about s) s body
  unfolding step_of look_at
  is_guarded store output list = ap (λ (cs : List Check). guard cs s body) (begins_with_6 (looking look).about s)

  pub look_refused : (e : Error) → r ≡ Err e → Looked look p t (error_number e) no_answer
  look_refused e refused = promised_refused_6 (call_look look) p t nothing_lent begins _ body (is_guarded 0 0 0) e refused

  module _ (accepted : r ≡ Ok tt) where
    after : (about : About) → (looking look).about ≡ about → (store output list : ℕ)
        → step_of store output list (call_look look) s ≡ guard (after_6 about s) s body
    after about is store output list =
        is_guarded store output list
        ∙ guard_goes_on (6 when breaks_rule s) (after_6 (looking look).about s) s body (begun_valid p t begins accepted)
        ∙ ap (λ (a : About). guard (after_6 a s) s body) is

    refused_after : (about : About) → (looking look).about ≡ about → (code : ℕ) → guard (after_6 about s) s body ≡ refuse code s
        → Looked look p t code no_answer
    refused_after about is code stops =
        promised_does (call_look look) p t nothing_lent (showing p t nothing_lent code no_answer 0) (begun_long p t begins accepted)
        (does_refused (call_look look) p t nothing_lent code (after about is 0 0 0 ∙ stops))

    shown_after : (about : About) → (looking look).about ≡ about → guard (after_6 about s) s body ≡ body
        → Looked look p t 0 (shown ((looking look).shows s))
    unfolding delivered_by
    shown_after about is passes =
        promised_steps (call_look look) p t nothing_lent begins accepted refl
        record {
          step = λ store output list. left_accepted s (shown ((looking look).shows s)) (after about is store output list ∙ passes) refl;
          long = (begun_unbroken p t begins accepted).long;
        }

    pub group_look : (looking look).about ≡ about_group → Looked look p t 0 (shown ((looking look).shows s))
    unfolding after_6 guard
    group_look is = shown_after about_group is refl

    pub time_look : (time : ℕ) → (looking look).about ≡ about_time time → time ≤ largest_64
        → Looked look p t 0 (shown ((looking look).shows s))
    unfolding after_6 guard
    time_look time is small =
        shown_after (about_time time) is (guard_goes_on (2 when above largest_64 time) [] s body (le-ltb largest_64 time small))

    module _ (id : ℕ) (is : (looking look).about ≡ about_member id) where
      pub member_unfit : above largest_32 id ≡ true → Looked look p t 2 no_answer
      unfolding after_6
      member_unfit unfit =
          refused_after (about_member id) is 2 (guard_stops (2 when above largest_32 id) ((3 when is_unknown id s) ∷ []) s body unfit)

      module _ (fit : above largest_32 id ≡ false) where
        past_2 : guard (after_6 (about_member id) s) s body ≡ guard ((3 when is_unknown id s) ∷ []) s body
        unfolding after_6
        past_2 = guard_goes_on (2 when above largest_32 id) ((3 when is_unknown id s) ∷ []) s body fit

        pub member_unknown : is_unknown id s ≡ true → Looked look p t 3 no_answer
        member_unknown unknown =
            refused_after (about_member id) is 3 (past_2 ∙ guard_stops (3 when is_unknown id s) [] s body unknown)

        pub member_look : is_unknown id s ≡ false → Looked look p t 0 (shown ((looking look).shows s))
        unfolding guard
        member_look known =
            shown_after (about_member id) is (past_2 ∙ guard_goes_on (3 when is_unknown id s) [] s body known)

-- a refusal goes up with `?`
pub gives_refusal : {A : Type 0} (says : A → Answer) (look : Look) (p : Parts) (t : Tables) {r : Outcome} → r ≡ begun p t → (e : Error) → r ≡ Err e
    → (given : Result A Error) → IsErrAnd given (λ y. y ≡ e) → LookGives says look p t given
gives_refusal says look p t begins e refused (Ok x) up = absurd up
gives_refusal says look p t begins e refused (Err y) up = rw up (look_refused look p t begins e refused)

-- ---- the looks at the group

module _ (p : Parts) (t : Tables) {r : Outcome} (begins : r ≡ begun p t) (accepted : r ≡ Ok tt) where
  pub group_id_shown : Looked look_group_id p t 0 (shown (number p.identity.id))
  unfolding looking group_id
  group_id_shown = group_look look_group_id p t begins accepted refl

  pub mode_shown : Looked look_mode p t 0 (shown (number p.core.mode))
  unfolding looking mode
  mode_shown = group_look look_mode p t begins accepted refl

  pub skipped_shown : Looked look_skipped_receive_packets p t 0 (shown (number p.core.receiving.skipped))
  unfolding looking skipped_receive_packets
  skipped_shown = group_look look_skipped_receive_packets p t begins accepted refl

  pub peer_shown : (o : Option ℕ) → o ≡ then_some (not (eqb p.core.peer 0)) p.core.peer
      → Looked look_peer_group_id p t 0 (shown (optional o))
  unfolding looking peer_group_id if_true◌then◌else◌
  peer_shown o is =
      subst (λ (x : Option ℕ). Looked look_peer_group_id p t 0 (shown (optional x))) (by_test (eqb p.core.peer 0) ∙ sym is)
      (group_look look_peer_group_id p t begins accepted refl)
    where
      by_test : (b : Bool) → (if_true b then None else Some p.core.peer) ≡ then_some (not b) p.core.peer
      by_test true = refl
      by_test false = refl

  pub pending_data_shown : (b : Bool) → b ≡ has_pending_data (state_of p t) → Looked look_has_pending_data p t 0 (shown (truth b))
  unfolding looking has_pending_data_call
  pending_data_shown b is =
      subst (λ (x : Bool). Looked look_has_pending_data p t 0 (shown (truth x))) (sym is) (group_look look_has_pending_data p t begins accepted refl)

  -- the flag as the code tests it
  pub continuation_shown : Looked look_has_receive_continuation p t 0 (shown (truth (not (eqb p.core.visit.continuation 0))))
  unfolding looking has_receive_continuation
  continuation_shown =
      subst (λ (x : Bool). Looked look_has_receive_continuation p t 0 (shown (truth x))) (set_is_not_zero p.core.visit.continuation)
      (group_look look_has_receive_continuation p t begins accepted refl)

  pub time_shown : (time : ℕ) → time ≤ largest_64 → (n : ℕ) → n ≡ group_time_until_send time (state_of p t).members
      → Looked (look_time_until_send time) p t 0 (shown (number n))
  unfolding looking time_until_send
  time_shown time small n is =
      subst (λ (x : ℕ). Looked (look_time_until_send time) p t 0 (shown (number x))) (sym is)
      (time_look (look_time_until_send time) p t begins accepted time refl small)
