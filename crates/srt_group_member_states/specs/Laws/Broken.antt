-- A member that is marked broken is document 01's.
use Rattle.std.specs.Prelude.{◌≡◌, Bool, false, [], ◌∷◌, ℕ}
use Rattle.std.proofs.Math.Path.{refl, ap}
use Rattle.std.proofs.Common.{sym}
use Rattle.srt_protocol.specs.declared.error.Error.TheVariants.{UnknownMember}
use Rattle.srt_group_model.specs.Tools.{if_true◌then◌else◌}
use Rattle.srt_group_model.specs.Laws.Reason.{if_some_elim}
use Rattle.srt_group_model.specs.State.{Member, State, turned, broken_state}
use Rattle.srt_group_model.specs.Legs.{largest_32}
use Rattle.srt_group_model.specs.Cells.{queue_cells}
use Rattle.srt_group_model.specs.Sound.{occurs}
use Rattle.srt_group_model.specs.Validity.{above}
use Rattle.srt_group_model.specs.Guards.{no_answer, accept, ◌when◌, guard}
use Rattle.srt_group_model.specs.Calls.{breaks_rule, is_unknown, of_member, change_member, mark_member_broken}
use Rattle.srt_group_model.specs.Lent.{call_mark_member_broken, step_of}
use Rattle.srt_group_queueing.specs.Laws.OneMember.{OneMember, member_checks}

-- no member refuses to be marked
never_refused : (id : ℕ) (s : State) → of_member id (λ m. false) s ≡ false
unfolding of_member
never_refused id s = if_some_elim (λ (b : Bool). b ≡ false) _ _ _ (λ m e. refl) (λ e. refl)

module _ (id : ℕ) where
  pub step_is : (store output list : ℕ) (s : State)
      → step_of store output list (call_mark_member_broken id) s
      ≡ guard ((6 when breaks_rule s) ∷ member_checks (above largest_32 id) id UnknownMember (λ m. false) s) s (accept (change_member id (turned broken_state) s) no_answer)
  unfolding step_of mark_member_broken guard if_true◌then◌else◌
  step_is store output list s =
      ap
      (λ (b : Bool).
      guard ((6 when breaks_rule s) ∷ (2 when above largest_32 id) ∷ (3 when is_unknown id s) ∷ (3 when b) ∷ []) s
      (accept (change_member id (turned broken_state) s) no_answer))
      (sym (never_refused id s))

  -- the queue stays
  pub same_queue : (k : ℕ) (m : Member) → occurs k (queue_cells (turned broken_state m)) ≡ occurs k (queue_cells m)
  unfolding queue_cells
  same_queue k m = refl

  abbrev pub broken_call : OneMember (call_mark_member_broken id)
  broken_call =
      record {
        id = id;
        unfit = above largest_32 id;
        error = UnknownMember;
        refuses = λ m. false;
        does = turned broken_state;
        is = step_is;
        cells = λ fit. same_queue;
      }
