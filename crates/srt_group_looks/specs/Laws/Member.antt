-- What is proved of the looks at one member.
use Rattle.srt_protocol.specs.Errors.{Outcome}
use Rattle.std.specs.Prelude.{◌≡◌, Bool, not, ◌||◌, ℕ, List, [], ◌∷◌, is_some, None, Ok, Err, Option, Result, Some, IsErrAnd, MatchResult}
use Rattle.std.specs.Bool.{then_some}
use Rattle.std.specs.Option.{ok_or, option_map}
use denote.Ref.{Bor}
use Rattle.srt_protocol.specs.declared.error.Error.{Error}
use Rattle.srt_protocol.specs.declared.error.Error.TheVariants.{OutOfRange, UnknownMember}
use Rattle.std.proofs.Math.Path.{refl, ap, subst}
use Rattle.std.proofs.Common.{sym, ◌∙◌}
use Rattle.std.proofs.Math.Bool.{true, false}
use Rattle.srt_group_model.specs.Tools.{if_true◌then◌else◌, if_some◌give◌otherwise◌, any, first_such}
use Rattle.srt_group_model.specs.declared.Leg.{Leg}
use Rattle.srt_group_model.specs.declared.MemberShown.{MemberShown}
use Rattle.srt_group_model.specs.State.{Member, State}
use Rattle.srt_group_model.specs.Legs.{has_sender, largest_32}
use Rattle.srt_group_model.specs.Members.{has_id}
use Rattle.srt_group_model.specs.Backup.{stability_timeout}
use Rattle.srt_group_model.specs.Validity.{above}
use Rattle.srt_group_model.specs.Guards.{Answer, shown, optional, one_member, about_member}
use Rattle.srt_group_model.specs.Calls.{cells_given, member_shown, member, backup_stability_timeout_micros}
use Rattle.srt_group_model.specs.Lent.{Look, look_member, look_backup_stability_timeout_micros, looking}
use Rattle.srt_group_model.specs.Sound.{MemberFit}
use Rattle.srt_group_model.specs.Laws.Reason.{first_such_of}
use Rattle.srt_group_model.specs.Laws.Valid.{valid_of, fit_of}
use Rattle.srt_connection_queue.specs.Rows.{member_of}
use Rattle.srt_group_shown.specs.Tables.{Parts, Tables, state_of}
use Rattle.srt_group_refusals.specs.Begins.{begun}
use Rattle.srt_group_refusals.specs.Laws.Begins.{begun_unbroken}
use Rattle.srt_group_looks.specs.Looks.{Looked, RowFound, LooksRefused, LookGives}
use Rattle.srt_group_looks.specs.Laws.Looks.{look_refused, member_unfit, member_unknown, member_look}

any_such : (test : Member → Bool) (ms : List Member) → any test ms ≡ is_some (first_such test ms)
unfolding any first_such if_true◌then◌else◌
any_such test [] = refl
any_such test (m ∷ ms) = go (test m) (any_such test ms)
  where
    go : (b : Bool) → any test ms ≡ is_some (first_such test ms) → (b || any test ms) ≡ is_some (if_true b then Some m else first_such test ms)
    go true later = refl
    go false later = later

module _ (id : ℕ) (p : Parts) (t : Tables) where
  abbrev s : State
  s = state_of p t

  module _ {r : Outcome} (begins : r ≡ begun p t) where
    pub begin_refuses : (e : Error) → r ≡ Err e → LooksRefused id p t e
    begin_refuses e refused = record { looks = λ look is. look_refused look p t begins e refused }

    module _ (accepted : r ≡ Ok tt) where
      pub unfit_refuses : above largest_32 id ≡ true → LooksRefused id p t OutOfRange
      unfit_refuses unfit = record { looks = λ look is. member_unfit look p t begins accepted id is unfit }

      module _ (fit : above largest_32 id ≡ false) where
        unknown_refuses : None ≡ first_such (has_id id) s.members → LooksRefused id p t UnknownMember
        unknown_refuses nowhere =
            let unknown = ap not (any_such (has_id id) s.members ∙ ap is_some (sym nowhere)) in
            record { looks = λ look is. member_unknown look p t begins accepted id is fit unknown }

        row_is_found : (row : List ℕ) → Some (member_of row) ≡ first_such (has_id id) s.members → RowFound id p t row
        row_is_found row there =
            let known = ap not (any_such (has_id id) s.members ∙ ap is_some (sym there)) in
            let all = (fit_of (cells_given s) s (valid_of (cells_given s) s (begun_unbroken p t begins accepted).valid)).members in
            let fits = (first_such_of MemberFit (has_id id) s.members (member_of row) (sym there) all).0 in
            record {
              looks = λ look is. member_look look p t begins accepted id is fit known;
              is = sym there;
              trip = record { srtt = fits.leg.srtt; rttvar = fits.leg.rttvar };
            }

        -- the first row that has the id, or 3
        pub row_or_refused : (o : Option (Bor (List ℕ))) {found : Result (Bor (List ℕ)) Error}
            → option_map (λ row. member_of row.now) o ≡ first_such (has_id id) s.members → found ≡ ok_or o UnknownMember
            → MatchResult found (λ row. RowFound id p t row.now) (λ e. LooksRefused id p t e)
        row_or_refused None nowhere is = rw is (unknown_refuses nowhere)
        row_or_refused (Some row) there is = rw is (row_is_found row.now there)

  -- the refusal of every such look goes up with `?`
  gives_member_refusal : {A : Type 0} (says : A → Answer) (look : Look) → (looking look).about ≡ about_member id → (e : Error) → LooksRefused id p t e
      → (given : Result A Error) → IsErrAnd given (λ y. y ≡ e) → LookGives says look p t given
  gives_member_refusal says look about e refused (Ok x) up = absurd up
  gives_member_refusal says look about e refused (Err y) up = rw up (refused.looks look about)

  -- ---- `member`

  pub member_refused : (e : Error) → LooksRefused id p t e → (given : Result MemberShown Error) → IsErrAnd given (λ y. y ≡ e)
      → LookGives (λ m. shown (one_member (Some m))) (look_member id) p t given
  unfolding looking member
  member_refused e refused given up = gives_member_refusal _ (look_member id) refl e refused given up

  module _ (row : List ℕ) (found : RowFound id p t row) where
    pub member_is_shown : (m : MemberShown) → m ≡ member_shown (member_of row) → Looked (look_member id) p t 0 (shown (one_member (Some m)))
    unfolding looking member if_some◌give◌otherwise◌
    member_is_shown m is =
        subst (λ (o : Option MemberShown). Looked (look_member id) p t 0 (shown (one_member o)))
        (ap (λ (o : Option Member). if_some o give (λ x. Some (member_shown x)) otherwise None) found.is
        ∙ ap (λ (x : MemberShown). Some x) (sym is))
        (found.looks (look_member id) refl)

    -- ---- `backup_stability_timeout_micros`

    module _ (l : Leg) (is : l ≡ (member_of row).leg) where
      timeout_is_shown : (b : Bool) → has_sender l ≡ b
          → Looked (look_backup_stability_timeout_micros id) p t 0 (shown (optional (if_true b then Some (stability_timeout l) else None)))
      unfolding looking backup_stability_timeout_micros if_some◌give◌otherwise◌
      timeout_is_shown b sender =
          subst (λ (o : Option ℕ). Looked (look_backup_stability_timeout_micros id) p t 0 (shown (optional o)))
          (ap
          (λ (o : Option Member).
          if_some o give (λ m. if_true has_sender m.leg then Some (stability_timeout m.leg) else None) otherwise None)
          found.is
          ∙ ap (λ (x : Leg). if_true has_sender x then Some (stability_timeout x) else None) (sym is)
          ∙ ap (λ (c : Bool). if_true c then Some (stability_timeout l) else None) sender)
          (found.looks (look_backup_stability_timeout_micros id) refl)

      pub timeout_shown : {b : Bool} {n : ℕ} → b ≡ has_sender l → n ≡ stability_timeout l → (o : Option ℕ) → o ≡ then_some b n
          → Looked (look_backup_stability_timeout_micros id) p t 0 (shown (optional o))
      unfolding if_true◌then◌else◌
      timeout_shown {b} sender made o is =
          subst (λ (x : Option ℕ). Looked (look_backup_stability_timeout_micros id) p t 0 (shown (optional x)))
          (by_test b ∙ ap (then_some b) (sym made) ∙ sym is) (timeout_is_shown b (sym sender))
        where
          by_test : (c : Bool) → (if_true c then Some (stability_timeout l) else None) ≡ then_some c (stability_timeout l)
          by_test true = refl
          by_test false = refl

  pub timeout_refused : (e : Error) → LooksRefused id p t e → (given : Result (Option ℕ) Error) → IsErrAnd given (λ y. y ≡ e)
      → LookGives (λ n. shown (optional n)) (look_backup_stability_timeout_micros id) p t given
  unfolding looking backup_stability_timeout_micros
  timeout_refused e refused given up = gives_member_refusal _ (look_backup_stability_timeout_micros id) refl e refused given up
