-- What is proved of the definitions in specs/Made.antt, with what the proofs need.
use Rattle.std.specs.Prelude.{◌≡◌, Bool, true, false, ◌||◌, ℕ, eqb, Err, Ok}
use Rattle.std.proofs.Math.Path.{refl, ap, sym}
use Rattle.std.proofs.Common.{◌∙◌}
use Rattle.srt_protocol.specs.Handshake.{has_group_mask}
use Rattle.srt_protocol.specs.declared.error.Error.{Error}
use Rattle.srt_protocol.specs.declared.error.Error.TheVariants.{OutOfRange, MissingGroupMask}
use Rattle.srt_protocol.specs.Errors.{error_number}
use Rattle.srt_group_model.specs.Tools.{if_true◌then◌else◌, any}
use Rattle.srt_group_model.specs.Laws.Reason.{when_true, when_false, or_no}
use Rattle.srt_group_model.specs.State.{Making}
use Rattle.srt_group_model.specs.Legs.{largest_32}
use Rattle.srt_group_model.specs.Validity.{above, any_above, making_words}
use Rattle.srt_group_model.specs.Guards.{no_answer}
use Rattle.srt_group_model.specs.Calls.{new, new_code}
use Rattle.srt_group.specs.declared.Group.{Group}
use Rattle.srt_group.specs.Made.{Fresh, PromisedNew}

module _ (making : Making) where
  words_are : any_above (making_words making) ≡ (above largest_32 making.id || above 1 making.mode)
  unfolding making_words any_above any
  words_are = ap (λ (b : Bool). above largest_32 making.id || b) (or_no (above 1 making.mode))

  refused_by : (e : Error) → new_code making ≡ error_number e → eqb (error_number e) 0 ≡ false → PromisedNew making (Err e)
  refused_by e is other =
      record {
        holds =
            λ t bytes s i.
            record {
              state = sym (when_false (eqb (new_code making) 0) (new making) s (ap (λ (n : ℕ). eqb n 0) is ∙ other)) i;
              lent = bytes;
              code = sym is i;
              answer = no_answer;
              rows = 0;
            };
      }

  module _ {unfit : Bool} (tested : unfit ≡ (above largest_32 making.id || above 1 making.mode)) where
    pub new_unfit : unfit ≡ true → PromisedNew making (Err OutOfRange)
    unfolding new_code
    new_unfit is =
        refused_by OutOfRange
        (when_true (any_above (making_words making)) 2 (if_true has_group_mask making.id then 0 else 1) (words_are ∙ sym tested ∙ is)) refl

    module _ (fits : unfit ≡ false) {marked : Bool} (looked : marked ≡ has_group_mask making.id) where
      passed : new_code making ≡ (if_true marked then 0 else 1)
      unfolding new_code
      passed =
          when_false (any_above (making_words making)) 2 (if_true has_group_mask making.id then 0 else 1) (words_are ∙ sym tested ∙ fits)
          ∙ ap (λ (b : Bool). if_true b then 0 else 1) (sym looked)

      pub new_unmarked : marked ≡ false → PromisedNew making (Err MissingGroupMask)
      new_unmarked is = refused_by MissingGroupMask (passed ∙ when_false marked 0 1 is) refl

      pub new_made : marked ≡ true → (g : Group) → Fresh g (new making) → PromisedNew making (Ok g)
      new_made is g fresh =
          let accepted : new_code making ≡ 0 = passed ∙ when_true marked 0 1 is in
          record {
            holds =
                λ t bytes s i.
                record {
                  state = (fresh.shows t ∙ sym (when_true (eqb (new_code making) 0) (new making) s (ap (λ (n : ℕ). eqb n 0) accepted))) i;
                  lent = bytes;
                  code = sym accepted i;
                  answer = no_answer;
                  rows = 0;
                };
          }
