-- What is proved of the definitions in specs/Rules.antt, with what the proofs need.
use Rattle.std.specs.Prelude.{◌≡◌, Bool, false, ◌||◌, ℕ, ◌^◌, ◌<◌, ltb}
use Rattle.std.proofs.Math.Path.{ap₂}
use Rattle.std.proofs.Common.{◌∙◌, arith, le-ltb, eq-eqb, ne_eqb}
use Rattle.srt_group_model.specs.Tools.{any}
use Rattle.srt_group_model.specs.Laws.Reason.{or_no, any_order}
use Rattle.srt_group_model.specs.Legs.{largest_32, largest_64}
use Rattle.srt_group_model.specs.Validity.{above, any_above, is_too_large, event_sequence_too_large, event_words, event_out_of_range, data_out_of_range}
use Rattle.srt_group_model.specs.declared.Event.{Event}
use Rattle.srt_group_rules.specs.Rules.{event_breaks_rule}

-- ---- an event

-- an event that is not data has a kind and a reason; data has a reason, a sequence and a content
module _ (e : Event) where
  pub event_no_data : (e.kind ≡ 0 → ⊥) → (ltb 3 e.kind || ltb largest_32 e.reason) ≡ event_breaks_rule e
  unfolding event_breaks_rule event_sequence_too_large event_out_of_range event_words any_above any
  event_no_data other = rw (ne_eqb e.kind 0 other) (simp or_no)

  pub event_data : (large wrong : Bool) → e.kind ≡ 0 → large ≡ is_too_large e.content.sequence → wrong ≡ data_out_of_range e.content
      → ((ltb largest_32 e.reason || large) || wrong) ≡ event_breaks_rule e
  unfolding event_breaks_rule event_sequence_too_large event_out_of_range event_words any_above any
  event_data large wrong is_it large_is wrong_is =
      ap₂ (λ (a b : Bool). (ltb largest_32 e.reason || a) || b) large_is wrong_is
      ∙ rw (eq-eqb e.kind 0 is_it, is_it) (simp (or_no, any_order))

-- ---- a word is never above 64 bits

pub no_word_above : (n : ℕ) → n < 2 ^ 64 → above largest_64 n ≡ false
no_word_above n below = le-ltb largest_64 n (omega arith)
