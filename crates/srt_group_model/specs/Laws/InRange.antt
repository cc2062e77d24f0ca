-- That no word of a list is above its range is each of its bounds.
use Rattle.std.specs.Prelude.{◌≡◌, false, List, ◌≤◌}
use Rattle.std.proofs.Common.{ltb-false, le-ltb}
use Rattle.srt_group_model.specs.Tools.{All}
use Rattle.srt_group_model.specs.Validity.{Ranged, any_above}
use Rattle.srt_group_model.specs.Laws.Reason.{all_map, none_of, of_none}

abbrev pub InRange : Ranged → Type 0
InRange word = word.value ≤ word.largest

pub in_range_of : (words : List Ranged) → any_above words ≡ false → All InRange words
unfolding any_above
in_range_of words h = all_map _ InRange (λ word k. ltb-false word.largest word.value k) words (none_of _ words h)

pub of_in_range : (words : List Ranged) → All InRange words → any_above words ≡ false
unfolding any_above
of_in_range words h = of_none _ words (all_map InRange _ (λ word k. le-ltb word.largest word.value k) words h)
