-- `leg_out_of_range` meets its contract: its last test is written out, so that another is refused by the equation that fails, not by a search that ends.
use Rattle.std.proofs.Common.{ap, ap₂, not, ◌&&◌, ◌||◌, rules}
use Rattle.srt_group_model.specs.Tools.{any}
use Rattle.srt_group_model.specs.Validity.{any_above, leg_words, leg_out_of_range}
use Rattle.srt_group_model.specs.Laws.Reason.{or_assoc}
use Rattle.srt_group_rules.specs.Rules.{flight_out_of_range}
use Rattle.srt_group_rules.specs.Laws.Rules.{no_word_above}
use Rattle.srt_group_rules.proofs.ranges.leg_out_of_range.Goals as goal

pub returns : goal.returns
unfolding any any_above leg_words leg_out_of_range flight_out_of_range
returns c =
    ap₂ ◌||◌ (search (rules, or_assoc, no_word_above)) (ap₂ ◌&&◌ c.is_connected.ensures (ap not c.has_sender.ensures))
