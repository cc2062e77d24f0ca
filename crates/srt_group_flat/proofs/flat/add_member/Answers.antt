-- `add_member` meets its contract: the promise of the call that it makes, over its code.
use Rattle.srt_group_flat.specs.Laws.Words.{row_in_words}
use Rattle.srt_group_flat.proofs.flat.add_member.Goals as goal

pub returns : goal.returns
returns c = search row_in_words
