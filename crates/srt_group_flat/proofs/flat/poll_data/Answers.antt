-- `poll_data` meets its contract: the promise of the call that it makes, over the words of its answer.
use Rattle.srt_group_flat.specs.Laws.Words.{poll_in_words}
use Rattle.srt_group_flat.proofs.flat.poll_data.Goals as goal

pub returns-clause-promised : goal.returns-clause-promised
returns-clause-promised c = search poll_in_words
