-- `send` meets its contract: the promise of the call that it makes, over the words of its answer.
use Rattle.srt_group_flat.specs.Laws.Words.{send_in_words}
use Rattle.srt_group_flat.proofs.flat.send.Goals as goal

pub returns-clause-promised : goal.returns-clause-promised
returns-clause-promised c = search send_in_words
