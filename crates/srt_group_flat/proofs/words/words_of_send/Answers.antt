-- `words_of_send` meets its contract, for each answer of a send.
use Rattle.srt_group_flat.specs.Laws.Words.{says_sent, says_not_sent}
use Rattle.srt_group_flat.proofs.words.words_of_send.Goals as goal

pub returns-in-Ok : goal.returns-in-Ok
returns-in-Ok c = search says_sent

pub returns-in-Err : goal.returns-in-Err
returns-in-Err c = search says_not_sent
