-- `put_readiness` meets its contract: what the test moves is put back, and its word is the answer.
use Rattle.srt_group_c_readiness.specs.Laws.Answers.{says_ready}
use Rattle.srt_group_c_readiness.proofs.answers.put_readiness.Goals as goal

pub returns : goal.returns
returns c = says_ready _ c.flag.ensures _ _ c.put_sent.ensures c.put.ensures
