-- `put_account` meets its contract: the law `account_put`.
use Rattle.srt_connection_queue.specs.Laws.Rows.{account_put}
use Rattle.srt_connection_queue.proofs.rows.put_account.Goals as goal

pub returns : goal.returns
returns c = account_put _ c.told-row _
