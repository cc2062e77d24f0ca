-- `put_send` meets its contract: what a send moves is put back, and its two words are the answer.
use mathlib.Core.Path.{sym, ap, ◌∙◌}
use Rattle.srt_group_send.specs.Answers.{send_number}
use Rattle.srt_group_c_send.specs.Laws.Sends.{says_sent, says_not_sent}
use Rattle.srt_group_c_send.proofs.answers.put_send.Goals as goal

pub returns-in-Ok : goal.returns-in-Ok
returns-in-Ok c = record { put = c.put_sent.ensures; same = sym (ap send_number c.in-Ok.is); said = says_sent _ _ _ c.in-Ok.is c.put.ensures }

pub returns-in-Err : goal.returns-in-Err
returns-in-Err c = record { put = c.put_sent.ensures; same = c.from.ensures ∙ sym (ap send_number c.in-Err.is); said = says_not_sent _ _ _ c.in-Err.is c.put-in-Err.ensures }
