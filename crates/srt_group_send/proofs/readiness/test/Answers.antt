-- `test` meets its contract: the mode decides, and in Backup the time.
use mathlib.Core.Path.{ap, ◌∙◌}
use Rattle.srt_group_model.specs.Tools.{any}
use Rattle.srt_group_sending.specs.Readiness.{pacing_in, sends_now}
use Rattle.srt_group_send.specs.Laws.Readiness.{members_refreshed, backup_can_send, backup_with_pacing, broadcast_tested}
use Rattle.srt_group_send.proofs.readiness.test.Goals as goal
use Rattle.srt_group_send.proofs.readiness.test.Goals.{in-Some, in_default}

pub returns-then-not-is_backup : goal.returns-then-not-is_backup
returns-then-not-is_backup c =
    broadcast_tested _ _ _ _ _ _ c.refresh_states-core.ensures (pacing_in c.args.pacing) c.requires.in_word c.is_backup.ensures c.if-not-is_backup.true
    (c.broadcast_send_ready-ready.ensures ∙ ap (any (sends_now (pacing_in c.args.pacing))) c.rows.ensures.shows)

pub ready_members-requires-clause-all_fit : goal.ready_members-requires-clause-all_fit
ready_members-requires-clause-all_fit c =
    members_refreshed c.args.group _ _ c.args.used.now _ _ c.refresh_states-core.ensures c.requires.testable

pub returns : goal.returns
returns c = elim c.match-pacing.branch [
  | in-Some w ↦
      rw (w.in-Some.is, w.members-is)
      (backup_with_pacing _ _ _ _ _ _ c.refresh_states-core.ensures _ (rw w.in-Some.is at c.requires.in_word) c.is_backup.ensures c.if-not-is_backup.false
      w.ready_members.ensures (rw (w.pacing-is, w.members-is) at c.trim_and_test.ensures))
  | in_default w ↦
      rw (w.in_default.is, w.members-is)
      (backup_can_send _ _ _ _ _ _ c.refresh_states-core.ensures c.is_backup.ensures c.if-not-is_backup.false
      (rw (w.pacing-is, w.in_default.is, w.members-is) at c.trim_and_test.ensures))
]
