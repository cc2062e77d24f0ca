-- `send_backup` meets its contract: 24 with no active member, or what the first active one gives.
use mathlib.Core.Path.{ap, sym, ◌∙◌}
use native.Mathlib.Omega.{arith}
use Rattle.srt_group_model.specs.Members.{is_active, first_active}
use Rattle.srt_group_members.specs.Laws.Scan.{found_row}
use Rattle.srt_group_carrier.specs.Laws.Prepared.{numbers_readied}
use Rattle.srt_group_carrier.specs.Laws.Flows.{lendable_with}
use Rattle.srt_group_backup_send.specs.Laws.BackupSend.{none_readied, readied_flows}
use Rattle.srt_group_backup_send.proofs.sends.send_backup.Goals as goal

pub returns-in_default : goal.returns-in_default
returns-in_default c =
    none_readied _ _ _ _ _ _ _ _ _ c.ready_members.ensures (cc) c.requires.lendable (omega arith)

pub send_on_carrier-requires-clause-sendable : goal.send_on_carrier-requires-clause-sendable
send_on_carrier-requires-clause-sendable c =
    let found = sym c.in-Some.is ∙ (c.first_active-found.ensures ∙ ap first_active c.rows.ensures.shows) in
    record { below = found_row is_active _ _ _ found; lent = lendable_with _ c.requires.lendable c.ready_members.ensures.long }

pub send_on_carrier-requires-clause-numbers_fit : goal.send_on_carrier-requires-clause-numbers_fit
send_on_carrier-requires-clause-numbers_fit c = search numbers_readied

pub returns : goal.returns
returns c =
    let found = sym c.in-Some.is ∙ (c.first_active-found.ensures ∙ ap first_active c.rows.ensures.shows) in
    readied_flows _ _ _ _ _ _ _ _ _ c.ready_members.ensures _ found c.send_on_carrier.ensures
