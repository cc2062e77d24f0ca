-- `demote_stale_backup_carrier` meets its contract: each return is a law of Stale.antt.
use mathlib.Core.Path.{ap, sym, ◌∙◌}
use Rattle.std.specs.Prelude.{◌≡◌, Some}
use Rattle.srt_connection_members.specs.Members.{members_of}
use Rattle.srt_group_model.specs.Tools.{any}
use native.Mathlib.Omega.{arith}
use Rattle.srt_group_model.specs.Members.{is_active, is_standby, first_active}
use Rattle.srt_group_members.specs.Laws.Scan.{found_row}
use Rattle.srt_group_backup.specs.Laws.Stale.{trip_fits, none_active_none_demoted, no_standby_none_demoted, not_stale_none_demoted, stale_demoted}
use Rattle.srt_group_backup.proofs.stale.demote_stale_backup_carrier.Goals.{else-has_standby-via-then-has_standby+else-is_stale, else-has_standby-via-else-has_standby}
use Rattle.srt_group_backup.proofs.stale.demote_stale_backup_carrier.Goals as goal

pub returns-in_default : goal.returns-in_default
returns-in_default c = none_active_none_demoted _ _ _ (cc)

pub leg_at-requires : goal.leg_at-requires
leg_at-requires c =
    omega
    (arith, found_row is_active _ _ _ (sym c.in-Some.is ∙ (c.first_active-found.ensures ∙ ap first_active c.rows.ensures.shows)))

pub is_stale-requires : goal.is_stale-requires
is_stale-requires c =
    trip_fits _ _ _
    (found_row is_active _ _ _ (sym c.in-Some.is ∙ (c.first_active-found.ensures ∙ ap first_active c.rows.ensures.shows)))
    c.requires.all_fit c.leg_at.ensures

pub turn_at-requires : goal.turn_at-requires
turn_at-requires c =
    omega
    (arith, found_row is_active _ _ _ (sym c.in-Some.is ∙ (c.first_active-found.ensures ∙ ap first_active c.rows.ensures.shows)))

pub returns-then-is_stale : goal.returns-then-is_stale
returns-then-is_stale c =
    stale_demoted _ _ _ _
    (sym c.in-Some.is ∙ (c.first_active-found.ensures ∙ ap first_active c.rows.ensures.shows))
    (c.has_standby.ensures ∙ ap (any is_standby) c.rows-2.ensures.shows)
    c.if-has_standby.true
    c.leg_at.ensures
    c.is_stale.ensures
    c.if-is_stale.true c.turn_at.ensures

pub returns-else-has_standby : goal.returns-else-has_standby
returns-else-has_standby c =
    let found : Some c.in-Some.index ≡ first_active (members_of c.args.count c.args.members.now)
    = sym c.in-Some.is ∙ (c.first_active-found.ensures ∙ ap first_active c.rows.ensures.shows) in
    elim c.else-has_standby.branch [
      | else-has_standby-via-then-has_standby+else-is_stale w ↦
          not_stale_none_demoted _ _ _ _ found w.leg_at.ensures w.is_stale.ensures w.if-is_stale.false
      | else-has_standby-via-else-has_standby w ↦
          no_standby_none_demoted _ _ _ _ found (c.has_standby.ensures ∙ ap (any is_standby) c.rows-2.ensures.shows) w.if-has_standby.false
    ]
