-- `trim_by_carrier` meets its contract.
use mathlib.Core.Path.{ap, sym, ◌∙◌}
use native.Mathlib.Omega.{arith}
use Prim.Native.Nat.{ℕ}
use Rattle.srt_group_model.specs.Members.{find}
use Rattle.srt_connection_members.specs.Members.{members_in}
use Rattle.srt_group_backup.specs.Laws.Trimming.{nobody_carries, some_carry, the_carrier, no_carrier_none_trimmed, carrier_there, carrier_gone_none_trimmed, carrier_trimmed}
use Rattle.srt_group_backup.proofs.trimming.trim_by_carrier.Goals as goal

pub returns-in_default : goal.returns-in_default
returns-in_default c = no_carrier_none_trimmed _ _ _ _ (nobody_carries c.args.sending c.carrier.ensures c.in_default.is)

pub returns-in_default-find : goal.returns-in_default-find
returns-in_default-find c =
    carrier_gone_none_trimmed _ _ _ _ (some_carry c.args.sending c.carrier.ensures _ c.in-Some.is)
    (sym c.in_default-find.is ∙ c.find.ensures ∙ ap (λ (k : ℕ). find k (members_in c.args.rows.now)) (the_carrier c.args.sending c.carrier.ensures _ c.in-Some.is))

pub bounds-rows-index : goal.bounds-rows-index
bounds-rows-index c = carrier_there _ _ _ (sym c.in-Some-find.is ∙ c.find.ensures)

pub offset_bounds-rows-index : goal.offset_bounds-rows-index
offset_bounds-rows-index c = omega (arith, carrier_there _ _ _ (sym c.in-Some-find.is ∙ c.find.ensures))

pub returns : goal.returns
returns c =
    carrier_trimmed _ _ _ _ (some_carry c.args.sending c.carrier.ensures _ c.in-Some.is) _
    (sym c.in-Some-find.is ∙ c.find.ensures ∙ ap (λ (k : ℕ). find k (members_in c.args.rows.now)) (the_carrier c.args.sending c.carrier.ensures _ c.in-Some.is))
    c.leg.ensures c.trim_backup_history.ensures
