-- `account_place` meets its contract: the group's own packet is written out, so that another account is refused by the place that differs,
-- not by a search that ends.
use Rattle.std.proofs.Common.{sym, ◌∙◌}
use Rattle.srt_group_rules.specs.Laws.Sums.{place_own}
use Rattle.srt_group_rules.proofs.sums.account_place.Goals as goal

pub returns-then-is_owned : goal.returns-then-is_owned
returns-then-is_owned c = sym (place_own _ c.args.packet (sym c.is_owned.ensures ∙ c.if-is_owned.true))
