-- `place_packet` meets its contract.
use Rattle.std.proofs.Common.{ap, not, length}
use Rattle.srt_connection_members.specs.Laws.Members.{members_tab}
use Rattle.srt_group_state.specs.Laws.Passes.{place_found}
use Rattle.srt_group_state.proofs.passes.place_packet.Goals as goal

pub returns : goal.returns
returns c = rw (← members_tab c.args.rows.now) (place_found _ c.args.rows.now (length c.args.rows.now) c.requires.few (rw (← members_tab c.args.rows.now) at c.requires.distinct) _ _ _ _ c.packet_breaks_rule.ensures c.if-packet_breaks_rule-packet.false _ _ c.mark.ensures (ap not c.if-not-mark.false) _ (rw (← members_tab c.args.rows.now) at c.account_place.ensures))
