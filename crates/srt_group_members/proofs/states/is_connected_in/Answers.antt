-- `is_connected_in` meets its contract: of a member in the state what is left to ask is written out, so that another question is refused
-- by the equation that fails, not by a search that ends.
use Rattle.std.proofs.Common.{sym, ap, ◌∙◌, ◌&&◌, eq-eqb, Bool}
use Rattle.srt_group_model.specs.Legs.{is_connected}
use Rattle.srt_connection_queue.specs.Rows.{member_of}
use Rattle.srt_group_members.proofs.states.is_connected_in.Goals as goal

pub returns-then-member_state-state : goal.returns-then-member_state-state
returns-then-member_state-state c =
    c.leg_connected.ensures
    ∙ ap (λ (t : Bool). t && is_connected (member_of c.args.row.now).leg) (sym (eq-eqb _ _ (sym c.member_state.ensures ∙ c.if-member_state-state.true)))
