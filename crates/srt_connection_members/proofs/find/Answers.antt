-- `find` meets its contract: the first row that has the id is the first member (`place_read`).
use Rattle.std.proofs.Common.{◌∙◌, rules}
use Rattle.std.proofs.lemmas.Iterator.{YieldsList-from_slice}
use Rattle.std.proofs.lemmas.Iterator.Search.{position_from_yields_List}
use Rattle.srt_group_model.specs.Members.{has_id}
use Rattle.srt_connection_queue.specs.Rows.{member_of}
use Rattle.srt_connection_queue.specs.Laws.Chains.{passes, place_read}
use Rattle.srt_connection_members.proofs.find.Goals as goal

pub returns : goal.returns
returns c =
    let rows = c.args.rows.now in
    let test = has_id c.args.id in
    position_from_yields_List (passes member_of test) _ _ c.position.result c.position.ensures.ran (YieldsList-from_slice rows cc) (λ x b q h. search rules)
    ∙ place_read member_of test rows
