-- `remove_member_connection` meets its contract: what follows 5 and 6, in a state that is ready.
use Rattle.srt_group_shown.specs.Laws.Steps.{unbroken_of}
use Rattle.srt_group_removal.specs.Laws.Connection.{any_removable, removal_performed}
use Rattle.srt_group_removal.proofs.connection.remove_member_connection.Goals as goal

pub remove_named-requires-clause-any_removable : goal.remove_named-requires-clause-any_removable
remove_named-requires-clause-any_removable c = any_removable (unbroken_of c.requires.ready)

pub returns-clause-performs : goal.returns-clause-performs
returns-clause-performs c = removal_performed c.requires.ready c.args.id _ _ _ _ _ c.remove_named.ensures.steps_removal c.remove_named.ensures.follows
