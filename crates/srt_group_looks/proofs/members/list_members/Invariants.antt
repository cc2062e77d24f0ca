-- `list_members` meets its contract. The loop's invariant: the rows of the members passed are written, and nothing else.
use Rattle.std.proofs.Common.{◌≡◌}
use Rattle.srt_protocol.specs.Cells.{overwritten}
use Rattle.srt_group_looks.specs.Laws.Members.{rows_of}
use Rattle.srt_group_looks.proofs.members.list_members.Given as goal

abbrev pub invariant-loop-index : goal.invariant-loop-index
invariant-loop-index l = l.list ≡ overwritten 0 (rows_of l.index l.rows) l.initial.list
