-- `step_each`: what the forms rest on holds before each step.
use Rattle.std.proofs.Common.{length}
use Rattle.srt_group_shown.specs.Tables.{tables}
use Rattle.srt_group_shown.specs.Ready.{Ready}
use Rattle.srt_group.specs.Made.{parts_of}
use Rattle.send_steps.proofs.steps.step_each.Given as goal

abbrev pub invariant-loop-word : goal.invariant-loop-word
invariant-loop-word l =
    Ready (parts_of l.group) (tables l.members l.pending l.waiting l.history l.sources) (length l.store) l.used
