-- `tell` meets its contract where no group was made, or no verb has the number.
use Rattle.std.proofs.Common.{◌≡◌, arith, rules}
use Rattle.srt_group_model.specs.Listing.{column}
use Rattle.srt_group_replay.specs.Verb.{call_number}
use Rattle.srt_group_replay.specs.Laws.Lines.{calls_numbers, over_no_verb, over_no_group}
use Rattle.srt_group_replay.proofs.telling.tell.Goals as goal

pub returns-in-Err : goal.returns-in-Err
returns-in-Err c = over_no_verb c.args.line.now c.requires.stands (rw c.in-Err.is at c.try_from.ensures) c.outcome_line-in-Err.ensures

pub returns-in-None : goal.returns-in-None
returns-in-None c =
    let numbers = calls_numbers c.in-Ok-Call.call in
    let asks : call_number c.in-Ok-Call.call ≡ column 0 c.args.line.now = search rules in
    over_no_group c.args.line.now c.requires.stands c.in-None.is (omega (arith, asks, numbers.0))
    (omega (arith, asks, numbers.1)) c.outcome_line.ensures
