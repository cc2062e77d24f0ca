-- `tell_made` meets its contract, for each verb.
use Rattle.std.proofs.Common.{ℕ, ◌≡◌, ap, sym, ◌∙◌}
use Rattle.srt_group_listing.specs.Laws.Verbs.{tells_2, tells_3, tells_4, tells_5, tells_6, tells_7, tells_8, tells_9}
use Rattle.srt_group_replay.specs.declared.verb.Call.{Call}
use Rattle.srt_group_replay.specs.Verb.{call_number}
use Rattle.srt_group_replay.proofs.telling.tell_made.Goals as goal

-- a line's call has its number
named : {call is : Call} {n : ℕ} → call_number call ≡ n → call ≡ is → n ≡ call_number is
named asks is = sym asks ∙ ap call_number is

pub returns-in-Add : goal.returns-in-Add
returns-in-Add c = tells_2 c.args.line.now c.requires.store_len (named c.requires.asks c.in-Add.is) c.add.ensures

pub returns-in-Reading : goal.returns-in-Reading
returns-in-Reading c = tells_3 c.args.line.now c.requires.store_len (named c.requires.asks c.in-Reading.is) c.read.ensures

pub returns-in-Data : goal.returns-in-Data
returns-in-Data c = tells_4 c.args.line.now c.requires.store_len (named c.requires.asks c.in-Data.is) c.queue.ensures

pub returns-in-Poll : goal.returns-in-Poll
returns-in-Poll c = tells_5 c.args.line.now c.requires.store_len (named c.requires.asks c.in-Poll.is) c.poll.ensures

pub returns-in-Send : goal.returns-in-Send
returns-in-Send c = tells_6 c.args.line.now c.requires.store_len (named c.requires.asks c.in-Send.is) c.send.ensures

pub returns-in-Remove : goal.returns-in-Remove
returns-in-Remove c = tells_7 c.args.line.now c.requires.store_len (named c.requires.asks c.in-Remove.is) c.remove.ensures

pub returns-in-MarkBroken : goal.returns-in-MarkBroken
returns-in-MarkBroken c = tells_8 c.args.line.now c.requires.store_len (named c.requires.asks c.in-MarkBroken.is) c.mark_broken.ensures

pub returns-in-Event : goal.returns-in-Event
returns-in-Event c = tells_9 c.args.line.now c.requires.store_len (named c.requires.asks c.in-Event.is) c.queue-in-Event.ensures
