-- The verbs' numbers (document 01, "The replay listing").
use Rattle.std.specs.Prelude.{◌≡◌, ℕ, ◌<◌, ◌⊎◌, Result, MatchResult}
use Rattle.srt_group_replay.specs.declared.verb.Verb.{Verb}
use Rattle.srt_group_replay.specs.declared.verb.Verb.TheVariants.{New, Call as ACall}
use Rattle.srt_group_replay.specs.declared.verb.Call.{Call}
use Rattle.srt_group_replay.specs.declared.verb.Call.TheVariants.{Add, Reading, Data, Poll, Send, Remove, MarkBroken, Event}
use Rattle.srt_group_replay.specs.declared.verb.UnknownVerb.{UnknownVerb}

-- of a call of the group that stands
abbrev pub call_number : Call → ℕ
call_number Add = 2
call_number Reading = 3
call_number Data = 4
call_number Poll = 5
call_number Send = 6
call_number Remove = 7
call_number MarkBroken = 8
call_number Event = 9

abbrev pub number_of : Verb → ℕ
number_of New = 1
number_of (ACall call) = call_number call

-- the verb that has this number, or none has it
abbrev pub Names : ℕ → Result Verb UnknownVerb → Type 0
Names number r = MatchResult r (λ verb. number_of verb ≡ number) (λ _. (number < 1) ⊎ (9 < number))
