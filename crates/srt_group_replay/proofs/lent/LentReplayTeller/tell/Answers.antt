-- `tell` over lent tables leaves a state that stands: written out so that a group forgotten or tables exchanged are refused by what differs,
-- not by a search that ends.
use Rattle.srt_group_replay.proofs.lent.LentReplayTeller.tell.Goals as goal

pub invariant_of-self-clause-stands : goal.invariant_of-self-clause-stands
invariant_of-self-clause-stands c = c.tell-told.ensures.stands
