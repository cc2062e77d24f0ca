-- `answer_last_line` meets its contract: where no byte of a line came, the text is empty.
use Rattle.replay_blocks.specs.Laws.Blocks.{none_answered}
use Rattle.replay_blocks.proofs.blocks.answer_last_line.Goals as goal

pub returns-in-None-clause-answered : goal.returns-in-None-clause-answered
returns-in-None-clause-answered g c = none_answered (g.T.Teller.shown c.args.replay.now) c.args.text.now c.in-None.ensures
