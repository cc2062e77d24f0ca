-- What is proved of the definitions in specs/Blocks.antt, with what the proofs need.
use Rattle.std.specs.Prelude.{◌≡◌, List, [], map, ℕ, Option, None}
use Rattle.std.proofs.Common.{ap, ◌∙◌, arith}
use Rattle.listing.specs.Line.{line_numbers}
use Rattle.listing.specs.Stream.{lines, joined}
use Rattle.listing_lines.specs.Text.{texts}
use Rattle.listing_lines.specs.Taken.{LastLineTaken}
use Rattle.listing_lines.specs.Answers.{answers_from, written_for_blocks}
use Rattle.listing_lines.specs.Laws.Answers.{written_is_answers}
use Rattle.srt_group_model.specs.State.{State}
use Rattle.srt_group_model.specs.Listing.{replay}
use Rattle.replay_rows.specs.Rows.{after_line, print_of}
use Rattle.replay_rows.specs.Laws.Rows.{prints_are_replay}
use Rattle.replay_blocks.specs.Blocks.{replayed, LastAnswered}

-- However a listing is cut into blocks: what is written block by block, the group and the open line carried on, is what the whole prints.
pub blocks_replayed : (blocks : List (List ℕ)) → written_for_blocks after_line print_of None [] blocks ≡ replayed (joined blocks)
unfolding replayed replay
blocks_replayed blocks =
    written_is_answers after_line print_of None blocks
    ∙ ap texts (prints_are_replay None (map (line_numbers 8 11) (lines (joined blocks))))

-- ---- the code

-- where no line is left nothing is answered
pub none_answered : {buffer : List ℕ} {size : ℕ} (s : Option State) (out : List ℕ) → LastLineTaken buffer size None → LastAnswered buffer size s out 0
unfolding texts answers_from
none_answered s out takes = record { inside = omega arith; text = λ line h. rw (takes line h) }
