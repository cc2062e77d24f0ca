-- `all_steady` meets its contract: the rows of the pieces and those behind them are all of them.
use Rattle.std.specs.Prelude.{◌≡◌, ◌/◌, length}
use Rattle.std.specs.List.{list_all}
use Rattle.std.proofs.Common.{rules}
use Rattle.std.proofs.lemmas.Iterator.{YieldsList-from_slice}
use Rattle.std.proofs.lemmas.Iterator.Search.{all_from_yields_List}
use Rattle.srt_connection_members.specs.Members.{members_in}
use Rattle.srt_group_model.specs.Tools.{all}
use Rattle.srt_group_members.specs.Quiet.{is_steady}
use Rattle.srt_group_members.specs.Laws.Quiet.{steady_behind, one_piece_moves}
use Rattle.srt_group_members.proofs.quiet.all_steady.Goals as goal

pub returns-then-all : goal.returns-then-all
returns-then-all c =
    steady_behind 8 (length c.args.rows.now / 8) c.args.rows.now c.as_chunks.ensures.front c.as_chunks.ensures.back
    (all_from_yields_List (λ piece. all is_steady (members_in piece)) _ _ _ c.all.ensures.ran (YieldsList-from_slice c.as_chunks.result.0.now cc)
    (λ x b q h. search rules)) c.if-all.true c.steady_throughout.ensures

pub returns-else-all : goal.returns-else-all
returns-else-all c =
    one_piece_moves 8 (length c.args.rows.now / 8) c.args.rows.now c.as_chunks.ensures.front c.as_chunks.ensures.back
    (all_from_yields_List (λ piece. all is_steady (members_in piece)) _ _ _ c.all.ensures.ran (YieldsList-from_slice c.as_chunks.result.0.now cc)
    (λ x b q h. search rules)) c.if-all.false
