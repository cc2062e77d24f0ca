-- What is proved of the definitions in specs/Made.antt, with what the proofs need.
use Rattle.std.specs.Prelude.{◌≡◌, List, ℕ}
use Rattle.std.proofs.Common.{sym, subst}
use Rattle.srt_group_shown.specs.Tables.{Tables}
use Rattle.srt_group_shown.specs.Ready.{Ready}
use Rattle.srt_group.specs.declared.Group.{Group}
use Rattle.srt_group.specs.Made.{parts_of}
use Rattle.cell_bench.specs.Made.{group_of}

pub made_ready : {g : Group} {members : ℕ} {t : Tables} {store : ℕ} {used : List ℕ} → g ≡ group_of members
    → Ready (parts_of (group_of members)) t store used → Ready (parts_of g) t store used
made_ready {g} {members} {t} {store} {used} is = subst (λ (x : Group). Ready (parts_of x) t store used) (sym is)
