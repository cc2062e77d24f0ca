-- `id_twice` meets its contract. The loop's invariant: the ids before `index` are distinct, and the place of each is taken.
use Rattle.std.proofs.Common.{◌∙◌, ap, ◌%◌, arith}
use Prim.Native.Nat.{ℕ}
use Rattle.srt_group_rules.specs.Ids.{places}
use Rattle.srt_group_rules.specs.Laws.Ids.{asked, apart_one, twice_in, taken_on}
use Rattle.srt_group_rules.proofs.ids.id_twice.Goals as goal

pub returns-then-is_repeated : goal.returns-then-is_repeated
returns-then-is_repeated c =
    let t = c.args.rows.now in
    let tested = asked t c.loop-index.index _ _ (omega arith) c.member_id-id.ensures c.is_repeated.ensures in
    twice_in t c.loop-index.index _ tested (omega arith) c.if-is_repeated.true

pub loop-index-preserved : goal.loop-index-preserved
loop-index-preserved c =
    let t = c.args.rows.now in
    let tested = asked t c.loop-index.index _ _ (omega arith) c.member_id-id.ensures c.is_repeated.ensures in (
      apart_one t c.loop-index.index _ tested c.if-is_repeated.false c.loop-index.invariant.0,
      taken_on t c.loop-index.index c.loop-index.table c.loop-index.invariant.1 _ (c.place_of.ensures.0 ∙ ap (λ (k : ℕ). k % places) c.member_id-id.ensures) (omega arith),
    )
