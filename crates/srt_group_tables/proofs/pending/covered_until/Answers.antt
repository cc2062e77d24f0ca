-- `covered_until` meets its contract: the walk ends at the first packet that is not covered (`walked`).
use Rattle.std.proofs.Common.{◌≡◌, true, false, ℕ, rules, arith}
use Rattle.std.proofs.lemmas.Iterator.{first_from_Range}
use Rattle.srt_group_model.specs.Nearest.{is_covered}
use Rattle.srt_group_tables.specs.Packets.{packet_at}
use Rattle.srt_group_tables.specs.Laws.Covered.{walked}
use Rattle.srt_group_tables.proofs.pending.covered_until.Goals as goal

pub returns : goal.returns
returns c =
    let tested = λ (k : ℕ). is_covered c.args.first c.args.run (packet_at c.args.pending.now k) in
    rw c.unwrap_or.ensures
    (walked c.args.first c.args.run c.args.pending.now c.args.from c.args.end (omega arith) c.find.result
    (first_from_Range _ _ _ _ (λ k. tested k ≡ false) (λ k. tested k ≡ true) c.find.ensures.ran (λ k q h. search rules) (λ k q h. search rules)))
