-- `listing::writing::digit_count` meets its contract: a number from 10^k to below 10^(k + 1) has k + 1 digits.
use Rattle.std.proofs.Common.{rules}
use Rattle.listing.proofs.TextLaws.{digits_by_log}
use Rattle.listing.proofs.writing.digit_count.Goals as goal

pub returns : goal.returns
returns c =
    let log = c.checked_ilog10.ensures in
    digits_by_log c.args.number _ c.checked_ilog10.result log.none log.power_le log.next_power_gt c.map_or.ensures (λ k more. search rules)
