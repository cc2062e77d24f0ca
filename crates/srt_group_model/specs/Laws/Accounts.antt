-- An account, word by word: when two are the same, how one of packets grows by a packet, and that it stays below 2^64. Laws and proofs
-- elsewhere cite these, and name no word.
use Rattle.std.specs.Prelude.{◌≡◌, Bool, true, false, not, List, [], ◌∷◌, ◌++◌, ℕ, ◌+◌, ◌-◌, ◌*◌, ◌≤◌, length}
use Rattle.std.proofs.Common.{ap, ◌∙◌, arith, eqb-true, eq-eqb}
use Rattle.std.proofs.lemmas.Bool.{not-false}
use Rattle.srt_group_model.specs.Tools.{counted, total, All}
use Rattle.srt_group_model.specs.Accounts.{reserve, release, add_account, account_of, unlike, Fits}
use Rattle.srt_group_model.specs.Legs.{largest_16}
use Rattle.srt_group_model.specs.Removal.{is_owned}
use Rattle.srt_group_model.specs.Validity.{max_pending, is_held_for}
use Rattle.srt_group_model.specs.Laws.Weights.{counted_yes, counted_no, counted_most, counted_once, total_append}
use Rattle.srt_group_model.specs.declared.Account.{Account}
use Rattle.srt_group_model.specs.declared.Packet.{Packet}

-- ---- the same account

pub alike : (a b : Account) → unlike a b ≡ false → a ≡ b
alike a b h = λ i. record { reserved = eqb-true a.reserved b.reserved (not-false _ h) i }

pub not_unlike : (a b : Account) → a ≡ b → unlike a b ≡ false
not_unlike a b h = ap not (eq-eqb a.reserved b.reserved (ap (λ (x : Account). x.reserved) h))

-- ---- a packet held and released

pub reserve_release : (count : ℕ) (a : Account) → release count (reserve count a) ≡ a
reserve_release count a = λ i. record { reserved = same i }
  where
    same : a.reserved + count - count ≡ a.reserved
    same = omega arith

-- ---- a packet more

module _ (test : Packet → Bool) (ps : List Packet) (p : Packet) where
  more : (f : Packet → ℕ) → total (counted test f) (ps ++ (p ∷ [])) ≡ total (counted test f) ps + counted test f p
  unfolding total
  more f = omega (arith, total_append (counted test f) ps (p ∷ []))

  word_yes : (f : Packet → ℕ) → test p ≡ true → total (counted test f) (ps ++ (p ∷ [])) ≡ total (counted test f) ps + f p
  word_yes f e = more f ∙ ap (λ (n : ℕ). total (counted test f) ps + n) (counted_yes test f p e)

  word_no : (f : Packet → ℕ) → test p ≡ false → total (counted test f) (ps ++ (p ∷ [])) ≡ total (counted test f) ps
  word_no f e = omega (arith, more f, counted_no test f p e)

  pub account_yes : test p ≡ true → account_of test (ps ++ (p ∷ [])) ≡ reserve p.content.count (account_of test ps)
  account_yes e = λ i. record { reserved = word_yes (λ q. q.content.count) e i }

  pub account_no : test p ≡ false → account_of test (ps ++ (p ∷ [])) ≡ account_of test ps
  account_no e = λ i. record { reserved = word_no (λ q. q.content.count) e i }

-- ---- its words are small

abbrev pub Small : Packet → Type 0
Small p = p.content.count ≤ largest_16

-- of at most n packets
pub record Few (n : ℕ) (a : Account) : Type 0 where
  pub reserved : a.reserved ≤ largest_16 * n

pub few_account : (test : Packet → Bool) (ps : List Packet) → All Small ps → Few (length ps) (account_of test ps)
unfolding total
few_account test [] h = record { reserved = omega arith }
few_account test (p ∷ ps) h =
    let rest = few_account test ps h.1 in
    record { reserved = omega (arith, rest.reserved, counted_most largest_16 test (λ q. q.content.count) p (λ e. h.0)) }

-- a packet is in the group's account or in a member's, not in both
pub few_together : (id : ℕ) (ps : List Packet) → All Small ps → Few (length ps) (add_account (account_of (is_held_for id) ps) (account_of is_owned ps))
unfolding total
few_together id [] h = record { reserved = omega arith }
few_together id (p ∷ ps) h =
    let rest = few_together id ps h.1 in
    record { reserved = omega (arith, rest.reserved, counted_once (λ d. d.count) id p, h.0) }

pub few_fits : {n : ℕ} {a : Account} → n ≤ max_pending → Few n a → Fits a
few_fits most few = record { reserved = omega (arith, most, few.reserved) }

pub few_room : {n count : ℕ} {a : Account} → n ≤ max_pending → count ≤ largest_16 → Few n a → Fits (reserve count a)
few_room most small few = record { reserved = omega (arith, most, small, few.reserved) }
