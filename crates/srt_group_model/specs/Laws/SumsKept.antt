-- The accounts stay right over every call: each word is a sum of what packets weigh in it. And with unique ids the rule
-- `reserved_sum_wrong` of validity says that they are right.
use Rattle.std.specs.Prelude.{◌≡◌, refl, Bool, true, false, not, ◌&&◌, List, ℕ, ◌+◌}
use Rattle.std.proofs.Common.{sym, ap, ◌∙◌, arith, eqb-true, eq-eqb}
use Rattle.std.proofs.lemmas.Bool.{not-false}
use Rattle.srt_group_model.specs.Tools.{any}
use Rattle.srt_group_model.specs.Laws.Reason.{by_test, or_left, or_right, or_cases, or_yes_left, or_yes_right, all_map, none_of, of_none, no_either}
use Rattle.srt_group_model.specs.State.{Member, State}
use Rattle.srt_group_model.specs.Accounts.{account_of, unlike}
use Rattle.srt_group_model.specs.Members.{id_of, has_id}
use Rattle.srt_group_model.specs.Removal.{is_owned}
use Rattle.srt_group_model.specs.Validity.{one_twice, ascends, is_held_for, member_sum_wrong, is_unreserved, reserved_sum_wrong}
use Rattle.srt_group_model.specs.Lent.{Lent, Call, perform}
use Rattle.srt_group_model.specs.Sound.{ids, Summed, Placed, SumsRight}
use Rattle.srt_group_model.specs.Laws.Unique.{among_any}
use Rattle.srt_group_model.specs.Laws.Steps.{StateLaw, law_as}
use Rattle.srt_group_model.specs.declared.Packet.{Packet}
use Rattle.srt_group_model.specs.Laws.AccountLaw.{AccountRule, AccountLaw, Accounted, account_kept, account_steps}
use Rattle.srt_group_model.specs.Laws.Accounts.{alike, not_unlike}
use Rattle.srt_group_model.specs.declared.Account.{Account}

-- ---- the words of an account, each by its rule

-- the reserved sums: a packet weighs its count, the word is what is held, a leg's reservation what is held and queued
record Reserved (queued held : ℕ) (account : Account) (leg : ℕ) : Type 0 where
  reserved : account.reserved ≡ held
  reservation : leg ≡ held + queued

reserved_sums : AccountRule
reserved_sums = record { weight = λ d. d.count; member = Reserved; group = λ held account. account.reserved ≡ held }

reserved_law : AccountLaw reserved_sums
unfolding reserved_sums
reserved_law =
    record {
      joins = record { reserved = refl; reservation = refl };
      queues = λ q h a r d k. record { reserved = k.reserved; reservation = omega (arith, k.reservation) };
      discards = λ q h a r d k. record { reserved = k.reserved; reservation = omega (arith, k.reservation) };
      retains = λ q h a r d k. record { reserved = omega (arith, k.reserved); reservation = omega (arith, k.reservation) };
      releases = λ q h a r d k. record { reserved = omega (arith, k.reserved); reservation = omega (arith, k.reservation) };
      own_releases = λ h a d k. omega (arith, k);
      takes_over = λ q h a r own b row k. omega (arith, k, row.reserved);
    }

-- every word by its rule
Words : State → Type 0
Words s = Accounted reserved_sums s.receive.pending s.members s.own

words_law : StateLaw Words
unfolding Words
words_law = account_steps reserved_sums reserved_law

words_kept : (c : Call) (lent : Lent) (s : State) → Words s → Words (perform c lent s).state
unfolding Words
words_kept = account_kept reserved_sums reserved_law

-- ---- the accounts

pub record Right (s : State) : Type 0 where
  pub accounts : SumsRight s
  pub ascending : ascends s.receive.pending ≡ true

words_of : (s : State) → Right s → Words s
unfolding Words reserved_sums
words_of s h =
    let k = h.accounts in
    record {
      accounts =
          record {
            unique = k.unique;
            members = all_map _ _ (λ m x. record { reserved = ap (λ (a : Account). a.reserved) x.account; reservation = x.reservation }) s.members k.members;
            placed = k.placed;
            own = ap (λ (a : Account). a.reserved) k.own;
          };
      ascending = h.ascending;
    }

of_words : (s : State) → Words s → Right s
unfolding Words reserved_sums
of_words s h =
    let k = h.accounts in
    record {
      accounts =
          record {
            unique = k.unique;
            members = all_map _ _ (λ m x. record { account = λ i. record { reserved = x.reserved i }; reservation = x.reservation }) s.members k.members;
            placed = k.placed;
            own = λ i. record { reserved = k.own i };
          };
      ascending = h.ascending;
    }

pub right_law : StateLaw Right
right_law = law_as Words Right words_of of_words words_law

-- The accounts are those of their packets, and stay so over every call.
pub sums_kept : (c : Call) (lent : Lent) (s : State) → Right s → Right (perform c lent s).state
sums_kept c lent s h = of_words _ (words_kept c lent s (words_of s h))

-- ---- the rule and the statement

summed_of_rule : (ps : List Packet) (m : Member) → member_sum_wrong ps m ≡ false → Summed ps m
unfolding member_sum_wrong
summed_of_rule ps m h =
    let other = unlike m.membership.account (account_of (is_held_for (id_of m)) ps) in
    record { account = alike _ _ (or_left other _ h); reservation = eqb-true _ _ (not-false _ (or_right other _ h)) }

rule_of_summed : (ps : List Packet) (m : Member) → Summed ps m → member_sum_wrong ps m ≡ false
unfolding member_sum_wrong
rule_of_summed ps m h = no_either _ _ (not_unlike _ _ h.account) (ap not (eq-eqb _ _ h.reservation))

placed_of_rule : (ms : List Member) (p : Packet) → is_unreserved ms p ≡ false → Placed (ids ms) p
unfolding is_unreserved
placed_of_rule ms p h =
    by_test (is_owned p) (λ o. or_yes_left (is_owned p) _ o)
    (λ o.
    or_yes_right (is_owned p) _
    (among_any p.member ms ∙ not-false _ (ap (λ (b : Bool). not b && not (any (has_id p.member) ms)) (sym o) ∙ h)))

rule_of_placed : (ms : List Member) (p : Packet) → Placed (ids ms) p → is_unreserved ms p ≡ false
unfolding is_unreserved
rule_of_placed ms p h =
    or_cases (is_owned p) _ h (λ o. ap (λ (b : Bool). not b && not (any (has_id p.member) ms)) o)
    (λ o. ap (λ (b : Bool). not (is_owned p) && not b) (sym (among_any p.member ms) ∙ o) ∙ and_false (not (is_owned p)))
  where
    and_false : (b : Bool) → b && false ≡ false
    and_false true = refl
    and_false false = refl

pub sums_of_rule : (s : State) → one_twice (ids s.members) ≡ false → reserved_sum_wrong s ≡ false → SumsRight s
unfolding reserved_sum_wrong
sums_of_rule s u h =
    let ps = s.receive.pending in
    let a = any (member_sum_wrong ps) s.members in
    let b = any (is_unreserved s.members) ps in
    record {
      unique = u;
      members = all_map _ _ (summed_of_rule ps) s.members (none_of (member_sum_wrong ps) s.members (or_left a _ h));
      placed = all_map _ _ (placed_of_rule s.members) ps (none_of (is_unreserved s.members) ps (or_left b _ (or_right a _ h)));
      own = alike _ _ (or_right b _ (or_right a _ h));
    }

pub rule_of_sums : (s : State) → SumsRight s → reserved_sum_wrong s ≡ false
unfolding reserved_sum_wrong
rule_of_sums s h =
    let ps = s.receive.pending in
    no_either _ _
    (of_none (member_sum_wrong ps) s.members (all_map _ _ (rule_of_summed ps) s.members h.members))
    (no_either _ _
    (of_none (is_unreserved s.members) ps (all_map _ _ (rule_of_placed s.members) ps h.placed))
    (not_unlike _ _ h.own))
