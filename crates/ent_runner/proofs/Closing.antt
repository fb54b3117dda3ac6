-- What all claimers together have claimed.
use Rattle.ent_runner.proofs.Lists.{each_of_all, get_mapped}
use Rattle.ent_runner.proofs.Common.{flat_map, IsPermutation, common_steps, rules, ◌≡◌, ℕ, zero}
use Rattle.ent_runner.proofs.Common.{suc, ◌<◌, ◌≤◌, List, [], ◌∷◌, length, map, refl, ap, arith}
use Rattle.ent_runner.proofs.Common.{inl, inr, none-some, cases_lt, true, slice_get, sum_by, All}
use Rattle.ent_runner.proofs.Common.{range_with_len, All-head, length-map, fold-map}
use Rattle.ent_runner.proofs.Common.{sum_by-flat_map, ClaimRecord, IsClaimKept, AreClaimsClosed}
use Rattle.ent_runner.proofs.Common.{Claimer, IsClaimedBy, AreFirst, Some}
use Rattle.ent_runner.specs.Crew.Claims.{HaveEnded}
use Rattle.ent_runner.proofs.Counting.{is, inside, in_range, weigh_same}

abbrev pub records_of : List Claimer → List ClaimRecord
records_of claimers = map (λ (c : Claimer). c.own) claimers

-- their claims, each of them weighed
abbrev weight : (ℕ → ℕ) → List Claimer → ℕ
weight f claimers = sum_by (λ (c : Claimer). sum_by f c.own.claims) claimers

weight-flat_map : (f : ℕ → ℕ) (cs : List Claimer)
    → sum_by f (flat_map (λ (c : Claimer). c.own.claims) cs) ≡ weight f cs
weight-flat_map f cs = sum_by-flat_map (λ (c : Claimer). c.own.claims) f cs

-- one claimer of the number weighs 1 or more
held : (n : ℕ) (cs : List Claimer) (k : ℕ) → IsClaimedBy cs n k → 1 ≤ weight (is n) cs
held n [] k (c, at, has) = absurd (none-some c at)
held n (x ∷ cs) zero (c, at, has) = grind (arith, common_steps, is n)
held n (x ∷ cs) (suc k) (c, at, has) = grind (arith, common_steps, is n, held n cs k (c, at, has))

one_holder : (n : ℕ) (cs : List Claimer) → weight (is n) cs ≤ 1 → (j k : ℕ) → IsClaimedBy cs n j
    → IsClaimedBy cs n k → j ≡ k
one_holder n [] few j k (c, at, has) second = absurd (none-some c at)
one_holder n (x ∷ cs) few zero zero first second = refl
one_holder n (x ∷ cs) few zero (suc k) first second =
    grind (arith, common_steps, is n, held n (x ∷ cs) 0 first, held n cs k second)
one_holder n (x ∷ cs) few (suc j) zero first second =
    grind (arith, common_steps, is n, held n (x ∷ cs) 0 second, held n cs j first)
one_holder n (x ∷ cs) few (suc j) (suc k) first second =
    ap suc (one_holder n cs (grind (arith, common_steps, is n)) j k first second)

holder : (n : ℕ) (cs : List Claimer) → 1 ≤ weight (is n) cs → (k : ℕ) × IsClaimedBy cs n k
holder n [] some = absurd (omega arith)
holder n (x ∷ cs) some = elim (cases_lt 0 (sum_by (is n) x.own.claims)) [
  | inl here ↦ (0, (x, refl, inside n x.own.claims here))
  | inr none ↦ let rest = holder n cs (grind (arith, common_steps, is n, none)) in
      (suc rest.0, rest.1)
]

-- one that has ended found all numbers claimed
all_claimed : (numbers claimed : ℕ) (cs : List Claimer) → 0 < length cs
    → All (IsClaimKept numbers claimed) (records_of cs) → HaveEnded cs → claimed ≡ numbers
all_claimed numbers claimed [] some each ended = absurd (omega arith)
all_claimed numbers claimed (c ∷ cs) some each ended = search (rules, All-head, claimed, c.own)

one_ended : (numbers claimed : ℕ) (cs : List Claimer)
    → All (IsClaimKept numbers claimed) (records_of cs) → (k : ℕ) (c : Claimer)
    → slice_get cs k ≡ Some c → c.own.ended ≡ true → claimed ≡ numbers
one_ended numbers claimed cs each k c at ended =
    search (
      rules,
      each_of_all (IsClaimKept numbers claimed) (records_of cs) k c.own each,
      get_mapped (λ (c : Claimer). c.own) cs k c,
    )

module _ (numbers workers : ℕ) (cs : List Claimer) (all : length cs ≡ workers)
    (closed : AreClaimsClosed numbers workers (records_of cs)) where
  weights : (f : ℕ → ℕ) → weight f cs ≡ sum_by f (range_with_len 0 closed.claimed)
  weights f = search (rules, fold-map, closed.all, length-map)

  pub first : AreFirst numbers cs
  first = search (rules, weigh_same, sum_by-flat_map, weights, one_ended)

  pub apart : (n j k : ℕ) → IsClaimedBy cs n j → IsClaimedBy cs n k → j ≡ k
  apart n j k = one_holder n cs (omega (arith, weights (is n), (in_range n 0 closed.claimed).0)) j k

  pub claimed : 0 < workers → HaveEnded cs → (n : ℕ) → n < numbers → (k : ℕ) × IsClaimedBy cs n k
  claimed some ended n below =
      search (
        rules,
        arith,
        all_claimed numbers closed.claimed cs,
        closed.each,
        holder n cs,
        weights (is n),
        in_range n 0 closed.claimed,
      )

  pub once : 0 < workers → HaveEnded cs
      → IsPermutation (flat_map (λ (c : Claimer). c.own.claims) cs) (range_with_len 0 numbers)
  once some ended =
      search (
        rules,
        all_claimed numbers closed.claimed cs,
        closed.each,
        weigh_same,
        weight-flat_map,
        weights,
      )
