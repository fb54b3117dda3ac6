-- The rule over the claim word and the records of all claimers, before and after each step.
use Rattle.std.specs.Prelude.{◌≡◌, ℕ, ◌+◌, ◌^◌, ◌<◌, ◌≤◌, List, [], ◌∷◌, All, AllPairs, length}
use Rattle.std.specs.Prelude.{true, false, cond, sum_by}
use Rattle.std.specs.List.{range_with_len}
use Rattle.atomic_table.specs.Table.{State, Me}
use Rattle.ent_runner.specs.declared.crew.record.ClaimRecord.{ClaimRecord}
use Rattle.ent_runner.specs.Crew.Record.{after_claim}

-- the claims of a holder's records, each of them weighed
abbrev pub weigh_claims : (ℕ → ℕ) → List ClaimRecord → ℕ
weigh_claims f records = sum_by (λ (r : ClaimRecord). sum_by f r.claims) records

-- how many of a holder's records have ended
abbrev pub ended_in : List ClaimRecord → ℕ
ended_in records = sum_by (λ (r : ClaimRecord). cond r.ended 1 0) records

-- Each claim of a record is below the number of claims, and above the one before it.
pub record IsClaimKept (numbers claimed : ℕ) (r : ClaimRecord) : Type 0 where
  pub numbers_is : r.numbers ≡ numbers
  pub below : All (λ n. n < claimed) r.claims
  pub rises : AllPairs (λ m n. m < n) r.claims
  -- it ends only after all numbers are claimed
  pub ends : r.ended ≡ true → claimed ≡ numbers

-- The claims of all records partition the numbers below the count of claims, and the word counts
-- those claims and the records that have ended.
pub record AreClaimsRuled (numbers workers : ℕ) (s : State (Unit {0}) (List ClaimRecord))
    : Type 0 where
  pub few_numbers : numbers ≤ 2 ^ 16
  pub few_workers : workers ≤ 64
  pub word : ℕ
  pub words : s.words ≡ word ∷ []
  pub claimed : ℕ
  pub within : claimed ≤ numbers
  pub counts : word ≡ claimed + sum_by ended_in s.views
  -- no worker has ended while a number was left
  pub none_early : claimed < numbers → sum_by ended_in s.views ≡ 0
  pub partition : (f : ℕ → ℕ) → sum_by (weigh_claims f) s.views
      ≡ sum_by f (range_with_len 0 claimed)
  pub records : sum_by length s.views ≡ workers
  pub each : All (All (IsClaimKept numbers claimed)) s.views

-- After a claim by the one claimer of a holder.
pub record AfterClaim (r : ClaimRecord) (found : ℕ) (others : List ClaimRecord) : Type 0 where
  pub above : All (λ n. n < found) r.claims
  pub after : others ≡ after_claim r found ∷ []

abbrev pub ClaimTells : Me (Unit {0}) (List ClaimRecord) → ℕ → Me (Unit {0}) (List ClaimRecord)
    → Type 0
ClaimTells before found after =
    (after.1 ≡ before.1)
    × ((r : ClaimRecord) → before.0 ≡ r ∷ [] → r.ended ≡ false → AfterClaim r found after.0)

-- What the rule says once all threads have stopped, and these records are known.
pub record AreClaimsClosed (numbers workers : ℕ) (records : List ClaimRecord) : Type 0 where
  pub claimed : ℕ
  pub within : claimed ≤ numbers
  pub each : All (IsClaimKept numbers claimed) records
  pub all : length records ≡ workers
      → (f : ℕ → ℕ) → weigh_claims f records ≡ sum_by f (range_with_len 0 claimed)
